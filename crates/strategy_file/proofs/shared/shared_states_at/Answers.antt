use Rattle.std.proofs.Common.{◌+◌, ◌<◌, ◌==◌, ◌∙◌, sym, ap, arith}
use Rattle.std.proofs.lemmas.List.{length_push}
use Rattle.std.proofs.lemmas.List.Elements.{All-push}
use Rattle.std.proofs.lemmas.Result.{err_from_is_err_and}
use Rattle.std.specs.List.{zip}
use Rattle.strategy_file.specs.Layout.{repeated}
use Rattle.strategy_file.specs.Reading.{taken}
use Rattle.strategy_file.specs.Rests.{left_of}
use Rattle.strategy_file.specs.SharedTables.{shared_state_layout}
use Rattle.strategy_file.proofs.Takings.{goes_on, fails_in}
use Rattle.strategy_file.proofs.NodeReads.{zip-push, shared_flag_fails, shared_row_fails, shared_state_read}
use Rattle.strategy_file.proofs.shared.shared_states_at.Goals as goal

pub returns-in_err-flag-clause-states : goal.returns-in_err-flag-clause-states
returns-in_err-flag-clause-states c =
    let p = err_from_is_err_and c.from_residual-in_err-flag.result c.from_residual-in_err-flag.ensures.1 in
    let e = c.in_err-flag.field-0.0 in
    rw (p.1, p.2)
    (fails_in e (shared_state_layout c.args.references) (zip c.loop.accept.items c.loop.rows.items) c.args.states
    c.loop.counter c.loop.left.at c.loop.left.bytes.now
    (taken (repeated c.args.states (shared_state_layout c.args.references)) c.args.rest.at c.args.rest.bytes.now) c.loop-test.true
    (shared_flag_fails c.args.references c.loop.left.at c.loop.left.bytes.now e c.in_err-flag.ensures.field) c.loop.invariant.so_far)

pub returns-in_err-row-clause-states : goal.returns-in_err-row-clause-states
returns-in_err-row-clause-states c =
    let p = err_from_is_err_and c.from_residual-in_err-row.result c.from_residual-in_err-row.ensures.1 in
    let e = c.in_err-row.field-0.0 in
    rw (p.1, p.2)
    (fails_in e (shared_state_layout c.args.references) (zip c.loop.accept.items c.loop.rows.items) c.args.states
    c.loop.counter c.loop.left.at c.loop.left.bytes.now
    (taken (repeated c.args.states (shared_state_layout c.args.references)) c.args.rest.at c.args.rest.bytes.now) c.loop-test.true
    (shared_row_fails c.args.references c.loop.left.at c.loop.left.bytes.now c.in_ok-flag.flag (left_of c.in_ok-flag.after) c.in_ok-flag.ensures.field e c.in_err-row.ensures.field)
    c.loop.invariant.so_far)

pub loop-preserved : goal.loop-preserved
loop-preserved c =
    let most = c.in_ok-row.ensures.most in
    let some = c.requires.some in
    record {
      flags = rw c.in_ok-push.ensures.items (length_push c.loop.accept.items (c.in_ok-flag.flag == 1) ∙ ap (λ n. n + 1) c.loop.invariant.flags);
      rows = rw c.in_ok-push-2.ensures.items (length_push c.loop.rows.items c.in_ok-row.row ∙ ap (λ n. n + 1) c.loop.invariant.rows);
      within = rw c.in_ok-push-2.ensures.items (All-push (λ row. row < c.args.references) c.loop.rows.items c.in_ok-row.row c.loop.invariant.within (omega (arith, most, some)));
      so_far =
          rw (c.in_ok-push.ensures.items, c.in_ok-push-2.ensures.items, zip-push c.loop.accept.items c.loop.rows.items (c.in_ok-flag.flag == 1) c.in_ok-row.row (c.loop.invariant.flags ∙ sym c.loop.invariant.rows))
          (goes_on (shared_state_layout c.args.references) (zip c.loop.accept.items c.loop.rows.items) c.args.states
          c.loop.counter c.loop.left.at c.loop.left.bytes.now
          (c.in_ok-flag.flag == 1, c.in_ok-row.row) (left_of c.in_ok-row.after)
          (taken (repeated c.args.states (shared_state_layout c.args.references)) c.args.rest.at c.args.rest.bytes.now) c.loop-test.true
          (shared_state_read c.args.references c.loop.left.at c.loop.left.bytes.now c.in_ok-flag.flag (left_of c.in_ok-flag.after) c.in_ok-row.row (left_of c.in_ok-row.after)
          c.in_ok-flag.ensures.field c.in_ok-row.ensures.field)
          c.loop.invariant.so_far);
    }
