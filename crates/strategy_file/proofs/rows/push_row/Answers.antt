use Rattle.std.proofs.Common.{◌≡◌, Ok}
use Rattle.std.proofs.lemmas.Result.{err_from_is_err_and}
use Rattle.strategy_file.specs.Layout.{repeated}
use Rattle.strategy_file.specs.Rests.{left_of}
use Rattle.strategy_file.specs.Reading.{taken, with_front, Fails}
use Rattle.strategy_file.specs.Tables.{entry_layout, row_layout}
use Rattle.strategy_file.proofs.Takings.{goes_on, fails_in, is_done}
use Rattle.strategy_file.proofs.rows.push_row.Goals as goal

pub returns-in_err-entry : goal.returns-in_err-entry
unfolding row_layout
returns-in_err-entry c =
    let p = err_from_is_err_and c.from_residual.result c.from_residual.ensures.1 in
    let h : Fails c.in_err-entry.field-0.0 (with_front c.args.row.now.items (taken (repeated c.letters-width.result (entry_layout c.args.states)) c.args.rest.at c.args.rest.bytes.now)) =
    fails_in c.in_err-entry.field-0.0 (entry_layout c.args.states) c.loop.row.items c.letters-width.result c.loop.counter c.loop.left.at c.loop.left.bytes.now
    (with_front c.args.row.now.items (taken (repeated c.letters-width.result (entry_layout c.args.states)) c.args.rest.at c.args.rest.bytes.now))
    c.loop-test.true c.in_err-entry.ensures.field c.loop.invariant in
    rw (p.1, p.2) (rw c.letters-width.ensures at h)

pub loop-preserved : goal.loop-preserved
loop-preserved c =
    rw c.in_ok-push.ensures.items
    (goes_on (entry_layout c.args.states) c.loop.row.items c.letters-width.result c.loop.counter c.loop.left.at c.loop.left.bytes.now
    c.in_ok-entry.entry (left_of c.in_ok-entry.after)
    (with_front c.args.row.now.items (taken (repeated c.letters-width.result (entry_layout c.args.states)) c.args.rest.at c.args.rest.bytes.now))
    c.loop-test.true c.in_ok-entry.ensures.field c.loop.invariant)

pub returns : goal.returns
unfolding row_layout
returns c =
    let h : with_front c.args.row.now.items (taken (repeated c.letters-width.result (entry_layout c.args.states)) c.args.rest.at c.args.rest.bytes.now) ≡ Ok (c.loop.row.items, left_of c.loop.left) =
    is_done (entry_layout c.args.states) c.loop.row.items c.letters-width.result c.loop.counter c.loop.left.at c.loop.left.bytes.now
    (with_front c.args.row.now.items (taken (repeated c.letters-width.result (entry_layout c.args.states)) c.args.rest.at c.args.rest.bytes.now)) c.loop-test.false c.loop.invariant in
    rw c.letters-width.ensures at h
