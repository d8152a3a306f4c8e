use Rattle.std.proofs.Common.{◌≡◌, ◌+◌, ◌-◌, arith, inl, refl}
use Rattle.std.proofs.lemmas.Result.{on_ok_weaker, IfErr-weaker}
use Rattle.auto_numbers.specs.Numbers.{Has}
use Rattle.period_sets.specs.Finding.{IsRunsError}
use Rattle.period_sets.proofs.RunLemmas.{more-than-none, adds-run, error-behind}
use Rattle.period_sets.proofs.runs.+add_runs.Goals as goal

pub returns-then-room-eq0-clause-err : goal.returns-then-room-eq0-clause-err
returns-then-room-eq0-clause-err t c =
    let none = c.if-room-eq0.true in
    rw none (inl (refl, more-than-none (Has c.args.set.now.auto.now) c.args.from c.args.end c.in-Some.low c.in-Some.ensures))

pub returns-in_ok-put-in-Some-clause-ok : goal.returns-in_ok-put-in-Some-clause-ok
returns-in_ok-put-in-Some-clause-ok t c =
    let S = Has c.args.set.now.auto.now in
    let some = c.if-room-eq0.false in
    let stop = c.run_end-stop.result in
    let past = c.run_end-stop.ensures.some in
    let high : stop - 1 + 1 ≡ stop = omega (arith, past) in
    on_ok_weaker c.add_runs.result
    (λ adds. adds-run S c.args.from c.args.end c.args.room c.in-Some.low stop _ c.args.runs.now.items c.put.new.runs.items c.add_runs.new.runs.items
    (omega (arith, some)) refl high c.in-Some.ensures c.run_end-stop.ensures c.in_ok-put-in-Some.ensures adds)
    c.add_runs.ensures.ok

pub returns-in_ok-put-in-Some-clause-err : goal.returns-in_ok-put-in-Some-clause-err
returns-in_ok-put-in-Some-clause-err t c =
    let S = Has c.args.set.now.auto.now in
    let some = c.if-room-eq0.false in
    let stop = c.run_end-stop.result in
    let past = c.run_end-stop.ensures.some in
    let high : stop - 1 + 1 ≡ stop = omega (arith, past) in
    IfErr-weaker c.add_runs.result (IsRunsError S stop c.args.end (c.args.room - 1)) (IsRunsError S c.args.from c.args.end c.args.room)
    (λ why error. error-behind S c.args.from c.args.end c.args.room c.in-Some.low stop (record { low = c.in-Some.low; high = stop - 1 }) why
    (omega (arith, some)) refl high c.in-Some.ensures c.run_end-stop.ensures error)
    c.add_runs.ensures.err
