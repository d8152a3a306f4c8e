use Rattle.std.proofs.Common.{◌≡◌, Err}
use Rattle.std.proofs.lemmas.Result.{err_from_is_err_and}
use Rattle.lin_formula.specs.SetOf.{Table}
use Rattle.auto_walk.specs.declared.grown.Grown.TheVariants as grown
use Rattle.set_plan.proofs.Reductions.{either-of_reduced, exceeds-of_reduced}
use Rattle.set_plan.proofs.pairs.either_of_reduced.Goals as goal

pub either-requires-clause-first : goal.either-requires-clause-first
either-requires-clause-first c = c.in_ok-left.ensures.set c.args.tracks.now c.requires.first

pub either-requires-clause-second : goal.either-requires-clause-second
either-requires-clause-second c = c.in_ok-right.ensures.set c.args.tracks.now c.requires.second

pub returns-in_err-c-clause-over : goal.returns-in_err-c-clause-over
returns-in_err-c-clause-over c = λ is.
    let p = err_from_is_err_and c.from_residual-in_err-c.result c.from_residual-in_err-c.ensures.1 in
    let was = c.in_err-c.was in
    let same : c.either.result ≡ Err grown.Over = cc (p.1, p.2) in
    (exceeds-of_reduced c.args.tracks.now c.args.a.now c.args.b.now c.in_ok-left.left c.in_ok-right.right c.in_ok-left.ensures c.in_ok-right.ensures c.args.budget).0
    (c.either.ensures.over same)

pub returns-clause-ok : goal.returns-clause-ok
returns-clause-ok c =
    either-of_reduced c.args.tracks.now c.args.a.now c.args.b.now c.in_ok-left.left c.in_ok-right.right c.in_ok-left.ensures c.in_ok-right.ensures (Table c.in_ok-c.c)
    c.in_ok-c.ensures.ok

pub returns-clause-within : goal.returns-clause-within
returns-clause-within c = λ over.
    c.in_ok-c.ensures.within
    ((exceeds-of_reduced c.args.tracks.now c.args.a.now c.args.b.now c.in_ok-left.left c.in_ok-right.right c.in_ok-left.ensures c.in_ok-right.ensures c.args.budget).1 over)
