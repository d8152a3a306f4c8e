use Rattle.std.proofs.Common.{◌≡◌, Err}
use Rattle.std.proofs.lemmas.Result.{err_from_is_err_and}
use Rattle.auto_walk.specs.declared.grown.Grown.TheVariants as grown
use Rattle.auto_bool.specs.declared.connective.Connective.TheVariants as connective
use Rattle.set_plan.proofs.BothSets.{both-exceeds, both-is, both-set, few-tracks}
use Rattle.set_plan.proofs.pairs.except.Goals as goal

pub difference-requires-clause-tracks : goal.difference-requires-clause-tracks
difference-requires-clause-tracks c =
    few-tracks c.args.tracks.now c.args.a.now c.args.b.now c.requires.first.decides c.requires.second.decides c.tracks.ensures.valid.ascending
    c.tracks.ensures.valid.few_tracks

pub returns-in_err-c-clause-over : goal.returns-in_err-c-clause-over
returns-in_err-c-clause-over c = λ is.
    let p = err_from_is_err_and c.from_residual.result c.from_residual.ensures.1 in
    let was = c.in_err-c.was in
    let same : c.difference.result ≡ Err grown.Over = cc (p.1, p.2) in
    (both-exceeds c.args.tracks.now c.args.a.now c.args.b.now c.requires.first.decides c.requires.second.decides c.tracks.ensures.valid.ascending connective.AndNot c.args.budget).0
    (c.difference.ensures.over same)

pub returns-clause-ok : goal.returns-clause-ok
returns-clause-ok c =
    both-is c.args.tracks.now c.args.a.now c.args.b.now c.requires.first.decides c.requires.second.decides c.tracks.ensures.valid.ascending connective.AndNot c.in_ok-c.c
    c.in_ok-reduce.field-0 c.in_ok-c.ensures.tracks c.in_ok-c.ensures.words c.in_ok-reduce.ensures.tracks c.in_ok-reduce.ensures.words

pub returns-clause-set : goal.returns-clause-set
returns-clause-set c =
    both-set c.args.tracks.now c.args.a.now c.args.b.now c.requires.first.decides c.requires.second.decides c.tracks.ensures.valid.ascending connective.AndNot c.in_ok-c.c
    c.in_ok-reduce.field-0 c.in_ok-c.ensures.tracks c.in_ok-c.ensures.words c.in_ok-reduce.ensures.tracks c.in_ok-reduce.ensures.words
    c.in_ok-reduce.ensures.reduced c.args.budget (rw c.states.ensures.is at c.states.ensures.within).1 c.in_ok-c.ensures.within

pub returns-clause-within : goal.returns-clause-within
returns-clause-within c = λ over.
    c.in_ok-c.ensures.within
    ((both-exceeds c.args.tracks.now c.args.a.now c.args.b.now c.requires.first.decides c.requires.second.decides c.tracks.ensures.valid.ascending connective.AndNot c.args.budget).1
    over)
