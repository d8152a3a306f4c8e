use Rattle.std.proofs.Common.{◌≡◌, List, ◌∙◌, subst}
use Rattle.track_word.specs.declared.tracks.Var.{Var}
use Rattle.lin_formula.specs.SetOf.{SetOf}
use Rattle.rule_formula.specs.Mean.{mask_tracks}
use Rattle.set_plan.specs.Outcome.{Answers}
use Rattle.set_plan.specs.Sets.{left_of, lent}
use Rattle.set_plan.specs.Unite.{difference_set}
use Rattle.mate_plan.proofs.lending.left_without.Goals as goal

pub returns-clause-answers : goal.returns-clause-answers
returns-clause-answers c =
    let tracks : c.deref.result.now ≡ mask_tracks c.args.bench.now.position.now c.args.whole.part.mask = c.deref.ensures.value ∙ c.in_ok-tracks.ensures in
    let Over : List Var → Type 0 = λ t. Answers (difference_set t c.args.whole.part (lent c.lent.result) (lent c.args.other)) c.args.budget (left_of (lent c.lent.result)) c.difference_set.result in
    let Of : SetOf → Type 0 =
    λ s. Answers (difference_set (mask_tracks c.args.bench.now.position.now c.args.whole.part.mask) c.args.whole.part s (lent c.args.other))
    c.args.budget (left_of s) c.difference_set.result in
    subst Of c.lent.ensures.set (subst Over tracks c.difference_set.ensures.answers)
