use Rattle.std.proofs.Common.{List, sym, ◌∙◌, subst}
use Rattle.std.specs.Prelude.{IfOk, IfSome}
use Rattle.track_word.specs.declared.tracks.Var.{Var}
use Rattle.lin_formula.specs.SetOf.{as_set}
use Rattle.set_plan.specs.Outcome.{Answers}
use Rattle.set_plan.specs.Sets.{IsSetOn}
use Rattle.set_plan.specs.Unite.{union_of_two}
use Rattle.mate_plan.proofs.lending.joined.Goals as goal

pub union_of_two-requires-clause-first : goal.union_of_two-requires-clause-first
union_of_two-requires-clause-first c =
    let On : List Var → Type 0 = λ t. IfSome c.args.first (IsSetOn t) in
    subst On (sym (c.deref.ensures.value ∙ c.in_ok-tracks.ensures)) c.requires.first

pub union_of_two-requires-clause-second : goal.union_of_two-requires-clause-second
union_of_two-requires-clause-second c =
    let On : List Var → Type 0 = λ t. IfSome c.args.second (IsSetOn t) in
    subst On (sym (c.deref.ensures.value ∙ c.in_ok-tracks.ensures)) c.requires.second

pub returns-clause-answers : goal.returns-clause-answers
returns-clause-answers c =
    let Over : List Var → Type 0 = λ t. Answers (union_of_two t c.args.part (as_set c.args.first) (as_set c.args.second)) c.args.budget as_set c.union_of_two.result in
    subst Over (c.deref.ensures.value ∙ c.in_ok-tracks.ensures) c.union_of_two.ensures.answers

pub returns-clause-set : goal.returns-clause-set
returns-clause-set c =
    let On : List Var → Type 0 = λ t. IfOk c.union_of_two.result (λ set. IfSome set (IsSetOn t)) in
    subst On (c.deref.ensures.value ∙ c.in_ok-tracks.ensures) c.union_of_two.ensures.set
