-- What is left of a set without another, as a part of the plan.
use Rattle.std.proofs.Common.{◌≡◌, ℕ, List, Option, Result, option_copied, subst}
use Rattle.std.specs.Borrow.{Bor}
use Rattle.track_word.specs.declared.tracks.Var.{Var}
use Rattle.auto_core.specs.Automaton.{Automaton}
use Rattle.game_rules.specs.Game.{Position}
use Rattle.lin_formula.specs.SetOf.{SetOf, as_set}
use Rattle.rule_formula.specs.Mean.{mask_tracks}
use Rattle.set_plan.specs.Outcome.{Answers}
use Rattle.set_plan.specs.Sets.{lent}
use Rattle.set_plan.specs.Unite.{difference_set}
use Rattle.set_plan.specs.declared.stop.PlanError.{PlanError}
use Rattle.mate_plan.specs.Plan.{difference, name}
use Rattle.mate_plan.specs.PlanOf.{rules_of}
use Rattle.mate_plan.specs.declared.names.Part.{Part}
use Rattle.mate_plan.specs.declared.names.PartName.{PartName}
use Rattle.mate_plan.proofs.LostParts.{lent-copied}

module _ (p : Position) (ply mask : ℕ) (k : Part) (part : PartName) (is : part ≡ name ply mask k) where
  pub left_answers : (s t u w : SetOf) (now budget : ℕ) → s ≡ u → t ≡ w → now ≡ budget
      → {R : Type 0} (view : R → SetOf) (r : Result R (PlanError PartName)) → Answers (difference_set (mask_tracks p part.mask) part s t) now view r
      → Answers (difference (rules_of p) ply mask k u w) budget view r
  left_answers s t u w now budget one other kept view r h =
      let Named : PartName → Type 0 = λ n. Answers (difference_set (mask_tracks p n.mask) n s t) now view r in
      let One : SetOf → Type 0 = λ x. Answers (difference_set (mask_tracks p mask) (name ply mask k) x t) now view r in
      let Other : SetOf → Type 0 = λ x. Answers (difference_set (mask_tracks p mask) (name ply mask k) u x) now view r in
      let Within : ℕ → Type 0 = λ b. Answers (difference_set (mask_tracks p mask) (name ply mask k) u w) b view r in
      subst Within kept (subst Other other (subst One one (subst Named is h)))

-- without a set that is lent
pub lent_answers : (tracks : List Var) (part : PartName) (s : SetOf) (o : Option (Bor Automaton)) (set : Option Automaton) (now budget : ℕ) → option_copied o ≡ set → now ≡ budget
    → {R : Type 0} (view : R → SetOf) (r : Result R (PlanError PartName)) → Answers (difference_set tracks part s (lent o)) now view r
    → Answers (difference_set tracks part s (as_set set)) budget view r
lent_answers tracks part s o set now budget copied kept view r h =
    let Other : SetOf → Type 0 = λ x. Answers (difference_set tracks part s x) now view r in
    let Within : ℕ → Type 0 = λ b. Answers (difference_set tracks part s (as_set set)) b view r in
    subst Within kept (subst Other (lent-copied o set copied) h)
