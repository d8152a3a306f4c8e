-- The union of the sets of formulas over a table.
use Rattle.std.proofs.Common.{◌≡◌, ℕ, List, map, Result, sym, ◌∙◌, subst}
use Rattle.track_word.specs.declared.tracks.Var.{Var}
use Rattle.auto_core.specs.Automaton.{Automaton}
use Rattle.lin_formula.specs.TreeOf.{tree_of}
use Rattle.lin_formula.specs.declared.formula.Formula.{Formula}
use Rattle.set_plan.specs.Program.{Program, each}
use Rattle.set_plan.specs.Outcome.{Answers}
use Rattle.set_plan.specs.Sets.{item_of}
use Rattle.set_plan.specs.Unite.{Made, unite, with_item}
use Rattle.set_plan.specs.declared.stop.PlanError.{PlanError}
use Rattle.set_plan.proofs.Folds.{each-map}

module _ {P : Type 0} (tracks : List Var) (part : P) (sets : List Automaton) where
  -- what there is so far with the set of one more formula
  abbrev pub with_formula : Formula → Made → Program P Made
  with_formula f = with_item tracks part (item_of sets (tree_of f))

  module _ (fs : List Formula) (so_far : Made) (budget : ℕ) where
    same : unite tracks part so_far (map (item_of sets) (map tree_of fs)) ≡ each fs with_formula so_far
    same =
        each-map (item_of sets) (with_item tracks part) (map tree_of fs) so_far
        ∙ each-map tree_of (λ t. with_item tracks part (item_of sets t)) fs so_far

    pub united_answers : {R : Type 0} (view : R → Made) (r : Result R (PlanError P)) → Answers (each fs with_formula so_far) budget view r
        → Answers (unite tracks part so_far (map (item_of sets) (map tree_of fs))) budget view r
    united_answers view r h = subst (λ (m : Program P Made). Answers m budget view r) (sym same) h
