-- Whether the sets of formulas over a table are empty is whether the items of the plan are.
use Rattle.std.proofs.Common.{◌≡◌, ℕ, Bool, List, All, map, Result, sym, subst}
use Rattle.auto_core.specs.Automaton.{Automaton}
use Rattle.lin_formula.specs.Tree.{Tree}
use Rattle.lin_formula.specs.TreeOf.{tree_of}
use Rattle.lin_formula.specs.declared.formula.Formula.{Formula}
use Rattle.track_word.specs.declared.tracks.Var.{Var}
use Rattle.set_plan.specs.Outcome.{Answers}
use Rattle.set_plan.specs.Program.{Item}
use Rattle.set_plan.specs.Same.{Thinned}
use Rattle.set_plan.specs.Sets.{IsItemOn, item_of}
use Rattle.set_plan.specs.Unite.{are_empty}
use Rattle.set_plan.specs.declared.stop.PlanError.{PlanError}
use Rattle.set_plan.proofs.Askings.{Answers-thinned_empty}
use Rattle.mate_plan.specs.declared.names.PartName.{PartName}

module _ (table sets : List Automaton) (is : table ≡ sets) (fs : List Formula) (trees : List Tree) (are : map tree_of fs ≡ trees) where
  pub empty_items : (tracks : List Var) → All (IsItemOn tracks sets) trees → (over : List Var) × All (IsItemOn over table) (map tree_of fs)
  empty_items tracks on =
      let Over : List Automaton → Type 0 = λ t. All (IsItemOn tracks t) (map tree_of fs) in
      let Of : List Tree → Type 0 = λ ts. All (IsItemOn tracks sets) ts in
      (tracks, subst Over (sym is) (subst Of (sym are) on))

  pub empty_answers : (part name : PartName) (items : List Item) (budget : ℕ) (r : Result Bool (PlanError PartName)) → part ≡ name
      → Thinned (map (item_of sets) trees) items → Answers (are_empty part 1 (map (item_of table) (map tree_of fs))) budget (λ (b : Bool). b) r
      → Answers (are_empty name 1 items) budget (λ (b : Bool). b) r
  empty_answers part name items budget r same thin h =
      let Named : PartName → Type 0 = λ n. Answers (are_empty n 1 (map (item_of table) (map tree_of fs))) budget (λ (b : Bool). b) r in
      let Over : List Automaton → Type 0 = λ t. Answers (are_empty name 1 (map (item_of t) (map tree_of fs))) budget (λ (b : Bool). b) r in
      let Of : List Tree → Type 0 = λ ts. Answers (are_empty name 1 (map (item_of sets) ts)) budget (λ (b : Bool). b) r in
      Answers-thinned_empty name budget (map (item_of sets) trees) items 1 thin r (subst Of are (subst Over is (subst Named same h)))
