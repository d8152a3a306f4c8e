-- A union of the formulas over the sets of names is the union of the plan.
use Rattle.std.proofs.Common.{◌≡◌, ℕ, ◌^◌, ◌<◌, ◌≤◌, List, length, map, Option, Result, sym, ap, subst, arith}
use Rattle.std.proofs.lemmas.List.{length-map}
use Rattle.std.specs.Prelude.{IfOk, IfSome}
use Rattle.std.specs.List.{All}
use Rattle.auto_core.specs.Automaton.{Automaton}
use Rattle.game_rules.specs.Game.{Position, Sound}
use Rattle.lin_formula.specs.Tree.{Tree}
use Rattle.lin_formula.specs.TreeOf.{tree_of}
use Rattle.lin_formula.specs.SetOf.{as_set}
use Rattle.lin_formula.specs.declared.formula.Formula.{Formula}
use Rattle.rule_formula.specs.Mean.{IsGame, mask_tracks}
use Rattle.set_plan.specs.Outcome.{Answers}
use Rattle.set_plan.specs.Program.{Item}
use Rattle.set_plan.specs.Same.{Thinned}
use Rattle.set_plan.specs.Sets.{IsItemOn, IsSetOn, item_of}
use Rattle.set_plan.specs.Unite.{union}
use Rattle.set_plan.specs.declared.stop.PlanError.{PlanError}
use Rattle.mate_plan.specs.declared.bench.PlanContext.{PlanContext}
use Rattle.mate_plan.specs.declared.names.PartName.{PartName}
use Rattle.mate_plan.proofs.PartAnswers.{Answers-union}

pub game_of : {p : Position} → Sound p → length p.men ≤ 8 → IsGame p
game_of sound few = record { few = few; kings = sound.kings }

pub game_on : (bench : PlanContext) → IsGame bench.position.now
game_on bench = game_of bench.sound bench.few

module _ (p : Position) (sets : List Automaton) (part name : PartName) (same : part ≡ name) where
  pub items_on : (fs : List Formula) (trees : List Tree)
      → map tree_of fs ≡ trees → All (IsItemOn (mask_tracks p name.mask) sets) trees
      → All (IsItemOn (mask_tracks p part.mask) sets) (map tree_of fs)
  items_on fs trees are on =
      let Over : PartName → Type 0 = λ n. All (IsItemOn (mask_tracks p n.mask) sets) (map tree_of fs) in
      let Of : List Tree → Type 0 = λ ts. All (IsItemOn (mask_tracks p name.mask) sets) ts in
      subst Over (sym same) (subst Of (sym are) on)

  pub set_on : (r : Result (Option Automaton) (PlanError PartName))
      → IfOk r (λ set. IfSome set (IsSetOn (mask_tracks p part.mask)))
      → IfOk r (λ set. IfSome set (IsSetOn (mask_tracks p name.mask)))
  set_on r h =
      let Over : PartName → Type 0 = λ n. IfOk r (λ set. IfSome set (IsSetOn (mask_tracks p n.mask))) in
      subst Over same h

  pub union_answers : (fs : List Formula) (trees : List Tree) (items : List Item) (budget : ℕ) (r : Result (Option Automaton) (PlanError PartName))
      → map tree_of fs ≡ trees → Thinned (map (item_of sets) trees) items
      → Answers (union (mask_tracks p part.mask) part (map (item_of sets) (map tree_of fs))) budget as_set r
      → Answers (union (mask_tracks p name.mask) name items) budget as_set r
  union_answers fs trees items budget r are thin h =
      let Over : PartName → Type 0 = λ n. Answers (union (mask_tracks p n.mask) n (map (item_of sets) (map tree_of fs))) budget as_set r in
      let Of : List Tree → Type 0 = λ ts. Answers (union (mask_tracks p name.mask) name (map (item_of sets) ts)) budget as_set r in
      Answers-union name budget (mask_tracks p name.mask) (map (item_of sets) trees) items thin as_set r (subst Of are (subst Over same h))

pub few_formulas : (fs : List Formula) (trees : List Tree) → map tree_of fs ≡ trees → length trees < 2 ^ 20 → length fs < 2 ^ 20
few_formulas fs trees are few =
    let count = length-map fs tree_of in
    let all : length (map tree_of fs) ≡ length trees = ap (λ (l : List Tree). length l) are in
    omega (arith, count, all, few)
