-- The set of a name made narrower by one bearing.
use Rattle.std.proofs.Common.{◌≡◌, ℕ, ◌<◌, List, [], ◌∷◌, length, Some, arith, slice_get, subst, sym}
use Rattle.auto_core.specs.Automaton.{Automaton}
use Rattle.game_rules.specs.Game.{Position}
use Rattle.lin_formula.specs.Tree.{Tree}
use Rattle.lin_formula.specs.SetOf.{SetOf, as_set, tables}
use Rattle.lin_formula.specs.declared.formula.SetId.{SetId}
use Rattle.rule_formula.specs.declared.opt.Bearing.{Bearing}
use Rattle.rule_formula.specs.Mean.{IsGame, mask_tracks}
use Rattle.rule_formula.specs.Meaning.{IsBearer}
use Rattle.rule_formula.specs.Trees.{safe_of}
use Rattle.set_plan.specs.Outcome.{Ends}
use Rattle.set_plan.specs.Program.{Give, Item, each}
use Rattle.set_plan.specs.Same.{SameItem}
use Rattle.set_plan.specs.Sets.{IsItemOn, IsReachedOn, IsReducedMade, item_of, made_of}
use Rattle.set_plan.specs.declared.made.Made.{Made}
use Rattle.set_plan.proofs.Composition.{Ends-bind, Ends-give}
use Rattle.set_plan.proofs.Renewals.{remade-reduced}
use Rattle.mate_plan.specs.Plan.{name, narrow, narrow_by, safe_item}
use Rattle.mate_plan.specs.PlanOf.{rules_of}
use Rattle.mate_plan.specs.declared.names.Part.TheVariants as kind
use Rattle.mate_plan.proofs.PartItems.{safe_on, safe_same}

module _ (p : Position) (game : IsGame p) (sets : List Automaton) (mask : ℕ) (b : Bearing) (w : IsBearer p.men mask b.man b.ray b.king) (id : SetId)
    (f : Tree) (is : f ≡ safe_of p.men mask b.man b.ray b.king id.0) (a : Automaton) (found : slice_get sets id.0 ≡ Some a)
    (on : IsReachedOn (mask_tracks p mask) a) where
  pub safe_item_on : IsItemOn (mask_tracks p mask) sets f
  safe_item_on =
      let On : Tree → Type 0 = λ t. IsItemOn (mask_tracks p mask) sets t in
      subst On (sym is) (safe_on p game sets b id w (a, found, on))

  pub safe_item_same : (s : SetOf) → s ≡ tables sets id.0 → SameItem (item_of sets f) (safe_item (rules_of p) mask s b)
  safe_item_same s e =
      let Same : Tree → Type 0 = λ t. SameItem (item_of sets t) (safe_item (rules_of p) mask s b) in
      subst Same (sym is) (safe_same p game sets mask s b id e)

-- where a set is made narrower by some bearings, the last one may be reduced
pub narrowed : (p : Position) (ply mask budget : ℕ) (s : SetOf) (bearings : List Bearing) → 0 < length bearings → (made other : Made) → IsReducedMade made other
    → Ends (each bearings (narrow_by (rules_of p) ply mask) (s, 1)) budget (made_of made) → Ends (narrow (rules_of p) ply mask bearings s) budget (as_set other.set)
narrowed p ply mask budget s [] some made other reduced h = absurd (omega (arith, some))
narrowed p ply mask budget s (b ∷ bearings) some made other reduced h =
    let item : Bearing → SetOf → Item = λ b s. safe_item (rules_of p) mask s b in
    let last = remade-reduced budget (name ply mask kind.Safe) item b bearings (s, 1) made other reduced h in
    Ends-bind (each (b ∷ bearings) (narrow_by (rules_of p) ply mask) (s, 1)) (λ made. Give made.0) budget (made_of other) (as_set other.set) last (Ends-give budget (as_set other.set))
