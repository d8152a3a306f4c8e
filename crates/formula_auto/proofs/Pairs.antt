-- And of two sets, which a table of meets remembers. No memo has it, for it names sets.
use Rattle.std.proofs.Common.{◌≡◌, ℕ, ◌+◌, ◌≤◌, true, false, List, [], length, None, Some, refl, sym, ◌∙◌, subst, arith}
use Rattle.std.specs.List.{slice_get}
use Rattle.track_word.specs.declared.tracks.Var.{Var}
use Rattle.auto_core.specs.Automaton.{Automaton}
use Rattle.lin_formula.specs.Tree.{Tree, Among, And, steps}
use Rattle.lin_formula.specs.declared.formula.Formula.{Formula}
use Rattle.lin_formula.specs.SetOf.{SetOf, tables, members}
use Rattle.formula_auto.specs.Step.{FirstOver}
use Rattle.formula_auto.specs.MeetState.{MeetState, is_pair, IsPair, IsPairAt, MeetsGrow}
use Rattle.formula_auto.specs.MemoState.{MemoState, IsMemoAfter}
use Rattle.formula_auto.specs.Recalled.{is_recalled, recalled_parts}
use Rattle.formula_auto.specs.PartOf.{IsPart, IsRememberedPart}
use Rattle.formula_auto.specs.declared.standing.PartPosition.{PartPosition}
use Rattle.formula_auto.specs.declared.standing.Recall.{Recall}
use Rattle.formula_auto.specs.declared.standing.Recall.TheVariants.{Plain, Nothing}
use Rattle.formula_auto.specs.declared.part_auto.PartAuto.TheVariants.{Paired}
use Rattle.formula_auto.specs.declared.part_auto.Remembered.{Remembered}
use Rattle.formula_auto.proofs.FirstOvers.{FirstOver-from}
use Rattle.formula_auto.proofs.PlainLemmas.{after-none}
use Rattle.formula_auto.proofs.PartLemmas.{lent, lent-reached, lent-few}

-- a pair, by its sets
record AreSets (f : Tree) : Type 0 where
  pub first : ℕ
  pub second : ℕ
  pub first_vars : List Var
  pub second_vars : List Var
  pub is : f ≡ And (Among first first_vars) (Among second second_vars)

are_sets : (f : Tree) → is_pair f ≡ true → AreSets f
are_sets (And (Among s vs) (Among t us)) h = record { first = s; second = t; first_vars = vs; second_vars = us; is = refl }
are_sets _ h = absurd (cc)

recalled-sets : (r : Recall) (s t : ℕ) (vs us : List Var) → is_recalled r (And (Among s vs) (Among t us)) ≡ false
recalled-sets Plain s t vs us = refl
recalled-sets Nothing s t vs us = refl

parts-sets : (r : Recall) (s t : ℕ) (vs us : List Var) → recalled_parts r (And (Among s vs) (Among t us)) ≡ []
parts-sets Plain s t vs us = refl
parts-sets Nothing s t vs us = refl

module _ (f : Tree) (pair : is_pair f ≡ true) where
  are : AreSets f
  are = are_sets f pair

  pub pair_outside : (r : Recall) → is_recalled r f ≡ false
  pair_outside r = subst (λ g. is_recalled r g ≡ false) (sym are.is) (recalled-sets r are.first are.second are.first_vars are.second_vars)

  pair_parts : (r : Recall) → recalled_parts r f ≡ []
  pair_parts r = subst (λ g. recalled_parts r g ≡ []) (sym are.is) (parts-sets r are.first are.second are.first_vars are.second_vars)

  pub pair_size : length (steps f) ≡ 1
  pair_size = subst (λ g. length (steps g) ≡ 1) (sym are.is) refl

  module _ (standing : PartPosition) (m : MemoState) (l : MeetState) (same : l.budget ≡ m.budget) where
    -- what was remembered serves again
    pub part-paired : {place : ℕ} → IsPairAt l f place → IsRememberedPart f (tables l.sets) standing m m l (record { part = Paired place; done = standing.before + 1 })
    part-paired {place = place} at = record {
      auto = at.auto;
      has = (at.formula, at.there);
      reached = at.pair.accessible.reached;
      few = λ some. subst (λ b. length at.auto.accept ≤ b) same at.pair.accessible.few;
      remembered = record {
        counts = omega (arith, pair_size);
        made = record {
          decides = at.pair.made.decides;
          within = subst (λ b. FirstOver (steps f) (members (tables l.sets)) b (standing.before + 1) None) same
              (FirstOver-from (steps f) (members (tables l.sets)) l.budget 1 (standing.before + 1) at.pair.made.within);
        };
        after = subst (λ fs. IsMemoAfter m m fs) (sym (pair_parts standing.recall)) (after-none m);
      };
    }

  -- what was made may be remembered
  pub may_remember : {standing : PartPosition} {old new : MemoState} {l k : MeetState} {made : Remembered} {a : Automaton} → IsRememberedPart f (tables l.sets) standing old new k made
      → l.budget ≡ old.budget → MeetsGrow l k → IsPart new k made.part a → IsPair k.sets k.budget f a
  may_remember {standing = standing} {old = old} {l = l} {k = k} {a = a} part same grows has =
      let remembered = lent part has in
      let here : IsPair l.sets old.budget f a = record {
        pair = pair;
        made = record {
          decides = remembered.made.decides;
          within = FirstOver-from (steps f) (members (tables l.sets)) old.budget (standing.before + 1) 1 remembered.made.within;
        };
        accessible = record { reached = lent-reached part has; few = lent-few part a has (omega (arith, pair_size)) };
      } in
      subst (λ s. IsPair s k.budget f a) (sym grows.sets) (subst (λ b. IsPair l.sets b f a) (sym (grows.budget ∙ same)) here)

  pub part-remembered : {standing : PartPosition} {old new : MemoState} {e : ℕ → SetOf} {l k : MeetState} {made : Remembered} {a : Automaton} {place : ℕ}
      → IsRememberedPart f e standing old new l made → IsPart new l made.part a → (g : Formula) × (slice_get k.pairs place ≡ Some (g, a))
      → IsRememberedPart f e standing old new k (record { part = Paired place; done = made.done })
  part-remembered {a = a} part has there = record {
    auto = a;
    has = there;
    reached = lent-reached part has;
    few = lent-few part a has;
    remembered = lent part has;
  }
