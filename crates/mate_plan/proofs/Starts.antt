-- The level of the position alone, and the level without sets.
use Rattle.std.proofs.Common.{◌≡◌, ◌⊎◌, ℕ, zero, suc, ◌==◌, if◌then◌else◌, Bool, true, false, List, [], ◌∷◌, length, map, Option, Some, None, refl, sym, ap, ◌∙◌, subst, inl, inr, arith}
use Rattle.std.specs.Prelude.{Contains}
use Rattle.std.proofs.lemmas.Bool.{eqb-true, eq-eqb}
use Rattle.std.proofs.lemmas.Option.{slice_get_past}
use Rattle.auto_core.specs.Automaton.{Automaton}
use Rattle.game_rules.specs.declared.men.Man.{Man}
use Rattle.game_rules.specs.declared.men.Square.{Square}
use Rattle.lin_formula.specs.Tree.{Tree}
use Rattle.lin_formula.specs.SetOf.{SetOf, Nothing, as_set, tables}
use Rattle.lin_formula.specs.declared.formula.SetId.{SetId}
use Rattle.rule_formula.specs.Placed.{is_live}
use Rattle.game_laws.specs.Stock.{stock_man}
use Rattle.rule_formula.specs.Seats.{own}
use Rattle.rule_formula.specs.Trees.{man_square, point_of, point_to, tracks_of, with_square}
use Rattle.set_plan.specs.Same.{SameItem}
use Rattle.set_plan.specs.Sets.{IsNameOn, item_of, set_at}
use Rattle.set_plan.proofs.SameSets.{SameItem-relabel}
use Rattle.set_plan.proofs.Takings.{contains_cases}
use Rattle.mate_plan.specs.Levels.{AreNames, level_from, level_of}
use Rattle.mate_plan.specs.Plan.{Level, level_with, no_sets}
use Rattle.mate_plan.proofs.PlainFormulas.{IsPlain, plain-relabel}

-- the name for one mask alone
abbrev pub name_if : ℕ → Option SetId → ℕ → Option SetId
name_if live name m = if m == live then name else None

module _ (sets : List Automaton) (live : ℕ) (name : Option SetId) where
  abbrev made : Level → List ℕ → Level
  made level masks = level_from sets level masks (map (name_if live name) masks)

  there_if : (b : Bool) (m : ℕ) (level : Level)
      → live == m ≡ b → (level live ≡ set_at sets name) ⊎ (m ≡ live)
      → (if b then set_at sets (name_if live name m) else level live) ≡ set_at sets name
  there_if true m level e h =
      let same : live ≡ m = eqb-true live m e in
      let t : m == live ≡ true = eq-eqb m live (sym same) in
      ap (λ (b : Bool). set_at sets (if b then name else None)) t
  there_if false m level e (inl h) = h
  there_if false m level e (inr same) = let t : live == m ≡ true = eq-eqb live m (sym same) in cc

  here_from : (masks : List ℕ) (level : Level) → (level live ≡ set_at sets name) ⊎ Contains masks live → made level masks live ≡ set_at sets name
  here_from [] level (inl h) = h
  here_from [] level (inr i) = absurd (omega (arith, i.1))
  here_from (m ∷ masks) level (inl h) =
      here_from masks (level_with level m (set_at sets (name_if live name m))) (inl (there_if (live == m) m level refl (inl h)))
  here_from (m ∷ masks) level (inr i) =
      elim (contains_cases m masks live i) [
        | inl same ↦ here_from masks (level_with level m (set_at sets (name_if live name m))) (inl (there_if (live == m) m level refl (inr same)))
        | inr rest ↦ here_from masks (level_with level m (set_at sets (name_if live name m))) (inr rest)
      ]

  other_if : (b : Bool) (m k : ℕ) (level : Level) → k == m ≡ b → k == live ≡ false → level k ≡ Nothing → (if b then set_at sets (name_if live name m) else level k) ≡ Nothing
  other_if true m k level e other h =
      let same : k ≡ m = eqb-true k m e in
      let f : m == live ≡ false = ap (λ (n : ℕ). n == live) (sym same) ∙ other in
      ap (λ (b : Bool). set_at sets (if b then name else None)) f
  other_if false m k level e other h = h

  other_from : (masks : List ℕ) (level : Level) (k : ℕ) → k == live ≡ false → level k ≡ Nothing → made level masks k ≡ Nothing
  other_from [] level k other h = h
  other_from (m ∷ masks) level k other h = other_from masks (level_with level m (set_at sets (name_if live name m))) k other (other_if (k == m) m k level refl other h)

  at_each : (masks : List ℕ) (k : ℕ) (b : Bool) → k == live ≡ b → Contains masks live → made no_sets masks k ≡ (if b then set_at sets name else Nothing)
  at_each masks k true e i =
      let same : k ≡ live = eqb-true k live e in
      ap (λ (n : ℕ). made no_sets masks n) same ∙ here_from masks no_sets (inr i)
  at_each masks k false e i = other_from masks no_sets k e refl

  -- the level with the set of the name for one mask
  pub level_at_one : (masks : List ℕ) → Contains masks live → level_of sets masks (map (name_if live name) masks) ≡ level_with no_sets live (set_at sets name)
  level_at_one masks i = λ j k. at_each masks k (k == live) refl i j

  pub names_at_one : (stock : List Man) (masks : List ℕ) → IsNameOn (tracks_of stock (is_live live)) sets name → AreNames stock sets masks (map (name_if live name) masks)
  names_at_one stock [] on = tt
  names_at_one stock (m ∷ masks) on = (cases (m == live) refl, names_at_one stock masks on)
    where
      cases : (b : Bool) → m == live ≡ b → IsNameOn (tracks_of stock (is_live m)) sets (if b then name else None)
      cases true e = subst (λ (k : ℕ). IsNameOn (tracks_of stock (is_live k)) sets name) (sym (eqb-true m live e)) on
      cases false e = tt

-- without a name there is no set
module _ (sets : List Automaton) (live : ℕ) where
  none_if : (b : Bool) → set_at sets (if b then None else None) ≡ Nothing
  none_if true = refl
  none_if false = refl

  none_with : (b : Bool) (m k : ℕ) (level : Level) → level k ≡ Nothing → (if b then set_at sets (name_if live None m) else level k) ≡ Nothing
  none_with true m k level h = none_if (m == live)
  none_with false m k level h = h

  none_from : (masks : List ℕ) (level : Level) (k : ℕ) → level k ≡ Nothing → level_from sets level masks (map (name_if live None) masks) k ≡ Nothing
  none_from [] level k h = h
  none_from (m ∷ masks) level k h = none_from masks (level_with level m (set_at sets (name_if live None m))) k (none_with (k == m) m k level h)

  pub no_level_of : (masks : List ℕ) → level_of sets masks (map (name_if live None) masks) ≡ no_sets
  no_level_of masks = λ j k. none_from masks no_sets k refl j

-- the formula of the position names no set
abbrev PlainIf : Option Tree → Type 0
PlainIf None = Unit {0}
PlainIf (Some f) = IsPlain f

with_plain : (o : Option Tree) (s : _) (z : Option Square) → PlainIf o → PlainIf (with_square o s z)
with_plain o s None h = h
with_plain None s (Some z) h = (tt, tt)
with_plain (Some f) s (Some z) h = ((h, tt), tt)

point_to_plain : (men : List Man) (n : ℕ) → PlainIf (point_to men n)
point_to_plain men zero = tt
point_to_plain men (suc n) = with_plain (point_to men n) (own (suc n)) (man_square (stock_man men (suc n))) (point_to_plain men n)

point_plain : (men : List Man) (f : Tree) → point_of men ≡ Some f → IsPlain f
point_plain men f e = subst PlainIf e (point_to_plain men (length men))

-- it says the same whatever its symbols stand for
pub point_same : (men : List Man) (sets : List Automaton) (f : Tree) → point_of men ≡ Some f → SameItem (item_of sets f) (record { formula = f; sets = λ _. Nothing })
point_same men sets f e =
    let past : tables sets (length sets) ≡ Nothing = ap as_set (slice_get_past sets (length sets) (omega arith)) in
    let Is : Tree → Type 0 = λ t. SameItem (item_of sets t) (record { formula = f; sets = λ _. tables sets (length sets) }) in
    let Over : SetOf → Type 0 = λ s. SameItem (item_of sets f) (record { formula = f; sets = λ _. s }) in
    subst Over past (subst Is (plain-relabel (λ _. length sets) f (point_plain men f e)) (SameItem-relabel (λ _. length sets) (tables sets) f))
