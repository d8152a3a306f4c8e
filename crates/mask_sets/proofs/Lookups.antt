-- Where the set of a mask is.
use Rattle.std.proofs.Common.{◌≡◌, ℕ, zero, suc, ◌<◌, ◌==◌, if◌then◌else◌, Bool, true, false, List, [], ◌∷◌, length, get_or, Some, None, refl, ◌∙◌, arith}
use Rattle.std.specs.Prelude.{slice_get}
use Rattle.std.proofs.lemmas.Bool.{eqb-true, eq-eqb}
use Rattle.auto_core.specs.Automaton.{Automaton}
use Rattle.mask_sets.specs.Sets.{set_of}

here : {X : Type 0} (m mask : ℕ) (x y : X) → m ≡ mask → (if m == mask then x else y) ≡ x
here m mask x y same = by (m == mask) refl
  where
    by : (b : Bool) → m == mask ≡ b → (if b then x else y) ≡ x
    by true e = refl
    by false e = let t : m == mask ≡ true = eq-eqb m mask same in cc

elsewhere : {X : Type 0} (m mask : ℕ) (x y : X) → (m ≡ mask → ⊥) → (if m == mask then x else y) ≡ y
elsewhere m mask x y other = by (m == mask) refl
  where
    by : (b : Bool) → m == mask ≡ b → (if b then x else y) ≡ y
    by true e = absurd (other (eqb-true m mask e))
    by false e = refl

-- the set at the first place of the mask
pub set_of-place : (masks : List ℕ) (sets : List Automaton) (mask k : ℕ) → k < length masks → get_or masks k 0 ≡ mask
    → ((j : ℕ) → j < k → get_or masks j 0 ≡ mask → ⊥) → set_of masks sets mask ≡ slice_get sets k
set_of-place [] sets mask k within is before = absurd (omega (arith, within))
set_of-place (m ∷ masks) [] mask k within is before = refl
set_of-place (m ∷ masks) (a ∷ sets) mask zero within is before = here m mask (Some a) (set_of masks sets mask) is
set_of-place (m ∷ masks) (a ∷ sets) mask (suc k) within is before =
    elsewhere m mask (Some a) (set_of masks sets mask) (before 0 (omega arith))
    ∙ set_of-place masks sets mask k (omega (arith, within)) is (λ j less. before (suc j) (omega (arith, less)))

-- there is none of a mask that is not among the masks
pub set_of-none : (masks : List ℕ) (sets : List Automaton) (mask : ℕ) → ((j : ℕ) → j < length masks → get_or masks j 0 ≡ mask → ⊥) → set_of masks sets mask ≡ None
set_of-none [] sets mask none = refl
set_of-none (m ∷ masks) [] mask none = refl
set_of-none (m ∷ masks) (a ∷ sets) mask none =
    elsewhere m mask (Some a) (set_of masks sets mask) (none 0 (omega arith))
    ∙ set_of-none masks sets mask (λ j less. none (suc j) (omega (arith, less)))
