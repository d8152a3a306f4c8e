-- The claim of a solution has at each ply and mask the set that the solution has there. Other crates may cite the lemma at the end.
use Rattle.std.proofs.Common.{◌≡◌, ℕ, zero, suc, ◌+◌, ◌<◌, ◌==◌, ◌&&◌, if◌then◌else◌, Bool, false, true, List, [], ◌∷◌, ◌++◌, Option, Some, None, refl, ap, ◌∙◌, arith}
use Rattle.std.proofs.lemmas.Bool.{eq-eqb, eqb-true}
use Rattle.auto_core.specs.Automaton.{Automaton}
use Rattle.mask_sets.specs.Sets.{set_of}
use Rattle.rule_formula.specs.Fits.{masks_of}
use Rattle.mate_plan.specs.Claim.{ClaimedSet, claimed_at, claimed_in}
use Rattle.winning_sets.specs.Claimed.{claim_of, sets_from, sets_of_ply}
use Rattle.winning_sets.specs.Solve.{Solution, kept_at, sets_at}

module _ (rest : List ClaimedSet) (mask : ℕ) where
  -- among the sets of a ply it is that of the mask
  in_ply : (ply : ℕ) (masks : List ℕ) (sets : List Automaton) → claimed_in rest ply mask ≡ None → claimed_in (sets_of_ply ply masks sets ++ rest) ply mask ≡ set_of masks sets mask
  in_ply ply [] sets none = none
  in_ply ply (m ∷ masks) [] none = none
  in_ply ply (m ∷ masks) (a ∷ sets) none =
      let found : Option Automaton = claimed_in (sets_of_ply ply masks sets ++ rest) ply mask in
      ap (λ (b : Bool). if b && (m == mask) then Some a else found) (eq-eqb ply ply refl)
      ∙ ap (λ (o : Option Automaton). if m == mask then Some a else o) (in_ply ply masks sets none)

  -- none of the sets of a ply is that of a later one
  past_ply : (ply later : ℕ) (masks : List ℕ) (sets : List Automaton) → (ply == later) ≡ false → claimed_in (sets_of_ply ply masks sets ++ rest) later mask ≡ claimed_in rest later mask
  past_ply ply later [] sets other = refl
  past_ply ply later (m ∷ masks) [] other = refl
  past_ply ply later (m ∷ masks) (a ∷ sets) other =
      let found : Option Automaton = claimed_in (sets_of_ply ply masks sets ++ rest) later mask in
      ap (λ (b : Bool). if b && (m == mask) then Some a else found) other ∙ past_ply ply later masks sets other

differ : (a b : ℕ) → (a ≡ b → ⊥) → (a == b) ≡ false
differ a b not = by (a == b) refl
  where
    by : (t : Bool) → (a == b) ≡ t → (a == b) ≡ false
    by false e = e
    by true e = absurd (not (eqb-true a b e))

-- no set is that of an earlier ply
before_none : (ply earlier : ℕ) (masks : List ℕ) (plies : List (List Automaton)) (mask : ℕ) → earlier < ply → claimed_in (sets_from ply masks plies) earlier mask ≡ None
before_none ply earlier masks [] mask less = refl
before_none ply earlier masks (sets ∷ plies) mask less =
    past_ply (sets_from (suc ply) masks plies) mask ply earlier masks sets (differ ply earlier (λ e. omega (arith, e, less)))
    ∙ before_none (suc ply) earlier masks plies mask (omega (arith, less))

from_ply : (first : ℕ) (masks : List ℕ) (plies : List (List Automaton)) (later mask : ℕ) → claimed_in (sets_from first masks plies) (first + later) mask ≡ sets_at masks plies later mask
from_ply first masks [] later mask = refl
from_ply first masks (sets ∷ plies) zero mask =
    let here : first + zero ≡ first = omega arith in
    ap (λ n. claimed_in (sets_from first masks (sets ∷ plies)) n mask) here
    ∙ in_ply (sets_from (suc first) masks plies) mask first masks sets (before_none (suc first) first masks plies mask (omega arith))
from_ply first masks (sets ∷ plies) (suc later) mask =
    let next : first + suc later ≡ suc first + later = omega arith in
    past_ply (sets_from (suc first) masks plies) mask first (first + suc later) masks sets (differ first (first + suc later) (λ e. omega (arith, e)))
    ∙ ap (λ n. claimed_in (sets_from (suc first) masks plies) n mask) next
    ∙ from_ply (suc first) masks plies later mask

pub claimed_kept : (s : Solution) (ply mask : ℕ) → claimed_at (claim_of s) ply mask ≡ kept_at s ply mask
claimed_kept s ply mask =
    let same : ply ≡ 0 + ply = omega arith in
    ap (λ n. claimed_in (sets_from 0 (masks_of s.position) s.kept) n mask) same ∙ from_ply 0 (masks_of s.position) s.kept ply mask
