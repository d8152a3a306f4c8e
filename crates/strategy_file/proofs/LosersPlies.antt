-- The plies of the loser, and the places of a claim's sets.
use Rattle.std.proofs.Common.{◌≡◌, ◌↔◌, ℕ, zero, suc, ◌+◌, ◌-◌, ◌*◌, ◌<◌, List, [], ◌∷◌, map, inl, inr, sym, ap, subst, arith}
use Rattle.std.specs.Prelude.{Contains}
use Rattle.std.specs.List.{flat_map}
use Rattle.std.proofs.lemmas.List.Concat.{flat_map-cons}
use Rattle.std.proofs.lemmas.List.Elements.{Contains-append_cases, Contains-append_left, Contains-append_right}
use Rattle.game_rules.specs.Game.{Position, other}
use Rattle.game_rules.specs.declared.men.Side.{Side}
use Rattle.rule_formula.specs.Fits.{IsGameMask, masks_of}
use Rattle.rule_formula.proofs.MasksTheorem.{masks_are}
use Rattle.set_plan.proofs.Takings.{contains_cases, contains_head, contains_none, contains_rest}
use Rattle.mate_plan.specs.PlanOf.{last_ply}
use Rattle.mate_plan.specs.Claim.{IsLosersPly, every_second, losers_plies}
use Rattle.mate_plan.specs.Turns.{plies_before_turn}
use Rattle.mate_plan.proofs.TurnLemmas.{waits_sum}
use Rattle.mate_plan.proofs.ClaimPlies.{plies-have}
use Rattle.strategy_file.specs.StrategyFile.{places_of}

-- ---- every second ply

every_second-of : (start count ply : ℕ) → Contains (every_second start count) ply → (k : ℕ) × (k < count) × (start + 2 * k ≡ ply)
every_second-of start zero ply h = absurd (contains_none ply h)
every_second-of start (suc count) ply h =
    elim (contains_cases start (every_second (start + 2) count) ply h) [
      | inl same ↦ (0, omega arith, omega (arith, same))
      | inr later ↦
          let there = every_second-of (start + 2) count ply later in
          let below = there.1 in
          let is = there.2 in
          (suc there.0, omega (arith, below), omega (arith, is))
    ]

left_at : (winner s : Side) (moves ply : ℕ) → Contains (losers_plies winner s moves) ply → (left : ℕ) × (ply + (2 * left + 1) ≡ last_ply winner s moves)
left_at winner s moves ply h =
    let count = moves + plies_before_turn winner s in
    let there = every_second-of (plies_before_turn (other winner) s) count ply h in
    let below = there.1 in
    let is = there.2 in
    let one = waits_sum winner s in
    (count - there.0 - 1, omega (arith, below, is, one))

-- the plies that are listed are those of the loser
pub losers_plies-are : (winner : Side) (p : Position) (moves ply : ℕ) → Contains (losers_plies winner p.turn moves) ply ↔ IsLosersPly winner p moves ply
losers_plies-are winner p moves ply = (
  λ h. let there = left_at winner p.turn moves ply h in record { left = there.0; before = there.1 },
  λ h. plies-have h,
)

-- ---- pairs of the numbers of two lists

with_first : (x : ℕ) (ys : List ℕ) (a b : ℕ) → Contains {X = ℕ × ℕ} (map (λ y. (x, y)) ys) (a, b) → (x ≡ a) × Contains ys b
with_first x [] a b h = absurd (contains_none (a, b) h)
with_first x (y ∷ ys) a b h =
    elim (contains_cases (x, y) (map (λ z. (x, z)) ys) (a, b) h) [
      | inl same ↦ (ap (λ p. p.0) same, subst (λ z. Contains (y ∷ ys) z) (ap (λ p. p.1) same) (contains_head y ys))
      | inr later ↦ let rest = with_first x ys a b later in (rest.0, contains_rest y ys b rest.1)
    ]

has_first : (x : ℕ) (ys : List ℕ) (b : ℕ) → Contains ys b → Contains {X = ℕ × ℕ} (map (λ y. (x, y)) ys) (x, b)
has_first x [] b h = absurd (contains_none b h)
has_first x (y ∷ ys) b h =
    elim (contains_cases y ys b h) [
      | inl same ↦ subst (λ (z : ℕ). Contains {X = ℕ × ℕ} (map (λ w. (x, w)) (y ∷ ys)) (x, z)) same (contains_head (x, y) (map (λ w. (x, w)) ys))
      | inr later ↦ contains_rest (x, y) (map (λ w. (x, w)) ys) (x, b) (has_first x ys b later)
    ]

pairs_of : (ys xs : List ℕ) (a b : ℕ) → Contains {X = ℕ × ℕ} (flat_map (λ x. map (λ y. (x, y)) ys) xs) (a, b) → Contains xs a × Contains ys b
pairs_of ys [] a b h = absurd (contains_none (a, b) h)
pairs_of ys (x ∷ xs) a b h =
    let f : ℕ → List (ℕ × ℕ) = λ z. map (λ y. (z, y)) ys in
    elim (Contains-append_cases (f x) (flat_map f xs) (a, b) (subst (λ (ps : List (ℕ × ℕ)). Contains {X = ℕ × ℕ} ps (a, b)) (flat_map-cons f x xs) h)) [
      | inl here ↦ let first = with_first x ys a b here in (subst (λ z. Contains (x ∷ xs) z) first.0 (contains_head x xs), first.1)
      | inr later ↦ let rest = pairs_of ys xs a b later in (contains_rest x xs a rest.0, rest.1)
    ]

has_pair : (ys xs : List ℕ) (a b : ℕ) → Contains xs a → Contains ys b → Contains {X = ℕ × ℕ} (flat_map (λ x. map (λ y. (x, y)) ys) xs) (a, b)
has_pair ys [] a b h k = absurd (contains_none a h)
has_pair ys (x ∷ xs) a b h k =
    let f : ℕ → List (ℕ × ℕ) = λ z. map (λ y. (z, y)) ys in
    subst (λ (ps : List (ℕ × ℕ)). Contains {X = ℕ × ℕ} ps (a, b)) (sym (flat_map-cons f x xs))
    (elim (contains_cases x xs a h) [
      | inl same ↦ Contains-append_left (f x) (flat_map f xs) (a, b) (subst (λ (z : ℕ). Contains {X = ℕ × ℕ} (f x) (z, b)) same (has_first x ys b k))
      | inr later ↦ Contains-append_right (f x) (flat_map f xs) (a, b) (has_pair ys xs a b later k)
    ])

-- the places of a claim are the plies of the loser with the masks of the game
pub places_of-are : (winner : Side) (p : Position) (moves ply mask : ℕ) → Contains {X = ℕ × ℕ} (places_of winner p moves) (ply, mask) ↔ (IsLosersPly winner p moves ply × IsGameMask p mask)
places_of-are winner p moves ply mask = (
  λ h.
      let both = pairs_of (masks_of p) (losers_plies winner p.turn moves) ply mask h in
      ((losers_plies-are winner p moves ply).0 both.0, (masks_are p mask).0 both.1),
  λ h. has_pair (masks_of p) (losers_plies winner p.turn moves) ply mask ((losers_plies-are winner p moves ply).1 h.0) ((masks_are p mask).1 h.1),
)
