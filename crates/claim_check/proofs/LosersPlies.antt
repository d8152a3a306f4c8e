-- The plies of the loser, and what is claimed at them.
use Rattle.std.proofs.Common.{◌≡◌, ℕ, zero, suc, ◌+◌, ◌*◌, ◌-◌, ◌<◌, ◌≤◌, List, [], ◌∷◌, ◌++◌, Option, Some, None, refl, sym, ap, ◌∙◌, subst, append_assoc, arith}
use Rattle.std.specs.Prelude.{All, Contains, IsSome}
use Rattle.std.specs.List.{AllByRecursion}
use Rattle.std.proofs.lemmas.List.{append-nil}
use Rattle.std.proofs.lemmas.List.Elements.{All-contains_itself, All-from_recursion, All-weaker}
use Rattle.auto_core.specs.Automaton.{Automaton}
use Rattle.rule_formula.specs.Fits.{IsGameMask, masks_of}
use Rattle.rule_formula.proofs.MasksTheorem.{masks_are}
use Rattle.game_rules.specs.Game.{Position}
use Rattle.mate_plan.specs.Claim.{Claim, IsClaim, claimed_at, every_second, losers_plies}
use Rattle.claim_check.specs.Ready.{AreThere}
use Rattle.strategy_file.proofs.LosersPlies.{losers_plies-are}

low_from : (first count : ℕ) → first + 2 * count ≤ 43 → AllByRecursion (λ ply. ply ≤ 41) (every_second first count)
low_from first zero less = tt
low_from first (suc count) less = (omega (arith, less), low_from (first + 2) count (omega (arith, less)))

pub low_plies : (first count : ℕ) → first ≤ 1 → count ≤ 21 → All (λ ply. ply ≤ 41) (every_second first count)
low_plies first count low few = All-from_recursion (λ ply. ply ≤ 41) (every_second first count) (low_from first count (omega (arith, low, few)))

-- the plies that are listed so far, with those that are left, are all
module _ (first count : ℕ) where
  next_left : (i : ℕ) → i < count → every_second (first + 2 * i) (count - i) ≡ (first + 2 * i) ∷ every_second (first + 2 * (i + 1)) (count - (i + 1))
  next_left i less =
      let some : count - i ≡ suc (count - (i + 1)) = omega (arith, less) in
      let next : first + 2 * i + 2 ≡ first + 2 * (i + 1) = omega arith in
      ap (every_second (first + 2 * i)) some ∙ ap (λ n. (first + 2 * i) ∷ every_second n (count - (i + 1))) next

  pub listed_none : every_second (first + 2 * 0) (count - 0) ≡ every_second first count
  listed_none =
      let at : first + 2 * 0 ≡ first = omega arith in
      let all : count - 0 ≡ count = omega arith in
      ap (λ n. every_second n (count - 0)) at ∙ ap (every_second first) all

  pub listed_more : (plies : List ℕ) (i : ℕ) → i < count → plies ++ every_second (first + 2 * i) (count - i) ≡ every_second first count
      → (plies ++ (first + 2 * i) ∷ []) ++ every_second (first + 2 * (i + 1)) (count - (i + 1)) ≡ every_second first count
  listed_more plies i less h =
      append_assoc plies ((first + 2 * i) ∷ []) (every_second (first + 2 * (i + 1)) (count - (i + 1)))
      ∙ (ap (λ l. plies ++ l) (sym (next_left i less)) ∙ h)

  pub listed_all : (plies : List ℕ) (i : ℕ) → count ≤ i → plies ++ every_second (first + 2 * i) (count - i) ≡ every_second first count → plies ≡ every_second first count
  listed_all plies i all h =
      let none : 0 ≡ count - i = omega (arith, all) in
      sym (append-nil plies) ∙ (ap (λ n. plies ++ every_second (first + 2 * i) n) none ∙ h)

some_of : (o : Option Automaton) → (o ≡ None → ⊥) → IsSome o
some_of None off = absurd (off refl)
some_of (Some a) off = refl

-- at each of these plies there is a set for each mask of the game
pub plies_there : {c : Claim} → IsClaim c → (plies : List ℕ) → plies ≡ losers_plies c.winner c.position.turn c.moves
    → All (AreThere c) plies
plies_there {c} is plies are =
    All-weaker (Contains plies) (AreThere c)
    (λ ply i mask game.
    let losers = (losers_plies-are c.winner c.position c.moves ply).0 (subst (λ (l : List ℕ). Contains l ply) are i) in
    some_of (claimed_at c ply mask) (is.found ply mask losers game))
    plies (All-contains_itself plies)

-- what holds of each mask of the game holds of each mask of the position
pub each_mask : (p : Position) (P : ℕ → Type 0) (masks : List ℕ) → masks ≡ masks_of p → ((mask : ℕ) → IsGameMask p mask → P mask) → All P masks
each_mask p P masks are holds =
    All-weaker (Contains masks) P (λ mask i. holds mask ((masks_are p mask).0 (subst (λ (l : List ℕ). Contains l mask) are i))) masks (All-contains_itself masks)
