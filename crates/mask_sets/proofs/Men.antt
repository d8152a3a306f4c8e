-- The men of a position by their numbers. Other crates cite all_men.
use Rattle.std.proofs.Common.{◌≡◌, ◌↔◌, ℕ, zero, suc, get_or, Some, subst}
use Rattle.std.specs.List.{All}
use Rattle.std.proofs.lemmas.Option.{get_or_from_slice_get, slice_get_within, slice_get-get_or}
use Rattle.game_rules.specs.declared.men.Man.{Man}
use Rattle.game_rules.specs.Game.{Position, man_at}

-- a property of all men, by their numbers
pub all_men : (p : Position) (P : Man → Type 0) → All P p.men ↔ ((k : ℕ) (m : Man) → man_at p k ≡ Some m → P m)
all_men p P = (
  λ h k m is. all_at p P h k m is,
  λ h k d within. h (suc k) (get_or p.men k d) (slice_get-get_or p.men k d within),
) where
  all_at : (p : Position) (P : Man → Type 0) → All P p.men → (k : ℕ) (m : Man) → man_at p k ≡ Some m → P m
  all_at p P h zero m is = absurd (cc)
  all_at p P h (suc k) m is =
      subst P (get_or_from_slice_get p.men k m m is) (h k m (slice_get_within p.men k m is))
