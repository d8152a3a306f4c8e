-- A position whose men are all fine is sound, if one of them is a king.
use Rattle.std.proofs.Common.{◌≡◌, ◌≢◌, ◌⊎◌, inl, inr, ℕ, zero, suc, ◌<◌, ◌≤◌, length, Option, Some, None, refl, sym, ap, subst, ◌∙◌, arith}
use Rattle.std.proofs.lemmas.Option.{same_Some, slice_get_within}
use Rattle.game_rules.specs.Game.{Attacked, HasKings, HasOneKingAtMost, InCheck, IsApart, IsLiveAnd, Position, Sound, StandsOn, man_at, other, square_of}
use Rattle.game_rules.specs.declared.men.Kind.TheVariants.{King}
use Rattle.game_rules.specs.declared.men.Man.{Man}
use Rattle.game_rules.specs.declared.men.Side.{Side}
use Rattle.game_rules.specs.declared.men.Side.TheVariants.{White, Black}
use Rattle.game_rules.specs.declared.men.Square.{Square}
use Rattle.game_laws.proofs.CheckLemmas.{any_is, some_and}
use Rattle.game_trials.specs.Kings.{AreCompatible, AreCompatibleAt, IsFineAt, IsKingAt}

number_cases : (i j : ℕ) → (i < j) ⊎ ((i ≡ j) ⊎ (j < i))
number_cases i j = grind arith

twice_other : (s : Side) → other (other s) ≡ s
twice_other White = refl
twice_other Black = refl

other_side : (s : Side) → other s ≢ s
other_side White e = absurd (cc)
other_side Black e = absurd (cc)

-- the men of numbers
pub numbered : (p : Position) (k : ℕ) (m : Man) → man_at p k ≡ Some m → (1 ≤ k) × (k ≤ length p.men)
numbered p zero m is = absurd (cc)
numbered p (suc k) m is = let within = slice_get_within p.men k m is in (omega arith, omega (arith, within))

module _ (p : Position) (fine : (i : ℕ) → 1 ≤ i → i ≤ length p.men → IsFineAt p i) where
  here : (k : ℕ) (m : Man) → man_at p k ≡ Some m → IsFineAt p k
  here k m is = let n = numbered p k m is in fine k n.0 n.1

  few : (s : Side) → HasOneKingAtMost p s
  few s = record {
    live = λ k m is side kind. ((here k m is).safe m is).live kind;
    only = λ j k m n is_m is_n side_m side_n kind_m kind_n. elim (number_cases j k) [
      | inl less ↦ absurd (((here j m is_m).compatible k less m n is_m is_n).kings (side_m ∙ sym side_n) kind_m kind_n)
      | inr rest ↦ elim rest [
        | inl same ↦ same
        | inr more ↦ absurd (((here k n is_n).compatible j more n m is_n is_m).kings (side_n ∙ sym side_m) kind_n kind_m)
      ]
    ];
  }

  apart : IsApart p
  apart i j m n z is_m is_n s t = elim (number_cases i j) [
    | inl less ↦ absurd (((here i m is_m).compatible j less m n is_m is_n).squares z s t)
    | inr rest ↦ elim rest [
      | inl same ↦ same
      | inr more ↦ absurd (((here j n is_n).compatible i more n m is_n is_m).squares z t s)
    ]
  ]

  other_safe : InCheck p (other p.turn) → ⊥
  other_safe check =
      let IsChecked : Man → Type 0 = λ m. (m.side ≡ other p.turn) × (m.kind ≡ King) × IsLiveAnd m (Attacked p (other (other p.turn))) in
      let w = any_is p IsChecked check in
      let king = w.1 in
      let at = some_and (square_of king) (Attacked p (other (other p.turn))) w.3.2 in
      let apart_turn : king.side ≢ p.turn = λ e. other_side p.turn (sym w.3.0 ∙ e) in
      let By : Side → Type 0 = λ s. Attacked p s at.0 in
      ((here w.0 king w.2).safe king w.2).unattacked w.3.1 apart_turn at.0 at.1 (subst By (twice_other p.turn) at.2)

  pub sound_of : (k : ℕ) × IsKingAt p k → Sound p
  sound_of (k, (m, is, kind)) = record {
    kings = record { few = few; some = λ none. none k m is kind };
    apart = apart;
    other_safe = other_safe;
  }
