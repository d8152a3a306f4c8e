-- A position has one first fault.
use Rattle.std.proofs.Common.{◌≡◌, ◌⊎◌, ℕ, ◌+◌, ◌≤◌, inl, inr, refl, sym, ap, arith}
use Rattle.game_rules.specs.Game.{Position}
use Rattle.game_rules.specs.declared.men.Side.{Side}
use Rattle.game_rules.specs.declared.men.Side.TheVariants.{White, Black}
use Rattle.chess_game.specs.Unsoundness.{IsFirstUnsoundness, IsLesserPair, rank}
use Rattle.chess_game.specs.declared.unsoundness.Unsound.{Unsound}
use Rattle.chess_game.specs.declared.unsoundness.Unsound.TheVariants.{NoKing, ManyKings, KingGone, SameSquare, OtherInCheck}
use Rattle.chess_game.proofs.UnsoundnessLemmas.{number_cases}

-- two faults of one rank are one, or one of them comes first
same_pair : (i j k l : ℕ) → (SameSquare i j ≡ SameSquare k l) ⊎ (IsLesserPair (SameSquare i j) (SameSquare k l) ⊎ IsLesserPair (SameSquare k l) (SameSquare i j))
same_pair i j k l = elim (number_cases i k) [
  | inl less ↦ inr (inl (inl less))
  | inr (inr more) ↦ inr (inr (inl more))
  | inr (inl same) ↦ elim (number_cases j l) [
    | inl less ↦ inr (inl (inr (same, less)))
    | inr (inr more) ↦ inr (inr (inr (sym same, more)))
    | inr (inl equal) ↦ inl (cc)
  ]
]

-- the places of the sides in the order
abbrev place_of : Side → ℕ
place_of White = 0
place_of Black = 1

same_side : (s t : Side) → place_of s ≡ place_of t → s ≡ t
same_side White White h = refl
same_side White Black h = absurd (omega arith)
same_side Black White h = absurd (omega arith)
same_side Black Black h = refl

record RanksOf (s : Side) : Type 0 where
  small : place_of s ≤ 1
  no_king : rank (NoKing s) ≡ place_of s
  many_kings : rank (ManyKings s) ≡ 2 + place_of s
  king_gone : rank (KingGone s) ≡ 4 + place_of s

ranks : (s : Side) → RanksOf s
ranks White = record { small = omega arith; no_king = refl; many_kings = refl; king_gone = refl }
ranks Black = record { small = omega arith; no_king = refl; many_kings = refl; king_gone = refl }

same_rank : (e f : Unsound) → rank e ≡ rank f → (e ≡ f) ⊎ (IsLesserPair e f ⊎ IsLesserPair f e)
same_rank (NoKing s) (NoKing t) h = inl (ap NoKing (same_side s t (let r = ranks s in let q = ranks t in omega (arith, h, r, q))))
same_rank (NoKing s) (ManyKings t) h = absurd (let r = ranks s in let q = ranks t in omega (arith, h, r, q))
same_rank (NoKing s) (KingGone t) h = absurd (let r = ranks s in let q = ranks t in omega (arith, h, r, q))
same_rank (NoKing s) (SameSquare k l) h = absurd (let r = ranks s in omega (arith, h, r))
same_rank (NoKing s) OtherInCheck h = absurd (let r = ranks s in omega (arith, h, r))
same_rank (ManyKings s) (NoKing t) h = absurd (let r = ranks s in let q = ranks t in omega (arith, h, r, q))
same_rank (ManyKings s) (ManyKings t) h = inl (ap ManyKings (same_side s t (let r = ranks s in let q = ranks t in omega (arith, h, r, q))))
same_rank (ManyKings s) (KingGone t) h = absurd (let r = ranks s in let q = ranks t in omega (arith, h, r, q))
same_rank (ManyKings s) (SameSquare k l) h = absurd (let r = ranks s in omega (arith, h, r))
same_rank (ManyKings s) OtherInCheck h = absurd (let r = ranks s in omega (arith, h, r))
same_rank (KingGone s) (NoKing t) h = absurd (let r = ranks s in let q = ranks t in omega (arith, h, r, q))
same_rank (KingGone s) (ManyKings t) h = absurd (let r = ranks s in let q = ranks t in omega (arith, h, r, q))
same_rank (KingGone s) (KingGone t) h = inl (ap KingGone (same_side s t (let r = ranks s in let q = ranks t in omega (arith, h, r, q))))
same_rank (KingGone s) (SameSquare k l) h = absurd (let r = ranks s in omega (arith, h, r))
same_rank (KingGone s) OtherInCheck h = absurd (let r = ranks s in omega (arith, h, r))
same_rank (SameSquare i j) (NoKing t) h = absurd (let q = ranks t in omega (arith, h, q))
same_rank (SameSquare i j) (ManyKings t) h = absurd (let q = ranks t in omega (arith, h, q))
same_rank (SameSquare i j) (KingGone t) h = absurd (let q = ranks t in omega (arith, h, q))
same_rank (SameSquare i j) (SameSquare k l) h = same_pair i j k l
same_rank (SameSquare i j) OtherInCheck h = absurd (omega (arith, h))
same_rank OtherInCheck (NoKing t) h = absurd (let q = ranks t in omega (arith, h, q))
same_rank OtherInCheck (ManyKings t) h = absurd (let q = ranks t in omega (arith, h, q))
same_rank OtherInCheck (KingGone t) h = absurd (let q = ranks t in omega (arith, h, q))
same_rank OtherInCheck (SameSquare k l) h = absurd (omega (arith, h))
same_rank OtherInCheck OtherInCheck h = inl refl

pub once_fault : {p : Position} {e f : Unsound} → IsFirstUnsoundness p e → IsFirstUnsoundness p f → e ≡ f
once_fault {e} {f} a b = elim (number_cases (rank e) (rank f)) [
  | inl less ↦ absurd (b.first e (inl less) a.holds)
  | inr (inr more) ↦ absurd (a.first f (inl more) b.holds)
  | inr (inl same) ↦ elim (same_rank e f same) [
    | inl equal ↦ equal
    | inr (inl lesser) ↦ absurd (b.first e (inr lesser) a.holds)
    | inr (inr lesser) ↦ absurd (a.first f (inr lesser) b.holds)
  ]
]
