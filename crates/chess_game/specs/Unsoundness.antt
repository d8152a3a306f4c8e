-- The reasons against soundness, and their order.
use Rattle.std.specs.Prelude.{◌≡◌, ℕ, ◌<◌, IsSomeAnd, ◌⊎◌}
use Rattle.game_rules.specs.Game.{Position, InCheck, StandsOn, man_at, other}
use Rattle.game_rules.specs.declared.men.Side.{Side}
use Rattle.game_rules.specs.declared.men.Side.TheVariants.{White, Black}
use Rattle.game_rules.specs.declared.men.Kind.TheVariants.{King}
use Rattle.game_rules.specs.declared.men.Place.TheVariants.{Gone}
use Rattle.game_rules.specs.declared.men.Square.{Square}
use Rattle.chess_game.specs.declared.unsoundness.Unsound.{Unsound}
use Rattle.chess_game.specs.declared.unsoundness.Unsound.TheVariants.{NoKing, ManyKings, KingGone, SameSquare, OtherInCheck}

-- man i is a king of the side, live or captured
abbrev pub IsKingAt : Position → Side → ℕ → Type 0
IsKingAt p s i = IsSomeAnd (man_at p i) (λ m. (m.side ≡ s) × (m.kind ≡ King))

-- man i is captured
abbrev pub IsGoneAt : Position → ℕ → Type 0
IsGoneAt p i = IsSomeAnd (man_at p i) (λ m. m.place ≡ Gone)

-- man i stands on the square
abbrev pub StandsAt : Position → ℕ → Square → Type 0
StandsAt p i z = IsSomeAnd (man_at p i) (λ m. StandsOn m z)

-- men i and j stand on one square
abbrev pub AreTwins : Position → ℕ → ℕ → Type 0
AreTwins p i j = (z : Square) × StandsAt p i z × StandsAt p j z

-- this reason applies, whether or not another one does
abbrev pub IsUnsoundFor : Position → Unsound → Type 0
IsUnsoundFor p (NoKing s) = (i : ℕ) → IsKingAt p s i → ⊥
IsUnsoundFor p (ManyKings s) = (i : ℕ) × (j : ℕ) × (i < j) × IsKingAt p s i × IsKingAt p s j
IsUnsoundFor p (KingGone s) = (i : ℕ) × IsKingAt p s i × IsGoneAt p i
IsUnsoundFor p (SameSquare i j) = (i < j) × AreTwins p i j
IsUnsoundFor p OtherInCheck = InCheck p (other p.turn)

-- the rank of a reason in the order
abbrev pub rank : Unsound → ℕ
rank (NoKing White) = 0
rank (NoKing Black) = 1
rank (ManyKings White) = 2
rank (ManyKings Black) = 3
rank (KingGone White) = 4
rank (KingGone Black) = 5
rank (SameSquare i j) = 6
rank OtherInCheck = 7

-- of two pairs of men that share squares, the one with the lesser first man comes first, or, if those are equal, the
-- one with the lesser second man
abbrev pub IsLesserPair : Unsound → Unsound → Type 0
IsLesserPair (SameSquare i j) (SameSquare k l) = (i < k) ⊎ ((i ≡ k) × (j < l))
IsLesserPair _ _ = ⊥

-- the first reason comes before the second in the order
abbrev pub IsBefore : Unsound → Unsound → Type 0
IsBefore f e = (rank f < rank e) ⊎ IsLesserPair f e

-- this is the first reason that applies
pub record IsFirstUnsoundness (p : Position) (e : Unsound) : Type 0 where
  pub holds : IsUnsoundFor p e
  pub first : (f : Unsound) → IsBefore f e → IsUnsoundFor p f → ⊥

-- this names the first two men that share a square
abbrev pub IsFirstPair : Position → Unsound → Type 0
IsFirstPair p (SameSquare i j) =
    (i < j)
    × AreTwins p i j
    × ((k l : ℕ) → k < i → k < l → AreTwins p k l → ⊥)
    × ((l : ℕ) → i < l → l < j → AreTwins p i l → ⊥)
IsFirstPair p _ = ⊥
