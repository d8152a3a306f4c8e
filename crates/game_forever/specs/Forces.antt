-- Sets of positions that the winner can force.
use Rattle.std.specs.Prelude.{◌≡◌, ◌⊎◌, ℕ, zero, suc, ◌<◌}
use Rattle.game_rules.specs.Game.{Legal, LostInto, Position, Win}
use Rattle.game_rules.specs.declared.men.Side.{Side}
use Rattle.game_rules.specs.declared.men.Square.{Square}

-- the winner is to move, and against every reply he mates within n moves of his own, or reaches a position of the set with
-- himself to move
abbrev pub Forces : Side → (Position → Type 0) → ℕ → Position → Type 0
Forces winner T zero p = (p.turn ≡ winner) × T p
Forces winner T (suc n) p =
    (p.turn ≡ winner)
    × (T p ⊎ ((i : ℕ) × (z : Square) × (q : Position) × Legal p i z q × LostInto winner (Forces winner T n) q))

-- within n moves he forces a position of the set with a smaller rank than this one, or one that he wins within b moves
abbrev pub ForcesLower : Side → (Position → Type 0) → (Position → ℕ) → ℕ → ℕ → Position → Type 0
ForcesLower winner A rank b n p = Forces winner (λ q. (A q × (rank q < rank p)) ⊎ Win winner b q) n p

-- from each position of the set with the winner to move he forces one of the set with a smaller rank, within n moves
abbrev pub RanksFall : Side → (Position → Type 0) → (Position → ℕ) → ℕ → Type 0
RanksFall winner A rank n =
    (p : Position) → A p → p.turn ≡ winner → Forces winner (λ q. A q × (rank q < rank p)) n p

-- or one that he wins within b moves
abbrev pub RanksFallTo : Side → (Position → Type 0) → (Position → ℕ) → ℕ → ℕ → Type 0
RanksFallTo winner A rank b n = (p : Position) → A p → p.turn ≡ winner → ForcesLower winner A rank b n p
