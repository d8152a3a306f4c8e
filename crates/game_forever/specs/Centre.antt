-- Positions with a king on the square 0 0, and sets that translations of the board keep.
use Rattle.std.specs.Prelude.{◌≡◌, List, ℤ, pos}
use Rattle.std.specs.List.{Any}
use Rattle.game_rules.specs.Game.{Position, StandsOn}
use Rattle.game_rules.specs.declared.men.Kind.TheVariants.{King}
use Rattle.game_rules.specs.declared.men.Man.{Man}
use Rattle.game_rules.specs.declared.men.Side.{Side}
use Rattle.game_laws.specs.Symmetry.{mapped, shift}

-- the stock has a king of this side
abbrev pub HasKing : Side → List Man → Type 0
HasKing s stock = Any (λ m. (m.side ≡ s) × (m.kind ≡ King)) stock

-- a king of this side stands on 0 0
abbrev pub IsCentred : Side → Position → Type 0
IsCentred s p = Any (λ m. (m.side ≡ s) × (m.kind ≡ King) × StandsOn m (record { x = pos 0; y = pos 0 })) p.men

-- the set contains each translation of each of its positions
abbrev pub IsMovable : (Position → Type 0) → Type 0
IsMovable P = (dx dy : ℤ) (p : Position) → P p → P (mapped (shift dx dy) p)

-- some translation of the position is in the set
abbrev pub IsMovedInto : (Position → Type 0) → Position → Type 0
IsMovedInto X p = (dx : ℤ) × (dy : ℤ) × X (mapped (shift dx dy) p)
