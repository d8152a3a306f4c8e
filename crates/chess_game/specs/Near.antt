-- Squares whose offsets fit into an i128.
use Rattle.std.specs.Prelude.{◌≤◌, ◌^◌, unsigned_abs, FitsSigned}
use Rattle.std.specs.Int.{w64}
use Rattle.std.specs.Option.{ForSome}
use Rattle.std.specs.List.{All}
use Rattle.game_rules.specs.Game.{Position, square_of}
use Rattle.game_rules.specs.declared.men.Man.{Man}
use Rattle.game_rules.specs.declared.men.Square.{Square}

-- a square with coordinates up to 2 ^ 68: one with i64 coordinates, or one outside them where a check may have to be
-- answered
abbrev pub IsNear : Square → Type 0
IsNear z = (unsigned_abs z.x ≤ 2 ^ 68) × (unsigned_abs z.y ≤ 2 ^ 68)

-- a square with i64 coordinates
abbrev pub IsNarrow : Square → Type 0
IsNarrow z = FitsSigned w64 z.x × FitsSigned w64 z.y

abbrev pub IsNarrowMan : Man → Type 0
IsNarrowMan m = ForSome (square_of m) IsNarrow

-- all men stand on squares with i64 coordinates
abbrev pub IsNarrowPosition : Position → Type 0
IsNarrowPosition p = All IsNarrowMan p.men
