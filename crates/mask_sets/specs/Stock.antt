-- The mask of the live men.
use Rattle.std.specs.Prelude.{ℕ, ◌+◌, ◌*◌, List, [], ◌∷◌, Option, Some, None}
use Rattle.game_rules.specs.declared.men.Man.{Man}
use Rattle.game_rules.specs.declared.men.Square.{Square}
use Rattle.game_rules.specs.Game.{Position, square_of}

abbrev pub live_bit : Option Square → ℕ
live_bit None = 0
live_bit (Some z) = 1

-- the mask of men, of whom the first has the lowest bit
abbrev pub mask_of_men : List Man → ℕ
mask_of_men [] = 0
mask_of_men (m ∷ men) = live_bit (square_of m) + 2 * mask_of_men men

abbrev pub mask_of : Position → ℕ
mask_of p = mask_of_men p.men
