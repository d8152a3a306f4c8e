-- The bytes written for a claim.
use Rattle.std.specs.Prelude.{ℕ, Bool, true, false, List, [], ◌∷◌, ◌++◌, length, codes, ℤ}
use Rattle.std.specs.Int.{w32, w64, to_be_bytes, cast_unsigned}
use Rattle.std.specs.List.{flat_map, range_with_len}
use Rattle.auto_core.specs.Automaton.{Automaton, first_state, next_state, is_final, width}
use Rattle.game_rules.specs.Game.{Position}
use Rattle.game_rules.specs.declared.men.Side.{Side}
use Rattle.game_rules.specs.declared.men.Place.{Place}
use Rattle.game_rules.specs.declared.men.Place.TheVariants.{Gone, At}
use Rattle.game_rules.specs.declared.men.Man.{Man}
use Rattle.strategy_file.specs.declared.version.Version.{Version}
use Rattle.strategy_file.specs.declared.version.Version.TheVariants as versions
use Rattle.strategy_file.specs.Numbers.{kind_byte, side_byte, turn_byte}
use Rattle.strategy_file.specs.Versions.{version_byte}
use Rattle.mate_plan.specs.Claim.{Claim, ClaimedSet}

abbrev pub flag_byte : Bool → ℕ
flag_byte false = 0
flag_byte true = 1

unfoldable pub coordinate_bytes : ℤ → List ℕ
coordinate_bytes x = to_be_bytes w64 (cast_unsigned w64 x)

unfoldable pub square_bytes : ℤ → ℤ → List ℕ
square_bytes x y = (1 ∷ coordinate_bytes x) ++ coordinate_bytes y

abbrev pub place_bytes : Place → List ℕ
place_bytes Gone = 0 ∷ []
place_bytes (At x y) = square_bytes x y

unfoldable pub man_bytes : Man → List ℕ
man_bytes m = (side_byte m.side ∷ kind_byte m.kind ∷ []) ++ place_bytes m.place

-- all fields before the sets
unfoldable pub start_bytes : Version → Side → Position → ℕ → List ℕ
start_bytes version winner p moves =
    (codes "ICSF" ++ version_byte version ∷ moves ∷ turn_byte winner p.turn ∷ length p.men ∷ [])
    ++ flat_map man_bytes p.men

-- a state for each letter, in ascending order
unfoldable pub row_bytes : ℕ → (ℕ → ℕ) → List ℕ
row_bytes letters state = flat_map (λ letter. to_be_bytes w32 (state letter)) (range_with_len 0 letters)

-- a flag, and a row
unfoldable pub state_bytes : Automaton → ℕ → List ℕ
state_bytes a state = flag_byte (is_final a state) ∷ row_bytes (width a) (next_state a state)

unfoldable pub table_bytes : Automaton → List ℕ
table_bytes a =
    (to_be_bytes w32 (length a.accept) ++ row_bytes (width a) (first_state a))
    ++ flat_map (state_bytes a) (range_with_len 0 (length a.accept))

unfoldable pub set_bytes : ClaimedSet → List ℕ
set_bytes c = (c.ply ∷ c.mask ∷ []) ++ table_bytes c.set

-- the file of version 1 of a claim
unfoldable pub written_dense : Claim → List ℕ
written_dense c = start_bytes versions.Dense c.winner c.position c.moves ++ flat_map set_bytes c.sets

-- the greatest length of a file
abbrev pub most_bytes : ℕ
most_bytes = 268435456
