-- Positions of a stock of men, by the squares of the live ones.
use Rattle.std.specs.Prelude.{◌≡◌, ℕ, suc, ◌-◌, ◌≤◌, Bool, true, ◌==◌, ◌&&◌, not, if◌then◌else◌, List, [], ◌∷◌}
use Rattle.std.specs.Int.{bit_at}
use Rattle.game_rules.specs.declared.men.Side.{Side}
use Rattle.game_rules.specs.declared.men.Man.{Man}
use Rattle.game_rules.specs.declared.men.Place.{Place}
use Rattle.game_rules.specs.declared.men.Place.TheVariants.{Gone, At}
use Rattle.game_rules.specs.declared.men.Square.{Square}
use Rattle.game_rules.specs.Game.{IsApart, Position}
use Rattle.mask_sets.specs.Tuple.{tuple_of}
use Rattle.lin_formula.specs.Holds.{Sets}

-- the men of a mask
abbrev pub is_live : ℕ → ℕ → Bool
is_live mask k = bit_at mask (k - 1) == 1

-- the live men except one
abbrev pub without : (ℕ → Bool) → ℕ → ℕ → Bool
without live t k = live k && not (k == t)

abbrev pub place_at : Bool → Square → Place
place_at b z = if b then At z.x z.y else Gone

-- the men of the stock, numbered from k, with the live ones on their squares
abbrev pub men_from : ℕ → List Man → (ℕ → Bool) → (ℕ → Square) → List Man
men_from k [] live f = []
men_from k (m ∷ ms) live f = record m { place = place_at (live k) (f k) } ∷ men_from (suc k) ms live f

abbrev pub placed : List Man → (ℕ → Bool) → Side → (ℕ → Square) → Position
placed stock live turn f = record { men = men_from 1 stock live f; turn = turn }

-- the position is in the set
abbrev pub IsMember : Sets → ℕ → Position → Type 0
IsMember e s p = e s (tuple_of p)

-- the live men of each position of the set stand on distinct squares
abbrev pub HoldsApart : Sets → ℕ → List Man → (ℕ → Bool) → Side → Type 0
HoldsApart e s stock live turn =
    (f : ℕ → Square) → IsMember e s (placed stock live turn f) → IsApart (placed stock live turn f)

-- man k can be in a mask, and is
pub record IsLiveIn (mask k : ℕ) : Type 0 where
  pub low : 1 ≤ k
  pub high : k ≤ 8
  pub live : is_live mask k ≡ true
