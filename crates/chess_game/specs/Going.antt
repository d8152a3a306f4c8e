-- The men of a list, before and after one of them goes to a square.
use Rattle.std.specs.Prelude.{◌≡◌, ◌≢◌, ℕ, ◌<◌, List, length, slice_index_or}
use Rattle.game_rules.specs.Game.{IsLeftBy}
use Rattle.game_rules.specs.declared.men.Man.{Man}
use Rattle.game_rules.specs.declared.men.Place.TheVariants.{At}
use Rattle.game_rules.specs.declared.men.Square.{Square}

-- the man at the index goes to the square
abbrev pub GoesTo : Square → ℕ → List Man → List Man → Type 0
GoesTo to index old new =
    (d : Man) → slice_index_or new index d ≡ record (slice_index_or old index d) { place = At to.x to.y }

-- every other man becomes what IsLeftBy says
abbrev pub AreLeftBut : Square → ℕ → List Man → List Man → Type 0
AreLeftBut to index old new =
    (k : ℕ) (d : Man) → k < length old → k ≢ index → IsLeftBy to (slice_index_or old k d) (slice_index_or new k d)
