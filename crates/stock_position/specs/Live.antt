-- The live men of a position.
use Rattle.std.specs.Prelude.{◌<◌, List, [], ◌∷◌, length}
use Rattle.game_rules.specs.Game.{Position}
use Rattle.game_rules.specs.declared.men.Man.{Man}
use Rattle.game_rules.specs.declared.men.Place.{Place}
use Rattle.game_rules.specs.declared.men.Place.TheVariants.{Gone, At}
use Rattle.stock_position.specs.declared.live.LiveCount.{LiveCount}
use Rattle.stock_position.specs.declared.live.LiveCount.TheVariants.{TooFew, TooMany}
use Rattle.stock_position.specs.declared.live.TheConstants.{MOST_STOCK}

-- the man in front of the others, unless his place says that he is captured
abbrev pub with_live : Place → Man → List Man → List Man
with_live Gone m men = men
with_live (At x y) m men = m ∷ men

-- the live men, in order
abbrev pub live_men : List Man → List Man
live_men [] = []
live_men (m ∷ men) = with_live m.place m (live_men men)

-- the position without the captured men
abbrev pub live_of : Position → Position
live_of p = record { men = live_men p.men; turn = p.turn }

-- the reason applies to the number of live men
abbrev pub IsLiveRefusal : Position → LiveCount → Type 0
IsLiveRefusal p TooFew = length (live_men p.men) < 2
IsLiveRefusal p TooMany = MOST_STOCK < length (live_men p.men)
