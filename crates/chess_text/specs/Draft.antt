-- The contents of a text that is being read.
use Rattle.std.specs.Prelude.{List, [], ◌∷◌, ◌++◌}
use Rattle.game_rules.specs.declared.men.Side.{Side}
use Rattle.game_rules.specs.declared.men.Man.{Man}

-- the contents of a text: the men, the side to move, and the winner
pub record Draft : Type 0 where
  pub men : List Man
  pub turn : Side
  pub winner : Side

-- contents without men
abbrev pub nobody : Side → Side → Draft
nobody turn winner = record { men = []; turn = turn; winner = winner }

-- the contents with one more man
abbrev pub with_man : Draft → Man → Draft
with_man d m = record { men = d.men ++ m ∷ []; turn = d.turn; winner = d.winner }
