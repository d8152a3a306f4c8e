-- The rules of a game that the loser plays.
use Rattle.std.specs.Prelude.{◌≡◌}
use Rattle.game_rules.specs.Game.{other}
use Rattle.play_loop.specs.Turns.{Rules}
use Rattle.play_loop.specs.declared.ending.Ending.TheVariants as ending
use Rattle.play_loop.specs.declared.player.GameState.{GameState}
use Rattle.play_loop.specs.declared.player.GameState.TheVariants.{Over, LineDue, ToMove}
use Rattle.winner_session.specs.Game.{Game}
use Rattle.loser_session.specs.Defending.{DefenceMatch, DefencePick, IsDefence, StandsAs, moved, seen}
use Rattle.loser_session.specs.declared.defence.Stand.{Stand}
use Rattle.loser_session.specs.declared.defence.Stand.TheVariants.{Held, Stuck, Attack, Answer}

-- the state of a game for the player of the loser
abbrev pub standing_of : Stand → GameState
standing_of Held = Over ending.Held
standing_of Stuck = Over ending.Stuck
standing_of Attack = LineDue
standing_of Answer = ToMove

-- the game has this state
abbrev pub StandsFor : DefenceMatch → GameState → Type 0
StandsFor g standing = (stand : Stand) × (standing ≡ standing_of stand) × StandsAs g stand

-- the loser's move is the first one, by man, ray and distance, that leads to a position from which the winner does not
-- mate within the moves left
abbrev pub loser_rules : Rules DefenceMatch
loser_rules =
    record {
      position = λ g. g.position;
      moved = moved;
      side = λ g. other g.winner;
      Stands = StandsFor;
      Picks = DefencePick;
    }

-- the game is that of a defence
pub record IsOfDefence (g : DefenceMatch) : Type 0 where
  pub game : Game
  pub defence : IsDefence game
  pub same : seen game ≡ g
