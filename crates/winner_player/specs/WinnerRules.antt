-- The winner of a game as a side that is played against lines.
use Rattle.std.specs.Prelude.{◌≡◌, ℕ, suc, Option}
use Rattle.game_rules.specs.Game.{Position, Mate, other}
use Rattle.game_rules.specs.declared.men.Side.{Side}
use Rattle.chess_game.specs.declared.way.Frame.{Frame}
use Rattle.mate_plan.specs.Claim.{Claim, IsClaimed}
use Rattle.winning_sets.specs.Kept.{Kept}
use Rattle.winning_sets.specs.Claimed.{claim_of}
use Rattle.winning_sets.specs.Solve.{Solution}
use Rattle.winning_sets.specs.declared.origin.Origin.{Origin}
use Rattle.winning_sets.specs.declared.origin.Origin.TheVariants.{Plan, Claim as Claimed}
use Rattle.move_choice.specs.Choice.{Pick}
use Rattle.move_choice.specs.Squares.{all_squares}
use Rattle.move_choice.specs.declared.choice.Choice.{Choice}
use Rattle.play_loop.specs.Turns.{Rules}
use Rattle.play_loop.specs.declared.ending.Ending.TheVariants.{Mated}
use Rattle.play_loop.specs.declared.player.GameState.{GameState}
use Rattle.play_loop.specs.declared.player.GameState.TheVariants.{Over, LineDue, ToMove}
use Rattle.winner_session.specs.Game.{Game, IsGame, start_of}

-- the strategy of the winner: the kept positions of the plan from the start of the game, or the claimed ones
pub data Strategy : Type 0 where
  ByKept : Strategy
  ByClaim : Claim → Strategy

-- a game: the winner, the starting position, the number of moves, the strategy, the frame of target squares, and the
-- position after `ply` moves of both sides
pub record Match : Type 0 where
  pub winner : Side
  pub start : Position
  pub moves : ℕ
  pub strategy : Strategy
  pub frame : Frame
  pub position : Position
  pub ply : ℕ

-- the game after a move to this position
abbrev pub moved : Match → Position → Match
moved g q =
    record {
      winner = g.winner;
      start = g.start;
      moves = g.moves;
      strategy = g.strategy;
      frame = g.frame;
      position = q;
      ply = suc g.ply;
    }

-- the position is one that the winner's moves must reach at the ply: it is kept, or it is claimed
abbrev pub IsHeldBy : Strategy → Match → ℕ → Position → Type 0
IsHeldBy ByKept g ply q = Kept g.winner g.start g.moves ply q
IsHeldBy (ByClaim c) g ply q = IsClaimed c ply q

-- the winner's first move, by man, ray and distance, that goes to a square of the frame and leads to such a position
abbrev pub HeldPick : Match → Option Choice → Type 0
HeldPick g choice = Pick (IsHeldBy g.strategy g (suc g.ply)) g.frame g.position choice

-- it is the loser's turn
abbrev pub IsLosersTurn : Match → Type 0
IsLosersTurn g = g.position.turn ≡ other g.winner

-- the state of the game: the loser's turn, mated or not, or the winner's turn
abbrev pub StandsAs : Match → GameState → Type 0
StandsAs g (Over ending) = (ending ≡ Mated) × IsLosersTurn g × Mate g.position
StandsAs g LineDue = IsLosersTurn g × (Mate g.position → ⊥)
StandsAs g ToMove = g.position.turn ≡ g.winner

-- the rules by which the winner plays
abbrev pub winner_rules : Rules Match
winner_rules =
    record {
      position = λ (g : Match). g.position;
      moved = moved;
      side = λ (g : Match). g.winner;
      Stands = StandsAs;
      Picks = HeldPick;
    }

-- the strategy of the winner with these sets
abbrev pub strategy_by : Origin → Solution → Strategy
strategy_by Plan s = ByKept
strategy_by Claimed s = ByClaim (claim_of s)

abbrev pub strategy_of : Solution → Strategy
strategy_of s = strategy_by s.origin s

-- the game of a session, as a report has it
abbrev pub seen : Game → Match
seen g =
    record {
      winner = g.solution.winner;
      start = g.solution.position;
      moves = g.solution.moves;
      strategy = strategy_of g.solution;
      frame = g.frame;
      position = g.position;
      ply = g.ply;
    }

-- the game of a solved position before the first move, as a report has it
abbrev pub first_seen : Solution → Match
first_seen s = seen (start_of s all_squares)

-- the game is that of a session
abbrev pub IsOfSession : Match → Type 0
IsOfSession m = (g : Game) × IsGame g × (seen g ≡ m)
