-- A game that the loser plays: its state, the loser's move, and the result of any list of moves given for the winner.
use Rattle.std.specs.Prelude.{◌≡◌, ◌⊎◌, ℕ, suc, ◌<◌, ◌≤◌, List, [], ◌∷◌, Option, Some, None}
use Rattle.game_rules.specs.Game.{Position, HasMove, Legal, Mate, Value, Win, other}
use Rattle.game_rules.specs.declared.men.Side.{Side}
use Rattle.chess_game.specs.declared.moves.Move.{Move}
use Rattle.chess_game.specs.declared.way.Frame.{Frame}
use Rattle.mate_plan.specs.PlanOf.{last_ply}
use Rattle.game_laws.specs.Sets.{LeadsInto}
use Rattle.winning_sets.specs.Kept.{moves_left}
use Rattle.winning_sets.specs.Reach.{Reach}
use Rattle.winning_sets.specs.Solve.{IsSolution}
use Rattle.winning_sets.specs.declared.origin.Origin.TheVariants.{Plan}
use Rattle.move_choice.specs.Choice.{Pick, target}
use Rattle.move_choice.specs.declared.choice.Choice.{Choice}
use Rattle.winner_session.specs.Game.{Game, made, made_in, moved_to}
use Rattle.loser_session.specs.declared.defence.Stand.{Stand}
use Rattle.loser_session.specs.declared.defence.Stand.TheVariants.{Held, Stuck, Attack, Answer}

-- The exposed state of a game that is defended: the winner, the starting position, the number of moves, the frame of
-- the loser's target squares, and the position after `ply` moves of both sides.
pub record DefenceMatch : Type 0 where
  pub winner : Side
  pub start : Position
  pub moves : ℕ
  pub frame : Frame
  pub position : Position
  pub ply : ℕ

abbrev pub seen : Game → DefenceMatch
seen g =
    record {
      winner = g.solution.winner;
      start = g.solution.position;
      moves = g.solution.moves;
      frame = g.frame;
      position = g.position;
      ply = g.ply;
    }

-- the number of moves that the winner has made
abbrev pub made_of : DefenceMatch → ℕ
made_of g = made g.winner g.start.turn g.ply

-- the last ply, where the winner has no move left
abbrev pub last_of : DefenceMatch → ℕ
last_of g = last_ply g.winner g.start.turn g.moves

-- the game after a move to this position
abbrev pub moved : DefenceMatch → Position → DefenceMatch
moved g q =
    record { winner = g.winner; start = g.start; moves = g.moves; frame = g.frame; position = q; ply = suc g.ply }

-- legal moves have led to the position of its ply, and from there the winner does not mate within the moves left
pub record IsUnwonMatch (g : DefenceMatch) : Type 0 where
  pub reached : Reach g.start g.ply g.position
  pub within : g.ply ≤ last_of g
  pub not_won : Value g.winner (moves_left (last_of g) g.ply) g.position → ⊥

-- the invariant of a defence: the sets of its solution are those of a plan, and the winner does not mate in time
pub record IsDefence (g : Game) : Type 0 where
  pub plan : g.solution.origin ≡ Plan
  pub valid : IsSolution g.solution
  pub unwon : IsUnwonMatch (seen g)

-- the winner has a move left
abbrev pub HasMovesLeft : DefenceMatch → Type 0
HasMovesLeft g = made_of g < g.moves

abbrev pub IsWinnersTurn : DefenceMatch → Type 0
IsWinnersTurn g = g.position.turn ≡ g.winner

abbrev pub IsLosersTurn : DefenceMatch → Type 0
IsLosersTurn g = g.position.turn ≡ other g.winner

-- the state of the game: the winner has made all his moves; or the side to move has no legal move on the whole board;
-- or it is the winner's turn, or the loser's
abbrev pub StandsAs : DefenceMatch → Stand → Type 0
StandsAs g Held = made_of g ≡ g.moves
StandsAs g Stuck = HasMovesLeft g × (HasMove g.position → ⊥)
StandsAs g Attack = HasMovesLeft g × HasMove g.position × IsWinnersTurn g
StandsAs g Answer = HasMovesLeft g × HasMove g.position × IsLosersTurn g

-- from the position the winner does not mate within the moves that he has left at the next ply
abbrev pub IsNextUnwon : DefenceMatch → Position → Type 0
IsNextUnwon g q = Win g.winner (moves_left (last_of g) (suc g.ply)) q → ⊥

-- the loser's first move, by man, ray and distance, that goes to a square of the frame and leads to such a position
abbrev pub DefencePick : DefenceMatch → Option Choice → Type 0
DefencePick g choice = Pick (IsNextUnwon g) g.frame g.position choice

-- some legal move leads to such a position, to any square of the board
abbrev pub CanDefend : DefenceMatch → Type 0
CanDefend g = LeadsInto (IsNextUnwon g) g.position

-- the move is the loser's and has led to this game
pub record IsDefended (g : Game) (choice : Choice) (after : Game) : Type 0 where
  pub pick : DefencePick (seen g) (Some choice)
  pub legal : Legal g.position choice.mv.man (target choice.mv) after.position
  pub is_after : after ≡ moved_to g after.position

-- the same, of a move without its ray
abbrev pub IsDefendedBy : Game → Move → Game → Type 0
IsDefendedBy g mv after = (choice : Choice) × (choice.mv ≡ mv) × IsDefended g choice after

-- no more is played
abbrev pub IsOver : Game → List Game → Type 0
IsOver g games = (StandsAs (seen g) Held ⊎ StandsAs (seen g) Stuck) × (games ≡ [])

-- on the loser's turn: if he has no move in the frame, no more is played; otherwise he makes it and the game goes on
abbrev pub LoserContinues : (Game → List Game → Type 0) → Game → List Game → Type 0
LoserContinues On g games =
    IsOver g games
    ⊎ (StandsAs (seen g) Answer × DefencePick (seen g) None × (games ≡ []))
    ⊎ (StandsAs (seen g) Answer × ((choice : Choice) × (after : Game) × (later : List Game) × IsDefended g choice after
    × (games ≡ after ∷ later) × On after later))

-- on the winner's turn: the games after each move of either side if these moves are given in order. An illegal move
-- changes nothing.
abbrev pub Continues : Game → List Move → List Game → Type 0
Continues g [] games = games ≡ []
Continues g (mv ∷ typed) games =
    IsOver g games
    ⊎ (StandsAs (seen g) Attack × ((q : Position) → Legal g.position mv.man (target mv) q → ⊥) × Continues g typed games)
    ⊎ (StandsAs (seen g) Attack × ((q : Position) × (later : List Game) × Legal g.position mv.man (target mv) q
    × (games ≡ moved_to g q ∷ later)
    × LoserContinues (λ after rest. Continues after typed rest) (moved_to g q) later))

-- the same for either side's turn
abbrev pub Defends : Game → List Move → List Game → Type 0
Defends g typed games =
    (IsWinnersTurn (seen g) × Continues g typed games)
    ⊎ (IsLosersTurn (seen g) × LoserContinues (λ after later. Continues after typed later) g games)

-- it is the loser's turn, and he is mated
abbrev pub IsMated : DefenceMatch → Type 0
IsMated g = IsLosersTurn g × Mate g.position

-- the game goes on from the first one after at most as many moves of the winner as he had, and the loser is not mated
pub record IsSaved (g after : Game) : Type 0 where
  pub same : after.solution ≡ g.solution
  pub within : made_in after ≤ g.solution.moves
  pub not_mated : IsMated (seen after) → ⊥
