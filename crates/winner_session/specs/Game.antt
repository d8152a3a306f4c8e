-- A game of the winner: the state of a session, and the result of any list of replies.
use Rattle.std.specs.Prelude.{◌≡◌, ◌⊎◌, ℕ, zero, suc, ◌+◌, ◌-◌, ◌<◌, ◌≤◌, List, [], ◌∷◌, length, Option, Some, None, slice_get}
use Rattle.auto_core.specs.Automaton.{Automaton}
use Rattle.game_rules.specs.Game.{Position, Legal, Lost, Value, other}
use Rattle.game_rules.specs.declared.men.Side.{Side}
use Rattle.chess_game.specs.declared.moves.Move.{Move}
use Rattle.chess_game.specs.declared.way.Frame.{Frame}
use Rattle.mate_plan.specs.Plan.{turn_at}
use Rattle.mate_plan.specs.Turns.{plies_before_turn}
use Rattle.game_laws.specs.Sets.{LeadsInto}
use Rattle.winning_sets.specs.Claimed.{IsHeld, IsValid}
use Rattle.winning_sets.specs.Reach.{Reach}
use Rattle.winning_sets.specs.Solve.{Solution, end_of, kept_at}
use Rattle.move_choice.specs.Choice.{OnePick, Pick, target}
use Rattle.move_choice.specs.declared.choice.Choice.{Choice}
use Rattle.winner_session.specs.declared.session.Played.{Played}

-- the state of a session: a solved position, a frame, and the position after `ply` moves
pub record Game : Type 0 where
  pub solution : Solution
  pub frame : Frame
  pub position : Position
  pub ply : ℕ

-- the game before the first move
abbrev pub start_of : Solution → Frame → Game
start_of s f = record { solution = s; frame = f; position = s.position; ply = 0 }

-- the game after a move to this position
abbrev pub moved_to : Game → Position → Game
moved_to g q = record { solution = g.solution; frame = g.frame; position = q; ply = suc g.ply }

-- on the loser's turn the position is held; on the winner's turn he has a legal move to a position held at the next ply
abbrev pub Stands : Game → Type 0
Stands g =
    ((g.position.turn ≡ other g.solution.winner) × IsHeld g.solution g.ply g.position)
    ⊎ ((g.position.turn ≡ g.solution.winner) × LeadsInto (IsHeld g.solution (suc g.ply)) g.position)

-- the invariant of a session: legal moves have led to the position of its ply, which is not the last one, and from
-- there the winner still mates in time by the held positions
pub record IsGame (g : Game) : Type 0 where
  pub valid : IsValid g.solution
  pub value : Value g.solution.winner g.solution.moves g.solution.position
  pub reached : Reach g.solution.position g.ply g.position
  pub before : g.ply < end_of g.solution
  pub stands : Stands g

-- how many of the first `ply` moves are the winner's, given the side that moves first
abbrev pub made : Side → Side → ℕ → ℕ
made winner first zero = 0
made winner first (suc ply) = made winner first ply + plies_before_turn (other winner) (turn_at first ply)

-- the number of moves that the winner has made in the game
abbrev pub made_in : Game → ℕ
made_in g = made g.solution.winner g.solution.position.turn g.ply

-- the winner's first move, by man, ray and distance, that goes to a square of the frame and leads to a held position
abbrev pub WinPick : Game → Option Choice → Type 0
WinPick g choice = Pick (IsHeld g.solution (suc g.ply)) g.frame g.position choice

-- there is at most one such move, and not both a move and none
abbrev pub OneWinPick : Type 0
OneWinPick = (g : Game) → OnePick (IsHeld g.solution (suc g.ply)) g.frame g.position

-- the move is the winner's pick and has led to this game
pub record IsPicked (g : Game) (choice : Choice) (after : Game) : Type 0 where
  pub pick : WinPick g (Some choice)
  pub legal : Legal g.position choice.mv.man (target choice.mv) after.position
  pub is_after : after ≡ moved_to g after.position

-- it is the loser's turn, and he is mated within the moves that the winner has left
pub record LostIn (g : Game) : Type 0 where
  pub left : ℕ
  pub count : left + made_in g ≡ g.solution.moves
  pub lost : Lost g.solution.winner left g.position

-- the game goes on from the first one by `more` moves of the winner, and is lost in time
pub record IsLostAfter (g : Game) (more : ℕ) (after : Game) : Type 0 where
  pub same : after.solution ≡ g.solution
  pub made : made_in after ≡ made_in g + more
  pub lost : LostIn after

-- on the winner's turn: if he has no pick, no more is played; otherwise he makes it and the game goes on
abbrev pub WinnerContinues : (Game → List Game → Type 0) → Game → List Game → Type 0
WinnerContinues On g games =
    (WinPick g None × (games ≡ []))
    ⊎ ((choice : Choice) × (after : Game) × (later : List Game) × IsPicked g choice after × (games ≡ after ∷ later)
    × On after later)

-- on the loser's turn: the games after each move of the winner if these replies are given in order. An illegal reply
-- changes nothing, and once the loser is mated no reply is legal.
abbrev pub Continues : Game → List Move → List Game → Type 0
Continues g [] games = games ≡ []
Continues g (mv ∷ typed) games =
    (((q : Position) → Legal g.position mv.man (target mv) q → ⊥) × Continues g typed games)
    ⊎ ((q : Position) × Legal g.position mv.man (target mv) q
    × WinnerContinues (λ after later. Continues after typed later) (moved_to g q) games)

-- the same for either side's turn
abbrev pub Plays : Game → List Move → List Game → Type 0
Plays g typed games =
    ((g.position.turn ≡ other g.solution.winner) × Continues g typed games)
    ⊎ ((g.position.turn ≡ g.solution.winner) × WinnerContinues (λ after later. Continues after typed later) g games)

-- each of these games is lost in time
abbrev pub AllLost : Type 0
AllLost =
    (g : Game) (typed : List Move) (games : List Game) → IsGame g → Plays g typed games
    → (k : ℕ) (after : Game) → slice_get games k ≡ Some after → IsLostAfter g (suc k) after

-- in a game of n moves, after the winner's move number k, counted from 0, the loser is mated within n - (k + 1)
abbrev pub WholeGameIsLost : Type 0
WholeGameIsLost =
    (s : Solution) (f : Frame) (typed : List Move) (games : List Game) → IsValid s → Value s.winner s.moves s.position
    → Plays (start_of s f) typed games
    → (k : ℕ) (after : Game) → slice_get games k ≡ Some after
    → (suc k ≤ s.moves) × Lost s.winner (s.moves - suc k) after.position

-- the choice of the move that was made
abbrev pub choice_of : Played → Choice
choice_of played = record { mv = played.mv; ray = played.ray; distance = played.distance }

-- a search has room for each of the kept sets
abbrev pub HasRoom : ℕ → Solution → Type 0
HasRoom states s = (ply mask : ℕ) (a : Automaton) → kept_at s ply mask ≡ Some a → length a.accept ≤ states
