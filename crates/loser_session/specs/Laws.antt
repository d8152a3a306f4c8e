-- The laws of a defence.
use Rattle.std.specs.Prelude.{◌≡◌, ℕ, List, Some, slice_get}
use Rattle.game_rules.specs.Game.{HasMove, Value}
use Rattle.chess_game.specs.declared.moves.Move.{Move}
use Rattle.chess_game.specs.declared.way.Frame.{Frame}
use Rattle.mate_plan.specs.PlanOf.{plan_of}
use Rattle.winning_sets.specs.Solve.{IsSolution, IsWithin, Solution}
use Rattle.winning_sets.specs.declared.origin.Origin.TheVariants.{Plan}
use Rattle.move_choice.specs.Choice.{OnePick}
use Rattle.winner_session.specs.Game.{Game, start_of}
use Rattle.loser_session.specs.Defending.{DefenceMatch, Defends, HasMovesLeft, IsDefence, IsLosersTurn, IsMated, IsNextUnwon, IsSaved, seen, StandsAs}
use Rattle.loser_session.specs.Leading.{LeadsNowhere}
use Rattle.loser_session.specs.Unwon.{RestsFit}
use Rattle.loser_session.specs.declared.defence.Stand.{Stand}

-- after at most `moves` moves of the winner the loser is not mated, neither at the start nor after any move, whatever
-- moves are given
abbrev pub NeverMated : Type 0
NeverMated =
    (g : Game) (typed : List Move) (games : List Game) → IsDefence g → Defends g typed games
    → (IsMated (seen g) → ⊥)
    × ((k : ℕ) (after : Game) → slice_get games k ≡ Some after → IsSaved g after)

-- this is true from the start if the winner does not mate in time
abbrev pub StartIsDefence : Type 0
StartIsDefence =
    (s : Solution) (f : Frame) → s.origin ≡ Plan → IsSolution s → (Value s.winner s.moves s.position → ⊥)
    → IsDefence (start_of s f)

-- if it is the loser's turn and he has a legal move, not every one leads to a won position
abbrev pub MovesAreLeft : Type 0
MovesAreLeft =
    (g : Game) → IsDefence g → HasMovesLeft (seen g) → IsLosersTurn (seen g) → HasMove g.position
    → LeadsNowhere (IsNextUnwon (seen g)) g.position
    → ⊥

-- the loser has at most one move, and not both a move and none
abbrev pub OneDefencePick : Type 0
OneDefencePick = (g : DefenceMatch) → OnePick (IsNextUnwon g) g.frame g.position

-- a game has at most one state
abbrev pub OneStand : Type 0
OneStand = (g : DefenceMatch) (one two : Stand) → StandsAs g one → StandsAs g two → one ≡ two

-- a defence has at least one state
abbrev pub SomeStand : Type 0
SomeStand = (g : Game) → IsDefence g → (stand : Stand) × StandsAs (seen g) stand

-- if no step of the plan exceeds the budget, no step of its parts that subtract kept sets from reached ones does
abbrev pub PlanFits : Type 0
PlanFits =
    (s : Solution) (budget : ℕ) → IsSolution s → IsWithin (plan_of s.winner s.position s.moves) budget
    → RestsFit s budget
