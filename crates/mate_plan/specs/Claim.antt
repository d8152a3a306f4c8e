-- A claim: a position, a winner, a number of moves, and a set of positions for each ply of the loser and each mask.
use Rattle.std.specs.Prelude.{◌≡◌, ◌≢◌, ℕ, zero, suc, ◌+◌, ◌*◌, ◌==◌, ◌&&◌, ◌≤◌, if◌then◌else◌, List, [], ◌∷◌, length, Option, Some, None, IsSomeAnd}
use Rattle.auto_core.specs.Automaton.{Automaton}
use Rattle.auto_core.specs.Integers.{IsAccepted}
use Rattle.game_rules.specs.Game.{Position, Sound, other}
use Rattle.game_rules.specs.declared.men.Side.{Side}
use Rattle.lin_formula.specs.SetOf.{as_set}
use Rattle.rule_formula.specs.Fits.{IsGameMask}
use Rattle.mask_sets.specs.Stock.{mask_of}
use Rattle.game_laws.specs.Stock.{HasStock}
use Rattle.rule_formula.specs.Mean.{mask_tracks}
use Rattle.mask_sets.specs.Tuple.{tuple_of}
use Rattle.mate_plan.specs.Plan.{Level}
use Rattle.mate_plan.specs.PlanOf.{last_ply}
use Rattle.mate_plan.specs.Turns.{plies_before_turn}

-- a claimed set: of positions at a ply with these live men
pub record ClaimedSet : Type 0 where
  pub ply : ℕ
  pub mask : ℕ
  pub set : Automaton

pub record Claim : Type 0 where
  pub position : Position
  pub winner : Side
  pub moves : ℕ
  pub sets : List ClaimedSet

-- the first set of a ply and a mask
abbrev pub claimed_in : List ClaimedSet → ℕ → ℕ → Option Automaton
claimed_in [] ply mask = None
claimed_in (c ∷ sets) ply mask = if (c.ply == ply) && (c.mask == mask) then Some c.set else claimed_in sets ply mask

abbrev pub claimed_at : Claim → ℕ → ℕ → Option Automaton
claimed_at c ply mask = claimed_in c.sets ply mask

-- the claimed level of a ply: a set for each mask
abbrev pub claimed_level : Claim → ℕ → Level
claimed_level c ply mask = as_set (claimed_at c ply mask)

-- `count` plies, every second one
abbrev pub every_second : ℕ → ℕ → List ℕ
every_second ply zero = []
every_second ply (suc count) = ply ∷ every_second (ply + 2) count

-- the plies of the loser, from his first turn on: one for each move of the winner, and one more if the loser moves
-- first
abbrev pub losers_plies : Side → Side → ℕ → List ℕ
losers_plies winner first moves = every_second (plies_before_turn (other winner) first) (moves + plies_before_turn winner first)

-- the loser is to move at the ply, the last ply is an odd number of plies later, and the winner has `left` moves left
pub record IsLosersPly (winner : Side) (p : Position) (moves ply : ℕ) : Type 0 where
  pub left : ℕ
  pub before : ply + (2 * left + 1) ≡ last_ply winner p.turn moves

-- the claim is of a sound position and has exactly one set for each ply of the loser and each mask, over the tracks of
-- the mask's men
pub record IsClaim (c : Claim) : Type 0 where
  pub sound : Sound c.position
  pub few : length c.position.men ≤ 8
  pub found : (ply mask : ℕ) → IsLosersPly c.winner c.position c.moves ply → IsGameMask c.position mask
      → claimed_at c ply mask ≢ None
  pub only : (ply mask : ℕ) (a : Automaton) → claimed_at c ply mask ≡ Some a
      → IsLosersPly c.winner c.position c.moves ply × IsGameMask c.position mask
  pub tracks : (ply mask : ℕ) (a : Automaton) → claimed_at c ply mask ≡ Some a → a.tracks ≡ mask_tracks c.position mask

-- the position has the material of the claim, the loser is to move, and its coordinates are in the claimed set of its
-- mask
pub record IsClaimed (c : Claim) (ply : ℕ) (q : Position) : Type 0 where
  pub stock : HasStock c.position.men q
  pub turn : q.turn ≡ other c.winner
  pub is_in : IsSomeAnd (claimed_at c ply (mask_of q)) (λ a. IsAccepted a (tuple_of q))
