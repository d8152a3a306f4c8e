-- The file of the kept sets, defined from a position, a winner and a number of moves.
use Rattle.std.specs.Prelude.{◌≡◌, ℕ, ◌<◌, List, map, Ok}
use Rattle.std.specs.List.{All}
use Rattle.auto_core.specs.Integers.{DecidesIntegers}
use Rattle.auto_reduce.specs.Tables.{IsInOrder}
use Rattle.game_rules.specs.Game.{Position}
use Rattle.game_rules.specs.declared.men.Side.{Side}
use Rattle.rule_formula.specs.Mean.{mask_tracks}
use Rattle.mate_plan.specs.Claim.{Claim, ClaimedSet, IsClaim}
use Rattle.mate_plan.specs.Won.{Won}
use Rattle.winning_sets.specs.Kept.{Kept}
use Rattle.winning_sets.specs.Solve.{HasTuplesOf}
use Rattle.strategy_file.specs.Claims.{claim_with}
use Rattle.strategy_file.specs.Fitting.{HasFile}
use Rattle.strategy_file.specs.StrategyFile.{Charts, File, places_of}
use Rattle.strategy_writer.specs.Written.{most_bytes}
use Rattle.strategy_writer.specs.Files.{HasFiledSets, IsBytesOf, IsLengthOf, IsMostStatesOf}
use Rattle.strategy_file.specs.declared.most.TheConstants.{MOST_FILED_STATES}
use Rattle.strategy_file.specs.declared.version.Version.{Version}

-- The set decides a set of integers and contains the coordinates of the positions kept at its ply with the live men of
-- its mask. It is minimal, and its states are numbered in the order of a breadth-first traversal in ascending letters.
-- So its table is determined.
pub record IsKeptSetOf (winner : Side) (p : Position) (moves : ℕ) (c : ClaimedSet) : Type 0 where
  pub tracks : c.set.tracks ≡ mask_tracks p c.mask
  pub integers : DecidesIntegers c.set
  pub tuples : HasTuplesOf (Kept winner p moves c.ply) c.mask c.set
  pub in_order : IsInOrder c.set

-- the claim of the kept sets: one for each ply of the loser and each mask, in order
pub record IsKeptClaim (winner : Side) (p : Position) (moves : ℕ) (c : Claim) : Type 0 where
  pub position_is : c.position ≡ p
  pub winner_is : c.winner ≡ winner
  pub moves_are : c.moves ≡ moves
  pub places : map (λ d. (d.ply, d.mask)) c.sets ≡ places_of winner p moves
  pub sets : All (IsKeptSetOf winner p moves) c.sets

-- the bytes are the file of that claim
pub record IsKeptFile (version : Version) (winner : Side) (p : Position) (moves : ℕ) (bytes : List ℕ) : Type 0 where
  pub claim : Claim
  pub kept : IsKeptClaim winner p moves claim
  pub has_file : HasFile version claim
  pub bytes_are : IsBytesOf version claim bytes

-- that file would have this number of bytes, which is too many; each of its sets has few enough states
pub record IsKeptTooLarge (version : Version) (winner : Side) (p : Position) (moves : ℕ) (size : ℕ) : Type 0 where
  pub claim : Claim
  pub kept : IsKeptClaim winner p moves claim
  pub few : HasFiledSets claim
  pub size_is : IsLengthOf version claim size
  pub large : most_bytes < size

-- the largest set of that claim has this number of states, which is too many for a file
pub record HasLargeKeptSet (winner : Side) (p : Position) (moves : ℕ) (states : ℕ) : Type 0 where
  pub claim : Claim
  pub kept : IsKeptClaim winner p moves claim
  pub most : IsMostStatesOf claim states
  pub large : MOST_FILED_STATES < states

-- the bytes are read as tables whose claim, of this position, winner and number of moves, is won
pub record IsReadAsWon (winner : Side) (p : Position) (moves : ℕ) (bytes : List ℕ) : Type 0 where
  pub charts : Charts
  pub read : File bytes (Ok charts)
  pub position_is : charts.position ≡ p
  pub winner_is : charts.winner ≡ winner
  pub moves_are : charts.moves ≡ moves
  pub claim : IsClaim (claim_with charts)
  pub won : Won (claim_with charts)
