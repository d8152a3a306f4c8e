-- The file of a solved position.
use Rattle.std.specs.Prelude.{◌≡◌, ℕ, ◌<◌, ◌≤◌, List, length, map, Some}
use Rattle.std.specs.List.{All}
use Rattle.auto_core.specs.Automaton.{Automaton}
use Rattle.auto_reduce.specs.Tables.{AcceptSameWords, IsInOrder}
use Rattle.mate_plan.specs.Claim.{Claim, ClaimedSet}
use Rattle.winning_sets.specs.Solve.{Solution, kept_at}
use Rattle.strategy_file.specs.StrategyFile.{places_of}
use Rattle.strategy_file.specs.Fitting.{HasFile}
use Rattle.strategy_writer.specs.Written.{most_bytes}
use Rattle.strategy_writer.specs.Files.{HasFiledSets, IsBytesOf, IsLengthOf, IsMostStatesOf}
use Rattle.strategy_file.specs.declared.most.TheConstants.{MOST_FILED_STATES}
use Rattle.strategy_file.specs.declared.version.Version.{Version}
use Rattle.strategy_writer.specs.declared.writing.WriteFileError.{WriteFileError}
use Rattle.strategy_writer.specs.declared.writing.WriteFileError.TheVariants.{TooLarge, SetTooLarge, Memory}

-- The set accepts the words that the kept set of its ply and mask accepts. It is minimal, and its states are numbered
-- in the order of a breadth-first traversal in ascending letters.
pub record IsOfKeptSet (s : Solution) (c : ClaimedSet) : Type 0 where
  pub kept : Automaton
  pub is_there : kept_at s c.ply c.mask ≡ Some kept
  pub tracks : c.set.tracks ≡ kept.tracks
  pub words : AcceptSameWords c.set kept
  pub in_order : IsInOrder c.set
  pub fewer : length c.set.accept ≤ length kept.accept

-- the claim of a solved position: the kept set for each ply of the loser and each mask, in order
pub record IsClaimOf (s : Solution) (c : Claim) : Type 0 where
  pub position : c.position ≡ s.position
  pub winner : c.winner ≡ s.winner
  pub moves : c.moves ≡ s.moves
  pub places : map (λ d. (d.ply, d.mask)) c.sets ≡ places_of s.winner s.position s.moves
  pub sets : All (IsOfKeptSet s) c.sets

-- the bytes are the file, of a version, of the solved position's claim
pub record IsFileOf (version : Version) (s : Solution) (bytes : List ℕ) : Type 0 where
  pub claim : Claim
  pub of : IsClaimOf s claim
  pub has_file : HasFile version claim
  pub bytes_are : IsBytesOf version claim bytes

-- that file would have this number of bytes, which is too many; each of its sets has few enough states
pub record IsTooLarge (version : Version) (s : Solution) (size : ℕ) : Type 0 where
  pub claim : Claim
  pub of : IsClaimOf s claim
  pub few : HasFiledSets claim
  pub size_is : IsLengthOf version claim size
  pub large : most_bytes < size

-- the largest set of the solved position's claim has this number of states, which is too many for a file
pub record HasLargeSet (s : Solution) (states : ℕ) : Type 0 where
  pub claim : Claim
  pub of : IsClaimOf s claim
  pub most : IsMostStatesOf claim states
  pub large : MOST_FILED_STATES < states

-- why the file of a solved position is not written
abbrev pub IsFileRefusal : Version → Solution → WriteFileError → Type 0
IsFileRefusal version s (TooLarge size) = IsTooLarge version s size
IsFileRefusal version s (SetTooLarge states) = HasLargeSet s states
IsFileRefusal version s Memory = Unit {0}
