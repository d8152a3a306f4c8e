-- The laws of the strategy files that are written.
use Rattle.std.specs.Prelude.{◌≡◌, ◌≤◌, ℕ, List, length, Ok}
use Rattle.game_rules.specs.Game.{Position, Sound, Value}
use Rattle.game_rules.specs.declared.men.Side.{Side}
use Rattle.strategy_file.specs.StrategyFile.{Charts, File, charts_of}
use Rattle.mate_plan.specs.Claim.{Claim}
use Rattle.winning_sets.specs.Solve.{IsSolution, Solution}
use Rattle.mate_plan.specs.SameClaim.{IsSameClaim}
use Rattle.strategy_file.specs.Claims.{claim_with}
use Rattle.strategy_file.specs.Fitting.{HasFile, HasFileOf}
use Rattle.strategy_writer.specs.KeptFile.{HasLargeKeptSet, IsKeptFile, IsKeptTooLarge, IsReadAsWon}
use Rattle.strategy_writer.specs.SolvedFile.{HasLargeSet, IsFileOf, IsTooLarge}
use Rattle.strategy_writer.specs.Written.{most_bytes}
use Rattle.strategy_writer.specs.Files.{IsBytesOf}
use Rattle.strategy_writer.specs.ReducedClaims.{IsWrittenOf, IsWrittenTooLarge}
use Rattle.strategy_file.specs.declared.version.Version.{Version}

-- the file written for a claim that has a file is read as that claim
abbrev pub WrittenIsRead : Type 0
WrittenIsRead =
    (version : Version) (c : Claim) (bytes : List ℕ) → HasFile version c → IsBytesOf version c bytes
    → length bytes ≤ most_bytes → File bytes (Ok (charts_of c))

-- a claim has exactly one written file, or one size if that is too large
pub record HasOneWritten (c : Claim) : Type 0 where
  pub one_file : (a b : List ℕ) → IsWrittenOf c a → IsWrittenOf c b → a ≡ b
  pub one_size : (a b : ℕ) → IsWrittenTooLarge c a → IsWrittenTooLarge c b → a ≡ b
  pub same_size : (bytes : List ℕ) (size : ℕ) → IsWrittenOf c bytes → IsWrittenTooLarge c size → size ≡ length bytes

abbrev pub OneWritten : Type 0
OneWritten = (c : Claim) → HasOneWritten c

-- the file written for a claim that has a file is read as a claim with the same position, sides, number of moves and
-- words
pub record IsReadAsSame (c : Claim) (bytes : List ℕ) : Type 0 where
  pub charts : Charts
  pub read : File bytes (Ok charts)
  pub same : IsSameClaim c (claim_with charts)

abbrev pub WrittenIsSame : Type 0
WrittenIsSame =
    (c : Claim) (bytes : List ℕ) → HasFileOf c → IsWrittenOf c bytes → length bytes ≤ most_bytes → IsReadAsSame c bytes

-- a solved position has one file
abbrev pub OneFile : Type 0
OneFile = (version : Version) (s : Solution) (a b : List ℕ) → IsFileOf version s a → IsFileOf version s b → a ≡ b

-- the kept sets have one file, or one size if that is too large, or one largest set if that is too large
pub record HasOneKeptFile (version : Version) (winner : Side) (p : Position) (moves : ℕ) : Type 0 where
  pub one_file : (a b : List ℕ) → IsKeptFile version winner p moves a → IsKeptFile version winner p moves b → a ≡ b
  pub one_size : (a b : ℕ) → IsKeptTooLarge version winner p moves a → IsKeptTooLarge version winner p moves b → a ≡ b
  pub same_size : (bytes : List ℕ) (size : ℕ) → IsKeptFile version winner p moves bytes → IsKeptTooLarge version winner p moves size
      → size ≡ length bytes
  pub one_set : (a b : ℕ) → HasLargeKeptSet winner p moves a → HasLargeKeptSet winner p moves b → a ≡ b
  pub no_file : (bytes : List ℕ) (states : ℕ) → IsKeptFile version winner p moves bytes → HasLargeKeptSet winner p moves states → ⊥
  pub no_size : (size states : ℕ) → IsKeptTooLarge version winner p moves size → HasLargeKeptSet winner p moves states → ⊥

abbrev pub OneKeptFile : Type 0
OneKeptFile = (version : Version) (winner : Side) (p : Position) (moves : ℕ) → HasOneKeptFile version winner p moves

-- the file of a solved position is that of its kept sets, and so are its size and its largest set
pub record HasKeptFile (version : Version) (s : Solution) : Type 0 where
  pub file : (bytes : List ℕ) → IsFileOf version s bytes → IsKeptFile version s.winner s.position s.moves bytes
  pub size : (size : ℕ) → IsTooLarge version s size → IsKeptTooLarge version s.winner s.position s.moves size
  pub set : (states : ℕ) → HasLargeSet s states → HasLargeKeptSet s.winner s.position s.moves states

abbrev pub FileIsKept : Type 0
FileIsKept = (version : Version) (s : Solution) → IsSolution s → HasKeptFile version s

-- the file of the kept sets is read as a won claim if the winner mates in time
abbrev pub KeptFileIsClaim : Type 0
KeptFileIsClaim =
    (version : Version) (winner : Side) (p : Position) (moves : ℕ) (bytes : List ℕ) → Sound p → Value winner moves p
    → length bytes ≤ most_bytes → IsKeptFile version winner p moves bytes → IsReadAsWon winner p moves bytes
