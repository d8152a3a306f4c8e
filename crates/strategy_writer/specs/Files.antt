-- Which bytes are the file of a claim, in either version.
use Rattle.std.specs.Prelude.{◌≡◌, ℕ, ◌≤◌, List, length}
use Rattle.std.specs.List.{All}
use Rattle.mate_plan.specs.Claim.{Claim}
use Rattle.strategy_file.specs.declared.most.TheConstants.{MOST_FILED_STATES}
use Rattle.strategy_file.specs.declared.version.Version.{Version}
use Rattle.strategy_file.specs.declared.version.Version.TheVariants as versions
use Rattle.strategy_writer.specs.Written.{written_dense}
use Rattle.strategy_writer.specs.SharedWritten.{IsSharedFile}

abbrev pub IsBytesOf : Version → Claim → List ℕ → Type 0
IsBytesOf versions.Dense c bytes = bytes ≡ written_dense c
IsBytesOf versions.Shared c bytes = IsSharedFile c bytes

-- the number of bytes of that file
pub record IsLengthOf (version : Version) (c : Claim) (size : ℕ) : Type 0 where
  pub bytes : List ℕ
  pub are : IsBytesOf version c bytes
  pub size_is : size ≡ length bytes

-- the number is the greatest number of states of the claim's sets
pub record IsMostStatesOf (c : Claim) (states : ℕ) : Type 0 where
  pub within : All (λ d. length d.set.accept ≤ states) c.sets
  pub least : (n : ℕ) → All (λ d. length d.set.accept ≤ n) c.sets → states ≤ n

-- each set of the claim has at most as many states as a set in a file may have
abbrev pub HasFiledSets : Claim → Type 0
HasFiledSets c = All (λ d. length d.set.accept ≤ MOST_FILED_STATES) c.sets
