-- The file written for a claim, with its sets reduced.
use Rattle.std.specs.Prelude.{◌≡◌, ◌<◌, ◌≤◌, ℕ, List, length}
use Rattle.std.specs.List.{AllZip}
use Rattle.auto_reduce.specs.Tables.{AcceptSameWords, IsInOrder}
use Rattle.mate_plan.specs.Claim.{Claim, ClaimedSet}
use Rattle.strategy_file.specs.declared.version.Version.TheVariants as versions
use Rattle.strategy_writer.specs.declared.writing.WriteFileError.{WriteFileError}
use Rattle.strategy_writer.specs.declared.writing.WriteFileError.TheVariants.{TooLarge, SetTooLarge, Memory}
use Rattle.strategy_writer.specs.Files.{IsBytesOf, IsLengthOf}
use Rattle.strategy_writer.specs.Written.{most_bytes}

-- The set accepts the words that the claimed set accepts. It is minimal, and its states are numbered in the order of a
-- breadth-first traversal in ascending letters. So its table is determined.
pub record IsReducedSet (of made : ClaimedSet) : Type 0 where
  pub ply : made.ply ≡ of.ply
  pub mask : made.mask ≡ of.mask
  pub tracks : made.set.tracks ≡ of.set.tracks
  pub words : AcceptSameWords made.set of.set
  pub in_order : IsInOrder made.set
  pub fewer : length made.set.accept ≤ length of.set.accept

-- the claim with its sets reduced
pub record IsReducedClaim (of made : Claim) : Type 0 where
  pub position : made.position ≡ of.position
  pub winner : made.winner ≡ of.winner
  pub moves : made.moves ≡ of.moves
  pub sets : AllZip IsReducedSet of.sets made.sets

-- the bytes are the file of version 2 written for the claim
pub record IsWrittenOf (c : Claim) (bytes : List ℕ) : Type 0 where
  pub reduced : Claim
  pub is : IsReducedClaim c reduced
  pub file : IsBytesOf versions.Shared reduced bytes

-- that file would have this number of bytes, which is too many
pub record IsWrittenTooLarge (c : Claim) (size : ℕ) : Type 0 where
  pub reduced : Claim
  pub is : IsReducedClaim c reduced
  pub size_is : IsLengthOf versions.Shared reduced size
  pub large : most_bytes < size

abbrev pub IsWriteClaimRefusal : Claim → WriteFileError → Type 0
IsWriteClaimRefusal c (TooLarge size) = IsWrittenTooLarge c size
IsWriteClaimRefusal c (SetTooLarge states) = ⊥
IsWriteClaimRefusal c Memory = Unit {0}
