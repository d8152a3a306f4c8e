-- Why the file of a claim is not written.
use Rattle.std.specs.Prelude.{◌<◌}
use Rattle.mate_plan.specs.Claim.{Claim}
use Rattle.strategy_writer.specs.Files.{IsLengthOf}
use Rattle.strategy_writer.specs.Written.{most_bytes}
use Rattle.strategy_file.specs.declared.version.Version.{Version}
use Rattle.strategy_writer.specs.declared.writing.WriteFileError.{WriteFileError}
use Rattle.strategy_writer.specs.declared.writing.WriteFileError.TheVariants.{TooLarge, SetTooLarge, Memory}

-- the file of the version would have this number of bytes, which is too many; or an allocation failed
abbrev pub IsWriteRefusal : Version → Claim → WriteFileError → Type 0
IsWriteRefusal version c (TooLarge n) = IsLengthOf version c n × (most_bytes < n)
IsWriteRefusal version c (SetTooLarge n) = ⊥
IsWriteRefusal version c Memory = Unit {0}
