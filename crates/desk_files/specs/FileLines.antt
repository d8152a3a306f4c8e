-- Fault lines of files.
use Rattle.std.specs.Prelude.{ℕ, List, ◌++◌, false, codes}
use Rattle.std.specs.Fmt.{decimal}
use Rattle.claim_plan.specs.declared.names.Rule.{Rule}
use Rattle.claim_plan.specs.declared.names.Rule.TheVariants as rule
use Rattle.claim_plan.specs.declared.names.RuleAt.{RuleAt}
use Rattle.strategy_file.specs.Layout.{Refusal, Cut, Byte, Extra}
use Rattle.strategy_file.specs.declared.refusal.ByteWhy.{ByteWhy}
use Rattle.strategy_file.specs.declared.refusal.ByteWhy.TheVariants as byte
use Rattle.desk_base.specs.Files.{Files}
use Rattle.desk_report.specs.Outcome.{Report, refusal_as}
use Rattle.desk_report.specs.declared.status.Status.TheVariants as is

-- the word for the reason why a field of a file is refused
abbrev pub byte_word : ByteWhy → List ℕ
byte_word byte.Magic = codes "magic"
byte_word byte.Version = codes "version"
byte_word byte.Moves = codes "moves"
byte_word byte.Turn = codes "turn"
byte_word byte.Count = codes "count"
byte_word byte.Side = codes "side"
byte_word byte.Kind = codes "kind"
byte_word byte.PlaceTag = codes "place"
byte_word byte.Unsound = codes "unsound"
byte_word byte.Ply = codes "ply"
byte_word byte.Men = codes "men"
byte_word byte.States = codes "states"
byte_word byte.Entry = codes "entry"
byte_word byte.Flag = codes "flag"
byte_word byte.Nodes = codes "nodes"
byte_word byte.Track = codes "track"
byte_word byte.Ref = codes "ref"

-- the fault line of bytes that are not a file
abbrev pub file_line : Refusal → List ℕ
file_line (Cut at) = codes "file cut at " ++ decimal at ++ codes "\n"
file_line (Byte at why) = codes "file byte " ++ decimal at ++ codes " " ++ byte_word why ++ codes "\n"
file_line (Extra at) = codes "file extra at " ++ decimal at ++ codes "\n"

-- the word for a rule of a claim
abbrev pub rule_word : Rule → List ℕ
rule_word rule.Sign = codes "sign"
rule_word rule.Same = codes "same"
rule_word rule.Guard = codes "guard"
rule_word rule.First = codes "first"
rule_word rule.Left = codes "left"
rule_word rule.Stale = codes "stale"

-- the fault line of a rule that is false of a file's claim
abbrev pub not_kept_line : RuleAt → List ℕ
not_kept_line failed =
    codes "file not kept at ply " ++ decimal failed.ply ++ codes " men " ++ decimal failed.mask ++ codes " rule "
    ++ rule_word failed.rule
    ++ codes "\n"

-- the fault line of a file that would have this number of bytes, which is too many
abbrev pub too_large_line : ℕ → List ℕ
too_large_line size = codes "file too large " ++ decimal size ++ codes "\n"

-- the fault line of a file in which a set would have this number of states, which is too many
abbrev pub set_too_large_line : ℕ → List ℕ
set_too_large_line states = codes "file set too large " ++ decimal states ++ codes "\n"

-- a run that refuses a file with this line and leaves these files
abbrev pub file_refused : Files → List ℕ → Report
file_refused files line = refusal_as files is.File line false
