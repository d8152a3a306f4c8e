use Rattle.std.proofs.Common.{rules}
use Rattle.letter_diagram.proofs.Mergings.{RemembersUnited-nothing}
use Rattle.letter_diagram.proofs.merger.Merger.new.Goals as goal

pub invariant_of-result : goal.invariant_of-result
invariant_of-result c = (c.requires, search rules, RemembersUnited-nothing c.new-united.ensures)
