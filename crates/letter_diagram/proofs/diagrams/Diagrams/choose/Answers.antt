use Rattle.letter_diagram.proofs.Choices.{RemembersChosen-nothing}
use Rattle.letter_diagram.proofs.diagrams.Diagrams.choose.Goals as goal

pub chosen-requires-clause-remembered : goal.chosen-requires-clause-remembered
chosen-requires-clause-remembered c = RemembersChosen-nothing c.new-memo.ensures
