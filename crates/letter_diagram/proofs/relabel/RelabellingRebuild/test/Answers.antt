use Rattle.std.proofs.Common.{◌∙◌}
use Rattle.letter_diagram.proofs.Narrow.{chosen-relabelled, relabelled-moves}
use Rattle.letter_diagram.proofs.relabel.RelabellingRebuild.test.Goals as goal

pub returns-clause-map : goal.returns-clause-map
returns-clause-map c = λ letter. c.in_ok-node.ensures.map letter ∙ chosen-relabelled c.args.to.now c.args.self.now.tracks.now c.args.track c.args.low c.args.high letter c.requires.within

pub returns-clause-top : goal.returns-clause-top
returns-clause-top c = λ keeps. absurd (relabelled-moves _ keeps)
