use Rattle.auto_merge.proofs.States.{LeadsToOne-leaf, LeadsByTrack-test}
use Rattle.auto_merge.proofs.state_rows.AutomatonRowsRowSource.look.Goals as goal
use Rattle.auto_merge.proofs.state_rows.AutomatonRowsRowSource.look.Goals.{in-Leaf, in-Test}

pub returns-clause-look : goal.returns-clause-look
returns-clause-look c = elim c.match-shape.branch [
  | in-Leaf w ↦ rw w.result-is (LeadsToOne-leaf c.requires.read (rw c.diagrams.ensures.shapes at w.in-Leaf.ensures.at))
  | in-Test w ↦ rw w.result-is (
      let shape = w.in-Test.ensures in
      LeadsByTrack-test c.requires.read (rw c.diagrams.ensures.shapes at shape.at) (rw c.diagrams.ensures.shapes at shape.fits) (rw c.diagrams.ensures.shapes at shape.children))
]
