use Rattle.letter_diagram.proofs.Added.{IsDiagram-adds, Grows-adds, IsAt-stored}
use Rattle.letter_diagram.proofs.diagrams.Diagrams.insert.Goals as goal

pub invariant_of-self-2 : goal.invariant_of-self-2
invariant_of-self-2 c = IsDiagram-adds _ c.args.shape c.self.invariant (rw c.self.view_is c.requires) c.in_ok-number.ensures.adds

pub returns-clause-at : goal.returns-clause-at
returns-clause-at c =
    let is = IsDiagram-adds _ c.args.shape c.self.invariant (rw c.self.view_is c.requires) c.in_ok-number.ensures.adds in
    IsAt-stored _ c.args.shape is c.in_ok-number.ensures.number

pub returns-clause-grows : goal.returns-clause-grows
returns-clause-grows c = rw (← c.self.view_is) (Grows-adds _ _ c.args.shape c.in_ok-number.ensures.adds)
