use Rattle.auto_project.proofs.Places.{IsRow-first}
use Rattle.auto_project.proofs.subsets.SubsetsWalk.first_row.Goals as goal

pub returns-clause-row : goal.returns-clause-row
returns-clause-row c =
    let e = c.in_ok-node.ensures in
    IsRow-first c.args.self.now.are_rows e.placed e.added e.different
