use Rattle.auto_disjoint.proofs.MetPairs.{Adds-insert}
use Rattle.auto_disjoint.proofs.met.PairWorklist.add.Goals as goal

pub returns : goal.returns
returns c =
    let made = c.in_ok-insert_full.ensures in
    rw (← c.self.view_is) (Adds-insert _ _ _ made.stored.0 _ made.keys made.stored.1 made.stored.2)
