use Rattle.auto_walk.proofs.ResidueLemmas.{IsRow-bits, first-by_bit}
use Rattle.auto_walk.proofs.residues.ResiduesWalk.first_row.Goals as goal

pub returns-clause-row : goal.returns-clause-row
returns-clause-row c = IsRow-bits _ _ c.args.self.now.one_track (first-by_bit c.args.self.now.modulus) c.in_ok-node.ensures.row
