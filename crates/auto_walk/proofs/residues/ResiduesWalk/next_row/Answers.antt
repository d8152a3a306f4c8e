use Rattle.auto_walk.proofs.ResidueLemmas.{IsRow-bits, next-by_bit}
use Rattle.auto_walk.proofs.residues.ResiduesWalk.next_row.Goals as goal

pub returns-clause-row : goal.returns-clause-row
returns-clause-row c =
    let at = c.residue_of-residue.ensures in
    record {
      place = at.0;
      is = at.1;
      row =
          IsRow-bits _ _ c.args.self.now.one_track
          (λ letter. next-by_bit c.args.self.now.modulus letter _ _ at.0 (rw at.2 at c.after-low.ensures) (rw at.2 at c.after-high.ensures))
          c.in_ok-node.ensures.row;
    }
