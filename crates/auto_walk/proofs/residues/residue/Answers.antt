use Rattle.auto_walk.specs.Walker.{IsWalked}
use Rattle.auto_walk.specs.Residue.{residue_walker}
use Rattle.auto_walk.proofs.ResidueLemmas.{residue_words, residue_integers}
use Rattle.auto_walk.proofs.residues.residue.Goals as goal

made : (c : goal.In_ok-decided) → IsWalked (residue_walker c.in_ok-residues.residues.tracks.items c.args.modulus c.args.residue) c.in_ok-decided.decided
made c = rw (c.in_ok-residues.ensures.modulus, c.in_ok-residues.ensures.wanted) at c.in_ok-decided.ensures.ok

pub returns-clause-words : goal.returns-clause-words
returns-clause-words c = residue_words _ _ _ _ c.requires.modulus c.in_ok-residues.ensures.tracks (made c)

pub returns-clause-integers : goal.returns-clause-integers
returns-clause-integers c = residue_integers c.repeating_first_letter_keeps_values.ensures _ _ _ _ c.requires.modulus c.in_ok-residues.ensures.tracks (made c)
