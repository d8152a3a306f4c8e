use Rattle.formula_auto.proofs.Chains.{together-short}
use Rattle.formula_auto.proofs.memo.Memo.together.Goals as goal

pub keep_short-requires : goal.keep_short-requires
keep_short-requires c = rw c.in_ok-formula.ensures (together-short c.requires.rest c.requires.short c.in_ok-auto.ensures)
