use Rattle.rule_formula.proofs.ApartLemmas.{apart_counted, apart_drawn}
use Rattle.rule_formula.proofs.atoms.on.Goals as goal

pub line-requires-clause-drawn : goal.line-requires-clause-drawn
line-requires-clause-drawn c = apart_drawn _ _ c.requires.first

pub ahead-requires : goal.ahead-requires
ahead-requires c = apart_counted _ _ c.requires.first

pub ahead-requires-then-ray : goal.ahead-requires-then-ray
ahead-requires-then-ray c = apart_counted _ _ c.requires.last
