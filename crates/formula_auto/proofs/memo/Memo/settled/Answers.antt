use Rattle.auto_core.specs.Automaton.{Automaton}
use Rattle.auto_core.specs.Reduced.{IsReduced}
use Rattle.std.proofs.Common.{IfOk}
use Rattle.formula_auto.specs.Nodes.{AcceptSame}
use Rattle.formula_auto.specs.PartOf.{IsPart}
use Rattle.formula_auto.proofs.BothOk.{both_ok}
use Rattle.formula_auto.proofs.Shorts.{short_same}
use Rattle.formula_auto.proofs.memo.Memo.settled.Goals as goal

pub returns-in-Ex : goal.returns-in-Ex
returns-in-Ex c =
    let two : IfOk c.taken.result (λ made. IsReduced made × ((a : Automaton) → IsPart c.args.self.now c.args.meets.now c.args.part a → AcceptSame a made)) =
    both_ok c.taken.result _ _ _ (λ made reduced same. (reduced, same)) c.taken.ensures.reduced c.taken.ensures.same in
    both_ok c.taken.result _ _ _
    (λ made p fewer. short_same c.requires.short (p.1 c.requires.auto c.requires.has) p.0.reached (fewer c.requires.auto c.requires.has)) two c.taken.ensures.fewer
