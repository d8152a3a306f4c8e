use Rattle.std.proofs.Common.{ℕ, sym, ap, ◌∙◌}
use Rattle.std.proofs.lemmas.List.Elements.{All-head, All-tail}
use Rattle.mate_plan.specs.Plan.{Program}
use Rattle.claim_plan.specs.CheckPlan.{Finding, go_on}
use Rattle.claim_check.proofs.FindLemmas.{goes_into, goes_past, if_ok}
use Rattle.claim_check.proofs.in_turn.InTurnProgramFold.step.Goals as goal

pub check-requires-clause-fits : goal.check-requires-clause-fits
check-requires-clause-fits g c = c.requires.fits.1.0

pub check-requires-clause-item : goal.check-requires-clause-item
check-requires-clause-item g c = All-head (g.C.Checks.takes c.args.self.now.checks.now) c.args.item.now c.requires.fits.0 c.requires.fits.1.1

pub returns-then-is_some-clause-answers : goal.returns-then-is_some-clause-answers
returns-then-is_some-clause-answers g c =
    goes_past (g.C.Checks.program c.args.self.now.checks.now c.args.work.now.sets c.args.item.now) c.args.work.now.memo.budget c.args.found
    (sym c.is_some.ensures ∙ c.if-is_some.true)

pub returns-then-is_some-clause-fits : goal.returns-then-is_some-clause-fits
returns-then-is_some-clause-fits g c = λ rest h. (h.0, All-tail (g.C.Checks.takes c.args.self.now.checks.now) c.args.item.now rest h.1)

pub returns-clause-answers : goal.returns-clause-answers
returns-clause-answers g c =
    goes_into (g.C.Checks.program c.args.self.now.checks.now c.args.work.now.sets c.args.item.now) c.args.work.now.memo.budget c.args.found c.check.result
    (sym c.is_some.ensures ∙ c.if-is_some.false) c.check.ensures.finds

pub returns-clause-fits : goal.returns-clause-fits
returns-clause-fits g c =
    if_ok c.check.result _ (λ value rest h. (c.check.ensures.fits, All-tail (g.C.Checks.takes c.args.self.now.checks.now) c.args.item.now rest h.1))

pub returns-clause-program : goal.returns-clause-program
returns-clause-program g c =
    let Of : (ℕ → Program Finding) → ℕ → Finding → Program Finding = λ program item. go_on (program item) in
    ap Of c.check.ensures.same
