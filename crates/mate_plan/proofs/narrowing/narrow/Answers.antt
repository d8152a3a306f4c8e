use Rattle.std.proofs.Common.{◌<◌, ◌∙◌, length, sym, arith}
use Rattle.std.proofs.lemmas.Bool.{eqb-false}
use Rattle.std.proofs.lemmas.Result.{err_from_is_err_and}
use Rattle.lin_formula.specs.SetOf.{as_set}
use Rattle.rule_formula.specs.declared.opt.Bearing.{Bearing}
use Rattle.rule_formula.specs.Mean.{mask_tracks}
use Rattle.set_plan.specs.Program.{Give, each}
use Rattle.set_plan.specs.Unite.{Made}
use Rattle.set_plan.proofs.Composition.{Error-bind}
use Rattle.set_plan.proofs.Renewals.{set-reduced_on}
use Rattle.mate_plan.specs.Plan.{Program, narrow_by}
use Rattle.mate_plan.specs.PlanOf.{rules_of}
use Rattle.mate_plan.proofs.SafeAnswers.{narrowed}
use Rattle.mate_plan.proofs.narrowing.narrow.Goals as goal

pub returns-in_err-made-clause-answers : goal.returns-in_err-made-clause-answers
returns-in_err-made-clause-answers c =
    let by : Bearing → Made → Program Made = narrow_by (rules_of c.args.bench.now.position.now) c.args.stage.ply c.args.stage.mask in
    let p = err_from_is_err_and c.from_residual.result c.from_residual.ensures.1 in
    rw (p.1, p.2) (Error-bind (each c.args.bearings.now by (as_set c.args.moved, 1)) (λ made. Give made.0) c.args.work.now.memo.budget c.in_err-made.field-0.0 c.in_err-made.ensures.answers)

pub returns-clause-answers : goal.returns-clause-answers
returns-clause-answers c =
    let none = eqb-false (length c.args.bearings.now) 0 (sym c.is_empty.ensures ∙ c.if-is_empty.false) in
    let some : 0 < length c.args.bearings.now = omega (arith, none) in
    narrowed c.args.bench.now.position.now c.args.stage.ply c.args.stage.mask c.args.work.now.memo.budget (as_set c.args.moved) c.args.bearings.now some
    c.in_ok-made.made c.in_ok-last.last c.in_ok-last.ensures c.in_ok-made.ensures.answers

pub returns-clause-set : goal.returns-clause-set
returns-clause-set c =
    set-reduced_on (mask_tracks c.args.bench.now.position.now c.args.stage.mask) c.in_ok-made.made.set c.in_ok-last.last.set c.in_ok-last.ensures.1 c.in_ok-made.ensures.fits.1
