use Rattle.std.proofs.Common.{ℕ, None, Some, sym, subst}
use Rattle.set_plan.specs.Outcome.{Ends, IsPlanError}
use Rattle.claim_plan.specs.CheckPlan.{check_plan}
use Rattle.strategy_file.specs.Claims.{claim_of}
use Rattle.claim_check.specs.Ready.{claim_in}
use Rattle.claim_check.proofs.CheckEnds.{error_alike, found_alike}
use Rattle.claim_check.proofs.WonSets.{won_sets}
use Rattle.claim_check.proofs.checking.check.Goals as goal

pub into_solved-requires : goal.into_solved-requires
into_solved-requires c =
    let sets = c.in_ok-reduced.reduced in
    let Within : ℕ → Type 0 = λ b. Ends (check_plan (claim_in sets)) b None in
    won_sets c.in_ok-reduced.ensures.ready (subst Within c.new-2.ensures.budget (rw (c.in-Ok-None.is, c.in-Ok-None.field-0-is) at c.check_plan.ensures))

pub returns-in-Ok-None-clause-won : goal.returns-in-Ok-None-clause-won
returns-in-Ok-None-clause-won c =
    let sets = c.in_ok-reduced.reduced in
    let Within : ℕ → Type 0 = λ b. Ends (check_plan (claim_in sets)) b None in
    found_alike (claim_of c.args.claim) (claim_in sets) c.in_ok-reduced.ensures.same c.args.budget None
    (subst Within c.new-2.ensures.budget (rw (c.in-Ok-None.is, c.in-Ok-None.field-0-is) at c.check_plan.ensures))

pub returns-in-Ok-Some-clause-error : goal.returns-in-Ok-Some-clause-error
returns-in-Ok-Some-clause-error c =
    let sets = c.in_ok-reduced.reduced in
    let Within : ℕ → Type 0 = λ b. Ends (check_plan (claim_in sets)) b (Some c.in-Ok-Some.rule) in
    found_alike (claim_of c.args.claim) (claim_in sets) c.in_ok-reduced.ensures.same c.args.budget (Some c.in-Ok-Some.rule)
    (subst Within c.new-2.ensures.budget (rw (c.in-Ok-Some.is, c.in-Ok-Some.field-0-is) at c.check_plan.ensures))

pub returns-in-Err-clause-error : goal.returns-in-Err-clause-error
returns-in-Err-clause-error c =
    let sets = c.in_ok-reduced.reduced in
    let same = c.in_ok-reduced.ensures.same in
    let Within : ℕ → Type 0 = λ b. IsPlanError (check_plan (claim_in sets)) b c.in-Err.error in
    error_alike (claim_of c.args.claim) (claim_in sets) same c.args.budget c.check_error.result
    (c.check_error.ensures (claim_in sets) c.args.budget (sym same.moves) (subst Within c.new-2.ensures.budget (rw c.in-Err.is at c.check_plan.ensures)))
