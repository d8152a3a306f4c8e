use Rattle.std.proofs.Common.{ℕ, sym, ◌∙◌, subst}
use Rattle.set_plan.specs.Outcome.{Ends}
use Rattle.mate_plan.specs.Plan.{Program}
use Rattle.mate_plan.proofs.TurnLemmas.{moves_first}
use Rattle.claim_plan.specs.CheckPlan.{Finding, check_first}
use Rattle.claim_check.specs.Finds.{Finds}
use Rattle.claim_check.specs.Ready.{claim_in}
use Rattle.claim_check.proofs.FirstParts.{first_waiting, waits_is}
use Rattle.claim_check.proofs.first.check_first.Goals as goal

pub check_moving-requires-clause-turn : goal.check_moving-requires-clause-turn
check_moving-requires-clause-turn c =
    let d = claim_in c.args.claim.now in
    let is = waits_is d c.bench-bench.ensures.position c.winner.ensures c.turn.ensures c.plies_before_turn.ensures.plies in
    moves_first d.winner d.position.turn (is ∙ c.if-plies_before_turn-eq0.true)

pub returns-then-plies_before_turn-eq0-clause-finds : goal.returns-then-plies_before_turn-eq0-clause-finds
returns-then-plies_before_turn-eq0-clause-finds c =
    let d = claim_in c.args.claim.now in
    let is = waits_is d c.bench-bench.ensures.position c.winner.ensures c.turn.ensures c.plies_before_turn.ensures.plies in
    let After : ℕ → Type 0 = λ n. Finds (check_first d n) c.args.work.now.memo.budget c.check_moving.result in
    subst After (sym (is ∙ c.if-plies_before_turn-eq0.true)) c.check_moving.ensures.finds

pub returns-else-plies_before_turn-eq0-clause-finds : goal.returns-else-plies_before_turn-eq0-clause-finds
returns-else-plies_before_turn-eq0-clause-finds c =
    let d = claim_in c.args.claim.now in
    let is = waits_is d c.bench-bench.ensures.position c.winner.ensures c.turn.ensures c.plies_before_turn.ensures.plies in
    let budget = c.args.work.now.memo.budget in
    let After : ℕ → Type 0 = λ n. Ends (check_first d n) budget c.check_waiting.result in
    let Of : Program Finding → Type 0 = λ m. Ends m budget c.check_waiting.result in
    subst After (sym is) (subst Of (sym (first_waiting d c.plies_before_turn.result c.if-plies_before_turn-eq0.false)) (c.check_waiting.ensures budget))
