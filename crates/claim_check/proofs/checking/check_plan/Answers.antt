use Rattle.std.proofs.Common.{ℕ, ◌≤◌, List, None, refl, sym, ◌∙◌, subst}
use Rattle.std.proofs.lemmas.List.Elements.{All-same}
use Rattle.std.proofs.lemmas.Result.{err_from_is_err_and}
use Rattle.set_plan.specs.Outcome.{Ends}
use Rattle.mate_plan.specs.Turns.{plies_before_turn}
use Rattle.claim_plan.specs.CheckPlan.{and_then, check_first, check_plan, check_ply, check_sets, for_each}
use Rattle.claim_check.specs.Ready.{claim_in}
use Rattle.claim_check.proofs.FindLemmas.{found_in, left_after, left_finds, none_found, stopped_in}
use Rattle.claim_check.proofs.PlanParts.{plan_leads, plies_are}
use Rattle.claim_check.proofs.SignedSets.{signed_sets}
use Rattle.claim_check.proofs.checking.check_plan.Goals as goal

pub check_sets-requires : goal.check_sets-requires
check_sets-requires c =
    plies_are (claim_in c.args.claim.now) c.bench-bench.ensures.position c.winner.ensures c.turn.ensures c.moves.ensures.moves
    (c.as_slice-plies.ensures.value ∙ (c.in_ok-list.ensures.list ∙ c.losers_plies-losers.ensures.plies))

pub check_first-requires : goal.check_first-requires
check_first-requires c =
    let plies = c.as_slice-plies.result.now in
    let are = plies_are (claim_in c.args.claim.now) c.bench-bench.ensures.position c.winner.ensures c.turn.ensures c.moves.ensures.moves
    (c.as_slice-plies.ensures.value ∙ (c.in_ok-list.ensures.list ∙ c.losers_plies-losers.ensures.plies)) in
    let d = claim_in c.args.claim.now in
    let budget = c.args.work.now.memo.budget in
    let sets = for_each plies (check_sets d) in
    let At : List ℕ → Type 0 = λ l. Ends (for_each l (check_sets d)) budget None in
    signed_sets d c.bench-bench.ensures.ready.claim (subst At are (none_found budget refl (sym c.is_some.ensures ∙ c.if-is_some.false) c.in_ok-sets.ensures.finds))

pub check_replies-requires-clause-signed : goal.check_replies-requires-clause-signed
check_replies-requires-clause-signed c =
    let plies = c.as_slice-plies.result.now in
    let are = plies_are (claim_in c.args.claim.now) c.bench-bench.ensures.position c.winner.ensures c.turn.ensures c.moves.ensures.moves
    (c.as_slice-plies.ensures.value ∙ (c.in_ok-list.ensures.list ∙ c.losers_plies-losers.ensures.plies)) in
    let d = claim_in c.args.claim.now in
    let budget = c.args.work.now.memo.budget in
    let sets = for_each plies (check_sets d) in
    let At : List ℕ → Type 0 = λ l. Ends (for_each l (check_sets d)) budget None in
    signed_sets d c.bench-bench.ensures.ready.claim (subst At are (none_found budget refl (sym c.is_some.ensures ∙ c.if-is_some.false) c.in_ok-sets.ensures.finds))

pub check_replies-requires-clause-low : goal.check_replies-requires-clause-low
check_replies-requires-clause-low c = All-same (λ ply. ply ≤ 41) c.as_slice-plies.result.now c.in_ok-list.list.items c.as_slice-plies.ensures.value c.in_ok-list.ensures.low

pub returns-in_err-sets : goal.returns-in_err-sets
returns-in_err-sets c =
    let plies = c.as_slice-plies.result.now in
    let are = plies_are (claim_in c.args.claim.now) c.bench-bench.ensures.position c.winner.ensures c.turn.ensures c.moves.ensures.moves
    (c.as_slice-plies.ensures.value ∙ (c.in_ok-list.ensures.list ∙ c.losers_plies-losers.ensures.plies)) in
    let d = claim_in c.args.claim.now in
    let budget = c.args.work.now.memo.budget in
    let sets = for_each plies (check_sets d) in
    let first = check_first d (plies_before_turn d.winner d.position.turn) in
    let replies = for_each plies (check_ply d) in
    let leads = plan_leads d budget plies are in
    let e = err_from_is_err_and c.from_residual-in_err-sets.result c.from_residual-in_err-sets.ensures.1 in
    rw (e.1, e.2) (stopped_in sets (and_then first replies) (check_plan d) budget budget refl leads c.in_err-sets.field-0.0 c.in_err-sets.ensures.finds)

pub returns-then-is_some : goal.returns-then-is_some
returns-then-is_some c =
    let plies = c.as_slice-plies.result.now in
    let are = plies_are (claim_in c.args.claim.now) c.bench-bench.ensures.position c.winner.ensures c.turn.ensures c.moves.ensures.moves
    (c.as_slice-plies.ensures.value ∙ (c.in_ok-list.ensures.list ∙ c.losers_plies-losers.ensures.plies)) in
    let d = claim_in c.args.claim.now in
    let budget = c.args.work.now.memo.budget in
    let sets = for_each plies (check_sets d) in
    let first = check_first d (plies_before_turn d.winner d.position.turn) in
    let replies = for_each plies (check_ply d) in
    let leads = plan_leads d budget plies are in
    found_in sets (and_then first replies) (check_plan d) budget budget refl leads c.in_ok-sets.sets (sym c.is_some.ensures ∙ c.if-is_some.true) c.in_ok-sets.ensures.finds

pub returns-in_err-first : goal.returns-in_err-first
returns-in_err-first c =
    let plies = c.as_slice-plies.result.now in
    let are = plies_are (claim_in c.args.claim.now) c.bench-bench.ensures.position c.winner.ensures c.turn.ensures c.moves.ensures.moves
    (c.as_slice-plies.ensures.value ∙ (c.in_ok-list.ensures.list ∙ c.losers_plies-losers.ensures.plies)) in
    let d = claim_in c.args.claim.now in
    let budget = c.args.work.now.memo.budget in
    let sets = for_each plies (check_sets d) in
    let first = check_first d (plies_before_turn d.winner d.position.turn) in
    let replies = for_each plies (check_ply d) in
    let leads = plan_leads d budget plies are in
    let after_sets = left_after sets (and_then first replies) (check_plan d) budget budget refl leads c.in_ok-sets.sets (sym c.is_some.ensures ∙ c.if-is_some.false) c.in_ok-sets.ensures.finds in
    let e = err_from_is_err_and c.from_residual-in_err-first.result c.from_residual-in_err-first.ensures.1 in
    rw (e.1, e.2) (stopped_in first replies (check_plan d) budget c.check_sets.new.work.memo.budget c.in_ok-sets.ensures.budget after_sets c.in_err-first.field-0.0 c.in_err-first.ensures.finds)

pub returns-then-is_some-2 : goal.returns-then-is_some-2
returns-then-is_some-2 c =
    let plies = c.as_slice-plies.result.now in
    let are = plies_are (claim_in c.args.claim.now) c.bench-bench.ensures.position c.winner.ensures c.turn.ensures c.moves.ensures.moves
    (c.as_slice-plies.ensures.value ∙ (c.in_ok-list.ensures.list ∙ c.losers_plies-losers.ensures.plies)) in
    let d = claim_in c.args.claim.now in
    let budget = c.args.work.now.memo.budget in
    let sets = for_each plies (check_sets d) in
    let first = check_first d (plies_before_turn d.winner d.position.turn) in
    let replies = for_each plies (check_ply d) in
    let leads = plan_leads d budget plies are in
    let after_sets = left_after sets (and_then first replies) (check_plan d) budget budget refl leads c.in_ok-sets.sets (sym c.is_some.ensures ∙ c.if-is_some.false) c.in_ok-sets.ensures.finds in
    found_in first replies (check_plan d) budget c.check_sets.new.work.memo.budget c.in_ok-sets.ensures.budget after_sets c.in_ok-first.first
    (sym c.is_some-2.ensures ∙ c.if-is_some-2.true) c.in_ok-first.ensures.finds

pub returns : goal.returns
returns c =
    let plies = c.as_slice-plies.result.now in
    let are = plies_are (claim_in c.args.claim.now) c.bench-bench.ensures.position c.winner.ensures c.turn.ensures c.moves.ensures.moves
    (c.as_slice-plies.ensures.value ∙ (c.in_ok-list.ensures.list ∙ c.losers_plies-losers.ensures.plies)) in
    let d = claim_in c.args.claim.now in
    let budget = c.args.work.now.memo.budget in
    let sets = for_each plies (check_sets d) in
    let first = check_first d (plies_before_turn d.winner d.position.turn) in
    let replies = for_each plies (check_ply d) in
    let leads = plan_leads d budget plies are in
    let after_sets = left_after sets (and_then first replies) (check_plan d) budget budget refl leads c.in_ok-sets.sets (sym c.is_some.ensures ∙ c.if-is_some.false) c.in_ok-sets.ensures.finds in
    let after_first = left_after first replies (check_plan d) budget c.check_sets.new.work.memo.budget c.in_ok-sets.ensures.budget after_sets c.in_ok-first.first
    (sym c.is_some-2.ensures ∙ c.if-is_some-2.false) c.in_ok-first.ensures.finds in
    left_finds c.check_first.new.work.memo.budget (c.in_ok-first.ensures.budget ∙ c.in_ok-sets.ensures.budget) after_first
    c.check_replies.result c.check_replies.ensures.finds
