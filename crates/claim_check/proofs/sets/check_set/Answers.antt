use Rattle.std.proofs.Common.{option_copied, List, Some, Ok, Err, refl, sym, ap, ◌∙◌, subst, take, arith}
use Rattle.std.proofs.lemmas.Result.{err_from_is_err_and}
use Rattle.auto_core.specs.Automaton.{Automaton}
use Rattle.game_rules.specs.Game.{other}
use Rattle.game_rules.specs.declared.men.Side.{Side}
use Rattle.lin_formula.specs.SetOf.{Table}
use Rattle.set_plan.specs.Sets.{Grows}
use Rattle.mate_plan.specs.Levels.{level_in}
use Rattle.mate_plan.specs.PlanOf.{rules_of}
use Rattle.mate_plan.proofs.LevelLemmas.{grows_cut, length-grows}
use Rattle.claim_plan.specs.CheckPlan.{and_then, check_guard, check_set, check_sign}
use Rattle.claim_check.specs.Finds.{Finds}
use Rattle.claim_check.specs.Ready.{claim_in}
use Rattle.claim_check.proofs.FindLemmas.{found_in, left_after, left_finds, stopped_in}
use Rattle.claim_check.proofs.ReadySets.{one_on}
use Rattle.claim_check.proofs.SetParts.{guard_of, none_told, same_of, set_leads}
use Rattle.claim_check.proofs.sets.check_set.Goals as goal

pub lone_level-requires-clause-mask : goal.lone_level-requires-clause-mask
lone_level-requires-clause-mask c = (c.bench-bench.ensures.ready.claim.only c.args.ply c.args.mask c.in-Some.set.now (sym c.set.ensures ∙ ap option_copied c.in-Some.is)).1

pub lone_level-requires-clause-set : goal.lone_level-requires-clause-set
lone_level-requires-clause-set c =
    one_on c.bench-bench.ensures.ready c.args.ply c.args.mask c.in-Some.set.now
    (c.in_ok-sign.ensures.signed (none_told c.in_ok-sign.sign (sym c.is_some.ensures ∙ c.if-is_some.false))) (sym c.set.ensures ∙ ap option_copied c.in-Some.is)

pub returns-in_err-sign-clause-finds : goal.returns-in_err-sign-clause-finds
returns-in_err-sign-clause-finds c =
    let d = claim_in c.args.claim.now in
    let p = d.position in
    let budget = c.args.work.now.memo.budget in
    let s = Table c.in-Some.set.now in
    let sign = check_sign c.args.ply c.args.mask (Some c.in-Some.set.now) in
    let later = and_then (same_of d c.args.ply c.args.mask s) (guard_of d c.args.ply c.args.mask s) in
    let leads = set_leads d c.args.ply c.args.mask budget c.in-Some.set.now s (sym c.set.ensures ∙ ap option_copied c.in-Some.is) refl in
    let e = err_from_is_err_and c.from_residual.result c.from_residual.ensures.1 in
    rw (e.1, e.2) (stopped_in sign later (check_set d c.args.ply c.args.mask) budget budget refl leads c.in_err-sign.field-0.0 (c.in_err-sign.ensures.finds budget))

pub returns-then-is_some-clause-finds : goal.returns-then-is_some-clause-finds
returns-then-is_some-clause-finds c =
    let d = claim_in c.args.claim.now in
    let p = d.position in
    let budget = c.args.work.now.memo.budget in
    let s = Table c.in-Some.set.now in
    let sign = check_sign c.args.ply c.args.mask (Some c.in-Some.set.now) in
    let later = and_then (same_of d c.args.ply c.args.mask s) (guard_of d c.args.ply c.args.mask s) in
    let leads = set_leads d c.args.ply c.args.mask budget c.in-Some.set.now s (sym c.set.ensures ∙ ap option_copied c.in-Some.is) refl in
    found_in sign later (check_set d c.args.ply c.args.mask) budget budget refl leads c.in_ok-sign.sign (sym c.is_some.ensures ∙ c.if-is_some.true) (c.in_ok-sign.ensures.finds budget)

pub returns-in_err-level-clause-finds : goal.returns-in_err-level-clause-finds
returns-in_err-level-clause-finds c =
    let e = err_from_is_err_and c.from_residual-in_err-level.result c.from_residual-in_err-level.ensures.1 in
    rw (e.1, e.2) tt

pub returns-in_err-same-clause-finds : goal.returns-in_err-same-clause-finds
returns-in_err-same-clause-finds c =
    let d = claim_in c.args.claim.now in
    let p = d.position in
    let budget = c.args.work.now.memo.budget in
    let one = c.lone_level.new.work.sets in
    let s = level_in p one c.in_ok-level.level c.args.mask in
    let same = same_of d c.args.ply c.args.mask s in
    let guard = guard_of d c.args.ply c.args.mask s in
    let leads = set_leads d c.args.ply c.args.mask budget c.in-Some.set.now s (sym c.set.ensures ∙ ap option_copied c.in-Some.is) c.in_ok-level.ensures.set in
    let after_sign = left_after (check_sign c.args.ply c.args.mask (Some c.in-Some.set.now)) (and_then same guard) (check_set d c.args.ply c.args.mask) budget budget refl leads
    c.in_ok-sign.sign (sym c.is_some.ensures ∙ c.if-is_some.false) (c.in_ok-sign.ensures.finds budget) in
    let e = err_from_is_err_and c.from_residual-in_err-same.result c.from_residual-in_err-same.ensures.1 in
    rw (e.1, e.2)
    (stopped_in same guard (check_set d c.args.ply c.args.mask) budget c.lone_level.new.work.memo.budget c.in_ok-level.ensures.later.budget after_sign
    c.in_err-same.field-0.0 c.in_err-same.ensures.finds)

pub returns-then-is_some-2-clause-finds : goal.returns-then-is_some-2-clause-finds
returns-then-is_some-2-clause-finds c =
    let d = claim_in c.args.claim.now in
    let p = d.position in
    let budget = c.args.work.now.memo.budget in
    let one = c.lone_level.new.work.sets in
    let s = level_in p one c.in_ok-level.level c.args.mask in
    let same = same_of d c.args.ply c.args.mask s in
    let guard = guard_of d c.args.ply c.args.mask s in
    let leads = set_leads d c.args.ply c.args.mask budget c.in-Some.set.now s (sym c.set.ensures ∙ ap option_copied c.in-Some.is) c.in_ok-level.ensures.set in
    let after_sign = left_after (check_sign c.args.ply c.args.mask (Some c.in-Some.set.now)) (and_then same guard) (check_set d c.args.ply c.args.mask) budget budget refl leads
    c.in_ok-sign.sign (sym c.is_some.ensures ∙ c.if-is_some.false) (c.in_ok-sign.ensures.finds budget) in
    found_in same guard (check_set d c.args.ply c.args.mask) budget c.lone_level.new.work.memo.budget c.in_ok-level.ensures.later.budget after_sign
    c.in_ok-same.same (sym c.is_some-2.ensures ∙ c.if-is_some-2.true) c.in_ok-same.ensures.finds

pub returns-in_err-guard-clause-finds : goal.returns-in_err-guard-clause-finds
returns-in_err-guard-clause-finds c =
    let d = claim_in c.args.claim.now in
    let p = d.position in
    let budget = c.args.work.now.memo.budget in
    let one = c.lone_level.new.work.sets in
    let s = level_in p one c.in_ok-level.level c.args.mask in
    let same = same_of d c.args.ply c.args.mask s in
    let guard = guard_of d c.args.ply c.args.mask s in
    let leads = set_leads d c.args.ply c.args.mask budget c.in-Some.set.now s (sym c.set.ensures ∙ ap option_copied c.in-Some.is) c.in_ok-level.ensures.set in
    let after_sign = left_after (check_sign c.args.ply c.args.mask (Some c.in-Some.set.now)) (and_then same guard) (check_set d c.args.ply c.args.mask) budget budget refl leads
    c.in_ok-sign.sign (sym c.is_some.ensures ∙ c.if-is_some.false) (c.in_ok-sign.ensures.finds budget) in
    let after_same = left_after same guard (check_set d c.args.ply c.args.mask) budget c.lone_level.new.work.memo.budget c.in_ok-level.ensures.later.budget after_sign
    c.in_ok-same.same (sym c.is_some-2.ensures ∙ c.if-is_some-2.false) c.in_ok-same.ensures.finds in
    let within = c.in_ok-same.ensures.budget ∙ c.in_ok-level.ensures.later.budget in
    let By : Side → Type 0 =
    λ side. Finds (check_guard (rules_of p) side c.args.ply c.args.mask (level_in p c.check_same.new.work.sets c.in_ok-level.level c.args.mask))
    c.check_same.new.work.memo.budget (Err c.in_err-guard.field-0.0) in
    let Over : List Automaton → Type 0 =
    λ t. Finds (check_guard (rules_of p) (other d.winner) c.args.ply c.args.mask (level_in p t c.in_ok-level.level c.args.mask))
    c.check_same.new.work.memo.budget (Err c.in_err-guard.field-0.0) in
    let h = subst Over c.in_ok-same.ensures.sets (subst By (c.other.ensures ∙ ap other c.winner.ensures) c.in_err-guard.ensures.finds) in
    let e = err_from_is_err_and c.from_residual-in_err-guard.result c.from_residual-in_err-guard.ensures.1 in
    rw (e.1, e.2) (left_finds c.check_same.new.work.memo.budget within after_same (Err c.in_err-guard.field-0.0) h)

pub truncate-requires : goal.truncate-requires
truncate-requires c =
    let more = length-grows c.args.work.now.sets c.lone_level.new.work.sets c.in_ok-level.ensures.later.grows in
    rw (c.in_ok-guard.ensures.sets, c.in_ok-same.ensures.sets) (omega (arith, more, c.count-count.ensures))

pub returns-clause-finds : goal.returns-clause-finds
returns-clause-finds c =
    let d = claim_in c.args.claim.now in
    let p = d.position in
    let budget = c.args.work.now.memo.budget in
    let one = c.lone_level.new.work.sets in
    let s = level_in p one c.in_ok-level.level c.args.mask in
    let same = same_of d c.args.ply c.args.mask s in
    let guard = guard_of d c.args.ply c.args.mask s in
    let leads = set_leads d c.args.ply c.args.mask budget c.in-Some.set.now s (sym c.set.ensures ∙ ap option_copied c.in-Some.is) c.in_ok-level.ensures.set in
    let after_sign = left_after (check_sign c.args.ply c.args.mask (Some c.in-Some.set.now)) (and_then same guard) (check_set d c.args.ply c.args.mask) budget budget refl leads
    c.in_ok-sign.sign (sym c.is_some.ensures ∙ c.if-is_some.false) (c.in_ok-sign.ensures.finds budget) in
    let after_same = left_after same guard (check_set d c.args.ply c.args.mask) budget c.lone_level.new.work.memo.budget c.in_ok-level.ensures.later.budget after_sign
    c.in_ok-same.same (sym c.is_some-2.ensures ∙ c.if-is_some-2.false) c.in_ok-same.ensures.finds in
    let within = c.in_ok-same.ensures.budget ∙ c.in_ok-level.ensures.later.budget in
    let By : Side → Type 0 =
    λ side. Finds (check_guard (rules_of p) side c.args.ply c.args.mask (level_in p c.check_same.new.work.sets c.in_ok-level.level c.args.mask))
    c.check_same.new.work.memo.budget (Ok c.in_ok-guard.guard) in
    let Over : List Automaton → Type 0 =
    λ t. Finds (check_guard (rules_of p) (other d.winner) c.args.ply c.args.mask (level_in p t c.in_ok-level.level c.args.mask))
    c.check_same.new.work.memo.budget (Ok c.in_ok-guard.guard) in
    let h = subst Over c.in_ok-same.ensures.sets (subst By (c.other.ensures ∙ ap other c.winner.ensures) c.in_ok-guard.ensures.finds) in
    left_finds c.check_same.new.work.memo.budget within after_same (Ok c.in_ok-guard.guard) h

pub returns-in_err-same-clause-later : goal.returns-in_err-same-clause-later
returns-in_err-same-clause-later c = record {
  grows = rw c.in_err-same.ensures.sets c.in_ok-level.ensures.later.grows;
  budget = c.in_err-same.ensures.budget ∙ c.in_ok-level.ensures.later.budget;
}

pub returns-then-is_some-2-clause-later : goal.returns-then-is_some-2-clause-later
returns-then-is_some-2-clause-later c = record {
  grows = rw c.in_ok-same.ensures.sets c.in_ok-level.ensures.later.grows;
  budget = c.in_ok-same.ensures.budget ∙ c.in_ok-level.ensures.later.budget;
}

pub returns-in_err-guard-clause-later : goal.returns-in_err-guard-clause-later
returns-in_err-guard-clause-later c = record {
  grows = rw (c.in_err-guard.ensures.sets, c.in_ok-same.ensures.sets) c.in_ok-level.ensures.later.grows;
  budget = c.in_err-guard.ensures.budget ∙ (c.in_ok-same.ensures.budget ∙ c.in_ok-level.ensures.later.budget);
}

pub returns-clause-later : goal.returns-clause-later
returns-clause-later c =
    let Cut : List Automaton → Type 0 = λ t. Grows c.args.work.now.sets (take c.count-count.result t) in
    record {
      grows = rw c.truncate.ensures
          (subst Cut (sym (c.in_ok-guard.ensures.sets ∙ c.in_ok-same.ensures.sets))
          (grows_cut c.args.work.now.sets c.lone_level.new.work.sets c.count-count.result c.count-count.ensures c.in_ok-level.ensures.later.grows));
      budget = c.in_ok-guard.ensures.budget ∙ (c.in_ok-same.ensures.budget ∙ c.in_ok-level.ensures.later.budget);
    }
