use Rattle.std.proofs.Common.{suc, ◌+◌, Ok, Err, refl, sym, ◌∙◌, subst, arith}
use Rattle.std.proofs.lemmas.Result.{err_from_is_err_and}
use Rattle.game_rules.specs.Game.{other}
use Rattle.rule_formula.specs.Fits.{masks_of}
use Rattle.mate_plan.specs.Claim.{claimed_level}
use Rattle.mate_plan.specs.Levels.{level_in}
use Rattle.mate_plan.specs.Plan.{Level}
use Rattle.mate_plan.specs.PlanOf.{rules_of}
use Rattle.mate_plan.proofs.LevelLemmas.{grows-grows, grows_cut, length-grows, level-grows}
use Rattle.claim_plan.specs.CheckPlan.{check_left, check_ply, check_stale, for_each}
use Rattle.claim_check.specs.Finds.{Finds}
use Rattle.claim_check.specs.Ready.{claim_in}
use Rattle.claim_check.proofs.FindLemmas.{found_in, left_after, left_finds, stopped_in}
use Rattle.claim_check.proofs.ReplyParts.{at_own_ply, ply_leads, reach_stopped, replies_grow}
use Rattle.claim_check.proofs.replies.check_ply.Goals as goal

pub check_all_left-requires : goal.check_all_left-requires
check_all_left-requires c = at_own_ply c.in_ok-replies.ensures.replies

pub check_all_stale-requires : goal.check_all_stale-requires
check_all_stale-requires c =
    let s = c.args.claim.now in
    let r = c.in_ok-replies.replies in
    replies_grow c.check_all_left.new.work.sets c.in_ok-left.ensures.later.grows (at_own_ply c.in_ok-replies.ensures.replies)

pub returns-in_err-replies-clause-finds : goal.returns-in_err-replies-clause-finds
returns-in_err-replies-clause-finds c =
    let e = err_from_is_err_and c.from_residual.result c.from_residual.ensures.1 in
    rw (e.1, e.2) (reach_stopped (claim_in c.args.claim.now) c.args.ply c.args.work.now.memo.budget c.in_err-replies.field-0.0 c.in_err-replies.ensures.reached)

pub returns-in_err-left-clause-finds : goal.returns-in_err-left-clause-finds
returns-in_err-left-clause-finds c =
    let s = c.args.claim.now in
    let d = claim_in s in
    let p = s.position in
    let r = c.in_ok-replies.replies in
    let budget = c.args.work.now.memo.budget in
    let masks = masks_of p in
    let one = c.replies_at.new.work.sets in
    let reached = level_in p one r.reached in
    let left_of = for_each masks (check_left (rules_of p) d.winner (suc r.ply) reached (claimed_level d (r.ply + 2))) in
    let stale_of = for_each masks (check_stale (rules_of p) (other d.winner) r.ply (claimed_level d r.ply) reached) in
    let leads = ply_leads d c.args.ply r.ply masks c.in_ok-replies.ensures.replies.ply_is refl c.in_ok-replies.ensures.reached in
    let e = err_from_is_err_and c.from_residual-in_err-left.result c.from_residual-in_err-left.ensures.1 in
    rw (e.1, e.2)
    (stopped_in left_of stale_of (check_ply d c.args.ply) budget c.replies_at.new.work.memo.budget c.in_ok-replies.ensures.later.budget leads
    c.in_err-left.field-0.0 c.in_err-left.ensures.finds)

pub returns-then-is_some-clause-finds : goal.returns-then-is_some-clause-finds
returns-then-is_some-clause-finds c =
    let s = c.args.claim.now in
    let d = claim_in s in
    let p = s.position in
    let r = c.in_ok-replies.replies in
    let budget = c.args.work.now.memo.budget in
    let masks = masks_of p in
    let one = c.replies_at.new.work.sets in
    let reached = level_in p one r.reached in
    let left_of = for_each masks (check_left (rules_of p) d.winner (suc r.ply) reached (claimed_level d (r.ply + 2))) in
    let stale_of = for_each masks (check_stale (rules_of p) (other d.winner) r.ply (claimed_level d r.ply) reached) in
    let leads = ply_leads d c.args.ply r.ply masks c.in_ok-replies.ensures.replies.ply_is refl c.in_ok-replies.ensures.reached in
    found_in left_of stale_of (check_ply d c.args.ply) budget c.replies_at.new.work.memo.budget c.in_ok-replies.ensures.later.budget leads
    c.in_ok-left.left (sym c.is_some.ensures ∙ c.if-is_some.true) c.in_ok-left.ensures.finds

pub returns-in_err-stale-clause-finds : goal.returns-in_err-stale-clause-finds
returns-in_err-stale-clause-finds c =
    let s = c.args.claim.now in
    let d = claim_in s in
    let p = s.position in
    let r = c.in_ok-replies.replies in
    let budget = c.args.work.now.memo.budget in
    let masks = masks_of p in
    let one = c.replies_at.new.work.sets in
    let reached = level_in p one r.reached in
    let left_of = for_each masks (check_left (rules_of p) d.winner (suc r.ply) reached (claimed_level d (r.ply + 2))) in
    let stale_of = for_each masks (check_stale (rules_of p) (other d.winner) r.ply (claimed_level d r.ply) reached) in
    let leads = ply_leads d c.args.ply r.ply masks c.in_ok-replies.ensures.replies.ply_is refl c.in_ok-replies.ensures.reached in
    let after_left = left_after left_of stale_of (check_ply d c.args.ply) budget c.replies_at.new.work.memo.budget c.in_ok-replies.ensures.later.budget leads
    c.in_ok-left.left (sym c.is_some.ensures ∙ c.if-is_some.false) c.in_ok-left.ensures.finds in
    let within = c.in_ok-left.ensures.later.budget ∙ c.in_ok-replies.ensures.later.budget in
    let grown = level-grows p.men one c.check_all_left.new.work.sets (masks_of p) r.reached c.in_ok-left.ensures.later.grows c.in_ok-replies.ensures.replies.reached in
    let From : Level → Type 0 =
    λ l. Finds (for_each masks (check_stale (rules_of p) (other d.winner) r.ply (claimed_level d r.ply) l)) c.check_all_left.new.work.memo.budget
    (Err c.in_err-stale.field-0.0) in
    let e = err_from_is_err_and c.from_residual-in_err-stale.result c.from_residual-in_err-stale.ensures.1 in
    rw (e.1, e.2)
    (left_finds c.check_all_left.new.work.memo.budget within after_left (Err c.in_err-stale.field-0.0)
    (subst From grown c.in_err-stale.ensures.finds))

pub truncate-requires : goal.truncate-requires
truncate-requires c =
    let old = c.args.work.now.sets in
    let one = c.replies_at.new.work.sets in
    let two = c.check_all_left.new.work.sets in
    let three = c.check_all_stale.new.work.sets in
    let more = length-grows old three (grows-grows old one three c.in_ok-replies.ensures.later.grows (grows-grows one two three c.in_ok-left.ensures.later.grows c.in_ok-stale.ensures.later.grows)) in
    omega (arith, more, c.count-count.ensures)

pub returns-clause-finds : goal.returns-clause-finds
returns-clause-finds c =
    let s = c.args.claim.now in
    let d = claim_in s in
    let p = s.position in
    let r = c.in_ok-replies.replies in
    let budget = c.args.work.now.memo.budget in
    let masks = masks_of p in
    let one = c.replies_at.new.work.sets in
    let reached = level_in p one r.reached in
    let left_of = for_each masks (check_left (rules_of p) d.winner (suc r.ply) reached (claimed_level d (r.ply + 2))) in
    let stale_of = for_each masks (check_stale (rules_of p) (other d.winner) r.ply (claimed_level d r.ply) reached) in
    let leads = ply_leads d c.args.ply r.ply masks c.in_ok-replies.ensures.replies.ply_is refl c.in_ok-replies.ensures.reached in
    let after_left = left_after left_of stale_of (check_ply d c.args.ply) budget c.replies_at.new.work.memo.budget c.in_ok-replies.ensures.later.budget leads
    c.in_ok-left.left (sym c.is_some.ensures ∙ c.if-is_some.false) c.in_ok-left.ensures.finds in
    let within = c.in_ok-left.ensures.later.budget ∙ c.in_ok-replies.ensures.later.budget in
    let grown = level-grows p.men one c.check_all_left.new.work.sets (masks_of p) r.reached c.in_ok-left.ensures.later.grows c.in_ok-replies.ensures.replies.reached in
    let From : Level → Type 0 =
    λ l. Finds (for_each masks (check_stale (rules_of p) (other d.winner) r.ply (claimed_level d r.ply) l)) c.check_all_left.new.work.memo.budget
    (Ok c.in_ok-stale.stale) in
    left_finds c.check_all_left.new.work.memo.budget within after_left (Ok c.in_ok-stale.stale) (subst From grown c.in_ok-stale.ensures.finds)

pub returns-in_err-left-clause-later : goal.returns-in_err-left-clause-later
returns-in_err-left-clause-later c = record {
  grows = grows-grows c.args.work.now.sets c.replies_at.new.work.sets c.check_all_left.new.work.sets c.in_ok-replies.ensures.later.grows c.in_err-left.ensures.later.grows;
  budget = c.in_err-left.ensures.later.budget ∙ c.in_ok-replies.ensures.later.budget;
}

pub returns-then-is_some-clause-later : goal.returns-then-is_some-clause-later
returns-then-is_some-clause-later c = record {
  grows = grows-grows c.args.work.now.sets c.replies_at.new.work.sets c.check_all_left.new.work.sets c.in_ok-replies.ensures.later.grows c.in_ok-left.ensures.later.grows;
  budget = c.in_ok-left.ensures.later.budget ∙ c.in_ok-replies.ensures.later.budget;
}

pub returns-in_err-stale-clause-later : goal.returns-in_err-stale-clause-later
returns-in_err-stale-clause-later c = record {
  grows = grows-grows c.args.work.now.sets c.replies_at.new.work.sets c.check_all_stale.new.work.sets c.in_ok-replies.ensures.later.grows (grows-grows c.replies_at.new.work.sets c.check_all_left.new.work.sets c.check_all_stale.new.work.sets c.in_ok-left.ensures.later.grows c.in_err-stale.ensures.later.grows);
  budget = c.in_err-stale.ensures.later.budget ∙ (c.in_ok-left.ensures.later.budget ∙ c.in_ok-replies.ensures.later.budget);
}

pub returns-clause-later : goal.returns-clause-later
returns-clause-later c =
    let old = c.args.work.now.sets in
    let one = c.replies_at.new.work.sets in
    let two = c.check_all_left.new.work.sets in
    let three = c.check_all_stale.new.work.sets in
    let replies = c.in_ok-replies.ensures.later in
    let left = c.in_ok-left.ensures.later in
    let stale = c.in_ok-stale.ensures.later in
    record {
      grows = rw c.truncate.ensures
          (grows_cut old three c.count-count.result c.count-count.ensures (grows-grows old one three replies.grows (grows-grows one two three left.grows stale.grows)));
      budget = stale.budget ∙ (left.budget ∙ replies.budget);
    }
