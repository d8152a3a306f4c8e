use Rattle.std.proofs.Common.{◌≡◌, ℕ, suc, ◌+◌, refl, sym, ap, ◌∙◌, subst, arith}
use Rattle.std.proofs.lemmas.Result.{err_from_is_err_and}
use Rattle.game_rules.specs.Game.{Position, other}
use Rattle.game_rules.specs.declared.men.Side.{Side}
use Rattle.rule_formula.specs.Fits.{masks_of}
use Rattle.set_plan.specs.Outcome.{Ends, IsPlanError}
use Rattle.mate_plan.specs.Claim.{claimed_level}
use Rattle.mate_plan.specs.Levels.{AreNamesIn, level_in}
use Rattle.mate_plan.specs.Plan.{Level, reach_level}
use Rattle.mate_plan.specs.PlanOf.{rules_of}
use Rattle.mate_plan.proofs.LevelLemmas.{grows-grows, level-grows, names-grow}
use Rattle.claim_check.specs.Ready.{claim_in}
use Rattle.claim_check.proofs.replies.replies_at.Goals as goal

pub reach_level-requires : goal.reach_level-requires
reach_level-requires c =
    let At : Position → Type 0 = λ p. AreNamesIn p c.claimed_level.new.work.sets c.in_ok-here.here in
    record { level = subst At (sym c.bench-bench.ensures.position) c.in_ok-here.ensures.names }

pub returns-in_err-reached-clause-reached : goal.returns-in_err-reached-clause-reached
returns-in_err-reached-clause-reached c =
    let e = err_from_is_err_and c.from_residual-in_err-reached.result c.from_residual-in_err-reached.ensures.1 in
    let d = claim_in c.args.claim.now in
    let error = c.in_err-reached.field-0.0 in
    let one = c.claimed_level.new.work.sets in
    let budget = c.args.work.now.memo.budget in
    let next : c.args.ply + 1 ≡ suc c.args.ply = omega arith in
    let Of : Side → Type 0 =
    λ s. IsPlanError
    (reach_level (rules_of c.bench-bench.result.position.now) s (c.args.ply + 1) (level_in c.bench-bench.result.position.now one c.in_ok-here.here))
    c.claimed_level.new.work.memo.budget error in
    let At : Position → Type 0 = λ p. IsPlanError (reach_level (rules_of p) (other d.winner) (c.args.ply + 1) (level_in p one c.in_ok-here.here)) c.claimed_level.new.work.memo.budget error in
    let Within : ℕ → Type 0 = λ b. IsPlanError (reach_level (rules_of d.position) (other d.winner) (c.args.ply + 1) (level_in d.position one c.in_ok-here.here)) b error in
    let From : Level → Type 0 = λ l. IsPlanError (reach_level (rules_of d.position) (other d.winner) (c.args.ply + 1) l) budget error in
    let Next : ℕ → Type 0 = λ k. IsPlanError (reach_level (rules_of d.position) (other d.winner) k (claimed_level d c.args.ply)) budget error in
    rw (e.1, e.2)
    (subst Next next
    (subst From c.in_ok-here.ensures.level
    (subst Within c.in_ok-here.ensures.later.budget (subst At c.bench-bench.ensures.position (subst Of (c.other.ensures ∙ ap other c.winner.ensures) c.in_err-reached.ensures.answers)))))

pub returns-clause-reached : goal.returns-clause-reached
returns-clause-reached c =
    let d = claim_in c.args.claim.now in
    let p = d.position in
    let w = other d.winner in
    let one = c.claimed_level.new.work.sets in
    let two = c.reach_level.new.work.sets in
    let three = c.claimed_level-2.new.work.sets in
    let budget = c.args.work.now.memo.budget in
    let next : c.args.ply + 1 ≡ suc c.args.ply = omega arith in
    let names : Position → Type 0 = λ q. AreNamesIn q two c.in_ok-reached.reached in
    let named = subst names c.bench-bench.ensures.position c.in_ok-reached.ensures.names in
    let Of : Side → Type 0 =
    λ s. Ends
    (reach_level (rules_of c.bench-bench.result.position.now) s (c.args.ply + 1) (level_in c.bench-bench.result.position.now one c.in_ok-here.here))
    c.claimed_level.new.work.memo.budget
    (level_in c.bench-bench.result.position.now two c.in_ok-reached.reached) in
    let At : Position → Type 0 =
    λ q. Ends (reach_level (rules_of q) w (c.args.ply + 1) (level_in q one c.in_ok-here.here)) c.claimed_level.new.work.memo.budget
    (level_in q two c.in_ok-reached.reached) in
    let reached = level_in p two c.in_ok-reached.reached in
    let Within : ℕ → Type 0 = λ b. Ends (reach_level (rules_of p) w (c.args.ply + 1) (level_in p one c.in_ok-here.here)) b reached in
    let From : Level → Type 0 = λ l. Ends (reach_level (rules_of p) w (c.args.ply + 1) l) budget reached in
    let Next : ℕ → Type 0 = λ k. Ends (reach_level (rules_of p) w k (claimed_level d c.args.ply)) budget reached in
    let To : Level → Type 0 = λ l. Ends (reach_level (rules_of p) w (suc c.args.ply) (claimed_level d c.args.ply)) budget l in
    let grown = level-grows p.men two three (masks_of p) c.in_ok-reached.reached c.in_ok-later.ensures.later.grows named in
    subst To (sym grown)
    (subst Next next
    (subst From c.in_ok-here.ensures.level
    (subst Within c.in_ok-here.ensures.later.budget (subst At c.bench-bench.ensures.position (subst Of (c.other.ensures ∙ ap other c.winner.ensures) c.in_ok-reached.ensures.answers)))))

pub returns-clause-replies : goal.returns-clause-replies
returns-clause-replies c =
    let p = c.args.claim.now.position in
    let masks = masks_of p in
    let names : Position → Type 0 = λ q. AreNamesIn q c.reach_level.new.work.sets c.in_ok-reached.reached in
    let named = subst names c.bench-bench.ensures.position c.in_ok-reached.ensures.names in
    let one = c.claimed_level.new.work.sets in
    let two = c.reach_level.new.work.sets in
    let three = c.claimed_level-2.new.work.sets in
    let grows = grows-grows one two three c.in_ok-reached.ensures.later.grows c.in_ok-later.ensures.later.grows in
    record {
      ply_is = refl;
      low = c.requires.ply;
      claimed = names-grow p.men one three masks c.in_ok-here.here grows c.in_ok-here.ensures.names;
      reached = names-grow p.men two three masks c.in_ok-reached.reached c.in_ok-later.ensures.later.grows named;
      later = c.in_ok-later.ensures.names;
      claimed_is = level-grows p.men one three masks c.in_ok-here.here grows c.in_ok-here.ensures.names ∙ c.in_ok-here.ensures.level;
      later_is = c.in_ok-later.ensures.level;
    }

pub returns-in_err-reached-clause-later : goal.returns-in_err-reached-clause-later
returns-in_err-reached-clause-later c = record {
  grows = grows-grows c.args.work.now.sets c.claimed_level.new.work.sets c.reach_level.new.work.sets c.in_ok-here.ensures.later.grows c.in_err-reached.ensures.later.grows;
  budget = c.in_err-reached.ensures.later.budget ∙ c.in_ok-here.ensures.later.budget;
}

pub returns-in_err-later-clause-later : goal.returns-in_err-later-clause-later
returns-in_err-later-clause-later c = record {
  grows = grows-grows c.args.work.now.sets c.claimed_level.new.work.sets c.claimed_level-2.new.work.sets c.in_ok-here.ensures.later.grows (grows-grows c.claimed_level.new.work.sets c.reach_level.new.work.sets c.claimed_level-2.new.work.sets c.in_ok-reached.ensures.later.grows c.in_err-later.ensures.later.grows);
  budget = c.in_err-later.ensures.later.budget ∙ (c.in_ok-reached.ensures.later.budget ∙ c.in_ok-here.ensures.later.budget);
}

pub returns-clause-later : goal.returns-clause-later
returns-clause-later c = record {
  grows = grows-grows c.args.work.now.sets c.claimed_level.new.work.sets c.claimed_level-2.new.work.sets c.in_ok-here.ensures.later.grows (grows-grows c.claimed_level.new.work.sets c.reach_level.new.work.sets c.claimed_level-2.new.work.sets c.in_ok-reached.ensures.later.grows c.in_ok-later.ensures.later.grows);
  budget = c.in_ok-later.ensures.later.budget ∙ (c.in_ok-reached.ensures.later.budget ∙ c.in_ok-here.ensures.later.budget);
}
