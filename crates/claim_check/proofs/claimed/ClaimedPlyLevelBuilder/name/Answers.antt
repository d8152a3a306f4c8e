use Rattle.std.proofs.Common.{sym, subst}
use Rattle.std.proofs.lemmas.Result.{err_from_is_err_and}
use Rattle.game_rules.specs.Game.{Position}
use Rattle.rule_formula.specs.Mean.{mask_tracks}
use Rattle.set_plan.specs.Sets.{IsNameOn, set_at}
use Rattle.claim_check.specs.Ready.{claim_in}
use Rattle.claim_check.proofs.ClaimedLevels.{given_ends}
use Rattle.claim_check.proofs.claimed.ClaimedPlyLevelBuilder.name.Goals as goal

pub claimed_name-requires : goal.claimed_name-requires
claimed_name-requires c = c.requires.fits.0

pub returns-in_err-claimed_name-clause-answers : goal.returns-in_err-claimed_name-clause-answers
returns-in_err-claimed_name-clause-answers c =
    let e = err_from_is_err_and c.from_residual.result c.from_residual.ensures.1 in
    rw (e.1, e.2) tt

pub returns-clause-answers : goal.returns-clause-answers
returns-clause-answers c =
    given_ends (claim_in c.args.self.now.claim.now) c.args.self.now.ply c.args.work.now.memo.budget c.args.mask
    (set_at c.claimed_name.new.work.sets c.in_ok-claimed_name.field-0) c.in_ok-claimed_name.ensures.set

pub returns-clause-name : goal.returns-clause-name
returns-clause-name c =
    let On : Position → Type 0 = λ p. IsNameOn (mask_tracks p c.args.mask) c.claimed_name.new.work.sets c.in_ok-claimed_name.field-0 in
    subst On (sym c.requires.fits.1) c.in_ok-claimed_name.ensures.name
