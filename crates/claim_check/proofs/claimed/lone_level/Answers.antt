use Rattle.std.proofs.Common.{◌≡◌, Some, ap, sym, ◌∙◌, subst}
use Rattle.std.proofs.lemmas.Result.{IfOk-weaker}
use Rattle.game_rules.specs.Game.{Position}
use Rattle.lin_formula.specs.SetOf.{Table}
use Rattle.rule_formula.specs.Fits.{IsGameMask}
use Rattle.rule_formula.specs.Mean.{mask_tracks}
use Rattle.set_plan.specs.Sets.{IsSetOn}
use Rattle.mate_plan.specs.Levels.{AreNamesIn, level_in}
use Rattle.claim_check.proofs.ClaimedLevels.{lone_set}
use Rattle.claim_check.proofs.claimed.lone_level.Goals as goal

pub one_level-requires : goal.one_level-requires
one_level-requires c =
    let At : Position → Type 0 = λ p. IsGameMask p c.args.mask in
    record { mask = subst At (sym c.bench-bench.ensures.position) c.requires.mask }

pub returns-clause-names : goal.returns-clause-names
returns-clause-names c =
    let on = subst (IsSetOn (mask_tracks c.args.claim.now.position c.args.mask)) (sym c.in_ok-copy.ensures) c.requires.set in
    let On : Position → Type 0 = λ p. IsSetOn (mask_tracks p c.args.mask) c.in_ok-copy.field-0 in
    IfOk-weaker c.one_level.result _ _
    (λ names are.
    let At : Position → Type 0 = λ p. AreNamesIn p c.put.new.self names in
    subst At c.bench-bench.ensures.position (are c.put.new.self (c.in_ok-copy.field-0, c.in_ok-name.ensures.ok, subst On (sym c.bench-bench.ensures.position) on)))
    c.one_level.ensures.names

pub returns-clause-set : goal.returns-clause-set
returns-clause-set c =
    IfOk-weaker c.one_level.result _ _
    (λ names is.
    let At : Position → Type 0 = λ p. level_in p c.put.new.self names c.args.mask ≡ Table c.args.set.now in
    subst At c.bench-bench.ensures.position
    (lone_set c.bench-bench.result.position.now c.args.mask c.args.set.now c.in_ok-name.name c.put.new.self names (is c.put.new.self) (c.in_ok-name.ensures.ok ∙ ap Some c.in_ok-copy.ensures)))
    c.one_level.ensures.level
