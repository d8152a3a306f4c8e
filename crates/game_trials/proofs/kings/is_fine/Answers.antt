use Rattle.std.proofs.Common.{sym, ◌∙◌, subst}
use Rattle.std.proofs.lemmas.Option.{same_Some}
use Rattle.game_rules.specs.declared.men.Man.{Man}
use Rattle.game_trials.specs.Kings.{IsFineAt, IsSafe}
use Rattle.game_trials.proofs.kings.is_fine.Goals as goal

pub returns-then-is_safe : goal.returns-then-is_safe
returns-then-is_safe c = λ yes. record {
  safe = λ m is. subst (λ (a : Man). IsSafe c.args.p.now a) (same_Some c.man.result m (sym c.man.ensures ∙ is)) (c.is_safe.ensures c.if-is_safe.true);
  compatible = λ k more. c.suits_later_men.ensures yes k more;
}
