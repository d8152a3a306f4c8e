use Rattle.std.proofs.Common.{length, sym, ap, ◌∙◌, subst}
use Rattle.game_rules.specs.Game.{Position}
use Rattle.winning_sets.proofs.ValidLemmas.{plan_valid}
use Rattle.loser_session.specs.Defending.{IsDefence}
use Rattle.loser_session.specs.Unwon.{HaveRoom}
use Rattle.loser_session.proofs.Defending.{first_defence}
use Rattle.loser_session.proofs.defence.Defence.begin.Goals as goal

pub invariant_of-result : goal.invariant_of-result
invariant_of-result c = (
  subst (λ (p : Position). IsDefence (record { solution = c.args.solved; frame = c.args.frame; position = p; ply = 0 })) (sym c.position-position.ensures)
      (first_defence c.args.solved c.args.frame c.requires.plan (plan_valid c.args.solved c.masks-masks.ensures.valid c.requires.plan) c.requires.not_won),
  c.in-Ok.ensures,
  subst (λ n. HaveRoom n c.args.solved c.in-Ok.unwon.items) (sym c.in-Ok-reserve.ensures)
      (subst (HaveRoom c.most_states.result c.args.solved) c.as_slice.ensures.value c.most_states.ensures),
)

pub most_states-requires : goal.most_states-requires
most_states-requires c =
    let unwon = c.in-Ok.ensures in
    ap length c.as_slice.ensures.value ∙ unwon.count_is
