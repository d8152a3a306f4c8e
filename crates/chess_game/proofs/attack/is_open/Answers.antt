use Rattle.std.proofs.Common.{◌∙◌, inl, inr, unsigned_abs, ap, sym, refl}
use Rattle.game_laws.proofs.OpenLemmas.{IsSingle, single_open}
use Rattle.chess_game.proofs.attack.is_open.Goals as goal

pub returns-then-is_single : goal.returns-then-is_single
returns-then-is_single c =
    let single : IsSingle c.args.from c.args.to = elim (c.is_single.ensures.0 c.if-is_single.true) [
      | inl one ↦ inl (ap unsigned_abs (sym c.offset_between.ensures.right) ∙ one)
      | inr one ↦ inr (ap unsigned_abs (sym c.offset_between.ensures.up) ∙ one)
    ] in
    (λ t. single_open c.args.p.now c.args.from c.args.to single, λ h. refl)
