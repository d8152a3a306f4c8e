use Rattle.std.proofs.Common.{◌≡◌, ◌∙◌, ap, subst, sym, true, rules}
use Rattle.game_rules.specs.Game.{HasBothKings, InCheck, other}
use Rattle.game_rules.specs.declared.men.Side.TheVariants.{White, Black}
use Rattle.chess_game.specs.declared.unsoundness.Unsound.TheVariants.{OtherInCheck}
use Rattle.chess_game.specs.Unsoundness.{IsFirstUnsoundness}
use Rattle.game_laws.proofs.KingLemmas.{both_kings}
use Rattle.chess_game.proofs.UnsoundnessLemmas.{apart_from, clear_apart, clear_kings, first_unsoundness, first_pair, kings_from, one_king}
use Rattle.chess_game.proofs.unsoundness.check_setup.Goals as goal

pub returns-in_err-check_apart-clause-reason : goal.returns-in_err-check_apart-clause-reason
returns-in_err-check_apart-clause-reason c =
    let reason : IsFirstUnsoundness c.args.setup.now c.in_err-check_apart.field-0.0 =
    first_pair c.args.setup.now c.in_err-check_apart.field-0.0
    (clear_kings c.args.setup.now c.in_ok-white.white c.in_ok-black.black c.in_ok-white.ensures.king c.in_ok-black.ensures.king
    c.in_ok-white.ensures.first c.in_ok-black.ensures.first c.in_ok-check_only.ensures.only c.in_ok-check_only-2.ensures.only
    c.in_ok-check_live.ensures.live c.in_ok-check_live-2.ensures.live)
    c.in_err-check_apart.ensures.twins in
    search rules

pub returns-then-in_check-clause-reason : goal.returns-then-in_check-clause-reason
returns-then-in_check-clause-reason c =
    first_unsoundness c.args.setup.now OtherInCheck (λ e. cc)
    (clear_apart c.args.setup.now
    (clear_kings c.args.setup.now c.in_ok-white.white c.in_ok-black.black c.in_ok-white.ensures.king c.in_ok-black.ensures.king
    c.in_ok-white.ensures.first c.in_ok-black.ensures.first c.in_ok-check_only.ensures.only c.in_ok-check_only-2.ensures.only
    c.in_ok-check_live.ensures.live c.in_ok-check_live-2.ensures.live)
    c.in_ok-check_apart.ensures.apart)
    (subst (InCheck c.args.setup.now) (c.other.ensures ∙ ap other c.turn.ensures) (c.in_check.ensures.0 c.if-in_check.true))

pub returns-clause-ok : goal.returns-clause-ok
returns-clause-ok c =
    let kings : HasBothKings c.args.setup.now =
    kings_from
    (one_king c.args.setup.now White c.in_ok-white.white c.in_ok-white.ensures.king c.in_ok-white.ensures.first c.in_ok-check_only.ensures.only c.in_ok-check_live.ensures.live)
    (one_king c.args.setup.now Black c.in_ok-black.black c.in_ok-black.ensures.king c.in_ok-black.ensures.first c.in_ok-check_only-2.ensures.only c.in_ok-check_live-2.ensures.live)
    in
    record {
      sound = record {
        kings = both_kings kings;
        apart = apart_from c.args.setup.now c.in_ok-check_apart.ensures.apart;
        other_safe = λ h.
            let yes : c.in_check.result ≡ true =
            c.in_check.ensures.1 (subst (InCheck c.args.setup.now) (sym (c.other.ensures ∙ ap other c.turn.ensures)) h) in
            cc;
      };
      kings = kings;
    }
