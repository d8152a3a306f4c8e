use Rattle.std.proofs.Common.{◌≡◌, ◌∙◌, ap, subst, sym, true, rules}
use Rattle.game_rules.specs.Game.{InCheck, other}
use Rattle.chess_game.specs.Unsoundness.{IsKingAt}
use Rattle.chess_game.specs.declared.unsoundness.Unsound.TheVariants.{KingGone, OtherInCheck}
use Rattle.game_rules.specs.declared.men.Side.TheVariants.{White, Black}
use Rattle.stock_position.specs.Soundness.{IsFirstUnsoundnessFor}
use Rattle.stock_position.proofs.Reasons.{AreKingsFine, clear_apart, clear_five, clear_four, clear_kings, first_pair, first_reason, sound_for}
use Rattle.stock_position.proofs.checks.check_for.Goals as goal

pub returns-in_err-check_live-clause-reason : goal.returns-in_err-check_live-clause-reason
returns-in_err-check_live-clause-reason c =
    let p = c.args.p.now in
    let w = c.args.winner in
    let king : IsKingAt p (other w) c.in_ok-_king._king = subst (λ s. IsKingAt p s c.in_ok-_king._king) c.other.ensures c.in_ok-_king.ensures.king in
    let gone = c.in_err-check_live.ensures.gone in
    let reason : IsFirstUnsoundnessFor w p (KingGone White) =
    first_reason p w (KingGone White) (λ e. cc) (λ e. cc) (clear_four p w c.in_ok-_king._king king c.in_ok-check_few.ensures.few c.in_ok-check_few-2.ensures.few) gone.1 in
    let is : IsFirstUnsoundnessFor w p c.in_err-check_live.field-0.0 = subst (IsFirstUnsoundnessFor w p) (sym gone.0) reason in
    search rules

pub returns-in_err-check_live-2-clause-reason : goal.returns-in_err-check_live-2-clause-reason
returns-in_err-check_live-2-clause-reason c =
    let p = c.args.p.now in
    let w = c.args.winner in
    let king : IsKingAt p (other w) c.in_ok-_king._king = subst (λ s. IsKingAt p s c.in_ok-_king._king) c.other.ensures c.in_ok-_king.ensures.king in
    let gone = c.in_err-check_live-2.ensures.gone in
    let reason : IsFirstUnsoundnessFor w p (KingGone Black) =
    first_reason p w (KingGone Black) (λ e. cc) (λ e. cc)
    (clear_five p w c.in_ok-_king._king king c.in_ok-check_few.ensures.few c.in_ok-check_few-2.ensures.few c.in_ok-check_live.ensures.live) gone.1 in
    let is : IsFirstUnsoundnessFor w p c.in_err-check_live-2.field-0.0 = subst (IsFirstUnsoundnessFor w p) (sym gone.0) reason in
    search rules

pub returns-in_err-check_apart-clause-reason : goal.returns-in_err-check_apart-clause-reason
returns-in_err-check_apart-clause-reason c =
    let p = c.args.p.now in
    let w = c.args.winner in
    let king : IsKingAt p (other w) c.in_ok-_king._king = subst (λ s. IsKingAt p s c.in_ok-_king._king) c.other.ensures c.in_ok-_king.ensures.king in
    let fine : AreKingsFine w p = record {
      number = c.in_ok-_king._king;
      king = king;
      few_white = c.in_ok-check_few.ensures.few;
      few_black = c.in_ok-check_few-2.ensures.few;
      live_white = c.in_ok-check_live.ensures.live;
      live_black = c.in_ok-check_live-2.ensures.live;
    } in
    let reason : IsFirstUnsoundnessFor w p c.in_err-check_apart.field-0.0 = first_pair p w c.in_err-check_apart.field-0.0 (clear_kings fine) c.in_err-check_apart.ensures.twins in
    search rules

pub returns-then-is_checked-clause-reason : goal.returns-then-is_checked-clause-reason
returns-then-is_checked-clause-reason c =
    let p = c.args.p.now in
    let w = c.args.winner in
    let king : IsKingAt p (other w) c.in_ok-_king._king = subst (λ s. IsKingAt p s c.in_ok-_king._king) c.other.ensures c.in_ok-_king.ensures.king in
    let fine : AreKingsFine w p = record {
      number = c.in_ok-_king._king;
      king = king;
      few_white = c.in_ok-check_few.ensures.few;
      few_black = c.in_ok-check_few-2.ensures.few;
      live_white = c.in_ok-check_live.ensures.live;
      live_black = c.in_ok-check_live-2.ensures.live;
    } in
    first_reason p w OtherInCheck (λ e. cc) (λ e. cc) (clear_apart fine c.in_ok-check_apart.ensures.apart)
    (subst (InCheck p) (c.other-2.ensures ∙ ap other c.turn.ensures) (c.is_checked.ensures.0 c.if-is_checked.true))

pub returns-clause-ok : goal.returns-clause-ok
returns-clause-ok c =
    let p = c.args.p.now in
    let w = c.args.winner in
    let king : IsKingAt p (other w) c.in_ok-_king._king = subst (λ s. IsKingAt p s c.in_ok-_king._king) c.other.ensures c.in_ok-_king.ensures.king in
    let fine : AreKingsFine w p = record {
      number = c.in_ok-_king._king;
      king = king;
      few_white = c.in_ok-check_few.ensures.few;
      few_black = c.in_ok-check_few-2.ensures.few;
      live_white = c.in_ok-check_live.ensures.live;
      live_black = c.in_ok-check_live-2.ensures.live;
    } in
    sound_for fine c.in_ok-check_apart.ensures.apart
    (λ h.
    let yes : c.is_checked.result ≡ true = c.is_checked.ensures.1 (subst (InCheck p) (sym (c.other-2.ensures ∙ ap other c.turn.ensures)) h) in
    cc)
