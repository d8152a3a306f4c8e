use Rattle.std.proofs.Common.{sym, subst}
use Rattle.std.specs.Option.{MatchOption}
use Rattle.game_rules.specs.Game.{InCheck}
use Rattle.game_laws.specs.Answer.{IsCheckFrom}
use Rattle.chess_game.specs.Check.{IsCheckerOn, IsCloseCheck, IsKingOn}
use Rattle.chess_game.proofs.MatedLemmas.{any_close, king_attacked, no_check}
use Rattle.chess_game.proofs.answers.check_of.Goals as goal

pub returns-in_err-king : goal.returns-in_err-king
returns-in_err-king c =
    let p = c.args.board.now in
    subst (λ o. MatchOption o (InCheck p p.turn → ⊥) (λ c. IsCloseCheck c × IsCheckFrom p c.from c.king)) (sym c.from_residual.ensures)
    (no_check p p.turn c.in_err-king.ensures)

pub returns-in_err-from : goal.returns-in_err-from
returns-in_err-from c =
    let p = c.args.board.now in
    subst (λ o. MatchOption o (InCheck p p.turn → ⊥) (λ c. IsCloseCheck c × IsCheckFrom p c.from c.king)) (sym c.from_residual-in_err-from.ensures)
    (λ check. c.in_err-from.ensures (king_attacked p c.requires.sound c.in_ok-king.king c.in_ok-king.ensures check))

pub returns : goal.returns
returns c =
    let p = c.args.board.now in (
      record {
        from = any_close p c.requires.narrow c.in_ok-from.from (IsCheckerOn p c.in_ok-king.king c.in_ok-from.from) (λ m h. h.1) c.in_ok-from.ensures;
        king = any_close p c.requires.narrow c.in_ok-king.king (IsKingOn p.turn c.in_ok-king.king) (λ m h. h.2) c.in_ok-king.ensures;
      },
      record { king = c.in_ok-king.ensures; checker = c.in_ok-from.ensures },
    )
