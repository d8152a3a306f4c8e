use Rattle.std.proofs.Common.{suc, ◌≡◌, ◌∙◌, Some, length, arith, ap, subst, sym}
use Rattle.std.specs.Prelude.{slice_get}
use Rattle.std.specs.Option.{MatchOption}
use Rattle.std.specs.List.{Any}
use Rattle.std.proofs.lemmas.Option.{slice_get-get_or}
use Rattle.game_rules.specs.declared.men.Kind.TheVariants.{King}
use Rattle.game_rules.specs.Game.{man_at}
use Rattle.chess_game.specs.Check.{HasNoKing, IsKingOn}
use Rattle.chess_game.proofs.MatedLemmas.{king_on_some, none_any}
use Rattle.chess_game.proofs.answers.king_square.Goals as goal

pub returns-then-is_king_of : goal.returns-then-is_king_of
returns-then-is_king_of c =
    let king = c.is_king_of.ensures.0 c.if-is_king_of.true in
    let here : man_at c.args.board.now (suc c.loop-man.man-index) ≡ Some c.man-item.result =
    ap (λ ms. slice_get ms c.loop-man.man-index) (sym c.men-man-items.ensures.men)
    ∙ slice_get-get_or c.men-man-items.result.now c.loop-man.man-index c.man-item.result c.loop-man-test.true
    ∙ ap (λ m. Some m) (sym c.man-item.is) in
    subst (λ o. MatchOption o (HasNoKing c.args.board.now c.args.board.now.turn) (λ k. Any (IsKingOn c.args.board.now.turn k) c.args.board.now.men)) (sym c.square.ensures.square)
    (king_on_some c.args.board.now c.requires (suc c.loop-man.man-index) c.man-item.result here (king.0 ∙ c.turn.ensures) king.1)

pub returns : goal.returns
returns c =
    none_any (λ m. (m.side ≡ c.args.board.now.turn) × (m.kind ≡ King)) c.args.board.now.men
    (λ k d within. c.loop-man.invariant k d (omega (arith, within, c.loop-man-test.false, ap length c.men-man-items.ensures.men)))
