use Rattle.std.proofs.Common.{◌≢◌, ◌<◌, length, arith, subst, ◌∙◌, get_or-set_other}
use Rattle.std.proofs.lemmas.List.{get_or_default}
use Rattle.game_rules.specs.Game.{IsLeftBy}
use Rattle.chess_game.proofs.MoveLemmas.{left_more}
use Rattle.chess_game.proofs.board.go.Goals as goal

pub loop-man-preserved : goal.loop-man-preserved
loop-man-preserved c =
    let within : c.loop-man.man-index < length c.loop-man.men = omega arith in
    record {
      left =
          λ k d h. left_more c.args.to c.args.men.now c.loop-man.men c.loop-man.man-index c.left_by.result within c.loop-man.invariant.left
          (λ e. subst (λ m. IsLeftBy c.args.to m c.left_by.result)
          (c.loop-man.invariant.same c.loop-man.man-index c.man-item.result (omega arith)
          ∙ get_or_default c.args.men.now c.loop-man.man-index c.man-item.result e (omega arith))
          c.left_by.ensures)
          k h d;
      same = λ k d h. let ne : k ≢ c.loop-man.man-index = omega arith in rw get_or-set_other (c.loop-man.invariant.same k d (omega arith));
    }
