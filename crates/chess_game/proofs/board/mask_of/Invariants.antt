use Rattle.chess_game.specs.Mask.{IsMaskBelow}
use Rattle.chess_game.proofs.board.mask_of.Given as goal

abbrev pub invariant-loop-index : goal.invariant-loop-index
invariant-loop-index l = IsMaskBelow l.men l.index l.mask
