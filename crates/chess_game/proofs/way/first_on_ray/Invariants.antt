use Rattle.chess_game.specs.Along.{IsNearest}
use Rattle.chess_game.proofs.way.first_on_ray.Given as goal

abbrev pub invariant-loop-index : goal.invariant-loop-index
invariant-loop-index l = IsNearest l.men l.index l.from l.ray l.best
