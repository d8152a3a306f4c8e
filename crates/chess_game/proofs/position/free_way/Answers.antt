use Rattle.std.proofs.Common.{subst}
use Rattle.chess_game.specs.Way.{IsFreeFrom}
use Rattle.chess_game.proofs.WayLemmas.{free_at}
use Rattle.chess_game.proofs.position.free_way.Goals as goal

pub returns-clause-none : goal.returns-clause-none
returns-clause-none c =
    λ none. c.way_from.ensures.none (λ t h.
    none t
    (free_at c.args.p.now c.args.man c.square_of_man-from.result c.args.ray c.args.frame t c.square_of_man-from.ensures.stands
    (subst (λ b. IsFreeFrom b c.square_of_man-from.result c.args.ray c.args.frame t) c.p.view_is h)))
