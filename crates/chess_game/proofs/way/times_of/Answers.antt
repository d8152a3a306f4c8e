use Rattle.std.proofs.Common.{◌≡◌, true}
use Rattle.chess_game.proofs.OffsetLemmas.{no_times}
use Rattle.chess_game.proofs.way.times_of.Goals as goal

pub returns-else-is_times-clause-none : goal.returns-else-is_times-clause-none
returns-else-is_times-clause-none c =
    λ t h. no_times c.steps_of-times.result h c.requires c.steps_of-times.ensures
    (λ w. let yes : c.is_times.result ≡ true = c.is_times.ensures.1 w in cc)
