use Rattle.std.proofs.Common.{◌≤◌, ◌^◌, unsigned_abs, arith, subst, sym, lit≤}
use Rattle.std.proofs.lemmas.Int.{ints}
use Rattle.game_laws.proofs.LineLemmas.{direction_small_x, direction_small_y}
use Rattle.chess_game.proofs.AnswerBounds.{steps_below, steps_within, way_within}
use Rattle.chess_game.proofs.answers.steps_to_answer.Goals as goal
use Rattle.chess_game.proofs.answers.steps_to_answer.Goals.{After-steps_until}

-- the steps are few
few : (c : After-steps_until) → c.steps_until.result ≤ 2 ^ 66
few c =
    let across : unsigned_abs c.offset_between-2.result.x ≤ 2 ^ 66 = omega (arith, ints) in
    let along : unsigned_abs c.offset_between-2.result.y ≤ 2 ^ 66 = omega (arith, ints) in
    let direct : c.steps_of-direct.result ≤ 2 ^ 66 =
    subst (λ n. n ≤ 2 ^ 66) (sym c.steps_of-direct.ensures)
    (steps_below (unsigned_abs c.offset_between-2.result.x) (unsigned_abs c.offset_between-2.result.y) (2 ^ 66) across along) in
    subst (λ n. n ≤ 2 ^ 66) (sym c.steps_until.ensures)
    (steps_within c.args.ray.far c.off_by-each.result c.off_by-off.result c.steps_of-direct.result (2 ^ 66) (lit≤ tt) c.off_by-off.ensures.bound direct)

pub returns-clause-bound : goal.returns-clause-bound
returns-clause-bound c = few ((goal.at.returns-clause-bound c).After-steps_until)

pub returns-clause-across : goal.returns-clause-across
returns-clause-across c =
    way_within c.steps_until.result (2 ^ 66) (unsigned_abs c.args.ray.dx) (few ((goal.at.returns-clause-across c).After-steps_until))
    (direction_small_x c.args.ray.dx c.args.ray.dy c.requires.ray)

pub returns-clause-along : goal.returns-clause-along
returns-clause-along c =
    way_within c.steps_until.result (2 ^ 66) (unsigned_abs c.args.ray.dy) (few ((goal.at.returns-clause-along c).After-steps_until))
    (direction_small_y c.args.ray.dx c.args.ray.dy c.requires.ray)
