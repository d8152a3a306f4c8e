use Rattle.std.proofs.Common.{arith}
use Rattle.std.proofs.lemmas.Int.{ints}
use Rattle.line_formula.proofs.GapLemmas.{near_square}
use Rattle.line_formula.proofs.men.first_spot.Goals as goal

pub returns-in-At-clause-near_x : goal.returns-in-At-clause-near_x
returns-in-At-clause-near_x c =
    let near = (near_square c.args.men.now c.args.number c.man_of.result c.in-At.x c.in-At.y c.requires.near c.man_of.ensures c.in-At.is).x in
    grind (arith, ints, near)

pub returns-in-At-clause-near_y : goal.returns-in-At-clause-near_y
returns-in-At-clause-near_y c =
    let near = (near_square c.args.men.now c.args.number c.man_of.result c.in-At.x c.in-At.y c.requires.near c.man_of.ensures c.in-At.is).y in
    grind (arith, ints, near)
