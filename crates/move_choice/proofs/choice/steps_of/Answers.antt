use Rattle.std.proofs.Common.{rules, SFits}
use Rattle.std.specs.Int.{w64}
use Rattle.std.proofs.lemmas.Int.{to_z-of_z}
use Rattle.move_choice.proofs.choice.steps_of.Goals as goal

pub returns-clause-steps : goal.returns-clause-steps
returns-clause-steps c =
    let x : SFits w64 c.in-At.x = search rules in
    let y : SFits w64 c.in-At.y = search rules in
    let to_x : SFits w64 c.args.mv.x = search rules in
    let to_y : SFits w64 c.args.mv.y = search rules in
    rw (c.man.ensures, c.in-At.is) (
      rw (to_z-of_z w64 c.in-At.x x, to_z-of_z w64 c.in-At.y y, to_z-of_z w64 c.args.mv.x to_x, to_z-of_z w64 c.args.mv.y to_y) at
          c.steps_between.ensures.far,
      c.steps_between.ensures.near,
    )
