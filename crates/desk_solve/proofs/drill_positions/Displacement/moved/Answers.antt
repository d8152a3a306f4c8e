use Rattle.std.proofs.Common.{◌≡◌, ◌+ℤ◌, w16, w64, to_z, of_z, SFits, ap, ◌∙◌, rules, arith}
use Rattle.std.proofs.lemmas.Int.{ints}
use Rattle.game_rules.specs.declared.men.Place.TheVariants as places
use Rattle.desk_solve.proofs.drill_positions.Displacement.moved.Goals as goal

pub returns : goal.returns
returns c =
    let fits_x : SFits w16 c.args.self.x = search rules in
    let fits_y : SFits w16 c.args.self.y = search rules in
    let x : to_z w64 (of_z w64 (to_z w64 (of_z w64 c.from.result) +ℤ to_z w64 (of_z w64 c.from-2.result))) ≡ c.args.x +ℤ c.args.self.x =
    omega (arith, ints, c.from.ensures, c.from-2.ensures, c.ranges.x) in
    let y : to_z w64 (of_z w64 (to_z w64 (of_z w64 c.from-3.result) +ℤ to_z w64 (of_z w64 c.from-4.result))) ≡ c.args.y +ℤ c.args.self.y =
    omega (arith, ints, c.from-3.ensures, c.from-4.ensures, c.ranges.y) in
    ap (λ a. places.At a (to_z w64 (of_z w64 (to_z w64 (of_z w64 c.from-3.result) +ℤ to_z w64 (of_z w64 c.from-4.result))))) x
    ∙ ap (λ b. places.At (c.args.x +ℤ c.args.self.x) b) y
