use Rattle.move_choice.proofs.Firsts.{along_is, way_right}
use Rattle.move_choice.proofs.ray_way.way_along.Goals as goal

pub returns-clause-along : goal.returns-clause-along
returns-clause-along c =
    along_is c.args.tuple c.place_of_man-place.result c.args.along.now.mover c.requires.tuple c.place_of_man-place.ensures.place

pub returns-clause-way : goal.returns-clause-way
returns-clause-way c =
    let mover = c.args.along.now.mover in
    way_right mover (along_is c.args.tuple c.place_of_man-place.result mover c.requires.tuple c.place_of_man-place.ensures.place)
