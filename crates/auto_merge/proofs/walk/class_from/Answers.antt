use Rattle.std.proofs.Common.{rules}
use Rattle.auto_walk.proofs.RowLemmas.{length-Extends}
use Rattle.auto_merge.proofs.Trails.{IsTrailIn-keeps}
use Rattle.auto_merge.proofs.walk.class_from.Goals as goal

pub assign_new_class-requires-clause-new : goal.assign_new_class-requires-clause-new
assign_new_class-requires-clause-new g c =
    let within = length-Extends c.args.number c.in_ok-start.ensures.kept.numbers c.requires.within in
    search rules

pub returns-clause-way : goal.returns-clause-way
returns-clause-way g c = IsTrailIn-keeps c.in_ok-assign_new_class.ensures.kept c.in_ok-start.ensures.way
