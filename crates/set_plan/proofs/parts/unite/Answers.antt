use Rattle.std.proofs.Common.{map}
use Rattle.lin_formula.specs.TreeOf.{tree_of}
use Rattle.set_plan.specs.Sets.{item_of}
use Rattle.set_plan.proofs.Renewals.{made-renewed, set-reduced_on}
use Rattle.set_plan.proofs.parts.unite.Goals as goal

pub returns-clause-answers : goal.returns-clause-answers
returns-clause-answers g c =
    let ends = rw c.meets-meets.ensures.sets at c.in_ok-made.ensures.answers in
    made-renewed c.args.memo.now.budget c.args.tracks.now c.args.from.part (map (item_of c.args.sets.now) (map tree_of c.args.formulas.now)) c.args.from.at
    c.in_ok-made.made c.in_ok-reduced.field-0 c.in_ok-reduced.ensures ends

pub returns-clause-set : goal.returns-clause-set
returns-clause-set g c =
    set-reduced_on c.args.tracks.now c.in_ok-made.made.set c.in_ok-reduced.field-0.set c.in_ok-reduced.ensures.1 c.in_ok-made.ensures.set
