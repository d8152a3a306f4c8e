use Rattle.std.proofs.Common.{◌+◌, ◌*◌, List, length, sym, ap, ◌∙◌, subst, arith}
use Rattle.std.specs.List.{All}
use Rattle.lin_formula.specs.SetOf.{as_set}
use Rattle.rule_formula.specs.declared.opt.Bearing.{Bearing}
use Rattle.line_formula.specs.Small.{AreTwo}
use Rattle.line_engine.specs.Answers.{made_at}
use Rattle.line_engine.specs.Nodes.{position_of, safe_after}
use Rattle.line_engine.proofs.BearingLemmas.{bearing_men, bearings_few}
use Rattle.line_engine.proofs.EachLemmas.{none_if, nothing_left, room_more}
use Rattle.line_engine.proofs.ReachLemmas.{safe_answers}
use Rattle.line_engine.proofs.StepLemmas.{dangers_are}
use Rattle.line_engine.proofs.parts.safe.Goals as goal

pub bearings-requires : goal.bearings-requires
bearings-requires c = let most = c.args.after.now.crowd.is.most in omega (arith, most)

pub without_bearings-requires-clause-men : goal.without_bearings-requires-clause-men
without_bearings-requires-clause-men c =
    let node = c.args.after.now in
    subst (λ (xs : List Bearing). All (λ b. AreTwo node.crowd.men.now b.man b.king) xs)
    (sym (c.as_slice.ensures.value ∙ c.in_ok-dangers.ensures))
    (bearing_men (position_of node.crowd) node.force.mask node.force.side c.requires.sound)

pub without_bearings-requires-clause-room : goal.without_bearings-requires-clause-room
without_bearings-requires-clause-room c =
    let node = c.args.after.now in
    let most = node.crowd.is.most in
    let few = bearings_few node.crowd.men.now node.force.mask node.force.side (omega (arith, most)) in
    let same = ap (λ (xs : List Bearing). length xs) (c.as_slice.ensures.value ∙ c.in_ok-dangers.ensures) in
    omega (arith, few, same)

pub returns-clause-room : goal.returns-clause-room
returns-clause-room c =
    let node = c.args.after.now in
    let most = node.crowd.is.most in
    let few = bearings_few node.crowd.men.now node.force.mask node.force.side (omega (arith, most)) in
    let same = ap (λ (xs : List Bearing). length xs) (c.as_slice.ensures.value ∙ c.in_ok-dangers.ensures) in
    room_more c.without_bearings.result c.without_bearings.new.work.at (c.args.work.now.at + 1000 * length c.as_slice.result.now) (c.args.work.now.at + 512000)
    c.without_bearings.ensures.room (omega (arith, few, same))

pub returns-then-is_none-clause-answers : goal.returns-then-is_none-clause-answers
returns-then-is_none-clause-answers c =
    let node = c.args.after.now in
    nothing_left (safe_after (position_of node.crowd) node.path.now) (λ t. t) (length node.path.now) c.args.work.now.at c.args.work.now.memo.budget c.args.so_far
    (none_if c.args.so_far c.is_none.result c.is_none.ensures c.if-is_none.true)

pub returns-clause-answers : goal.returns-clause-answers
returns-clause-answers c =
    let node = c.args.after.now in
    safe_answers node c.args.work.now.memo.budget (made_at c.without_bearings.new.work.at) c.without_bearings.result c.as_slice.result.now
    (as_set c.args.so_far, c.args.work.now.at) (c.as_slice.ensures.value ∙ c.in_ok-dangers.ensures ∙ dangers_are node) c.without_bearings.ensures.answers
