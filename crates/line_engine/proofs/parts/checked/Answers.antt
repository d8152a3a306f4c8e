use Rattle.std.proofs.Common.{◌+◌, ◌*◌, ◌^◌, List, length, sym, ap, ◌∙◌, subst, arith}
use Rattle.std.specs.List.{All}
use Rattle.lin_formula.specs.SetOf.{Nothing, Table}
use Rattle.rule_formula.specs.Bearings.{bearings_of}
use Rattle.rule_formula.specs.declared.opt.Bearing.{Bearing}
use Rattle.line_formula.specs.Small.{AreTwo}
use Rattle.line_engine.specs.Answers.{made_at}
use Rattle.line_engine.specs.Nodes.{position_of}
use Rattle.line_engine.proofs.BearingLemmas.{bearing_men, bearings_few}
use Rattle.line_engine.proofs.EachLemmas.{room_more}
use Rattle.line_engine.proofs.ReachLemmas.{check_answers}
use Rattle.line_engine.proofs.StepLemmas.{threats_are}
use Rattle.line_engine.proofs.parts.checked.Goals as goal

pub bearings-requires : goal.bearings-requires
bearings-requires c = let most = c.args.node.now.crowd.is.most in omega (arith, most)

pub with_bearings-requires-clause-men : goal.with_bearings-requires-clause-men
with_bearings-requires-clause-men c =
    let node = c.args.node.now in
    subst (λ (xs : List Bearing). All (λ b. AreTwo node.crowd.men.now b.man b.king) xs)
    (sym (c.as_slice.ensures.value ∙ c.in_ok-threats.ensures))
    (bearing_men (position_of node.crowd) node.force.mask c.other.result c.requires.sound)

pub with_bearings-requires-clause-room : goal.with_bearings-requires-clause-room
with_bearings-requires-clause-room c =
    let node = c.args.node.now in
    let most = node.crowd.is.most in
    let few = bearings_few node.crowd.men.now node.force.mask c.other.result (omega (arith, most)) in
    let same = ap (λ (xs : List Bearing). length xs) (c.as_slice.ensures.value ∙ c.in_ok-threats.ensures) in
    omega (arith, few, same)

pub returns-clause-answers : goal.returns-clause-answers
returns-clause-answers c a is =
    let node = c.args.node.now in
    let turn = ap (λ t. bearings_of node.crowd.men.now node.force.mask t) c.other.ensures in
    check_answers node c.args.work.now.memo.budget (made_at c.with_bearings.new.work.at) c.with_bearings.result c.as_slice.result.now
    (Nothing, c.args.work.now.at) (Table a) (c.as_slice.ensures.value ∙ c.in_ok-threats.ensures ∙ turn ∙ threats_are node) (c.with_bearings.ensures.answers a is)

pub returns-clause-room : goal.returns-clause-room
returns-clause-room c =
    let node = c.args.node.now in
    let most = node.crowd.is.most in
    let few = bearings_few node.crowd.men.now node.force.mask c.other.result (omega (arith, most)) in
    let same = ap (λ (xs : List Bearing). length xs) (c.as_slice.ensures.value ∙ c.in_ok-threats.ensures) in
    room_more c.with_bearings.result c.with_bearings.new.work.at (c.args.work.now.at + 2000 * length c.as_slice.result.now) (c.args.work.now.at + 2 ^ 20)
    c.with_bearings.ensures.room (omega (arith, few, same))
