use Rattle.std.proofs.Common.{◌+◌, ◌∷◌, [], length, pos, sym, subst, arith}
use Rattle.std.proofs.lemmas.Result.{err_from_is_err_and}
use Rattle.lin_formula.specs.SetOf.{as_set}
use Rattle.lin_formula.specs.Tree.{Tree}
use Rattle.lin_formula.specs.TreeOf.{tree_of}
use Rattle.track_word.specs.declared.atoms.Rel.TheVariants.{Eq}
use Rattle.line_formula.specs.Atoms.{gap_tree}
use Rattle.line_formula.specs.Places.{home}
use Rattle.line_formula.specs.Rules.{across, capture_parts, upward}
use Rattle.set_plan.specs.Outcome.{Ends}
use Rattle.set_plan.specs.Program.{each}
use Rattle.set_plan.specs.Unite.{Made}
use Rattle.set_plan.proofs.Composition.{Ends-give, Error-bind}
use Rattle.line_plan.specs.Plan.{narrow}
use Rattle.line_engine.specs.Answers.{as_plan_error, made_at}
use Rattle.line_engine.proofs.EachLemmas.{answers_two, none_if, nothing_left, room_more}
use Rattle.line_engine.proofs.PartLemmas.{capture_two}
use Rattle.line_engine.proofs.StepLemmas.{capture_tree, node_few, step_captures, step_two}
use Rattle.line_engine.proofs.parts.captured.Goals as goal

pub returns-then-is_none-clause-answers : goal.returns-then-is_none-clause-answers
returns-then-is_none-clause-answers c =
    let step = c.args.step.now in
    nothing_left (capture_parts (home step.before.crowd.men.now) step.before.legs.now step.leg step.option.taken) (λ t. t) (length step.after.path.now)
    c.args.work.now.at c.args.work.now.memo.budget c.args.so_far (none_if c.args.so_far c.is_none.result c.is_none.ensures c.if-is_none.true)

pub returns-then-step-eq0-clause-answers : goal.returns-then-step-eq0-clause-answers
returns-then-step-eq0-clause-answers c =
    let step = c.args.step.now in
    let first : Made = (as_set c.args.so_far, c.args.work.now.at) in
    subst (λ t. Ends (each (capture_parts (home step.before.crowd.men.now) step.before.legs.now step.leg t) (narrow (length step.after.path.now)) first) c.args.work.now.memo.budget first)
    (sym c.if-step-eq0.true) (Ends-give c.args.work.now.memo.budget first)

pub captures-requires : goal.captures-requires
captures-requires c = record { two = rw c.scene-scene.ensures.men (step_two c.args.step.now c.requires.listed c.if-step-eq0.false) }

pub narrow-requires-clause-few : goal.narrow-requires-clause-few
narrow-requires-clause-few c = rw c.count-count.ensures (node_few c.args.step.now.after)

pub narrow-requires-clause-set : goal.narrow-requires-clause-set
narrow-requires-clause-set c = rw c.count-count.ensures c.requires.set

pub narrow-requires-clause-part : goal.narrow-requires-clause-part
narrow-requires-clause-part c =
    let step = c.args.step.now in
    let right = capture_tree step (across step.option.taken step.leg.man) c.scene-scene.result.men.now c.scene-scene.result.legs.now (tree_of c.in_ok-parts.parts.0)
    c.scene-scene.ensures.men c.scene-scene.ensures.legs c.in_ok-parts.ensures.right in
    rw (right, c.count-count.ensures) (step_captures step step.option.taken step.leg.man).0

pub narrow-requires-2-clause-few : goal.narrow-requires-2-clause-few
narrow-requires-2-clause-few c = rw c.count-count.ensures (node_few c.args.step.now.after)

pub narrow-requires-2-clause-part : goal.narrow-requires-2-clause-part
narrow-requires-2-clause-part c =
    let step = c.args.step.now in
    let up = capture_tree step (upward step.option.taken step.leg.man) c.scene-scene.result.men.now c.scene-scene.result.legs.now (tree_of c.in_ok-parts.parts.1)
    c.scene-scene.ensures.men c.scene-scene.ensures.legs c.in_ok-parts.ensures.up in
    rw (up, c.count-count.ensures) (step_captures step step.option.taken step.leg.man).1

pub returns-in_err-aside-clause-answers : goal.returns-in_err-aside-clause-answers
returns-in_err-aside-clause-answers c =
    let step = c.args.step.now in
    let n = length step.after.path.now in
    let first : Made = (as_set c.args.so_far, c.args.work.now.at) in
    let start = home step.before.crowd.men.now in
    let legs = step.leg ∷ step.before.legs.now in
    let one : Tree = gap_tree start legs (across step.option.taken step.leg.man) Eq (pos 0) in
    let other : Tree = gap_tree start legs (upward step.option.taken step.leg.man) Eq (pos 0) in
    let right = capture_tree step (across step.option.taken step.leg.man) c.scene-scene.result.men.now c.scene-scene.result.legs.now (tree_of c.in_ok-parts.parts.0)
    c.scene-scene.ensures.men c.scene-scene.ensures.legs c.in_ok-parts.ensures.right in
    let error = rw (right, c.count-count.ensures) at c.in_err-aside.ensures.answers in
    let e = err_from_is_err_and c.from_residual-in_err-aside.result c.from_residual-in_err-aside.ensures.1 in
    rw (e.1, e.2, capture_two start step.before.legs.now step.leg step.option.taken c.if-step-eq0.false)
    (Error-bind (narrow n one first) (each (other ∷ []) (narrow n)) c.args.work.now.memo.budget (as_plan_error c.in_err-aside.field-0.0) error)

pub returns-clause-answers : goal.returns-clause-answers
returns-clause-answers c =
    let step = c.args.step.now in
    let n = length step.after.path.now in
    let first : Made = (as_set c.args.so_far, c.args.work.now.at) in
    let start = home step.before.crowd.men.now in
    let legs = step.leg ∷ step.before.legs.now in
    let one : Tree = gap_tree start legs (across step.option.taken step.leg.man) Eq (pos 0) in
    let other : Tree = gap_tree start legs (upward step.option.taken step.leg.man) Eq (pos 0) in
    let right = capture_tree step (across step.option.taken step.leg.man) c.scene-scene.result.men.now c.scene-scene.result.legs.now (tree_of c.in_ok-parts.parts.0)
    c.scene-scene.ensures.men c.scene-scene.ensures.legs c.in_ok-parts.ensures.right in
    let up = capture_tree step (upward step.option.taken step.leg.man) c.scene-scene.result.men.now c.scene-scene.result.legs.now (tree_of c.in_ok-parts.parts.1)
    c.scene-scene.ensures.men c.scene-scene.ensures.legs c.in_ok-parts.ensures.up in
    let aside = rw (right, c.count-count.ensures) at c.in_ok-aside.ensures.answers in
    let last = rw (up, c.count-count.ensures, c.in_ok-aside.ensures.budget) at c.narrow-2.ensures.answers in
    rw (capture_two start step.before.legs.now step.leg step.option.taken c.if-step-eq0.false)
    (answers_two n c.args.work.now.memo.budget one other first (made_at c.narrow.new.work.at c.in_ok-aside.aside) (made_at c.narrow-2.new.work.at) c.narrow-2.result aside last)

pub returns-clause-set : goal.returns-clause-set
returns-clause-set c = rw c.count-count.ensures at c.narrow-2.ensures.set

pub returns-clause-room : goal.returns-clause-room
returns-clause-room c =
    let aside = c.in_ok-aside.ensures.room in
    room_more c.narrow-2.result c.narrow-2.new.work.at (c.narrow.new.work.at + 1000) (c.args.work.now.at + 2000) c.narrow-2.ensures.room (omega (arith, aside))
