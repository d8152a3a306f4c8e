use Rattle.std.proofs.Common.{◌∷◌, [], Bool, List, length, Ok, sym, ◌∙◌, subst}
use Rattle.std.specs.Prelude.{if◌then◌else◌}
use Rattle.lin_formula.specs.SetOf.{as_set}
use Rattle.lin_formula.specs.Tree.{Not, Tree}
use Rattle.line_formula.specs.Places.{home}
use Rattle.line_formula.specs.Rules.{on_way}
use Rattle.rule_formula.specs.Placed.{is_live}
use Rattle.rule_formula.specs.Trees.{is_other}
use Rattle.set_plan.specs.Program.{each}
use Rattle.set_plan.proofs.Composition.{Ends-give}
use Rattle.line_plan.specs.Plan.{narrow}
use Rattle.line_engine.specs.Answers.{Answers, made_at}
use Rattle.line_engine.proofs.EachLemmas.{answers_one, none_if, nothing_left}
use Rattle.line_engine.proofs.parts.off_way_if_other.Goals as goal

pub returns-then-is_none-clause-answers : goal.returns-then-is_none-clause-answers
returns-then-is_none-clause-answers c =
    let step = c.args.step.now in
    let other = is_other (is_live step.before.force.mask) step.leg.man step.option.taken c.args.number in
    let parts : List Tree = if other then Not (on_way (home step.before.crowd.men.now) step.before.legs.now step.leg c.args.number) ∷ [] else [] in
    nothing_left parts (λ t. t) (length step.after.path.now) c.args.work.now.at c.args.work.now.memo.budget c.args.so_far
    (none_if c.args.so_far c.is_none.result c.is_none.ensures c.if-is_none.true)

pub returns-then-is_other-clause-answers : goal.returns-then-is_other-clause-answers
returns-then-is_other-clause-answers c =
    let step = c.args.step.now in
    let n = length step.after.path.now in
    let hit : Tree = Not (on_way (home step.before.crowd.men.now) step.before.legs.now step.leg c.args.number) in
    subst (λ (b : Bool). Answers (each (if b then hit ∷ [] else []) (narrow n) (as_set c.args.so_far, c.args.work.now.at)) c.args.work.now.memo.budget (made_at c.off_way.new.work.at) c.off_way.result)
    (sym (sym c.is_other.ensures ∙ c.if-is_other.true))
    (answers_one n c.args.work.now.memo.budget hit (as_set c.args.so_far, c.args.work.now.at) (made_at c.off_way.new.work.at) c.off_way.result c.off_way.ensures.answers)

pub returns-clause-answers : goal.returns-clause-answers
returns-clause-answers c =
    let step = c.args.step.now in
    let n = length step.after.path.now in
    let hit : Tree = Not (on_way (home step.before.crowd.men.now) step.before.legs.now step.leg c.args.number) in
    subst (λ (b : Bool). Answers (each (if b then hit ∷ [] else []) (narrow n) (as_set c.args.so_far, c.args.work.now.at)) c.args.work.now.memo.budget (made_at c.args.work.now.at) (Ok c.args.so_far))
    (sym (sym c.is_other.ensures ∙ c.if-is_other.false))
    (Ends-give c.args.work.now.memo.budget (made_at c.args.work.now.at c.args.so_far))
