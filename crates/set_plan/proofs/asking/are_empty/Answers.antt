use Rattle.std.proofs.Common.{◌<◌, List, length, sym, ◌∙◌, subst, arith}
use Rattle.auto_core.specs.Automaton.{Automaton}
use Rattle.lin_formula.specs.Tree.{free_vars}
use Rattle.lin_formula.specs.TreeOf.{tree_of}
use Rattle.set_plan.specs.Sets.{IsItemOn, item_of, made_of}
use Rattle.set_plan.proofs.Askings.{Ends-some, LeadsTo-empty}
use Rattle.set_plan.proofs.Items.{drop_front, item-at, item-own}
use Rattle.set_plan.proofs.asking.are_empty.Goals as goal

pub make_on-requires-clause-item : goal.make_on-requires-clause-item
make_on-requires-clause-item g c =
    let less : c.loop-f.f-index < length c.args.formulas.now = omega arith in
    let f = tree_of c.f-item.result in
    subst (λ (sets : List Automaton). IsItemOn (free_vars f) sets f) (sym c.loop-f.invariant.sets)
    (item-own c.requires.items.0 c.args.sets.now f
    (item-at c.requires.items.0 c.args.sets.now c.args.formulas.now c.loop-f.f-index c.f-item.result c.requires.items.1 less c.f-item.is))

pub returns-then-not-is_none_or_empty-clause-answers : goal.returns-then-not-is_none_or_empty-clause-answers
returns-then-not-is_none_or_empty-clause-answers g c =
    let less : c.loop-f.f-index < length c.args.formulas.now = omega arith in
    let front = drop_front c.args.formulas.now c.loop-f.f-index c.f-item.result less c.f-item.is in
    let leads = rw front at c.loop-f.invariant.left in
    let made = rw (c.loop-f.invariant.sets, c.loop-f.invariant.budget) at c.in_ok-made.ensures.answers in
    Ends-some c.args.part c.args.memo.now.budget c.loop-f.at (item_of c.args.sets.now (tree_of c.f-item.result)) _ _ leads made c.if-not-is_none_or_empty.ensures.none

pub loop-f-preserved : goal.loop-f-preserved
loop-f-preserved g c =
    let less : c.loop-f.f-index < length c.args.formulas.now = omega arith in
    let front = drop_front c.args.formulas.now c.loop-f.f-index c.f-item.result less c.f-item.is in
    let leads = rw front at c.loop-f.invariant.left in
    let made = rw (c.loop-f.invariant.sets, c.loop-f.invariant.budget) at c.in_ok-made.ensures.answers in
    record {
      room = omega (arith, c.in_ok-made.ensures.room, c.loop-f.invariant.room);
      budget = c.in_ok-made.ensures.budget ∙ c.loop-f.invariant.budget;
      kept = λ place entry there. c.in_ok-made.ensures.kept place entry (c.loop-f.invariant.kept place entry there);
      sets = c.in_ok-made.ensures.same_sets ∙ c.loop-f.invariant.sets;
      meets_budget = c.in_ok-made.ensures.meets_budget ∙ c.loop-f.invariant.meets_budget;
      left =
          LeadsTo-empty c.args.part c.args.memo.now.budget c.loop-f.at (item_of c.args.sets.now (tree_of c.f-item.result)) _ _
          (made_of c.in_ok-made.made) leads made c.if-not-is_none_or_empty.ensures.yes;
    }
