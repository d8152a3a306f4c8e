use Rattle.std.proofs.Common.{◌<◌, ◌≤◌, List, length, Ok, sym, ◌∙◌, subst, arith}
use Rattle.std.proofs.lemmas.Result.{err_from_is_err_and}
use Rattle.auto_core.specs.Automaton.{Automaton}
use Rattle.lin_formula.specs.SetOf.{Nothing}
use Rattle.lin_formula.specs.TreeOf.{tree_of}
use Rattle.set_plan.specs.Sets.{IsItemOn, made_of}
use Rattle.set_plan.proofs.Folds.{each_ends, each_error, each_more}
use Rattle.set_plan.proofs.Items.{item-at}
use Rattle.set_plan.proofs.Unions.{united_answers, with_formula}
use Rattle.set_plan.proofs.parts.Uniting.union_of.Goals as goal

pub with_item-requires-clause-item : goal.with_item-requires-clause-item
with_item-requires-clause-item g c =
    let less : c.loop-f.f-index < length c.args.formulas.now = omega arith in
    let tracks = c.args.self.now.tracks.now in
    subst (λ (sets : List Automaton). IsItemOn tracks sets (tree_of c.f-item.result)) (sym c.loop-f.invariant.sets)
    (item-at tracks c.args.meets.now.sets c.args.formulas.now c.loop-f.f-index c.f-item.result c.requires.items less c.f-item.is)

pub returns-in_err-made-clause-answers : goal.returns-in_err-made-clause-answers
returns-in_err-made-clause-answers g c =
    let it = c.args.self.now in
    let sets = c.args.meets.now.sets in
    let less : c.loop-f.f-index < length c.args.formulas.now = omega arith in
    let error = rw (c.loop-f.invariant.sets, c.loop-f.invariant.budget) at c.in_err-made.ensures.answers in
    let p = err_from_is_err_and c.from_residual.result c.from_residual.ensures.1 in
    united_answers it.tracks.now it.part sets c.args.formulas.now (Nothing, c.args.at) c.args.memo.now.budget made_of c.from_residual.result
    (rw (p.1, p.2)
    (each_error c.args.formulas.now (with_formula it.tracks.now it.part sets) (Nothing, c.args.at) c.args.memo.now.budget c.loop-f.f-index c.f-item.result
    (made_of c.loop-f.made) c.loop-f.invariant.left less c.f-item.is c.in_err-made.field-0.0 error))

pub loop-f-preserved : goal.loop-f-preserved
loop-f-preserved g c =
    let it = c.args.self.now in
    let sets = c.args.meets.now.sets in
    let less : c.loop-f.f-index < length c.args.formulas.now = omega arith in
    let made = rw (c.loop-f.invariant.sets, c.loop-f.invariant.budget) at c.in_ok-made.ensures.answers in
    record {
      room = omega (arith, c.in_ok-made.ensures.room, c.loop-f.invariant.room);
      set = c.in_ok-made.ensures.set;
      budget = c.in_ok-made.ensures.budget ∙ c.loop-f.invariant.budget;
      kept = λ place entry there. c.in_ok-made.ensures.kept place entry (c.loop-f.invariant.kept place entry there);
      sets = c.in_ok-made.ensures.same_sets ∙ c.loop-f.invariant.sets;
      meets_budget = c.in_ok-made.ensures.meets_budget ∙ c.loop-f.invariant.meets_budget;
      left =
          each_more c.args.formulas.now (with_formula it.tracks.now it.part sets) (Nothing, c.args.at) c.args.memo.now.budget c.loop-f.f-index c.f-item.result
          (made_of c.loop-f.made) c.loop-f.invariant.left less c.f-item.is (made_of c.in_ok-made.made) made;
    }

pub returns-clause-answers : goal.returns-clause-answers
returns-clause-answers g c =
    let it = c.args.self.now in
    let sets = c.args.meets.now.sets in
    let all : length c.args.formulas.now ≤ c.loop-f.f-index = omega arith in
    united_answers it.tracks.now it.part sets c.args.formulas.now (Nothing, c.args.at) c.args.memo.now.budget made_of (Ok c.loop-f.made)
    (each_ends c.args.formulas.now (with_formula it.tracks.now it.part sets) (Nothing, c.args.at) c.args.memo.now.budget c.loop-f.f-index (made_of c.loop-f.made)
    c.loop-f.invariant.left all)
