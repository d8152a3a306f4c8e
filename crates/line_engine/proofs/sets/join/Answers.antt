use Rattle.std.proofs.Common.{List, IfSome, ap, ◌∙◌, subst, arith}
use Rattle.std.specs.Prelude.{IfOk}
use Rattle.track_word.specs.declared.tracks.Var.{Var}
use Rattle.lin_formula.specs.SetOf.{Table}
use Rattle.lin_formula.specs.Tree.{Tree, free_vars}
use Rattle.lin_formula.specs.TreeOf.{tree_of}
use Rattle.line_plan.specs.Plan.{distances}
use Rattle.line_plan.proofs.SetFacts.{free_either}
use Rattle.line_engine.specs.Answers.{IsFilledOn, made_at}
use Rattle.line_engine.proofs.ItemLemmas.{either_item}
use Rattle.line_engine.proofs.SetLemmas.{answers_either, ends_joined_next, ends_joined_none}
use Rattle.line_engine.proofs.sets.join.Goals as goal

pub returns-in_default-clause-answers : goal.returns-in_default-clause-answers
returns-in_default-clause-answers c =
    rw c.in_default.is (ends_joined_next (distances c.args.count) c.args.work.now.at c.args.work.now.memo.budget c.args.next c.requires.next)

pub returns-in_default-next-clause-answers : goal.returns-in_default-next-clause-answers
returns-in_default-next-clause-answers c =
    rw (c.in-Some.is, c.in_default-next.is) (ends_joined_none (distances c.args.count) c.args.work.now.at c.args.work.now.memo.budget (Table c.in-Some.a))

pub set_of-requires-clause-item : goal.set_of-requires-clause-item
set_of-requires-clause-item c =
    either_item c.args.count c.in-Some.a c.in-Some-next.b c.in_ok-sets.sets (tree_of c.in_ok-f.f) c.in_ok-f.ensures c.in_ok-sets.ensures (omega arith)
    (rw c.in-Some.is at c.requires.so_far) (rw c.in-Some-next.is at c.requires.next)

pub returns-clause-answers : goal.returns-clause-answers
returns-clause-answers c =
    let first = rw c.in-Some.is at c.requires.so_far in
    let second = rw c.in-Some-next.is at c.requires.next in
    rw (c.in-Some.is, c.in-Some-next.is)
    (answers_either c.in-Some.a c.in-Some-next.b c.in_ok-sets.sets (tree_of c.in_ok-f.f) c.args.work.now.at c.args.work.now.memo.budget (made_at c.set_of.new.self.at) c.set_of.result
    c.args.count c.in_ok-f.ensures c.in_ok-sets.ensures first.some second.some c.set_of.ensures.answers)

pub returns-clause-set : goal.returns-clause-set
returns-clause-set c =
    subst (λ (vars : List Var). IfOk c.set_of.result (λ set. IfSome set (IsFilledOn vars)))
    (ap (λ (t : Tree). free_vars t) c.in_ok-f.ensures ∙ free_either c.args.count 0 1) c.set_of.ensures.set
