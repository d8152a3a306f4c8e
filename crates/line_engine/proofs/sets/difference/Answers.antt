use Rattle.std.proofs.Common.{List, IfSome, ap, ◌∙◌, subst, arith}
use Rattle.std.specs.Prelude.{IfOk}
use Rattle.track_word.specs.declared.tracks.Var.{Var}
use Rattle.lin_formula.specs.SetOf.{Table, as_set}
use Rattle.lin_formula.specs.Tree.{Tree, free_vars}
use Rattle.lin_formula.specs.TreeOf.{tree_of}
use Rattle.line_plan.proofs.SetFacts.{free_difference}
use Rattle.line_engine.specs.Answers.{IsFilledOn, made_at}
use Rattle.line_engine.proofs.ItemLemmas.{difference_item}
use Rattle.line_engine.proofs.SetLemmas.{answers_rest, ends_rest_all, ends_rest_none}
use Rattle.line_engine.proofs.sets.difference.Goals as goal

pub returns-in_default-clause-answers : goal.returns-in_default-clause-answers
returns-in_default-clause-answers c = rw c.in_default.is (ends_rest_all c.args.count c.args.work.now.at c.args.work.now.memo.budget (as_set c.args.set))

pub returns-in_default-set-clause-answers : goal.returns-in_default-set-clause-answers
returns-in_default-set-clause-answers c =
    let other = rw c.in-Some.is at c.requires.other in
    rw (c.in-Some.is, c.in_default-set.is) (ends_rest_none c.args.count c.args.work.now.at c.args.work.now.memo.budget (Table c.in-Some.b) other.some)

pub set_of-requires-clause-item : goal.set_of-requires-clause-item
set_of-requires-clause-item c =
    difference_item c.args.count c.in-Some-set.a c.in-Some.b c.in_ok-sets.sets (tree_of c.in_ok-f.f) c.in_ok-f.ensures c.in_ok-sets.ensures (omega arith)
    (rw c.in-Some-set.is at c.requires.set) (rw c.in-Some.is at c.requires.other)

pub returns-clause-answers : goal.returns-clause-answers
returns-clause-answers c =
    let other = rw c.in-Some.is at c.requires.other in
    rw (c.in-Some.is, c.in-Some-set.is)
    (answers_rest c.in-Some-set.a c.in-Some.b c.in_ok-sets.sets (tree_of c.in_ok-f.f) c.args.work.now.at c.args.work.now.memo.budget (made_at c.set_of.new.self.at) c.set_of.result
    c.args.count c.in_ok-f.ensures c.in_ok-sets.ensures other.some c.set_of.ensures.answers)

pub returns-clause-set : goal.returns-clause-set
returns-clause-set c =
    subst (λ (vars : List Var). IfOk c.set_of.result (λ set. IfSome set (IsFilledOn vars)))
    (ap (λ (t : Tree). free_vars t) c.in_ok-f.ensures ∙ free_difference c.args.count) c.set_of.ensures.set
