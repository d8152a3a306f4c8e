use Rattle.std.proofs.Common.{List, IfSome, ap, ◌∙◌, subst, arith}
use Rattle.std.specs.Prelude.{IfOk}
use Rattle.track_word.specs.declared.tracks.Var.{Var}
use Rattle.lin_formula.specs.Tree.{Tree, And, free_vars}
use Rattle.lin_formula.specs.TreeOf.{tree_of}
use Rattle.rule_formula.specs.Fine.{IsLow}
use Rattle.line_engine.specs.Answers.{IsFilledOn, made_at}
use Rattle.line_engine.proofs.ItemLemmas.{fine_symbols, narrowed_item}
use Rattle.line_engine.proofs.SetLemmas.{answers_narrowed}
use Rattle.line_engine.proofs.sets.narrowed.Goals as goal

pub set_of-requires-clause-item : goal.set_of-requires-clause-item
set_of-requires-clause-item c =
    let part : Tree = tree_of c.args.part in
    narrowed_item c.args.count c.requires.part.0 c.args.reached.now part (tree_of c.in_ok-f.f)
    (c.in_ok-f.ensures ∙ ap (λ (t : Tree). And t part) c.in_ok-before.ensures) (omega arith) c.requires.set c.requires.part.1

pub returns-clause-answers : goal.returns-clause-answers
returns-clause-answers c = λ a is.
    let part : Tree = tree_of c.args.part in
    answers_narrowed a c.args.reached.now (tree_of c.in_ok-f.f) c.args.work.now.at c.args.work.now.memo.budget (made_at c.set_of.new.self.at) c.set_of.result c.args.count part
    (c.in_ok-f.ensures ∙ ap (λ (t : Tree). And t part) c.in_ok-before.ensures) is (fine_symbols IsLow part c.requires.part.1.fine) c.set_of.ensures.answers

pub returns-clause-set : goal.returns-clause-set
returns-clause-set c = λ n is.
    let part : Tree = tree_of c.args.part in
    subst (λ (vars : List Var). IfOk c.set_of.result (λ set. IfSome set (IsFilledOn vars)))
    (ap (λ (t : Tree). free_vars t) (c.in_ok-f.ensures ∙ ap (λ (t : Tree). And t part) c.in_ok-before.ensures) ∙ is.over) c.set_of.ensures.set
