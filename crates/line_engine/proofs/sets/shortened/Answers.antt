use Rattle.std.proofs.Common.{List, IfSome, ap, ◌∙◌, subst, arith}
use Rattle.std.specs.Prelude.{IfOk}
use Rattle.track_word.specs.declared.tracks.Var.{Var}
use Rattle.lin_formula.specs.Tree.{Tree, free_vars}
use Rattle.lin_formula.specs.TreeOf.{tree_of}
use Rattle.line_plan.proofs.SetFacts.{free_shortened}
use Rattle.line_engine.specs.Answers.{IsFilledOn, made_at}
use Rattle.line_engine.proofs.ItemLemmas.{shortened_item}
use Rattle.line_engine.proofs.SetLemmas.{answers_shortened}
use Rattle.line_engine.proofs.sets.shortened.Goals as goal

pub set_of-requires-clause-item : goal.set_of-requires-clause-item
set_of-requires-clause-item c =
    shortened_item c.args.count c.args.set c.in_ok-sets.sets (tree_of c.in_ok-f.f) c.in_ok-f.ensures c.in_ok-sets.ensures (omega arith) c.requires.set

pub returns-clause-answers : goal.returns-clause-answers
returns-clause-answers c =
    answers_shortened c.args.set c.in_ok-sets.sets (tree_of c.in_ok-f.f) c.args.work.now.at c.args.work.now.memo.budget (made_at c.set_of.new.self.at) c.set_of.result
    c.args.count c.in_ok-f.ensures c.in_ok-sets.ensures c.set_of.ensures.answers

pub returns-clause-set : goal.returns-clause-set
returns-clause-set c =
    subst (λ (vars : List Var). IfOk c.set_of.result (λ set. IfSome set (IsFilledOn vars)))
    (ap (λ (t : Tree). free_vars t) c.in_ok-f.ensures ∙ free_shortened c.args.count) c.set_of.ensures.set
