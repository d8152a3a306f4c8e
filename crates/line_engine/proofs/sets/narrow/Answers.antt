use Rattle.std.proofs.Common.{Option, sym, subst}
use Rattle.auto_core.specs.Automaton.{Automaton}
use Rattle.lin_formula.specs.SetOf.{Nothing, as_set}
use Rattle.lin_formula.specs.TreeOf.{tree_of}
use Rattle.set_plan.specs.Outcome.{Ends}
use Rattle.line_plan.specs.Plan as plan
use Rattle.line_engine.specs.Answers.{Answers, made_at}
use Rattle.line_engine.proofs.SetLemmas.{ends_narrowed}
use Rattle.line_engine.proofs.sets.narrow.Goals as goal

pub returns-in_default-clause-answers : goal.returns-in_default-clause-answers
returns-in_default-clause-answers c =
    subst (λ (set : Option Automaton). Ends (plan.narrow c.args.count (tree_of c.args.part) (as_set set, c.args.work.now.at)) c.args.work.now.memo.budget (Nothing, c.args.work.now.at))
    (sym c.in_default.is) (ends_narrowed c.args.count c.args.work.now.at c.args.work.now.memo.budget (tree_of c.args.part))

pub narrowed-requires-clause-set : goal.narrowed-requires-clause-set
narrowed-requires-clause-set c = record { set = c.in-Some.a; is = c.in_ok-sets.ensures; filled = rw c.in-Some.is at c.requires.set }

pub narrowed-requires-clause-part : goal.narrowed-requires-clause-part
narrowed-requires-clause-part c = (c.args.count, c.requires.part)

pub returns-clause-answers : goal.returns-clause-answers
returns-clause-answers c =
    subst (λ (set : Option Automaton). Answers (plan.narrow c.args.count (tree_of c.args.part) (as_set set, c.args.work.now.at)) c.args.work.now.memo.budget
    (made_at c.narrowed.new.work.at) c.narrowed.result)
    (sym c.in-Some.is) (c.narrowed.ensures.answers c.in-Some.a c.in_ok-sets.ensures)

pub returns-clause-set : goal.returns-clause-set
returns-clause-set c = c.narrowed.ensures.set c.args.count c.requires.part
