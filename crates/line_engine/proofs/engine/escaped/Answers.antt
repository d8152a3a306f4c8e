use Rattle.std.proofs.Common.{Option, sym, subst}
use Rattle.auto_core.specs.Automaton.{Automaton}
use Rattle.lin_formula.specs.SetOf.{Table, as_set}
use Rattle.line_engine.specs.Answers.{Answers, escape_by, losing_at}
use Rattle.line_engine.proofs.engine.escaped.Goals as goal

pub returns-in-None-clause-answers : goal.returns-in-None-clause-answers
returns-in-None-clause-answers c =
    subst (λ (set : Option Automaton). Answers (escape_by c.args.count (Table c.args.reached) (as_set set) (losing_at c.args.work.now.at c.args.lost)) c.args.work.now.memo.budget
    (losing_at c.always_escaped.new.work.at) c.always_escaped.result)
    (sym c.in-None.is) c.always_escaped.ensures.answers

pub escaped_unless-requires-clause-kept : goal.escaped_unless-requires-clause-kept
escaped_unless-requires-clause-kept c = rw c.in-Some.is at c.requires.kept

pub returns-in-Some-clause-answers : goal.returns-in-Some-clause-answers
returns-in-Some-clause-answers c =
    subst (λ (set : Option Automaton). Answers (escape_by c.args.count (Table c.args.reached) (as_set set) (losing_at c.args.work.now.at c.args.lost)) c.args.work.now.memo.budget
    (losing_at c.escaped_unless.new.work.at) c.escaped_unless.result)
    (sym c.in-Some.is) c.escaped_unless.ensures.answers
