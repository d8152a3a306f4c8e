use Rattle.std.proofs.Common.{sym, subst}
use Rattle.lin_formula.specs.TreeOf.{tree_of}
use Rattle.line_engine.specs.Misses.{IsSized}
use Rattle.line_engine.proofs.MissLemmas.{sized_made}
use Rattle.line_engine.proofs.work.EngineState.size_as_made.Goals as goal

pub returns-in-Some-clause-size : goal.returns-in-Some-clause-size
returns-in-Some-clause-size c =
    subst (IsSized (tree_of c.args.f.now) c.args.self.now.memo.budget) (sym c.states.ensures.states)
    (sized_made (tree_of c.args.f.now) c.args.self.now.memo.budget c.in-Some.a (rw c.in-Some.is at c.in_ok-a.ensures.made) c.states.ensures.valid)
