use Rattle.std.proofs.Common.{inl, inr, refl}
use Rattle.lin_formula.specs.TreeOf.{tree_of}
use Rattle.arith_desk.proofs.TruthLemmas.{closed_false, closed_true, compilable}
use Rattle.arith_desk.proofs.deciding.decide.Goals as goal

pub compile-requires-clause-compilable : goal.compile-requires-clause-compilable
compile-requires-clause-compilable c = compilable c.new-sets.result c.requires.question

pub returns-then-is_empty-clause-truth : goal.returns-then-is_empty-clause-truth
returns-then-is_empty-clause-truth c =
    let decides = rw c.new-sets.ensures at c.in_ok-a.ensures.decides in
    inr (refl, closed_false (tree_of c.args.f.now) c.in_ok-a.a decides c.requires.question.closed (c.is_empty.ensures.0 c.if-is_empty.true))

pub returns-clause-truth : goal.returns-clause-truth
returns-clause-truth c =
    let decides = rw c.new-sets.ensures at c.in_ok-a.ensures.decides in
    inl (
      refl,
      closed_true (tree_of c.args.f.now) c.in_ok-a.a decides c.requires.question.closed
          (λ none.
          let empty = c.is_empty.ensures.1 none in
          let some = c.if-is_empty.false in
          cc),
    )
