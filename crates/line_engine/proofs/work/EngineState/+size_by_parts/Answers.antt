use Rattle.std.proofs.Common.{◌≡◌, IfSome, ap, ◌∙◌, sym, subst}
use Rattle.lin_formula.specs.Tree.{Tree, And, Not}
use Rattle.lin_formula.specs.TreeOf.{tree_of}
use Rattle.line_engine.specs.Misses.{IsSized}
use Rattle.line_engine.proofs.MissLemmas.{sized_product}
use Rattle.line_engine.proofs.work.EngineState.+size_by_parts.Goals as goal

pub returns-in_ok-out-in-Some-clause-size : goal.returns-in_ok-out-in-Some-clause-size
returns-in_ok-out-in-Some-clause-size t c =
    let budget = c.args.self.now.memo.budget in
    let left : Tree = tree_of c.in-And.left.value in
    let out : Tree = tree_of c.in-Some.out.now in
    let denied : tree_of c.in-And.right.value ≡ Not out = ap (λ g. tree_of g) (sym c.deref.ensures) ∙ c.in-Some.ensures.some in
    let whole : tree_of c.args.f.now ≡ And left (Not out) =
    ap (λ g. tree_of g) c.in-And.is ∙ ap (λ (g : Tree). And left g) denied in
    let all : IfSome c.in_ok-all-in-Some.all (IsSized left budget) = rw c.deref-in-Some.ensures at c.in_ok-all-in-Some.ensures.size in
    subst (λ (t : Tree). IfSome c.product.result (IsSized t budget)) (sym whole)
    (sized_product left out budget c.in_ok-all-in-Some.all c.in_ok-out-in-Some.out c.product.result
    all (rw c.size_by_parts.ensures.same at c.in_ok-out-in-Some.ensures.size)
    (rw (c.size_as_made.ensures.same, c.size_by_parts.ensures.same) at c.product.ensures))
