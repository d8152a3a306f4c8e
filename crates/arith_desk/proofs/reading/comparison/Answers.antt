use Rattle.std.specs.Int.{w32}
use Rattle.std.proofs.lemmas.Int.{to_z-of_z}
use Rattle.arith_desk.specs.Line.{texts}
use Rattle.lin_formula.specs.TreeOf.{tree_of}
use Rattle.arith_desk.proofs.ReadLemmas.{comparison_reads}
use Rattle.arith_desk.proofs.Signed.{bound_fits}
use Rattle.arith_desk.proofs.reading.comparison.Goals as goal

pub returns-clause-ok : goal.returns-clause-ok
returns-clause-ok c =
    let read = rw c.new-terms.ensures.items at c.in_ok-bound.ensures.ok in
    let same = to_z-of_z w32 c.in_ok-bound.bound (bound_fits c.in_ok-bound.bound read.is_bound) in
    let made = rw (c.as_slice.ensures.value, same) at c.in_ok-compared.ensures in
    comparison_reads c.args.rel c.args.scope.now c.in_ok-due.due (texts c.args.fields.now) (texts c.in_ok-due.rest.now) (texts c.in_ok-bound.rest.now)
    c.terms_and_bound.new.terms.items c.in_ok-bound.bound (tree_of c.in_ok-compared.field-0)
    c.in_ok-due.ensures.low c.in_ok-due.ensures.high c.in_ok-due.ensures.ok read made
