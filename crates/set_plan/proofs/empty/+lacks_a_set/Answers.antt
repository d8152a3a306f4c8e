use Rattle.std.proofs.Common.{◌≡◌, ap, sym, subst, ◌++◌}
use Rattle.std.proofs.Common.{map}
use Rattle.std.proofs.lemmas.Bool.{OnFalse_at, OnFalse_from, OnTrue_at, OnTrue_from}
use Rattle.lin_formula.specs.SetOf.{SetOf, IsEmpty, as_set, tables, Table, SomeEmpty, NoneEmpty}
use Rattle.lin_formula.specs.TreeOf.{tree_of}
use Rattle.set_plan.specs.Unite.{positives}
use Rattle.set_plan.proofs.Empties.{named-reached, none-both, set-there, some-left, some-right}
use Rattle.set_plan.proofs.empty.+lacks_a_set.Goals as goal

pub has_no_tuple-requires : goal.has_no_tuple-requires
has_no_tuple-requires t c =
    let ready = rw c.in-Among.is at c.requires in
    named-reached c.in-Some.a.now ready c.in-Some.ensures

pub unreachable-requires : goal.unreachable-requires
unreachable-requires t c =
    let ready = rw c.in-Among.is at c.requires in
    set-there ready c.in-None.ensures

pub returns-in-Some-clause-none : goal.returns-in-Some-clause-none
returns-in-Some-clause-none t c =
    let same : tables c.args.sets.now c.in-Among.set.0 ≡ Table c.in-Some.a.now = ap as_set c.in-Some.ensures in
    let Some_tuple : SetOf → Type 0 = λ s. IsEmpty s → ⊥ in
    rw c.in-Among.is
    (OnFalse_from c.has_no_tuple.result ((¬ IsEmpty (tables c.args.sets.now c.in-Among.set.0)) × Unit {0})
    (λ no. (subst Some_tuple (sym same) (OnFalse_at no c.has_no_tuple.ensures.none), tt)))

pub returns-then-lacks_a_set-clause-yes : goal.returns-then-lacks_a_set-clause-yes
returns-then-lacks_a_set-clause-yes t c =
    let said = rw c.deref.ensures at c.lacks_a_set.ensures.yes in
    rw c.in-And.is
    (OnTrue_from c.lacks_a_set.result
    (SomeEmpty (map (tables c.args.sets.now) (positives (tree_of c.in-And.g.value) ++ positives (tree_of c.in-And.h.value))))
    (λ is. some-left (tables c.args.sets.now) (positives (tree_of c.in-And.g.value)) (positives (tree_of c.in-And.h.value))
    (OnTrue_at is said)))

pub returns-else-lacks_a_set-clause-yes : goal.returns-else-lacks_a_set-clause-yes
returns-else-lacks_a_set-clause-yes t c =
    let said = rw c.deref-else-lacks_a_set.ensures at c.lacks_a_set-else-lacks_a_set.ensures.yes in
    rw c.in-And.is
    (OnTrue_from c.lacks_a_set-else-lacks_a_set.result
    (SomeEmpty (map (tables c.args.sets.now) (positives (tree_of c.in-And.g.value) ++ positives (tree_of c.in-And.h.value))))
    (λ is. some-right (tables c.args.sets.now) (positives (tree_of c.in-And.g.value)) (positives (tree_of c.in-And.h.value))
    (OnTrue_at is said)))

pub returns-else-lacks_a_set-clause-none : goal.returns-else-lacks_a_set-clause-none
returns-else-lacks_a_set-clause-none t c =
    let first = rw c.deref.ensures at c.if-lacks_a_set.ensures.none in
    let second = rw c.deref-else-lacks_a_set.ensures at c.lacks_a_set-else-lacks_a_set.ensures.none in
    rw c.in-And.is
    (OnFalse_from c.lacks_a_set-else-lacks_a_set.result
    (NoneEmpty (map (tables c.args.sets.now) (positives (tree_of c.in-And.g.value) ++ positives (tree_of c.in-And.h.value))))
    (λ is. none-both (tables c.args.sets.now) (positives (tree_of c.in-And.g.value)) (positives (tree_of c.in-And.h.value)) first
    (OnFalse_at is second)))
