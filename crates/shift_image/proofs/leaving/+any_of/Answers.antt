use Rattle.std.proofs.Common.{rules}
use Rattle.lin_formula.specs.TreeOf.{tree_of}
use Rattle.lin_formula.specs.SetOf.{tables}
use Rattle.shift_image.specs.Read.{trees}
use Rattle.shift_image.proofs.SomeOf.{few-more, may-first, may-others, some-fit, some-more}
use Rattle.shift_image.proofs.leaving.+any_of.Goals as goal

pub answered-requires-clause-compilable : goal.answered-requires-clause-compilable
answered-requires-clause-compilable t c =
    let may = rw c.in-Some.ensures.cases.0 at c.requires in
    (may-first (tree_of c.in-Some.f.now.now) (trees c.in-Some.others.now) may).compilable

pub answered-requires-clause-few_steps : goal.answered-requires-clause-few_steps
answered-requires-clause-few_steps t c =
    let may = rw c.in-Some.ensures.cases.0 at c.requires in
    (may-first (tree_of c.in-Some.f.now.now) (trees c.in-Some.others.now) may).few_steps

pub any_of-requires : goal.any_of-requires
any_of-requires t c =
    let may = rw c.in-Some.ensures.cases.0 at c.requires in
    (search rules, may-others (tree_of c.in-Some.f.now.now) (trees c.in-Some.others.now) may)

pub merged_product_within-requires : goal.merged_product_within-requires
merged_product_within-requires t c =
    let may = rw c.in-Some.ensures.cases.0 at c.requires in
    let some = rw c.in-Some-2.is at c.in_ok-rest.ensures.some in
    record {
      tracks = some-fit (tables c.args.scope.now.sets.now) c.in-Some-2.rest (tree_of c.in-Some.f.now.now) (trees c.in-Some.others.now) may
          c.in_ok-asked.ensures.answered.decides some;
    }

pub returns-clause-few : goal.returns-clause-few
returns-clause-few t c =
    let rest = rw c.in-Some-2.is at c.in_ok-rest.ensures.few in
    let before = rw (c.in_ok-asked.ensures.budget, c.in-Some-with.ensures.most) at rest in
    rw c.in-Some.ensures.cases.0
    (few-more (tables c.args.scope.now.sets.now) c.args.memo.now.budget c.args.before.most (tree_of c.in-Some.f.now.now) (trees c.in-Some.others.now) c.args.before.count
    c.in_ok-asked.ensures.answered c.in-Some-with.ensures.count c.states.ensures.states c.in-Some-with.ensures.few before)

pub returns-clause-some : goal.returns-clause-some
returns-clause-some t c =
    let some = rw c.in-Some-2.is at c.in_ok-rest.ensures.some in
    rw c.in-Some.ensures.cases.0
    (some-more (tables c.args.scope.now.sets.now) c.in-Some-2.rest (tree_of c.in-Some.f.now.now) (trees c.in-Some.others.now)
    c.in_ok-asked.ensures.answered.decides some c.in_ok-any.ensures.tracks c.in_ok-any.ensures.words)

pub returns-in_err-any-clause-kept : goal.returns-in_err-any-clause-kept
returns-in_err-any-clause-kept t c = λ place entry there. c.any_of.ensures.kept place entry (c.answered.ensures.kept place entry there)

pub returns-clause-kept : goal.returns-clause-kept
returns-clause-kept t c = λ place entry there. c.any_of.ensures.kept place entry (c.answered.ensures.kept place entry there)
