use Rattle.std.proofs.Common.{subst, sym}
use Rattle.std.specs.Int.{w128}
use Rattle.std.proofs.lemmas.Int.{to_z-of_z}
use Rattle.lin_formula.specs.Tree.{Ex}
use Rattle.lin_formula.specs.TreeOf.{tree_of}
use Rattle.arith_desk.specs.declared.deciding.Truth.TheVariants as truths
use Rattle.arith_desk.specs.Truth.{IsTruth}
use Rattle.arith_desk.proofs.Signed.{wide_fits}
use Rattle.arith_desk.proofs.TruthLemmas.{seek_false, two_tracks, zero_compilable}
use Rattle.arith_desk.proofs.Answering.{seek_near, seek_wide}
use Rattle.arith_desk.proofs.deciding.seek.Goals as goal

pub compile-requires-clause-compilable : goal.compile-requires-clause-compilable
compile-requires-clause-compilable c =
    rw c.in_ok-f.ensures (zero_compilable c.args.var (tree_of c.args.body.now) c.requires.question c.requires.free c.new-sets.result)

pub nearest-requires-clause-tracks : goal.nearest-requires-clause-tracks
nearest-requires-clause-tracks c =
    let decides = rw (c.in_ok-f.ensures, c.new-sets.ensures) at c.in_ok-a.ensures.decides in
    two_tracks c.args.var (tree_of c.args.body.now) c.requires.question c.requires.free c.in_ok-a.a decides

pub returns-then-is_empty-clause-truth : goal.returns-then-is_empty-clause-truth
returns-then-is_empty-clause-truth c =
    let decides = rw (c.in_ok-f.ensures, c.new-sets.ensures) at c.in_ok-a.ensures.decides in
    seek_false c.args.var (tree_of c.args.body.now) c.requires.question c.requires.free c.in_ok-a.a decides (c.is_empty.ensures.0 c.if-is_empty.true)

pub returns-in-Some-clause-truth : goal.returns-in-Some-clause-truth
returns-in-Some-clause-truth c =
    let decides = rw (c.in_ok-f.ensures, c.new-sets.ensures) at c.in_ok-a.ensures.decides in
    let same = to_z-of_z w128 c.in-Some.number (wide_fits c.in-Some.number c.in-Some.ensures.1) in
    subst (λ n. IsTruth (Ex c.args.var (tree_of c.args.body.now)) (truths.Witness n)) (sym same)
    (seek_near c.args.var (tree_of c.args.body.now) c.requires.question c.requires.free c.in_ok-a.a decides c.in-Some.number c.in-Some.ensures)

pub returns-clause-truth : goal.returns-clause-truth
returns-clause-truth c =
    let decides = rw (c.in_ok-f.ensures, c.new-sets.ensures) at c.in_ok-a.ensures.decides in
    seek_wide c.args.var (tree_of c.args.body.now) c.requires.question c.requires.free c.in_ok-a.a decides c.in_ok-a.ensures.reduced c.states.ensures.valid
    (λ none.
    let empty = c.is_empty.ensures.1 none in
    let some = c.if-is_empty.false in
    cc)
    c.in-None.ensures
