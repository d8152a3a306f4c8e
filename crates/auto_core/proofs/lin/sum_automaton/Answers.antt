use Rattle.std.proofs.Common.{arith, w32, subst, ◌↔◌}
use Rattle.std.proofs.lemmas.Int.{ints, to_z-of_z}
use Rattle.track_word.specs.Atom.{Compares}
use Rattle.auto_core.specs.Automaton.{Accepts}
use Rattle.auto_core.specs.Sums.{total, weight_from}
use Rattle.auto_core.proofs.SumRows.{RemembersSums-empty}
use Rattle.auto_core.proofs.Assembled.{AreSumRows-grows}
use Rattle.auto_core.proofs.Linears.{AreWeights-opposite, AreRows-sums, sum_words}
use Rattle.auto_core.proofs.lin.sum_automaton.Goals as goal

pub returns-clause-tracks : goal.returns-clause-tracks
returns-clause-tracks c = c.from_diagrams-decided.ensures.tracks

pub row-requires : goal.row-requires
row-requires c =
    let weights = c.requires.weights in
    let other = AreWeights-opposite weights in
    record {
      few = let size = other.1 in let few = weights.few in omega (arith, size, few);
      small = other.0;
      span = c.span_of-span.ensures.is_span;
      track = omega arith;
      near = record { low = omega (arith, ints); high = omega (arith, ints) };
      remembered = RemembersSums-empty _ _ _ _ c.new-memo.ensures.empty;
    }

pub from_diagrams-decided-requires : goal.from_diagrams-decided-requires
from_diagrams-decided-requires c =
    let weights = c.requires.weights in
    let other = AreWeights-opposite weights in
    AreRows-sums _ _ c.span_of-span.ensures.is_span weights.ascending weights.few weights.size other.1 c.in_ok-rows.ensures.count
    c.in_ok-accept.ensures.count c.in_ok-first.ensures.row (AreSumRows-grows c.in_ok-first.ensures.grows c.in_ok-rows.ensures.rows)

pub returns-clause-words : goal.returns-clause-words
returns-clause-words c =
    let weights = c.requires.weights in
    let made = c.from_diagrams-decided.ensures in
    let counts = c.in_ok-rows.ensures.count in
    let others = c.in_ok-accept.ensures.count in
    λ word is. subst (λ b. Accepts c.from_diagrams-decided.result word ↔ Compares c.args.rel (total (weight_from 0 c.args.weights.now) word) b) (to_z-of_z w32 c.args.bound c.ranges.bound) (
    sum_words c.from_diagrams-decided.result _ _ _ _ _ _ _ c.span_of-span.ensures weights.negative (rw made.tracks made.first)
    (rw made.tracks made.next) (rw made.accept (omega (arith, ints, counts, others)))
    c.in_ok-first.ensures.row (AreSumRows-grows c.in_ok-first.ensures.grows c.in_ok-rows.ensures.rows) c.args.rel made.valid
    (rw made.accept c.in_ok-accept.ensures.flags) word (rw made.tracks is))

pub returns-clause-few : goal.returns-clause-few
returns-clause-few c =
    let size = c.span_of-span.ensures.size in
    let count = c.in_ok-accept.ensures.count in
    rw c.from_diagrams-decided.ensures.accept (omega (arith, ints, size, count))
