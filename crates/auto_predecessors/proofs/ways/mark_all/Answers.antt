use Rattle.std.proofs.Common.{arith, ◌≡◌, get_or, true, false, below_more}
use Rattle.std.proofs.lemmas.List.Elements.{All-from_get_or}
use Rattle.auto_predecessors.proofs.Climbs.{MarksMore-trans}
use Rattle.auto_predecessors.proofs.ways.mark_all.Goals as goal

pub loop-place-preserved : goal.loop-place-preserved
loop-place-preserved c =
    let before = c.loop-place.invariant in
    let e = c.in_ok-mark.ensures in
    record {
      more = MarksMore-trans before.more e.more;
      marked = below_more (λ k. get_or c.mark.new.marks (get_or c.args.places.now k 0) false ≡ true) c.loop-place.place-index (λ k less. e.more.kept _ (before.marked k less)) e.marked;
    }

pub returns-clause-marked : goal.returns-clause-marked
returns-clause-marked c =
    let end = c.loop-place.auto.place-index-end in
    All-from_get_or (λ place. get_or c.loop-place.marks place false ≡ true) c.args.places.now 0 (λ k less. c.loop-place.invariant.marked k (omega (arith, less, end, c.loop-place-test.false)))
