use Rattle.std.proofs.Common.{Ok, arith, sym, ap, ◌∙◌, subst}
use Rattle.auto_disjoint.specs.Meetings.{AreMet}
use Rattle.auto_disjoint.proofs.MetPairs.{IsMetIn-kept, none-met, all_visited, places_more}
use Rattle.auto_disjoint.proofs.MetNodes.{AreMet-add, IsMet-first, AreFirstNodes-rows, settled_more}
use Rattle.auto_disjoint.proofs.Apartness.{AreApart-settled}
use Rattle.auto_disjoint.proofs.apart.walk.Goals as goal

pub loop-nodes-init : goal.loop-nodes-init
loop-nodes-init c =
    let left = c.first.ensures.left in
    let right = c.first.ensures.right in
    record {
      met =
          AreMet-add c.in_ok-add.ensures (IsMet-first c.args.meeting.now c.first.result left right)
          (subst (AreMet c.args.meeting.now) (sym c.new-met.ensures) (λ nodes there. absurd (none-met there)));
      first = (c.first.result, c.in_ok-add.ensures.there, AreFirstNodes-rows c.args.meeting.now c.first.result left right);
      within = omega arith;
      settled = λ number nodes less at. absurd (omega (arith, less));
    }

pub settle-requires-clause-nodes : goal.settle-requires-clause-nodes
settle-requires-clause-nodes c = c.loop-nodes.invariant.met c.in-Some.nodes (c.loop-nodes.visited, sym c.in-Some.ensures.pair)

pub loop-nodes-preserved : goal.loop-nodes-preserved
loop-nodes-preserved c =
    let so_far = c.loop-nodes.invariant in
    let kept = c.in_ok-settle.ensures.kept in
    let at = sym c.in-Some.ensures.pair in
    let first = so_far.first in
    record {
      met = c.in_ok-settle.ensures.met;
      first = (first.0, IsMetIn-kept kept first.1, first.2);
      within = places_more c.loop-nodes.visited kept at;
      settled = settled_more c.loop-nodes.visited kept so_far.within at (c.in_ok-settle.ensures.settled (ap Ok c.if-not-branch.false)) so_far.settled;
    }

pub returns-clause-apart : goal.returns-clause-apart
returns-clause-apart c = λ e.
    let so_far = c.loop-nodes.invariant in
    let first = so_far.first in
    let past = sym c.get.ensures.pair ∙ c.in_default.is in
    AreApart-settled c.args.meeting.now c.loop-nodes.met
    (λ nodes there. so_far.settled there.0 nodes (all_visited c.loop-nodes.met c.loop-nodes.visited there.0 nodes past there.1) there.1) first.0 first.1 first.2
