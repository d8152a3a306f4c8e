use Rattle.std.proofs.Common.{refl, subst}
use Rattle.std.specs.List.{All}
use Rattle.std.proofs.lemmas.List.{take_all}
use Rattle.std.proofs.lemmas.List.Elements.{All-more}
use Rattle.line_engine.specs.Crowds.{IsNearPlace}
use Rattle.line_engine.proofs.CrowdLemmas.{are_near, near_at}
use Rattle.line_engine.proofs.crowd.Crowd.new.Goals as goal

pub returns-then-not-is_near-clause-holds : goal.returns-then-not-is_near-clause-holds
returns-then-not-is_near-clause-holds c =
    (λ e. absurd (cc), λ is. c.if-not-is_near.ensures.1 (near_at c.args.men.now c.loop-man.man-index _ is.near c.loop-man-test.true))

pub loop-man-preserved : goal.loop-man-preserved
loop-man-preserved c =
    All-more (λ m. IsNearPlace m.place) c.args.men.now c.loop-man.man-index _ c.loop-man-test.true c.loop-man.invariant (c.if-not-is_near.ensures.0 refl)

pub invariant_of-result : goal.invariant_of-result
invariant_of-result c =
    record {
      is = record {
        least = c.if-men-lt2.false;
        most = c.if-men-gt-MOST_CROWD.false;
        near =
            are_near c.args.men.now
            (subst (All (λ m. IsNearPlace m.place)) (take_all c.loop-man.man-index c.args.men.now c.loop-man-test.false) c.loop-man.invariant);
      };
    }
