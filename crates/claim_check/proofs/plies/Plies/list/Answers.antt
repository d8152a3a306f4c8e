use Rattle.std.proofs.Common.{◌≤◌}
use Rattle.std.proofs.lemmas.List.Elements.{All-same}
use Rattle.mate_plan.specs.Claim.{every_second}
use Rattle.claim_check.proofs.LosersPlies.{listed_all, listed_more, listed_none, low_plies}
use Rattle.claim_check.proofs.plies.Plies.list.Goals as goal

pub loop-before-init : goal.loop-before-init
loop-before-init c = rw c.new-plies.ensures.items (listed_none c.args.self.first c.args.self.count)

pub loop-before-preserved : goal.loop-before-preserved
loop-before-preserved c =
    rw (c.in_ok-push.ensures.items, c.ply.ensures.is)
    (listed_more c.args.self.first c.args.self.count c.loop-before.plies.items c.loop-before.before c.loop-before-test.true c.loop-before.invariant)

pub returns-clause-list : goal.returns-clause-list
returns-clause-list c = listed_all c.args.self.first c.args.self.count c.loop-before.plies.items c.loop-before.before c.loop-before-test.false c.loop-before.invariant

pub returns-clause-low : goal.returns-clause-low
returns-clause-low c =
    All-same (λ ply. ply ≤ 41) c.loop-before.plies.items (every_second c.args.self.first c.args.self.count)
    (listed_all c.args.self.first c.args.self.count c.loop-before.plies.items c.loop-before.before c.loop-before-test.false c.loop-before.invariant)
    (low_plies c.args.self.first c.args.self.count c.requires.few.first c.requires.few.count)
