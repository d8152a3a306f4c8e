use Rattle.auto_merge.proofs.Trails.{IsTurned-new}
use Rattle.auto_merge.proofs.walk.turn_to.Goals as goal

pub returns : goal.returns
returns c =
    IsTurned-new c.args.number c.args.next (rw c.if-not-branch.false at c.in_ok-enter.ensures.entered) c.push.new.self.items
    (rw c.enter.ensures.numbers at c.in_ok-push.ensures.items) c.in_ok-push-2.ensures.items
