use Rattle.std.proofs.Common.{rules}
use Rattle.auto_predecessors.proofs.Climbs.{MarksMore-set}
use Rattle.auto_predecessors.proofs.ways.mark.Goals as goal

pub returns-in_ok-push-clause-more : goal.returns-in_ok-push-clause-more
returns-in_ok-push-clause-more c = MarksMore-set c.args.marks.now c.args.waiting.now.items c.push.new.self.items c.args.place c.requires (search rules) c.in_ok-push.ensures.items
