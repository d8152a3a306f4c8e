use Rattle.auto_numbers.proofs.Sides.{next-member}
use Rattle.auto_numbers.proofs.number_set.NumberSet.next_member.Goals as goal

pub returns : goal.returns
returns c =
    let set = c.args.self.now in
    next-member set.auto.now set.members.auto.now set.members.flag set.members_auto set.members_flag c.args.low c.next.result c.next.ensures
