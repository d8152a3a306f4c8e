use Rattle.auto_numbers.proofs.Sides.{next-other}
use Rattle.auto_numbers.proofs.number_set.NumberSet.next_other.Goals as goal

pub returns : goal.returns
returns c =
    let set = c.args.self.now in
    next-other set.auto.now set.others.auto.now set.others.flag set.others_auto set.others_flag c.args.low c.next.result c.next.ensures
