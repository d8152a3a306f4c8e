use Rattle.auto_merge.proofs.Mergings.{class_led}
use Rattle.auto_merge.proofs.merging.give_led.Goals as goal

pub can_join-requires-clause-known : goal.can_join-requires-clause-known
can_join-requires-clause-known g c = class_led c.requires.merging.classes c.requires.key.led c.in-Some.ensures.some
