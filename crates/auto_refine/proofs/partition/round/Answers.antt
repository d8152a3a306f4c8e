use Rattle.auto_refine.proofs.Rounds.{IsRound-split, IsSound-round, IsFiner-round}
use Rattle.auto_refine.proofs.Refinings.{led_to_finer}
use Rattle.auto_refine.proofs.partition.round.Goals as goal

pub returns-clause-refined : goal.returns-clause-refined
returns-clause-refined c =
    let a = c.args.a.now in
    let valid = c.states.ensures.valid in
    let old = c.args.refining.now in
    let new = c.split.new.partition in
    let led = c.requires.led.led in
    let split = rw c.as_slice.ensures.value at c.in_ok-moved.ensures.split in
    let settled = rw c.as_slice.ensures.value at c.in_ok-moved.ensures.settled in
    let round = IsRound-split a old.diagrams c.alloc.ensures.diagram old.partition.classes.items old.led.items led split in
    let sound = IsSound-round a valid _ _ _ _ c.requires.led.sound round in
    let finer = IsFiner-round a valid _ _ _ _ c.requires.led.sound round in
    record {
      sound = sound;
      listing = c.in_ok-moved.ensures.listing;
      settled = settled;
      size = led.size;
      led = led_to_finer valid led sound.partition.states finer c.in_ok-moved.ensures.moved;
    }
