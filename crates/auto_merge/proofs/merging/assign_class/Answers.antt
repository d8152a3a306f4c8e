use Rattle.auto_merge.proofs.Mergings.{IsRowKey-more, HaveMore-Keeps, Keeps-trans}
use Rattle.auto_merge.proofs.merging.assign_class.Goals as goal

pub give_by_key-requires-clause-key : goal.give_by_key-requires-clause-key
give_by_key-requires-clause-key g c =
    let kept = c.in_ok-give_led.ensures.kept in
    IsRowKey-more kept.numbers (HaveMore-Keeps kept) kept.nodes c.requires.key

pub returns-clause-kept : goal.returns-clause-kept
returns-clause-kept g c = Keeps-trans c.in_ok-give_led.ensures.kept c.in_ok-give_by_key.ensures.kept
