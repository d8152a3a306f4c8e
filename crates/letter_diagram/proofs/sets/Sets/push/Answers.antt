use Rattle.std.proofs.Common.{◌≡◌, ◌∙◌, map, subst, inr, Contains, drop, length, rules}
use Rattle.letter_diagram.specs.Sets.{NumbersSet}
use Rattle.letter_diagram.proofs.OpenTables.{take_all}
use Rattle.letter_diagram.proofs.SetNumbers.{ascend_still, unrepeated_still}
use Rattle.letter_diagram.proofs.sets.Sets.push.Goals as goal

pub invariant_of-self-2 : goal.invariant_of-self-2
invariant_of-self-2 c =
    let size : length c.add.new.slots ≡ c.self.inside.slots.len = search rules in
    let numbered : NumbersSet (map (λ s. s.items) c.self.inside.sets.items) (map (λ s. s.items) c.add.new.sets.items) c.args.set.items =
    inr (c.in_ok-number.ensures.added, λ there. c.requires.absent (subst (λ l. Contains l c.args.set.items) (c.self.view_is ∙ c.in_ok-make_room.ensures) there)) in (
      ascend_still _ _ _ numbered c.requires.ascends c.self.invariant.0,
      unrepeated_still _ _ _ numbered c.self.invariant.1,
      rw (take_all c.self.inside.slots.len c.add.new.slots (drop (length c.add.new.slots) c.self.inside.slots.items) size) c.in_ok-number.ensures.hashed,
    )
