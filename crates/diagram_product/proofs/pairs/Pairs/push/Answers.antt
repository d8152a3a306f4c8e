use Rattle.std.proofs.Common.{◌≡◌, ◌∙◌, ◌≢◌, AllPairs, Contains, sym, subst, drop, length, rules}
use Rattle.std.proofs.lemmas.List.Elements.{Contains-get_or}
use Rattle.std.proofs.lemmas.List.Quantifiers.{all_pairs_push}
use Rattle.letter_diagram.proofs.OpenTables.{take_all}
use Rattle.diagram_product.proofs.pairs.Pairs.push.Goals as goal

pub invariant_of-self-2 : goal.invariant_of-self-2
invariant_of-self-2 c =
    let size : length c.add.new.slots ≡ c.self.inside.slots.len = search rules in
    let absent : Contains c.self.inside.pairs.items (c.args.a, c.args.b) → ⊥ =
    λ there. c.requires.absent (subst (λ l. Contains l (c.args.a, c.args.b)) (c.self.view_is ∙ c.in_ok-make_room.ensures) there) in (
      subst (AllPairs (λ x y. x ≢ y)) (sym c.in_ok-number.ensures.added)
          (all_pairs_push (λ x y. x ≢ y) c.self.inside.pairs.items (c.args.a, c.args.b) c.self.invariant.0
          (λ k d below same. absent (subst (Contains c.self.inside.pairs.items) same (Contains-get_or c.self.inside.pairs.items k d below)))),
      rw (take_all c.self.inside.slots.len c.add.new.slots (drop (length c.add.new.slots) c.self.inside.slots.items) size) c.in_ok-number.ensures.hashed,
    )
