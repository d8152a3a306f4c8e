use Rattle.std.proofs.Common.{◌≡◌, Option, Some, None, length, ap, subst, sym, ◌∙◌}
use Rattle.std.specs.Prelude.{IsSomeAnd, option_copied}
use Rattle.auto_core.specs.Automaton.{Automaton}
use Rattle.auto_core.specs.Integers.{IsAccepted}
use Rattle.mask_sets.specs.Stock.{mask_of}
use Rattle.mask_sets.specs.Tuple.{tuple_of}
use Rattle.mask_sets.proofs.Masks.{mask_one}
use Rattle.mask_sets.specs.Sets.{set_at}
use Rattle.mask_sets.proofs.table.MaskSets.contains.Goals.{In-Some}
use Rattle.mask_sets.proofs.table.MaskSets.contains.Goals as goal

-- the set of the position's own mask
here : (c : In-Some) → set_at c.args.self.now (mask_of c.args.p.now) ≡ Some c.in-Some.set.now
here c =
    let mask = mask_one c.mask.ensures in
    ap (set_at c.args.self.now) (sym mask) ∙ sym c.get.ensures ∙ ap option_copied c.in-Some.is

pub member-requires-clause-count : goal.member-requires-clause-count
member-requires-clause-count c =
    ap length (c.as_slice.ensures.value ∙ c.coordinates.ensures)
    ∙ (c.requires c.in-Some.set.now (here (goal.at.member-requires-clause-count c).In-Some)).count

pub member-requires-clause-decides : goal.member-requires-clause-decides
member-requires-clause-decides c = (c.requires c.in-Some.set.now (here (goal.at.member-requires-clause-decides c).In-Some)).integers

pub returns-in-Some : goal.returns-in-Some
returns-in-Some c =
    let same = c.as_slice.ensures.value ∙ c.coordinates.ensures in
    let some = here (goal.at.returns-in-Some c).In-Some in
    let Has : Option Automaton → Type 0 = λ o. IsSomeAnd o (λ a. IsAccepted a (tuple_of c.args.p.now)) in (
      λ is. subst Has (sym some) (subst (IsAccepted c.in-Some.set.now) same (c.member.ensures.member.0 is)),
      λ has. c.member.ensures.member.1 (subst (IsAccepted c.in-Some.set.now) (sym same) (subst Has some has)),
    )

pub returns-in-None : goal.returns-in-None
returns-in-None c =
    let mask = mask_one c.mask.ensures in
    let none : set_at c.args.self.now (mask_of c.args.p.now) ≡ None =
    ap (set_at c.args.self.now) (sym mask) ∙ sym c.get.ensures ∙ ap option_copied c.in-None.is in
    (λ never. cc, λ some. absurd (subst (λ (o : Option Automaton). IsSomeAnd o (λ a. IsAccepted a (tuple_of c.args.p.now))) none some))
