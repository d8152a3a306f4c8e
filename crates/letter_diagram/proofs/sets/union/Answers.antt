use Rattle.std.proofs.Common.{◌≡◌, Contains, ◌++◌, inl, inr, sym, ap, ◌∙◌, subst, eqb, rules}
use Rattle.std.specs.List.{dedup}
use Rattle.std.specs.List.Sorted.{IsStrictlyIncreasing}
use Rattle.std.proofs.lemmas.List.Filters.{dedup_is}
use Rattle.std.proofs.lemmas.List.Kept.{Contains-dedup_nat, Contains-from_dedup}
use Rattle.std.proofs.lemmas.List.Sorted.{Contains-permutation, IsPermutation-sym}
use Rattle.std.proofs.lemmas.List.Elements.{Contains-append_left, Contains-append_right, Contains-append_cases}
use Rattle.std.proofs.lemmas.Map.Keys.{IsStrictlyIncreasing-dedup}
use Rattle.letter_diagram.proofs.sets.union.Goals as goal

is_dedup : (c : goal.After-dedup) → c.dedup.new.self.items ≡ dedup eqb c.sort.new.self.items
is_dedup c = dedup_is eqb _ _ c.dedup.ensures.filtered

pub returns-clause-ascends : goal.returns-clause-ascends
returns-clause-ascends c = subst IsStrictlyIncreasing (sym (is_dedup c)) (IsStrictlyIncreasing-dedup _ c.in_ok-sort.ensures.sorted)

pub returns-clause-members : goal.returns-clause-members
returns-clause-members c = λ element.
    let first : c.in_ok-both.both.items ≡ c.args.a.now = search rules in
    let joined : c.extend_from_slice.new.self.items ≡ c.args.a.now ++ c.args.b.now = c.in_ok-extend_from_slice.ensures.items ∙ ap (λ l. l ++ c.args.b.now) first in (
      λ there.
          Contains-append_cases _ _ _
          (subst (λ l. Contains l element) joined
          (Contains-permutation _ _ _ (IsPermutation-sym _ _ c.in_ok-sort.ensures.permutation)
          (Contains-from_dedup eqb _ _ (subst (λ l. Contains l element) (is_dedup c) there)))),
      λ there.
          subst (λ l. Contains l element) (sym (is_dedup c))
          (Contains-dedup_nat _ _
          (Contains-permutation _ _ _ c.in_ok-sort.ensures.permutation (subst (λ l. Contains l element) (sym joined) (elim there [
            | inl h ↦ Contains-append_left c.args.a.now c.args.b.now element h
            | inr h ↦ Contains-append_right c.args.a.now c.args.b.now element h
          ])))),
    )
