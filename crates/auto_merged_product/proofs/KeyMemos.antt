-- What slots answer.
use Rattle.std.proofs.Common.{◌≡◌, ℕ, ◌<◌, List, Option, Some, None, length, get_or, Contains, arith, refl, sym, ap, ◌∙◌, subst, inl, inr}
use Rattle.std.proofs.Math.ListN.{set, length-set}
use Rattle.std.proofs.lemmas.List.{get_or-set_same, get_or-set_other}
use Rattle.std.proofs.lemmas.Bool.{cases_eq}
use Rattle.auto_merge.specs.Graph.{AddsKey, AnswersNothing}
use Rattle.auto_merged_product.specs.declared.key_memo.KeySlot.{KeySlot}
use Rattle.auto_merged_product.specs.KeyMemo.{IsRowOf, AnswersKey, AreTakenFrom, LearnsSlot}

-- what is put into a slot is the only new one
pub LearnsSlot-set : (slots : List KeySlot) (place : ℕ) (new : KeySlot) → LearnsSlot slots (set slots place new) new
LearnsSlot-set slots place new = record {
  only = λ slot at. elim (cases_eq at.0 place) [
    | inl e ↦
        let within : place < length slots = omega (arith, at.1, length-set slots place new, e) in
        let same : new ≡ slot = sym (get_or-set_same slots place new slot within) ∙ ap (λ k. get_or (set slots place new) k slot) (sym e) ∙ at.2 in
        inr (inr (sym same))
    | inr ne ↦ inr (inl (at.0, omega (arith, at.1, length-set slots place new), sym (get_or-set_other slots place at.0 new slot ne) ∙ at.2))
  ];
}

pub LearnsSlot-nothing : (slots : List KeySlot) (new : KeySlot) → LearnsSlot slots slots new
LearnsSlot-nothing slots new = record { only = λ slot at. inr (inl at) }

-- a slot is put among those that were taken before
pub LearnsSlot-after : {old before new : List KeySlot} {added : KeySlot} → AreTakenFrom old before → LearnsSlot before new added → LearnsSlot old new added
LearnsSlot-after from learns = record {
  only = λ slot at. elim (learns.only slot at) [
    | inl free ↦ inl free
    | inr (inl before) ↦ elim (from.only slot before) [
      | inl free ↦ inl free
      | inr was ↦ inr (inl was)
    ]
    | inr (inr now) ↦ inr (inr now)
  ];
}

-- one that was taken before is put in again
pub AreTakenFrom-put : {old before new : List KeySlot} {added : KeySlot} → AreTakenFrom old before → LearnsSlot before new added → Contains old added → AreTakenFrom old new
AreTakenFrom-put {old} from learns known = record {
  only = λ slot at. elim (learns.only slot at) [
    | inl free ↦ inl free
    | inr (inl before) ↦ from.only slot before
    | inr (inr now) ↦ inr (subst (Contains old) (sym now) known)
  ];
}

-- a slot that is read is one of the slots
pub Contains-read : (slots : List KeySlot) (place : ℕ) (slot : KeySlot) → place < length slots → slot ≡ get_or slots place slot → Contains slots slot
Contains-read slots place slot within at = (place, within, sym at)

-- the row of a mark says so to no other mark
same_mark : {o p : Option ℕ} {row : ℕ} → IsRowOf o row → IsRowOf p row → o ≡ p
same_mark {o = None} {p = None} one two = refl
same_mark {o = None} {p = Some q} {row} one two = let is = one.is in let is' = two.is in let low = two.low q refl in absurd (omega (arith, is, is', low))
same_mark {o = Some n} {p = None} {row} one two = let is = one.is in let is' = two.is in let low = one.low n refl in absurd (omega (arith, is, is', low))
same_mark {o = Some n} {p = Some q} {row} one two = ap Some (sym one.is ∙ two.is)

-- no mark has the row of a free slot
not_free : {o : Option ℕ} {row : ℕ} → IsRowOf o row → row ≡ 4294967295 → ⊥
not_free {o = None} one e = let is = one.is in omega (arith, is, e)
not_free {o = Some n} one e = let is = one.is in let low = one.low n refl in omega (arith, is, low, e)

-- slots that learn one key answer it alone
pub AddsKey-slot : {old new : List KeySlot} {own : Option ℕ} {left right node row : ℕ} → IsRowOf own row → LearnsSlot old new (record { left = left; right = right; node = node; row = row })
    → AddsKey (AnswersKey old) (AnswersKey new) own (left, right) node
AddsKey-slot {own} {left} {right} {node} is learns = record {
  only = λ o spot n answers. elim (learns.only _ answers.held) [
    | inl free ↦ absurd (not_free answers.row_is free)
    | inr (inl before) ↦ inl (record { row = answers.row; row_is = answers.row_is; held = before })
    | inr (inr now) ↦
        let l : spot.0 ≡ left = ap (λ (s : KeySlot). s.left) now in
        let r : spot.1 ≡ right = ap (λ (s : KeySlot). s.right) now in
        let same_row = ap (λ (s : KeySlot). s.row) now in
        inr (same_mark answers.row_is (subst (IsRowOf own) (sym same_row) is), (λ i. (l i, r i)), ap (λ (s : KeySlot). s.node) now)
  ];
}
