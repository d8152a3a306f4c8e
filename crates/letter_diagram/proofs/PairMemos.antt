-- What a memo of pairs answers.
use Rattle.std.proofs.Common.{◌≡◌, ℕ, ◌<◌, ◌≤◌, List, ◌++◌, length, get_or, take, drop, arith, sym, ◌∙◌, ap, subst, inl, inr}
use Rattle.std.proofs.Math.Seq.{take-length}
use Rattle.std.proofs.Math.ListN.{set, length-set}
use Rattle.std.proofs.lemmas.List.{get_or-set_same, get_or-set_other, take-append-le}
use Rattle.std.proofs.lemmas.Bool.{cases_eq}
use Rattle.letter_diagram.specs.declared.pair_memo.PairSlot.{PairSlot}
use Rattle.letter_diagram.specs.PairMemo.{Answers, AnswersOnly, LearnsPair}

-- what is put into a slot is the only new answer
pub LearnsPair-set : (slots : List PairSlot) (place : ℕ) (new : PairSlot) → LearnsPair slots (set slots place new) new.left new.right new.answer
LearnsPair-set slots place new = record {
  only = λ a b r is.
      let slot : PairSlot = record { left = a; right = b; answer = r } in
      let at = is.held in
      elim (cases_eq at.0 place) [
        | inl e ↦
            let within : place < length slots = omega (arith, at.1, length-set slots place new, e) in
            let same : new ≡ slot = sym (get_or-set_same slots place new slot within) ∙ ap (λ k. get_or (set slots place new) k slot) (sym e) ∙ at.2 in
            inr (ap (λ (s : PairSlot). s.left) (sym same), ap (λ (s : PairSlot). s.right) (sym same), ap (λ (s : PairSlot). s.answer) (sym same))
        | inr ne ↦
            inl (record {
              taken = is.taken;
              held = (at.0, omega (arith, at.1, length-set slots place new), sym (get_or-set_other slots place at.0 new slot ne) ∙ at.2);
            })
      ];
}

-- where nothing is put, nothing is learnt
pub LearnsPair-nothing : (slots : List PairSlot) (left right answer : ℕ) → LearnsPair slots slots left right answer
LearnsPair-nothing slots left right answer = record { only = λ a b r is. inl is }

-- a fact of each pair and its answer, after one more is put in
pub pair_answers-learn : (R : ℕ → ℕ → ℕ → Type 0) {old new : List PairSlot} {left right answer : ℕ} → ((a b r : ℕ) → Answers old a b r → R a b r)
    → LearnsPair old new left right answer → R left right answer
    → (a b r : ℕ) → Answers new a b r → R a b r
pair_answers-learn R {left} {right} all learns here a b r is = elim (learns.only a b r is) [
  | inl before ↦ all a b r before
  | inr now ↦ subst (λ n. R n b r) (sym now.0) (subst (λ n. R left n r) (sym now.1) (subst (R left right) (sym now.2) here))
]

-- what is put among answers that were known is the only new answer
pub LearnsPair-after : {old before new : List PairSlot} {left right answer : ℕ} → AnswersOnly old before → LearnsPair before new left right answer
    → LearnsPair old new left right answer
LearnsPair-after kept learns = record {
  only = λ a b r is. elim (learns.only a b r is) [
    | inl before ↦ inl (kept a b r before)
    | inr now ↦ inr now
  ];
}

-- a pair that was known already, and its answer, are put in again
pub AnswersOnly-put : {old before new : List PairSlot} {left right answer : ℕ} → AnswersOnly old before → LearnsPair before new left right answer
    → Answers old left right answer → AnswersOnly old new
AnswersOnly-put {old} kept learns known = pair_answers-learn (Answers old) kept learns known

-- each slot that is not free is an answer
pub Answers-at : (slots : List PairSlot) (place : ℕ) (slot : PairSlot) → place < length slots → slot ≡ get_or slots place slot → (slot.left ≡ 4294967295 → ⊥)
    → Answers slots slot.left slot.right slot.answer
Answers-at slots place slot within at taken = record { taken = taken; held = (place, within, sym at) }

-- what a function that lends all items of a vector leaves there
pub refilled : {X : Type 0} (n : ℕ) (items lent : List X) → n ≡ length items → length lent ≡ length items → take n (lent ++ drop (length lent) items) ≡ lent
refilled n items lent whole same =
    let within : n ≤ length lent = omega arith in
    let all : n ≡ length lent = omega arith in
    take-append-le n lent (drop (length lent) items) within ∙ ap (λ k. take k lent) all ∙ take-length lent
