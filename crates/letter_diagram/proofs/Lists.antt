-- Answers that are pushed one after another, and places of items that differ. Crates above cite the latter.
use Rattle.std.proofs.Common.{◌≡◌, ◌≢◌, ℕ, ◌<◌, ◌+◌, List, [], ◌∷◌, ◌++◌, length, take, get_or, slice_get, Some, AllPairs, arith, sym, ap, ◌∙◌, subst, inl, inr}
use Rattle.std.proofs.lemmas.Bool.{cases_lt}
use Rattle.std.proofs.lemmas.List.{length_push, get_or_push, get_or_append_left, take_more, length-take-le, get_or_read}
use Rattle.std.proofs.lemmas.Option.{get_or_from_slice_get, slice_get_within}
use Rattle.letter_diagram.specs.Listed.{EachAnswers}

pub EachAnswers-push : {R : ℕ → ℕ → Type 0} (S : ℕ → ℕ → Type 0) (nodes : List ℕ) {answers : List ℕ} (i a r : ℕ) → ((x y : ℕ) → R x y → S x y) → i < length nodes → a ≡ get_or nodes i a
    → EachAnswers R (take i nodes) answers → S a r
    → EachAnswers S (take (i + 1) nodes) (answers ++ r ∷ [])
EachAnswers-push {R = R} S nodes {answers} i a r weaker below is all last =
    let size = length-take-le i nodes (omega arith) in
    let more = take_more nodes i 0 below in
    let here : a ≡ get_or nodes i 0 = get_or_read nodes i a below is 0 in
    let done = all.size in
    subst (λ l. EachAnswers S l (answers ++ r ∷ [])) (sym more) (record {
      size = length_push answers r ∙ ap (λ n. n + 1) done ∙ sym (length_push (take i nodes) (get_or nodes i 0));
      each = λ k within. elim (cases_lt k i) [
        | inl lt ↦
            let first = get_or_append_left (take i nodes) (get_or nodes i 0 ∷ []) 0 k (omega (arith, size, lt)) in
            let second = get_or_append_left answers (r ∷ []) 0 k (omega (arith, size, done, lt)) in
            let P : ℕ → ℕ → Type 0 = λ x y. S x y in
            subst (λ x. P x (get_or (answers ++ r ∷ []) k 0)) (sym first) (subst (P (get_or (take i nodes) k 0)) (sym second) (weaker _ _ (all.each k (omega (arith, size, lt)))))
        | inr ge ↦
            let l = length_push (take i nodes) (get_or nodes i 0) in
            let k_is : i ≡ k = omega (arith, l, size, within, ge) in
            let first = get_or_push (take i nodes) (get_or nodes i 0) 0 k (size ∙ k_is) in
            let second = get_or_push answers r 0 k (done ∙ size ∙ k_is) in
            subst (λ x. S x (get_or (answers ++ r ∷ []) k 0)) (here ∙ sym first) (subst (S a) (sym second) last)
      ];
    })

-- where no two items are equal, each stands at one place
pub one_place : {A : Type 0} (items : List A) → AllPairs (λ p q. p ≢ q) items → (i j : ℕ) (p : A) → slice_get items i ≡ Some p → slice_get items j ≡ Some p → i ≡ j
one_place items distinct i j p at_i at_j =
    elim (cases_lt i j) [
      | inl less ↦ absurd (apart i j at_i at_j less)
      | inr more ↦ elim (cases_lt j i) [ inl less ↦ absurd (apart j i at_j at_i less) | inr same ↦ omega arith ]
    ]
  where
    apart : (i j : ℕ) → slice_get items i ≡ Some p → slice_get items j ≡ Some p → i < j → ⊥
    apart i j at_i at_j less =
        distinct i j p less (slice_get_within items j p at_j) (get_or_from_slice_get items i p p at_i ∙ sym (get_or_from_slice_get items j p p at_j))
