-- What a memo keeps of its answers.
use Rattle.std.proofs.Common.{◌≡◌, ℕ, List, Option, nat_eq, Some, arith, sym, subst, inl, inr}
use Rattle.std.specs.HashMap.{HashMap, get, Updates}
use Rattle.std.proofs.lemmas.Grind.{common_steps}
use Rattle.std.proofs.lemmas.Bool.{cases_eq}
use Rattle.letter_diagram.specs.NodeMemo.{answer_of, Remembers}
use Rattle.letter_diagram.specs.Carried.{Learns}

-- a fact of each key and its answer, after one more is put in
pub answers-insert : {S X : Type 0} (R : ℕ → X → Type 0) (memo new : HashMap ℕ X S) (a : ℕ) (r : X) → ((b : ℕ) (s : X) → get nat_eq memo b ≡ Some s → R b s)
    → Updates nat_eq memo new a (Some r) → R a r
    → (b : ℕ) (s : X) → get nat_eq new b ≡ Some s → R b s
answers-insert R memo new a r all updates here b s at = elim (cases_eq a b) [
  | inl e ↦ subst (λ n. R n s) e (subst (R a) (grind (arith, common_steps, updates.1, at, e)) here)
  | inr ne ↦ all b s (grind (arith, common_steps, updates.0 b, at, ne))
]

-- a map learns what it is updated by
pub Learns-updates : {S : Type 0} (memo new : HashMap ℕ ℕ S) (node made : ℕ) → Updates nat_eq memo new node (Some made) → Learns (get nat_eq memo) (get nat_eq new) node made
Learns-updates memo new node made updates = record {
  only = λ a r at. elim (cases_eq node a) [
    | inl e ↦ let same : made ≡ r = grind (arith, common_steps, updates.1, at, e) in inr (sym e, sym same)
    | inr ne ↦ inl (grind (arith, common_steps, updates.0 a, at, ne))
  ];
}

-- the same where a node's number is an answer's place
pub node_answers-insert : (R : ℕ → ℕ → Type 0) {memo new : List (Option ℕ)} {a r : ℕ}
    → ((b s : ℕ) → answer_of memo b ≡ Some s → R b s) → Remembers memo new a r → R a r → (b s : ℕ)
    → answer_of new b ≡ Some s → R b s
node_answers-insert R {a} all remembers here b s at = elim (remembers.only b s at) [
  | inl before ↦ all b s before
  | inr now ↦ subst (λ n. R n s) (sym now.0) (subst (R a) (sym now.1) here)
]
