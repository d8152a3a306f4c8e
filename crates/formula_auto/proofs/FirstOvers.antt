-- The first step past the budget of two lists of steps. Other crates cite these lemmas.
use Rattle.std.proofs.Common.{◌≡◌, ℕ, ◌+◌, arith, subst, length, add-zero, List, [], ◌∷◌, ◌++◌, Option, Some, None, refl, sym, inl, inr}
use Rattle.lin_formula.specs.Tree.{Tree}
use Rattle.lin_formula.specs.Holds.{Sets}
use Rattle.formula_auto.specs.Step.{FirstOver}

pub none_some : {A : Type 0} {a : A} {P : Type 0} → Some a ≡ None → P
none_some e = cc

pub FirstOver-append : (xs ys : List Tree) (e : Sets) (budget from : ℕ) (answer : Option ℕ) → FirstOver xs e budget from None
    → FirstOver ys e budget (from + length xs) answer → FirstOver (xs ++ ys) e budget from answer
FirstOver-append [] ys e budget from answer h k =
    let At : ℕ → Type 0 = λ n. FirstOver ys e budget n answer in
    subst At (add-zero from) k
FirstOver-append (x ∷ xs) ys e budget from answer h k =
    let At : ℕ → Type 0 = λ n. FirstOver ys e budget n answer in
    let more : from + length (x ∷ xs) ≡ from + 1 + length xs = omega arith in
    elim h [
      | inl (over, is) ↦ none_some (sym is)
      | inr (within, rest) ↦ inr (within, FirstOver-append xs ys e budget (from + 1) answer rest (subst At more k))
    ]

pub FirstOver-over : (xs ys : List Tree) (e : Sets) (budget from k : ℕ) → FirstOver xs e budget from (Some k) → FirstOver (xs ++ ys) e budget from (Some k)
FirstOver-over [] ys e budget from k h = none_some h
FirstOver-over (x ∷ xs) ys e budget from k h =
    elim h [
      | inl w ↦ inl w
      | inr (within, rest) ↦ inr (within, FirstOver-over xs ys e budget (from + 1) k rest)
    ]

-- where none is over, none is under other numbers
pub FirstOver-from : (xs : List Tree) (e : Sets) (budget from other : ℕ) → FirstOver xs e budget from None → FirstOver xs e budget other None
FirstOver-from [] e budget from other h = refl
FirstOver-from (x ∷ xs) e budget from other h =
    elim h [
      | inl (over, is) ↦ none_some (sym is)
      | inr (within, rest) ↦ inr (within, FirstOver-from xs e budget (from + 1) (other + 1) rest)
    ]
