-- A formula that names no set says the same whatever sets there are.
use Rattle.std.proofs.Common.{◌≡◌, ℕ, ◌+◌, ◌≤◌, ◌<◌, List, [], ◌∷◌, ◌++◌, length, Some, None, refl, sym, arith, inl, inr}
use Rattle.std.specs.List.{All}
use Rattle.std.proofs.lemmas.List.Elements.{All-append, All-cons, All-tail}
use Rattle.track_word.specs.Tracks.{Values}
use Rattle.lin_formula.specs.Tree.{Tree, Lin, Value, Among, Not, And, Or, Ex, free_vars, symbols, steps}
use Rattle.lin_formula.specs.Holds.{Sets, Holds, with_value}
use Rattle.formula_auto.specs.Step.{Says, Exceeds, FirstOver}
use Rattle.formula_auto.specs.Decides.{Decides}
use Rattle.auto_core.specs.Automaton.{Automaton}
use Rattle.formula_auto.proofs.SameWords.{SameWords, BothSpread-same, ExSpread-same}
use Rattle.formula_auto.proofs.FirstOvers.{none_some}

nil-left : (xs ys : List ℕ) → xs ++ ys ≡ [] → xs ≡ []
nil-left [] ys h = refl
nil-left (x ∷ xs) ys h = cc

nil-right : (xs ys : List ℕ) → xs ++ ys ≡ [] → ys ≡ []
nil-right [] ys h = h
nil-right (x ∷ xs) ys h = cc

pub Holds-no_set : (f : Tree) (e d : Sets) (v : Values) → symbols f ≡ [] → Holds f e v → Holds f d v
Holds-no_set (Lin terms rel bound) e d v none h = h
Holds-no_set (Value x n) e d v none h = h
Holds-no_set (Among set vars) e d v none h = cc
Holds-no_set (Not f) e d v none h = λ k. h (Holds-no_set f d e v none k)
Holds-no_set (And f g) e d v none h =
    (Holds-no_set f e d v (nil-left (symbols f) (symbols g) none) h.0, Holds-no_set g e d v (nil-right (symbols f) (symbols g) none) h.1)
Holds-no_set (Or f g) e d v none h =
    elim h [
      | inl l ↦ inl (Holds-no_set f e d v (nil-left (symbols f) (symbols g) none) l)
      | inr r ↦ inr (Holds-no_set g e d v (nil-right (symbols f) (symbols g) none) r)
    ]
Holds-no_set (Ex x f) e d v none (n, h) = (n, Holds-no_set f e d (with_value v x n) none h)

says-no_set : (f : Tree) (e d : Sets) → symbols f ≡ [] → SameWords (length (free_vars f)) (Says f e) (Says f d)
says-no_set f e d none word is = (Holds-no_set f e d _ none, Holds-no_set f d e _ none)

pub Decides-no_set : {f : Tree} {e : Sets} (d : Sets) {a : Automaton} → symbols f ≡ [] → Decides a f e → Decides a f d
Decides-no_set {f} {e} d none h = record {
  tracks = h.tracks;
  words = λ word is.
      let w = h.words word is in
      let s = says-no_set f e d none word is in
      (λ k. s.0 (w.0 k), λ k. w.1 (s.1 k));
}

pub Exceeds-no_set : (s : Tree) (e d : Sets) (budget : ℕ) → symbols s ≡ [] → Exceeds s e budget → Exceeds s d budget
unfolding Exceeds
Exceeds-no_set (Lin terms rel bound) e d budget none h = absurd h
Exceeds-no_set (Value x n) e d budget none h = absurd h
Exceeds-no_set (Among set vars) e d budget none h = absurd h
Exceeds-no_set (Not f) e d budget none h = absurd h
Exceeds-no_set (And f g) e d budget none h =
    BothSpread-same _ _ _ _ _ _ budget (says-no_set f e d (nil-left (symbols f) (symbols g) none)) (says-no_set g e d (nil-right (symbols f) (symbols g) none)) h
Exceeds-no_set (Or f g) e d budget none h =
    BothSpread-same _ _ _ _ _ _ budget (says-no_set f e d (nil-left (symbols f) (symbols g) none)) (says-no_set g e d (nil-right (symbols f) (symbols g) none)) h
Exceeds-no_set (Ex x f) e d budget none h = ExSpread-same x _ _ _ budget (says-no_set f e d none) h

abbrev NamesNone : Tree → Type 0
NamesNone s = symbols s ≡ []

one_more : (xs : List Tree) (s : Tree) → All NamesNone xs → NamesNone s → All NamesNone (xs ++ s ∷ [])
one_more xs s all none = All-append NamesNone xs (s ∷ []) all (All-cons NamesNone s [] none (λ k d within. absurd (omega arith)))

-- nor do its steps name one
pub steps-no_set : (f : Tree) → symbols f ≡ [] → All NamesNone (steps f)
steps-no_set (Lin terms rel bound) none = λ k d within. absurd (omega arith)
steps-no_set (Value x n) none = λ k d within. absurd (omega arith)
steps-no_set (Among set vars) none = λ k d within. absurd (omega arith)
steps-no_set (Not f) none = steps-no_set f none
steps-no_set (And f g) none =
    one_more (steps f ++ steps g) (And f g)
    (All-append NamesNone (steps f) (steps g) (steps-no_set f (nil-left (symbols f) (symbols g) none)) (steps-no_set g (nil-right (symbols f) (symbols g) none))) none
steps-no_set (Or f g) none =
    one_more (steps f ++ steps g) (Or f g)
    (All-append NamesNone (steps f) (steps g) (steps-no_set f (nil-left (symbols f) (symbols g) none)) (steps-no_set g (nil-right (symbols f) (symbols g) none))) none
steps-no_set (Ex x f) none = one_more (steps f) (Ex x f) (steps-no_set f none) none

-- none of the steps is over, with other sets and other numbers
pub FirstOver-no_set : (xs : List Tree) (e d : Sets) (budget from other : ℕ) → All NamesNone xs → FirstOver xs e budget from None → FirstOver xs d budget other None
FirstOver-no_set [] e d budget from other all h = refl
FirstOver-no_set (x ∷ xs) e d budget from other all h =
    elim h [
      | inl (over, is) ↦ none_some (sym is)
      | inr (within, rest) ↦ inr (
        λ over. within (Exceeds-no_set x d e budget (all 0 x (omega arith)) over),
        FirstOver-no_set xs e d budget (from + 1) (other + 1) (All-tail NamesNone x xs all) rest,
      )
    ]

-- the number of the step that is over is one of theirs
pub FirstOver-number : (xs : List Tree) (e : Sets) (budget from k : ℕ) → FirstOver xs e budget from (Some k) → (from ≤ k) × (k < from + length xs)
FirstOver-number [] e budget from k h = none_some h
FirstOver-number (x ∷ xs) e budget from k h =
    elim h [
      | inl (over, is) ↦ (let same : k ≡ from = cc in (omega arith, omega arith))
      | inr (within, rest) ↦ (let later = FirstOver-number xs e budget (from + 1) k rest in (omega (arith, later.0), omega (arith, later.1)))
    ]
