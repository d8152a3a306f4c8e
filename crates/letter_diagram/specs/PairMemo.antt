-- Caches by pairs of nodes.
use Rattle.std.specs.Prelude.{◌≡◌, ◌≢◌, ◌-◌, ◌^◌, ◌⊎◌, ℕ, List, Contains}
use Rattle.letter_diagram.specs.declared.pair_memo.PairSlot.{PairSlot}

-- some slot has this result for a pair of nodes; a slot whose left node has the greatest number is free
pub record Answers (slots : List PairSlot) (left right answer : ℕ) : Type 0 where
  pub taken : left ≢ 2 ^ 32 - 1
  pub held : Contains slots (record { left = left; right = right; answer = answer })

-- no pair of nodes has a result
abbrev pub AnswersNothing : List PairSlot → Type 0
AnswersNothing slots = (left right answer : ℕ) → ¬ Answers slots left right answer

-- each result was stored before
abbrev pub AnswersOnly : List PairSlot → List PairSlot → Type 0
AnswersOnly old new = (left right answer : ℕ) → Answers new left right answer → Answers old left right answer

-- each result was stored before, or is the new one for its pair
pub record LearnsPair (old new : List PairSlot) (left right answer : ℕ) : Type 0 where
  pub only : (a b r : ℕ) → Answers new a b r → Answers old a b r ⊎ ((a ≡ left) × (b ≡ right) × (r ≡ answer))
