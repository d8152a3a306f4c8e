-- The number of states that a step needs (Myhill-Nerode classes), for sets of words that are given as predicates.
use Rattle.std.specs.Prelude.{◌≡◌, ◌↔◌, ℕ, ◌+◌, ◌<◌, ◌^◌, List, ◌++◌, length, All, AllPairs}
use Rattle.track_word.specs.declared.tracks.Var.{Var}
use Rattle.track_word.specs.Word.{IsWord, repeated}
use Rattle.track_word.specs.Tracks.{with_vars, without_var, part_of}

-- each suffix after either of two words gives two words that are both in the set or both outside it
pub record SameResidual (tracks : ℕ) (words : List ℕ → Type 0) (v w : List ℕ) : Type 0 where
  pub same : (letters : List ℕ) → All (λ letter. letter < 2 ^ tracks) letters
      → words (v ++ letters) ↔ words (w ++ letters)

-- words over all tracks whose restrictions to fs are equivalent in F, and to gs in G
pub record AlikeInBoth (all fs gs : List Var) (F G : List ℕ → Type 0) (v w : List ℕ) : Type 0 where
  pub left : SameResidual (length fs) F (part_of all fs v) (part_of all fs w)
  pub right : SameResidual (length gs) G (part_of all gs v) (part_of all gs w)

-- a lift: a word over the tracks gs whose restriction to some of them is the given word, with its first letter repeated
pub record IsLift (some gs : List Var) (word lift : List ℕ) : Type 0 where
  pub is_word : IsWord (length gs) lift
  pub times : ℕ
  pub repeats : part_of gs some lift ≡ repeated times word

-- each lift of the first word has a lift of the second with the same residual
abbrev pub LiftsInto : List Var → List Var → (List ℕ → Type 0) → List ℕ → List ℕ → Type 0
LiftsInto some gs G v w =
    (x : List ℕ) → IsLift some gs v x → (y : List ℕ) × IsLift some gs w y × SameResidual (length gs) G x y

pub record AlikeLifted (some gs : List Var) (G : List ℕ → Type 0) (v w : List ℕ) : Type 0 where
  pub forth : LiftsInto some gs G v w
  pub back : LiftsInto some gs G w v

-- budget + 1 words, each two of which are inequivalent
pub record HasMoreClasses (tracks : ℕ) (Alike : List ℕ → List ℕ → Type 0) (budget : ℕ) : Type 0 where
  pub words : List (List ℕ)
  pub count : length words ≡ budget + 1
  pub are_words : All (IsWord tracks) words
  pub apart : AllPairs (λ v w. Alike v w → ⊥) words

-- a conjunction or disjunction of parts with these tracks and words needs more states than the budget
abbrev pub BothSpreadExceeds : List Var → List Var → (List ℕ → Type 0) → (List ℕ → Type 0) → ℕ → Type 0
BothSpreadExceeds fs gs F G budget =
    HasMoreClasses (length (with_vars fs gs)) (AlikeInBoth (with_vars fs gs) fs gs F G) budget

-- a projection of a part with these tracks and words needs more states than the budget
abbrev pub ExSpreadExceeds : Var → List Var → (List ℕ → Type 0) → ℕ → Type 0
ExSpreadExceeds x gs G budget = HasMoreClasses (length (without_var x gs)) (AlikeLifted (without_var x gs) gs G) budget
