-- Minimal automata ("reduced" means minimal).
use Rattle.std.specs.Prelude.{◌≡◌, ◌≢◌, ℕ, ◌<◌, List, length, All}
use Rattle.track_word.specs.Word.{IsWord}
use Rattle.auto_core.specs.Automaton.{Automaton, width, run, state_of, is_final}

-- a suffix that distinguishes two states: one of them accepts after it and the other does not
pub record ToldApart (a : Automaton) (j k : ℕ) : Type 0 where
  pub letters : List ℕ
  pub are_letters : All (λ letter. letter < width a) letters
  pub differ : is_final a (run a j letters) ≢ is_final a (run a k letters)

-- a state that some word reaches
pub record IsReachedState (a : Automaton) (state : ℕ) : Type 0 where
  pub word : List ℕ
  pub is_word : IsWord (length a.tracks) word
  pub leads : state_of a word ≡ state

-- each state is reached by a word
abbrev pub AllReached : Automaton → Type 0
AllReached a = (state : ℕ) → state < length a.accept → IsReachedState a state

-- minimal: each state is reached, and each two states are distinguished (Moore 1956, Myhill-Nerode)
pub record IsReduced (a : Automaton) : Type 0 where
  pub reached : AllReached a
  pub apart : (j k : ℕ) → j < length a.accept → k < length a.accept → j ≢ k → ToldApart a j k
