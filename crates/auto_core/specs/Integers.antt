-- Automata that accept sets of integer tuples.
use Rattle.std.specs.Prelude.{◌≡◌, ◌↔◌, ℕ, List, length, ℤ}
use Rattle.track_word.specs.Word.{IsWord, repeat_first, spelled, letters_below}
use Rattle.track_word.specs.Tracks.{word_values, values_at}
use Rattle.auto_core.specs.Automaton.{Automaton, Accepts, run, state_of}

-- closed under sign extension: it accepts a word if and only if it accepts the word with its first letter repeated
pub record DecidesIntegers (a : Automaton) : Type 0 where
  pub stable : (word : List ℕ) → IsWord (length a.tracks) word → Accepts a word ↔ Accepts a (repeat_first word)

-- a word over the automaton's tracks with these values
pub record IsWordOf (a : Automaton) (tuple : List ℤ) (word : List ℕ) : Type 0 where
  pub is_word : IsWord (length a.tracks) word
  pub values : values_at a.tracks (word_values a.tracks word) ≡ tuple

-- some word of these values over the automaton's tracks is accepted
pub record IsAccepted (a : Automaton) (tuple : List ℤ) : Type 0 where
  pub word : List ℕ
  pub is_word : IsWord (length a.tracks) word
  pub values : values_at a.tracks (word_values a.tracks word) ≡ tuple
  pub accepts : Accepts a word

-- the word of 64 letters of these values
unfoldable pub word_of : List ℤ → List ℕ
word_of values = spelled values 63

-- the remainder of that word leads from the state to its last state
pub record IsLeft (a : Automaton) (values : List ℤ) (left state : ℕ) : Type 0 where
  pub leads : run a state (letters_below values left) ≡ state_of a (word_of values)
