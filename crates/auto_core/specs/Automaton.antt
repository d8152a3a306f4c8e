-- The value of an automaton in contracts, and the words that it accepts.
use Rattle.std.specs.Prelude.{◌≡◌, ℕ, ◌+◌, ◌*◌, ◌^◌, ◌<◌, ◌≤◌, Bool, false, List, [], ◌∷◌, length, All, fold, slice_index, slice_index_or, IsTrue}
use Rattle.limits.specs.declared.numbers.TheConstants.{MOST_TRACKS}
use Rattle.track_word.specs.declared.tracks.Var.{Var}
use Rattle.track_word.specs.Tracks.{IsAscending}
use Rattle.letter_diagram.specs.declared.diagrams.Shape.{Shape}

-- tracks in ascending order, a state for each sign letter, a row of states and a flag for each state; and the diagrams and nodes of
-- these rows
pub record Automaton : Type 0 where
  pub tracks : List Var
  pub first : List ℕ
  pub next : List ℕ
  pub accept : List Bool
  pub shapes : List Shape
  pub first_node : ℕ
  pub row_nodes : List ℕ

-- the number of letters
abbrev pub width : Automaton → ℕ
width a = 2 ^ length a.tracks

-- tables of matching sizes whose entries are states
pub record IsAutomaton (a : Automaton) : Type 0 where
  pub ascending : IsAscending a.tracks
  pub few_tracks : length a.tracks ≤ MOST_TRACKS
  pub some_state : 0 < length a.accept
  pub few_states : length a.accept < 2 ^ 31
  pub first_size : length a.first ≡ width a
  pub next_size : length a.next ≡ length a.accept * width a
  pub first_within : All (λ state. state < length a.accept) a.first
  pub next_within : All (λ state. state < length a.accept) a.next

-- the state reached by a sign letter
abbrev pub first_state : Automaton → ℕ → ℕ
first_state a letter = slice_index a.first letter

-- the state reached by a further letter
abbrev pub next_state : Automaton → ℕ → ℕ → ℕ
next_state a state letter = slice_index a.next (state * width a + letter)

-- the state reached by further letters
abbrev pub run : Automaton → ℕ → List ℕ → ℕ
run a state letters = fold (next_state a) state letters

-- the state reached by a word
abbrev pub state_of : Automaton → List ℕ → ℕ
state_of a [] = 0
state_of a (sign ∷ letters) = run a (first_state a sign) letters

-- the accept flag of a state
abbrev pub is_final : Automaton → ℕ → Bool
is_final a state = slice_index_or a.accept state false

abbrev pub Accepts : Automaton → List ℕ → Type 0
Accepts a word = IsTrue (is_final a (state_of a word))
