-- The states that an automaton reaches by letters and words with a given restriction to some of its tracks.
use Rattle.std.specs.Prelude.{◌≡◌, ◌↔◌, ℕ, ◌+◌, ◌^◌, ◌<◌, List, length, All, AllPairs}
use Rattle.track_word.specs.declared.tracks.Var.{Var}
use Rattle.track_word.specs.Word.{IsWord}
use Rattle.track_word.specs.Tracks.{restrict}
use Rattle.auto_core.specs.Automaton.{Automaton, first_state, next_state, state_of, Accepts}
use Rattle.auto_core.specs.Spread.{IsLift, ExSpreadExceeds}

-- a letter over all tracks whose restriction to some of them is the other letter
pub record ReadsAs (all some : List Var) (letter longer : ℕ) : Type 0 where
  pub below : longer < 2 ^ length all
  pub reads : restrict all some longer ≡ letter

-- a sign letter with this restriction leads to the state
pub record Begins (a : Automaton) (some : List Var) (letter state : ℕ) : Type 0 where
  pub longer : ℕ
  pub is : ReadsAs a.tracks some letter longer
  pub leads : first_state a longer ≡ state

-- a further letter with this restriction leads from the first state to the second
pub record Follows (a : Automaton) (some : List Var) (from letter state : ℕ) : Type 0 where
  pub longer : ℕ
  pub is : ReadsAs a.tracks some letter longer
  pub leads : next_state a from longer ≡ state

-- a lift of the word reaches the state
pub record LiftLeads (a : Automaton) (some : List Var) (word : List ℕ) (state : ℕ) : Type 0 where
  pub lift : List ℕ
  pub is : IsLift some a.tracks word lift
  pub leads : state_of a lift ≡ state

-- budget + 1 words, the lifts of each two of which reach different sets of states
pub record MoreSets (a : Automaton) (some : List Var) (budget : ℕ) : Type 0 where
  pub words : List (List ℕ)
  pub count : length words ≡ budget + 1
  pub are_words : All (IsWord (length some)) words
  pub apart : AllPairs (λ u v. ¬ ((state : ℕ) → LiftLeads a some u state ↔ LiftLeads a some v state)) words

-- the second automaton accepts the words of which the first accepts a lift
abbrev pub AcceptsLifted : Automaton → Automaton → Type 0
AcceptsLifted a m =
    (word : List ℕ) → IsWord (length m.tracks) word
    → Accepts m word ↔ ((lift : List ℕ) × IsLift m.tracks a.tracks word lift × Accepts a lift)

-- the projection of the variable needs more states than the budget
abbrev pub ForgettingExceeds : Var → Automaton → ℕ → Type 0
ForgettingExceeds var a budget = ExSpreadExceeds var a.tracks (Accepts a) budget
