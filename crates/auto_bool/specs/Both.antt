-- The pairs of states that words reach in two automata.
use Rattle.std.specs.Prelude.{ℕ, List, [], ◌∷◌, Bool, false, ◌&&◌, ◌||◌, not}
use Rattle.track_word.specs.declared.tracks.Var.{Var}
use Rattle.track_word.specs.Tracks.{with_vars, restrict}
use Rattle.auto_core.specs.Automaton.{Automaton, first_state, next_state, is_final}
use Rattle.auto_walk.specs.Walker.{Walker}
use Rattle.auto_bool.specs.declared.connective.Connective.{Connective}
use Rattle.auto_bool.specs.declared.connective.Connective.TheVariants.{And, Or, AndNot}

-- the result of a connective on two flags
abbrev pub combined : Connective → Bool → Bool → Bool
combined And left right = left && right
combined Or left right = left || right
combined AndNot left right = left && not right

-- a pair of states as a place
abbrev pub place_of_pair : ℕ × ℕ → List ℕ
place_of_pair pair = pair.0 ∷ pair.1 ∷ []

-- the next states after a letter over all tracks, of which each automaton reads its own
abbrev pub next_pair : Automaton → Automaton → List Var → List ℕ → ℕ → List ℕ
next_pair a b tracks (left ∷ right ∷ []) letter =
    next_state a left (restrict tracks a.tracks letter) ∷ next_state b right (restrict tracks b.tracks letter) ∷ []
next_pair a b tracks _ letter = []

abbrev pub final_pair : Automaton → Automaton → Connective → List ℕ → Bool
final_pair a b connective (left ∷ right ∷ []) = combined connective (is_final a left) (is_final b right)
final_pair a b connective _ = false

-- the walk over pairs of states, over the given tracks, which are those of both
abbrev pub walker_over : List Var → Automaton → Automaton → Connective → Walker
walker_over tracks a b connective = record {
  tracks = tracks;
  first =
      λ letter. first_state a (restrict tracks a.tracks letter) ∷ first_state b (restrict tracks b.tracks letter) ∷ [];
  next = next_pair a b tracks;
  final = final_pair a b connective;
}

abbrev pub both_walker : Automaton → Automaton → Connective → Walker
both_walker a b connective = walker_over (with_vars a.tracks b.tracks) a b connective
