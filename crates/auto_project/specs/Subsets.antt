-- The sets of states that lifts of words reach.
use Rattle.std.specs.Prelude.{ℕ, ◌+◌, ◌*◌, ◌^◌, List, length, filter, nat_eq, ◌||◌, Bool}
use Rattle.std.specs.List.{list_any, range_with_len}
use Rattle.track_word.specs.declared.tracks.Var.{Var}
use Rattle.track_word.specs.Tracks.{restrict}
use Rattle.letter_diagram.specs.declared.diagrams.Shape.{Shape}
use Rattle.letter_diagram.specs.Diagram.{map_at}
use Rattle.letter_diagram.specs.Sets.{set_at}
use Rattle.auto_core.specs.Automaton.{Automaton, next_state, is_final}
use Rattle.auto_walk.specs.Walker.{Walker}

-- the letter over all tracks with this restriction to some of them, and a bit on each other track
abbrev pub lengthened : List Var → List Var → ℕ → ℕ → ℕ
lengthened all some bit letter = restrict some all (letter + bit * 2 ^ length some)

-- a state of the set is followed, with some bit on the projected track, by this state
abbrev pub leads_to : Automaton → List Var → List ℕ → ℕ → ℕ → Bool
leads_to a some set letter state =
    list_any
    (λ from. nat_eq (next_state a from (lengthened a.tracks some 0 letter)) state || nat_eq
    (next_state a from (lengthened a.tracks some 1 letter)) state)
    set

-- the states that follow states of the set, ascending
abbrev pub next_set : Automaton → List Var → List ℕ → ℕ → List ℕ
next_set a some set letter = filter (leads_to a some set letter) (range_with_len 0 (length a.accept))

-- the walk over sets of states; a set accepts if one of its states does
abbrev pub set_walker : Automaton → List Var → List Shape → List (List ℕ) → ℕ → Walker
set_walker a some shapes sets first = record {
  tracks = some;
  first = λ sign. set_at sets (map_at shapes first sign);
  next = next_set a some;
  final = list_any (is_final a);
}
