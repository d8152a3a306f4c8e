-- The words that an automaton accepts: those with a property, or those that another automaton accepts.
use Rattle.std.specs.Prelude.{◌↔◌, ℕ, List, length, map}
use Rattle.track_word.specs.declared.tracks.Var.{Var}
use Rattle.track_word.specs.Word.{IsWord}
use Rattle.track_word.specs.Tracks.{part_of}
use Rattle.letter_diagram.specs.Relabelled.{relabelled}
use Rattle.auto_core.specs.Automaton.{Automaton, Accepts}

-- a word over the tracks is accepted if and only if it has the property
abbrev pub AcceptsWhere : List Var → (List ℕ → Type 0) → Automaton → Type 0
AcceptsWhere tracks Holds a = (word : List ℕ) → IsWord (length tracks) word → Accepts a word ↔ Holds word

-- the result accepts the words that the automaton accepts
abbrev pub HasSameWords : Automaton → Automaton → Type 0
HasSameWords of made = AcceptsWhere of.tracks (Accepts of) made

-- the result accepts a word if and only if the automaton accepts what its tracks, each read from one of the variables, see of it
abbrev pub AcceptsRenamed : Automaton → List Var → Automaton → Type 0
AcceptsRenamed of vars made = AcceptsWhere made.tracks (λ word. Accepts of (part_of made.tracks vars word)) made

-- the result accepts a word over the tracks if and only if the automaton accepts the word of its bits at the places
abbrev pub AcceptsReadAt : Automaton → List Var → List ℕ → Automaton → Type 0
AcceptsReadAt of tracks places made = AcceptsWhere tracks (λ word. Accepts of (map (relabelled places) word)) made
