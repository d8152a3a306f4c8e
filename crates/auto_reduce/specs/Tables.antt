-- Automata that accept the same words, and automata with equal tables.
use Rattle.std.specs.Prelude.{◌≡◌, ◌↔◌, ℕ, ◌<◌, ◌^◌, List, length, slice_index}
use Rattle.limits.specs.declared.numbers.TheConstants.{MOST_TRACKS}
use Rattle.track_word.specs.Word.{IsWord}
use Rattle.letter_diagram.specs.declared.diagrams.Shape.{Shape}
use Rattle.letter_diagram.specs.Diagram.{map_at}
use Rattle.auto_core.specs.Automaton.{Automaton, IsAutomaton, Accepts}
use Rattle.auto_core.specs.Reduced.{IsReduced}
use Rattle.auto_reduce.specs.Numbering.{IsNumberedBreadthFirst}

abbrev pub AcceptsNoWord : Automaton → Type 0
AcceptsNoWord a = (word : List ℕ) → IsWord (length a.tracks) word → ¬ Accepts a word

-- each word over the tracks of the first is accepted by both or by neither
pub record AcceptSameWords (a b : Automaton) : Type 0 where
  pub same : (word : List ℕ) → IsWord (length a.tracks) word → Accepts a word ↔ Accepts b word

-- minimal, with its states numbered in breadth-first order by ascending letters
pub record IsInOrder (a : Automaton) : Type 0 where
  pub valid : IsAutomaton a
  pub reduced : IsReduced a
  pub numbered : IsNumberedBreadthFirst a

pub record HaveEqualTables (a b : Automaton) : Type 0 where
  pub first : a.first ≡ b.first
  pub next : a.next ≡ b.next
  pub accept : a.accept ≡ b.accept

-- such automata with equal tracks have equal tables if they accept the same words
abbrev pub EqualWordsEqualTables : Type 0
EqualWordsEqualTables =
    (a b : Automaton) → IsInOrder a → IsInOrder b → a.tracks ≡ b.tracks → AcceptSameWords a b → HaveEqualTables a b

-- nodes of equal maps, index by index
pub record HaveEqualMaps (shapes : List Shape) (nodes others : List ℕ) : Type 0 where
  pub at : (place letter : ℕ) → place < length nodes → letter < 2 ^ MOST_TRACKS
      → map_at shapes (slice_index nodes place) letter ≡ map_at shapes (slice_index others place) letter
