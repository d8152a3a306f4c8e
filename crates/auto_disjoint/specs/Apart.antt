-- The words that two automata have in common. Each reads its own tracks of a word over the tracks of both.
use Rattle.std.specs.Prelude.{ℕ, List, length}
use Rattle.track_word.specs.Word.{IsWord}
use Rattle.track_word.specs.Tracks.{with_vars, part_of}
use Rattle.auto_core.specs.Automaton.{Automaton, Accepts}

-- disjoint: no word is accepted by both
abbrev pub AreApart : Automaton → Automaton → Type 0
AreApart a b =
    (word : List ℕ) → IsWord (length (with_vars a.tracks b.tracks)) word
    → ¬ (Accepts a (part_of (with_vars a.tracks b.tracks) a.tracks word) × Accepts b (part_of (with_vars a.tracks b.tracks) b.tracks word))

-- a word that both accept
pub record HaveCommonWord (a b : Automaton) : Type 0 where
  pub word : List ℕ
  pub is_word : IsWord (length (with_vars a.tracks b.tracks)) word
  pub left : Accepts a (part_of (with_vars a.tracks b.tracks) a.tracks word)
  pub right : Accepts b (part_of (with_vars a.tracks b.tracks) b.tracks word)
