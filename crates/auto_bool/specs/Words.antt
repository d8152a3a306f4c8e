-- The words that a combination of one or two automata accepts. Each operand reads its own tracks of a word over the tracks of both.
use Rattle.std.specs.Prelude.{◌↔◌, ◌⊎◌, ℕ, List, length}
use Rattle.track_word.specs.Word.{IsWord}
use Rattle.track_word.specs.Tracks.{part_of}
use Rattle.auto_core.specs.Automaton.{Automaton, Accepts}
use Rattle.auto_core.specs.Words.{AcceptsWhere}
use Rattle.auto_core.specs.Spread.{BothSpreadExceeds}
use Rattle.auto_bool.specs.declared.connective.Connective.{Connective}
use Rattle.auto_bool.specs.declared.connective.Connective.TheVariants.{And, Or, AndNot}

-- the words that both accept (intersection)
abbrev pub AcceptsBoth : Automaton → Automaton → Automaton → Type 0
AcceptsBoth a b m =
    (word : List ℕ) → IsWord (length m.tracks) word
    → Accepts m word ↔ (Accepts a (part_of m.tracks a.tracks word) × Accepts b (part_of m.tracks b.tracks word))

-- the words that at least one of them accepts (union)
abbrev pub AcceptsEither : Automaton → Automaton → Automaton → Type 0
AcceptsEither a b m =
    (word : List ℕ) → IsWord (length m.tracks) word
    → Accepts m word ↔ (Accepts a (part_of m.tracks a.tracks word) ⊎ Accepts b (part_of m.tracks b.tracks word))

-- the words that the first accepts and the second does not (difference)
abbrev pub AcceptsFirstOnly : Automaton → Automaton → Automaton → Type 0
AcceptsFirstOnly a b m =
    (word : List ℕ) → IsWord (length m.tracks) word
    → Accepts m word ↔ (Accepts a (part_of m.tracks a.tracks word) × ¬ Accepts b (part_of m.tracks b.tracks word))

-- the words over its tracks that it does not accept (complement)
abbrev pub AcceptsComplement : Automaton → Automaton → Type 0
AcceptsComplement a m = AcceptsWhere a.tracks (λ word. ¬ Accepts a word) m

-- the words that the connective accepts
abbrev pub AcceptsBy : Connective → Automaton → Automaton → Automaton → Type 0
AcceptsBy And a b m = AcceptsBoth a b m
AcceptsBy Or a b m = AcceptsEither a b m
AcceptsBy AndNot a b m = AcceptsFirstOnly a b m

-- a step on the two needs more states than the budget
abbrev pub StepExceeds : Automaton → Automaton → ℕ → Type 0
StepExceeds a b budget = BothSpreadExceeds a.tracks b.tracks (Accepts a) (Accepts b) budget
