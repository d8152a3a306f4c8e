-- States that letters lead to.
use Rattle.std.proofs.Common.{ℕ, ◌<◌, ◌+◌, ◌*◌, length}
use Rattle.auto_core.specs.Automaton.{Automaton, IsAutomaton, width, first_state, next_state}
use Rattle.auto_core.proofs.States.{entry_within}

pub first_within : {a : Automaton} → IsAutomaton a → (letter : ℕ) → first_state a letter < length a.accept
first_within {a} is letter = entry_within (length a.accept) a.first letter is.some_state is.first_within

pub next_within : {a : Automaton} → IsAutomaton a → (state letter : ℕ) → next_state a state letter < length a.accept
next_within {a} is state letter = entry_within (length a.accept) a.next (state * width a + letter) is.some_state is.next_within
