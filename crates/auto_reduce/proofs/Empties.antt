-- An automaton whose states are all reached accepts a word exactly where a flag is set.
use Rattle.std.proofs.Common.{◌≡◌, ℕ, ◌<◌, true, false, true≢false, length, sym, ap, ◌∙◌}
use Rattle.auto_core.specs.Automaton.{Automaton, IsAutomaton, is_final, state_of}
use Rattle.auto_core.specs.Reduced.{AllReached}
use Rattle.auto_core.proofs.States.{state_within}
use Rattle.auto_reduce.specs.Tables.{AcceptsNoWord}

pub some_word : (a : Automaton) → AllReached a → (state : ℕ) → state < length a.accept → is_final a state ≡ true → AcceptsNoWord a → ⊥
some_word a reached state within flag none =
    let r = reached state within in
    none r.word r.is_word (ap (is_final a) r.leads ∙ flag)

pub no_word : {a : Automaton} → IsAutomaton a → ((state : ℕ) → state < length a.accept → is_final a state ≡ false) → AcceptsNoWord a
no_word {a} is none word is_word accepts = true≢false (sym accepts ∙ none (state_of a word) (state_within is word))
