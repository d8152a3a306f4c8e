-- An automaton that decides a formula decides a set of integers.
use Rattle.std.proofs.Common.{◌↔◌, ℕ, List, length, sym, subst}
use Rattle.track_word.specs.Word.{IsWord, repeat_first}
use Rattle.track_word.specs.Tracks.{word_values, place}
use Rattle.track_word.proofs.Repeats.{val-repeated, IsWord-again}
use Rattle.auto_core.specs.Automaton.{Automaton}
use Rattle.auto_core.specs.Integers.{DecidesIntegers}
use Rattle.lin_formula.specs.Tree.{Tree, free_vars}
use Rattle.lin_formula.specs.Holds.{Sets}
use Rattle.lin_formula.proofs.Coincide.{coincide}
use Rattle.formula_auto.specs.Step.{Says}
use Rattle.formula_auto.specs.Decides.{Decides}

-- a first letter once more leaves what is said
says-again : (f : Tree) (e : Sets) (word : List ℕ) → Says f e word ↔ Says f e (repeat_first word)
says-again f e word = (
  coincide f e (word_values (free_vars f) word) (word_values (free_vars f) (repeat_first word)) (λ x is. sym (val-repeated word (place (free_vars f) x) 1)),
  coincide f e (word_values (free_vars f) (repeat_first word)) (word_values (free_vars f) word) (λ x is. val-repeated word (place (free_vars f) x) 1),
)

pub Decides-integers : {f : Tree} {e : Sets} {a : Automaton} → Decides a f e → DecidesIntegers a
Decides-integers {f} {e} decides = record {
  stable = λ word is.
      let over : IsWord (length (free_vars f)) word = subst (λ t. IsWord (length t) word) decides.tracks is in
      let once = decides.words word over in
      let twice = decides.words (repeat_first word) (IsWord-again over) in
      let says = says-again f e word in
      (λ h. twice.1 (says.0 (once.0 h)), λ h. once.1 (says.1 (twice.0 h)));
}
