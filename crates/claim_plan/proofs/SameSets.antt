-- Automata that accept the same words, as sets of tuples of integers.
use Rattle.std.proofs.Common.{◌≡◌, ◌↔◌, ℕ, List, length, Option, Some, None, ℤ, refl, sym, ap, ◌∙◌, subst}
use Rattle.std.specs.Prelude.{IsSomeAnd}
use Rattle.track_word.specs.Tracks.{values_at, word_values}
use Rattle.track_word.specs.Word.{IsWord}
use Rattle.auto_core.specs.Automaton.{Automaton}
use Rattle.auto_core.specs.Integers.{DecidesIntegers, IsAccepted}
use Rattle.auto_reduce.proofs.Stables.{DecidesIntegers-words}
use Rattle.lin_formula.specs.SetOf.{as_set}
use Rattle.set_plan.specs.Same.{SameSets}
use Rattle.mate_plan.specs.SameClaim.{AreSameSets, IsSameSet}

pub IsSameSet-self : (a : Automaton) → IsSameSet a a
IsSameSet-self a = record { tracks = refl; words = record { same = λ word is. (λ h. h, λ h. h) } }

word_along : (a b : Automaton) {word : List ℕ} → a.tracks ≡ b.tracks → IsWord (length a.tracks) word → IsWord (length b.tracks) word
word_along a b {word} e is = subst (λ t. IsWord (length t) word) e is

pub IsSameSet-back : {a b : Automaton} → IsSameSet a b → IsSameSet b a
IsSameSet-back {a} {b} h = record {
  tracks = sym h.tracks;
  words = record {
    same = λ word is.
        let there = h.words.same word (word_along b a (sym h.tracks) is) in
        (there.1, there.0);
  };
}

pub AreSameSets-self : (o : Option Automaton) → AreSameSets o o
AreSameSets-self None = tt
AreSameSets-self (Some a) = IsSameSet-self a

pub AreSameSets-back : (o u : Option Automaton) → AreSameSets o u → AreSameSets u o
AreSameSets-back None None h = tt
AreSameSets-back None (Some b) h = absurd h
AreSameSets-back (Some a) None h = absurd h
AreSameSets-back (Some a) (Some b) h = IsSameSet-back h

accepted-along : {a b : Automaton} (tuple : List ℤ) → IsSameSet a b → IsAccepted a tuple → IsAccepted b tuple
accepted-along {a} {b} tuple same h = record {
  word = h.word;
  is_word = word_along a b same.tracks h.is_word;
  values = ap (λ t. values_at t (word_values t h.word)) (sym same.tracks) ∙ h.values;
  accepts = (same.words.same h.word h.is_word).0 h.accepts;
}

pub IsAccepted-same : {a b : Automaton} (tuple : List ℤ) → IsSameSet a b → IsAccepted a tuple ↔ IsAccepted b tuple
IsAccepted-same tuple same = (accepted-along tuple same, accepted-along tuple (IsSameSet-back same))

pub decides-same : {a b : Automaton} → IsSameSet a b → DecidesIntegers a ↔ DecidesIntegers b
decides-same {a} {b} same =
    let back = IsSameSet-back same in
    DecidesIntegers-words a b same.tracks (λ word is. let there = back.words.same word is in (there.1, there.0))

pub SameSets-claimed : (o u : Option Automaton) → AreSameSets o u → SameSets (as_set o) (as_set u)
SameSets-claimed None None same tuple = (λ h. h, λ h. h)
SameSets-claimed None (Some b) same tuple = absurd same
SameSets-claimed (Some a) None same tuple = absurd same
SameSets-claimed (Some a) (Some b) same tuple = IsAccepted-same tuple same

pub some_same : (o u : Option Automaton) (tuple : List ℤ) → AreSameSets o u → IsSomeAnd o (λ a. IsAccepted a tuple) → IsSomeAnd u (λ a. IsAccepted a tuple)
some_same None None tuple same h = h
some_same None (Some b) tuple same h = absurd h
some_same (Some a) None tuple same h = absurd same
some_same (Some a) (Some b) tuple same h = (IsAccepted-same tuple same).0 h
