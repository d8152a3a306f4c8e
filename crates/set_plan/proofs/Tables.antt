-- Of an automaton that decides a set of integers it is known which tuples it has.
use Rattle.std.proofs.Common.{◌≡◌, ℕ, ◌<◌, ◌⊎◌, List, length, get_or, inl, inr, ℤ, pos, sym, ap, ◌∙◌, subst, arith}
use Rattle.std.proofs.lemmas.List.{ext_get_or, get_or-map, length-map}
use Rattle.std.proofs.lemmas.Bool.{cases_Bool, true≢false}
use Rattle.track_word.specs.declared.tracks.Var.{Var}
use Rattle.track_word.specs.Word.{IsWord, Spells, spelled, val}
use Rattle.track_word.specs.Tracks.{IsAscending, values_at, word_values}
use Rattle.track_word.proofs.Spelling.{Spells-spelled, bound_of, fits-bound}
use Rattle.auto_core.specs.Automaton.{Automaton, is_final, state_of}
use Rattle.auto_core.specs.Integers.{DecidesIntegers, IsAccepted}
use Rattle.auto_core.proofs.Ascents.{place-at}
use Rattle.formula_auto.proofs.Atoms.{accepted-values}
use Rattle.formula_auto.proofs.Projections.{apart-ascending}

size : (a : Automaton) (word : List ℕ) → length (values_at a.tracks (word_values a.tracks word)) ≡ length a.tracks
size a word = length-map a.tracks (λ (x : Var). word_values a.tracks word x.0)

module _ (a : Automaton) (tuple : List ℤ) (ascending : IsAscending a.tracks) (count : length tuple ≡ length a.tracks) where
  -- some word of the values
  word : List ℕ
  word = spelled tuple (bound_of tuple)

  spells : Spells tuple word
  unfolding word
  spells = Spells-spelled tuple (bound_of tuple) (fits-bound tuple (bound_of tuple) (omega arith))

  is_word : IsWord (length a.tracks) word
  is_word = subst (λ k. IsWord k word) count spells.is_word

  value-at : (t : ℕ) → t < length a.tracks → get_or (values_at a.tracks (word_values a.tracks word)) t (pos 0) ≡ val word t
  value-at t h =
      get_or-map (λ (x : Var). word_values a.tracks word x.0) a.tracks t (record { 0 = 0 }) (pos 0) h ∙ ap (val word) (place-at a.tracks t (record { 0 = 0 }) ascending h)

  values : values_at a.tracks (word_values a.tracks word) ≡ tuple
  values =
      let same = size a word in
      ext_get_or (pos 0) (values_at a.tracks (word_values a.tracks word)) tuple (same ∙ sym count)
      (λ t h. value-at t (omega (arith, same, h)) ∙ spells.values t (omega (arith, same, count, h)))

  known : DecidesIntegers a → IsAccepted a tuple ⊎ (IsAccepted a tuple → ⊥)
  known integers =
      let accepted = accepted-values integers (apart-ascending a.tracks ascending) is_word in
      elim (cases_Bool (is_final a (state_of a word))) [
        | inl yes_it_is ↦ inl (subst (IsAccepted a) values (accepted.0 yes_it_is))
        | inr never ↦ inr (λ h. true≢false (sym (accepted.1 (subst (IsAccepted a) (sym values) h)) ∙ never))
      ]

number_same : (i j : ℕ) → (i ≡ j) ⊎ ((i ≡ j) → ⊥)
number_same i j = grind arith

pub table_decided : (a : Automaton) → IsAscending a.tracks → DecidesIntegers a → (tuple : List ℤ) → IsAccepted a tuple ⊎ (IsAccepted a tuple → ⊥)
table_decided a ascending integers tuple =
    elim (number_same (length tuple) (length a.tracks)) [
      | inl count ↦ known a tuple ascending count integers
      | inr other ↦ inr (λ h. other (sym (ap length h.values) ∙ size a h.word))
    ]
