-- The words of a tuple are accepted alike.
use Rattle.std.proofs.Common.{◌≡◌, ◌↔◌, ℕ, zero, suc, ℤ, pos, negsuc, ◌-◌, ◌<◌, ◌≤◌, List, ◌∷◌, length, All, get_or, IsTrue, Bool, arith, inl, inr, refl, sym, ap, ◌∙◌, subst}
use mir.Val.{SFits}
use Rattle.std.specs.Int.{w64}
use Rattle.std.proofs.lemmas.Bool.{cases_lt}
use Rattle.std.proofs.lemmas.List.{ext_get_or, get_or-map, length-map}
use Rattle.track_word.proofs.Repeats.{repeated_some, IsWord-repeated, IsWord-again}
use Rattle.track_word.specs.declared.tracks.Var.{Var}
use Rattle.track_word.specs.Word.{IsWord, val, repeat_first, repeated, spelled, letters_below, letter_of, FitsBelow, BitsSpell, RepeatKeepsValues, EqualValuesEqualWords}
use Rattle.track_word.specs.Tracks.{IsAscending, Values, place, word_values, values_at}
use Rattle.auto_core.specs.Automaton.{Automaton, IsAutomaton, Accepts, run, first_state, next_state, state_of, is_final}
use Rattle.auto_core.specs.Words.{AcceptsWhere}
use Rattle.auto_core.specs.Integers.{DecidesIntegers, IsWordOf, IsAccepted, IsLeft, word_of}
use Rattle.auto_core.proofs.Ascents.{place-at}

pub FitsBelow-i64 : (z : ℤ) → SFits w64 z → FitsBelow 63 z
FitsBelow-i64 (pos n) fits = fits.sfits
FitsBelow-i64 (negsuc n) fits = fits.sfits

val-repeated : RepeatKeepsValues → (k : ℕ) (word : List ℕ) (t : ℕ) → val (repeated k word) t ≡ val word t
val-repeated keeps zero word t = refl
val-repeated keeps (suc k) word t = keeps (repeated k word) t ∙ val-repeated keeps k word t

accepts-repeated : {a : Automaton} → DecidesIntegers a → (k : ℕ) {word : List ℕ} → IsWord (length a.tracks) word → Accepts a word ↔ Accepts a (repeated k word)
accepts-repeated decides zero is = (λ h. h, λ h. h)
accepts-repeated decides (suc k) {word} is =
    let before = accepts-repeated decides k is in
    let more = decides.stable (repeated k word) (IsWord-repeated k is) in
    (λ h. more.0 (before.0 h), λ h. before.1 (more.1 h))

-- words of equal values, the one not longer than the other, are accepted alike
alike : {a : Automaton} → DecidesIntegers a → RepeatKeepsValues → EqualValuesEqualWords → {v w : List ℕ} → IsWord (length a.tracks) v → IsWord (length a.tracks) w
    → length v ≤ length w → ((t : ℕ) → t < length a.tracks → val v t ≡ val w t) → Accepts a v ↔ Accepts a w
alike {a} decides keeps equal {v} {w} av aw shorter same =
    let k = length w - length v in
    let longer = accepts-repeated decides k av in
    let size : length (repeated k v) ≡ length w = (repeated_some v k av.nonempty).0 ∙ omega (arith, shorter) in
    let one : repeated k v ≡ w = equal (length a.tracks) (repeated k v) w (IsWord-repeated k av) aw size (λ t h. val-repeated keeps k v t ∙ same t h) in
    subst (λ x. Accepts a v ↔ Accepts a x) one longer

-- however long they are
pub accepts-alike : {a : Automaton} → DecidesIntegers a → RepeatKeepsValues → EqualValuesEqualWords → {v w : List ℕ} → IsWord (length a.tracks) v → IsWord (length a.tracks) w
    → ((t : ℕ) → t < length a.tracks → val v t ≡ val w t) → Accepts a v ↔ Accepts a w
accepts-alike decides keeps equal {v} {w} av aw same = elim (cases_lt (length w) (length v)) [
  | inl shorter ↦ let back = alike decides keeps equal aw av (omega (arith, shorter)) (λ t h. sym (same t h)) in (back.1, back.0)
  | inr longer ↦ alike decides keeps equal av aw longer same
]

-- the value of the t-th track
value-at : (tracks : List Var) (word : List ℕ) (t : ℕ) → IsAscending tracks → t < length tracks → get_or (values_at tracks (word_values tracks word)) t (pos 0) ≡ val word t
value-at tracks word t up h =
    get_or-map (λ (x : Var). word_values tracks word x.0) tracks t (record { 0 = 0 }) (pos 0) h ∙ ap (val word) (place-at tracks t (record { 0 = 0 }) up h)

module _ (a : Automaton) (values : List ℤ) (n : ℕ) (is : IsAutomaton a) (count : length values ≡ length a.tracks) (decides : DecidesIntegers a) (fits : All (FitsBelow n) values)
    (spell : BitsSpell) (keeps : RepeatKeepsValues) (equal : EqualValuesEqualWords) where
  spelled-word : IsWord (length a.tracks) (spelled values n)
  spelled-word = rw (← count) (spell values n fits).is_word

  spelled-values : values_at a.tracks (word_values a.tracks (spelled values n)) ≡ values
  spelled-values =
      let size : length (values_at a.tracks (word_values a.tracks (spelled values n))) ≡ length a.tracks = length-map a.tracks (λ (x : Var). word_values a.tracks (spelled values n) x.0) in
      ext_get_or (pos 0) (values_at a.tracks (word_values a.tracks (spelled values n))) values (size ∙ sym count) (λ t h.
      let within : t < length a.tracks = omega (arith, size, h) in
      value-at a.tracks (spelled values n) t is.ascending within ∙ (spell values n fits).values t (omega (arith, within, count)))

  words-alike : (word : List ℕ) → IsWordOf a values word → Accepts a (spelled values n) ↔ Accepts a word
  words-alike word of =
      let same = λ (t : ℕ) (h : t < length a.tracks).
      (spell values n fits).values t (omega (arith, h, count)) ∙ ap (λ l. get_or l t (pos 0)) (sym of.values) ∙ value-at a.tracks word t is.ascending h in
      accepts-alike decides keeps equal spelled-word of.is_word same

  -- the word of the bits from a place on tells which tuples are accepted
  pub accepted-spelled : Accepts a (spelled values n) ↔ IsAccepted a values
  accepted-spelled = (
    λ h. record { word = spelled values n; is_word = spelled-word; values = spelled-values; accepts = h },
    λ accepted. (words-alike accepted.word (record { is_word = accepted.is_word; values = accepted.values })).1 accepted.accepts,
  )

module _ (a : Automaton) (values : List ℤ) (is : IsAutomaton a) (count : length values ≡ length a.tracks) (decides : DecidesIntegers a) (fits : All (FitsBelow 63) values)
    (spell : BitsSpell) (keeps : RepeatKeepsValues) (equal : EqualValuesEqualWords) where
  -- what the word of 64 letters tells holds for each word of the values
  pub member-words : (flag : Bool) → flag ≡ is_final a (state_of a (word_of values)) → (word : List ℕ) → IsWordOf a values word → IsTrue flag ↔ Accepts a word
  unfolding word_of
  member-words flag tells word of = rw tells (words-alike a values 63 is count decides fits spell keeps equal word of)

  pub member-accepted : (flag : Bool) → flag ≡ is_final a (state_of a (word_of values)) → IsTrue flag ↔ IsAccepted a values
  unfolding word_of
  member-accepted flag tells = rw tells (accepted-spelled a values 63 is count decides fits spell keeps equal)

-- an automaton that decides what holds of values decides a set of integers
pub DecidesIntegers-values : RepeatKeepsValues → (a : Automaton) (tracks : List Var) (P : Values → Type 0) → a.tracks ≡ tracks
    → AcceptsWhere tracks (λ word. P (word_values tracks word)) a → DecidesIntegers a
DecidesIntegers-values keeps a tracks P same decides = record {
  stable = λ word is.
      let own = decides word (rw (← same) is) in
      let longer = decides (repeat_first word) (rw (← same) (IsWord-again is)) in
      let values : word_values tracks (repeat_first word) ≡ word_values tracks word = λ i x. keeps word (place tracks (record { 0 = x })) i in
      let other = subst (λ v. Accepts a (repeat_first word) ↔ P v) values longer in
      (λ h. other.1 (own.0 h), λ h. own.1 (other.0 h));
}

pub IsLeft-start : (a : Automaton) (values : List ℤ) (left state : ℕ) → left ≡ 63 → state ≡ first_state a (letter_of values 63) → IsLeft a values left state
unfolding word_of
IsLeft-start a values left state whole is = record { leads = rw (whole, is) refl }

pub IsLeft-more : (a : Automaton) (values : List ℤ) (left rest place state next : ℕ) → left ≡ suc rest → place ≡ rest → next ≡ next_state a state (letter_of values place)
    → IsLeft a values left state → IsLeft a values rest next
IsLeft-more a values left rest place state next one at is here = record {
  leads = rw (is, at) (subst (λ n. run a state (letters_below values n) ≡ state_of a (word_of values)) one here.leads);
}

pub IsLeft-end : {a : Automaton} {values : List ℤ} {left state : ℕ} → left ≡ 0 → IsLeft a values left state → state ≡ state_of a (word_of values)
IsLeft-end {a} {values} {state} none here = subst (λ n. run a state (letters_below values n) ≡ state_of a (word_of values)) none here.leads

pub fits-cons : (z : ℤ) (values : List ℤ) → SFits w64 z → All (FitsBelow 63) values → All (FitsBelow 63) (z ∷ values)
fits-cons z values fits all zero d h = FitsBelow-i64 z fits
fits-cons z values fits all (suc i) d h = all i d (omega (arith, h))
