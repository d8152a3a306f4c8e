-- The automata of formulas that have no parts.
use Rattle.std.proofs.Common.{◌≡◌, ◌↔◌, ℕ, zero, suc, ◌+◌, ◌<◌, List, [], ◌∷◌, length, refl, sym, subst, ap, ◌∙◌, ℤ, arith, add-zero, map, get_or}
use Rattle.std.specs.Int.{bit_at}
use Rattle.std.proofs.lemmas.Grind.{common_steps}
use Rattle.std.proofs.lemmas.Bool.Decides.{nat_tests}
use Rattle.std.proofs.lemmas.Nat.Bits.{bit_at-lt}
use Rattle.track_word.specs.declared.tracks.Var.{Var}
use Rattle.track_word.specs.declared.atoms.Rel.{Rel}
use Rattle.track_word.specs.Word.{IsWord, val}
use Rattle.track_word.specs.Tracks.{IsAscending, Values, with_var, with_vars, part_of, restrict, place, word_values, values_at}
use Rattle.track_word.specs.Atom.{AtomHolds, ValueHolds, atom_tracks}
use Rattle.auto_core.specs.Automaton.{Automaton, Accepts}
use Rattle.auto_core.specs.Integers.{DecidesIntegers, IsAccepted}
use Rattle.auto_bool.proofs.TrackLemmas.{before-is}
use Rattle.lin_formula.specs.Tree.{Lin, Value, Among}
use Rattle.lin_formula.specs.Holds.{Sets}
use Rattle.lin_formula.specs.SetOf.{SetOf, Table, Member, members}
use Rattle.lin_formula.specs.Free.{IsOneOf}
use Rattle.lin_formula.proofs.Coincide.{agree-values}
use Rattle.formula_auto.specs.Decides.{Decides}
use Rattle.formula_auto.specs.Distinct.{Apart}
use Rattle.formula_auto.proofs.SameWords.{IsWord-part}
use Rattle.formula_auto.proofs.Values.{SameBits, val-same_bits, bit_at-first, bit_at-rest, place-here, place-later}
use Rattle.formula_auto.proofs.Projections.{apart-ascending}
use Rattle.formula_auto.proofs.OneWord.{accepts-same}

pub Decides-Lin : (e : Sets) (a : Automaton) (terms : List (ℤ × Var)) (rel : Rel) (bound : ℤ) → a.tracks ≡ atom_tracks terms
    → ((word : List ℕ) → IsWord (length (atom_tracks terms)) word → Accepts a word ↔ AtomHolds terms rel bound word) → Decides a (Lin terms rel bound) e
Decides-Lin e a terms rel bound tracks words = record { tracks = tracks; words = words }

pub Decides-Value : (e : Sets) (a : Automaton) (x : Var) (n : ℤ) → a.tracks ≡ x ∷ []
    → ((word : List ℕ) → IsWord 1 word → Accepts a word ↔ ValueHolds x n word) → Decides a (Value x n) e
Decides-Value e a x n tracks words = record { tracks = tracks; words = words }

-- the values of so many tracks of a word, from one track on
abbrev pub vals_from : ℕ → ℕ → List ℕ → List ℤ
vals_from track zero word = []
vals_from track (suc k) word = val word track ∷ vals_from (suc track) k word

-- the values of tracks that come after others
abbrev pub later_values : ℕ → List Var → List ℕ → Values
later_values before tracks word x = val word (before + place tracks (record { 0 = x }))

later_values-from : (before : ℕ) (tracks : List Var) (word : List ℕ) → Apart tracks → values_at tracks (later_values before tracks word) ≡ vals_from before (length tracks) word
later_values-from before [] word apart = refl
later_values-from before (y ∷ ys) word apart =
    let at : before + place (y ∷ ys) y ≡ before = ap (λ n. before + n) (place-here y y ys refl) ∙ add-zero before in
    let first : val word (before + place (y ∷ ys) y) ≡ val word before = ap (λ t. val word t) at in
    let shift : (x : Var) → IsOneOf x ys → later_values before (y ∷ ys) word x.0 ≡ later_values (suc before) ys word x.0 = λ x is.
    let place_is : place (y ∷ ys) x ≡ suc (place ys x) = place-later x y ys (λ same. apart.0 (subst (λ v. IsOneOf v ys) same is)) in
    let sum : before + place (y ∷ ys) x ≡ suc before + place ys x = omega (arith, place_is) in
    ap (λ t. val word t) sum in
    ap (λ n. n ∷ values_at ys (later_values before (y ∷ ys) word)) first
    ∙ ap (λ l. val word before ∷ l) (agree-values (later_values before (y ∷ ys) word) (later_values (suc before) ys word) ys shift ∙ later_values-from (suc before) ys word apart.1)

-- the values of a word are those of its tracks in order
track-values : (tracks : List Var) (word : List ℕ) → Apart tracks → values_at tracks (word_values tracks word) ≡ vals_from 0 (length tracks) word
track-values tracks word apart =
    agree-values (word_values tracks word) (later_values 0 tracks word) tracks (λ x is. let sum : place tracks x ≡ 0 + place tracks x = omega arith in ap (λ t. val word t) sum)
    ∙ later_values-from 0 tracks word apart

vals-at : (before k : ℕ) (v w : List ℕ) → vals_from before k v ≡ vals_from before k w → (t : ℕ) → t < k → val v (before + t) ≡ val w (before + t)
vals-at before zero v w e t within = absurd (omega arith)
vals-at before (suc k) v w e zero within =
    let first : val v before ≡ val w before = cc in
    ap (λ t. val v t) (add-zero before) ∙ (first ∙ ap (λ t. val w t) (sym (add-zero before)))
vals-at before (suc k) v w e (suc t) within =
    let rest : vals_from (suc before) k v ≡ vals_from (suc before) k w = cc in
    let at : before + suc t ≡ suc before + t = omega arith in
    ap (λ n. val v n) at ∙ (vals-at (suc before) k v w rest t (omega arith) ∙ ap (λ n. val w n) (sym at))

-- an automaton that decides a set of integers accepts a word just if it accepts some word of the same values
pub accepted-values : {a : Automaton} {word : List ℕ} → DecidesIntegers a → Apart a.tracks → IsWord (length a.tracks) word
    → Accepts a word ↔ IsAccepted a (values_at a.tracks (word_values a.tracks word))
accepted-values {a} {word} integers apart is = (
  λ h. record { word = word; is_word = is; values = refl; accepts = h },
  λ r.
      let same : vals_from 0 (length a.tracks) r.word ≡ vals_from 0 (length a.tracks) word = sym (track-values a.tracks r.word apart) ∙ (r.values ∙ track-values a.tracks word apart) in
      accepts-same integers r.is_word is
      (λ t within. let sum : t ≡ 0 + t = omega arith in ap (λ n. val r.word n) sum ∙ (vals-at 0 (length a.tracks) r.word word same t within ∙ ap (λ n. val word n) (sym sum)))
      r.accepts,
)

first_bits : (all : List Var) (v : Var) (vs : List Var) (word : List ℕ) → SameBits (part_of all (v ∷ vs) word) 0 word (place all v)
first_bits all v vs [] = tt
first_bits all v vs (l ∷ ls) = (bit_at-first (bit_at l (place all v)) (restrict all vs l) (bit_at-lt l (place all v)), first_bits all v vs ls)

later_bits : (all : List Var) (v : Var) (vs : List Var) (word : List ℕ) (t : ℕ) → SameBits (part_of all (v ∷ vs) word) (suc t) (part_of all vs word) t
later_bits all v vs [] t = tt
later_bits all v vs (l ∷ ls) t = (bit_at-rest (bit_at l (place all v)) (restrict all vs l) t (bit_at-lt l (place all v)), later_bits all v vs ls t)

later_vals : (all : List Var) (v : Var) (vs : List Var) (word : List ℕ) (t k : ℕ) → vals_from (suc t) k (part_of all (v ∷ vs) word) ≡ vals_from t k (part_of all vs word)
later_vals all v vs word t zero = refl
later_vals all v vs word t (suc k) =
    ap (λ n. n ∷ vals_from (suc (suc t)) k (part_of all (v ∷ vs) word)) (val-same_bits (part_of all (v ∷ vs) word) (part_of all vs word) (suc t) t (later_bits all v vs word t))
    ∙ ap (λ l. val (part_of all vs word) t ∷ l) (later_vals all v vs word (suc t) k)

part-vals : (all vars : List Var) (word : List ℕ) → vals_from 0 (length vars) (part_of all vars word) ≡ values_at vars (word_values all word)
part-vals all [] word = refl
part-vals all (v ∷ vs) word =
    ap (λ n. n ∷ vals_from 1 (length vs) (part_of all (v ∷ vs) word)) (val-same_bits (part_of all (v ∷ vs) word) word 0 (place all v) (first_bits all v vs word))
    ∙ ap (λ l. val word (place all v) ∷ l) (later_vals all v vs word 0 (length vs) ∙ part-vals all vs word)

-- the values of the part of a word, track by track
pub values-part : (all vars tracks : List Var) (word : List ℕ) → Apart tracks → length vars ≡ length tracks
    → values_at tracks (word_values tracks (part_of all vars word)) ≡ values_at vars (word_values all word)
values-part all vars tracks word apart size =
    track-values tracks (part_of all vars word) apart ∙ (ap (λ k. vals_from 0 k (part_of all vars word)) (sym size) ∙ part-vals all vars word)

pub Decides-Among : (e : ℕ → SetOf) (number : ℕ) (vars : List Var) {a : Automaton} (r : Automaton) → e number ≡ Table a → DecidesIntegers a → Apart a.tracks → length vars ≡ length a.tracks
    → r.tracks ≡ with_vars vars [] → ((word : List ℕ) → IsWord (length r.tracks) word → Accepts r word ↔ Accepts a (part_of r.tracks vars word))
    → Decides r (Among number vars) (members e)
Decides-Among e number vars {a} r is integers apart size tracks words = record {
  tracks = tracks;
  words = λ word is_word.
      let there : IsWord (length r.tracks) word = subst (λ t. IsWord (length t) word) (sym tracks) is_word in
      let w = words word there in
      let part : IsWord (length a.tracks) (part_of r.tracks vars word) = subst (λ k. IsWord k (part_of r.tracks vars word)) size (IsWord-part r.tracks vars there) in
      let accepted = accepted-values integers apart part in
      let same : values_at a.tracks (word_values a.tracks (part_of r.tracks vars word)) ≡ values_at vars (word_values (with_vars vars []) word) =
      values-part r.tracks vars a.tracks word apart size ∙ ap (λ t. values_at vars (word_values t word)) tracks in (
        λ h. subst (λ s. Member s (values_at vars (word_values (with_vars vars []) word))) (sym is) (subst (IsAccepted a) same (accepted.0 (w.0 h))),
        λ h. w.1 (accepted.1 (subst (IsAccepted a) (sym same) (subst (λ s. Member s (values_at vars (word_values (with_vars vars []) word))) is h))),
      );
}

later-ascend : (x : Var) (xs : List Var) → IsAscending (x ∷ xs) → IsAscending xs
later-ascend x xs all k h =
    let e : suc k + 1 ≡ suc (k + 1) = omega arith in
    let names = map (λ (v : Var). v.0) xs in
    subst (λ i. get_or names k 0 < get_or (x.0 ∷ names) i 0) e (all (suc k) (omega (arith, h)))

-- ascending tracks put in order are those tracks
own-vars : (tracks : List Var) → IsAscending tracks → with_vars tracks [] ≡ tracks
own-vars [] ascending = refl
own-vars (x ∷ []) ascending = refl
own-vars (x ∷ y ∷ ys) ascending =
    let rest = own-vars (y ∷ ys) (later-ascend x (y ∷ ys) ascending) in
    let less : x.0 < y.0 = ascending 0 (omega arith) in
    ap (with_var x) rest ∙ before-is x y ys less

-- a set decides membership of its own tracks
pub Decides-itself : (e : ℕ → SetOf) (number : ℕ) {a : Automaton} → e number ≡ Table a → DecidesIntegers a → IsAscending a.tracks → Decides a (Among number a.tracks) (members e)
Decides-itself e number {a} is integers ascending = record {
  tracks = sym own;
  words = λ word is_word.
      let there : IsWord (length a.tracks) word = subst (λ t. IsWord (length t) word) own is_word in
      let accepted = accepted-values integers (apart-ascending a.tracks ascending) there in
      let same : values_at a.tracks (word_values a.tracks word) ≡ values_at a.tracks (word_values (with_vars a.tracks []) word) =
      ap (λ t. values_at a.tracks (word_values t word)) (sym own) in (
        λ h. subst (λ s. Member s (values_at a.tracks (word_values (with_vars a.tracks []) word))) (sym is) (subst (IsAccepted a) same (accepted.0 h)),
        λ h. accepted.1 (subst (IsAccepted a) (sym same) (subst (λ s. Member s (values_at a.tracks (word_values (with_vars a.tracks []) word))) is h)),
      );
}
  where
    own : with_vars a.tracks [] ≡ a.tracks
    own = own-vars a.tracks ascending
