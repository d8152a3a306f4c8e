-- A set of which some tracks are moved, one after the other, and the tuples that come out.
use Rattle.std.proofs.Common.{◌≡◌, ◌≢◌, ◌↔◌, ℕ, zero, suc, ◌<◌, ℤ, pos, negsuc, ◌+ℤ◌, Bool, true, false}
use Rattle.std.proofs.Common.{List, [], ◌∷◌, length, AllPairs, arith, refl, sym, ap, ◌∙◌, subst, inl, inr}
use Rattle.std.proofs.lemmas.Int.{ints}
use Rattle.track_word.specs.declared.tracks.Var.{Var}
use Rattle.track_word.specs.Word.{IsWord, val}
use Rattle.track_word.specs.Tracks.{Values, place, word_values}
use Rattle.auto_core.specs.Automaton.{Automaton, Accepts}
use Rattle.lin_formula.specs.Free.{IsOneOf}
use Rattle.formula_auto.proofs.Values.{Same, Other, cases_of, place-here, place-later}
use Rattle.auto_shift.specs.Shifted.{by_one}
use Rattle.auto_shift.specs.Moved.{IsMoved, DecidesMoved, WordsCanBeMoved}
use Rattle.shift_image.specs.declared.shift.ValueShift.{ValueShift}
use Rattle.shift_image.specs.Image.{AreOtherVars}
use Rattle.shift_image.specs.Laws.{negated, IsMovedBy}
use Rattle.shift_image.proofs.Shifts.{news, new-by, IsAmong, beside, later}

pub place-within : (x : Var) (xs : List Var) → IsOneOf x xs → place xs x < length xs
place-within x [] h = absurd h
place-within x (y ∷ ys) h = elim (cases_of x y) [
  | Same is ↦ let here = place-here x y ys is in omega (arith, here)
  | Other other ↦
      let rest = place-within x ys (elim h [ inl is ↦ absurd (other is) | inr k ↦ k ]) in
      let there = place-later x y ys other in
      omega (arith, rest, there)
]

-- different variables stand in different places
place-other : (x z : Var) (xs : List Var) → x ≢ z → place xs x ≡ place xs z → IsOneOf x xs → ⊥
place-other x z [] other same h = h
place-other x z (y ∷ ys) other same h = elim (cases_of x y) [
  | Same is ↦
      let here = place-here x y ys is in
      let there = place-later z y ys (λ is'. other (is ∙ sym is')) in
      absurd (omega (arith, here, there, same))
  | Other differs ↦
      let there = place-later x y ys differs in
      elim (cases_of z y) [
        | Same is ↦ let here = place-here z y ys is in absurd (omega (arith, here, there, same))
        | Other differs' ↦
            let there' = place-later z y ys differs' in
            place-other x z ys other (omega (arith, there, there', same))
            (elim h [ inl is ↦ absurd (differs is) | inr k ↦ k ])
      ]
]

-- a word that is moved and then moved once more
moved-again : {tracks track : ℕ} {d f : ℤ} {u v w : List ℕ} → IsMoved tracks track d u v → IsMoved tracks track f v w
    → IsMoved tracks track (d +ℤ f) u w
moved-again {track} {d} {f} {u} one other = record {
  is_word = other.is_word;
  moved = other.moved ∙ ap (λ z. z +ℤ f) one.moved ∙ add (val u track) d f;
  others = λ t within differs. other.others t within differs ∙ one.others t within differs;
}
  where
    add : (a b c : ℤ) → (a +ℤ b) +ℤ c ≡ a +ℤ (b +ℤ c)
    add a b c = omega (arith, ints)

-- each word has a word that is moved by a number
module _ (can : WordsCanBeMoved) (tracks track : ℕ) (u : List ℕ) (within : track < tracks) (is : IsWord tracks u) where
  abbrev HasMoved : ℤ → Type 0
  HasMoved d = (v : List ℕ) × IsMoved tracks track d u v

  once-more : (d g : ℤ) (up : Bool) → d +ℤ by_one up ≡ g → HasMoved d → HasMoved g
  once-more d g up sum (v, one) =
      let (w, other) = can tracks track v within one.is_word up in
      (w, subst (λ k. IsMoved tracks track k u w) sum (moved-again one other))

  stays : HasMoved (pos 0)
  stays = (u, record { is_word = is; moved = zero-more (val u track); others = λ t h differs. refl })
    where
      zero-more : (a : ℤ) → a ≡ a +ℤ pos 0
      zero-more a = omega (arith, ints)

  ups : (n : ℕ) → HasMoved (pos n)
  ups zero = stays
  ups (suc n) = once-more (pos n) (pos (suc n)) true (omega (arith, ints)) (ups n)

  downs : (n : ℕ) → HasMoved (negsuc n)
  downs zero = can tracks track u within is false
  downs (suc n) = once-more (negsuc n) (negsuc (suc n)) false (omega (arith, ints)) (downs n)

  pub has-moved : (d : ℤ) → HasMoved d
  has-moved (pos n) = ups n
  has-moved (negsuc n) = downs n

-- of two assignments to some variables the one is the other with each shift taken back
pub record AreTakenBack (vars : List Var) (shifts : List ValueShift) (u v : Values) : Type 0 where
  pub new : (s : ValueShift) → IsAmong s shifts → v s.new.0 ≡ u s.new.0 +ℤ negated s.by
  pub others : (x : Var) → IsOneOf x vars → (¬ IsOneOf x (news shifts)) → v x.0 ≡ u x.0

-- a word that the first automaton accepts just if the last one accepts a given word
pub record IsTakenBack (vars : List Var) (shifts : List ValueShift) (a b : Automaton) (u v : List ℕ) : Type 0 where
  pub is_word : IsWord (length vars) v
  pub words : Accepts b u ↔ Accepts a v
  pub values : AreTakenBack vars shifts (word_values vars u) (word_values vars v)

pub tracks-moved : (shifts : List ValueShift) (a b : Automaton) → IsMovedBy shifts a b → b.tracks ≡ a.tracks
tracks-moved [] a b is = ap (λ (m : Automaton). m.tracks) is
tracks-moved (s ∷ shifts) a b (m, one, rest) = tracks-moved shifts m b rest ∙ one.tracks

pub taken-back : WordsCanBeMoved → (vars : List Var) (shifts : List ValueShift) (a b : Automaton) {u : List ℕ}
    → a.tracks ≡ vars → ((s : ValueShift) → IsAmong s shifts → IsOneOf s.new vars) → AllPairs AreOtherVars shifts
    → IsMovedBy shifts a b → IsWord (length vars) u → (v : List ℕ) × IsTakenBack vars shifts a b u v
taken-back can vars [] a b {u} tracks within apart is is_word = (
  u,
  record {
    is_word = is_word;
    words = (λ h. subst (λ m. Accepts m u) is h, λ h. subst (λ m. Accepts m u) (sym is) h);
    values = record { new = λ s h. absurd h; others = λ x h none. refl };
  },
)
taken-back can vars (s ∷ shifts) a b {u} tracks within apart (m, one, rest) is_word =
    let fewer = λ (t : ValueShift) (h : IsAmong t shifts). within t (inr h) in
    let (v, back) =
    taken-back can vars shifts m b (one.tracks ∙ tracks) fewer (later s shifts apart) rest is_word in
    further can vars s shifts a b u tracks within apart m one v back
  where
    further : WordsCanBeMoved → (vars : List Var) (s : ValueShift) (shifts : List ValueShift) (a b : Automaton) (u : List ℕ)
        → a.tracks ≡ vars → ((t : ValueShift) → IsAmong t (s ∷ shifts) → IsOneOf t.new vars)
        → AllPairs AreOtherVars (s ∷ shifts) → (m : Automaton)
        → DecidesMoved a m (place a.tracks s.new) (negated s.by) → (v : List ℕ) → IsTakenBack vars shifts m b u v
        → (w : List ℕ) × IsTakenBack vars (s ∷ shifts) a b u w
    further can vars s shifts a b u tracks within apart m one v back =
        let here = within s (inl refl) in
        let inside = place-within s.new vars here in
        let (w, moved) = has-moved can (length vars) (place vars s.new) v inside back.is_word (negated s.by) in
        let on_a : IsMoved (length a.tracks) (place a.tracks s.new) (negated s.by) v w =
        subst (λ t. IsMoved (length t) (place t s.new) (negated s.by) v w) (sym tracks) moved in
        let step = one.words v w (subst (λ t. IsWord (length t) v) (sym tracks) back.is_word) on_a in
        let other : (x : Var) → IsOneOf x vars → x ≢ s.new → word_values vars w x.0 ≡ word_values vars v x.0 =
        λ x h differs.
        moved.others (place vars x) (place-within x vars h) (λ e. place-other x s.new vars differs e h) in
        let none : ¬ IsOneOf s.new (news shifts) =
        λ h. let by = new-by s.new shifts h in (beside s shifts apart by.shift by.among).new by.is in
        let first = moved.moved ∙ ap (λ z. z +ℤ negated s.by) (back.values.others s.new here none) in (
          w,
          record {
            is_word = moved.is_word;
            words = (λ h. step.0 (back.words.0 h), λ h. back.words.1 (step.1 h));
            values = record {
              new = λ t h. elim h [
                | inl is ↦
                    subst (λ r. word_values vars w r.new.0 ≡ word_values vars u r.new.0 +ℤ negated r.by) (sym is) first
                | inr k ↦
                    other t.new (within t (inr k)) (λ e. (beside s shifts apart t k).new (sym e)) ∙ back.values.new t k
              ];
              others = λ x h new. other x h (λ is. new (inl is)) ∙ back.values.others x h (λ k. new (inr k));
            };
          },
        )
