-- Fields stop at one place, and not where they begin with a formula.
use Rattle.std.proofs.Common.{◌≡◌, ◌≢◌, inl, inr, ℕ, zero, suc, ◌<◌, List, [], ◌∷◌, ◌++◌, length, ℤ, pos, negsuc, refl, sym, ap, ◌∙◌, subst, append_assoc, arith}
use Rattle.std.specs.List.{All}
use Rattle.std.specs.Fmt.{signed_decimal}
use Rattle.std.proofs.lemmas.Int.{ints}
use Rattle.std.proofs.lemmas.List.{append-nil}
use Rattle.std.proofs.lemmas.List.Elements.{All-cons, All-head, All-nil, All-tail}
use Rattle.track_word.specs.declared.tracks.Var.{Var}
use Rattle.track_word.specs.declared.atoms.Rel.{Rel}
use Rattle.track_word.specs.Atom.{IsAtom, IsBound, IsCoefficient, IsDistinct}
use Rattle.lin_formula.specs.Free.{IsOneOf}
use Rattle.arith_desk.specs.declared.words.BinaryOp.{BinaryOp}
use Rattle.arith_desk.specs.declared.words.Quantifier.{Quantifier}
use Rattle.arith_desk.specs.declared.words.Word.{Word}
use Rattle.arith_desk.specs.declared.words.Word.TheVariants.{Not, Join, Bind, Compare}
use Rattle.arith_desk.specs.Words.{letter, word_text}
use Rattle.arith_desk.specs.Typed.{Typed, Compared, Denied, Joined, Bound, IsProper, meaning, spelled, term_fields}
use Rattle.arith_desk.specs.Stops.{Fails, IsFactorField, IsFreshLetter, IsKnownLetter, IsNumberBetween, IsWord, Stops, StopsBound, StopsComparison, StopsJoined, StopsTerms, StopsWhole, at_word, behind_not, in_first, in_second, at_letter, in_body, in_comparison}
use Rattle.arith_desk.specs.Laws.{FormulaIsNotRefused, OneMeaning, OneRefusal}
use Rattle.arith_desk.proofs.ReadLemmas.{same_letter}
use Rattle.arith_desk.proofs.Blanks.{same_fields}
use Rattle.arith_desk.proofs.OneReading.{behind, compared_fields, heads, regroup, same_count, same_factor, same_typed, tails}

fails_there : (Is : List ℕ → Type 0) (fields : List (List ℕ)) (field : List ℕ) (rest : List (List ℕ)) (left : ℕ) → fields ≡ field ∷ rest → Is field → Fails Is fields left → ⊥
fails_there Is [] field rest left e is h = absurd cc
fails_there Is (first ∷ more) field rest left e is h =
    let same : first ≡ field = cc in
    h.0 (subst Is (sym same) is)

fails_same : (Is : List ℕ → Type 0) (fields : List (List ℕ)) (l m : ℕ) → Fails Is fields l → Fails Is fields m → l ≡ m
fails_same Is [] l m h k = h ∙ sym k
fails_same Is (field ∷ rest) l m h k = h.1 ∙ sym k.1

no_word_fails : (fields rest : List (List ℕ)) (w : Word) (left : ℕ) → fields ≡ word_text w ∷ rest → Fails IsWord fields left → ⊥
no_word_fails fields rest w left e h = fails_there IsWord fields (word_text w) rest left e (w, refl) h

inv_not : {scope : List Var} {fields : List (List ℕ)} (rest : List (List ℕ)) {left : ℕ} → fields ≡ word_text Not ∷ rest → Stops scope fields left → Stops scope rest left
inv_not {fields} rest {left} e (at_word _ _ _ h) = absurd (no_word_fails fields rest Not left e h)
inv_not {scope} {fields} rest {left} e (behind_not _ _ more _ is h) = subst (λ l. Stops scope l left) (sym (behind fields Not Not rest more e is).1) h
inv_not {fields} rest e (in_first _ d _ more _ is h) = absurd (let w = (behind fields Not (Join d) rest more e is).0 in cc)
inv_not {fields} rest e (in_second _ d first _ more _ proper is h) = absurd (let w = (behind fields Not (Join d) rest (spelled first ++ more) e is).0 in cc)
inv_not {fields} rest e (at_letter _ q _ more _ is h) = absurd (let w = (behind fields Not (Bind q) rest more e is).0 in cc)
inv_not {fields} rest e (in_body _ q x _ more _ low fresh is h) = absurd (let w = (behind fields Not (Bind q) rest (letter x ∷ more) e is).0 in cc)
inv_not {fields} rest e (in_comparison _ rel _ more _ is h) = absurd (let w = (behind fields Not (Compare rel) rest more e is).0 in cc)

inv_join : (c : BinaryOp) {scope : List Var} {fields : List (List ℕ)} (rest : List (List ℕ)) {left : ℕ} → fields ≡ word_text (Join c) ∷ rest → Stops scope fields left → StopsJoined scope rest left
inv_join c {fields} rest {left} e (at_word _ _ _ h) = absurd (no_word_fails fields rest (Join c) left e h)
inv_join c {fields} rest e (behind_not _ _ more _ is h) = absurd (let w = (behind fields (Join c) Not rest more e is).0 in cc)
inv_join c {scope} {fields} rest {left} e (in_first _ d _ more _ is h) = inl (subst (λ l. Stops scope l left) (sym (behind fields (Join c) (Join d) rest more e is).1) h)
inv_join c {fields} rest e (in_second _ d first _ more _ proper is h) = inr (first, more, proper, (behind fields (Join c) (Join d) rest (spelled first ++ more) e is).1, h)
inv_join c {fields} rest e (at_letter _ q _ more _ is h) = absurd (let w = (behind fields (Join c) (Bind q) rest more e is).0 in cc)
inv_join c {fields} rest e (in_body _ q x _ more _ low fresh is h) = absurd (let w = (behind fields (Join c) (Bind q) rest (letter x ∷ more) e is).0 in cc)
inv_join c {fields} rest e (in_comparison _ rel _ more _ is h) = absurd (let w = (behind fields (Join c) (Compare rel) rest more e is).0 in cc)

inv_bind : (p : Quantifier) {scope : List Var} {fields : List (List ℕ)} (rest : List (List ℕ)) {left : ℕ} → fields ≡ word_text (Bind p) ∷ rest → Stops scope fields left → StopsBound scope rest left
inv_bind p {fields} rest {left} e (at_word _ _ _ h) = absurd (no_word_fails fields rest (Bind p) left e h)
inv_bind p {fields} rest e (behind_not _ _ more _ is h) = absurd (let w = (behind fields (Bind p) Not rest more e is).0 in cc)
inv_bind p {fields} rest e (in_first _ d _ more _ is h) = absurd (let w = (behind fields (Bind p) (Join d) rest more e is).0 in cc)
inv_bind p {fields} rest e (in_second _ d first _ more _ proper is h) = absurd (let w = (behind fields (Bind p) (Join d) rest (spelled first ++ more) e is).0 in cc)
inv_bind p {scope} {fields} rest {left} e (at_letter _ q _ more _ is h) = inl (subst (λ l. Fails (IsFreshLetter scope) l left) (sym (behind fields (Bind p) (Bind q) rest more e is).1) h)
inv_bind p {fields} rest e (in_body _ q x _ more _ low fresh is h) = inr (x, more, low, fresh, (behind fields (Bind p) (Bind q) rest (letter x ∷ more) e is).1, h)
inv_bind p {fields} rest e (in_comparison _ rel _ more _ is h) = absurd (let w = (behind fields (Bind p) (Compare rel) rest more e is).0 in cc)

inv_compare : (r : Rel) (scope : List Var) (fields rest : List (List ℕ)) (left : ℕ) → fields ≡ word_text (Compare r) ∷ rest → Stops scope fields left → StopsComparison scope rest left
inv_compare r scope fields rest left e (at_word _ _ _ h) = absurd (no_word_fails fields rest (Compare r) left e h)
inv_compare r scope fields rest left e (behind_not _ _ more _ is h) = absurd (let w = (behind fields (Compare r) Not rest more e is).0 in cc)
inv_compare r scope fields rest left e (in_first _ d _ more _ is h) = absurd (let w = (behind fields (Compare r) (Join d) rest more e is).0 in cc)
inv_compare r scope fields rest left e (in_second _ d first _ more _ proper is h) = absurd (let w = (behind fields (Compare r) (Join d) rest (spelled first ++ more) e is).0 in cc)
inv_compare r scope fields rest left e (at_letter _ q _ more _ is h) = absurd (let w = (behind fields (Compare r) (Bind q) rest more e is).0 in cc)
inv_compare r scope fields rest left e (in_body _ q x _ more _ low fresh is h) = absurd (let w = (behind fields (Compare r) (Bind q) rest (letter x ∷ more) e is).0 in cc)
inv_compare r scope fields rest left e (in_comparison _ rel _ more _ is h) = subst (λ l. StopsComparison scope l left) (sym (behind fields (Compare r) (Compare rel) rest more e is).1) h

abbrev AreLetters : List Var → Type 0
AreLetters scope = (x : Var) → IsOneOf x scope → x.0 < 16

more_letters : (x : Var) (scope : List Var) → x.0 < 16 → AreLetters scope → AreLetters (x ∷ scope)
more_letters x scope small low y (inl is) = subst (λ (z : Var). z.0 < 16) (sym is) small
more_letters x scope small low y (inr is) = low y is

all_at : (P : ℤ × Var → Type 0) (xs ys : List (ℤ × Var)) (t : ℤ × Var) → All P (xs ++ t ∷ ys) → P t
all_at P [] ys t h = All-head P t ys h
all_at P (x ∷ xs) ys t h = all_at P xs ys t (All-tail P x (xs ++ t ∷ ys) h)

-- a term's variable stands in no term before it
unused_before : (old ts : List (ℤ × Var)) (t : ℤ × Var) → IsDistinct (old ++ t ∷ ts) → All (λ u. u.1 ≢ t.1) old
unused_before [] ts t d = All-nil (λ u. u.1 ≢ t.1)
unused_before (u ∷ old) ts t d =
    let other : t.1 ≢ u.1 = all_at (λ w. w.1 ≢ u.1) old ts t d.0 in
    All-cons (λ w. w.1 ≢ t.1) u old (λ e. other (sym e)) (unused_before old ts t d.1)

no_stop_terms : (scope : List Var) (old terms : List (ℤ × Var)) (bound : ℤ) (rest fields : List (List ℕ)) (left : ℕ)
    → AreLetters scope → IsDistinct (old ++ terms) → All IsCoefficient terms
    → All (λ t. IsOneOf t.1 scope) terms → IsBound bound → fields ≡ term_fields terms ++ signed_decimal bound ∷ rest → StopsTerms scope old (length terms) fields left → ⊥
no_stop_terms scope old [] bound rest fields left low distinct factors known is_bound e h =
    fails_there (IsNumberBetween (negsuc 999) (pos 1000)) fields (signed_decimal bound) rest left e (bound, is_bound.0, is_bound.1, refl) h
no_stop_terms scope old (t ∷ terms) bound rest fields left low distinct factors known is_bound e (inl h) =
    fails_there IsFactorField fields (signed_decimal t.0) (letter t.1 ∷ (term_fields terms ++ signed_decimal bound ∷ rest)) left e (t.0, All-head IsCoefficient t terms factors, refl) h
no_stop_terms scope old (t ∷ terms) bound rest fields left low distinct factors known is_bound e (inr (inl (a, more, factor, is, h))) =
    let after = term_fields terms ++ signed_decimal bound ∷ rest in
    let here = All-head (λ u. IsOneOf u.1 scope) t terms known in
    let same : more ≡ letter t.1 ∷ after = tails (signed_decimal a) (signed_decimal t.0) more (letter t.1 ∷ after) (sym is ∙ e) in
    fails_there (IsKnownLetter scope old) more (letter t.1) after left same (t.1, low t.1 here, here, unused_before old terms t distinct, refl) h
no_stop_terms scope old (t ∷ terms) bound rest fields left low distinct factors known is_bound e (inr (inr (a, x, more, factor, there, unused, is, h))) =
    let after = term_fields terms ++ signed_decimal bound ∷ rest in
    let both : signed_decimal a ∷ letter x ∷ more ≡ signed_decimal t.0 ∷ letter t.1 ∷ after = sym is ∙ e in
    let number : a ≡ t.0 = same_factor a t.0 factor (All-head IsCoefficient t terms factors) (heads (signed_decimal a) (signed_decimal t.0) (letter x ∷ more) (letter t.1 ∷ after) both) in
    let behind_number = tails (signed_decimal a) (signed_decimal t.0) (letter x ∷ more) (letter t.1 ∷ after) both in
    let var : x ≡ t.1 = same_letter x t.1 (heads (letter x) (letter t.1) more after behind_number) in
    let term : (a, x) ≡ t = ap (λ n. (n, x)) number ∙ ap (λ y. (t.0, y)) var in
    no_stop_terms scope (old ++ t ∷ []) terms bound rest more left low (subst IsDistinct (sym (append_assoc old (t ∷ []) terms)) distinct) (All-tail IsCoefficient t terms factors)
    (All-tail (λ u. IsOneOf u.1 scope) t terms known) is_bound (tails (letter x) (letter t.1) more after behind_number)
    (subst (λ (u : ℤ × Var). StopsTerms scope (old ++ u ∷ []) (length terms) more left) term h)

no_stop_comparison : (scope : List Var) (terms : List (ℤ × Var)) (bound : ℤ) (rest fields : List (List ℕ)) (left : ℕ)
    → AreLetters scope → IsAtom terms bound → All (λ t. IsOneOf t.1 scope) terms
    → fields ≡ compared_fields terms bound rest → StopsComparison scope fields left → ⊥
no_stop_comparison scope terms bound rest fields left low atom known e (inl h) =
    let some = atom.0.0 in
    let few = atom.0.1 in
    fails_there (IsNumberBetween (pos 1) (pos 8)) fields (signed_decimal (pos (length terms))) (term_fields terms ++ signed_decimal bound ∷ rest) left
    e (pos (length terms), omega (arith, ints), omega (arith, ints), refl) h
no_stop_comparison scope terms bound rest fields left low atom known e (inr (due, more, some, small, is, h)) =
    let few = atom.0.1 in
    let after = term_fields terms ++ signed_decimal bound ∷ rest in
    let both : signed_decimal (pos due) ∷ more ≡ signed_decimal (pos (length terms)) ∷ after = sym is ∙ e in
    let count : due ≡ length terms = same_count due (length terms) small (omega arith) (heads (signed_decimal (pos due)) (signed_decimal (pos (length terms))) more after both) in
    no_stop_terms scope [] terms bound rest more left low atom.0.2 atom.1 known atom.2 (tails (signed_decimal (pos due)) (signed_decimal (pos (length terms))) more after both)
    (subst (λ n. StopsTerms scope [] n more left) count h)

-- no field of a formula that the fields begin with
pub no_stop : (scope : List Var) (f : Typed) (rest fields : List (List ℕ)) (left : ℕ) → AreLetters scope → IsProper scope f → fields ≡ spelled f ++ rest → Stops scope fields left → ⊥
no_stop scope (Compared rel terms bound) rest fields left low proper e h =
    no_stop_comparison scope terms bound rest (compared_fields terms bound rest) left low proper.0 proper.1 refl
    (inv_compare rel scope fields (compared_fields terms bound rest) left (e ∙ ap (λ l. word_text (Compare rel) ∷ l) (regroup terms bound rest)) h)
no_stop scope (Denied f) rest fields left low proper e h = no_stop scope f rest (spelled f ++ rest) left low proper refl (inv_not (spelled f ++ rest) e h)
no_stop scope (Joined c f g) rest fields left low proper e h =
    let e2 : fields ≡ word_text (Join c) ∷ (spelled f ++ (spelled g ++ rest)) = e ∙ ap (λ l. word_text (Join c) ∷ l) (append_assoc (spelled f) (spelled g) rest) in
    elim (inv_join c (spelled f ++ (spelled g ++ rest)) e2 h) [
      | inl k ↦ no_stop scope f (spelled g ++ rest) (spelled f ++ (spelled g ++ rest)) left low proper.0 refl k
      | inr k ↦
          let same = same_typed scope f k.0 (spelled g ++ rest) k.1 proper.0 k.2 k.3 in
          no_stop scope g rest k.1 left low proper.1 (sym same.1) k.4
    ]
no_stop scope (Bound q x f) rest fields left low proper e h = elim (inv_bind q (letter x ∷ (spelled f ++ rest)) e h) [
  | inl k ↦ fails_there (IsFreshLetter scope) (letter x ∷ (spelled f ++ rest)) (letter x) (spelled f ++ rest) left refl (x, proper.0, proper.1, refl) k
  | inr k ↦
      let var : k.0 ≡ x = same_letter k.0 x (sym (heads (letter x) (letter k.0) (spelled f ++ rest) k.1 k.4)) in
      no_stop (x ∷ scope) f rest k.1 left (more_letters x scope proper.0 low) proper.2 (sym (tails (letter x) (letter k.0) (spelled f ++ rest) k.1 k.4))
      (subst (λ y. Stops (y ∷ scope) k.1 left) var k.5)
]

terms_stop : (scope : List Var) (old : List (ℤ × Var)) (due : ℕ) (fields : List (List ℕ)) (l m : ℕ) → AreLetters scope
    → StopsTerms scope old due fields l → StopsTerms scope old due fields m → l ≡ m
terms_stop scope old zero fields l m low h k = fails_same (IsNumberBetween (negsuc 999) (pos 1000)) fields l m h k
terms_stop scope old (suc due) fields l m low (inl h) (inl k) = fails_same IsFactorField fields l m h k
terms_stop scope old (suc due) fields l m low (inl h) (inr (inl (a, more, factor, is, k))) = absurd (fails_there IsFactorField fields (signed_decimal a) more l is (a, factor, refl) h)
terms_stop scope old (suc due) fields l m low (inl h) (inr (inr (a, x, more, factor, there, unused, is, k))) =
    absurd (fails_there IsFactorField fields (signed_decimal a) (letter x ∷ more) l is (a, factor, refl) h)
terms_stop scope old (suc due) fields l m low (inr (inl (a, more, factor, is, h))) (inl k) = absurd (fails_there IsFactorField fields (signed_decimal a) more m is (a, factor, refl) k)
terms_stop scope old (suc due) fields l m low (inr (inr (a, x, more, factor, there, unused, is, h))) (inl k) =
    absurd (fails_there IsFactorField fields (signed_decimal a) (letter x ∷ more) m is (a, factor, refl) k)
terms_stop scope old (suc due) fields l m low (inr (inl (a, more, factor, is, h))) (inr (inl (b, rest, factor_b, is_b, k))) =
    let same : more ≡ rest = tails (signed_decimal a) (signed_decimal b) more rest (sym is ∙ is_b) in
    fails_same (IsKnownLetter scope old) more l m h (subst (λ r. Fails (IsKnownLetter scope old) r m) (sym same) k)
terms_stop scope old (suc due) fields l m low (inr (inl (a, more, factor, is, h))) (inr (inr (b, x, rest, factor_b, there, unused, is_b, k))) =
    let same : more ≡ letter x ∷ rest = tails (signed_decimal a) (signed_decimal b) more (letter x ∷ rest) (sym is ∙ is_b) in
    absurd (fails_there (IsKnownLetter scope old) more (letter x) rest l same (x, low x there, there, unused, refl) h)
terms_stop scope old (suc due) fields l m low (inr (inr (b, x, rest, factor_b, there, unused, is_b, h))) (inr (inl (a, more, factor, is, k))) =
    let same : more ≡ letter x ∷ rest = tails (signed_decimal a) (signed_decimal b) more (letter x ∷ rest) (sym is ∙ is_b) in
    absurd (fails_there (IsKnownLetter scope old) more (letter x) rest m same (x, low x there, there, unused, refl) k)
terms_stop scope old (suc due) fields l m low (inr (inr (a, x, more, factor, there, unused, is, h))) (inr (inr (b, y, rest, factor_b, there_b, unused_b, is_b, k))) =
    let both : signed_decimal b ∷ letter y ∷ rest ≡ signed_decimal a ∷ letter x ∷ more = sym is_b ∙ is in
    let number : b ≡ a = same_factor b a factor_b factor (heads (signed_decimal b) (signed_decimal a) (letter y ∷ rest) (letter x ∷ more) both) in
    let behind_number = tails (signed_decimal b) (signed_decimal a) (letter y ∷ rest) (letter x ∷ more) both in
    let var : y ≡ x = same_letter y x (heads (letter y) (letter x) rest more behind_number) in
    let term : (b, y) ≡ (a, x) = ap (λ n. (n, y)) number ∙ ap (λ z. (a, z)) var in
    let moved = subst (λ (u : ℤ × Var). StopsTerms scope (old ++ u ∷ []) due rest m) term k in
    terms_stop scope (old ++ (a, x) ∷ []) due more l m low h (subst (λ r. StopsTerms scope (old ++ (a, x) ∷ []) due r m) (tails (letter y) (letter x) rest more behind_number) moved)

comparison_stop : (scope : List Var) (fields : List (List ℕ)) (l m : ℕ) → AreLetters scope → StopsComparison scope fields l → StopsComparison scope fields m → l ≡ m
comparison_stop scope fields l m low (inl h) (inl k) = fails_same (IsNumberBetween (pos 1) (pos 8)) fields l m h k
comparison_stop scope fields l m low (inl h) (inr (due, rest, some, few, is, k)) =
    absurd (fails_there (IsNumberBetween (pos 1) (pos 8)) fields (signed_decimal (pos due)) rest l is (pos due, omega (arith, ints), omega (arith, ints), refl) h)
comparison_stop scope fields l m low (inr (due, rest, some, few, is, h)) (inl k) =
    absurd (fails_there (IsNumberBetween (pos 1) (pos 8)) fields (signed_decimal (pos due)) rest m is (pos due, omega (arith, ints), omega (arith, ints), refl) k)
comparison_stop scope fields l m low (inr (due, rest, some, few, is, h)) (inr (other, more, some_m, few_m, is_m, k)) =
    let both : signed_decimal (pos other) ∷ more ≡ signed_decimal (pos due) ∷ rest = sym is_m ∙ is in
    let count : other ≡ due = same_count other due few_m few (heads (signed_decimal (pos other)) (signed_decimal (pos due)) more rest both) in
    let moved = subst (λ n. StopsTerms scope [] n more m) count k in
    terms_stop scope [] due rest l m low h (subst (λ r. StopsTerms scope [] due r m) (tails (signed_decimal (pos other)) (signed_decimal (pos due)) more rest both) moved)

word_stop : {scope : List Var} {fields : List (List ℕ)} (l : ℕ) {m : ℕ} → Fails IsWord fields l → Stops scope fields m → l ≡ m
word_stop {fields} l {m} h (at_word _ _ _ k) = fails_same IsWord fields l m h k
word_stop {fields} l h (behind_not _ _ more _ is k) = absurd (no_word_fails fields more Not l is h)
word_stop {fields} l h (in_first _ d _ more _ is k) = absurd (no_word_fails fields more (Join d) l is h)
word_stop {fields} l h (in_second _ d first _ more _ proper is k) = absurd (no_word_fails fields (spelled first ++ more) (Join d) l is h)
word_stop {fields} l h (at_letter _ q _ more _ is k) = absurd (no_word_fails fields more (Bind q) l is h)
word_stop {fields} l h (in_body _ q x _ more _ low fresh is k) = absurd (no_word_fails fields (letter x ∷ more) (Bind q) l is h)
word_stop {fields} l h (in_comparison _ rel _ more _ is k) = absurd (no_word_fails fields more (Compare rel) l is h)

pub one_stop : {scope : List Var} {fields : List (List ℕ)} {l m : ℕ} → AreLetters scope → Stops scope fields l → Stops scope fields m → l ≡ m
one_stop {l} low (at_word _ _ _ h) other = word_stop l h other
one_stop low (behind_not _ _ rest _ is h) other = one_stop low h (inv_not rest is other)
one_stop {scope} {l} low (in_first _ c _ rest _ is h) other = elim (inv_join c rest is other) [
  | inl k ↦ one_stop low h k
  | inr k ↦ absurd (no_stop scope k.0 k.1 rest l low k.2 k.3 h)
]
one_stop {scope} {m} low (in_second _ c first _ rest _ proper is h) other = elim (inv_join c (spelled first ++ rest) is other) [
  | inl k ↦ absurd (no_stop scope first rest (spelled first ++ rest) m low proper refl k)
  | inr k ↦
      let same = same_typed scope first k.0 rest k.1 proper k.2 k.3 in
      one_stop low h (subst (λ r. Stops scope r m) (sym same.1) k.4)
]
one_stop {scope} {l} {m} low (at_letter _ q _ rest _ is h) other = elim (inv_bind q rest is other) [
  | inl k ↦ fails_same (IsFreshLetter scope) rest l m h k
  | inr k ↦ absurd (fails_there (IsFreshLetter scope) rest (letter k.0) k.1 l k.4 (k.0, k.2, k.3, refl) h)
]
one_stop {scope} {m} low (in_body _ q x _ rest _ small fresh is h) other = elim (inv_bind q (letter x ∷ rest) is other) [
  | inl k ↦ absurd (fails_there (IsFreshLetter scope) (letter x ∷ rest) (letter x) rest m refl (x, small, fresh, refl) k)
  | inr k ↦
      let var : k.0 ≡ x = same_letter k.0 x (sym (heads (letter x) (letter k.0) rest k.1 k.4)) in
      let moved = subst (λ y. Stops (y ∷ scope) k.1 m) var k.5 in
      one_stop (more_letters x scope small low) h (subst (λ r. Stops (x ∷ scope) r m) (sym (tails (letter x) (letter k.0) rest k.1 k.4)) moved)
]
one_stop {scope} {fields} {l} {m} low (in_comparison _ rel _ rest _ is h) other = comparison_stop scope rest l m low h (inv_compare rel scope fields rest m is other)

no_letters : AreLetters []
no_letters x is = absurd is

whole_typed : (f : Typed) (fields : List (List ℕ)) (left : ℕ) → IsProper [] f → fields ≡ spelled f → StopsWhole fields left → ⊥
whole_typed f fields left proper e (inl h) = no_stop [] f [] fields left no_letters proper (e ∙ sym (append-nil (spelled f))) h
whole_typed f fields left proper e (inr (g, rest, proper_g, is, some, count)) =
    let same = same_typed [] f g [] rest proper proper_g (append-nil (spelled f) ∙ (sym e ∙ is)) in
    let none : length rest ≡ 0 = sym (ap length same.1) in
    absurd (omega arith)

whole_stop : (fields : List (List ℕ)) (l m : ℕ) → StopsWhole fields l → StopsWhole fields m → l ≡ m
whole_stop fields l m (inl h) (inl k) = one_stop no_letters h k
whole_stop fields l m (inl h) (inr (g, rest, proper, is, some, count)) = absurd (no_stop [] g rest fields l no_letters proper is h)
whole_stop fields l m (inr (g, rest, proper, is, some, count)) (inl k) = absurd (no_stop [] g rest fields m no_letters proper is k)
whole_stop fields l m (inr (f, xs, proper_f, is_f, some_f, count_f)) (inr (g, ys, proper_g, is_g, some_g, count_g)) =
    let same = same_typed [] f g xs ys proper_f proper_g (sym is_f ∙ is_g) in
    count_f ∙ (ap length same.1 ∙ sym count_g)

pub one_meaning : OneMeaning
one_meaning line f g a b =
    let fields = same_fields a.line_is b.line_is in
    let same = same_typed [] a.typed b.typed [] [] a.proper b.proper (ap (λ l. l ++ []) fields) in
    a.means ∙ (ap meaning same.0 ∙ sym b.means)

pub formula_is_not_refused : FormulaIsNotRefused
formula_is_not_refused line f number a r = whole_typed a.typed r.fields r.left a.proper (same_fields r.line_is a.line_is) r.stops

pub one_refusal : OneRefusal
one_refusal line m n a b =
    let fields = same_fields a.line_is b.line_is in
    let left : a.left ≡ b.left = whole_stop b.fields a.left b.left (subst (λ fs. StopsWhole fs a.left) fields a.stops) b.stops in
    let count : length a.fields ≡ length b.fields = ap length fields in
    let first = a.counted in
    let second = b.counted in
    omega arith
