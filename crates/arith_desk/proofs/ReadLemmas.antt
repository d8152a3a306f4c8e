-- What fields are read as, put together; and where they stop.
use Rattle.std.proofs.Common.{◌≡◌, ◌≢◌, inl, inr, ℕ, zero, suc, ◌+◌, ◌-◌, ◌<◌, ◌≤◌, List, [], ◌∷◌, ◌++◌, length, ℤ, pos, negsuc, ◌≤ℤ◌, refl, sym, ap, ◌∙◌, subst, append_assoc, length-append, arith, ◌^◌}
use Rattle.std.specs.List.{All}
use Rattle.std.specs.Fmt.{signed_decimal}
use Rattle.std.specs.Int.Signed.{mag}
use Rattle.std.proofs.lemmas.List.{append-nil}
use Rattle.std.proofs.lemmas.List.Elements.{All-cons, All-head, All-nil, All-push, All-tail}
use Rattle.std.proofs.lemmas.Fmt.{signed_decimal_injective}
use Rattle.std.proofs.lemmas.Int.{ints}
use Rattle.track_word.specs.declared.tracks.Var.{Var}
use Rattle.track_word.specs.declared.atoms.Rel.{Rel}
use Rattle.track_word.specs.Atom.{IsAtom, IsCoefficient, IsDistinct}
use Rattle.auto_core.proofs.Orders.{same-var}
use Rattle.lin_formula.specs.Tree as tree
use Rattle.lin_formula.specs.Tree.{Tree}
use Rattle.lin_formula.specs.Free.{IsOneOf}
use Rattle.arith_desk.specs.declared.words.BinaryOp.{BinaryOp}
use Rattle.arith_desk.specs.declared.words.Quantifier.{Quantifier}
use Rattle.arith_desk.specs.declared.words.Word.TheVariants.{Not, Join, Bind, Compare}
use Rattle.arith_desk.specs.declared.errors.Stop.{Stop}
use Rattle.arith_desk.specs.declared.errors.Stop.TheVariants.{Left, Memory}
use Rattle.arith_desk.specs.Words.{IsFactor, letter, word_text}
use Rattle.arith_desk.specs.Typed.{Typed, Compared, Denied, Joined, Bound, bind, join, meaning, spelled, term_fields}
use Rattle.arith_desk.specs.Stops.{Fails, IsFactorField, IsKnownLetter, IsNumberBetween, IsStop, Stops, StopsBound, StopsJoined, StopsTerms, at_letter, in_body, in_first, in_second}
use Rattle.arith_desk.specs.Reading.{IsRead, IsReadBound, IsReadComparison, IsReadJoined, IsReadTerms}

-- where the first field is missing or another one
pub fails_none : (Is : List ℕ → Type 0) (fields : List (List ℕ)) → fields ≡ [] → Fails Is fields (length fields)
fails_none Is [] e = refl
fails_none Is (field ∷ rest) e = absurd cc

pub fails_front : (Is : List ℕ → Type 0) (fields : List (List ℕ)) (field : List ℕ) (rest : List (List ℕ)) → fields ≡ field ∷ rest → ¬ Is field → Fails Is fields (length fields)
fails_front Is [] field rest e never = absurd cc
fails_front Is (first ∷ more) field rest e never =
    let same : first ≡ field = cc in
    (λ is. never (subst Is same is), refl)

pub stop_along : (P Q : ℕ → Type 0) (why : Stop) → ((left : ℕ) → P left → Q left) → IsStop P why → IsStop Q why
stop_along P Q (Left left) along h = along left h
stop_along P Q Memory along h = tt

pub same_letter : (x y : Var) → letter x ≡ letter y → x ≡ y
same_letter x y e =
    let first : 97 + x.0 ≡ 97 + y.0 = cc in
    same-var x y (omega arith)

-- 0 is no coefficient
pub no_factor : (n : ℤ) → n ≡ pos 0 → ¬ IsFactorField (signed_decimal n)
no_factor n zero_is h =
    let same : signed_decimal (pos 0) ≡ signed_decimal h.0 = ap signed_decimal (sym zero_is) ∙ h.2 in
    h.1.0 (sym (signed_decimal_injective (pos 0) h.0 (omega arith) (small h.0 h.1.1 h.1.2) same))
  where
    small : (a : ℤ) → negsuc 63 ≤ℤ a → a ≤ℤ pos 64 → mag a < 2 ^ 63
    small (pos n) low high = omega (arith, ints)
    small (negsuc n) low high = omega (arith, ints)

pub read_not : (scope : List Var) (fields rest more : List (List ℕ)) (f made : Tree) → fields ≡ word_text Not ∷ rest
    → IsRead scope rest f more → made ≡ tree.Not f → IsRead scope fields made more
read_not scope fields rest more f made front r is = record {
  typed = Denied r.typed;
  proper = r.proper;
  fields_are = front ∙ ap (λ l. word_text Not ∷ l) r.fields_are;
  means = is ∙ ap (λ t. tree.Not t) r.means;
}

pub read_joined : {connective : BinaryOp} {scope : List Var} (fields : List (List ℕ)) {rest more : List (List ℕ)} {f : Tree} → fields ≡ word_text (Join connective) ∷ rest
    → IsReadJoined connective scope rest f more → IsRead scope fields f more
read_joined {connective} fields {more} front r = record {
  typed = Joined connective r.first r.second;
  proper = (r.first_proper, r.second_proper);
  fields_are = front ∙ ap (λ l. word_text (Join connective) ∷ l) (r.fields_are ∙ sym (append_assoc (spelled r.first) (spelled r.second) more));
  means = r.means;
}

pub read_bound : {quantifier : Quantifier} {scope : List Var} (fields : List (List ℕ)) {rest more : List (List ℕ)} {f : Tree} → fields ≡ word_text (Bind quantifier) ∷ rest
    → IsReadBound quantifier scope rest f more → IsRead scope fields f more
read_bound {quantifier} fields front r = record {
  typed = Bound quantifier r.var r.body;
  proper = r.proper;
  fields_are = front ∙ ap (λ l. word_text (Bind quantifier) ∷ l) r.fields_are;
  means = r.means;
}

pub read_comparison : {rel : Rel} {scope : List Var} (fields : List (List ℕ)) {rest more : List (List ℕ)} {f : Tree} → fields ≡ word_text (Compare rel) ∷ rest
    → IsReadComparison rel scope rest f more → IsRead scope fields f more
read_comparison {rel} fields front r = record {
  typed = Compared rel r.terms r.bound;
  proper = (r.atom, r.known);
  fields_are = front ∙ ap (λ l. word_text (Compare rel) ∷ l) r.fields_are;
  means = r.means;
}

-- one or more, and at most eight, different terms and a bound are an atom
pub atom_of : {scope : List Var} {due : ℕ} {fields rest : List (List ℕ)} {new : List (ℤ × Var)} {bound : ℤ} → 1 ≤ due → due ≤ 8
    → IsReadTerms scope [] due fields new bound rest → IsAtom new bound
atom_of {due} {new} low high r =
    let count : length new ≡ due = ap length r.after ∙ r.count in
    ((omega (arith, count), omega (arith, count), r.distinct tt), subst (All IsCoefficient) (sym r.after) r.coefficients, r.is_bound)

pub comparison_reads : (rel : Rel) (scope : List Var) (due : ℕ) (fields mid rest : List (List ℕ)) (new : List (ℤ × Var)) (bound : ℤ) (made : Tree) → 1 ≤ due → due ≤ 8
    → fields ≡ signed_decimal (pos due) ∷ mid → IsReadTerms scope [] due mid new bound rest → made ≡ tree.Lin new rel bound → IsReadComparison rel scope fields made rest
comparison_reads rel scope due fields mid rest new bound made low high front r is =
    let count : length new ≡ due = ap length r.after ∙ r.count in
    record {
      terms = new;
      bound = bound;
      atom = atom_of low high r;
      known = subst (All (λ t. IsOneOf t.1 scope)) (sym r.after) r.known;
      fields_are = front
          ∙ (ap (λ n. signed_decimal (pos n) ∷ mid) (sym count)
          ∙ ap (λ l. signed_decimal (pos (length new)) ∷ l)
          (r.fields_are ∙ (ap (λ ts. term_fields ts ++ signed_decimal bound ∷ rest) (sym r.after) ∙ sym (append_assoc (term_fields new) (signed_decimal bound ∷ []) rest))));
      means = is;
    }

distinct_push : (old : List (ℤ × Var)) (t : ℤ × Var) → IsDistinct old → All (λ u. u.1 ≢ t.1) old → IsDistinct (old ++ t ∷ [])
distinct_push [] t d unused = (All-nil (λ u. u.1 ≢ t.1), tt)
distinct_push (u ∷ old) t d unused =
    let other : u.1 ≢ t.1 = All-head (λ w. w.1 ≢ t.1) u old unused in (
      All-push (λ w. w.1 ≢ u.1) old t d.0 (λ e. other (sym e)),
      distinct_push old t d.1 (All-tail (λ w. w.1 ≢ t.1) u old unused),
    )

pub more_terms : (scope : List Var) (old : List (ℤ × Var)) (a : ℤ) (x : Var) (due : ℕ) (fields one two rest : List (List ℕ)) (new : List (ℤ × Var)) (bound : ℤ) → 0 < due
    → IsFactor a → IsOneOf x scope → All (λ t. t.1 ≢ x) old → fields ≡ signed_decimal a ∷ one → one ≡ letter x ∷ two
    → IsReadTerms scope (old ++ (a, x) ∷ []) (due - 1) two new bound rest → IsReadTerms scope old due fields new bound rest
more_terms scope old a x due fields one two rest new bound some factor known unused front second r = record {
  added = (a, x) ∷ r.added;
  count = omega (arith, r.count);
  after = r.after ∙ append_assoc old ((a, x) ∷ []) r.added;
  coefficients = All-cons IsCoefficient (a, x) r.added factor r.coefficients;
  known = All-cons (λ t. IsOneOf t.1 scope) (a, x) r.added known r.known;
  distinct = λ d. r.distinct (distinct_push old (a, x) d unused);
  is_bound = r.is_bound;
  fields_are = front ∙ (ap (λ l. signed_decimal a ∷ l) second ∙ ap (λ l. signed_decimal a ∷ letter x ∷ l) r.fields_are);
}

pub stops_factor : (scope : List Var) (terms : List (ℤ × Var)) (due : ℕ) (fields : List (List ℕ)) (left : ℕ) → 0 < due
    → Fails IsFactorField fields left → StopsTerms scope terms due fields left
stops_factor scope terms zero fields left some h = absurd (omega arith)
stops_factor scope terms (suc due) fields left some h = inl h

pub stops_letter : (scope : List Var) (terms : List (ℤ × Var)) (due : ℕ) (fields rest : List (List ℕ)) (left : ℕ) (a : ℤ) → 0 < due → IsFactor a
    → fields ≡ signed_decimal a ∷ rest → Fails (IsKnownLetter scope terms) rest left → StopsTerms scope terms due fields left
stops_letter scope terms zero fields rest left a some factor front h = absurd (omega arith)
stops_letter scope terms (suc due) fields rest left a some factor front h = inr (inl (a, rest, factor, front, h))

pub stops_later : (scope : List Var) (terms : List (ℤ × Var)) (due : ℕ) (fields one two : List (List ℕ)) (left : ℕ) (a : ℤ) (x : Var) → 0 < due → IsFactor a
    → IsOneOf x scope → All (λ t. t.1 ≢ x) terms → fields ≡ signed_decimal a ∷ one → one ≡ letter x ∷ two
    → StopsTerms scope (terms ++ (a, x) ∷ []) (due - 1) two left → StopsTerms scope terms due fields left
stops_later scope terms zero fields one two left a x some factor known unused front second h = absurd (omega arith)
stops_later scope terms (suc due) fields one two left a x some factor known unused front second h =
    let less : suc due - 1 ≡ due = omega arith in
    inr (inr (a, x, two, factor, known, unused, front ∙ ap (λ l. signed_decimal a ∷ l) second, subst (λ n. StopsTerms scope (terms ++ (a, x) ∷ []) n two left) less h))

pub stops_joined : (connective : BinaryOp) (scope : List Var) (fields rest : List (List ℕ)) (left : ℕ) → fields ≡ word_text (Join connective) ∷ rest
    → StopsJoined scope rest left → Stops scope fields left
stops_joined connective scope fields rest left front (inl h) = in_first scope connective fields rest left front h
stops_joined connective scope fields rest left front (inr (f, more, proper, is, h)) =
    in_second scope connective f fields more left proper (front ∙ ap (λ l. word_text (Join connective) ∷ l) is) h

pub stops_bound : (quantifier : Quantifier) (scope : List Var) (fields rest : List (List ℕ)) (left : ℕ) → fields ≡ word_text (Bind quantifier) ∷ rest
    → StopsBound scope rest left → Stops scope fields left
stops_bound quantifier scope fields rest left front (inl h) = at_letter scope quantifier fields rest left front h
stops_bound quantifier scope fields rest left front (inr (x, more, low, fresh, is, h)) =
    in_body scope quantifier x fields more left low fresh (front ∙ ap (λ l. word_text (Bind quantifier) ∷ l) is) h

-- a formula has a field
some_field : (f : Typed) → 0 < length (spelled f)
some_field (Compared rel terms bound) = omega arith
some_field (Denied f) = omega arith
some_field (Joined connective f g) = omega arith
some_field (Bound quantifier x f) = omega arith

-- fewer fields are left behind a formula
pub shorter : (scope : List Var) (fields rest : List (List ℕ)) (f : Tree) → IsRead scope fields f rest → length rest < length fields
shorter scope fields rest f r =
    let count : length fields ≡ length (spelled r.typed) + length rest = ap length r.fields_are ∙ length-append (spelled r.typed) rest in
    let some = some_field r.typed in
    omega arith
