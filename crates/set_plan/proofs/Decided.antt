-- An automaton that decides a formula has the tuples at which the formula holds.
use Rattle.std.proofs.Common.{◌≡◌, ℕ, suc, ◌<◌, List, [], ◌∷◌, length, map, ℤ, pos, Bool, true, refl, sym, ap, ◌∙◌, subst, inl, inr, arith, nat_lt, ◌==◌, if◌then◌else◌, slice_index_or}
use Rattle.std.specs.List.{AllPairs}
use Rattle.std.proofs.lemmas.List.Kept.{AllPairs-from_increasing}
use Rattle.std.proofs.lemmas.Bool.{lt-ltb}
use Rattle.track_word.specs.declared.tracks.Var.{Var}
use Rattle.track_word.specs.Word.{IsWord, Spells, repeat_first, spelled}
use Rattle.track_word.specs.Tracks.{Values, IsAscending, place, values_at, with_var, with_vars, word_values}
use Rattle.track_word.proofs.Spelling.{Spells-spelled, fits-bound, bound_of}
use Rattle.track_word.proofs.Repeats.{val-repeated, IsWord-again}
use Rattle.auto_core.specs.Automaton.{Automaton}
use Rattle.auto_core.specs.Integers.{DecidesIntegers, IsAccepted}
use Rattle.lin_formula.specs.Tree.{Tree, Among, free_vars}
use Rattle.lin_formula.specs.Holds.{Holds}
use Rattle.lin_formula.specs.SetOf.{SetOf, Table, Member, members, HoldsAt}
use Rattle.lin_formula.specs.Free.{IsOneOf}
use Rattle.lin_formula.proofs.FreeVars.{free_vars-free}
use Rattle.lin_formula.proofs.Coincide.{agree-values, coincide}
use Rattle.formula_auto.specs.Step.{Says}
use Rattle.formula_auto.specs.Decides.{Decides}
use Rattle.formula_auto.proofs.Values.{Cases, Same, Other, cases_of, place-here, place-later}
use Rattle.formula_auto.proofs.Atoms.{accepted-values}
use Rattle.formula_auto.proofs.Projections.{apart-ascending}
use Rattle.set_plan.specs.Program.{IsSetOf}

-- a variable's value stands at its place
pub record StandsAt (vars : List Var) (v : Values) (x : Var) : Type 0 where
  pub within : place vars x < length vars
  pub value : slice_index_or (values_at vars v) (place vars x) (pos 0) ≡ v x.0

stands_in : {y : Var} (ys : List Var) (v : Values) {x : Var} → Cases x y → IsOneOf x (y ∷ ys) → (IsOneOf x ys → StandsAt ys v x) → StandsAt (y ∷ ys) v x
stands_in {y} ys v {x} (Same is) h rest =
    let here : place (y ∷ ys) x ≡ 0 = place-here x y ys is in
    let At : ℕ → Type 0 = λ k. slice_index_or (values_at (y ∷ ys) v) k (pos 0) ≡ v x.0 in
    record { within = omega (arith, here); value = subst At (sym here) (ap (λ (z : Var). v z.0) (sym is)) }
stands_in {y} ys v {x} (Other other) h rest =
    let later : place (y ∷ ys) x ≡ suc (place ys x) = place-later x y ys other in
    let there : StandsAt ys v x = rest (elim h [ inl is ↦ absurd (other is) | inr k ↦ k ]) in
    let At : ℕ → Type 0 = λ k. slice_index_or (values_at (y ∷ ys) v) k (pos 0) ≡ v x.0 in
    record { within = omega (arith, later, there.within); value = subst At (sym later) there.value }

stands_at : (vars : List Var) (v : Values) (x : Var) → IsOneOf x vars → StandsAt vars v x
stands_at [] v x h = absurd h
stands_at (y ∷ ys) v x h = stands_in ys v (cases_of x y) h (λ k. stands_at ys v x k)

length-values : (vars : List Var) (v : Values) → length (values_at vars v) ≡ length vars
length-values [] v = refl
length-values (x ∷ xs) v = ap (λ n. suc n) (length-values xs v)

-- some word gives the variables the values
pub record HasWord (vars : List Var) (v : Values) : Type 0 where
  pub word : List ℕ
  pub is_word : IsWord (length vars) word
  pub agree : (x : Var) → IsOneOf x vars → word_values vars word x.0 ≡ v x.0

pub has_word : (vars : List Var) (v : Values) → HasWord vars v
has_word vars v =
    let integers = values_at vars v in
    let n = bound_of integers in
    let spells : Spells integers (spelled integers n) = Spells-spelled integers n (fits-bound integers n (omega arith)) in
    let count = length-values vars v in
    record {
      word = spelled integers n;
      is_word = subst (λ k. IsWord k (spelled integers n)) count spells.is_word;
      agree = λ x is.
          let stands = stands_at vars v x is in
          let within = stands.within in
          spells.values (place vars x) (omega (arith, count)) ∙ stands.value;
    }

module _ (f : Tree) (e : ℕ → SetOf) (a : Automaton) (decides : Decides a f (members e)) where
  accepted : (tuple : List ℤ) → HoldsAt (free_vars f) (Holds f (members e)) tuple → IsAccepted a tuple
  accepted tuple h =
      let has = has_word (free_vars f) h.values in
      let says : Says f (members e) has.word =
      coincide f (members e) h.values (word_values (free_vars f) has.word) (λ x is. sym (has.agree x ((free_vars-free f x).1 is))) h.holds in
      let Is : List Var → Type 0 = λ vars. values_at vars (word_values vars has.word) ≡ tuple in
      record {
        word = has.word;
        is_word = subst (λ (t : List Var). IsWord (length t) has.word) (sym decides.tracks) has.is_word;
        values = subst Is (sym decides.tracks) (agree-values (word_values (free_vars f) has.word) h.values (free_vars f) has.agree ∙ h.is_tuple);
        accepts = (decides.words has.word has.is_word).1 says;
      }

  holds : (tuple : List ℤ) → IsAccepted a tuple → HoldsAt (free_vars f) (Holds f (members e)) tuple
  holds tuple h =
      let Is : List Var → Type 0 = λ vars. values_at vars (word_values vars h.word) ≡ tuple in
      record {
        values = word_values (free_vars f) h.word;
        is_tuple = subst Is decides.tracks h.values;
        holds = (decides.words h.word (subst (λ (t : List Var). IsWord (length t) h.word) decides.tracks h.is_word)).0 h.accepts;
      }

  pub IsSetOf-decides : IsSetOf (record { formula = f; sets = e }) (Table a)
  IsSetOf-decides = record { same = λ tuple. (holds tuple, accepted tuple) }

  -- what a formula says depends on the values alone
  pub DecidesIntegers-decides : DecidesIntegers a
  DecidesIntegers-decides = record {
    stable = λ word is.
        let here : IsWord (length (free_vars f)) word = subst (λ (t : List Var). IsWord (length t) word) decides.tracks is in
        let more : IsWord (length (free_vars f)) (repeat_first word) = IsWord-again here in
        let w = decides.words word here in
        let r = decides.words (repeat_first word) more in
        let forth : Says f (members e) word → Says f (members e) (repeat_first word) =
        coincide f (members e) (word_values (free_vars f) word) (word_values (free_vars f) (repeat_first word)) (λ x free. sym (val-repeated word (place (free_vars f) x) 1)) in
        let back : Says f (members e) (repeat_first word) → Says f (members e) word =
        coincide f (members e) (word_values (free_vars f) (repeat_first word)) (word_values (free_vars f) word) (λ x free. val-repeated word (place (free_vars f) x) 1) in
        (λ h. r.1 (forth (w.0 h)), λ h. w.1 (back (r.0 h)));
  }

-- a list of tracks in order is the list of its variables
with_vars-pairs : (tracks : List Var) → AllPairs (λ a b. a < b) (map (λ v. v.0) tracks) → with_vars tracks [] ≡ tracks
with_vars-pairs [] h = refl
with_vars-pairs (x ∷ []) h = refl
with_vars-pairs (x ∷ y ∷ ys) h =
    let rest : with_vars (y ∷ ys) [] ≡ y ∷ ys = with_vars-pairs (y ∷ ys) (λ i j d less within. h (suc i) (suc j) d (omega arith) (omega arith)) in
    let less : x.0 < y.0 = h 0 1 0 (omega arith) (omega arith) in
    let first : nat_lt x.0 y.0 ≡ true = lt-ltb x.0 y.0 less in
    let Is : Bool → Type 0 = λ b. (if b then x ∷ y ∷ ys else (if x.0 == y.0 then y ∷ ys else y ∷ with_var x ys)) ≡ x ∷ y ∷ ys in
    ap (with_var x) rest ∙ subst Is (sym first) refl

pub with_vars-ascending : (tracks : List Var) → IsAscending tracks → with_vars tracks [] ≡ tracks
with_vars-ascending tracks h = with_vars-pairs tracks (AllPairs-from_increasing (map (λ v. v.0) tracks) h)

-- an automaton that decides a set of integers decides that its tracks are in the set
pub Decides-among : (e : ℕ → SetOf) (number : ℕ) (tracks : List Var) {a : Automaton} → e number ≡ Table a → DecidesIntegers a → IsAscending a.tracks
    → a.tracks ≡ tracks → Decides a (Among number tracks) (members e)
Decides-among e number tracks {a} is integers ascending same =
    let ordered : with_vars tracks [] ≡ tracks = subst (λ (t : List Var). with_vars t [] ≡ t) same (with_vars-ascending a.tracks ascending) in
    record {
      tracks = same ∙ sym ordered;
      words = λ word is_word.
          let there : IsWord (length a.tracks) word = subst (λ (t : List Var). IsWord (length t) word) (ordered ∙ sym same) is_word in
          let accepts = accepted-values integers (apart-ascending a.tracks ascending) there in
          let own : values_at a.tracks (word_values a.tracks word) ≡ values_at tracks (word_values (with_vars tracks []) word) =
          ap (λ (t : List Var). values_at t (word_values a.tracks word)) same ∙ ap (λ (t : List Var). values_at tracks (word_values t word)) (same ∙ sym ordered) in
          let At : SetOf → Type 0 = λ s. Member s (values_at tracks (word_values (with_vars tracks []) word)) in (
            λ h. subst At (sym is) (subst (IsAccepted a) own (accepts.0 h)),
            λ h. accepts.1 (subst (IsAccepted a) (sym own) (subst At is h)),
          );
    }
