-- What the automata of closed formulas answer.
use Rattle.std.proofs.Common.{◌≡◌, ◌≢◌, ◌⊎◌, inl, inr, ℕ, zero, suc, ◌^◌, ◌<◌, List, [], ◌∷◌, ◌++◌, length, ℤ, pos, Bool, true, false, nat_lt, ◌==◌, if◌then◌else◌, get_or, refl, sym, ap, ◌∙◌, subst, arith, eq-eqb, length-append}
use Rattle.std.specs.List.{All}
use Rattle.std.proofs.lemmas.Bool.{lt-ltb, cases_Bool, true≢false}
use Rattle.std.proofs.lemmas.List.{append-nil}
use Rattle.std.proofs.lemmas.List.Elements.{All-cons, All-head, All-nil, All-tail}
use Rattle.track_word.specs.declared.tracks.Var.{Var}
use Rattle.track_word.specs.Word.{IsWord, Spells, spelled, val}
use Rattle.track_word.specs.Tracks.{IsAscending, place, values_at, with_var, with_vars, word_values}
use Rattle.track_word.proofs.Spelling.{Spells-spelled, bound_of, fits-bound}
use Rattle.auto_core.specs.Automaton.{Automaton, Accepts, IsAutomaton, is_final, state_of}
use Rattle.auto_core.specs.Integers.{IsAccepted}
use Rattle.auto_core.specs.Reduced.{IsReduced}
use Rattle.auto_core.proofs.Orders.{same-var}
use Rattle.auto_reduce.specs.Tables.{AcceptsNoWord}
use Rattle.auto_reduce.proofs.Empties.{no_word}
use Rattle.lin_formula.specs.Tree.{Tree, Ex, free_vars, memberships, steps, vars_of}
use Rattle.lin_formula.specs.Holds.{Holds, with_value}
use Rattle.lin_formula.specs.Free.{IsFree, IsOneOf}
use Rattle.lin_formula.proofs.Coincide.{coincide}
use Rattle.lin_formula.proofs.FreeVars.{free_vars-ascend, free_vars-free, one_of-with_var, one_of-with_vars, one_of-without_var}
use Rattle.formula_auto.specs.Compiled.{IsCompilable, IsSetFor}
use Rattle.formula_auto.specs.Decides.{Decides}
use Rattle.formula_auto.specs.Step.{Says}
use Rattle.formula_auto.proofs.Values.{place-here, place-later}
use Rattle.arith_desk.specs.Question.{IsQuestion}
use Rattle.arith_desk.specs.Truth.{HoldsWith, IsTrueFormula, anyhow, no_sets, with_zero}
use Rattle.arith_desk.proofs.Counts.{few_vars}

-- the further variable
abbrev pub spare : Var
spare = record { 0 = 16 }

-- a word that is accepted
pub record HasWord (a : Automaton) : Type 0 where
  pub word : List ℕ
  pub is_word : IsWord (length a.tracks) word
  pub accepts : Accepts a word

flag_or_none : (flags : List Bool) → ((k : ℕ) × (k < length flags) × (get_or flags k false ≡ true)) ⊎ ((k : ℕ) → k < length flags → get_or flags k false ≡ false)
flag_or_none [] = inr (λ k h. absurd (omega arith))
flag_or_none (true ∷ flags) = inl (0, omega arith, refl)
flag_or_none (false ∷ flags) = elim (flag_or_none flags) [
  | inl found ↦ inl (suc found.0, let within = found.1 in omega arith, found.2)
  | inr none ↦ inr (later none)
]
  where
    later : ((k : ℕ) → k < length flags → get_or flags k false ≡ false) → (k : ℕ) → k < length (false ∷ flags) → get_or (false ∷ flags) k false ≡ false
    later none zero h = refl
    later none (suc k) h = none k (omega arith)

-- a reduced automaton that does not accept nothing accepts a word
pub some_word : {a : Automaton} → IsReduced a → IsAutomaton a → (AcceptsNoWord a → ⊥) → HasWord a
some_word {a} reduced valid some = elim (flag_or_none a.accept) [
  | inl found ↦
      let reached = reduced.reached found.0 found.1 in
      record { word = reached.word; is_word = reached.is_word; accepts = ap (is_final a) reached.leads ∙ found.2 }
  | inr none ↦ absurd (some (no_word valid none))
]

none_in : (vars : List Var) (x : Var) → vars ≡ [] → IsOneOf x vars → ⊥
none_in [] x e is = is
none_in (y ∷ ys) x e is = absurd cc

module _ (f : Tree) (a : Automaton) (decides : Decides a f no_sets) (closed : free_vars f ≡ []) where
  at : (word : List ℕ) → IsTrueFormula f → Says f no_sets word
  at word h = coincide f no_sets anyhow (word_values (free_vars f) word) (λ x free. absurd (none_in (free_vars f) x closed ((free_vars-free f x).1 free))) h

  from : (word : List ℕ) → Says f no_sets word → IsTrueFormula f
  from word h = coincide f no_sets (word_values (free_vars f) word) anyhow (λ x free. absurd (none_in (free_vars f) x closed ((free_vars-free f x).1 free))) h

  one : List ℕ
  one = 0 ∷ []

  one_is : IsWord (length (free_vars f)) one
  unfolding one
  one_is = subst (λ (t : List Var). IsWord (length t) (0 ∷ [])) (sym closed)
      (record { nonempty = λ e. cc; letters = All-cons (λ l. l < 2 ^ 0) 0 [] (omega arith) (All-nil (λ l. l < 2 ^ 0)) })

  on_tracks : {word : List ℕ} → IsWord (length (free_vars f)) word → IsWord (length a.tracks) word
  on_tracks {word} is = subst (λ (t : List Var). IsWord (length t) word) (sym decides.tracks) is

  pub closed_false : AcceptsNoWord a → ¬ IsTrueFormula f
  closed_false none h = none one (on_tracks one_is) ((decides.words one one_is).1 (at one h))

  pub closed_true : (AcceptsNoWord a → ⊥) → IsTrueFormula f
  closed_true some = elim (cases_Bool (is_final a (state_of a one))) [
    | inl accepts ↦ from one ((decides.words one one_is).0 accepts)
    | inr never ↦ absurd (some (λ word is accepts.
        let there = at one (from word ((decides.words word (subst (λ (t : List Var). IsWord (length t) word) decides.tracks is)).0 accepts)) in
        true≢false (sym ((decides.words one one_is).1 there) ∙ never)))
  ]

pub same_or_not : (x y : Var) → (x ≡ y) ⊎ (x ≢ y)
same_or_not x y = elim (number x.0 y.0) [
  | inl is ↦ inl (same-var x y is)
  | inr other ↦ inr (λ e. other (ap (λ (v : Var). v.0) e))
]
  where
    number : (m n : ℕ) → (m ≡ n) ⊎ ((m ≡ n) → ⊥)
    number m n = grind arith

-- ascending variables that are all one, and of which that is one, are it alone
alone : (x : Var) (vars : List Var) → IsAscending vars → ((y : Var) → IsOneOf y vars → y ≡ x) → IsOneOf x vars → vars ≡ x ∷ []
alone x [] ascending all is = absurd is
alone x (y ∷ []) ascending all is = ap (λ v. v ∷ []) (all y (inl refl))
alone x (y ∷ z ∷ vars) ascending all is =
    let less : y.0 < z.0 = ascending 0 (omega arith) in
    let first : y.0 ≡ x.0 = ap (λ (v : Var). v.0) (all y (inl refl)) in
    let second : z.0 ≡ x.0 = ap (λ (v : Var). v.0) (all z (inr (inl refl))) in
    absurd (omega arith)

letter_in : (vars : List Var) (x : Var) → All (λ y. y.0 < 16) vars → IsOneOf x vars → x.0 < 16
letter_in [] x all is = absurd is
letter_in (y ∷ ys) x all (inl is) = subst (λ (z : Var). z.0 < 16) (sym is) (All-head (λ z. z.0 < 16) y ys all)
letter_in (y ∷ ys) x all (inr is) = letter_in ys x (All-tail (λ z. z.0 < 16) y ys all) is

no_sets_for : (names : List (ℕ × List Var)) (sets : List Automaton) → names ≡ [] → All (λ m. IsSetFor sets m.0 (length m.1)) names
no_sets_for [] sets e = All-nil (λ m. IsSetFor sets m.0 (length m.1))
no_sets_for (m ∷ names) sets e = absurd cc

pub compilable : {f : Tree} (sets : List Automaton) → IsQuestion f → IsCompilable f sets
compilable {f} sets question = record {
  well_made = question.well_made;
  few_vars = let few = few_vars 16 f (λ x is. letter_in (vars_of f) x question.letters is) in omega arith;
  has_sets = no_sets_for (memberships f) sets question.no_sets;
}

pub few_steps : {f : Tree} → IsQuestion f → length (steps f) < 2 ^ 31
few_steps question = let few = question.few_steps in omega arith

below_spare : (g : Tree) → ((x : Var) → IsOneOf x (vars_of g) → x.0 < 16) → (x : Var) → (IsOneOf x (vars_of g) ⊎ IsOneOf x (spare ∷ [])) → x.0 < 17
below_spare g below x (inl h) = let less = below x h in omega arith
below_spare g below x (inr (inl is)) = let number : x.0 ≡ 16 = ap (λ (v : Var). v.0) is in omega arith
below_spare g below x (inr (inr never)) = absurd never

module _ (x : Var) (g : Tree) (question : IsQuestion (Ex x g)) (free : IsFree x g) where
  body_letters : (y : Var) → IsOneOf y (vars_of g) → y.0 < 16
  body_letters y is = letter_in (with_var x (vars_of g)) y question.letters ((one_of-with_var y x (vars_of g)).1 (inr is))

  letter_is : x.0 < 16
  letter_is = letter_in (with_var x (vars_of g)) x question.letters ((one_of-with_var x x (vars_of g)).1 (inl refl))

  pub zero_compilable : (sets : List Automaton) → IsCompilable (with_zero g) sets
  zero_compilable sets = record {
    well_made = (question.well_made, tt);
    few_vars =
        let few = few_vars 17 (with_zero g) (λ y is. below_spare g body_letters y ((one_of-with_vars y (vars_of g) (spare ∷ [])).0 is)) in
        omega arith;
    has_sets = no_sets_for (memberships g ++ []) sets (append-nil (memberships g) ∙ question.no_sets);
  }

  pub zero_few_steps : length (steps (with_zero g)) < 2 ^ 31
  zero_few_steps =
      let few = question.few_steps in
      let first = length-append (steps g) (Ex x g ∷ []) in
      let left = length-append (steps g) [] in
      let all = length-append (steps g ++ []) (with_zero g ∷ []) in
      omega arith

  only : (y : Var) → IsOneOf y (free_vars g) → y ≡ x
  only y is = elim (same_or_not y x) [
    | inl same ↦ same
    | inr other ↦ absurd (none_in (free_vars (Ex x g)) y question.closed ((one_of-without_var y x (free_vars g)).1 (other, is)))
  ]

  body_free : free_vars g ≡ x ∷ []
  body_free = alone x (free_vars g) (free_vars-ascend g) only ((free_vars-free g x).1 free)

  both : List Var
  both = x ∷ spare ∷ []

  free_is : free_vars (with_zero g) ≡ both
  unfolding both
  free_is =
      let less : nat_lt x.0 16 ≡ true = lt-ltb x.0 16 letter_is in
      ap (λ vars. with_vars vars (spare ∷ [])) body_free ∙ ap (λ b. if b then x ∷ spare ∷ [] else (if x.0 == 16 then spare ∷ [] else spare ∷ x ∷ [])) less

  agree : (word : List ℕ) (n : ℤ) → word_values both word x.0 ≡ n → (y : Var) → IsFree y g → word_values both word y.0 ≡ with_value anyhow x n y.0
  agree word n is y at_y =
      let same : y ≡ x = only y ((free_vars-free g y).1 at_y) in
      let here : x.0 == x.0 ≡ true = eq-eqb x.0 x.0 refl in
      let value : n ≡ with_value anyhow x n x.0 = sym (ap (λ b. if b then n else pos 0) here) in
      subst (λ (z : Var). word_values both word z.0 ≡ with_value anyhow x n z.0) (sym same) (is ∙ value)

  first_place : place both x ≡ 0
  unfolding both
  first_place = place-here x x (spare ∷ []) refl

  second_place : place both spare ≡ 1
  unfolding both
  second_place =
      let other : spare ≢ x = λ e. let low = letter_is in let number : 16 ≡ x.0 = ap (λ (v : Var). v.0) e in omega arith in
      place-later spare x (spare ∷ []) other ∙ ap (λ n. suc n) (place-here spare spare [] refl)

  module _ (a : Automaton) (decides : Decides a (with_zero g) no_sets) where
    tracks_are : a.tracks ≡ both
    tracks_are = decides.tracks ∙ free_is

    pub two_tracks : length a.tracks ≡ 2
    unfolding both
    two_tracks = ap length tracks_are

    word_on : {word : List ℕ} → IsWord (length a.tracks) word → IsWord (length (free_vars (with_zero g))) word
    word_on {word} is = subst (λ (t : List Var). IsWord (length t) word) decides.tracks is

    says : {word : List ℕ} → IsWord (length a.tracks) word → Accepts a word → Holds (with_zero g) no_sets (word_values both word)
    says {word} is accepts = subst (λ (t : List Var). Holds (with_zero g) no_sets (word_values t word)) free_is ((decides.words word (word_on is)).0 accepts)

    -- the body holds with the value of the word
    holds_by : {word : List ℕ} (n : ℤ) → IsWord (length a.tracks) word → Accepts a word → word_values both word x.0 ≡ n → HoldsWith x g n
    holds_by {word} n is accepts value = coincide g no_sets (word_values both word) (with_value anyhow x n) (agree word n value) (says is accepts).0

    pub some_holds : HasWord a → (n : ℤ) × HoldsWith x g n
    some_holds has = (word_values both has.word x.0, holds_by (word_values both has.word x.0) has.is_word has.accepts refl)

    pub hit_holds : (n : ℤ) → IsAccepted a (n ∷ pos 0 ∷ []) → HoldsWith x g n
    unfolding both
    hit_holds n h =
        let values : values_at both (word_values both h.word) ≡ n ∷ pos 0 ∷ [] = subst (λ (t : List Var). values_at t (word_values t h.word) ≡ n ∷ pos 0 ∷ []) tracks_are h.values in
        let first : word_values both h.word x.0 ≡ n = cc in
        holds_by n h.is_word h.accepts first

    pub holds_hit : (n : ℤ) → HoldsWith x g n → IsAccepted a (n ∷ pos 0 ∷ [])
    unfolding both
    holds_hit n h =
        let integers : List ℤ = n ∷ pos 0 ∷ [] in
        let word : List ℕ = spelled integers (bound_of integers) in
        let spells : Spells integers word = Spells-spelled integers (bound_of integers) (fits-bound integers (bound_of integers) (omega arith)) in
        let value : word_values both word x.0 ≡ n = ap (val word) first_place ∙ spells.values 0 (omega arith) in
        let zero_value : word_values both word 16 ≡ pos 0 = ap (val word) second_place ∙ spells.values 1 (omega arith) in
        let there : Holds (with_zero g) no_sets (word_values both word) =
        (coincide g no_sets (with_value anyhow x n) (word_values both word) (λ y at_y. sym (agree word n value y at_y)) h, zero_value) in
        let two : IsWord 2 word = spells.is_word in
        let is : IsWord (length a.tracks) word = subst (λ k. IsWord k word) (sym two_tracks) two in
        record {
          word = word;
          is_word = is;
          values =
              subst (λ (t : List Var). values_at t (word_values t word) ≡ n ∷ pos 0 ∷ []) (sym tracks_are)
              (ap (λ m. m ∷ word_values both word 16 ∷ []) value ∙ ap (λ m. n ∷ m ∷ []) zero_value);
          accepts = (decides.words word (word_on is)).1 (subst (λ (t : List Var). Holds (with_zero g) no_sets (word_values t word)) (sym free_is) there);
        }

    pub seek_false : AcceptsNoWord a → ¬ IsTrueFormula (Ex x g)
    seek_false none h = let hit = holds_hit h.0 h.1 in none hit.word hit.is_word hit.accepts
