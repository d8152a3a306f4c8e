-- What the automaton of a formula of a period accepts.
use Rattle.std.proofs.Common.{◌≡◌, ◌≢◌, ◌↔◌, ℕ, ℤ, pos, negsuc, ◌+◌, ◌≤◌, List, [], ◌∷◌, length, arith, inl, inr, refl, sym, ap, ◌∙◌, subst}
use Rattle.std.proofs.lemmas.Int.{ints}
use Rattle.std.proofs.lemmas.List.Elements.{All-cons, All-nil}
use Rattle.track_word.specs.declared.tracks.Var.{Var}
use Rattle.track_word.specs.Word.{Spells, spelled, FitsBelow, BitsSpell, RepeatKeepsValues, EqualValuesEqualWords}
use Rattle.track_word.specs.Tracks.{Values, word_values}
use Rattle.track_word.specs.Atom.{IsAtom, IsCoefficient}
use Rattle.auto_core.specs.Automaton.{Automaton, IsAutomaton, Accepts}
use Rattle.auto_core.specs.Integers.{DecidesIntegers, IsAccepted}
use Rattle.auto_core.specs.Reduced.{IsReduced}
use Rattle.auto_core.proofs.Members.{accepted-spelled}
use Rattle.lin_formula.specs.Tree.{IsWellMade, free_vars, steps}
use Rattle.lin_formula.specs.Holds.{Holds}
use Rattle.formula_auto.specs.Decides.{Decides}
use Rattle.formula_auto.specs.Compiled.{IsCompilable, IsSetFor}
use Rattle.auto_numbers.specs.declared.largest.Greatest.{Greatest}
use Rattle.auto_numbers.specs.declared.largest.Greatest.TheVariants.{Nothing, Number, Far, Endless}
use Rattle.auto_numbers.specs.Numbers.{Has, IsGreatest}
use Rattle.auto_numbers.proofs.Readings.{below-power}
use Rattle.period_sets.specs.Question.{t_var, u_var, is_in, is_in_later, differs, named}
use Rattle.period_sets.specs.Finding.{IsDifference}

-- the formulas, where the variable is a natural number
module _ (a : Automaton) (q t : ℕ) (v : Values) (is : v 18 ≡ pos t) where
  has-is : IsAccepted a (v 18 ∷ []) ≡ Has a t
  has-is = ap (λ x. IsAccepted a (x ∷ [])) is

  in-has : Holds (is_in t_var) (named a) v → Has a t
  in-has h = subst (λ x. IsAccepted a (x ∷ [])) is h

  has-in : Has a t → Holds (is_in t_var) (named a) v
  has-in h = subst (λ x. IsAccepted a (x ∷ [])) (sym is) h

  later-has : Holds (is_in_later q) (named a) v → Has a (t + q)
  later-has h =
      let sum = h.1.0 in
      let e : h.0 ≡ pos (t + q) = omega (arith, ints, sum, is) in
      subst (λ x. IsAccepted a (x ∷ [])) e h.1.1

  has-later : Has a (t + q) → Holds (is_in_later q) (named a) v
  has-later h = (pos (t + q), (omega (arith, ints, is), h))

  pub holds-difference : Holds (differs q) (named a) v → IsDifference (Has a) q t
  unfolding differs
  holds-difference h = (
    (let positive = h.0 in omega (arith, ints, positive, is)),
    elim h.1 [
      | inl leaves ↦ inl (in-has leaves.0, λ later. leaves.1 (has-later later))
      | inr enters ↦ inr ((λ here. enters.0 (has-in here)), later-has enters.1)
    ],
  )

  pub difference-holds : IsDifference (Has a) q t → Holds (differs q) (named a) v
  unfolding differs
  difference-holds h = (
    (let positive = h.0 in omega (arith, ints, positive, is)),
    elim h.1 [
      | inl leaves ↦ inl (has-in leaves.0, λ later. leaves.1 (later-has later))
      | inr enters ↦ inr ((λ here. enters.0 (in-has here)), has-later enters.1)
    ],
  )

module _ (a : Automaton) (q : ℕ) (d : Automaton) (valid : IsAutomaton d) (integers : DecidesIntegers d) (decides : Decides d (differs q) (named a)) (spell : BitsSpell)
    (keeps : RepeatKeepsValues) (equal : EqualValuesEqualWords) where
  tracks-are : free_vars (differs q) ≡ t_var ∷ []
  unfolding differs
  tracks-are = refl

  pub one-track : length d.tracks ≡ 1
  one-track = ap length (decides.tracks ∙ tracks-are)

  word : ℕ → List ℕ
  word t = spelled (pos t ∷ []) t

  spells : (t : ℕ) → Spells (pos t ∷ []) (word t)
  unfolding word
  spells t = spell (pos t ∷ []) t (All-cons (FitsBelow t) (pos t) [] (below-power t) (All-nil (FitsBelow t)))

  value : (t : ℕ) → word_values (t_var ∷ []) (word t) 18 ≡ pos t
  value t = (spells t).values 0 (omega arith)

  accepted : (t : ℕ) → Accepts d (word t) ↔ Has d t
  unfolding word
  accepted t = accepted-spelled d (pos t ∷ []) t valid (sym one-track) integers (All-cons (FitsBelow t) (pos t) [] (below-power t) (All-nil (FitsBelow t))) spell keeps equal

  pub has-difference : (t : ℕ) → Has d t → IsDifference (Has a) q t
  unfolding differs
  has-difference t h =
      holds-difference a q t (word_values (t_var ∷ []) (word t)) (value t) ((decides.words (word t) (spells t).is_word).0 ((accepted t).1 h))

  pub difference-has : (t : ℕ) → IsDifference (Has a) q t → Has d t
  unfolding differs
  difference-has t h =
      (accepted t).0 ((decides.words (word t) (spells t).is_word).1 (difference-holds a q t (word_values (t_var ∷ []) (word t)) (value t) h))

-- the greatest number of a fact is that of an equal one
pub greatest-same : (P Q : ℕ → Type 0) → ((t : ℕ) → P t → Q t) → ((t : ℕ) → Q t → P t) → (found : Greatest) → IsGreatest P found → IsGreatest Q found
greatest-same P Q to from Nothing none = λ t some h. none t some (from t h)
greatest-same P Q to from (Number last) is = (is.0, is.1, record { holds = to last is.2.holds; most = λ t h. is.2.most t (from t h) })
greatest-same P Q to from Far far = record {
  bound = far.bound;
  bounded = λ t h. far.bounded t (from t h);
  far = far.far;
  holds = to far.far far.holds;
  large = far.large;
}
greatest-same P Q to from Endless endless = λ bound. let h = endless bound in (h.0, h.1, to h.0 h.2)

coefficient-one : (x : Var) → IsCoefficient (pos 1, x)
coefficient-one x = ((λ e. cc), omega (arith, ints), omega (arith, ints))

coefficient-minus : (x : Var) → IsCoefficient (negsuc 0, x)
coefficient-minus x = ((λ e. cc), omega (arith, ints), omega (arith, ints))

atom-positive : IsAtom ((negsuc 0, t_var) ∷ []) (negsuc 0)
atom-positive =
    let P = λ (u : ℤ × Var). u.1 ≢ t_var in (
      (omega arith, omega arith, (All-nil P, tt)),
      All-cons IsCoefficient (negsuc 0, t_var) [] (coefficient-minus t_var) (All-nil IsCoefficient),
      (omega (arith, ints), omega (arith, ints)),
    )

atom-later : (q : ℕ) → q ≤ 60 → IsAtom ((pos 1, u_var) ∷ (negsuc 0, t_var) ∷ []) (pos q)
atom-later q few =
    let P = λ (u : ℤ × Var). u.1 ≢ u_var in
    let Q = λ (u : ℤ × Var). u.1 ≢ t_var in (
      (omega arith, omega arith, (All-cons P (negsuc 0, t_var) [] apart (All-nil P), (All-nil Q, tt))),
      All-cons IsCoefficient (pos 1, u_var) ((negsuc 0, t_var) ∷ []) (coefficient-one u_var)
          (All-cons IsCoefficient (negsuc 0, t_var) [] (coefficient-minus t_var) (All-nil IsCoefficient)),
      (omega (arith, ints), omega (arith, ints, few)),
    )
  where
    apart : t_var ≢ u_var
    apart e = let n : 18 ≡ 19 = ap (λ (v : Var). v.0) e in absurd (omega (arith, n))

well-made : (q : ℕ) → q ≤ 60 → IsWellMade (differs q)
unfolding differs
well-made q few =
    let later = atom-later q few in
    (atom-positive, ((tt, (later, tt)), (tt, (later, tt))))

set-for : (a : Automaton) → IsReduced a → DecidesIntegers a → a.tracks ≡ t_var ∷ [] → IsSetFor (a ∷ []) 0 1
set-for a reduced integers tracks = record { set = a; is_there = refl; reached = reduced.reached; integers = integers; arity = ap length tracks }

pub eight-steps : (q : ℕ) → length (steps (differs q)) ≡ 8
unfolding differs
eight-steps q = refl

-- the formula can be compiled
pub compilable : (a : Automaton) (q : ℕ) → q ≤ 60 → IsReduced a → DecidesIntegers a → a.tracks ≡ t_var ∷ [] → IsCompilable (differs q) (a ∷ [])
unfolding differs
compilable a q few reduced integers tracks = record {
  well_made = well-made q few;
  few_vars = omega arith;
  has_sets =
      let is = set-for a reduced integers tracks in
      let P = λ (m : ℕ × List Var). IsSetFor (a ∷ []) m.0 (length m.1) in
      let m : ℕ × List Var = (0, t_var ∷ []) in
      let n : ℕ × List Var = (0, u_var ∷ []) in
      All-cons P m (n ∷ m ∷ n ∷ []) is (All-cons P n (m ∷ n ∷ []) is (All-cons P m (n ∷ []) is (All-cons P n [] is (All-nil P))));
}
