-- What a round of splits keeps, and what is true when it splits no class.
use Rattle.std.proofs.Common.{◌≡◌, ◌≢◌, ◌⊎◌, ◌↔◌, ℕ, ◌+◌, ◌<◌, ◌≤◌, Bool, true, false, true≢false, cond, not, nat_eq, MatchBool, zero, suc, List, [], ◌∷◌, ◌++◌, length, get_or, All, AllPairs, arith, refl, sym, ap, ◌∙◌, subst, inl, inr}
use mathlib.Core.Bool.{beq}
use Rattle.std.specs.List.{IsAnyAnswer}
use Rattle.std.proofs.lemmas.Bool.{cases_eq}
use Rattle.std.proofs.lemmas.Bool.Decides.{Decides-eqb}
use Rattle.std.proofs.lemmas.List.{length_push}
use Rattle.std.proofs.lemmas.List.Elements.{All-nil, All-cons, All-push, All-weaker, All-get_or, All-from_get_or}
use Rattle.std.proofs.lemmas.List.Quantifiers.{all_pairs_push}
use Rattle.letter_diagram.specs.declared.diagrams.Shape.{Shape}
use Rattle.letter_diagram.specs.Diagram.{map_at, LooksBelow, IsDiagram}
use Rattle.letter_diagram.proofs.Canonical.{node-from_map}
use Rattle.auto_core.proofs.RowLemmas.{map_at-narrow}
use Rattle.auto_core.specs.Automaton.{Automaton, IsAutomaton, width, next_state, is_final}
use Rattle.auto_refine.proofs.States.{next_within}
use Rattle.auto_refine.specs.Coarsest.{IsPartition}
use Rattle.auto_refine.specs.Moves.{IsSplit, IsFiner}
use Rattle.auto_predecessors.specs.RowNodes.{AreRowNodes}
use Rattle.auto_refine.specs.Led.{IsLed, AreLedRows}
use Rattle.auto_refine.specs.Refining.{IsRound, IsFlag, IsSound}
use Rattle.auto_refine.specs.Leading.{IsLedFrom}
use Rattle.auto_refine.proofs.Counting.{length_le-below}

-- ---- a round
-- a row that is led to classes leads letters to the classes of the next states
pub IsLed-from : {a : Automaton} (shapes : List Shape) {rows : List ℕ} (classes : List ℕ) (state led : ℕ) → AreRowNodes a rows → state < length a.accept
    → IsLedFrom a.shapes shapes classes (get_or rows state 0) led → IsLed a classes shapes led (next_state a state)
IsLed-from {a} shapes {rows} classes state led r within m =
    let narrow = All-get_or (λ node. LooksBelow a.shapes node (length a.tracks)) rows state 0 (omega (arith, r.size, within)) r.narrow in
    record {
      known = m.known;
      narrow = record { same = λ x y agree. m.map x ∙ ap (λ n. get_or classes n 0) (narrow.same x y agree) ∙ sym (m.map y) };
      leads = λ letter below. m.map letter ∙ ap (λ n. get_or classes n 0) (r.leads state letter within below);
    }

module _ (a : Automaton) (shapes : List Shape) (is : IsDiagram shapes) (start led : List ℕ) (l : AreLedRows a shapes start led) where
  -- states of one class whose rows lead to the same classes have one node
  same_node : (j k : ℕ) → IsLed a start shapes (get_or led j 0) (next_state a j) → IsLed a start shapes (get_or led k 0) (next_state a k)
      → ((letter : ℕ) → letter < width a → get_or start (next_state a j letter) 0 ≡ get_or start (next_state a k letter) 0) → get_or led j 0 ≡ get_or led k 0
  same_node j k jl kl same =
      node-from_map shapes is _ _ jl.known kl.known (map_at-narrow jl.narrow kl.narrow
      (λ letter below. jl.leads letter below ∙ same letter below ∙ sym (kl.leads letter below)))

  pub IsRound-split : {classes : List ℕ} {count : ℕ} → IsSplit start led classes count → IsRound a start classes count
  IsRound-split {classes} {count} s = record {
    partition = subst (λ n. IsPartition n classes count) l.classes_size s.partition;
    same = λ j k jw kw. elim (cases_eq j k) [
      | inl e ↦ (λ _. (ap (λ n. get_or start n 0) e, λ letter below. ap (λ n. get_or start (next_state a n letter) 0) e), λ _. ap (λ n. get_or classes n 0) e)
      | inr other ↦
          let jin : j < length start = omega (arith, l.classes_size, jw) in
          let kin : k < length start = omega (arith, l.classes_size, kw) in
          let split = s.same j k jin kin in
          let left = λ (e : get_or start j 0 ≡ get_or start k 0). l.at j jw (record { other = k; within = kin; differ = other; same = e }) in
          let right = λ (e : get_or start j 0 ≡ get_or start k 0). l.at k kw (record { other = j; within = jin; differ = λ (same : k ≡ j). other (sym same); same = sym e }) in (
            λ e. let both = split.0 e in (both.0, λ letter below. sym ((left both.0).leads letter below) ∙ ap (λ n. map_at shapes n letter) both.1 ∙ (right both.0).leads letter below),
            λ h. split.1 (h.0, same_node j k (left h.0) (right h.0) h.1),
          )
    ];
  }

-- ---- at most as many classes as states
module _ (size : ℕ) (f : List ℕ) (c : ℕ) (h : IsPartition size f c) where
  record IsRep (n state : ℕ) : Type 0 where
    within : state < size
    below : get_or f state 0 < n

  record Reps (n : ℕ) : Type 0 where
    list : List ℕ
    count : length list ≡ n
    distinct : AllPairs (λ x y. x ≢ y) list
    reps : All (IsRep n) list

  reps_of : (n : ℕ) → n ≤ c → Reps n
  reps_of zero less = record { list = []; count = refl; distinct = λ i j e l w. absurd (omega arith); reps = All-nil (IsRep 0) }
  reps_of (suc n) less =
      let rest = reps_of n (omega arith) in
      let rep = h.attained n (omega arith) in
      record {
        list = rest.list ++ rep.state ∷ [];
        count = length_push rest.list rep.state ∙ omega (arith, rest.count);
        distinct = all_pairs_push (λ x y. x ≢ y) rest.list rep.state rest.distinct (λ k e kw same. let is = rest.reps k e kw in let value = ap
            (λ x. get_or f x 0) same in let bad : ⊥ = omega (arith, is.below, value, rep.has) in bad);
        reps = All-push (IsRep (suc n)) rest.list rep.state (All-weaker (IsRep n) (IsRep (suc n)) (λ x is. record { within = is.within; below = omega (arith, is.below) }) rest.list rest.reps)
            (record { within = omega (arith, rep.within, h.states); below = omega (arith, rep.has) });
      }

  pub count_le-size : c ≤ size
  count_le-size =
      let all = reps_of c (omega arith) in
      let most = length_le-below all.list size all.distinct (All-weaker (IsRep c) (λ x. x < size) (λ x is. is.within) all.list all.reps) in
      omega (arith, most, all.count)

-- ---- soundness
-- either two functions agree below n, or they differ somewhere
agree_or_differ : (f g : ℕ → ℕ) (n : ℕ) → ((x : ℕ) → x < n → f x ≡ g x) ⊎ ((x : ℕ) × (x < n) × (f x ≢ g x))
agree_or_differ f g zero = inl (λ x less. absurd (omega arith))
agree_or_differ f g (suc n) =
    elim (agree_or_differ f g n) [
      | inl agree ↦ elim (cases_eq (f n) (g n)) [
        | inl same ↦ inl (λ x less. elim (cases_eq x n) [ inl e ↦ ap f e ∙ same ∙ ap g (sym e) | inr e ↦ agree x (omega arith) ])
        | inr other ↦ inr (n, omega arith, other)
      ]
      | inr found ↦ inr (found.0, omega (arith, found.1), found.2)
    ]

-- ---- the partition by flags
-- the class of a flag
abbrev pub flag_class : Bool → Bool → ℕ
flag_class flag first = cond (not (beq flag first)) 1 0

same_class : (flag other first : Bool) → (flag_class flag first ≡ flag_class other first) ↔ (flag ≡ other)
same_class true true first = (λ _. refl, λ _. refl)
same_class false false first = (λ _. refl, λ _. refl)
same_class true false true = (λ e. absurd (omega (arith, e)), λ e. absurd (true≢false e))
same_class true false false = (λ e. absurd (omega (arith, e)), λ e. absurd (true≢false e))
same_class false true true = (λ e. absurd (omega (arith, e)), λ e. absurd (true≢false (sym e)))
same_class false true false = (λ e. absurd (omega (arith, e)), λ e. absurd (true≢false (sym e)))

small_class : (flag first : Bool) → flag_class flag first < 2
small_class true true = omega arith
small_class true false = omega arith
small_class false true = omega arith
small_class false false = omega arith

first_class : (flag : Bool) → flag_class flag flag ≡ 0
first_class true = refl
first_class false = refl

pub IsFlag-from : (a : Automaton) (classes : List ℕ) → 0 < length a.accept → length classes ≡ length a.accept
    → ((k : ℕ) → k < length classes → get_or classes k 0 ≡ flag_class (is_final a k) (is_final a 0)) → IsFlag a classes
IsFlag-from a classes some size at = record {
  states = size;
  below = All-from_get_or (λ class. class < 2) classes 0 (λ k inside. let value = at k inside in let small = small_class (is_final a k) (is_final a 0) in omega (arith, value, small));
  first = at 0 (omega (arith, some, size)) ∙ first_class (is_final a 0);
  flags = λ j k jw kw. let same = same_class (is_final a j) (is_final a k) (is_final a 0) in (λ e. same.0 (sym (at j jw) ∙ e ∙ at k kw), λ e. at j jw ∙ same.1 e ∙ sym (at k kw));
}

-- both classes where some state has class 1, else one
abbrev pub HasOther : List ℕ → Bool → Type 0
HasOther classes both = MatchBool both ((k : ℕ) × (k < length classes) × (get_or classes k 0 ≡ 1)) ((k : ℕ) → k < length classes → get_or classes k 0 ≢ 1)

pub HasOther-from : (classes : List ℕ) (both : Bool) → IsAnyAnswer (λ class b. nat_eq class 1 ≡ b) classes both → HasOther classes both
HasOther-from classes true found = (found.0, found.1, (Decides-eqb _ _).0 (found.2 0))
HasOther-from classes false none = λ k inside e. true≢false (sym ((Decides-eqb _ _).1 e) ∙ none k 0 (omega arith) inside)

IsPartition-flags : {a : Automaton} {classes : List ℕ} (both : Bool) → 0 < length a.accept → IsFlag a classes
    → HasOther classes both → IsPartition (length a.accept) classes (1 + cond both 1 0)
IsPartition-flags true some f found = record {
  states = f.states;
  within = f.below;
  attained = λ class within. elim (cases_eq class 0) [
    | inl none ↦ record { state = 0; within = omega (arith, some, f.states); has = f.first ∙ sym none }
    | inr more ↦ record { state = found.0; within = found.1; has = found.2 ∙ omega (arith, within, more) }
  ];
}
IsPartition-flags {classes} false some f none = record {
  states = f.states;
  within = All-from_get_or (λ class. class < 1) classes 0 (λ k inside.
      let below = All-get_or (λ class. class < 2) classes k 0 inside f.below in
      let not = none k inside in
      omega (arith, below, not));
  attained = λ class within. record { state = 0; within = omega (arith, some, f.states); has = f.first ∙ omega (arith, within) };
}

pub IsSound-flags : {a : Automaton} {classes : List ℕ} (both : Bool) → 0 < length a.accept → IsFlag a classes → HasOther classes both → IsSound a classes (1 + cond both 1 0)
IsSound-flags {a} both some f h = record {
  partition = IsPartition-flags both some f h;
  flags = λ j k jw kw. (f.flags j k (omega (arith, jw, f.states)) (omega (arith, kw, f.states))).0;
  apart = λ j k jw kw other. record {
    letters = [];
    are_letters = All-nil (λ letter. letter < width a);
    differ = λ e. other ((f.flags j k (omega (arith, jw, f.states)) (omega (arith, kw, f.states))).1 e);
  };
}

module _ (a : Automaton) (is : IsAutomaton a) (old new : List ℕ) (count count' : ℕ) (s : IsSound a old count) (r : IsRound a old new count') where
  pub IsSound-round : IsSound a new count'
  IsSound-round = record {
    partition = r.partition;
    flags = λ j k jw kw e. s.flags j k jw kw ((r.same j k jw kw).0 e).0;
    apart = λ j k jw kw other.
        elim (cases_eq (get_or old j 0) (get_or old k 0)) [
          | inr before ↦ s.apart j k jw kw before
          | inl same ↦ elim (agree_or_differ (λ x. get_or old (next_state a j x) 0) (λ x. get_or old (next_state a k x) 0) (width a)) [
            | inl agree ↦ absurd (other ((r.same j k jw kw).1 (same, agree)))
            | inr found ↦
                let rest = s.apart (next_state a j found.0) (next_state a k found.0) (next_within is j found.0) (next_within is k found.0) found.2 in
                record {
                  letters = found.0 ∷ rest.letters;
                  are_letters = All-cons (λ letter. letter < width a) found.0 rest.letters found.1 rest.are_letters;
                  differ = rest.differ;
                }
          ]
        ];
  }

  finer : (j k : ℕ) → j < length a.accept → k < length a.accept → get_or new j 0 ≡ get_or new k 0 → get_or old j 0 ≡ get_or old k 0
  finer j k jw kw e = ((r.same j k jw kw).0 e).0

  pub IsFiner-round : IsFiner old new
  IsFiner-round = record { same = λ j k jw kw e. let states = r.partition.states in finer j k (omega (arith, jw, states)) (omega (arith, kw, states)) e }
