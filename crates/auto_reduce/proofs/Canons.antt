-- For each state the one that stands for its class.
use Rattle.std.proofs.Common.{◌≡◌, ℕ, ◌<◌, List, length, get_or, arith, sym, ap, ◌∙◌}
use Rattle.std.proofs.lemmas.List.Elements.{All-get_or, All-from_get_or}
use Rattle.auto_core.specs.Automaton.{Automaton, IsAutomaton}
use Rattle.auto_refine.specs.Coarsest.{IsCoarsest, AreMembers}
use Rattle.auto_reduce.specs.Quotient.{IsCanonical}
use Rattle.auto_refine.proofs.States.{next_within}

module _ (a : Automaton) (is : IsAutomaton a) (classes : List ℕ) (count : ℕ) (members canon : List ℕ)
    (coarse : IsCoarsest a classes count) (f : AreMembers classes count members) (size : length canon ≡ length classes)
    (values : (k : ℕ) → k < length classes → get_or canon k 0 ≡ get_or members (get_or classes k 0) 0) where
  states : length classes ≡ length a.accept
  states = coarse.partition.states

  class_within : (j : ℕ) → j < length a.accept → get_or classes j 0 < count
  class_within j jw = let inside : j < length classes = omega (arith, states) in All-get_or (λ c. c < count) classes j 0 inside coarse.partition.within

  canon_is : (j : ℕ) → j < length a.accept → get_or canon j 0 ≡ get_or members (get_or classes j 0) 0
  canon_is j jw = values j (omega (arith, states))

  canon_within : (j : ℕ) → j < length a.accept → get_or canon j 0 < length a.accept
  canon_within j jw =
      let inside : get_or classes j 0 < length members = omega (arith, class_within j jw, f.size) in
      let below = All-get_or (λ s. s < length classes) members (get_or classes j 0) 0 inside f.within in
      omega (arith, canon_is j jw, below, states)

  class_kept : (j : ℕ) → j < length a.accept → get_or classes (get_or canon j 0) 0 ≡ get_or classes j 0
  class_kept j jw = ap (λ s. get_or classes s 0) (canon_is j jw) ∙ f.has (get_or classes j 0) (class_within j jw)

  same_canon : (j k : ℕ) → j < length a.accept → k < length a.accept → get_or classes j 0 ≡ get_or classes k 0 → get_or canon j 0 ≡ get_or canon k 0
  same_canon j k jw kw e = canon_is j jw ∙ ap (λ c. get_or members c 0) e ∙ sym (canon_is k kw)

  pub IsCanonical-from : IsCanonical a canon
  IsCanonical-from = record {
    valid = is;
    size = size ∙ states;
    within = All-from_get_or (λ s. s < length a.accept) canon 0 (λ i h. canon_within i (omega (arith, h, size, states)));
    flags = λ j jw. coarse.respects.flags (get_or canon j 0) j (canon_within j jw) jw (class_kept j jw);
    steps = λ j x jw below. same_canon _ _ (next_within is _ x) (next_within is j x) (coarse.respects.rows (get_or canon j 0) j x (canon_within j jw) jw below (class_kept j jw));
    apart = λ j k jw kw other. coarse.apart j k jw kw (λ e. other (same_canon j k jw kw e));
  }
