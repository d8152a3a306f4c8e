use Rattle.std.proofs.Common.{arith, ◌≡◌, ◌∙◌, ap, sym, refl, map, subst, ◌↔◌, ℤ, List, neg_ℤ, All, w32, to_z, of_z}
use Rattle.std.proofs.lemmas.Int.{to_z-of_z}
use Rattle.track_word.specs.declared.tracks.Var.{Var}
use Rattle.track_word.specs.Atom.{Compares, AtomHolds, atom_tracks, sum_of}
use Rattle.auto_core.specs.Automaton.{Accepts}
use Rattle.auto_core.specs.Sums.{IsSmall, ordered_terms, total, weight_from}
use Rattle.auto_core.proofs.Linears.{AreOrdered, AreWeights-atom, tracks-atom, total-is, weights-size}
use Rattle.auto_core.proofs.Members.{DecidesIntegers-values}
use Rattle.auto_core.proofs.auto.Auto.lin.Goals as goal

ordered-facts : (terms ordered lent lent' : List (ℤ × Var)) (tracks : List Var) (weights : List ℤ) → ordered ≡ ordered_terms terms → lent ≡ ordered → lent' ≡ ordered
    → tracks ≡ map (λ t. t.1) lent → weights ≡ map (λ t. t.0) lent' → AreOrdered terms ordered tracks weights
ordered-facts terms ordered lent lent' tracks weights is l m t w = record {
  is = is;
  tracks_are = t ∙ ap (map (λ (t : ℤ × Var). t.1)) l;
  weights_are = w ∙ ap (map (λ (t : ℤ × Var). t.0)) m;
}

pub negated-requires : goal.negated-requires
negated-requires c =
    let are = ordered-facts _ _ _ _ _ _ c.in_ok-terms.ensures c.as_slice.ensures.value c.as_slice-2.ensures.value c.in_ok-tracks.ensures c.in_ok-weights.ensures in
    subst (All IsSmall) (sym c.as_slice-3.ensures.value) (AreWeights-atom _ _ c.requires are refl).small

pub sum_automaton-requires : goal.sum_automaton-requires
sum_automaton-requires c =
    let are = ordered-facts _ _ _ _ _ _ c.in_ok-terms.ensures c.as_slice.ensures.value c.as_slice-2.ensures.value c.in_ok-tracks.ensures c.in_ok-weights.ensures in
    let same = to_z-of_z w32 c.args.bound c.ranges.bound in
    record {
      weights = rw (c.as_slice-4.ensures.value, c.as_slice-5.ensures.value) (AreWeights-atom _ _ c.requires are (c.in_ok-sign_weights.ensures ∙ ap (map neg_ℤ) c.as_slice-3.ensures.value));
      low = rw same c.requires.2.0;
      high = rw same c.requires.2.1;
    }

pub returns-clause-tracks : goal.returns-clause-tracks
returns-clause-tracks c =
    let are = ordered-facts _ _ _ _ _ _ c.in_ok-terms.ensures c.as_slice.ensures.value c.as_slice-2.ensures.value c.in_ok-tracks.ensures c.in_ok-weights.ensures in
    c.in_ok-decided.ensures.tracks ∙ tracks-atom _ _ _ _ _ c.requires are

pub returns-clause-words : goal.returns-clause-words
returns-clause-words c =
    let are = ordered-facts _ _ _ _ _ _ c.in_ok-terms.ensures c.as_slice.ensures.value c.as_slice-2.ensures.value c.in_ok-tracks.ensures c.in_ok-weights.ensures in
    let same = to_z-of_z w32 c.args.bound c.ranges.bound in
    let tracks = tracks-atom _ _ _ _ _ c.requires are in
    λ word is.
    let decides = c.in_ok-decided.ensures.words word (rw tracks is) in
    let sum = ap (λ w. total (weight_from 0 w) word) c.as_slice-4.ensures.value ∙ total-is _ _ _ _ _ c.requires are word in
    subst (λ b. Accepts c.in_ok-decided.decided word ↔ AtomHolds c.args.terms.now c.args.rel b word) same
    (subst (λ s. Accepts c.in_ok-decided.decided word ↔ Compares c.args.rel s (to_z w32 (of_z w32 c.args.bound))) sum decides)

pub returns-clause-few : goal.returns-clause-few
returns-clause-few c =
    let are = ordered-facts _ _ _ _ _ _ c.in_ok-terms.ensures c.as_slice.ensures.value c.as_slice-2.ensures.value c.in_ok-tracks.ensures c.in_ok-weights.ensures in
    let same = to_z-of_z w32 c.args.bound c.ranges.bound in
    let few = rw (same, c.as_slice-4.ensures.value) at c.in_ok-decided.ensures.few in
    let size = weights-size c.args.terms.now c.in_ok-terms.terms.items c.in_ok-tracks.tracks.items c.in_ok-weights.weights.items are in
    omega (arith, few, size)

pub returns-clause-integers : goal.returns-clause-integers
returns-clause-integers c =
    DecidesIntegers-values c.repeating_first_letter_keeps_values.ensures c.in_ok-decided.decided (atom_tracks c.args.terms.now)
    (λ v. Compares c.args.rel (sum_of c.args.terms.now v) c.args.bound) (returns-clause-tracks c) (returns-clause-words c)
