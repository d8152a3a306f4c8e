-- States to which words lead, and words that are alike. Crates above cite these lemmas.
use Rattle.std.proofs.Common.{◌≡◌, ◌≢◌, ◌↔◌, ℕ, ◌<◌, ◌+◌, ◌*◌, Bool, true, false, IsTrue, List, [], ◌∷◌, ◌++◌, length, get_or, refl, sym, ap, ◌∙◌, inl, inr}
use Rattle.std.specs.List.{All}
use Rattle.std.proofs.lemmas.Bool.{cases_eq, cases_lt}
use Rattle.std.proofs.lemmas.List.{get_or_past}
use Rattle.std.proofs.lemmas.List.Elements.{All-get_or}
use Rattle.std.proofs.lemmas.List.Sums.{fold-append}
use Rattle.auto_core.specs.Automaton.{Automaton, IsAutomaton, width, first_state, next_state, run, state_of, is_final, Accepts}
use Rattle.auto_core.specs.Reduced.{IsReduced}
use Rattle.auto_core.specs.Spread.{SameResidual}

pub entry_within : (n : ℕ) (xs : List ℕ) (i : ℕ) → 0 < n → All (λ x. x < n) xs → get_or xs i 0 < n
entry_within n xs i some all =
    elim (cases_lt i (length xs)) [
      | inl within ↦ All-get_or (λ x. x < n) xs i 0 within all
      | inr past ↦ rw (get_or_past xs i 0 past) some
    ]

pub run_within : {a : Automaton} → IsAutomaton a → (letters : List ℕ) (state : ℕ) → state < length a.accept → run a state letters < length a.accept
run_within is [] state h = h
run_within {a} is (letter ∷ letters) state h =
    run_within is letters (next_state a state letter) (entry_within (length a.accept) a.next (state * width a + letter) is.some_state is.next_within)

pub state_within : {a : Automaton} → IsAutomaton a → (word : List ℕ) → state_of a word < length a.accept
state_within is [] = is.some_state
state_within {a} is (sign ∷ letters) = run_within is letters _ (entry_within (length a.accept) a.first sign is.some_state is.first_within)

pub state_of-append : (a : Automaton) (word letters : List ℕ) → word ≢ [] → state_of a (word ++ letters) ≡ run a (state_of a word) letters
state_of-append a [] letters nonempty = absurd (nonempty refl)
state_of-append a (sign ∷ word) letters nonempty = fold-append (next_state a) (first_state a sign) word letters

pub same_flag : (b c : Bool) → IsTrue b ↔ IsTrue c → b ≡ c
same_flag true true h = refl
same_flag true false h = sym (h.0 refl)
same_flag false true h = h.1 refl
same_flag false false h = refl

-- in a reduced automaton words with one residual lead to one state
pub same_state : {a : Automaton} → IsAutomaton a → IsReduced a → {v w : List ℕ} → v ≢ [] → w ≢ [] → SameResidual (length a.tracks) (Accepts a) v w → state_of a v ≡ state_of a w
same_state {a} is reduced {v} {w} v_some w_some h =
    elim (cases_eq (state_of a v) (state_of a w)) [
      | inl same ↦ same
      | inr other ↦
          let apart = reduced.apart (state_of a v) (state_of a w) (state_within is v) (state_within is w) other in
          let flags = same_flag _ _ (h.same apart.letters apart.are_letters) in
          absurd (apart.differ (ap (is_final a) (sym (state_of-append a v apart.letters v_some)) ∙ flags ∙ ap (is_final a) (state_of-append a w apart.letters w_some)))
    ]

-- words that lead to one state have one residual
pub same_residual : (a : Automaton) (v w : List ℕ) → v ≢ [] → w ≢ [] → state_of a v ≡ state_of a w → SameResidual (length a.tracks) (Accepts a) v w
same_residual a v w v_some w_some e = record {
  same = λ letters h.
      let both : state_of a (v ++ letters) ≡ state_of a (w ++ letters) = state_of-append a v letters v_some ∙ ap (λ s. run a s letters) e ∙ sym (state_of-append a w letters w_some) in
      (λ p. ap (is_final a) (sym both) ∙ p, λ p. ap (is_final a) both ∙ p);
}
