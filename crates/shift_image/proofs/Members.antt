-- Membership in a set tells apart no more words than the set has states, whatever the variables are.
use Rattle.std.proofs.Common.{◌≡◌, ◌↔◌, ℕ, ◌<◌, ◌^◌, List, length, All, arith, sym, subst}
use Rattle.track_word.specs.declared.tracks.Var.{Var}
use Rattle.track_word.specs.Word.{IsWord}
use Rattle.track_word.specs.Tracks.{part_of, restrict, word_values, values_at}
use Rattle.auto_core.specs.Automaton.{Automaton, IsAutomaton, Accepts, state_of}
use Rattle.auto_core.specs.Integers.{DecidesIntegers, IsAccepted}
use Rattle.auto_core.proofs.States.{state_within, same_residual}
use Rattle.auto_bool.proofs.Spreads.{not_nil-map}
use Rattle.lin_formula.specs.Tree.{Among, free_vars}
use Rattle.lin_formula.specs.SetOf.{SetOf, Table, Member, members}
use Rattle.formula_auto.specs.Step.{Says}
use Rattle.formula_auto.proofs.SameWords.{IsWord-part, IsWord-append}
use Rattle.formula_auto.proofs.Atoms.{accepted-values, values-part}
use Rattle.formula_auto.proofs.Projections.{apart-ascending}
use Rattle.shift_image.specs.States.{SaysAlike, HasMoreResiduals}
use Rattle.shift_image.proofs.Residuals.{part-append, letters-part}
use Rattle.shift_image.proofs.States.{few-colours}

module _ (e : ℕ → SetOf) (number : ℕ) (vars : List Var) (set : Automaton) (is : e number ≡ Table set)
    (valid : IsAutomaton set) (arity : length vars ≡ length set.tracks) (integers : DecidesIntegers set) where
  abbrev over : List Var
  over = free_vars (Among number vars)

  -- a word as the set reads it
  abbrev read : List ℕ → List ℕ
  read word = part_of over vars word

  read-word : {word : List ℕ} → IsWord (length over) word → IsWord (length set.tracks) (read word)
  read-word {word} is_word = subst (λ k. IsWord k (read word)) arity (IsWord-part over vars is_word)

  says-read : {word : List ℕ} → IsWord (length over) word
      → Says (Among number vars) (members e) word ↔ Accepts set (read word)
  says-read {word} is_word =
      let apart = apart-ascending set.tracks valid.ascending in
      let accepted = accepted-values integers apart (read-word is_word) in
      let same = values-part over vars set.tracks word apart arity in
      let At : SetOf → Type 0 = λ s. Member s (values_at vars (word_values over word)) in (
        λ h. accepted.1 (subst (IsAccepted set) (sym same) (subst At is h)),
        λ h. subst At (sym is) (subst (IsAccepted set) same (accepted.0 h)),
      )

  read-alike : (v w : List ℕ) → IsWord (length over) v → IsWord (length over) w
      → state_of set (read v) ≡ state_of set (read w) → SaysAlike (Among number vars) (members e) v w
  read-alike v w is_v is_w same =
      let v_some = not_nil-map (restrict over vars) v is_v.nonempty in
      let w_some = not_nil-map (restrict over vars) w is_w.nonempty in
      let alike = same_residual set (read v) (read w) v_some w_some same in
      record {
        same = λ letters all.
            let few = subst (λ k. All (λ l. l < 2 ^ k) (read letters)) arity (letters-part over vars letters all) in
            let both = alike.same (read letters) few in
            let at_v = says-read (IsWord-append letters is_v all) in
            let at_w = says-read (IsWord-append letters is_w all) in
            let split_v = part-append over vars v letters in
            let split_w = part-append over vars w letters in (
              λ h. at_w.1 (subst (Accepts set) (sym split_w) (both.0 (subst (Accepts set) split_v (at_v.0 h)))),
              λ h. at_v.1 (subst (Accepts set) (sym split_v) (both.1 (subst (Accepts set) split_w (at_w.0 h)))),
            );
      }

  pub members-bound : ¬ HasMoreResiduals (Among number vars) (members e) (length set.accept)
  members-bound more =
      few-colours (length over) (SaysAlike (Among number vars) (members e)) (length set.accept)
      (λ w. state_of set (read w)) (λ w _. state_within valid (read w)) read-alike (length set.accept)
      (omega arith) more
