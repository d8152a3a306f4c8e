-- A reduced automaton that decides a formula, no step of which exceeds the budget, has no more states than the budget.
use Rattle.std.proofs.Common.{◌≡◌, ◌≢◌, ℕ, zero, suc, ◌+◌, ◌<◌, ◌≤◌, List, [], ◌∷◌, ◌++◌, length, None, refl, sym, ap, ◌∙◌, subst, inl, inr, arith}
use Rattle.std.specs.List.{All, slice_index_or}
use Rattle.std.proofs.lemmas.Bool.{cases_lt}
use Rattle.std.proofs.lemmas.List.Elements.{All-cons, All-nil}
use Rattle.track_word.specs.declared.tracks.Var.{Var}
use Rattle.track_word.specs.Word.{IsWord}
use Rattle.track_word.specs.Tracks.{with_vars, without_var}
use Rattle.auto_core.specs.Automaton.{Accepts, Automaton, is_final, state_of}
use Rattle.auto_core.specs.Reduced.{IsReduced}
use Rattle.auto_core.specs.Spread.{AlikeInBoth, AlikeLifted, HasMoreClasses, SameResidual}
use Rattle.auto_core.proofs.States.{same_flag}
use Rattle.auto_reduce.proofs.States.{state_of-append}
use Rattle.lin_formula.specs.Tree.{Tree, Lin, Value, Among, Not, And, Or, Ex, free_vars, steps}
use Rattle.lin_formula.specs.Holds.{Sets}
use Rattle.formula_auto.specs.Decides.{Decides}
use Rattle.formula_auto.specs.Step.{Exceeds, FirstOver, Says}
use Rattle.formula_auto.proofs.FirstOvers.{none_some}
use Rattle.formula_auto.proofs.SameWords.{SameResidual-same, more_classes}
use Rattle.set_plan.proofs.Residuals.{alike-And, alike-Ex, alike-Not, alike-Or}

-- words that lead to so many states of an automaton, the last one first
pub record LeadTo (a : Automaton) (count : ℕ) : Type 0 where
  pub words : List (List ℕ)
  pub many : length words ≡ count
  pub are_words : All (IsWord (length a.tracks)) words
  pub lead : (i : ℕ) (d : List ℕ) → i < count → state_of a (slice_index_or words i d) + suc i ≡ count

leads : (a : Automaton) (n : ℕ) (word : List ℕ) (words : List (List ℕ)) → state_of a word ≡ n → ((i : ℕ) (d : List ℕ) → i < n → state_of a (slice_index_or words i d) + suc i ≡ n)
    → (i : ℕ) (d : List ℕ) → i < suc n → state_of a (slice_index_or (word ∷ words) i d) + suc i ≡ suc n
leads a n word words here rest zero d less = omega (arith, here)
leads a n word words here rest (suc i) d less = let later = rest i d (omega arith) in omega (arith, later)

module _ (a : Automaton) (reduced : IsReduced a) where
  lead_to : (count : ℕ) → count ≤ length a.accept → LeadTo a count
  lead_to zero within = record { words = []; many = refl; are_words = All-nil (IsWord (length a.tracks)); lead = λ i d none. absurd (omega arith) }
  lead_to (suc n) within =
      let rest = lead_to n (omega arith) in
      let last = reduced.reached n (omega arith) in
      record {
        words = last.word ∷ rest.words;
        many = ap (λ n. suc n) rest.many;
        are_words = All-cons (IsWord (length a.tracks)) last.word rest.words last.is_word rest.are_words;
        lead = leads a n last.word rest.words last.leads rest.lead;
      }

  -- words with one residual don't lead to two states
  one_state : {v : List ℕ} (w : List ℕ) → IsWord (length a.tracks) v → IsWord (length a.tracks) w → state_of a v < length a.accept
      → state_of a w < length a.accept → state_of a v ≢ state_of a w → SameResidual (length a.tracks) (Accepts a) v w → ⊥
  one_state {v} w is_v is_w within_v within_w other alike =
      let apart = reduced.apart (state_of a v) (state_of a w) within_v within_w other in
      let flags = same_flag _ _ (alike.same apart.letters apart.are_letters) in
      apart.differ (ap (is_final a) (sym (state_of-append a v apart.letters is_v.nonempty)) ∙ flags ∙ ap (is_final a) (state_of-append a w apart.letters is_w.nonempty))

  -- more states make words with as many residuals
  residuals : (budget : ℕ) → budget < length a.accept → HasMoreClasses (length a.tracks) (SameResidual (length a.tracks) (Accepts a)) budget
  residuals budget more =
      let states = lead_to (budget + 1) (omega arith) in
      record {
        words = states.words;
        count = states.many;
        are_words = states.are_words;
        apart = λ i j d less within.
            let many = states.many in
            let first = states.lead i d (omega arith) in
            let second = states.lead j d (omega arith) in
            one_state (slice_index_or states.words j d) (states.are_words i d (omega arith))
            (states.are_words j d within) (omega arith) (omega arith) (λ e. omega arith);
      }

-- the last step doesn't exceed the budget where none does
last_within : (fs : List Tree) (f : Tree) (e : Sets) (budget from : ℕ) → FirstOver (fs ++ f ∷ []) e budget from None → Exceeds f e budget → ⊥
last_within [] f e budget from h over = elim h [ inl p ↦ none_some (sym p.1) | inr p ↦ p.0 over ]
last_within (g ∷ fs) f e budget from h over = elim h [ inl p ↦ none_some (sym p.1) | inr p ↦ last_within fs f e budget (from + 1) p.1 over ]

last_of_two : (fs gs : List Tree) (f : Tree) (e : Sets) (budget from : ℕ) → FirstOver (fs ++ gs ++ f ∷ []) e budget from None → Exceeds f e budget → ⊥
last_of_two [] gs f e budget from h over = last_within gs f e budget from h over
last_of_two (g ∷ fs) gs f e budget from h over = elim h [ inl p ↦ none_some (sym p.1) | inr p ↦ last_of_two fs gs f e budget (from + 1) p.1 over ]

module _ (e : Sets) (budget : ℕ) where
  -- the words that a formula tells apart
  abbrev Many : Tree → Type 0
  Many f = HasMoreClasses (length (free_vars f)) (SameResidual (length (free_vars f)) (Says f e)) budget

  exceeds-And : (f g : Tree) → Many (And f g) → Exceeds (And f g) e budget
  unfolding Exceeds
  exceeds-And f g many =
      more_classes (length (with_vars (free_vars f) (free_vars g))) (SameResidual (length (with_vars (free_vars f) (free_vars g))) (Says (And f g) e))
      (AlikeInBoth (with_vars (free_vars f) (free_vars g)) (free_vars f) (free_vars g) (Says f e) (Says g e)) budget (λ v w is_v is_w alike. alike-And e f g v w alike) many

  exceeds-Or : (f g : Tree) → Many (Or f g) → Exceeds (Or f g) e budget
  unfolding Exceeds
  exceeds-Or f g many =
      more_classes (length (with_vars (free_vars f) (free_vars g))) (SameResidual (length (with_vars (free_vars f) (free_vars g))) (Says (Or f g) e))
      (AlikeInBoth (with_vars (free_vars f) (free_vars g)) (free_vars f) (free_vars g) (Says f e) (Says g e)) budget (λ v w is_v is_w alike. alike-Or e f g v w alike) many

  exceeds-Ex : (x : Var) (g : Tree) → Many (Ex x g) → Exceeds (Ex x g) e budget
  unfolding Exceeds
  exceeds-Ex x g many =
      more_classes (length (without_var x (free_vars g))) (SameResidual (length (without_var x (free_vars g))) (Says (Ex x g) e))
      (AlikeLifted (without_var x (free_vars g)) (free_vars g) (Says g e)) budget (λ v w is_v is_w alike. alike-Ex e x g is_v is_w alike) many

  few_classes : (f : Tree) (from : ℕ) → 0 < length (steps f) → FirstOver (steps f) e budget from None → Many f → ⊥
  few_classes (Lin terms rel bound) from some within many = absurd (omega arith)
  few_classes (Value x n) from some within many = absurd (omega arith)
  few_classes (Among set vars) from some within many = absurd (omega arith)
  few_classes (Not f) from some within many =
      few_classes f from some within
      (more_classes (length (free_vars f)) (SameResidual (length (free_vars f)) (Says (Not f) e)) (SameResidual (length (free_vars f)) (Says f e))
      budget (λ v w is_v is_w alike. alike-Not e f v w alike) many)
  few_classes (And f g) from some within many = last_of_two (steps f) (steps g) (And f g) e budget from within (exceeds-And f g many)
  few_classes (Or f g) from some within many = last_of_two (steps f) (steps g) (Or f g) e budget from within (exceeds-Or f g many)
  few_classes (Ex x g) from some within many = last_within (steps g) (Ex x g) e budget from within (exceeds-Ex x g many)

  pub few_states : {f : Tree} {a : Automaton} (from : ℕ) → 0 < length (steps f) → Decides a f e → IsReduced a → FirstOver (steps f) e budget from None → length a.accept ≤ budget
  few_states {f} {a} from some decides reduced within =
      elim (cases_lt budget (length a.accept)) [
        | inl more ↦
            let At : List Var → Type 0 = λ t. HasMoreClasses (length t) (SameResidual (length t) (Accepts a)) budget in
            let there = subst At decides.tracks (residuals a reduced budget more) in
            let many = more_classes (length (free_vars f)) (SameResidual (length (free_vars f)) (Accepts a)) (SameResidual (length (free_vars f)) (Says f e)) budget
            (λ v w is_v is_w alike. SameResidual-same (Accepts a) decides.words is_v is_w alike) there in
            absurd (few_classes f from some within many)
        | inr few ↦ few
      ]
