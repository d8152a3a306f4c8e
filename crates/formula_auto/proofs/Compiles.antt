-- The steps of a formula, one after the other.
use Rattle.std.proofs.Common.{◌≡◌, ℕ, ◌+◌, [], ◌∷◌, ◌++◌, length, Option, Some, None, refl, inl, inr, sym, ap, subst, arith, length-append}
use Rattle.track_word.specs.declared.tracks.Var.{Var}
use Rattle.auto_core.specs.Automaton.{Automaton}
use Rattle.auto_walk.specs.declared.grown.Grown.{Grown}
use Rattle.auto_walk.specs.declared.grown.Grown.TheVariants as grown
use Rattle.lin_formula.specs.Tree.{Tree, Ex, Not, steps}
use Rattle.lin_formula.specs.SetOf.{SetOf, members}
use Rattle.formula_auto.specs.Step.{FirstOver, Exceeds}
use Rattle.formula_auto.specs.Connected.{connect}
use Rattle.formula_auto.specs.Decides.{Decides}
use Rattle.formula_auto.specs.Compiled.{IsMade, IsCompileError}
use Rattle.formula_auto.specs.StepError.{step_error}
use Rattle.auto_project.specs.Lifted.{ForgettingExceeds}
use Rattle.auto_bool.specs.declared.connective.Connective.{Connective}
use Rattle.formula_auto.specs.declared.errors.CompileError.{CompileError}
use Rattle.formula_auto.specs.declared.errors.CompileError.TheVariants as compile_error
use Rattle.formula_auto.proofs.FirstOvers.{FirstOver-append, FirstOver-over}
use Rattle.formula_auto.proofs.Exceedings.{Exceeds-Ex}
use Rattle.formula_auto.proofs.Connections.{steps-connect}

module _ (e : ℕ → SetOf) (budget before : ℕ) where
  -- the steps of a second formula, counted on from those of the first
  counted : (f g : Tree) (done : ℕ) (answer : Option ℕ) → done ≡ before + length (steps f) → FirstOver (steps g) (members e) budget (done + 1) answer
      → FirstOver (steps g) (members e) budget (before + 1 + length (steps f)) answer
  counted f g done answer is h =
      let At : ℕ → Type 0 = λ k. FirstOver (steps g) (members e) budget k answer in
      let same : done + 1 ≡ before + 1 + length (steps f) = omega arith in
      subst At same h

  module _ (connective : Connective) (f g : Tree) where
    whole : (answer : Option ℕ) → FirstOver (steps f ++ steps g ++ connect connective f g ∷ []) (members e) budget (before + 1) answer
        → FirstOver (steps (connect connective f g)) (members e) budget (before + 1) answer
    whole answer h = subst (λ fs. FirstOver fs (members e) budget (before + 1) answer) (sym (steps-connect connective f g)) h

    pub error_left : (why : CompileError) → IsCompileError f e before budget why → IsCompileError (connect connective f g) e before budget why
    error_left (compile_error.Over k) h =
        whole (Some k) (FirstOver-over (steps f ++ steps g) (connect connective f g ∷ []) (members e) budget (before + 1) k (FirstOver-over (steps f) (steps g) (members e) budget (before + 1) k h))
    error_left compile_error.Memory h = tt

    module _ (a : Automaton) (done : ℕ) (counts : done ≡ before + length (steps f)) (left : IsMade f e before budget a) where
      of_both : (answer : Option ℕ) → FirstOver (steps g) (members e) budget (done + 1) answer → FirstOver (steps f ++ steps g) (members e) budget (before + 1) answer
      of_both answer h = FirstOver-append (steps f) (steps g) (members e) budget (before + 1) answer left.within (counted f g done answer counts h)

      pub error_right : (why : CompileError) → IsCompileError g e done budget why → IsCompileError (connect connective f g) e before budget why
      error_right (compile_error.Over k) h = whole (Some k) (FirstOver-over (steps f ++ steps g) (connect connective f g ∷ []) (members e) budget (before + 1) k (of_both (Some k) h))
      error_right compile_error.Memory h = tt

      module _ (b : Automaton) (after : ℕ) (more : after ≡ done + length (steps g)) (right : IsMade g e done budget b) where
        with_last : (answer : Option ℕ) → FirstOver (connect connective f g ∷ []) (members e) budget (before + 1 + length (steps f ++ steps g)) answer
            → FirstOver (steps (connect connective f g)) (members e) budget (before + 1) answer
        with_last answer h =
            whole answer (FirstOver-append (steps f ++ steps g) (connect connective f g ∷ []) (members e) budget (before + 1) answer (of_both None right.within) h)

        pub made_two : {c : Automaton} → Decides c (connect connective f g) (members e) → (Exceeds (connect connective f g) (members e) budget → ⊥)
            → IsMade (connect connective f g) e before budget c
        made_two decides none = record { decides = decides; within = with_last None (inr (none, refl)) }

        pub step_two : (why : Grown) → (why ≡ grown.Over → Exceeds (connect connective f g) (members e) budget)
            → IsCompileError (connect connective f g) e before budget (step_error (after + 1) why)
        step_two grown.Over over =
            let at : after + 1 ≡ before + 1 + length (steps f ++ steps g) = simp length-append (omega arith) in
            with_last (Some (after + 1)) (inl (over refl, ap Some at))
        step_two grown.Memory over = tt

  module _ (x : Var) (f : Tree) (a : Automaton) (part : IsMade f e before budget a) where
    pub made_ex : {c : Automaton} → Decides c (Ex x f) (members e) → (ForgettingExceeds x a budget → ⊥) → IsMade (Ex x f) e before budget c
    made_ex decides none = record {
      decides = decides;
      within = FirstOver-append (steps f) (Ex x f ∷ []) (members e) budget (before + 1) None part.within
          (inr (λ over. none ((Exceeds-Ex (members e) x f a budget part.decides).1 over), refl));
    }

    pub step_ex : (done : ℕ) (why : Grown) → done ≡ before + length (steps f)
        → (why ≡ grown.Over → ForgettingExceeds x a budget) → IsCompileError (Ex x f) e before budget (step_error (done + 1) why)
    step_ex done grown.Over counts over =
        let at : done + 1 ≡ before + 1 + length (steps f) = omega arith in
        FirstOver-append (steps f) (Ex x f ∷ []) (members e) budget (before + 1) (Some (done + 1)) part.within
        (inl ((Exceeds-Ex (members e) x f a budget part.decides).0 (over refl), ap Some at))
    step_ex done grown.Memory counts over = tt

  pub error_ex : (x : Var) (f : Tree) (why : CompileError) → IsCompileError f e before budget why → IsCompileError (Ex x f) e before budget why
  error_ex x f (compile_error.Over k) h = FirstOver-over (steps f) (Ex x f ∷ []) (members e) budget (before + 1) k h
  error_ex x f compile_error.Memory h = tt

  pub error_not : (f : Tree) (why : CompileError) → IsCompileError f e before budget why → IsCompileError (Not f) e before budget why
  error_not f (compile_error.Over k) h = h
  error_not f compile_error.Memory h = tt
