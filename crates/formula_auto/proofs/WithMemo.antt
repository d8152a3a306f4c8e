-- What compiling makes of a formula, from what it made of its parts.
use Rattle.std.proofs.Common.{◌≡◌, ◌↔◌, ℕ, ◌+◌, ◌-◌, ◌≤◌, true, false, [], ◌∷◌, length, None, refl, sym, ap, ◌∙◌, subst, arith, length-append}
use Rattle.std.specs.List.{Contains}
use Rattle.track_word.specs.declared.tracks.Var.{Var}
use Rattle.auto_core.specs.Automaton.{Automaton}
use Rattle.auto_core.specs.Reduced.{IsReduced}
use Rattle.auto_walk.specs.declared.grown.Grown.{Grown}
use Rattle.auto_walk.specs.declared.grown.Grown.TheVariants as grown
use Rattle.lin_formula.specs.Tree.{Tree, Not, Ex, steps}
use Rattle.lin_formula.specs.SetOf.{SetOf, members}
use Rattle.lin_formula.specs.TreeOf.{tree_of}
use Rattle.formula_auto.specs.Connected.{connected}
use Rattle.formula_auto.specs.Decides.{Decides}
use Rattle.formula_auto.specs.Compiled.{IsMade, IsCompileError}
use Rattle.formula_auto.specs.StepError.{step_error}
use Rattle.auto_bool.specs.Words.{StepExceeds}
use Rattle.auto_project.specs.Lifted.{ForgettingExceeds}
use Rattle.formula_auto.specs.Nodes.{AcceptSame, DecidesNot, DecidesEx, DecidesBoth}
use Rattle.formula_auto.specs.PlainParts.{plain_within}
use Rattle.formula_auto.specs.Recalled.{is_recalled, start, MayBeOneStep}
use Rattle.formula_auto.specs.Step.{FirstOver, Exceeds}
use Rattle.formula_auto.specs.MemoState.{MemoState, IsEntry, known, counted, IsMemoAfter, IsMemoStopped}
use Rattle.formula_auto.specs.Remembered.{IsRemembered, IsStopped, IsInterrupted}
use Rattle.formula_auto.specs.declared.pair.FormulaPair.{FormulaPair}
use Rattle.formula_auto.specs.declared.standing.PartPosition.{PartPosition}
use Rattle.formula_auto.specs.declared.standing.Recall.{Recall}
use Rattle.formula_auto.specs.declared.standing.Recall.TheVariants.{Plain, Nothing}
use Rattle.formula_auto.specs.declared.errors.CompileError.{CompileError}
use Rattle.formula_auto.specs.declared.errors.CompileError.TheVariants.{Over, Memory}
use Rattle.formula_auto.proofs.Compiles.{made_two, made_ex, step_two, step_ex, error_left, error_right, error_ex, error_not}
use Rattle.formula_auto.proofs.Connections.{size-connect}
use Rattle.formula_auto.proofs.Exceedings.{Exceeds-connect}
use Rattle.formula_auto.proofs.SameAutomata.{still_decides}
use Rattle.formula_auto.proofs.PlainLemmas.{IsOfTwo, of_one-not, of_one-ex, of_two, after_one, after_two, stopped_one, stopped_at_one, stopped_left, stopped_right, stopped_at_two, after-none, after-append}
use Rattle.formula_auto.proofs.MemoLemmas.{recalled-itself, recalled-plain, recalled-stepless, entry_of-made, made-of_entry, stopped-memory, stopped-inside, after-known}

-- the number of a step that is over
number_of : (step : ℕ) (why : Grown) (k : ℕ) → step_error step why ≡ Over k → k ≡ step
number_of step grown.Over k is = cc
number_of step grown.Memory k is = absurd (cc)

module _ {e : ℕ → SetOf} {standing : PartPosition} {f : Tree} {m0 m1 : MemoState} where
  module _ (outside : is_recalled standing.recall (Not f) ≡ false) where
    pub interrupted_not : {why : CompileError} → IsInterrupted f e standing m0 m1 why → IsInterrupted (Not f) e standing m0 m1 why
    interrupted_not {why = why} part = record {
      error = error_not e m0.budget standing.before f why part.error;
      stopped = stopped_one (of_one-not standing.recall f outside) part.stopped;
    }

    module _ {a : Automaton} {last : ℕ} (part : IsRemembered f e standing m0 m1 a last) where
      pub remembered_not : {c : Automaton} → DecidesNot a c → IsRemembered (Not f) e standing m0 m1 c last
      remembered_not decides = record {
        counts = part.counts;
        made = record { decides = decides f e part.made.decides; within = part.made.within };
        after = after_one (of_one-not standing.recall f outside) part.after;
      }

      pub interrupted_at_not : {why : CompileError} → why ≡ Memory → IsInterrupted (Not f) e standing m0 m1 why
      interrupted_at_not is =
          let stopped : IsStopped (Not f) standing m0 m1 Memory = stopped_at_one (of_one-not standing.recall f outside) part.after (λ step over. absurd (cc)) in
          subst (IsInterrupted (Not f) e standing m0 m1) (sym is) (record { error = tt; stopped = stopped })

  module _ {x : Var} (outside : is_recalled standing.recall (Ex x f) ≡ false) where
    pub interrupted_ex : {why : CompileError} → IsInterrupted f e standing m0 m1 why → IsInterrupted (Ex x f) e standing m0 m1 why
    interrupted_ex {why = why} part = record {
      error = error_ex e m0.budget standing.before x f why part.error;
      stopped = stopped_one (of_one-ex standing.recall x f outside) part.stopped;
    }

    module _ {a : Automaton} {last : ℕ} (part : IsRemembered f e standing m0 m1 a last) where
      pub remembered_ex : {c : Automaton} → DecidesEx x a c → (ForgettingExceeds x a m1.budget → ⊥) → IsRemembered (Ex x f) e standing m0 m1 c (last + 1)
      remembered_ex {c = c} decides none = record {
        counts = omega (arith, part.counts, length-append (steps f) (Ex x f ∷ []));
        made = made_ex e m0.budget standing.before x f a part.made (decides f e part.made.decides)
            (subst (λ b. ForgettingExceeds x a b → ⊥) part.after.budget none);
        after = after_one (of_one-ex standing.recall x f outside) part.after;
      }

      pub interrupted_at_ex : (why : Grown) → (why ≡ grown.Over → ForgettingExceeds x a m1.budget) → IsInterrupted (Ex x f) e standing m0 m1 (step_error (last + 1) why)
      interrupted_at_ex why over = record {
        error = step_ex e m0.budget standing.before x f a part.made last why part.counts (subst (λ b. why ≡ grown.Over → ForgettingExceeds x a b) part.after.budget over);
        stopped = stopped_at_one (of_one-ex standing.recall x f outside) part.after
            (λ step is. let at = number_of (last + 1) why step is in omega (arith, at, part.counts));
      }

-- another automaton of the same words serves as well
pub made_same : {f : Tree} {e : ℕ → SetOf} {before budget : ℕ} {a c : Automaton} → AcceptSame a c → IsMade f e before budget a → IsMade f e before budget c
made_same same made = record { decides = still_decides same made.decides; within = made.within }

abbrev left_of : FormulaPair → Tree
left_of pair = tree_of pair.left.now

abbrev right_of : FormulaPair → Tree
right_of pair = tree_of pair.right.now

of_pair : (r : Recall) (pair : FormulaPair) → is_recalled r (connected pair) ≡ false → MayBeOneStep r pair.connective (right_of pair) → IsOfTwo r (connected pair) (left_of pair) (right_of pair)
of_pair r pair outside one = of_two r pair.connective (left_of pair) (right_of pair) outside one

module _ (pair : FormulaPair) {e : ℕ → SetOf} {standing : PartPosition} {m0 m1 : MemoState} (outside : is_recalled standing.recall (connected pair) ≡ false)
    (one : MayBeOneStep standing.recall pair.connective (right_of pair)) where
  pub interrupted_left : {why : CompileError} → IsInterrupted (left_of pair) e standing m0 m1 why → IsInterrupted (connected pair) e standing m0 m1 why
  interrupted_left {why = why} part = record {
    error = error_left e m0.budget standing.before pair.connective (left_of pair) (right_of pair) why part.error;
    stopped = stopped_left (of_pair standing.recall pair outside one) part.stopped;
  }

  module _ {m2 : MemoState} {a : Automaton} {last : ℕ} (left : IsRemembered (left_of pair) e standing m0 m1 a last) where
    pub interrupted_right : {why : CompileError} → IsInterrupted (right_of pair) e (record standing { before = last }) m1 m2 why → IsInterrupted (connected pair) e standing m0 m2 why
    interrupted_right {why = why} part = record {
      error = error_right e m0.budget standing.before pair.connective (left_of pair) (right_of pair) a last left.counts left.made why
          (subst (λ b. IsCompileError (right_of pair) e last b why) left.after.budget part.error);
      stopped = stopped_right (of_pair standing.recall pair outside one) left.after left.counts part.stopped;
    }

    module _ {b : Automaton} {end : ℕ} (right : IsRemembered (right_of pair) e (record standing { before = last }) m1 m2 b end) where
      same_budget : m2.budget ≡ m0.budget
      same_budget = right.after.budget ∙ left.after.budget

      right_made : IsMade (right_of pair) e last m0.budget b
      right_made = subst (λ n. IsMade (right_of pair) e last n b) left.after.budget right.made

      pub remembered_two : {c : Automaton} → Decides c (connected pair) (members e) → (Exceeds (connected pair) (members e) m2.budget → ⊥)
          → IsRemembered (connected pair) e standing m0 m2 c (end + 1)
      remembered_two {c = c} decides none = record {
        counts = omega (arith, left.counts, right.counts, size-connect pair.connective (left_of pair) (right_of pair));
        made = made_two e m0.budget standing.before pair.connective (left_of pair) (right_of pair) a last left.counts left.made b end right.counts right_made
            decides (subst (λ n. Exceeds (connected pair) (members e) n → ⊥) same_budget none);
        after = after_two (of_pair standing.recall pair outside one) left.after right.after;
      }

      pub interrupted_at_two : (why : Grown) → (why ≡ grown.Over → Exceeds (connected pair) (members e) m2.budget)
          → IsInterrupted (connected pair) e standing m0 m2 (step_error (end + 1) why)
      interrupted_at_two why over = record {
        error = step_two e m0.budget standing.before pair.connective (left_of pair) (right_of pair) a last left.counts left.made b end right.counts right_made why
            (subst (λ n. why ≡ grown.Over → Exceeds (connected pair) (members e) n) same_budget over);
        stopped = stopped_at_two (of_pair standing.recall pair outside one) left.after right.after
            (λ step is. let at = number_of (end + 1) why step is in omega (arith, at, left.counts, right.counts));
      }

      -- the same of the automata of the two
      on_theirs : StepExceeds a b m2.budget ↔ Exceeds (connected pair) (members e) m2.budget
      on_theirs = Exceeds-connect (members e) (left_of pair) (right_of pair) a b m2.budget left.made.decides right.made.decides pair.connective

      pub remembered_both : {c : Automaton} → DecidesBoth pair.connective a b c → (StepExceeds a b m2.budget → ⊥) → IsRemembered (connected pair) e standing m0 m2 c (end + 1)
      remembered_both decides none = remembered_two (decides (left_of pair) (right_of pair) e left.made.decides right.made.decides) (λ over. none (on_theirs.1 over))

      pub interrupted_at_both : (why : Grown) → (why ≡ grown.Over → StepExceeds a b m2.budget) → IsInterrupted (connected pair) e standing m0 m2 (step_error (end + 1) why)
      interrupted_at_both why over = interrupted_at_two why (λ is. on_theirs.0 (over is))

-- another automaton that decides the formula serves as well
pub remembered_as : {f : Tree} {e : ℕ → SetOf} {standing : PartPosition} {m0 m1 : MemoState} {a c : Automaton} {last : ℕ} → IsRemembered f e standing m0 m1 a last
    → Decides c f (members e) → IsRemembered f e standing m0 m1 c last
remembered_as made decides = record {
  counts = made.counts;
  made = record { decides = decides; within = made.made.within };
  after = made.after;
}

module _ {e : ℕ → SetOf} {standing : PartPosition} {f : Tree} {m : MemoState} where
  -- without a step nothing is entered and nothing taken
  pub remembered_leaf : {a : Automaton} → steps f ≡ [] → Decides a f (members e) → IsRemembered f e standing m m a standing.before
  remembered_leaf none decides = record {
    counts = (let size : length (steps f) ≡ 0 = ap length none in omega (arith, size));
    made = record { decides = decides; within = subst (λ fs. FirstOver fs (members e) m.budget (standing.before + 1) None) (sym none) refl };
    after = subst (IsMemoAfter m m) (sym (recalled-stepless standing.recall f (length (steps f)) none)) (after-none m);
  }

  pub interrupted_memory : {why : CompileError} → why ≡ Memory → IsInterrupted f e standing m m why
  interrupted_memory is = subst (IsInterrupted f e standing m m) (sym is) (record { error = tt; stopped = stopped-memory (after-none m) })

  pub remembered_found : {a : Automaton} {last : ℕ} → is_recalled standing.recall f ≡ true → last ≡ standing.before + length (steps f) → Contains (known m) f → IsEntry m.budget f a
      → IsRemembered f e standing m (record m { found = counted m.found }) a last
  remembered_found {a = a} recalled counts there entry = record {
    counts = counts;
    made = made-of_entry f e standing.before m.budget a entry;
    after = subst (IsMemoAfter m (record m { found = counted m.found })) (sym (recalled-itself standing.recall f recalled)) (after-known m f there);
  }

  -- memory ran out after the last step
  pub interrupted_last : {m1 : MemoState} {a : Automaton} {last : ℕ} {why : CompileError} → IsRemembered f e standing m m1 a last → why ≡ Memory → IsInterrupted f e standing m m1 why
  interrupted_last {m1 = m1} made is =
      let stopped : IsStopped f standing m m1 Memory = record { done = length (steps f); few = omega arith; number = λ step over. absurd (cc); after = made.after } in
      subst (IsInterrupted f e standing m m1) (sym is) (record { error = tt; stopped = stopped })

-- nothing of its parts was looked up, and it is to be entered
module _ (standing : PartPosition) {e : ℕ → SetOf} {f : Tree} {m m1 : MemoState} (recalled : is_recalled standing.recall f ≡ true) where
  pub interrupted_inside : {why : CompileError} → IsInterrupted f e (record standing { recall = Nothing }) m m1 why → IsInterrupted f e standing m m1 why
  interrupted_inside {why = why} part = record { error = part.error; stopped = stopped-inside e recalled part.error part.stopped }

  module _ {a : Automaton} {last : ℕ} (made : IsRemembered f e (record standing { recall = Nothing }) m m1 a last) where
    pub remembered_entered : {new : MemoState} {c : Automaton} → AcceptSame a c → IsMemoAfter m1 new (f ∷ []) → IsRemembered f e standing m new c last
    remembered_entered {new = new} same entered = record {
      counts = made.counts;
      made = made_same same made.made;
      after = subst (IsMemoAfter m new) (sym (recalled-itself standing.recall f recalled)) (after-append made.after entered);
    }

    pub may_enter : {c : Automaton} → AcceptSame a c → IsReduced c → length c.accept ≤ m.budget → IsEntry m1.budget f c
    may_enter {c = c} same reduced few =
        subst (λ b. IsEntry b f c) (sym made.after.budget)
        (entry_of-made f e standing.before m.budget c (recalled-plain standing.recall f recalled) reduced few (made_same same made.made))

    pub unknown_still : (Contains (known m) f → ⊥) → Contains (known m1) f → ⊥
    unknown_still unknown there = unknown (subst (λ fs. Contains fs f) made.after.passes.0 there)

-- counted from the first step
pub stopped-first : {f : Tree} {old new : MemoState} {why : CompileError} → IsStopped f (start Plain) old new why → IsMemoStopped old new f why
stopped-first {f} {old} {new} {why = Over step} h =
    let at : h.done ≡ step - 1 = (let number = h.number step refl in omega (arith, number)) in
    subst (λ n. IsMemoAfter old new (plain_within f n)) at h.after
stopped-first {why = Memory} h = (h.done, h.after)
