-- Ends of items, and of two sets.
use Rattle.std.proofs.Common.{◌≡◌, ℕ, ◌+◌, ◌-◌, ◌≤◌, ◌<◌, arith, List, [], ◌∷◌, map, length, Some, None, ap, subst, refl, sym, inl, inr}
use Rattle.track_word.specs.declared.tracks.Var.{Var}
use Rattle.lin_formula.specs.Tree.{Tree, Among, And, Not, Or, steps}
use Rattle.lin_formula.specs.SetOf.{SetOf, Nothing, members, IsEmpty, NoneEmpty}
use Rattle.formula_auto.specs.Compiled.{IsCompileError}
use Rattle.formula_auto.specs.Step.{Exceeds, FirstOver}
use Rattle.formula_auto.specs.declared.errors.CompileError.{CompileError}
use Rattle.formula_auto.specs.declared.errors.CompileError.TheVariants as compile_error
use Rattle.set_plan.specs.Program.{Item, IsSetOf, Give, Ask, Empty}
use Rattle.set_plan.specs.Outcome.{Ends, IsPlanError, Stops}
use Rattle.set_plan.specs.Stopped.{IsStepOf, stopped_at}
use Rattle.set_plan.specs.Unite as plan
use Rattle.set_plan.proofs.Composition.{none_some, Ends-compute, Ends-give, Ends-ask_no, Ends-ask_yes, Stops-compute_here, Stops-ask_no, Ends-bind, Stops-bind}

-- the first step past the budget is one of the steps
pub FirstOver-within : (fs : List Tree) (e : ℕ → SetOf) (budget from k : ℕ) → FirstOver fs (members e) budget from (Some k) → (from ≤ k) × (k < from + length fs)
FirstOver-within [] e budget from k h = none_some h
FirstOver-within (f ∷ fs) e budget from k (inl (over, is)) =
    let same : k ≡ from = cc in
    (omega arith, omega arith)
FirstOver-within (f ∷ fs) e budget from k (inr (within, rest)) =
    let (low, high) = FirstOver-within fs e budget (from + 1) k rest in
    (omega arith, omega arith)

module _ {P : Type 0} (part : P) (at : ℕ) (item : Item) (budget : ℕ) where
  pub Ends-item : {s : SetOf} → IsSetOf item s → FirstOver (steps item.formula) (members item.sets) budget 1 None → Ends (plan.compute part at item) budget (s, at + length (steps item.formula))
  Ends-item {s} is within =
      Ends-compute (record { part = part; at = at; item = item }) (λ s. Give (s, at + length (steps item.formula))) budget is within (Ends-give budget _)

  pub Ends-make : {s : SetOf} → NoneEmpty (map item.sets (plan.positives item.formula)) → IsSetOf item s
      → FirstOver (steps item.formula) (members item.sets) budget 1 None → Ends (plan.make part at item) budget (s, at + length (steps item.formula))
  Ends-make none is within =
      Ends-ask_no (Empty (map item.sets (plan.positives item.formula))) (Give (Nothing, at)) (plan.compute part at item) budget _ none (Ends-item is within)

  pub Stops-item : (k : ℕ) → FirstOver (steps item.formula) (members item.sets) budget 1 (Some k) → Stops (plan.compute part at item) budget (record { part = part; at = at + k - 1 })
  Stops-item k over = Stops-compute_here (record { part = part; at = at; item = item }) (λ s. Give (s, at + length (steps item.formula))) budget k over

  pub Stops-make : (k : ℕ) → NoneEmpty (map item.sets (plan.positives item.formula))
      → FirstOver (steps item.formula) (members item.sets) budget 1 (Some k)
      → Stops (plan.make part at item) budget (record { part = part; at = at + k - 1 })
  Stops-make k none over =
      Stops-ask_no (Empty (map item.sets (plan.positives item.formula))) (Give (Nothing, at)) (plan.compute part at item) budget none (Stops-item k over)

  -- and the error says which, if memory did not run out
  pub not_made : (why : CompileError) → NoneEmpty (map item.sets (plan.positives item.formula)) → IsCompileError item.formula item.sets 0 budget why
      → IsPlanError (plan.make part at item) budget (stopped_at (record { part = part; at = at }) why)
  not_made (compile_error.Over step) none over = Stops-make step none over
  not_made compile_error.Memory none error = tt

  pub step-of : (why : CompileError) → length (steps item.formula) < 1000 → IsCompileError item.formula item.sets 0 budget why → IsStepOf 1000 why
  step-of (compile_error.Over step) few over =
      let (low, high) = FirstOver-within (steps item.formula) item.sets budget 1 step over in
      (low, omega arith)
  step-of compile_error.Memory few error = tt

  -- an item of one step
  pub Ends-one : {s : SetOf} (f : Tree)
      → steps item.formula ≡ f ∷ [] → IsSetOf item s → (Exceeds f (members item.sets) budget → ⊥)
      → Ends (plan.compute part at item) budget (s, at + 1)
  Ends-one {s} f one is none =
      let First : List Tree → Type 0 = λ fs. FirstOver fs (members item.sets) budget 1 None in
      let At : ℕ → Type 0 = λ n. Ends (plan.compute part at item) budget (s, at + n) in
      subst At (ap length one) (Ends-item is (subst First (sym one) (inr (none, refl))))

  pub Stops-one : (f : Tree) → steps item.formula ≡ f ∷ [] → Exceeds f (members item.sets) budget → Stops (plan.compute part at item) budget (record { part = part; at = at })
  Stops-one f one over =
      let First : List Tree → Type 0 = λ fs. FirstOver fs (members item.sets) budget 1 (Some 1) in
      let At : ℕ → Type 0 = λ n. Stops (plan.compute part at item) budget (record { part = part; at = n }) in
      let same : at + 1 - 1 ≡ at = omega arith in
      subst At same (Stops-item 1 (subst First (sym one) (inl (over, refl))))

module _ {P : Type 0} (tracks : List Var) (part : P) (budget : ℕ) where
  pub Ends-join : (s : SetOf) (next : plan.Made) {c : SetOf} → (IsEmpty next.0 → ⊥) → (IsEmpty s → ⊥) → IsSetOf (plan.either tracks s next.0) c
      → (Exceeds (Or (Among 0 tracks) (Among 1 tracks)) (members (plan.two s next.0)) budget → ⊥)
      → Ends (plan.join tracks part s next) budget (c, next.1 + 1)
  Ends-join s next some_next some_s is within =
      Ends-ask_no (Empty (next.0 ∷ [])) (Give (s, next.1)) (Ask (Empty (s ∷ [])) (Give next) (plan.compute part next.1 (plan.either tracks s next.0))) budget _ (some_next, tt)
      (Ends-ask_no (Empty (s ∷ [])) (Give next) (plan.compute part next.1 (plan.either tracks s next.0)) budget _ (some_s, tt)
      (Ends-one part next.1 (plan.either tracks s next.0) budget (Or (Among 0 tracks) (Among 1 tracks)) refl is within))

  pub Stops-join : (s : SetOf) (next : plan.Made) → (IsEmpty next.0 → ⊥) → (IsEmpty s → ⊥)
      → Exceeds (Or (Among 0 tracks) (Among 1 tracks)) (members (plan.two s next.0)) budget
      → Stops (plan.join tracks part s next) budget (record { part = part; at = next.1 })
  Stops-join s next some_next some_s over =
      Stops-ask_no (Empty (next.0 ∷ [])) (Give (s, next.1)) (Ask (Empty (s ∷ [])) (Give next) (plan.compute part next.1 (plan.either tracks s next.0))) budget (some_next, tt)
      (Stops-ask_no (Empty (s ∷ [])) (Give next) (plan.compute part next.1 (plan.either tracks s next.0)) budget (some_s, tt)
      (Stops-one part next.1 (plan.either tracks s next.0) budget (Or (Among 0 tracks) (Among 1 tracks)) refl over))

  -- nothing further is joined
  pub Ends-join_left : (s : SetOf) (next : plan.Made) → IsEmpty next.0 → Ends (plan.join tracks part s next) budget (s, next.1)
  Ends-join_left s next empty =
      Ends-ask_yes (Empty (next.0 ∷ [])) (Give (s, next.1)) (Ask (Empty (s ∷ [])) (Give next) (plan.compute part next.1 (plan.either tracks s next.0))) budget (inl empty) (Ends-give budget _)

  -- there was nothing so far
  pub Ends-join_right : (s : SetOf) (next : plan.Made) → (IsEmpty next.0 → ⊥) → IsEmpty s → Ends (plan.join tracks part s next) budget next
  Ends-join_right s next some empty =
      Ends-ask_no (Empty (next.0 ∷ [])) (Give (s, next.1)) (Ask (Empty (s ∷ [])) (Give next) (plan.compute part next.1 (plan.either tracks s next.0))) budget _ (some, tt)
      (Ends-ask_yes (Empty (s ∷ [])) (Give next) (plan.compute part next.1 (plan.either tracks s next.0)) budget (inl empty) (Ends-give budget _))

  -- one more item
  pub Ends-with_item : (so_far : plan.Made) (item : Item) (next more : plan.Made) → Ends (plan.make part so_far.1 item) budget next
      → Ends (plan.join tracks part so_far.0 next) budget more → Ends (plan.with_item tracks part item so_far) budget more
  Ends-with_item so_far item next more made joined = Ends-bind (plan.make part so_far.1 item) (plan.join tracks part so_far.0) budget next more made joined

  -- one set without another
  pub Ends-without : (s t c : SetOf) → (IsEmpty t → ⊥) → (IsEmpty s → ⊥) → IsSetOf (plan.difference tracks s t) c
      → (Exceeds (And (Among 0 tracks) (Not (Among 1 tracks))) (members (plan.two s t)) budget → ⊥) → Ends (plan.difference_set tracks part s t) budget c
  Ends-without s t c some_t some_s is within =
      Ends-bind (plan.without tracks part s t) (λ made. Give made.0) budget (c, 2) c
      (Ends-ask_no (Empty (t ∷ [])) (Give (s, 1)) (plan.make part 1 (plan.difference tracks s t)) budget _ (some_t, tt)
      (Ends-make part 1 (plan.difference tracks s t) budget (some_s, tt) is (inr (within, refl))))
      (Ends-give budget c)

  pub Stops-without : (s t : SetOf) → (IsEmpty t → ⊥) → (IsEmpty s → ⊥)
      → Exceeds (And (Among 0 tracks) (Not (Among 1 tracks))) (members (plan.two s t)) budget
      → Stops (plan.difference_set tracks part s t) budget (record { part = part; at = 1 })
  Stops-without s t some_t some_s over =
      Stops-bind (plan.without tracks part s t) (λ made. Give made.0) budget
      (Stops-ask_no (Empty (t ∷ [])) (Give (s, 1)) (plan.make part 1 (plan.difference tracks s t)) budget (some_t, tt)
      (Stops-make part 1 (plan.difference tracks s t) budget 1 (some_s, tt) (inl (over, refl))))

  -- there is nothing to leave out
  pub Ends-without_none : (s t : SetOf) → IsEmpty t → Ends (plan.difference_set tracks part s t) budget s
  Ends-without_none s t empty =
      Ends-bind (plan.without tracks part s t) (λ made. Give made.0) budget (s, 1) s
      (Ends-ask_yes (Empty (t ∷ [])) (Give (s, 1)) (plan.make part 1 (plan.difference tracks s t)) budget (inl empty) (Ends-give budget _))
      (Ends-give budget s)

  -- there is nothing of which something could be left
  pub Ends-without_all : (s t : SetOf) → (IsEmpty t → ⊥) → IsEmpty s → Ends (plan.difference_set tracks part s t) budget Nothing
  Ends-without_all s t some empty =
      Ends-bind (plan.without tracks part s t) (λ made. Give made.0) budget (Nothing, 1) Nothing
      (Ends-ask_no (Empty (t ∷ [])) (Give (s, 1)) (plan.make part 1 (plan.difference tracks s t)) budget _ (some, tt)
      (Ends-ask_yes (Empty (s ∷ [])) (Give (Nothing, 1)) (plan.compute part 1 (plan.difference tracks s t)) budget (inl empty) (Ends-give budget _)))
      (Ends-give budget Nothing)
