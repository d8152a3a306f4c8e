-- Programs over two lists one after the other, and narrowing of what is empty.
use Rattle.std.proofs.Common.{◌≡◌, ◌+◌, ◌<◌, ◌≤◌, ℕ, Bool, true, List, [], ◌∷◌, ◌++◌, get_or, length, map, Option, Some, None, Ok, Err, inl, refl, sym, ◌∙◌, subst, arith}
use Rattle.std.specs.Prelude.{IfOk, Result, is_some, not}
use Rattle.std.proofs.lemmas.List.{get_or_default}
use Rattle.std.proofs.lemmas.Result.{IfOk-weaker}
use Rattle.auto_core.specs.Automaton.{Automaton}
use Rattle.lin_formula.specs.SetOf.{Nothing, as_set}
use Rattle.lin_formula.specs.Tree.{Tree}
use Rattle.set_plan.specs.Outcome.{Ends, IsPlanError}
use Rattle.set_plan.specs.Program.{Empty, Give, Program, bind, each}
use Rattle.set_plan.specs.Unite.{Made, compute, positives}
use Rattle.set_plan.specs.declared.stop.PlanError.{PlanError}
use Rattle.set_plan.proofs.Composition.{Ends-ask_yes, Ends-bind, Ends-give, Error-bind, Error-later, LeadsTo, LeadsTo-error, LeadsTo-later, bind-assoc}
use Rattle.set_plan.proofs.Folds.{IsAfter, each_error, each_more}
use Rattle.line_plan.specs.Plan as plan
use Rattle.line_engine.specs.declared.errors.CrowdError.{CrowdError}
use Rattle.line_engine.specs.Answers.{Answers, as_plan_error}
use Rattle.line_engine.proofs.AnswerLemmas.{answers_later}

pub each-append : {P A X : Type 0} (xs ys : List X) (f : X → A → Program P A) (a : A) → each (xs ++ ys) f a ≡ bind (each xs f a) (each ys f)
each-append [] ys f a = refl
each-append (x ∷ xs) ys f a = (λ i. bind (f x a) (λ b. each-append xs ys f b i)) ∙ sym (bind-assoc (f x a) (each xs f) (each ys f))

module _ {P A X : Type 0} (xs ys : List X) (f : X → A → Program P A) (a : A) (budget : ℕ) where
  -- both come to their ends
  pub Ends-append : (b c : A) → Ends (each xs f a) budget b → Ends (each ys f b) budget c → Ends (each (xs ++ ys) f a) budget c
  Ends-append b c h k = subst (λ (m : Program P A). Ends m budget c) (sym (each-append xs ys f a)) (Ends-bind (each xs f a) (each ys f) budget b c h k)

  -- where the front has come to its end, an error of the rest is one of both
  pub later_error : (b : A) → Ends (each xs f a) budget b → (e : PlanError P) → IsPlanError (each ys f b) budget e → IsPlanError (each (xs ++ ys) f a) budget e
  later_error b ends e h = subst (λ (m : Program P A). IsPlanError m budget e) (sym (each-append xs ys f a)) (Error-later (each ys f) budget b ends e h)

  module _ {whole : Program P A} (leads : LeadsTo (each (xs ++ ys) f a) whole budget) where
    parted : LeadsTo (bind (each xs f a) (each ys f)) whole budget
    parted = subst (λ (m : Program P A). LeadsTo m whole budget) (each-append xs ys f a) leads

    -- where the front has come to its end, the rest is left
    pub front_more : (b : A) → Ends (each xs f a) budget b → LeadsTo (each ys f b) whole budget
    front_more b ends = LeadsTo-later (each ys f) ends parted

    -- an error of the front is one of the whole
    pub front_error : (e : PlanError P) → IsPlanError (each xs f a) budget e → IsPlanError whole budget e
    front_error e error = LeadsTo-error parted e (Error-bind (each xs f a) (each ys f) budget e error)

-- of a list of one
pub Ends-each_one : {P A X : Type 0} (x : X) (f : X → A → Program P A) (a b : A) (budget : ℕ) → Ends (f x a) budget b → Ends (each (x ∷ []) f a) budget b
Ends-each_one x f a b budget h = Ends-bind (f x a) (each [] f) budget b b h (Ends-give budget b)

-- nothing is left of nothing
pub narrow_nothing : (n at budget : ℕ) (part : Tree) → Ends (plan.narrow n part (Nothing, at)) budget (Nothing, at)
narrow_nothing n at budget part =
    let item = plan.narrowed n part Nothing in
    Ends-ask_yes (Empty (map item.sets (positives item.formula))) (Give (Nothing, at)) (compute tt at item) budget (inl (λ tuple never. never)) (Ends-give budget (Nothing, at))

pub each_nothing : {X : Type 0} (xs : List X) (part : X → Tree) (n at budget : ℕ) → Ends (each xs (λ x. plan.narrow n (part x)) (Nothing, at)) budget (Nothing, at)
each_nothing [] part n at budget = Ends-give budget (Nothing, at)
each_nothing (x ∷ xs) part n at budget =
    Ends-bind (plan.narrow n (part x) (Nothing, at)) (each xs (λ y. plan.narrow n (part y))) budget (Nothing, at) (Nothing, at)
    (narrow_nothing n at budget (part x)) (each_nothing xs part n at budget)

-- the number of the next step after a last call
pub room_more : {T E : Type 0} (r : Result T E) (x y z : ℕ) → IfOk r (λ _. x ≤ y) → y ≤ z → IfOk r (λ _. x ≤ z)
room_more r x y z h less = IfOk-weaker r (λ _. x ≤ y) (λ _. x ≤ z) (λ _ low. omega (arith, low, less)) h

-- where there is none
pub none_if : (set : Option Automaton) (b : Bool) → is_some set ≡ not b → b ≡ true → set ≡ None
none_if None b is on = refl
none_if (Some a) b is on = absurd (cc)

pub narrow_none : (n at budget : ℕ) (part : Tree) (set : Option Automaton) → set ≡ None → Ends (plan.narrow n part (as_set set, at)) budget (Nothing, at)
narrow_none n at budget part set none =
    subst (λ (o : Option Automaton). Ends (plan.narrow n part (as_set o, at)) budget (Nothing, at)) (sym none) (narrow_nothing n at budget part)

pub nothing_left : {X : Type 0} (xs : List X) (part : X → Tree) (n at budget : ℕ) (set : Option Automaton) → set ≡ None
    → Ends (each xs (λ x. plan.narrow n (part x)) (as_set set, at)) budget (Nothing, at)
nothing_left xs part n at budget set none =
    subst (λ (o : Option Automaton). Ends (each xs (λ x. plan.narrow n (part x)) (as_set o, at)) budget (Nothing, at)) (sym none) (each_nothing xs part n at budget)

-- of a list of one, and of two
pub answers_one : {R : Type 0} (n budget : ℕ) (part : Tree) (first : Made) (view : R → Made) (r : Result R CrowdError) → Answers (plan.narrow n part first) budget view r
    → Answers (each (part ∷ []) (plan.narrow n) first) budget view r
answers_one n budget part first view (Ok r) h = Ends-each_one part (plan.narrow n) first (view r) budget h
answers_one n budget part first view (Err e) h = Error-bind (plan.narrow n part first) (each [] (plan.narrow n)) budget (as_plan_error e) h

pub answers_two : {R : Type 0} (n budget : ℕ) (part other : Tree) (first next : Made) (view : R → Made) (r : Result R CrowdError) → Ends (plan.narrow n part first) budget next
    → Answers (plan.narrow n other next) budget view r → Answers (each (part ∷ other ∷ []) (plan.narrow n) first) budget view r
answers_two n budget part other first next view r ends h =
    answers_later (plan.narrow n part first) (each (other ∷ []) (plan.narrow n)) budget view next ends r (answers_one n budget other next view r h)

-- the element of a list at a place
module _ {P A X : Type 0} (xs : List X) (f : X → A → Program P A) (first : A) (budget done : ℕ) (d : X) (a : A) (leads : IsAfter xs f first budget done a) (less : done < length xs) where
  pub each_more_at : (b : A) → Ends (f (get_or xs done d) a) budget b → IsAfter xs f first budget (done + 1) b
  each_more_at b ends = each_more xs f first budget done (get_or xs done d) a leads less (get_or_default xs done d (get_or xs done d) less) b ends

  pub each_error_at : (e : PlanError P) → IsPlanError (f (get_or xs done d) a) budget e → IsPlanError (each xs f first) budget e
  each_error_at e error = each_error xs f first budget done (get_or xs done d) a leads less (get_or_default xs done d (get_or xs done d) less) e error
