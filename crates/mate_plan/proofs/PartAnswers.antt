-- What is answered for the formulas over the sets of names is answered for the items of the plan.
use Rattle.std.proofs.Common.{ℕ, List, Result, Ok, Err, inl, inr}
use Rattle.track_word.specs.declared.tracks.Var.{Var}
use Rattle.lin_formula.specs.SetOf.{SetOf, Nothing}
use Rattle.set_plan.specs.Outcome.{Answers, Ends, IsPlanError, Stops}
use Rattle.set_plan.specs.Program.{Item, Give}
use Rattle.set_plan.specs.Same.{SameItem, Thinned}
use Rattle.set_plan.specs.Unite.{Made, make, union, unite}
use Rattle.set_plan.specs.declared.stop.PlanError.{PlanError}
use Rattle.set_plan.specs.declared.stop.PlanError.TheVariants as plan_error
use Rattle.set_plan.specs.declared.stop.PartStep.{PartStep}
use Rattle.set_plan.proofs.Composition.{Ends-bind, Ends-split, Stops-bind, Stops-bind_later, Stops-split}
use Rattle.set_plan.proofs.Thinned.{Ends-make_same, Ends-thinned, Stops-make_same, Stops-thinned}

module _ {P : Type 0} (part : P) (budget : ℕ) where
  module _ (tracks : List Var) (is js : List Item) (thin : Thinned is js) where
    Ends-union : {s : SetOf} → Ends (union tracks part is) budget s → Ends (union tracks part js) budget s
    Ends-union {s} h =
        let (made, first, last) = Ends-split (unite tracks part (Nothing, 1) is) (λ made. Give made.0) h in
        Ends-bind (unite tracks part (Nothing, 1) js) (λ made. Give made.0) budget made s (Ends-thinned part budget tracks is js (Nothing, 1) made thin first) last

    Stops-union : {name : PartStep P} → Stops (union tracks part is) budget name → Stops (union tracks part js) budget name
    Stops-union {name} h =
        elim (Stops-split (unite tracks part (Nothing, 1) is) (λ made. Give made.0) h) [
          | inl here ↦ Stops-bind (unite tracks part (Nothing, 1) js) (λ made. Give made.0) budget (Stops-thinned part budget tracks is js (Nothing, 1) name thin here)
          | inr (made, first, last) ↦
              Stops-bind_later (unite tracks part (Nothing, 1) js) (λ made. Give made.0) budget (Ends-thinned part budget tracks is js (Nothing, 1) made thin first) last
        ]

    pub Error-union : (e : PlanError P) → IsPlanError (union tracks part is) budget e → IsPlanError (union tracks part js) budget e
    Error-union (plan_error.Over name) h = Stops-union h
    Error-union plan_error.Memory h = tt

    -- a union of items of which some are left out
    pub Answers-union : {R : Type 0} (view : R → SetOf) (r : Result R (PlanError P)) → Answers (union tracks part is) budget view r → Answers (union tracks part js) budget view r
    Answers-union view (Ok r) h = Ends-union h
    Answers-union view (Err e) h = Error-union e h

  module _ (at : ℕ) (i j : Item) (same : SameItem i j) where
    pub Error-make : (e : PlanError P) → IsPlanError (make part at i) budget e → IsPlanError (make part at j) budget e
    Error-make (plan_error.Over name) h = Stops-make_same part budget at i j name same h
    Error-make plan_error.Memory h = tt

    -- one item
    pub Answers-make : {R : Type 0} (view : R → Made) (r : Result R (PlanError P)) → Answers (make part at i) budget view r → Answers (make part at j) budget view r
    Answers-make view (Ok r) h = Ends-make_same part budget at i j (view r) same h
    Answers-make view (Err e) h = Error-make e h
