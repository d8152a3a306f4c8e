-- Questions whose answers take steps, one item after the other.
use Rattle.std.proofs.Common.{◌⊎◌, ℕ, List, [], ◌∷◌, map, Some, None, Result, Ok, Err, Bool, false, inl, inr, subst}
use Rattle.lin_formula.specs.SetOf.{IsEmpty, Nothing}
use Rattle.set_plan.specs.Past.{Past}
use Rattle.set_plan.specs.Program.{Entry, Item, Program, Give, Ask, Question, Empty, IsYes, IsNo, Takes}
use Rattle.set_plan.specs.Outcome.{Answers, Ends, IsPlanError, Stops}
use Rattle.set_plan.specs.Same.{IsLacking, Thinned}
use Rattle.set_plan.specs.Unite as plan
use Rattle.set_plan.specs.declared.stop.PlanError.{PlanError}
use Rattle.set_plan.specs.declared.stop.PlanError.TheVariants as plan_error
use Rattle.set_plan.specs.declared.stop.PartStep.{PartStep}
use Rattle.set_plan.proofs.Composition.{Ends-ask_no, Ends-ask_yes, Ends-bind, Ends-give, Ends-split, Error-bind, LeadsTo, LeadsTo-error, LeadsTo-later, Stops-ask_no, Stops-ask_yes, Stops-bind, Stops-bind_later, Stops-split, none_some}
use Rattle.set_plan.proofs.Thinned.{Ends-make_same, Stops-make_same}

module _ {P A : Type 0} (question : Question) (if_yes if_no whole : Program P A) (budget : ℕ) where
  -- where the answer is yes, that way is left
  LeadsTo-yes : IsYes question → LeadsTo (Ask question if_yes if_no) whole budget → LeadsTo if_yes whole budget
  LeadsTo-yes is leads = record {
    ends = λ v h. leads.ends v (Ends-ask_yes question if_yes if_no budget is h);
    stops = λ n h. leads.stops n (Stops-ask_yes question if_yes if_no budget is h);
  }

module _ {P : Type 0} (part : P) (budget at : ℕ) (item : Item) (items : List Item) (whole : Program P Bool) where
  abbrev next : plan.Made → Program P Bool
  next made = Ask (Empty (made.0 ∷ [])) (plan.are_empty part made.1 items) (Give false)

  -- the next set is empty
  pub LeadsTo-empty : (made : plan.Made) → LeadsTo (plan.are_empty part at (item ∷ items)) whole budget → Ends (plan.make part at item) budget made
      → IsEmpty made.0 → LeadsTo (plan.are_empty part made.1 items) whole budget
  LeadsTo-empty made leads ends empty =
      LeadsTo-yes (Empty (made.0 ∷ [])) (plan.are_empty part made.1 items) (Give false) whole budget (inl empty)
      (LeadsTo-later next ends leads)

  -- the next set is not empty
  pub Ends-some : {made : plan.Made}
      → LeadsTo (plan.are_empty part at (item ∷ items)) whole budget → Ends (plan.make part at item) budget made
      → (IsEmpty made.0 → ⊥) → Ends whole budget false
  Ends-some {made} leads ends some =
      leads.ends false (Ends-bind (plan.make part at item) next budget made false ends
      (Ends-ask_no (Empty (made.0 ∷ [])) (plan.are_empty part made.1 items) (Give false) budget false (some, tt) (Ends-give budget false)))

  -- it is not made
  pub LeadsTo-not_made : (e : PlanError P) → LeadsTo (plan.are_empty part at (item ∷ items)) whole budget → IsPlanError (plan.make part at item) budget e → IsPlanError whole budget e
  LeadsTo-not_made e leads h =
      LeadsTo-error leads e (Error-bind (plan.make part at item) next budget e h)

-- how a question was answered
module _ {P A : Type 0} (question : Question) (if_yes if_no : Program P A) (budget : ℕ) where
  pub Ends-asked : {a : A} → Ends (Ask question if_yes if_no) budget a → (IsYes question × Ends if_yes budget a) ⊎ (IsNo question × Ends if_no budget a)
  Ends-asked {a} h = by h.takes
    where
      by : Takes (Ask question if_yes if_no) h.entries (Some a) → (IsYes question × Ends if_yes budget a) ⊎ (IsNo question × Ends if_no budget a)
      by (inl (e, o)) = none_some o
      by (inr (inl (is, t))) = inl (is, record { entries = h.entries; takes = t; past = h.past })
      by (inr (inr (is, t))) = inr (is, record { entries = h.entries; takes = t; past = h.past })

  pub Stops-asked : {name : PartStep P} → Stops (Ask question if_yes if_no) budget name → (IsYes question × Stops if_yes budget name) ⊎ (IsNo question × Stops if_no budget name)
  Stops-asked {name} h = by h.takes
    where
      by : Takes (Ask question if_yes if_no) h.entries None → (IsYes question × Stops if_yes budget name) ⊎ (IsNo question × Stops if_no budget name)
      by (inl (e, o)) = none_some (subst (λ (l : List (Entry P)). Past l budget (Some name)) e h.past)
      by (inr (inl (is, t))) = inl (is, record { entries = h.entries; takes = t; past = h.past })
      by (inr (inr (is, t))) = inr (is, record { entries = h.entries; takes = t; past = h.past })

-- items that are left out change nothing, nor do other numbers of the sets
module _ {P : Type 0} (part : P) (budget : ℕ) where
  abbrev after : List Item → plan.Made → Program P Bool
  after items made = Ask (Empty (made.0 ∷ [])) (plan.are_empty part made.1 items) (Give false)

  abbrev nothing_at : ℕ → plan.Made
  nothing_at at = (Nothing, at)

  left_out : (at : ℕ) (j : Item) → IsLacking j → Ends (plan.make part at j) budget (Nothing, at)
  left_out at j lacks =
      Ends-ask_yes (Empty (map j.sets (plan.positives j.formula))) (Give (Nothing, at)) (plan.compute part at j) budget lacks (Ends-give budget (Nothing, at))

  pub Ends-thinned_empty : (is js : List Item) (at : ℕ) (b : Bool) → Thinned is js → Ends (plan.are_empty part at is) budget b → Ends (plan.are_empty part at js) budget b
  Ends-thinned_empty is [] at b e h = subst (λ (l : List Item). Ends (plan.are_empty part at l) budget b) e h
  Ends-thinned_empty is (j ∷ js) at b (inl (lacks, rest)) h =
      Ends-bind (plan.make part at j) (after js) budget (Nothing, at) b (left_out at j lacks)
      (Ends-ask_yes (Empty (Nothing ∷ [])) (plan.are_empty part at js) (Give false) budget (inl (λ tuple never. never)) (Ends-thinned_empty is js at b rest h))
  Ends-thinned_empty is (j ∷ js) at b (inr (i, rest, e, same, thin)) h =
      let all : Ends (plan.are_empty part at (i ∷ rest)) budget b = subst (λ (l : List Item). Ends (plan.are_empty part at l) budget b) e h in
      let (made, first, left) = Ends-split (plan.make part at i) (after rest) all in
      Ends-bind (plan.make part at j) (after js) budget made b (Ends-make_same part budget at i j made same first)
      (elim (Ends-asked (Empty (made.0 ∷ [])) (plan.are_empty part made.1 rest) (Give false) budget left) [
        | inl (is_yes, more) ↦ Ends-ask_yes (Empty (made.0 ∷ [])) (plan.are_empty part made.1 js) (Give false) budget is_yes (Ends-thinned_empty rest js made.1 b thin more)
        | inr (is_no, given) ↦ Ends-ask_no (Empty (made.0 ∷ [])) (plan.are_empty part made.1 js) (Give false) budget b is_no given
      ])

  pub Stops-thinned_empty : (is js : List Item) (at : ℕ) (name : PartStep P) → Thinned is js → Stops (plan.are_empty part at is) budget name → Stops (plan.are_empty part at js) budget name
  Stops-thinned_empty is [] at name e h = subst (λ (l : List Item). Stops (plan.are_empty part at l) budget name) e h
  Stops-thinned_empty is (j ∷ js) at name (inl (lacks, rest)) h =
      Stops-bind_later (plan.make part at j) (after js) budget {name = name} (left_out at j lacks)
      (Stops-ask_yes (Empty (Nothing ∷ [])) (plan.are_empty part at js) (Give false) budget (inl (λ tuple never. never)) (Stops-thinned_empty is js at name rest h))
  Stops-thinned_empty is (j ∷ js) at name (inr (i, rest, e, same, thin)) h =
      let all : Stops (plan.are_empty part at (i ∷ rest)) budget name = subst (λ (l : List Item). Stops (plan.are_empty part at l) budget name) e h in
      elim (Stops-split (plan.make part at i) (after rest) all) [
        | inl here ↦ Stops-bind (plan.make part at j) (after js) budget (Stops-make_same part budget at i j name same here)
        | inr (made, first, left) ↦
            Stops-bind_later (plan.make part at j) (after js) budget {name = name} (Ends-make_same part budget at i j made same first)
            (elim (Stops-asked (Empty (made.0 ∷ [])) (plan.are_empty part made.1 rest) (Give false) budget left) [
              | inl (is_yes, more) ↦ Stops-ask_yes (Empty (made.0 ∷ [])) (plan.are_empty part made.1 js) (Give false) budget is_yes (Stops-thinned_empty rest js made.1 name thin more)
              | inr (is_no, given) ↦ Stops-ask_no (Empty (made.0 ∷ [])) (plan.are_empty part made.1 js) (Give false) budget is_no given
            ])
      ]

  pub Answers-thinned_empty : (is js : List Item) (at : ℕ) → Thinned is js → (r : Result Bool (PlanError P))
      → Answers (plan.are_empty part at is) budget (λ (b : Bool). b) r → Answers (plan.are_empty part at js) budget (λ (b : Bool). b) r
  Answers-thinned_empty is js at thin (Ok b) h = Ends-thinned_empty is js at b thin h
  Answers-thinned_empty is js at thin (Err (plan_error.Over name)) h = Stops-thinned_empty is js at name thin h
  Answers-thinned_empty is js at thin (Err plan_error.Memory) h = tt
