-- What is left of a program, where parts of it have come to their ends.
use Rattle.std.proofs.Common.{◌≡◌, ℕ, suc, ◌+◌, List, [], ◌∷◌, Some, None, Ok, Err, inl, inr, refl, sym, ap, subst}
use Rattle.std.specs.Prelude.{Result}
use Rattle.track_word.specs.declared.tracks.Var.{Var}
use Rattle.lin_formula.specs.SetOf.{IsEmpty, Nothing, SetOf}
use Rattle.lin_formula.specs.Tree.{Tree, Among, Ex}
use Rattle.rule_formula.specs.Seats.{var}
use Rattle.set_plan.specs.Outcome.{Ends}
use Rattle.set_plan.specs.Past.{Past}
use Rattle.set_plan.specs.Program.{Ask, Empty, Entry, Give, IsNo, IsSetOf, IsYes, Item, Question, Takes, bind}
use Rattle.set_plan.specs.Unite.{Made, compute, join, make, with_item}
use Rattle.set_plan.proofs.Askings.{Ends-asked}
use Rattle.set_plan.proofs.Composition.{Ends-ask_no, Ends-ask_yes, Ends-give, Error-bind, LeadsTo, LeadsTo-error, LeadsTo-later, Stops-ask_no, Stops-ask_yes, bind-assoc, none_some}
use Rattle.set_plan.proofs.Makes.{Ends-join_left, Ends-one, Ends-with_item}
use Rattle.set_plan.proofs.Takings.{Takes-give}
use Rattle.line_plan.specs.Plan.{Program, distances, shortened}
use Rattle.line_engine.specs.declared.errors.CrowdError.{CrowdError}
use Rattle.line_engine.specs.Answers.{Answers, IsErrorOf, as_plan_error}

-- what is answered of what is left is answered of the whole
pub leads_answers : {A R : Type 0} {left whole : Program A} {budget : ℕ} (view : R → A) (r : Result R CrowdError) → LeadsTo left whole budget
    → Answers left budget view r → Answers whole budget view r
leads_answers view (Ok r) leads h = leads.ends (view r) h
leads_answers view (Err e) leads h = LeadsTo-error leads (as_plan_error e) h

-- an error of the first of what is left is one of the whole
pub first_error : {A B : Type 0} (m : Program A) (f : A → Program B) {whole : Program B} {budget : ℕ} (e : CrowdError) → LeadsTo (bind m f) whole budget
    → IsErrorOf m budget e → IsErrorOf whole budget e
first_error m f {whole} {budget} e leads h = LeadsTo-error leads (as_plan_error e) (Error-bind m f budget (as_plan_error e) h)

-- where the last of what is left has come to its end, or an error, so has the whole
pub last_answers : {A B R : Type 0} (m : Program A) (g : A → B) {whole : Program B} {budget : ℕ} (view : R → A) (r : Result R CrowdError)
    → LeadsTo (bind m (λ a. Give (g a))) whole budget → Answers m budget view r → Answers whole budget (λ x. g (view x)) r
last_answers m g {whole} {budget} view (Ok r) leads h = (LeadsTo-later (λ a. Give (g a)) h leads).ends (g (view r)) (Ends-give budget (g (view r)))
last_answers m g view (Err e) leads h = first_error m (λ a. Give (g a)) e leads h

module _ {A : Type 0} (question : Question) (if_yes if_no : Program A) {whole : Program A} {budget : ℕ} where
  -- that way is left by which the answer leads
  pub leads_yes : IsYes question → LeadsTo (Ask question if_yes if_no) whole budget → LeadsTo if_yes whole budget
  leads_yes is leads = record {
    ends = λ v h. leads.ends v (Ends-ask_yes question if_yes if_no budget is h);
    stops = λ n h. leads.stops n (Stops-ask_yes question if_yes if_no budget is h);
  }

  pub leads_no : IsNo question → LeadsTo (Ask question if_yes if_no) whole budget → LeadsTo if_no whole budget
  leads_no is leads = record {
    ends = λ v h. leads.ends v (Ends-ask_no question if_yes if_no budget v is h);
    stops = λ n h. leads.stops n (Stops-ask_no question if_yes if_no budget is h);
  }

module _ {B : Type 0} (tracks : List Var) (item : Item) (so_far : Made) (f : Made → Program B) {whole : Program B} {budget : ℕ} (leads : LeadsTo (bind (with_item {P = Unit {0}} tracks tt item so_far) f) whole budget) where
  joined : Made → Program B
  joined next = bind (join {P = Unit {0}} tracks tt so_far.0 next) f

  apart : LeadsTo (bind (make {P = Unit {0}} tt so_far.1 item) joined) whole budget
  unfolding joined
  apart =
      subst (λ (m : Program B). LeadsTo m whole budget) (bind-assoc (make {P = Unit {0}} tt so_far.1 item) (join tracks tt so_far.0) f) leads

  -- the further set is not made
  pub item_error : (e : CrowdError) → IsErrorOf (make tt so_far.1 item) budget e → IsErrorOf whole budget e
  item_error e h = first_error (make tt so_far.1 item) joined e apart h

  -- it is made, and has yet to be joined
  pub item_made : (next : Made) → Ends (make {P = Unit {0}} tt so_far.1 item) budget next → LeadsTo (bind (join {P = Unit {0}} tracks tt so_far.0 next) f) whole budget
  unfolding joined
  item_made next ends = LeadsTo-later joined ends apart

-- of nothing nothing is joined
pub nothing_joined : (tracks : List Var) (n budget : ℕ) (so_far : Made) → Ends (with_item {P = Unit {0}} tracks tt (shortened n Nothing) so_far) budget so_far
nothing_joined tracks n budget so_far =
    Ends-with_item tracks tt budget so_far (shortened n Nothing) (Nothing, so_far.1) so_far
    (Ends-ask_yes (Empty (Nothing ∷ [])) (Give (Nothing, so_far.1)) (compute tt so_far.1 (shortened n Nothing)) budget (inl (λ tuple never. never)) (Ends-give budget (Nothing, so_far.1)))
    (Ends-join_left tracks tt budget so_far.0 (Nothing, so_far.1) (λ tuple never. never))

-- what is made of a set by one step is made so at any number
module _ (n at again budget : ℕ) (reached s : SetOf) (k : ℕ) where
  abbrev f : Tree
  f = Ex (var n) (Among 0 (distances (suc n)))

  taken : (xs : List (Entry (Unit {0}))) → Takes (compute {P = Unit {0}} tt at (shortened n reached)) xs (Some (s, k)) → Past xs budget None
      → Ends (compute {P = Unit {0}} tt again (shortened n reached)) budget (s, again + 1)
  taken xs (inl (e, o)) past = none_some o
  taken xs (inr (rest, t, e, is, gives)) past =
      let given : (s, k) ≡ (t, at + 1) = Takes-give (t, at + 1) (s, k) rest gives in
      let same : s ≡ t = ap (λ (m : Made). m.0) given in
      let all : Past (record { part = tt; at = at; item = shortened n reached } ∷ rest) budget None = subst (λ (l : List (Entry (Unit {0}))). Past l budget None) e past in
      Ends-one tt again (shortened n reached) budget f refl (subst (λ (x : SetOf). IsSetOf (shortened n reached) x) (sym same) is)
      (elim all [ inl (over, none) ↦ none_some (sym none) | inr (within, later) ↦ within ])

  pub made_again : ¬ IsEmpty reached → Ends (make {P = Unit {0}} tt at (shortened n reached)) budget (s, k)
      → Ends (make {P = Unit {0}} tt again (shortened n reached)) budget (s, again + 1)
  made_again some ends =
      elim (Ends-asked (Empty (reached ∷ [])) (Give (Nothing, at)) (compute {P = Unit {0}} tt at (shortened n reached)) budget ends) [
        | inl (lacks, given) ↦ elim lacks [ inl empty ↦ absurd (some empty) | inr never ↦ absurd never ]
        | inr (none, made) ↦
            Ends-ask_no (Empty (reached ∷ [])) (Give (Nothing, again)) (compute {P = Unit {0}} tt again (shortened n reached)) budget (s, again + 1) none
            (taken made.entries made.takes made.past)
      ]
