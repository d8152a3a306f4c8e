-- What is answered of programs.
use Rattle.std.proofs.Common.{ℕ, List, [], ◌∷◌, map, Ok, Err, inl, inr}
use Rattle.std.specs.Prelude.{Result}
use Rattle.track_word.specs.declared.tracks.Var.{Var}
use Rattle.lin_formula.specs.SetOf.{IsEmpty, Nothing, SetOf}
use Rattle.set_plan.specs.Outcome.{Ends, Stops}
use Rattle.set_plan.specs.Program.{Ask, Empty, Give, IsNo, IsYes, Item, Question, bind}
use Rattle.set_plan.specs.Same.{IsLacking, SameItem}
use Rattle.set_plan.specs.Unite.{Made, compute, either, join, make, positives}
use Rattle.set_plan.specs.declared.stop.PartStep.{PartStep}
use Rattle.set_plan.proofs.Composition.{Ends-ask_no, Ends-ask_yes, Ends-bind, Ends-give, Error-later, Stops-ask_no, Takes-none, none_some}
use Rattle.set_plan.proofs.Thinned.{Ends-make_same, Stops-make_same}
use Rattle.line_plan.specs.Plan.{Program}
use Rattle.line_engine.specs.declared.errors.CrowdError.{CrowdError}
use Rattle.line_engine.specs.declared.errors.CrowdError.TheVariants.{Over, Memory}
use Rattle.line_engine.specs.Answers.{Answers, as_plan_error}

-- of an item and of another that comes to the same
pub answers_same : {R : Type 0} (at budget : ℕ) (i j : Item) (view : R → Made) (r : Result R CrowdError) → SameItem i j → Answers (make tt at i) budget view r
    → Answers (make tt at j) budget view r
answers_same at budget i j view (Ok x) same h = Ends-make_same tt budget at i j (view x) same h
answers_same at budget i j view (Err (Over step)) same h = Stops-make_same tt budget at i j (record { part = tt; at = step }) same h
answers_same at budget i j view (Err Memory) same h = tt

-- where the first program has come to its end, what the second answers is answered
pub answers_later : {A B R : Type 0} (m : Program A) (f : A → Program B) (budget : ℕ) (view : R → B) (a : A) → Ends m budget a → (r : Result R CrowdError)
    → Answers (f a) budget view r
    → Answers (bind m f) budget view r
answers_later m f budget view a ends (Ok r) h = Ends-bind m f budget a (view r) ends h
answers_later m f budget view a ends (Err e) h = Error-later f budget a ends (as_plan_error e) h

module _ {A R : Type 0} (question : Question) (if_yes if_no : Program A) (budget : ℕ) (view : R → A) where
  pub answers_no : (r : Result R CrowdError) → IsNo question → Answers if_no budget view r → Answers (Ask question if_yes if_no) budget view r
  answers_no (Ok x) is h = Ends-ask_no question if_yes if_no budget (view x) is h
  answers_no (Err (Over step)) is h = Stops-ask_no question if_yes if_no budget is h
  answers_no (Err Memory) is h = tt

  ends_unasked : (a : A) → ¬ IsYes question → Ends (Ask question if_yes if_no) budget a → Ends if_no budget a
  ends_unasked a never h =
      elim h.takes [
        | inl (e, o) ↦ none_some o
        | inr (inl (is, t)) ↦ absurd (never is)
        | inr (inr (is, t)) ↦ record { entries = h.entries; takes = t; past = h.past }
      ]

  stops_unasked : (name : PartStep (Unit {0})) → ¬ IsYes question → Stops (Ask question if_yes if_no) budget name → Stops if_no budget name
  stops_unasked name never h =
      elim h.takes [
        | inl (e, o) ↦ record { entries = h.entries; takes = rw e (Takes-none if_no); past = h.past }
        | inr (inl (is, t)) ↦ absurd (never is)
        | inr (inr (is, t)) ↦ record { entries = h.entries; takes = t; past = h.past }
      ]

  -- a question whose answer is not yes
  pub answers_unasked : (r : Result R CrowdError) → ¬ IsYes question → Answers (Ask question if_yes if_no) budget view r → Answers if_no budget view r
  answers_unasked (Ok x) never h = ends_unasked (view x) never h
  answers_unasked (Err (Over step)) never h = stops_unasked (record { part = tt; at = step }) never h
  answers_unasked (Err Memory) never h = tt

-- an item that lacks a set comes to nothing
pub ends_lacking : (at budget : ℕ) (item : Item) → IsLacking item → Ends (make {P = Unit {0}} tt at item) budget (Nothing, at)
ends_lacking at budget item lacks =
    Ends-ask_yes (Empty (map item.sets (positives item.formula))) (Give (Nothing, at)) (compute tt at item) budget lacks (Ends-give budget _)

-- two sets that are made one
pub answers_joined : {R : Type 0} (tracks : List Var) (at budget : ℕ) (s t : SetOf) (view : R → Made) (r : Result R CrowdError) → ¬ IsEmpty s → ¬ IsEmpty t
    → Answers (make tt at (either tracks s t)) budget view r
    → Answers (join tracks tt s (t, at)) budget view r
answers_joined tracks at budget s t view r some_s some_t h =
    let made : Program Made = compute tt at (either tracks s t) in
    answers_no (Empty (t ∷ [])) (Give (s, at)) (Ask (Empty (s ∷ [])) (Give (t, at)) made) budget view r (some_t, tt)
    (answers_no (Empty (s ∷ [])) (Give (t, at)) made budget view r (some_s, tt)
    (answers_unasked (Empty []) (Give (Nothing, at)) made budget view r (λ never. never) h))
