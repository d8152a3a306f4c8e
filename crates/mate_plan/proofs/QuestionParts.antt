-- The parts of the question whether replies are there.
use Rattle.std.proofs.Common.{◌≡◌, ℕ, Bool, true, [], ◌∷◌, Result, Ok, Err, inl, subst}
use Rattle.game_rules.specs.declared.men.Side.{Side}
use Rattle.lin_formula.specs.SetOf.{IsEmpty, SetOf}
use Rattle.set_plan.specs.Outcome.{Answers, Ends, IsPlanError}
use Rattle.set_plan.specs.Program.{Empty, Give}
use Rattle.set_plan.specs.declared.stop.PlanError.{PlanError}
use Rattle.set_plan.specs.declared.stop.PlanError.TheVariants as plan_error
use Rattle.set_plan.proofs.Composition.{Answers-later, Ends-ask_no, Ends-ask_yes, Ends-give, Error-bind, Stops-ask_no}
use Rattle.mate_plan.specs.Plan.{Level, Program, Rules}
use Rattle.mate_plan.specs.Questions.{have_moves, have_replies, quiet_set, some_have_replies}
use Rattle.mate_plan.specs.declared.names.Part.TheVariants as kind
use Rattle.mate_plan.specs.declared.names.PartName.{PartName}

module _ (rules : Rules) (side : Side) (ply mask budget : ℕ) (from into : Level) where
  abbrev reply_part : SetOf → Program Bool
  reply_part quiet = have_moves rules side ply mask kind.Reply kind.Stale quiet into

  pub none_asked : IsEmpty (from mask) → Ends (have_replies rules side ply from into mask) budget true
  none_asked empty = Ends-ask_yes (Empty (from mask ∷ [])) (Give true) (some_have_replies rules side ply mask (from mask) into) budget (inl empty) (Ends-give budget true)

  asked_answers : ¬ IsEmpty (from mask) → (r : Result Bool (PlanError PartName))
      → Answers (some_have_replies rules side ply mask (from mask) into) budget (λ (b : Bool). b) r
      → Answers (have_replies rules side ply from into mask) budget (λ (b : Bool). b) r
  asked_answers some (Ok b) h = Ends-ask_no (Empty (from mask ∷ [])) (Give true) (some_have_replies rules side ply mask (from mask) into) budget b (some, tt) h
  asked_answers some (Err (plan_error.Over name)) h = Stops-ask_no (Empty (from mask ∷ [])) (Give true) (some_have_replies rules side ply mask (from mask) into) budget (some, tt) h
  asked_answers some (Err plan_error.Memory) h = tt

  module _ (s : SetOf) (is : s ≡ from mask) (some : ¬ IsEmpty s) where
    pub quiet_error : (e : PlanError PartName) → IsPlanError (quiet_set rules side ply mask s) budget e → IsPlanError (have_replies rules side ply from into mask) budget e
    quiet_error e h =
        let Of : SetOf → Type 0 = λ t. IsPlanError (some_have_replies rules side ply mask t into) budget e in
        let Filled : SetOf → Type 0 = λ t. ¬ IsEmpty t in
        asked_answers (subst Filled is some) (Err e) (subst Of is (Error-bind (quiet_set rules side ply mask s) reply_part budget e h))

    pub reply_answers : (quiet : SetOf) (r : Result Bool (PlanError PartName)) → Ends (quiet_set rules side ply mask s) budget quiet
        → Answers (reply_part quiet) budget (λ (b : Bool). b) r → Answers (have_replies rules side ply from into mask) budget (λ (b : Bool). b) r
    reply_answers quiet r first h =
        let Of : SetOf → Type 0 = λ t. Answers (some_have_replies rules side ply mask t into) budget (λ (b : Bool). b) r in
        let Filled : SetOf → Type 0 = λ t. ¬ IsEmpty t in
        asked_answers (subst Filled is some) r (subst Of is (Answers-later (quiet_set rules side ply mask s) reply_part budget (λ (b : Bool). b) quiet first r h))
