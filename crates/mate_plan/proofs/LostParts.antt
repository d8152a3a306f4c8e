-- The parts of a loser's ply, two and two.
use Rattle.std.proofs.Common.{◌≡◌, ℕ, List, [], ◌∷◌, Option, Some, None, Result, Ok, Err, inl, option_copied, ap, ◌∙◌, sym, subst}
use Rattle.std.specs.Borrow.{Bor}
use Rattle.std.specs.Prelude.{IfSome}
use Rattle.track_word.specs.declared.tracks.Var.{Var}
use Rattle.auto_core.specs.Automaton.{Automaton}
use Rattle.game_rules.specs.Game.{Position, other}
use Rattle.game_rules.specs.declared.men.Side.{Side}
use Rattle.lin_formula.specs.SetOf.{IsEmpty, Nothing, SetOf, as_set}
use Rattle.lin_formula.specs.declared.formula.SetId.{SetId}
use Rattle.rule_formula.specs.Fits.{masks_of}
use Rattle.rule_formula.specs.Mean.{mask_tracks}
use Rattle.set_plan.specs.Outcome.{Answers, Ends, IsPlanError}
use Rattle.set_plan.specs.Program.{Empty, Give, bind}
use Rattle.set_plan.specs.Sets.{Grows, IsSetOn, lent}
use Rattle.set_plan.specs.Unite.{union_of_two}
use Rattle.set_plan.specs.declared.stop.PlanError.{PlanError}
use Rattle.set_plan.specs.declared.stop.PlanError.TheVariants as plan_error
use Rattle.set_plan.proofs.Composition.{Answers-later, Ends-ask_no, Ends-ask_yes, Ends-give, Error-bind, Error-later, Stops-ask_no, bind-assoc}
use Rattle.mate_plan.specs.Levels.{AreNames, level_of}
use Rattle.mate_plan.specs.Plan.{Level, Program, Rules, bear_items, difference, lost_set, lost_set_if, name, pre_items, union}
use Rattle.mate_plan.specs.PlanOf.{rules_of}
use Rattle.mate_plan.specs.declared.names.Part.TheVariants as kind
use Rattle.mate_plan.specs.declared.names.PartName.{PartName}
use Rattle.mate_plan.proofs.LevelLemmas.{level-grows}

module _ (rules : Rules) (side : Side) (ply mask : ℕ) (reach : SetOf) (reach1 rests : Level) where
  abbrev pub calm_part : Program SetOf
  calm_part = bind (union rules ply mask kind.Escape (pre_items rules side mask reach rests)) (difference rules ply mask kind.Calm reach)

  abbrev pub check_part : SetOf → Program SetOf
  check_part calm = union rules ply mask kind.Check (bear_items rules (other side) mask calm)

  abbrev pub reply_part : SetOf → SetOf → Program SetOf
  reply_part calm check = bind (difference rules ply mask kind.Quiet calm check) (λ quiet. union rules ply mask kind.Reply (pre_items rules side mask quiet reach1))

  abbrev pub last_part : SetOf → SetOf → Program SetOf
  last_part check reply = union_of_two (rules.tracks mask) (name ply mask kind.Lost) check reply

  abbrev pub after_calm : SetOf → Program SetOf
  after_calm calm = bind (check_part calm) (λ check. bind (reply_part calm check) (last_part check))

  pub lost_parts : bind calm_part after_calm ≡ lost_set rules side ply mask reach reach1 rests
  lost_parts =
      (λ i. bind calm_part (λ calm. bind (check_part calm) (λ check.
      bind-assoc (difference rules ply mask kind.Quiet calm check) (λ quiet. union rules ply mask kind.Reply (pre_items rules side mask quiet reach1)) (last_part check) i)))
      ∙ bind-assoc (union rules ply mask kind.Escape (pre_items rules side mask reach rests)) (difference rules ply mask kind.Calm reach)
      (λ calm. bind (check_part calm)
      (λ check. bind (difference rules ply mask kind.Quiet calm check)
      (λ quiet. bind (union rules ply mask kind.Reply (pre_items rules side mask quiet reach1)) (last_part check))))

  module _ (budget : ℕ) where
    pub calm_error : (e : PlanError PartName) → IsPlanError calm_part budget e → IsPlanError (lost_set rules side ply mask reach reach1 rests) budget e
    calm_error e h =
        let Is : Program SetOf → Type 0 = λ m. IsPlanError m budget e in
        subst Is lost_parts (Error-bind calm_part after_calm budget e h)

    pub check_error : (calm : SetOf) (e : PlanError PartName) → Ends calm_part budget calm → IsPlanError (check_part calm) budget e
        → IsPlanError (lost_set rules side ply mask reach reach1 rests) budget e
    check_error calm e first h =
        let Is : Program SetOf → Type 0 = λ m. IsPlanError m budget e in
        subst Is lost_parts
        (Error-later after_calm budget calm first e (Error-bind (check_part calm) (λ check. bind (reply_part calm check) (last_part check)) budget e h))

    pub reply_error : (calm check : SetOf) (e : PlanError PartName) → Ends calm_part budget calm → Ends (check_part calm) budget check
        → IsPlanError (reply_part calm check) budget e → IsPlanError (lost_set rules side ply mask reach reach1 rests) budget e
    reply_error calm check e first second h =
        let Is : Program SetOf → Type 0 = λ m. IsPlanError m budget e in
        subst Is lost_parts
        (Error-later after_calm budget calm first e
        (Error-later (λ check. bind (reply_part calm check) (last_part check)) budget check second e (Error-bind (reply_part calm check) (last_part check) budget e h)))

    pub last_answers : {R : Type 0} (view : R → SetOf) (calm check reply : SetOf) (r : Result R (PlanError PartName)) → Ends calm_part budget calm
        → Ends (check_part calm) budget check → Ends (reply_part calm check) budget reply → Answers (last_part check reply) budget view r
        → Answers (lost_set rules side ply mask reach reach1 rests) budget view r
    last_answers view calm check reply r first second third h =
        let Is : Program SetOf → Type 0 = λ m. Answers m budget view r in
        subst Is lost_parts
        (Answers-later calm_part after_calm budget view calm first r
        (Answers-later (check_part calm) (λ check. bind (reply_part calm check) (last_part check)) budget view check second r
        (Answers-later (reply_part calm check) (last_part check) budget view reply third r h)))

-- a set that is lent
pub lent-copied : (o : Option (Bor Automaton)) (set : Option Automaton) → option_copied o ≡ set → lent o ≡ as_set set
lent-copied None set e = ap as_set e
lent-copied (Some a) set e = ap as_set e

pub on-copied : (tracks : List Var) (o : Option (Bor Automaton)) (set : Option Automaton) → option_copied o ≡ set → IfSome set (IsSetOn tracks) → IfSome o (λ a. IsSetOn tracks a.now)
on-copied tracks None set e on = tt
on-copied tracks (Some a) set e on =
    let On : Option Automaton → Type 0 = λ s. IfSome s (IsSetOn tracks) in
    subst On (sym e) on

-- what the parts answer over a table that has grown
module _ (p : Position) (side : Side) (ply mask now budget : ℕ) (kept : now ≡ budget) where
  abbrev reply_of : Level → SetOf → SetOf → Program SetOf
  reply_of reach1 calm check = bind (difference (rules_of p) ply mask kind.Quiet calm check) (λ quiet. union (rules_of p) ply mask kind.Reply (pre_items (rules_of p) side mask quiet reach1))

  pub reply_here : (old middle : List Automaton) (next_reach : List (Option SetId)) (calm check same : SetOf) → Grows old middle
      → AreNames p.men old (masks_of p) next_reach → same ≡ check → {R : Type 0} (view : R → SetOf) (r : Result R (PlanError PartName))
      → Answers (reply_of (level_of middle (masks_of p) next_reach) calm same) now view r
      → Answers (reply_of (level_of old (masks_of p) next_reach) calm check) budget view r
  reply_here old middle next_reach calm check same grows are is view r h =
      let Of : Level → Type 0 = λ level. Answers (reply_of level calm same) now view r in
      let In : SetOf → Type 0 = λ s. Answers (reply_of (level_of old (masks_of p) next_reach) calm s) now view r in
      let Within : ℕ → Type 0 = λ b. Answers (reply_of (level_of old (masks_of p) next_reach) calm check) b view r in
      subst Within kept (subst In is (subst Of (level-grows p.men old middle (masks_of p) next_reach grows are) h))

  pub last_here : (part : PartName) (check reply : SetOf) → part ≡ name ply mask kind.Lost
      → {R : Type 0} (view : R → SetOf) (r : Result R (PlanError PartName)) → Answers (union_of_two (mask_tracks p part.mask) part check reply) now view r
      → Answers (union_of_two (mask_tracks p mask) (name ply mask kind.Lost) check reply) budget view r
  last_here part check reply is view r h =
      let Named : PartName → Type 0 = λ n. Answers (union_of_two (mask_tracks p n.mask) n check reply) now view r in
      let Within : ℕ → Type 0 = λ b. Answers (union_of_two (mask_tracks p mask) (name ply mask kind.Lost) check reply) b view r in
      subst Within kept (subst Named is h)

-- the set of a mask, where nothing is reached and where something is
module _ (rules : Rules) (side : Side) (ply mask budget : ℕ) (reach reach1 rests : Level) where
  pub lost_none : IsEmpty (reach mask) → Ends (lost_set_if rules side ply reach reach1 rests mask) budget Nothing
  lost_none empty = Ends-ask_yes (Empty (reach mask ∷ [])) (Give Nothing) (lost_set rules side ply mask (reach mask) reach1 rests) budget (inl empty) (Ends-give budget Nothing)

  some_answers : ¬ IsEmpty (reach mask) → {R : Type 0} (view : R → SetOf) (r : Result R (PlanError PartName))
      → Answers (lost_set rules side ply mask (reach mask) reach1 rests) budget view r
      → Answers (lost_set_if rules side ply reach reach1 rests mask) budget view r
  some_answers some view (Ok x) h = Ends-ask_no (Empty (reach mask ∷ [])) (Give Nothing) (lost_set rules side ply mask (reach mask) reach1 rests) budget (view x) (some, tt) h
  some_answers some view (Err (plan_error.Over name)) h = Stops-ask_no (Empty (reach mask ∷ [])) (Give Nothing) (lost_set rules side ply mask (reach mask) reach1 rests) budget (some, tt) h
  some_answers some view (Err plan_error.Memory) h = tt

  pub lost_some : (s : SetOf) → s ≡ reach mask → ¬ IsEmpty s → {R : Type 0} (view : R → SetOf) (r : Result R (PlanError PartName))
      → Answers (lost_set rules side ply mask s reach1 rests) budget view r
      → Answers (lost_set_if rules side ply reach reach1 rests mask) budget view r
  lost_some s same some view r h =
      let Is : SetOf → Type 0 = λ t. ¬ IsEmpty t in
      let Of : SetOf → Type 0 = λ t. Answers (lost_set rules side ply mask t reach1 rests) budget view r in
      some_answers (subst Is same some) view r (subst Of same h)
