-- The programs of the plan over sets that names refer to. Each has the parameters and the name of the function that
-- computes it.
use Rattle.std.specs.Prelude.{◌≡◌, ℕ, List, Bool, Option, Result}
use Rattle.std.specs.Borrow.{Bor}
use Rattle.auto_core.specs.Automaton.{Automaton}
use Rattle.game_rules.specs.Game.{Position}
use Rattle.lin_formula.specs.SetOf.{SetOf, as_set}
use Rattle.lin_formula.specs.declared.formula.Formula.{Formula}
use Rattle.lin_formula.specs.declared.formula.SetId.{SetId}
use Rattle.rule_formula.specs.Fits.{masks_of}
use Rattle.mask_sets.specs.Stock.{mask_of}
use Rattle.mask_sets.specs.Tuple.{tuple_of}
use Rattle.rule_formula.specs.declared.opt.Bearing.{Bearing}
use Rattle.set_plan.specs.Making.{AnswersRemainder, items_over}
use Rattle.set_plan.specs.Outcome.{Answers, as_is}
use Rattle.set_plan.specs.Sets.{lent, set_at}
use Rattle.set_plan.specs.Unite as unite
use Rattle.set_plan.specs.declared.left.Left.{Left}
use Rattle.set_plan.specs.declared.stop.PlanError.{PlanError}
use Rattle.mate_plan.specs.Bench.{level_on, rules_on, tracks_on}
use Rattle.mate_plan.specs.Levels.{Names}
use Rattle.mate_plan.specs.Plan as plan
use Rattle.mate_plan.specs.Plan.{Level, Program}
use Rattle.mate_plan.specs.Questions as questions
use Rattle.mate_plan.specs.declared.bench.PlanContext.{PlanContext}
use Rattle.mate_plan.specs.declared.bench.PlanState.{PlanState}
use Rattle.mate_plan.specs.declared.losing.LoserLevel.{LoserLevel}
use Rattle.mate_plan.specs.declared.losing.Lost.{Lost}
use Rattle.mate_plan.specs.declared.losing.Resting.{Resting}
use Rattle.mate_plan.specs.declared.names.Part.{Part}
use Rattle.mate_plan.specs.declared.names.Part.TheVariants as kind
use Rattle.mate_plan.specs.declared.names.PartName.{PartName}
use Rattle.mate_plan.specs.declared.reaching.ReachedLevel.{ReachedLevel}
use Rattle.mate_plan.specs.declared.stage.MovesInto.{MovesInto}
use Rattle.mate_plan.specs.declared.stage.PartMoves.{PartMoves}
use Rattle.mate_plan.specs.declared.stage.PartSet.{PartSet}
use Rattle.mate_plan.specs.declared.stage.Stage.{Stage}
use Rattle.mate_plan.specs.declared.stage.StageLevel.{StageLevel}
use Rattle.mate_plan.specs.declared.stage.StageSet.{StageSet}
use Rattle.mate_plan.specs.declared.winning.WinnerLevel.{WinnerLevel}

-- a program that depends on the context and on the stored sets
abbrev pub Named : Type 0 → Type 0
Named A = PlanContext → List Automaton → Program A

-- the result, as the view shows it, is the value of the program over the state's sets and within its budget, or the
-- first step that exceeds the budget
abbrev pub AnswersBy : {A R : Type 0} → PlanContext → PlanState → Named A → (R → A) → Result R (PlanError PartName) → Type 0
AnswersBy bench work program view result = Answers (program bench work.sets) work.memo.budget view result

-- the result is a set
abbrev pub AnswersSet : PlanContext → PlanState → Named SetOf → Result (Option Automaton) (PlanError PartName) → Type 0
AnswersSet bench work program result = AnswersBy bench work program as_set result

-- the result is the name, among the new sets, of the value of the program over the old sets
abbrev pub AnswersName : PlanContext → PlanState → PlanState → Named SetOf → Result (Option SetId) (PlanError PartName) → Type 0
AnswersName bench old new program result = AnswersBy bench old program (λ name. set_at new.sets name) result

-- the result is the names, among the new sets, of the level that is the value of the program over the old sets
abbrev pub AnswersLevel : PlanContext → PlanState → PlanState → Named Level → Result Names (PlanError PartName) → Type 0
AnswersLevel bench old new program result = AnswersBy bench old program (level_on bench new.sets) result

-- the result is true or false
abbrev pub AnswersWhether : PlanContext → PlanState → Named Bool → Result Bool (PlanError PartName) → Type 0
AnswersWhether bench work program result = AnswersBy bench work program as_is result

-- the result is what is left of a set without another one, in a part of its own, within a budget
abbrev pub AnswersLeft : PlanContext → List Automaton → PartSet → Option (Bor Automaton) → ℕ
    → Result Left (PlanError PartName) → Type 0
AnswersLeft bench sets whole other budget result =
    AnswersRemainder (tracks_on bench whole.part.mask) whole.part (set_at sets whole.name) (lent other) budget result

-- the value over the new sets is that over the old sets
abbrev pub StaysSame : {A : Type 0} → (List Automaton → A) → List Automaton → List Automaton → Type 0
StaysSame program old new = program new ≡ program old

-- the difference of two sets
abbrev pub without : PartSet → Option Automaton → Named SetOf
without whole other bench sets =
    unite.difference_set (tracks_on bench whole.part.mask) whole.part (set_at sets whole.name) (as_set other)

-- the union of two sets
abbrev pub together_on : PlanContext → PartName → Option Automaton → Option Automaton → Program SetOf
together_on bench part first second = unite.union_of_two (tracks_on bench part.mask) part (as_set first) (as_set second)

-- the union of the sets of the formulas
abbrev pub union : PartName → List Formula → Named SetOf
union part formulas bench sets = unite.union (tracks_on bench part.mask) part (items_over sets formulas)

-- the set of one mask, by a program for each mask
abbrev pub at_mask : (Position → List Automaton → ℕ → Program SetOf) → ℕ → Named SetOf
at_mask program mask bench sets = program bench.position.now sets mask

-- the sets of all masks, by a program for each mask
abbrev pub by_mask : (Position → List Automaton → ℕ → Program SetOf) → Named Level
by_mask program bench sets =
    plan.for_masks (masks_of bench.position.now) (program bench.position.now sets) plan.no_sets

abbrev pub image_set : Stage → Names → Named SetOf
image_set stage level bench sets =
    plan.image_set (rules_on bench) stage.side stage.ply stage.mask (level_on bench sets level)

abbrev pub pre_set : PartMoves → Named SetOf
pre_set moves bench sets =
    plan.pre_set (rules_on bench) moves.set.stage.side moves.set.stage.ply moves.set.stage.mask moves.part
    (set_at sets moves.set.name) (level_on bench sets moves.into.now)

abbrev pub check_set : StageSet → Named SetOf
check_set source bench sets =
    plan.check_set (rules_on bench) source.stage.side source.stage.ply source.stage.mask (set_at sets source.name)

abbrev pub narrow : Stage → List Bearing → Option Automaton → Named SetOf
narrow stage bearings moved bench sets =
    plan.narrow (rules_on bench) stage.ply stage.mask bearings (as_set moved)

abbrev pub point_level : Named Level
point_level bench sets = plan.point_level (rules_on bench) (mask_of bench.position.now)

abbrev pub reach_set : ReachedLevel → ℕ → Named SetOf
reach_set from mask bench sets =
    plan.reach_set (rules_on bench) from.side from.ply (level_on bench sets from.level.now) mask

abbrev pub reach_level : ReachedLevel → Named Level
reach_level from bench sets =
    plan.reach_level (rules_on bench) from.side from.ply (level_on bench sets from.level.now)

abbrev pub win_set : WinnerLevel → ℕ → Named SetOf
win_set from mask bench sets =
    plan.win_set (rules_on bench) from.side from.ply (level_on bench sets from.reach.now)
    (level_on bench sets from.next_kept.now) mask

abbrev pub win_level : WinnerLevel → Named Level
win_level from bench sets =
    plan.win_level (rules_on bench) from.side from.ply (level_on bench sets from.reach.now)
    (level_on bench sets from.next_kept.now)

abbrev pub rest_set : Resting → ℕ → Named SetOf
rest_set from mask bench sets =
    plan.rest_set (rules_on bench) from.ply (level_on bench sets from.reach.now)
    (level_on bench sets from.kept.now) mask

abbrev pub calm_set : StageSet → Names → Named SetOf
calm_set reach rests bench sets =
    plan.calm_set (rules_on bench) reach.stage.side reach.stage.ply reach.stage.mask (set_at sets reach.name)
    (level_on bench sets rests)

abbrev pub reply_set : StageSet → Option (Bor Automaton) → Names → Named SetOf
reply_set calm check next_reach bench sets =
    plan.reply_set (rules_on bench) calm.stage.side calm.stage.ply calm.stage.mask (set_at sets calm.name)
    (lent check) (level_on bench sets next_reach)

abbrev pub lost_set : StageSet → Names → Names → Named SetOf
lost_set reach next_reach rests bench sets =
    plan.lost_set (rules_on bench) reach.stage.side reach.stage.ply reach.stage.mask (set_at sets reach.name)
    (level_on bench sets next_reach) (level_on bench sets rests)

abbrev pub lost_set_if : Lost → ℕ → Named SetOf
lost_set_if from mask bench sets =
    plan.lost_set_if (rules_on bench) from.side from.ply (level_on bench sets from.reach.now)
    (level_on bench sets from.next_reach.now) (level_on bench sets from.rests.now) mask

abbrev pub lost_level : LoserLevel → Named Level
lost_level from bench sets =
    plan.lost_level (rules_on bench) from.side from.ply (level_on bench sets from.reach.now)
    (level_on bench sets from.next_reach.now) (level_on bench sets from.next_kept.now)

-- the positions with the live men of the starting position from which a move leads from the first level into the second
abbrev pub first_set : Names → Names → Named SetOf
first_set start into bench sets =
    plan.pre_set (rules_on bench) bench.position.now.turn 0 (mask_of bench.position.now) kind.First
    (level_on bench sets start (mask_of bench.position.now)) (level_on bench sets into)

abbrev pub has_first_move : Names → Named Bool
has_first_move into bench sets =
    questions.has_first_move (rules_on bench) bench.position.now.turn (mask_of bench.position.now)
    (tuple_of bench.position.now) (level_on bench sets into)

abbrev pub have_moves : PartMoves → Part → Named Bool
have_moves moves missing bench sets =
    questions.have_moves (rules_on bench) moves.set.stage.side moves.set.stage.ply moves.set.stage.mask moves.part
    missing (set_at sets moves.set.name) (level_on bench sets moves.into.now)

abbrev pub quiet_set : StageSet → Named SetOf
quiet_set source bench sets =
    questions.quiet_set (rules_on bench) source.stage.side source.stage.ply source.stage.mask
    (set_at sets source.name)

abbrev pub are_answered : MovesInto → Named Bool
are_answered moves bench sets =
    questions.are_answered (rules_on bench) moves.stage.side moves.stage.ply (level_on bench sets moves.from.now)
    (level_on bench sets moves.into.now) moves.stage.mask

abbrev pub have_replies : MovesInto → Named Bool
have_replies moves bench sets =
    questions.have_replies (rules_on bench) moves.stage.side moves.stage.ply (level_on bench sets moves.from.now)
    (level_on bench sets moves.into.now) moves.stage.mask

abbrev pub are_on_distinct_squares : StageLevel → Named Bool
are_on_distinct_squares at bench sets =
    questions.are_on_distinct_squares bench.position.now at.stage.ply at.stage.mask
    (level_on bench sets at.level.now at.stage.mask)

abbrev pub are_safe : StageLevel → Named Bool
are_safe at bench sets =
    questions.are_safe (rules_on bench) at.stage.side at.stage.ply at.stage.mask
    (level_on bench sets at.level.now at.stage.mask)
