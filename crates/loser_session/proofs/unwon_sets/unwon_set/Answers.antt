use Rattle.std.proofs.Common.{◌≡◌, Option, Some, None, sym, subst}
use Rattle.auto_core.specs.Automaton.{Automaton}
use Rattle.lin_formula.specs.SetOf.{Member, Nothing, Table, as_set}
use Rattle.rule_formula.specs.Mean.{mask_tracks}
use Rattle.set_plan.specs.Outcome.{Ends, IsPlanError}
use Rattle.set_plan.specs.Sets.{IsLeftOn, left_of}
use Rattle.set_plan.specs.declared.left.Left.{Left}
use Rattle.set_plan.specs.declared.left.Left.TheVariants.{Part}
use Rattle.set_plan.specs.declared.stop.PlanError.{PlanError}
use Rattle.mate_plan.specs.declared.names.PartName.{PartName}
use Rattle.winning_sets.specs.Solve.{end_of}
use Rattle.winning_sets.proofs.ValidLemmas.{plan_valid}
use Rattle.loser_session.specs.Unwon.{reach_level, rest_part}
use Rattle.loser_session.proofs.UnwonParts.{fits_here, none_last, not_stopped, reach_formed, set_at, some_unwon}
use Rattle.loser_session.proofs.unwon_sets.unwon_set.Goals as goal

pub returns-in-Ok-Part-Some : goal.returns-in-Ok-Part-Some
returns-in-Ok-Part-Some c =
    let s = c.args.solved.now in
    let valid = plan_valid s c.masks.ensures.valid c.requires.plan in
    let w = c.in-Ok-Part-Some in
    let left : w.field-0 ≡ Part (Some w.set) = cc (w.field-0-is, w.field-0-0-is) in
    let ends = subst (λ (l : Left). Ends (rest_part s c.args.ply c.args.mask) c.args.budget (left_of (reach_level s c.args.ply c.args.mask) l)) left w.ensures.answers in
    let on = subst (λ (l : Left). IsLeftOn (mask_tracks s.position c.args.mask) l) left w.ensures.set in
    some_unwon s valid c.args.ply c.requires.before c.requires.turn c.args.mask c.requires.game (Table w.set) c.args.budget w.set ends
    (λ tuple. (λ h. h, λ h. h)) (set_at s valid c.args.mask w.set on)

pub returns-in_ok-empty-in-Ok-Part-None : goal.returns-in_ok-empty-in-Ok-Part-None
returns-in_ok-empty-in-Ok-Part-None c =
    let s = c.args.solved.now in
    let valid = plan_valid s c.masks.ensures.valid c.requires.plan in
    let w = c.in-Ok-Part-None in
    let e = c.in_ok-empty-in-Ok-Part-None in
    let left : w.field-0 ≡ Part None = cc (w.field-0-is, w.field-0-0-is) in
    let ends = subst (λ (l : Left). Ends (rest_part s c.args.ply c.args.mask) c.args.budget (left_of (reach_level s c.args.ply c.args.mask) l)) left w.ensures.answers in
    some_unwon s valid c.args.ply c.requires.before c.requires.turn c.args.mask c.requires.game Nothing c.args.budget e.empty ends
    (none_last s valid c.args.mask e.empty c.requires.game e.ensures) (valid.kept.formed (end_of s) c.args.mask e.empty e.ensures)

pub returns-in_ok-whole-in-Ok-Whole : goal.returns-in_ok-whole-in-Ok-Whole
returns-in_ok-whole-in-Ok-Whole c =
    let s = c.args.solved.now in
    let valid = plan_valid s c.masks.ensures.valid c.requires.plan in
    let w = c.in-Ok-Whole in
    let e = c.in_ok-whole-in-Ok-Whole in
    let ends = subst (λ (l : Left). Ends (rest_part s c.args.ply c.args.mask) c.args.budget (left_of (reach_level s c.args.ply c.args.mask) l)) w.field-0-is w.ensures.answers in
    some_unwon s valid c.args.ply c.requires.before c.requires.turn c.args.mask c.requires.game (reach_level s c.args.ply c.args.mask) c.args.budget e.whole ends
    (λ tuple. (
      λ h. subst (λ (o : Option Automaton). Member (as_set o) tuple) (sym e.ensures) h,
      λ h. subst (λ (o : Option Automaton). Member (as_set o) tuple) e.ensures h,
    ))
    (reach_formed s valid c.args.ply c.args.mask c.requires.game c.requires.before e.whole e.ensures)

pub unreachable-requires : goal.unreachable-requires
unreachable-requires c =
    let s = c.args.solved.now in
    let valid = plan_valid s c.masks.ensures.valid c.requires.plan in
    let w = c.in-Err-Over in
    let stops = subst (λ (e : PlanError PartName). IsPlanError (rest_part s c.args.ply c.args.mask) c.args.budget e) w.field-0-is w.ensures.answers in
    not_stopped s valid c.args.ply c.requires.before c.requires.turn c.args.mask c.requires.game c.args.budget
    (fits_here s valid c.args.ply c.requires.before c.requires.turn c.args.budget c.args.mask c.requires.fits c.requires.some c.requires.game) w.field-0-0 stops
