use Rattle.std.proofs.Common.{◌≡◌, List, ap, ◌∙◌, subst, sym}
use Rattle.std.specs.Prelude.{IfSome}
use Rattle.game_rules.specs.Game.{Position}
use Rattle.track_word.specs.declared.tracks.Var.{Var}
use Rattle.lin_formula.specs.SetOf.{SetOf, as_set}
use Rattle.rule_formula.specs.Mean.{mask_tracks}
use Rattle.set_plan.specs.Outcome.{Answers}
use Rattle.set_plan.specs.Sets.{IsSetOn, left_of, lent}
use Rattle.set_plan.specs.Unite.{difference_set}
use Rattle.mate_plan.specs.declared.names.Part.TheVariants as kind
use Rattle.mate_plan.specs.declared.names.PartName.{PartName}
use Rattle.winning_sets.proofs.ValidLemmas.{plan_valid}
use Rattle.loser_session.specs.Unwon.{kept_level, reach_level}
use Rattle.loser_session.proofs.UnwonParts.{lent_is, lent_kept, lent_reach}
use Rattle.loser_session.proofs.unwon_sets.remainder_at.Goals as goal

pub difference_set-requires-clause-one : goal.difference_set-requires-clause-one
difference_set-requires-clause-one c =
    let s = c.args.solved.now in
    let valid = plan_valid s c.reach-one.ensures.valid c.requires.plan in
    let tracks : c.deref.result.now ≡ mask_tracks s.position c.args.mask =
    c.deref.ensures.value ∙ (c.in_ok-tracks.ensures ∙ ap (λ (p : Position). mask_tracks p c.args.mask) c.position-position.ensures) in
    subst (λ (t : List Var). IfSome c.reach-one.result (λ a. IsSetOn t a.now)) (sym tracks) (lent_reach s valid c.args.ply c.args.mask c.reach-one.result c.requires.before c.reach-one.ensures.set)

pub difference_set-requires-clause-other : goal.difference_set-requires-clause-other
difference_set-requires-clause-other c =
    let s = c.args.solved.now in
    let valid = plan_valid s c.reach-one.ensures.valid c.requires.plan in
    let tracks : c.deref.result.now ≡ mask_tracks s.position c.args.mask =
    c.deref.ensures.value ∙ (c.in_ok-tracks.ensures ∙ ap (λ (p : Position). mask_tracks p c.args.mask) c.position-position.ensures) in
    subst (λ (t : List Var). IfSome c.set-other.result (λ a. IsSetOn t a.now)) (sym tracks) (lent_kept s valid c.args.ply c.args.mask c.set-other.result c.set-other.ensures.set)

pub returns-clause-answers : goal.returns-clause-answers
returns-clause-answers c =
    let s = c.args.solved.now in
    let part : PartName = record { ply = c.args.ply; mask = c.args.mask; part = kind.Rest } in
    let tracks : c.deref.result.now ≡ mask_tracks s.position c.args.mask =
    c.deref.ensures.value ∙ (c.in_ok-tracks.ensures ∙ ap (λ (p : Position). mask_tracks p c.args.mask) c.position-position.ensures) in
    let one : lent c.reach-one.result ≡ reach_level s c.args.ply c.args.mask = lent_is c.reach-one.result ∙ ap as_set c.reach-one.ensures.set in
    let other : lent c.set-other.result ≡ kept_level s c.args.ply c.args.mask = lent_is c.set-other.result ∙ ap as_set c.set-other.ensures.set in
    let Of : List Var → SetOf → SetOf → Type 0 = λ t r k. Answers (difference_set t part r k) c.args.budget (left_of r) c.difference_set.result in
    subst (λ (t : List Var). Of t (reach_level s c.args.ply c.args.mask) (kept_level s c.args.ply c.args.mask)) tracks
    (subst (λ (r : SetOf). Of c.deref.result.now r (kept_level s c.args.ply c.args.mask)) one
    (subst (λ (k : SetOf). Of c.deref.result.now (lent c.reach-one.result) k) other c.difference_set.ensures.answers))
