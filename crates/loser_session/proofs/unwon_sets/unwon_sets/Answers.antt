use Rattle.std.proofs.Common.{◌+◌, ◌<◌, ◌≤◌, ℕ, List, get_or, length, take, sym, subst}
use Rattle.std.specs.List.{AllZip}
use Rattle.std.proofs.lemmas.List.{take_all}
use Rattle.auto_core.specs.Automaton.{Automaton}
use Rattle.rule_formula.specs.Fits.{masks_of}
use Rattle.winning_sets.proofs.ValidLemmas.{plan_valid}
use Rattle.loser_session.specs.Unwon.{AreUnwonSets, IsUnwonSet}
use Rattle.loser_session.proofs.SetsInto.{beside_masks}
use Rattle.loser_session.proofs.UnwonParts.{game_at}
use Rattle.loser_session.proofs.Zips.{zip_more}
use Rattle.loser_session.proofs.unwon_sets.unwon_sets.Goals as goal

pub unwon_set-requires-clause-game : goal.unwon_set-requires-clause-game
unwon_set-requires-clause-game c =
    let s = c.args.solved.now in
    game_at s (plan_valid s c.masks-mask-items.ensures.valid c.requires.plan) c.masks-mask-items.result.now c.masks-mask-items.ensures.masks c.loop-mask.mask-index c.loop-mask-test.true

pub loop-mask-preserved : goal.loop-mask-preserved
loop-mask-preserved c =
    let s = c.args.solved.now in
    let i = c.loop-mask.mask-index in
    let a = c.in_ok-unwon_set.field-0 in
    let within : i < length (masks_of s.position) = subst (λ (ms : List ℕ). i < length ms) c.masks-mask-items.ensures.masks c.loop-mask-test.true in
    let is : IsUnwonSet s c.args.ply (get_or (masks_of s.position) i 0) a =
    subst (λ (ms : List ℕ). IsUnwonSet s c.args.ply (get_or ms i 0) a) c.masks-mask-items.ensures.masks c.in_ok-unwon_set.ensures in
    subst (λ (sets : List Automaton). AllZip (IsUnwonSet s c.args.ply) (take (i + 1) (masks_of s.position)) sets) (sym c.in_ok-push.ensures.items)
    (zip_more (IsUnwonSet s c.args.ply) (masks_of s.position) c.loop-mask.sets.items i 0 within c.loop-mask.invariant is)

pub returns : goal.returns
returns c =
    let s = c.args.solved.now in
    let i = c.loop-mask.mask-index in
    let past : length (masks_of s.position) ≤ i = subst (λ (ms : List ℕ). length ms ≤ i) c.masks-mask-items.ensures.masks c.loop-mask-test.false in
    let all = subst (λ (ms : List ℕ). AllZip (IsUnwonSet s c.args.ply) ms c.loop-mask.sets.items) (take_all i (masks_of s.position) past) c.loop-mask.invariant in
    let valid = plan_valid s c.masks-mask-items.ensures.valid c.requires.plan in
    subst (AreUnwonSets s c.args.ply) (sym c.new.ensures) (beside_masks s valid c.args.ply c.loop-mask.sets.items all)
