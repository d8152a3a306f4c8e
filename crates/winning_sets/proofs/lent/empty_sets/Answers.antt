use Rattle.std.proofs.Common.{ℕ, ◌+◌, ◌≤◌, List, length, get_or, take, subst, sym, arith}
use Rattle.std.proofs.lemmas.List.{take_all}
use Rattle.track_word.specs.declared.tracks.Var.{Var}
use Rattle.track_word.specs.Tracks.{IsAscending}
use Rattle.auto_core.specs.Automaton.{Automaton}
use Rattle.winning_sets.specs.Lent.{AreEmpties, IsEmptyOn}
use Rattle.mate_plan.proofs.MaskTracks.{tracks_ascend, tracks_few}
use Rattle.winning_sets.proofs.LentLemmas.{empties_more}
use Rattle.winning_sets.proofs.lent.empty_sets.Goals as goal

pub empty_set-requires-clause-ascending : goal.empty_set-requires-clause-ascending
empty_set-requires-clause-ascending c =
    subst IsAscending (sym c.in_ok-tracks.ensures) (tracks_ascend c.args.p.now.men (get_or c.args.masks.now c.loop-mask.mask-index 0))

pub empty_set-requires-clause-few : goal.empty_set-requires-clause-few
empty_set-requires-clause-few c =
    subst (λ (tracks : List Var). length tracks ≤ 20) (sym c.in_ok-tracks.ensures) (tracks_few c.args.p.now.men (get_or c.args.masks.now c.loop-mask.mask-index 0) (omega (arith, c.count.ensures)))

pub loop-mask-preserved : goal.loop-mask-preserved
loop-mask-preserved c =
    let a = c.in_ok-empty_set.field-0 in
    let empty = subst (λ (tracks : List Var). IsEmptyOn tracks a) c.in_ok-tracks.ensures c.in_ok-empty_set.ensures in
    let more = empties_more c.args.p.now.men c.args.masks.now c.loop-mask.sets.items c.loop-mask.mask-index 0 c.loop-mask-test.true c.loop-mask.invariant empty in
    subst (λ (sets : List Automaton). AreEmpties c.args.p.now.men (take (c.loop-mask.mask-index + 1) c.args.masks.now) sets) (sym c.in_ok-push.ensures.items) more

pub returns : goal.returns
returns c =
    subst (λ (masks : List ℕ). AreEmpties c.args.p.now.men masks c.loop-mask.sets.items) (take_all c.loop-mask.mask-index c.args.masks.now c.loop-mask-test.false) c.loop-mask.invariant
