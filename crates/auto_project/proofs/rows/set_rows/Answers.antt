use Rattle.std.proofs.Common.{◌≡◌, ◌≤◌, ◌<◌, ◌∙◌, ap, sym, subst, length, arith}
use Rattle.std.specs.List.{All}
use Rattle.std.proofs.lemmas.List.Elements.{All-map}
use Rattle.track_word.specs.Tracks.{place}
use Rattle.letter_diagram.specs.Merged.{IsMerged}
use Rattle.letter_diagram.specs.Listed.{EachAnswers}
use Rattle.auto_project.specs.SetMaps.{AreSingletons, HasSetRows, HasWideRows}
use Rattle.auto_project.proofs.Letters.{length-without, places-fit}
use Rattle.auto_project.proofs.WideRows.{HasSetRows-wide, HasSetRows-merged, wide-sets, wide-rows-sets}
use Rattle.auto_project.proofs.rows.set_rows.Goals as goal

few : (c : goal.After-tracks-all) → length c.args.tracks.now ≤ length c.args.a.now.tracks
few c = subst (λ t. length t ≤ length c.args.a.now.tracks) (sym c.requires) (length-without c.args.a.now.tracks c.args.var c.tracks-all.ensures.valid.ascending)

pub wide_rows-requires-clause-few : goal.wide_rows-requires-clause-few
wide_rows-requires-clause-few c = let l = few c in let most = c.tracks-all.ensures.valid.few_tracks in omega (arith, l, most)

pub wide_rows-requires-clause-fit : goal.wide_rows-requires-clause-fit
wide_rows-requires-clause-fit c =
    let valid = c.tracks-all.ensures.valid in
    All-map (λ place. place < 20) (place c.args.tracks.now) c.args.a.now.tracks
    (subst (λ t. All (λ track. place t track < 20) c.args.a.now.tracks) (sym c.requires) (places-fit c.args.a.now.tracks c.args.var valid.ascending valid.few_tracks))

pub returns-then-tracks-all : goal.returns-then-tracks-all
returns-then-tracks-all c =
    let same : length c.args.tracks.now ≡ length c.args.a.now.tracks = c.if-tracks-all.true ∙ ap length c.tracks-all.ensures.tracks in
    let states = subst (AreSingletons c.in_ok-sets.sets) c.states.ensures.states c.in_ok-sets.ensures in
    let wide = subst (λ t. HasWideRows c.in_ok-wide.wide.diagrams c.args.a.now t c.in_ok-wide.wide.first c.in_ok-wide.wide.rows.items) c.requires c.in_ok-wide.ensures.rows in
    rw (c.uniter.ensures.shapes, c.uniter.ensures.sets)
    (subst (λ t. HasSetRows c.in_ok-wide.wide.diagrams c.in_ok-sets.sets c.args.a.now t c.in_ok-wide.wide.first c.in_ok-wide.wide.rows.items) (sym c.requires)
    (HasSetRows-wide c.args.a.now c.args.var c.tracks-all.ensures.valid states wide (sym (ap length c.requires) ∙ same)))

pub overflow_cast-tracks : goal.overflow_cast-tracks
overflow_cast-tracks c =
    let l = subst (λ t. length t ≤ length c.args.a.now.tracks) (sym c.requires) (length-without c.args.a.now.tracks c.args.var c.tracks-all.ensures.valid.ascending) in
    let most = c.tracks-all.ensures.valid.few_tracks in
    omega (arith, l, most)

pub without_track-requires-clause-track : goal.without_track-requires-clause-track
without_track-requires-clause-track c =
    let l = subst (λ t. length t ≤ length c.args.a.now.tracks) (sym c.requires) (length-without c.args.a.now.tracks c.args.var c.tracks-all.ensures.valid.ascending) in
    let most = c.tracks-all.ensures.valid.few_tracks in
    let all = ap length c.tracks-all.ensures.tracks in
    let other = c.if-tracks-all.false in
    omega (arith, l, most, all, other)

pub without_track-requires-clause-first : goal.without_track-requires-clause-first
without_track-requires-clause-first c =
    let states = subst (AreSingletons c.in_ok-sets.sets) c.states.ensures.states c.in_ok-sets.ensures in
    let wide = subst (λ t. HasWideRows c.in_ok-wide.wide.diagrams c.args.a.now t c.in_ok-wide.wide.first c.in_ok-wide.wide.rows.items) c.requires c.in_ok-wide.ensures.rows in
    wide-sets c.args.a.now c.args.var c.tracks-all.ensures.valid states wide.first_row

pub without_track-requires-clause-rows : goal.without_track-requires-clause-rows
without_track-requires-clause-rows c =
    let states = subst (AreSingletons c.in_ok-sets.sets) c.states.ensures.states c.in_ok-sets.ensures in
    let wide = subst (λ t. HasWideRows c.in_ok-wide.wide.diagrams c.args.a.now t c.in_ok-wide.wide.first c.in_ok-wide.wide.rows.items) c.requires c.in_ok-wide.ensures.rows in
    wide-rows-sets c.args.a.now c.args.var c.tracks-all.ensures.valid states wide.state_rows

pub returns : goal.returns
returns c =
    let states = subst (AreSingletons c.in_ok-sets.sets) c.states.ensures.states c.in_ok-sets.ensures in
    let wide = subst (λ t. HasWideRows c.in_ok-wide.wide.diagrams c.args.a.now t c.in_ok-wide.wide.first c.in_ok-wide.wide.rows.items) c.requires c.in_ok-wide.ensures.rows in
    let made = c.in_ok-made.ensures in
    let size = ap length c.requires in
    subst (λ t. HasSetRows c.in_ok-made.made.merger.shapes c.in_ok-made.made.merger.sets c.args.a.now t c.in_ok-made.made.first c.in_ok-made.made.rows.items) (sym c.requires)
    (HasSetRows-merged c.args.a.now c.args.var c.tracks-all.ensures.valid states wide made.grows made.kept
    (subst (λ n. IsMerged c.in_ok-made.made.merger.shapes c.in_ok-made.made.merger.sets n c.in_ok-wide.wide.first c.in_ok-made.made.first) size made.first)
    (subst (λ n. EachAnswers (IsMerged c.in_ok-made.made.merger.shapes c.in_ok-made.made.merger.sets n) c.in_ok-wide.wide.rows.items c.in_ok-made.made.rows.items) size made.rows))
