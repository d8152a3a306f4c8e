use Rattle.std.proofs.Common.{◌∙◌, ap, sym, subst}
use Rattle.track_word.specs.Tracks.{without_var}
use Rattle.letter_diagram.specs.Merger.{MergerTables}
use Rattle.auto_project.specs.SetMaps.{HasClosedRows, HasPlaceRows}
use Rattle.auto_project.proofs.Placings.{RemembersPlaced-none}
use Rattle.auto_project.proofs.Places.{HasClosedRows-made, HasPlaceRows-made, HasSomeStates-from, AreTracks-left}
use Rattle.auto_project.proofs.subsets.Subsets.new.Goals as goal

pub closed-requires-clause-some : goal.closed-requires-clause-some
closed-requires-clause-some c =
    let tracks = c.in_ok-tracks.ensures ∙ ap (without_var c.args.var) c.tracks.ensures.tracks in
    let made = rw c.as_slice.ensures.value at c.in_ok-merger.ensures in
    HasSomeStates-from c.args.var c.tracks.ensures.valid tracks (λ letter state begins. begins) made.first_row

pub invariant_of-result-2 : goal.invariant_of-result-2
invariant_of-result-2 c =
    let tracks = c.in_ok-tracks.ensures ∙ ap (without_var c.args.var) c.tracks.ensures.tracks in
    let e = c.in_ok-first.ensures in
    record {
      are_tracks = AreTracks-left c.args.var _ c.tracks.ensures.valid tracks;
      are_rows =
          subst (λ (m : MergerTables). HasPlaceRows m.shapes m.sets c.args.a.now c.in_ok-tracks.tracks.items c.in_ok-first.first c.in_ok-merger.field-0.rows.items)
          (sym c.merger.view_is)
          (HasPlaceRows-made c.args.var tracks
          (HasClosedRows-made c.as_slice.ensures.value c.in_ok-merger.ensures e.grows e.kept
          (rw c.sets.ensures at c.len.ensures.ascend) e.closed));
      remembered = RemembersPlaced-none _ _ _ _ _ c.in_ok-new.ensures.none;
    }

pub returns-clause-rows : goal.returns-clause-rows
returns-clause-rows c =
    let e = c.in_ok-first.ensures in
    subst (λ (m : MergerTables). HasClosedRows m.shapes m.sets c.args.a.now c.in_ok-tracks.tracks.items c.in_ok-first.first c.in_ok-merger.field-0.rows.items)
    (sym c.merger.view_is)
    (HasClosedRows-made c.as_slice.ensures.value c.in_ok-merger.ensures e.grows e.kept (rw c.sets.ensures at c.len.ensures.ascend) e.closed)
