use Rattle.std.proofs.Common.{◌∷◌, [], ◌++◌, sym, ◌∙◌}
use Rattle.std.proofs.lemmas.List.{map_more}
use Rattle.track_word.specs.Tracks.{place}
use Rattle.track_word.proofs.lists.places_of.Goals as goal

pub loop-track-preserved : goal.loop-track-preserved
loop-track-preserved c =
    c.in_ok-push.ensures.items ∙ (λ i. c.loop-track.invariant i ++ c.place_of-place.ensures.place i ∷ [])
    ∙ sym (map_more (place c.args.tracks.now) c.args.some.now c.loop-track.track-index (record { 0 = 0 }) c.loop-track-test.true)
