use Rattle.std.proofs.Common.{Some, map, ap, ◌∙◌}
use Rattle.track_word.specs.Tracks.{place}
use Rattle.auto_bool.proofs.TrackLemmas.{places-ascend, places-low}
use Rattle.auto_bool.proofs.one_side.side.Goals as goal

pub new-requires-clause-ascending : goal.new-requires-clause-ascending
new-requires-clause-ascending c =
    rw (c.in_ok-places.ensures, c.tracks.ensures.tracks)
    (places-ascend c.requires.ascending c.tracks.ensures.valid.ascending c.requires.among)

pub new-requires-clause-low : goal.new-requires-clause-low
new-requires-clause-low c =
    rw (c.in_ok-places.ensures, c.tracks.ensures.tracks) (places-low c.requires.all c.requires.among)

pub returns : goal.returns
returns c =
    let shapes = c.new.ensures.shapes ∙ c.diagrams.ensures.shapes in
    let tracks = c.new.ensures.tracks ∙ c.in_ok-places.ensures ∙ ap (map (place c.args.all.now)) c.tracks.ensures.tracks in
    record {
      valid = c.tracks.ensures.valid;
      among = c.requires.among;
      reads = λ i. Some (record { shapes = shapes i; tracks = tracks i });
    }
