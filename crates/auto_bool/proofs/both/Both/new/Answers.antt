use Rattle.auto_bool.proofs.TrackLemmas.{AreAmong-left, AreAmong-right, ascending-with_vars}
use Rattle.auto_bool.proofs.both.Both.new.Goals as goal

pub side-requires-clause-ascending : goal.side-requires-clause-ascending
side-requires-clause-ascending c =
    rw (c.as_slice.ensures.value, c.in_ok-tracks.ensures, c.tracks.ensures.tracks, c.tracks-2.ensures.tracks)
    (ascending-with_vars c.args.left.now.tracks c.args.right.now.tracks c.tracks-2.ensures.valid.ascending)

pub side-requires-clause-among : goal.side-requires-clause-among
side-requires-clause-among c =
    rw (c.as_slice.ensures.value, c.in_ok-tracks.ensures, c.tracks.ensures.tracks, c.tracks-2.ensures.tracks)
    (AreAmong-left c.args.left.now.tracks c.args.right.now.tracks)

pub side-requires-2-clause-ascending : goal.side-requires-2-clause-ascending
side-requires-2-clause-ascending c =
    rw (c.as_slice-2.ensures.value, c.in_ok-tracks.ensures, c.tracks.ensures.tracks, c.tracks-2.ensures.tracks)
    (ascending-with_vars c.args.left.now.tracks c.args.right.now.tracks c.tracks-2.ensures.valid.ascending)

pub side-requires-2-clause-among : goal.side-requires-2-clause-among
side-requires-2-clause-among c =
    rw (c.as_slice-2.ensures.value, c.in_ok-tracks.ensures, c.tracks.ensures.tracks, c.tracks-2.ensures.tracks)
    (AreAmong-right c.args.left.now.tracks c.args.right.now.tracks)

pub invariant_of-result : goal.invariant_of-result
invariant_of-result c =
    let tracks = c.in_ok-tracks.ensures in
    record {
      are_tracks =
          rw (tracks, c.tracks.ensures.tracks, c.tracks-2.ensures.tracks)
          (record {
            ascending = ascending-with_vars c.args.left.now.tracks c.args.right.now.tracks c.tracks-2.ensures.valid.ascending;
            few = c.requires.tracks;
          });
      left_side = rw c.in_ok-product.ensures.left (rw c.as_slice.ensures.value at c.in_ok-left_side.ensures);
      right_side = rw c.in_ok-product.ensures.right (rw c.as_slice-2.ensures.value at c.in_ok-right_side.ensures);
      deciding_states = rw c.in_ok-product.ensures.absorbing c.requires.deciding_states;
    }
