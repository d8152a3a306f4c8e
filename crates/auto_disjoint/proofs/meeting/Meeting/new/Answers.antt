use Rattle.auto_bool.proofs.TrackLemmas.{AreAmong-left, AreAmong-right, ascending-with_vars}
use Rattle.auto_disjoint.proofs.meeting.Meeting.new.Goals as goal

pub side-requires-clause-ascending : goal.side-requires-clause-ascending
side-requires-clause-ascending c =
    rw (c.as_slice.ensures.value, c.in_ok-tracks.ensures, c.tracks.ensures.tracks, c.tracks-2.ensures.tracks)
    (ascending-with_vars c.args.left.now.tracks c.args.right.now.tracks c.tracks-2.ensures.valid.ascending)

pub side-requires-clause-among : goal.side-requires-clause-among
side-requires-clause-among c =
    rw (c.as_slice.ensures.value, c.in_ok-tracks.ensures, c.tracks.ensures.tracks, c.tracks-2.ensures.tracks)
    (AreAmong-left c.args.left.now.tracks c.args.right.now.tracks)

pub side-requires-2-clause-ascending : goal.side-requires-2-clause-ascending
side-requires-2-clause-ascending c =
    rw (c.as_slice-2.ensures.value, c.in_ok-tracks.ensures, c.tracks.ensures.tracks, c.tracks-2.ensures.tracks)
    (ascending-with_vars c.args.left.now.tracks c.args.right.now.tracks c.tracks-2.ensures.valid.ascending)

pub side-requires-2-clause-among : goal.side-requires-2-clause-among
side-requires-2-clause-among c =
    rw (c.as_slice-2.ensures.value, c.in_ok-tracks.ensures, c.tracks.ensures.tracks, c.tracks-2.ensures.tracks)
    (AreAmong-right c.args.left.now.tracks c.args.right.now.tracks)
