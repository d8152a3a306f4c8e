use Rattle.letter_diagram.proofs.SetNumbers.{SetsKept-trans}
use Rattle.auto_project.proofs.SetMapLemmas.{EachMerged-kept}
use Rattle.auto_project.proofs.rows.without_track.Goals as goal

pub returns-clause-rows : goal.returns-clause-rows
returns-clause-rows c =
    let first = c.in_ok-first.ensures in
    let each = rw (c.as_slice.ensures.value, c.new-merger.ensures.track) at c.in_ok-rows.ensures.merged in
    EachMerged-kept _ first.grows first.sets each

pub returns-clause-kept : goal.returns-clause-kept
returns-clause-kept c =
    (SetsKept-trans (rw (c.new-merger.ensures.sets) at c.in_ok-rows.ensures.sets) c.in_ok-first.ensures.sets)
