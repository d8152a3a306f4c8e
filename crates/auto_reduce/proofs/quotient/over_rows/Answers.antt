use Rattle.std.proofs.Common.{rules, arith, ◌≡◌, refl}
use Rattle.std.proofs.lemmas.List.{get_or_read}
use Rattle.auto_walk.proofs.WalkWords.{is_dense}
use Rattle.auto_reduce.proofs.quotient.over_rows.Goals as goal

pub from_diagrams-requires : goal.from_diagrams-requires
from_diagrams-requires c =
    let some = c.remove-first.ensures.len in
    let first = get_or_read c.args.rows.items 0 c.remove-first.result (omega (arith, some)) c.remove-first.ensures.value 0 in
    let copied : c.in_ok-tracks.tracks.items ≡ c.tracks.result.now = search rules in
    rw (copied, c.tracks.ensures.tracks, first, c.remove-first.ensures.items) (c.requires.rows.are_rows c.in_ok-accept.accept.items c.in_ok-accept.ensures)

pub returns : goal.returns
returns c =
    let some = c.remove-first.ensures.len in
    let first = get_or_read c.args.rows.items 0 c.remove-first.result (omega (arith, some)) c.remove-first.ensures.value 0 in
    let copied : c.in_ok-tracks.tracks.items ≡ c.tracks.result.now = search rules in
    let made = c.from_diagrams.ensures in
    let is = is_dense _ _ _ _ _ _ made.tracks made.first made.next made.accept made.shapes made.first_node made.row_nodes in
    rw (is, copied, c.tracks.ensures.tracks, first, c.remove-first.ensures.items) (record { flags = c.in_ok-accept.accept.items; are_flags = c.in_ok-accept.ensures; is = refl })
