use Rattle.std.proofs.Common.{◌≡◌, ◌∙◌, not, rules, sym}
use Rattle.std.proofs.lemmas.List.{length-map}
use Rattle.auto_bool.proofs.Complements.{HasRowsOf, Accepts-turned, IsReduced-turned, AreRows-flags}
use Rattle.auto_bool.proofs.complement.not.Goals as goal

pub from_diagrams-requires : goal.from_diagrams-requires
from_diagrams-requires c =
    let copied : c.in_ok-tracks.tracks.items ≡ c.tracks.result.now = search rules in
    let shapes = c.in_ok-diagrams.ensures ∙ c.diagrams.ensures.shapes in
    rw (copied, c.tracks.ensures.tracks, shapes, c.first_node.ensures.is, c.in_ok-rows.ensures, c.in_ok-accept.ensures)
    (AreRows-flags _ (length-map c.args.a.now.accept not) c.diagrams.ensures.nodes.nodes)

same_rows : (c : goal.After-from_diagrams) → HasRowsOf c.args.a.now c.from_diagrams.result
same_rows c =
    let copied : c.in_ok-tracks.tracks.items ≡ c.tracks.result.now = search rules in
    let tracks = copied ∙ c.tracks.ensures.tracks in
    let shapes = c.in_ok-diagrams.ensures ∙ c.diagrams.ensures.shapes in
    let made = c.from_diagrams.ensures in
    let over = c.diagrams.ensures.nodes in
    record {
      tracks = made.tracks ∙ tracks;
      first = rw (tracks, shapes, c.first_node.ensures.is) at made.first ∙ sym over.first;
      next = rw (tracks, shapes, c.in_ok-rows.ensures) at made.next ∙ sym over.next;
      accept = made.accept ∙ c.in_ok-accept.ensures;
    }

pub returns-clause-words : goal.returns-clause-words
returns-clause-words c = λ word w. Accepts-turned _ _ (same_rows c) c.tracks.ensures.valid word

pub returns-clause-reduced : goal.returns-clause-reduced
returns-clause-reduced c = IsReduced-turned _ _ (same_rows c) c.tracks.ensures.valid
