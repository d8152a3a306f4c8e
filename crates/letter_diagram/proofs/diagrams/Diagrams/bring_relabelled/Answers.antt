use Rattle.std.proofs.Common.{rules, ◌≡◌}
use Rattle.letter_diagram.proofs.Kept.{EachAnswers-kept}
use Rattle.letter_diagram.proofs.diagrams.Diagrams.bring_relabelled.Goals as goal

pub returns-then-keeps_tracks-clause-brought : goal.returns-then-keeps_tracks-clause-brought
returns-then-keeps_tracks-clause-brought c =
    let copied : c.in_ok-self.field-0 ≡ c.args.from.now = search rules in
    let nodes : c.in_ok-to_vec.field-0.items ≡ c.args.nodes.now = search rules in
    let keeps = c.keeps_tracks.ensures c.if-keeps_tracks.true in
    rw (copied, nodes) (EachAnswers-kept c.args.from.now c.args.nodes.now c.args.tracks.now c.requires.known c.requires.narrow keeps)
