use Rattle.std.proofs.Common.{rules, arith, ◌≡◌, ◌<◌, ℕ, sym, ◌∙◌}
use Rattle.letter_diagram.specs.Splits.{top_of_both}
use Rattle.letter_diagram.specs.Chosen.{IsChosen}
use Rattle.letter_diagram.proofs.Maps.{Grows-trans}
use Rattle.letter_diagram.proofs.Splittings.{IsSplit-grows, chosen-grows, top_of_both-grows}
use Rattle.letter_diagram.proofs.Choices.{IsChosen-grows, IsChosen-sides, RemembersChosen-grows, RemembersChosen-learn}
use Rattle.letter_diagram.proofs.diagrams.Diagrams.+chosen.Goals as goal

pub returns-then-track-own-clause-remembered : goal.returns-then-track-own-clause-remembered
returns-then-track-own-clause-remembered t c = RemembersChosen-grows c.in_ok-node.ensures.grows c.requires.remembered

pub returns-in-Some-clause-chosen : goal.returns-in-Some-clause-chosen
returns-in-Some-clause-chosen t c = c.requires.remembered.chosen _ _ _ c.in-Some.ensures

made : (t : ℕ) (c : goal.In_ok-insert t) → IsChosen c.node.new.self c.args.track c.args.low c.args.high c.in_ok-node-2.node
made t c =
    let from_on = c.in_ok-node-2.ensures.grows in
    let from_off = Grows-trans c.in_ok-on.ensures.grows from_on in
    let grows = Grows-trans c.in_ok-off.ensures.grows from_off in
    let longer = grows.longer in
    let off = c.in_ok-off.ensures.chosen in
    let on = c.in_ok-on.ensures.chosen in
    let off_known = off.known in
    let on_longer = c.in_ok-on.ensures.grows.longer in
    let low_known = c.requires.low_known in
    let high_known = c.requires.high_known in
    let own : c.min-own.result ≡ top_of_both c.args.self.now c.args.low c.args.high = search rules in
    let before : c.min-own.result < c.args.track = search rules in
    IsChosen-sides c.min-own.result _ c.in_ok-off.off c.in_ok-on.on (omega arith) (omega arith) c.in_ok-node-2.ensures.known before
    (own ∙ sym (top_of_both-grows _ _ grows c.requires.low_known c.requires.high_known))
    (IsSplit-grows c.requires.low_known grows c.split-low_off.ensures.sides) (IsSplit-grows c.requires.high_known grows c.split-high_off.ensures.sides)
    (IsChosen-grows from_off off) (IsChosen-grows from_on on)
    (λ letter. c.in_ok-node-2.ensures.map letter ∙ sym (chosen-grows c.min-own.result _ _ letter (omega arith) on.known from_on)) c.in_ok-node-2.ensures.top

pub returns-clause-chosen : goal.returns-clause-chosen
returns-clause-chosen t c = made t c

pub returns-clause-remembered : goal.returns-clause-remembered
returns-clause-remembered t c =
    RemembersChosen-learn (RemembersChosen-grows c.in_ok-node-2.ensures.grows c.in_ok-on.ensures.remembered)
    c.in_ok-insert.ensures (made t c)

pub returns-in_err-on-clause-grows : goal.returns-in_err-on-clause-grows
returns-in_err-on-clause-grows t c = Grows-trans c.in_ok-off.ensures.grows c.in_err-on.ensures.grows

pub returns-in_err-node-2-clause-grows : goal.returns-in_err-node-2-clause-grows
returns-in_err-node-2-clause-grows t c = Grows-trans (Grows-trans c.in_ok-off.ensures.grows c.in_ok-on.ensures.grows) c.in_err-node-2.ensures.grows

pub returns-in_err-insert-clause-grows : goal.returns-in_err-insert-clause-grows
returns-in_err-insert-clause-grows t c = Grows-trans (Grows-trans c.in_ok-off.ensures.grows c.in_ok-on.ensures.grows) c.in_ok-node-2.ensures.grows

pub returns-clause-grows : goal.returns-clause-grows
returns-clause-grows t c = Grows-trans (Grows-trans c.in_ok-off.ensures.grows c.in_ok-on.ensures.grows) c.in_ok-node-2.ensures.grows
