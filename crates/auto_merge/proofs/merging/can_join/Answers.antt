use Rattle.std.proofs.Common.{◌≡◌, arith, ap, inl}
use Rattle.std.proofs.lemmas.Grind.{common_steps}
use Rattle.letter_diagram.specs.Diagram.{map_at}
use Rattle.auto_walk.proofs.RowLemmas.{Extends-refl}
use Rattle.auto_merge.proofs.Classes.{CanJoin-agrees}
use Rattle.auto_merge.proofs.Mergings.{owner_at, owner_within, flags_agree}
use Rattle.auto_merge.proofs.merging.can_join.Goals as goal

pub is_final-requires-clause-known : goal.is_final-requires-clause-known
is_final-requires-clause-known g c =
    let m = c.requires.merging in
    owner_within m.classes c.args.class c.index-owner.result.now (owner_at c.args.merging.now.owners.items c.args.class c.index-owner.result.now c.requires.known c.index-owner.ensures)

pub returns-then-key : goal.returns-then-key
returns-then-key g c = λ can.
    let at = owner_at c.args.merging.now.owners.items c.args.class c.index-owner.result.now c.requires.known c.index-owner.ensures in
    let row = rw c.in-Some.is at c.whole_row.ensures in
    let same : c.is_final.result ≡ c.is_final-2.result = let no = c.if-is_final.false in grind (arith, common_steps, no) in
    let equal : c.args.key.now.node ≡ c.in-Some.row = grind (arith, common_steps, can, c.eq.ensures) in
    CanJoin-agrees at c.requires.key row
    (flags_agree (g.R.RowSource.graph c.args.rows.now).walker c.index-owner.result.now c.args.number (Extends-refl (g.R.RowSource.places c.args.rows.now c.args.merging.now.led.seen)) c.is_final.ensures c.is_final-2.ensures same)
    (record { at = λ letter. inl (ap (λ node. map_at c.args.merging.now.led.to node letter) equal) })

pub returns : goal.returns
returns g c = λ can.
    let at = owner_at c.args.merging.now.owners.items c.args.class c.index-owner.result.now c.requires.known c.index-owner.ensures in
    let row = rw c.in-Some.is at c.whole_row.ensures in
    let same : c.is_final.result ≡ c.is_final-2.result = let no = c.if-is_final.false in grind (arith, common_steps, no) in
    CanJoin-agrees at c.requires.key row
    (flags_agree (g.R.RowSource.graph c.args.rows.now).walker c.index-owner.result.now c.args.number (Extends-refl (g.R.RowSource.places c.args.rows.now c.args.merging.now.led.seen)) c.is_final.ensures c.is_final-2.ensures same)
    (c.agrees.ensures.agrees can)
