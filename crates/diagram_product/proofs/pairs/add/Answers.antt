use Rattle.std.proofs.Common.{◌≡◌, ◌<◌, length, arith, rules}
use Rattle.letter_diagram.specs.OpenTable.{free}
use Rattle.letter_diagram.proofs.OpenTables.{IsHashed-push, last-number}
use Rattle.diagram_product.proofs.pairs.add.Goals as goal

pub returns-clause-hashed : goal.returns-clause-hashed
returns-clause-hashed c =
    let last : c.len-number.result ≡ length c.args.pairs.now.items = search rules in
    let room : length c.args.pairs.now.items < free = omega (arith, c.requires.room) in
    rw (last, c.in_ok-push.ensures.items) (IsHashed-push c.args.pair c.args.place c.requires.hashed c.requires.first room)

pub returns-clause-number : goal.returns-clause-number
returns-clause-number c =
    let last : c.len-number.result ≡ length c.args.pairs.now.items = search rules in
    rw (last, c.in_ok-push.ensures.items) (last-number c.args.pairs.now.items c.args.pair)
