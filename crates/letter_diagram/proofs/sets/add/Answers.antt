use Rattle.std.proofs.Common.{◌≡◌, ◌<◌, length, map, ap, ◌∙◌, [], ◌∷◌, arith}
use Rattle.std.proofs.lemmas.List.{length-map, map-append}
use Rattle.letter_diagram.specs.OpenTable.{free}
use Rattle.letter_diagram.proofs.OpenTables.{IsHashed-push}
use Rattle.letter_diagram.proofs.sets.add.Goals as goal

pub returns-clause-hashed : goal.returns-clause-hashed
returns-clause-hashed c =
    let few = length-map c.args.sets.now.items (λ s. s.items) in
    let last : c.len-number.result ≡ length (map (λ s. s.items) c.args.sets.now.items) = omega (arith, few) in
    let room : length (map (λ s. s.items) c.args.sets.now.items) < free = omega (arith, few, c.requires.room) in
    let more = ap (map (λ s. s.items)) c.in_ok-push.ensures.items ∙ map-append (λ s. s.items) c.args.sets.now.items (c.args.set ∷ []) in
    rw (last, more) (IsHashed-push c.args.set.items c.args.place c.requires.hashed c.requires.first room)
