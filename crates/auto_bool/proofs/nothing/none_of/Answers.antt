use Rattle.std.proofs.Common.{◌≡◌, ◌∷◌, [], false, rules}
use Rattle.auto_bool.proofs.SingleStates.{IsNoneOf-single}
use Rattle.auto_bool.proofs.nothing.none_of.Goals as goal

pub returns : goal.returns
returns c =
    let made = c.from_diagrams.ensures in
    let tracks : c.from_diagrams.result.tracks ≡ c.args.a.now.tracks = search (rules, made.tracks) in
    let accept : c.from_diagrams.result.accept ≡ false ∷ [] = search (rules, made.accept) in
    IsNoneOf-single c.args.a.now c.from_diagrams.result made.valid tracks accept
