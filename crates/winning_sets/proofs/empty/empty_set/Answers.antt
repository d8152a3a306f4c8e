use Rattle.std.proofs.Common.{false, List, Bool, [], ◌∷◌, ◌++◌, ap, ◌∙◌}
use Rattle.winning_sets.proofs.Empties.{empty_on}
use Rattle.winning_sets.proofs.empty.empty_set.Goals as goal

pub returns : goal.returns
returns c =
    let flags = c.in_ok-push-2.ensures.items ∙ ap (λ (l : List Bool). l ++ false ∷ []) c.new-flags.ensures.items in
    empty_on c.args.tracks.items c.from_diagrams.result c.from_diagrams.ensures.tracks (c.from_diagrams.ensures.accept ∙ flags) c.from_diagrams.ensures.valid
