use Rattle.std.proofs.Common.{◌≡◌, ◌∙◌, Some, ap, sym, true}
use Rattle.std.proofs.lemmas.Option.{slice_get-get_or}
use Rattle.chess_game.proofs.MaskLemmas.{mask_skip}
use Rattle.chess_game.proofs.board.marked.Goals as goal

pub returns-else-is_live : goal.returns-else-is_live
returns-else-is_live c =
    mask_skip c.args.men.now c.args.index c.args.mask c.index-men-index.result
    (slice_get-get_or c.args.men.now c.args.index c.index-men-index.result c.requires.within ∙ ap Some (sym c.index-men-index.is))
    c.requires.mask (λ live. let yes : c.is_live.result ≡ true = c.is_live.ensures.1 live in cc)
