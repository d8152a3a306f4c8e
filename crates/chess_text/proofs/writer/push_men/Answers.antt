use Rattle.std.proofs.Common.{◌≡◌, ◌∷◌, [], ◌++◌, take, Some, slice_get, ap, sym, ◌∙◌, append_assoc, add-one}
use Rattle.chess_text.specs.ManLine.{man_text}
use Rattle.chess_text.proofs.TextLemmas.{men_text, men_text-suc}
use Rattle.chess_text.proofs.writer.push_men.Goals as goal

pub loop-index-preserved : goal.loop-index-preserved
loop-index-preserved c =
    let men = c.args.p.now.men in
    let before = c.args.text.now.items in
    let at : slice_get men c.loop-index.index ≡ Some c.man.result = rw add-one at c.man.ensures in
    let line : c.as_slice.result.now ≡ man_text c.man.result = c.as_slice.ensures ∙ c.man_line.ensures in
    rw add-one
    (c.in_ok-push_line.ensures
    ∙ ap (λ l. c.loop-index.text.items ++ (l ++ 10 ∷ [])) line
    ∙ ap (λ t. t ++ (man_text c.man.result ++ 10 ∷ [])) c.loop-index.invariant
    ∙ append_assoc before (men_text (take c.loop-index.index men)) (man_text c.man.result ++ 10 ∷ [])
    ∙ ap (λ t. before ++ t) (sym (men_text-suc men c.loop-index.index c.man.result at)))
