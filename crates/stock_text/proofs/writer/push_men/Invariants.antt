use Rattle.std.proofs.Common.{◌≡◌, ◌++◌, take}
use Rattle.stock_text.proofs.WriterLemmas.{men_text}
use Rattle.stock_text.proofs.writer.push_men.Given as goal

abbrev pub invariant-loop-man : goal.invariant-loop-man
invariant-loop-man l = l.text.items ≡ l.initial.text.items ++ men_text (take l.man-index l.men)
