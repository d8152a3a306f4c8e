use Rattle.std.proofs.Common.{◌≡◌, ◌++◌, take}
use Rattle.chess_text.proofs.TextLemmas.{men_text}
use Rattle.chess_text.proofs.writer.push_men.Given as goal

abbrev pub invariant-loop-index : goal.invariant-loop-index
invariant-loop-index l = l.text.items ≡ l.initial.text.items ++ men_text (take l.index l.p.men)
