use Rattle.std.proofs.Common.{Ok, Err, sym, subst}
use Rattle.chess_text.specs.declared.grammar.Grammar.{Grammar}
use Rattle.desk_text.specs.Text.{problems, texts_of}
use Rattle.desk_text.specs.TextRead.{TextReadOf}
use Rattle.desk_text.specs.declared.problem.Problem.{Problem}
use Rattle.desk_text.proofs.Said.{read_said}
use Rattle.desk_text.proofs.text.read_problem.Goals as goal

pub returns-in-Ok-clause-reads : goal.returns-in-Ok-clause-reads
returns-in-Ok-clause-reads g c =
    let pending = c.read_text.new.reader.pending in
    let before = g.S.Source.left c.args.source.now in
    let after = g.S.Source.left c.read_text.new.source in
    let Of : Grammar → Type 0 = λ k. TextReadOf (texts_of k) (Ok c.in-Ok.text) pending before after in
    let Says : Problem → Type 0 = λ p. TextReadOf problems (Ok p) pending before after in
    subst Says (sym c.problem_of.ensures) (read_said problems (Ok c.in-Ok.text) pending before after (subst Of c.positions.ensures c.in-Ok.ensures.reads))

pub returns-in-Err-clause-reads : goal.returns-in-Err-clause-reads
returns-in-Err-clause-reads g c =
    let pending = c.read_text.new.reader.pending in
    let before = g.S.Source.left c.args.source.now in
    let after = g.S.Source.left c.read_text.new.source in
    let Of : Grammar → Type 0 = λ k. TextReadOf (texts_of k) (Err c.in-Err.end) pending before after in
    read_said problems (Err c.in-Err.end) pending before after (subst Of c.positions.ensures c.in-Err.ensures.reads)
