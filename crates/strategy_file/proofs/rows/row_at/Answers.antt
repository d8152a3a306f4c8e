use Rattle.std.proofs.Common.{◌≡◌, ◌++◌, List, ℕ, ap, subst, sym, ◌∙◌}
use Rattle.strategy_file.specs.Reading.{taken}
use Rattle.strategy_file.specs.Rests.{left_of}
use Rattle.strategy_file.specs.States.{AreEntries}
use Rattle.strategy_file.specs.Tables.{row_layout}
use Rattle.strategy_file.proofs.Repeats.{entries_give, ok_behind}
use Rattle.strategy_file.proofs.rows.row_at.Goals as goal

pub returns-clause-are : goal.returns-clause-are
returns-clause-are c =
    let read =
    ok_behind c.in_ok-row.row.items c.push_row.new.row.items (taken (row_layout c.args.tracks c.args.states) c.args.rest.at c.args.rest.bytes.now)
    (left_of c.in_ok-rest.rest) c.in_ok-rest.ensures in
    let row : List ℕ = read.0 in
    let same : c.push_row.new.row.items ≡ row = read.2 ∙ ap (λ front. front ++ row) c.in_ok-row.ensures.items in
    subst (AreEntries c.args.tracks c.args.states) (sym same) (entries_give c.args.tracks c.args.states c.args.rest.at c.args.rest.bytes.now (row, left_of c.in_ok-rest.rest) c.requires.some read.1)
