use Rattle.std.proofs.Common.{string_bytes, Err, rules, subst}
use Rattle.desk_args.specs.Order.{ReadsNumber}
use Rattle.desk_args.proofs.Words.{moves_refused}
use Rattle.desk_args.proofs.order.read_moves_name_and_budget.Goals as goal

pub returns-in_err-moves-in-len3-clause-reads : goal.returns-in_err-moves-in-len3-clause-reads
returns-in_err-moves-in-len3-clause-reads c =
    let why = c.in_err-moves-in-len3.field-0.0 in
    let reads = subst (λ word. ReadsNumber word 0 20 (Err why)) c.as_str-in-len3.ensures.value c.in_err-moves-in-len3.ensures in
    moves_refused string_bytes _ why c.args.words.now c.moves-item-then-words-lt4.result c.in-len3.len_at_least c.in-len3.len_below c.moves-item-then-words-lt4.is reads (search rules)
