use Rattle.std.proofs.Common.{List, ℕ, length, map, string_bytes, drop, take, ◌-◌, subst}
use Rattle.desk_args.specs.Order.{OrderedBy, Ordered, rows}
use Rattle.desk_args.proofs.Words.{behind}
use Rattle.desk_args.proofs.order.order_of.Goals as goal

pub returns-in-len1-up-clause-ordered : goal.returns-in-len1-up-clause-ordered
returns-in-len1-up-clause-ordered c =
    let words = c.as_slice.result.now in
    let By : List ℕ → Type 0 = λ name. OrderedBy rows name (map string_bytes (take (length words - 1) (drop 1 words))) c.order_named.result in
    let named = subst By c.as_str.ensures.value c.order_named.ensures.ordered in
    let ordered : Ordered (map string_bytes words) c.order_named.result =
    behind string_bytes c.order_named.result words c.word-item.result c.in-len1-up.len_at_least c.word-item.is named in
    rw (← c.as_slice.ensures.value) ordered
