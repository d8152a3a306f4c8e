use Rattle.std.proofs.Common.{Err, ap, ◌∙◌}
use Rattle.auto_bool.specs.declared.connective.Connective.TheVariants.{And}
use Rattle.auto_bool.proofs.Spreads.{few_pairs}
use Rattle.formula_auto.proofs.Operands.{joint-made}
use Rattle.formula_auto.proofs.memo.Memo.all_pairs.Goals as goal

pub unreachable-requires : goal.unreachable-requires
unreachable-requires c =
    let room = c.requires.room c.automata.result.0.now c.automata.result.1.now c.automata.ensures.left c.automata.ensures.right in
    let over = c.joined.ensures.over (c.in-Err-Over.is ∙ ap Err c.in-Err-Over.field-0-is) in
    few_pairs c.automata.result.0.now c.automata.result.1.now room.left room.right c.args.self.now.budget room.room (rw c.budget.ensures.is at over)

pub returns-in-Ok : goal.returns-in-Ok
returns-in-Ok c =
    joint-made And c.args.self.now c.args.meets.now c.args.left.now c.args.right.now c.automata.result.0.now c.automata.result.1.now
    c.automata.ensures.left c.automata.ensures.right c.in-Ok.ensures.decides
    (rw c.budget.ensures.is at c.in-Ok.ensures.accessible) (rw c.budget.ensures.is at c.in-Ok.ensures.within)
