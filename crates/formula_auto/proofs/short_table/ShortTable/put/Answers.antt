use Rattle.std.proofs.Common.{◌∙◌}
use Rattle.formula_auto.proofs.ShortTables.{short-unchanged, short-put}
use Rattle.formula_auto.proofs.short_table.ShortTable.put.Goals as goal

pub invariant_of-self : goal.invariant_of-self
invariant_of-self c = short-unchanged c.in_err-insert.ensures.err c.self.invariant

pub invariant_of-self-2 : goal.invariant_of-self-2
invariant_of-self-2 c =
    short-put c.hash_of.result (record { formula = c.in_ok-copy.field-0; auto = c.args.auto }) c.self.invariant c.in_ok-insert.ensures.updates (c.self.view_is ∙ c.make_room.ensures) c.in_ok-copy.ensures c.requires
