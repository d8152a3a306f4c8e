use Rattle.std.proofs.Common.{◌∙◌}
use Rattle.lin_formula.specs.TreeOf.{tree_of}
use Rattle.formula_auto.proofs.MeetLemmas.{meets-pushed, grows-pushed, there-pushed}
use Rattle.formula_auto.proofs.meet_table.MeetTable.remember.Goals as goal

pub invariant_of-self-2 : goal.invariant_of-self-2
invariant_of-self-2 c =
    meets-pushed c.self.inside.sets.now c.self.inside.budget c.self.inside.pairs.items c.args.self.now c.self.view_is
    c.push.new.self.items (record { formula = c.in_ok-copy.field-0; auto = c.args.auto }) c.in_ok-push.ensures.items
    (tree_of c.args.f.now) c.in_ok-copy.ensures c.self.invariant c.requires

pub returns-clause-grows : goal.returns-clause-grows
returns-clause-grows c =
    grows-pushed c.self.inside.sets.now c.self.inside.budget c.self.inside.pairs.items c.args.self.now c.self.view_is
    c.push.new.self.items (record { formula = c.in_ok-copy.field-0; auto = c.args.auto }) c.in_ok-push.ensures.items

pub returns-clause-there : goal.returns-clause-there
returns-clause-there c =
    there-pushed c.self.inside.sets.now c.self.inside.budget c.self.inside.pairs.items c.args.self.now c.self.view_is
    c.push.new.self.items (record { formula = c.in_ok-copy.field-0; auto = c.args.auto }) c.in_ok-push.ensures.items
    c.len-place.result (c.len-place.ensures ∙ c.self.inside.pairs.ok.0)
