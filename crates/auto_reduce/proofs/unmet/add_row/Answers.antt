use Rattle.std.proofs.Common.{subst}
use Rattle.auto_reduce.specs.declared.unmet.Unmet.TheVariants.{Nothing}
use Rattle.auto_reduce.specs.Unmet.{Finds, AreDoneWith, canonical_at}
use Rattle.auto_reduce.proofs.Unmets.{AddsRow-none, AddsRow-one, AreDone-from_none, AreDone-from_one}
use Rattle.auto_reduce.proofs.unmet.add_row.Goals as goal

pub returns-in-Nothing-clause-adds : goal.returns-in-Nothing-clause-adds
returns-in-Nothing-clause-adds c =
    let row = canonical_at c.args.rows.now c.args.row in
    AddsRow-none (subst (Finds c.args.order.now Nothing row) c.in-Nothing.is c.in_ok-unmet.ensures.finds)

pub returns-in-Nothing-clause-done : goal.returns-in-Nothing-clause-done
returns-in-Nothing-clause-done c =
    AreDone-from_none (canonical_at c.args.rows.now) c.args.order.now c.unmet_states.new.kept.done
    (subst (λ unmet. AreDoneWith (canonical_at c.args.rows.now) c.args.order.now unmet c.unmet_states.new.kept.done) c.in-Nothing.is c.in_ok-unmet.ensures.done)

pub returns-in_ok-add-in-One-clause-adds : goal.returns-in_ok-add-in-One-clause-adds
returns-in_ok-add-in-One-clause-adds c =
    let row = canonical_at c.args.rows.now c.args.row in
    AddsRow-one c.in-One.state (subst (Finds c.args.order.now Nothing row) c.in-One.is c.in_ok-unmet.ensures.finds) c.in_ok-add-in-One.ensures.adds

pub returns-in_ok-add-in-One-clause-done : goal.returns-in_ok-add-in-One-clause-done
returns-in_ok-add-in-One-clause-done c =
    AreDone-from_one (canonical_at c.args.rows.now) c.in-One.state c.unmet_states.new.kept.done c.in_ok-add-in-One.ensures.adds
    (subst (λ unmet. AreDoneWith (canonical_at c.args.rows.now) c.args.order.now unmet c.unmet_states.new.kept.done) c.in-One.is c.in_ok-unmet.ensures.done)
