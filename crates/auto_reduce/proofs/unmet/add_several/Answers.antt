use Rattle.std.proofs.Common.{◌≡◌, get_or, Contains, sym, ap, ◌∙◌, subst}
use Rattle.std.proofs.lemmas.List.Elements.{Contains-get_or}
use Rattle.auto_reduce.specs.Unmet.{canonical_at}
use Rattle.auto_reduce.proofs.Unmets.{AddsRow-pruned, AreDone-more}
use Rattle.auto_reduce.proofs.unmet.add_several.Goals as goal

pub pruned-requires-clause-met : goal.pruned-requires-clause-met
pruned-requires-clause-met c =
    let made = c.in_ok-leaf.ensures in
    let met = c.args.order.now in
    let first : get_or c.as_slice.result.now 0 0 ≡ get_or met 0 0 = ap (λ l. get_or l 0 0) c.as_slice.ensures.states in
    record {
      known = made.known;
      top = made.top;
      is_met = λ letter. subst (Contains met) (sym (made.map letter ∙ first)) (Contains-get_or met 0 0 c.requires.some);
    }

pub returns-clause-adds : goal.returns-clause-adds
returns-clause-adds c =
    let leaves = c.in_ok-leaves.leaves.items in
    let added = rw c.as_slice-2.ensures.value at c.in_ok-add_all.ensures.adds in
    AddsRow-pruned c.pruned.new.to (canonical_at c.args.rows.now c.args.row) c.in_ok-unmet.unmet c.args.order.now c.add_all.new.self
    leaves c.in_ok-unmet.ensures.pruned.map c.in_ok-leaves.ensures added c.add_all.ensures.different

pub returns-clause-done : goal.returns-clause-done
returns-clause-done c = AreDone-more c.in_ok-add_all.ensures.adds c.in_ok-unmet.ensures.done
