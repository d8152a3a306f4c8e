use Rattle.std.proofs.Common.{◌≡◌, rules, arith, length, subst}
use Rattle.std.specs.List.{Contains}
use Rattle.std.proofs.lemmas.List.Elements.{Contains-get_or}
use Rattle.auto_refine.proofs.stale.sharing_states.Goals as goal

pub returns-clause-all : goal.returns-clause-all
returns-clause-all c = λ state within shared.
    let states = c.in_ok-states.states.items in
    let count : c.len.result ≡ length c.args.partition.now.classes.items = search rules in
    let size = c.in_ok-states.ensures.size in
    let there = subst (Contains states) (c.in_ok-states.ensures.each state (omega (arith, within, count))) (Contains-get_or states state 0 (omega (arith, within, count, size))) in
    (rw c.as_slice.ensures.value at c.in_ok-sharing.ensures.all) state there shared
