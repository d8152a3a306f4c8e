use Rattle.std.proofs.Common.{◌+◌, ◌∷◌, [], Err, refl, sym, ap, ◌∙◌, arith, rules, length-append}
use Rattle.std.proofs.lemmas.Int.{to_z-of_z, ints}
use Rattle.std.proofs.lemmas.Result.{err_from_is_err_and}
use Rattle.lin_formula.specs.Tree as tree
use Rattle.lin_formula.specs.Tree.{steps}
use Rattle.lin_formula.specs.TreeOf.{tree_of}
use Rattle.lin_formula.specs.SetOf.{tables, members}
use Rattle.formula_auto.specs.Decides.{Decides}
use Rattle.formula_auto.proofs.WithMemo.{remembered_not, interrupted_not, interrupted_at_not, remembered_ex, interrupted_ex, interrupted_at_ex, interrupted_left, interrupted_right, interrupted_at_both, interrupted_memory, interrupted_last, remembered_entered, interrupted_inside, may_enter, unknown_still}
use Rattle.formula_auto.proofs.Connections.{size-connect, ready-connect}
use Rattle.formula_auto.proofs.PartLemmas.{same_few, part-fresh, part-leaf, part-whole, part-found, part-after, lent, lent-reached, lent-few, few_kept, lent-later}
use Rattle.formula_auto.proofs.MemoLemmas.{recalled-plain}
use Rattle.formula_auto.proofs.Operands.{part-joint}
use Rattle.formula_auto.proofs.Pairs.{pair_outside, pair_size, part-paired, may_remember, part-remembered}
use Rattle.formula_auto.proofs.Shorts.{short_part, part-short, after-short}
use Rattle.formula_auto.proofs.Chains.{link-after}
use Rattle.formula_auto.proofs.ChainSteps.{stopped_before, stopped_beside, stopped_at, linked, made-linked}
use Rattle.formula_auto.proofs.memo.Memo.+compiled.Goals as goal

pub recalled-steps_of-requires : goal.recalled-steps_of-requires
recalled-steps_of-requires t c = omega (arith, c.requires.room)

pub recalled-overflow_add-result : goal.recalled-overflow_add-result
recalled-overflow_add-result t c = record { fits = omega (arith, c.requires.room, c.steps_of.ensures) }

pub recalled-returns-in-Some-clause-ok : goal.recalled-returns-in-Some-clause-ok
recalled-returns-in-Some-clause-ok t c =
    rw c.count.ensures (part-found c.requires.recalled (ap (λ n. c.args.standing.before + n) c.steps_of.ensures) c.in-Some.ensures)

pub entered-returns-in_err-made-clause-err : goal.entered-returns-in_err-made-clause-err
entered-returns-in_err-made-clause-err t c =
    let p = err_from_is_err_and c.from_residual.result c.from_residual.ensures.1 in
    rw (p.1, p.2) (interrupted_inside c.args.standing c.requires.recalled c.in_err-made.ensures.err)

pub entered-taken-requires : goal.entered-taken-requires
entered-taken-requires t c = (c.in_ok-made.ensures.ok.auto, c.in_ok-made.ensures.ok.has)

pub entered-returns-in_err-auto-clause-err : goal.entered-returns-in_err-auto-clause-err
entered-returns-in_err-auto-clause-err t c =
    let p = err_from_is_err_and c.from_residual-in_err-auto.result c.from_residual-in_err-auto.ensures.1 in
    rw p.1 (interrupted_inside c.args.standing c.requires.recalled (interrupted_last c.in_ok-made.ensures.ok.remembered p.2))

pub entered-enter-requires-clause-entry : goal.entered-enter-requires-clause-entry
entered-enter-requires-clause-entry t c =
    let made = c.in_ok-made.ensures.ok in
    may_enter c.args.standing c.requires.recalled made.remembered (c.in_ok-auto.ensures.same made.auto made.has) c.in_ok-auto.ensures.reduced
    (few_kept made c.in_ok-auto.auto (recalled-plain c.args.standing.recall (tree_of c.args.f.now) c.requires.recalled) (c.in_ok-auto.ensures.fewer made.auto made.has))

pub entered-enter-requires-clause-unknown : goal.entered-enter-requires-clause-unknown
entered-enter-requires-clause-unknown t c = unknown_still c.args.standing c.requires.recalled c.in_ok-made.ensures.ok.remembered c.requires.unknown

pub entered-returns-in_err-part-clause-err : goal.entered-returns-in_err-part-clause-err
entered-returns-in_err-part-clause-err t c =
    let p = err_from_is_err_and c.from_residual-in_err-part.result c.from_residual-in_err-part.ensures.1 in
    rw (p.1, c.in_err-part.ensures.err) (interrupted_inside c.args.standing c.requires.recalled (interrupted_last c.in_ok-made.ensures.ok.remembered p.2))

pub entered-returns-clause-ok : goal.entered-returns-clause-ok
entered-returns-clause-ok t c =
    let made = c.in_ok-made.ensures.ok in
    let plain = recalled-plain c.args.standing.recall (tree_of c.args.f.now) c.requires.recalled in
    record {
      auto = c.in_ok-auto.auto;
      has = c.in_ok-part.ensures.part c.from_parts.new.meets;
      reached = c.in_ok-auto.ensures.reduced.reached;
      few = λ some. few_kept made c.in_ok-auto.auto plain (c.in_ok-auto.ensures.fewer made.auto made.has);
      remembered = remembered_entered c.args.standing c.requires.recalled made.remembered (c.in_ok-auto.ensures.same made.auto made.has) c.in_ok-part.ensures.ok;
    }

pub from_parts-returns-in_err-auto-in-Lin-clause-err : goal.from_parts-returns-in_err-auto-in-Lin-clause-err
from_parts-returns-in_err-auto-in-Lin-clause-err t c =
    let p = err_from_is_err_and c.from_residual.result c.from_residual.ensures.1 in
    rw p.1 (interrupted_memory p.2)

pub from_parts-returns-in-Lin-clause-ok : goal.from_parts-returns-in-Lin-clause-ok
from_parts-returns-in-Lin-clause-ok t c =
    let said = rw c.as_slice.ensures.items at (c.in_ok-auto-in-Lin.ensures.decides (tables c.args.meets.now.sets)) in
    let decides : Decides c.in_ok-auto-in-Lin.auto (tree.Lin c.in-Lin.terms c.in-Lin.rel c.in-Lin.bound) (members (tables c.args.meets.now.sets)) =
    first_of (grind (arith, to_z-of_z, said), search (rules, ints, to_z-of_z, said)) in
    rw c.in-Lin.is (part-leaf c.fresh.ensures c.in_ok-auto-in-Lin.ensures.reduced.reached refl decides)

pub from_parts-returns-in-Value-clause-ok : goal.from_parts-returns-in-Value-clause-ok
from_parts-returns-in-Value-clause-ok t c =
    let said = c.in_ok-auto-in-Value.ensures.decides (tables c.args.meets.now.sets) in
    let decides : Decides c.in_ok-auto-in-Value.auto (tree.Value c.in-Value.var c.in-Value.value) (members (tables c.args.meets.now.sets)) =
    first_of (grind (arith, to_z-of_z, said), search (rules, ints, to_z-of_z, said)) in
    rw c.in-Value.is (part-leaf c.fresh-in-Value.ensures c.in_ok-auto-in-Value.ensures.reduced.reached refl decides)

pub from_parts-membership-requires : goal.from_parts-membership-requires
from_parts-membership-requires t c =
    let ready = rw c.in-Among.is at c.requires.ready in
    rw c.as_slice-in-Among.ensures ready

pub from_parts-returns-in-Among-clause-ok : goal.from_parts-returns-in-Among-clause-ok
from_parts-returns-in-Among-clause-ok t c =
    let made = rw c.as_slice-in-Among.ensures at c.in_ok-part-in-Among.ensures in
    rw c.in-Among.is (part-whole (made.has c.args.self.now) made.reached refl made.decides)

pub from_parts-returns-in_err-inner-in-Not-clause-err : goal.from_parts-returns-in_err-inner-in-Not-clause-err
from_parts-returns-in_err-inner-in-Not-clause-err t c =
    let p = err_from_is_err_and c.from_residual-in_err-inner-in-Not.result c.from_residual-in_err-inner-in-Not.ensures.1 in
    let outside = rw c.in-Not.is at c.requires.not_recalled in
    let part = rw c.deref.ensures at c.in_err-inner-in-Not.ensures.err in
    rw (c.in-Not.is, p.1, p.2) (interrupted_not outside part)

pub from_parts-returns-in_err-auto-in-Not-clause-err : goal.from_parts-returns-in_err-auto-in-Not-clause-err
from_parts-returns-in_err-auto-in-Not-clause-err t c =
    let p = err_from_is_err_and c.from_residual-in_err-auto-in-Not.result c.from_residual-in_err-auto-in-Not.ensures.1 in
    let outside = rw c.in-Not.is at c.requires.not_recalled in
    let part = rw c.deref.ensures at c.in_ok-inner-in-Not.ensures.ok in
    rw (c.in-Not.is, p.1) (interrupted_at_not outside part.remembered p.2)

pub from_parts-returns-in-Not-clause-ok : goal.from_parts-returns-in-Not-clause-ok
from_parts-returns-in-Not-clause-ok t c =
    let outside = rw c.in-Not.is at c.requires.not_recalled in
    let part = rw c.deref.ensures at c.in_ok-inner-in-Not.ensures.ok in
    rw c.in-Not.is (part-fresh c.fresh-in-Not.ensures (c.in_ok-auto-in-Not.ensures.reached (lent-reached part c.automaton.ensures))
    (λ some. let few = lent-few part c.automaton.result.now c.automaton.ensures some in omega (arith, c.in_ok-auto-in-Not.ensures.fewer, few))
    (remembered_not outside (lent part c.automaton.ensures) c.in_ok-auto-in-Not.ensures.decides))

pub from_parts-returns-in_err-inner-in-Ex-clause-err : goal.from_parts-returns-in_err-inner-in-Ex-clause-err
from_parts-returns-in_err-inner-in-Ex-clause-err t c =
    let p = err_from_is_err_and c.from_residual-in_err-inner-in-Ex.result c.from_residual-in_err-inner-in-Ex.ensures.1 in
    let outside = rw c.in-Ex.is at c.requires.not_recalled in
    let part = rw c.deref-in-Ex.ensures at c.in_err-inner-in-Ex.ensures.err in
    rw (c.in-Ex.is, p.1, p.2) (interrupted_ex outside part)

pub from_parts-overflow_add-step : goal.from_parts-overflow_add-step
from_parts-overflow_add-step t c =
    let room = rw c.in-Ex.is at c.requires.room in
    let part = rw c.deref-in-Ex.ensures at c.in_ok-inner-in-Ex.ensures.ok in
    record { fits = omega (arith, room, part.remembered.counts, length-append (steps (tree_of c.in-Ex.body.value)) (tree.Ex c.in-Ex.var (tree_of c.in-Ex.body.value) ∷ [])) }

pub from_parts-returns-in-Ok-clause-ok : goal.from_parts-returns-in-Ok-clause-ok
from_parts-returns-in-Ok-clause-ok t c =
    let outside = rw c.in-Ex.is at c.requires.not_recalled in
    let part = rw c.deref-in-Ex.ensures at c.in_ok-inner-in-Ex.ensures.ok in
    let within = rw c.budget.ensures.is at c.in-Ok.ensures.within in
    rw c.in-Ex.is (part-fresh c.fresh-in-Ok.ensures c.in-Ok.ensures.accessible.reached
    (λ some. same_few c.in-Ok.auto (c.budget.ensures.is ∙ part.remembered.after.budget) c.in-Ok.ensures.accessible.few)
    (remembered_ex outside (lent part c.automaton-auto.ensures) c.in-Ok.ensures.decides within))

pub from_parts-returns-clause-err : goal.from_parts-returns-clause-err
from_parts-returns-clause-err t c =
    let outside = rw c.in-Ex.is at c.requires.not_recalled in
    let part = rw c.deref-in-Ex.ensures at c.in_ok-inner-in-Ex.ensures.ok in
    rw (c.in-Ex.is, c.at.ensures) (interrupted_at_ex outside (lent part c.automaton-auto.ensures) c.in-Err.why (λ over. rw c.budget.ensures.is at (c.in-Err.ensures.over (ap Err over))))

pub both-returns-in_err-left-clause-err : goal.both-returns-in_err-left-clause-err
both-returns-in_err-left-clause-err t c =
    let p = err_from_is_err_and c.from_residual.result c.from_residual.ensures.1 in
    rw (p.1, p.2) (interrupted_left c.args.pair c.requires.not_recalled c.requires.one_step c.in_err-left.ensures.err)

pub both-compiled-requires-2 : goal.both-compiled-requires-2
both-compiled-requires-2 t c =
    let left = c.in_ok-left.ensures.ok.remembered.counts in
    let size = size-connect c.args.pair.connective (tree_of c.args.pair.left.now) (tree_of c.args.pair.right.now) in
    let ready = ready-connect c.args.pair.connective (tree_of c.args.pair.left.now) (tree_of c.args.pair.right.now) c.args.meets.now.sets c.requires.ready in
    let grows = c.compiled.ensures.grows in
    let same = grows.budget ∙ (c.requires.same_budget ∙ sym c.in_ok-left.ensures.ok.remembered.after.budget) in
    (search rules, (same, (rw grows.sets ready.2, omega (arith, c.requires.room, left, size))))

pub both-returns-in_err-right-clause-err : goal.both-returns-in_err-right-clause-err
both-returns-in_err-right-clause-err t c =
    let p = err_from_is_err_and c.from_residual-in_err-right.result c.from_residual-in_err-right.ensures.1 in
    rw (p.1, p.2) (interrupted_right c.args.pair c.requires.not_recalled c.requires.one_step c.in_ok-left.ensures.ok.remembered (rw c.compiled.ensures.grows.sets at c.in_err-right.ensures.err))

pub both-overflow_add-step : goal.both-overflow_add-step
both-overflow_add-step t c =
    let left = c.in_ok-left.ensures.ok.remembered.counts in
    let right = c.in_ok-right.ensures.ok.remembered.counts in
    let size = size-connect c.args.pair.connective (tree_of c.args.pair.left.now) (tree_of c.args.pair.right.now) in
    record { fits = omega (arith, c.requires.room, left, right, size) }

pub both-combine-requires-clause-left : goal.both-combine-requires-clause-left
both-combine-requires-clause-left t c =
    let left = c.in_ok-left.ensures.ok in
    (left.auto, part-after c.in_ok-left.left.part left.auto left.has c.in_ok-right.ensures.ok.remembered.after c.compiled-2.ensures.grows)

pub both-combine-requires-clause-right : goal.both-combine-requires-clause-right
both-combine-requires-clause-right t c = (c.in_ok-right.ensures.ok.auto, c.in_ok-right.ensures.ok.has)

pub both-combine-requires-clause-room : goal.both-combine-requires-clause-room
both-combine-requires-clause-room t c = λ a b has_left has_right.
    let left = lent-later c.in_ok-left.ensures.ok c.in_ok-right.ensures.ok.remembered.after c.compiled-2.ensures.grows has_left in
    let right = lent (rw c.compiled.ensures.grows.sets at c.in_ok-right.ensures.ok) has_right in
    rw (left.made.decides.tracks, right.made.decides.tracks)
    (ready-connect c.args.pair.connective (tree_of c.args.pair.left.now) (tree_of c.args.pair.right.now) c.args.meets.now.sets c.requires.ready).0

pub both-returns-in-Ok-clause-ok : goal.both-returns-in-Ok-clause-ok
both-returns-in-Ok-clause-ok t c =
    let right = rw c.compiled.ensures.grows.sets at c.in_ok-right.ensures.ok in
    rw c.of.ensures
    (part-joint c.args.pair c.requires.not_recalled c.requires.one_step c.in_ok-left.ensures.ok right c.in-Ok.joint c.compiled-2.ensures.grows c.in-Ok.ensures.ok)

pub both-returns-in-Err-clause-err : goal.both-returns-in-Err-clause-err
both-returns-in-Err-clause-err t c =
    let first = c.in_ok-left.ensures.ok in
    let second = c.in_ok-right.ensures.ok in
    let still = part-after c.in_ok-left.left.part first.auto first.has second.remembered.after c.compiled-2.ensures.grows in
    let right = lent (rw c.compiled.ensures.grows.sets at second) second.has in
    rw c.at.ensures (interrupted_at_both c.args.pair c.requires.not_recalled c.requires.one_step first.remembered right c.in-Err.why
    (λ over. c.in-Err.ensures.over (ap Err over) first.auto second.auto still second.has))

pub paired-overflow_add-result : goal.paired-overflow_add-result
paired-overflow_add-result t c = record { fits = omega (arith, c.requires.room, pair_size (tree_of c.args.f.now) c.requires.pair) }

pub paired-returns-in-Some-clause-ok : goal.paired-returns-in-Some-clause-ok
paired-returns-in-Some-clause-ok t c = part-paired (tree_of c.args.f.now) c.requires.pair c.args.standing c.args.self.now c.args.meets.now c.requires.same_budget c.in-Some.ensures

pub paired-from_parts-requires : goal.paired-from_parts-requires
paired-from_parts-requires t c = (search rules, (pair_outside (tree_of c.args.f.now) c.requires.pair c.args.standing.recall, (c.requires.same_budget, (c.requires.ready, c.requires.room))))

pub paired-given-requires : goal.paired-given-requires
paired-given-requires t c = (c.in_ok-made.ensures.ok.auto, c.in_ok-made.ensures.ok.has)

pub paired-remember-requires : goal.paired-remember-requires
paired-remember-requires t c = may_remember (tree_of c.args.f.now) c.requires.pair c.in_ok-made.ensures.ok c.requires.same_budget c.from_parts.ensures.grows c.in_ok-auto.ensures

pub paired-returns-in_err-made-clause-err : goal.paired-returns-in_err-made-clause-err
paired-returns-in_err-made-clause-err t c =
    let p = err_from_is_err_and c.from_residual.result c.from_residual.ensures.1 in
    rw (p.1, p.2) c.in_err-made.ensures.err

pub paired-returns-in_err-auto-clause-err : goal.paired-returns-in_err-auto-clause-err
paired-returns-in_err-auto-clause-err t c =
    let p = err_from_is_err_and c.from_residual-in_err-auto.result c.from_residual-in_err-auto.ensures.1 in
    rw p.1 (interrupted_last c.in_ok-made.ensures.ok.remembered p.2)

pub paired-returns-in_err-place-clause-err : goal.paired-returns-in_err-place-clause-err
paired-returns-in_err-place-clause-err t c =
    let p = err_from_is_err_and c.from_residual-in_err-place.result c.from_residual-in_err-place.ensures.1 in
    rw p.1 (interrupted_last c.in_ok-made.ensures.ok.remembered p.2)

pub paired-returns-clause-ok : goal.paired-returns-clause-ok
paired-returns-clause-ok t c = part-remembered (tree_of c.args.f.now) c.requires.pair c.in_ok-made.ensures.ok c.in_ok-auto.ensures c.in_ok-place.ensures.there

pub shared-steps_of-requires : goal.shared-steps_of-requires
shared-steps_of-requires t c = omega (arith, c.requires.room)

pub shared-overflow_add-result : goal.shared-overflow_add-result
shared-overflow_add-result t c = record { fits = omega (arith, c.requires.room, c.steps_of.ensures) }

pub shared-returns-in-Some-clause-ok : goal.shared-returns-in-Some-clause-ok
shared-returns-in-Some-clause-ok t c =
    part-short (record { auto = c.in-Some.auto.value; has = refl; short = c.in-Some.ensures }) (ap (λ n. c.args.standing.before + n) c.steps_of.ensures)
    (after-short c.args.standing.recall (tree_of c.args.f.now) c.args.self.now c.requires.short c.requires.not_recalled)

pub shared-returns-in_err-made-clause-err : goal.shared-returns-in_err-made-clause-err
shared-returns-in_err-made-clause-err t c =
    let p = err_from_is_err_and c.from_residual.result c.from_residual.ensures.1 in
    rw (p.1, p.2) c.in_err-made.ensures.err

pub shared-keep_short-requires : goal.shared-keep_short-requires
shared-keep_short-requires t c = short_part c.requires.short c.in_ok-made.ensures.ok

pub shared-returns-in_err-part-clause-err : goal.shared-returns-in_err-part-clause-err
shared-returns-in_err-part-clause-err t c =
    let p = err_from_is_err_and c.from_residual-in_err-part.result c.from_residual-in_err-part.ensures.1 in
    rw (p.1, c.keep_short.ensures.same) (interrupted_last c.in_ok-made.ensures.ok.remembered p.2)

pub shared-returns-clause-ok : goal.shared-returns-clause-ok
shared-returns-clause-ok t c =
    let made = c.in_ok-made.ensures.ok.remembered in
    part-short c.in_ok-part.ensures.kept made.counts (rw c.keep_short.ensures.same made.after)

pub chained-returns-clause-ok : goal.chained-returns-clause-ok
chained-returns-clause-ok t c = made-linked c.in_ok-link.ensures.ok c.in_ok-made.ensures

pub linked-returns-in_err-left-clause-err : goal.linked-returns-in_err-left-clause-err
linked-returns-in_err-left-clause-err t c =
    let p = err_from_is_err_and c.from_residual.result c.from_residual.ensures.1 in
    rw (p.1, p.2) (stopped_before c.args.extension c.requires.extension c.in_err-left.ensures.err)

pub linked-returns-in_err-right-clause-err : goal.linked-returns-in_err-right-clause-err
linked-returns-in_err-right-clause-err t c =
    let p = err_from_is_err_and c.from_residual-in_err-right.result c.from_residual-in_err-right.ensures.1 in
    let left = c.in_ok-left.ensures.ok in
    rw (p.1, p.2) (stopped_beside c.args.extension c.requires.extension left.remembered (rw (c.begun.ensures.grows.sets, c.done.ensures) at c.in_err-right.ensures.err))

pub linked-lengthened-requires-clause-left : goal.linked-lengthened-requires-clause-left
linked-lengthened-requires-clause-left t c =
    let f = tree_of c.args.extension.left.now in
    let e = tables c.args.meets.now.sets in
    record {
      left = f;
      sets = e;
      is = link-after f e c.in_ok-right.ensures.ok.remembered.after c.compiled.ensures.grows c.in_ok-left.left c.in_ok-left.ensures.ok.is;
      fits = c.requires.ready.0;
    }

pub linked-lengthened-requires-clause-short : goal.linked-lengthened-requires-clause-short
linked-lengthened-requires-clause-short t c = short_part c.requires.extension.short c.in_ok-right.ensures.ok

pub linked-returns-in_err-link-clause-err : goal.linked-returns-in_err-link-clause-err
linked-returns-in_err-link-clause-err t c =
    let p = err_from_is_err_and c.from_residual-in_err-link.result c.from_residual-in_err-link.ensures.1 in
    let f = tree_of c.args.extension.left.now in
    let e = tables c.args.meets.now.sets in
    let left = c.in_ok-left.ensures.ok in
    let right = rw (c.begun.ensures.grows.sets, c.done.ensures) at c.in_ok-right.ensures.ok in
    let still = link-after f e c.in_ok-right.ensures.ok.remembered.after c.compiled.ensures.grows c.in_ok-left.left left.is in
    rw (p.1, p.2, c.lengthened.ensures.same) (stopped_at c.args.extension c.requires.extension left.remembered right.remembered c.compiled.new.meets c.in_ok-left.left still c.in_err-link.ensures.err)

pub linked-returns-clause-ok : goal.linked-returns-clause-ok
linked-returns-clause-ok t c =
    let f = tree_of c.args.extension.left.now in
    let e = tables c.args.meets.now.sets in
    let left = c.in_ok-left.ensures.ok in
    let right = rw (c.begun.ensures.grows.sets, c.done.ensures) at c.in_ok-right.ensures.ok in
    let still = link-after f e c.in_ok-right.ensures.ok.remembered.after c.compiled.ensures.grows c.in_ok-left.left left.is in
    rw c.lengthened.ensures.same (linked c.args.extension c.requires.extension left.remembered right.remembered c.compiled.new.meets c.in_ok-left.left still refl c.requires.ready.0 c.in_ok-link.ensures.ok)
