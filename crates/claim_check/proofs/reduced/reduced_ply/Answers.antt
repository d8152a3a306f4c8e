use Rattle.std.proofs.Common.{◌≡◌, List, ◌++◌, ◌∷◌, [], length, map, sym, ◌∙◌, subst, arith}
use Rattle.std.specs.Vec.Iter.{into_iter_len}
use Rattle.std.specs.List.{AllZip}
use Rattle.std.proofs.lemmas.Iterator.Adapters.{YieldsList-from_vec}
use Rattle.std.proofs.lemmas.Iterator.Consumers.{YieldsList-end}
use Rattle.std.proofs.lemmas.List.{map-append, map-id}
use Rattle.std.proofs.lemmas.List.Elements.{AllZip-push}
use Rattle.auto_core.specs.Automaton.{Automaton}
use Rattle.strategy_file.specs.declared.claim.ClaimedSet.{ClaimedSet as SetHere}
use Rattle.strategy_file.specs.ClaimedAutos.{automaton_in}
use Rattle.claim_check.specs.Reduced.{IsReducedOf}
use Rattle.claim_check.proofs.reduced.reduced_ply.Goals as goal

pub loop-set-init : goal.loop-set-init
loop-set-init c =
    let None_so_far : List Automaton → Type 0 = λ l. AllZip IsReducedOf [] l in
    subst None_so_far (sym c.new-reduced.ensures.items) tt

pub loop-set-preserved : goal.loop-set-preserved
loop-set-preserved c =
    let table = λ (s : SetHere). automaton_in s.set in
    let so_far = c.loop-set.yielded in
    let more = AllZip-push IsReducedOf (map table so_far) c.loop-set.reduced.items (table c.in-Some.set) c.in_ok-reduced_set.field-0 c.loop-set.invariant c.in_ok-reduced_set.ensures in
    let Taken : List Automaton → Type 0 = λ l. AllZip IsReducedOf l (c.loop-set.reduced.items ++ c.in_ok-reduced_set.field-0 ∷ []) in
    let Made : List Automaton → Type 0 = λ l. AllZip IsReducedOf (map table (so_far ++ c.in-Some.set ∷ [])) l in
    subst Made (sym c.in_ok-push.ensures.items) (subst Taken (sym (map-append table so_far (c.in-Some.set ∷ []))) more)

pub returns : goal.returns
returns c =
    let table = λ (s : SetHere). automaton_in s.set in
    let gives = c.into_iter-set-iterator.ensures.into_iter_gives in
    let count : into_iter_len c.into_iter-set-iterator.result ≡ length c.args.sets.items = omega (arith, gives.1, c.args.sets.ok.0) in
    let end = YieldsList-end (YieldsList-from_vec {s = c.into_iter-set-iterator.result} c.args.sets.items gives.0 count) c.loop-set.yielded
    c.loop-set.set-iterator c.loop-set.yielded_by c.next.result c.next.new.self c.in-None.is c.next.ensures.steps in
    let all : c.loop-set.yielded ≡ c.args.sets.items = sym (map-id c.loop-set.yielded) ∙ end.0 in
    let Of : List SetHere → Type 0 = λ l. AllZip IsReducedOf (map table l) c.loop-set.reduced.items in
    rw c.new.ensures (subst Of all c.loop-set.invariant)
