use Rattle.std.proofs.Common.{◌≡◌, ℕ, ◌+◌, ◌++◌, ◌∷◌, [], List, length, map, take, ap, sym, ◌∙◌, subst, arith}
use Rattle.std.specs.List.{AllZip}
use Rattle.auto_core.specs.Automaton.{Automaton}
use Rattle.strategy_file.specs.declared.claim.ClaimedSet.{ClaimedSet as SetHere}
use Rattle.strategy_file.specs.ClaimedAutos.{automaton_in}
use Rattle.claim_check.specs.Reduced.{IsReducedOf}
use Rattle.claim_check.proofs.Grouped.{AreBare, Grouped, bare_more, bare_none, grouped_all, grouped_enough, grouped_more, grouped_none}
use Rattle.claim_check.proofs.reduced.reduced_plies.Goals as goal

pub loop-before-init : goal.loop-before-init
loop-before-init c =
    let Bare : List (List Automaton) → Type 0 = λ l. AreBare c.args.masks.now l 0 in
    subst Bare (sym c.new-plies.ensures.items) (bare_none c.args.masks.now)

pub loop-before-preserved : goal.loop-before-preserved
loop-before-preserved c =
    let Bare : List (List Automaton) → Type 0 = λ l. AreBare c.args.masks.now l (c.loop-before._before + 1) in
    subst Bare (sym c.in_ok-push_none.ensures) (bare_more c.args.masks.now c.loop-before.invariant)

pub loop-done-init : goal.loop-done-init
loop-done-init c =
    let all : c.loop-before._before ≡ c.args.losers.first = omega arith in
    let Bare : ℕ → Type 0 = λ n. AreBare c.args.masks.now c.loop-before.plies.items n in
    grouped_none c.args.sets.items c.args.masks.now c.args.losers.first c.args.losers.count (subst Bare all c.loop-before.invariant) c.requires.places

pub split_off-requires : goal.split_off-requires
split_off-requires c =
    let enough = grouped_enough c.args.sets.items c.args.masks.now c.args.losers.first c.args.losers.count c.loop-done._done c.loop-done.left.items
    c.loop-done.plies.items c.loop-done.invariant c.loop-done-test.true in
    omega (arith, enough, c.loop-done.left.ok.0)

pub loop-done-preserved : goal.loop-done-preserved
loop-done-preserved c =
    let masks = c.args.masks.now in
    let here = map (λ (s : SetHere). automaton_in s.set) (take (length masks) c.loop-done.left.items) in
    let taken : AllZip IsReducedOf here c.in_ok-reduced_ply.field-0 = rw c.in_ok-later.ensures.items at c.in_ok-reduced_ply.ensures in
    let Plies : List (List Automaton) → Type 0 = λ l. Grouped c.args.sets.items masks c.args.losers.first c.args.losers.count (c.loop-done._done + 1) c.in_ok-later.later.items l in
    let Left : List SetHere → Type 0 = λ l. Grouped c.args.sets.items masks c.args.losers.first c.args.losers.count (c.loop-done._done + 1) l
    ((c.loop-done.plies.items ++ c.in_ok-reduced_ply.field-0 ∷ []) ++ [] ∷ []) in
    subst Plies (sym (c.in_ok-push_none-2.ensures ∙ ap (λ l. l ++ [] ∷ []) c.in_ok-push.ensures.items))
    (subst Left (sym c.in_ok-later.ensures.tail)
    (grouped_more c.args.sets.items masks c.args.losers.first c.args.losers.count c.loop-done._done c.loop-done.left.items c.loop-done.plies.items
    c.loop-done.invariant c.loop-done-test.true c.in_ok-reduced_ply.field-0 taken))

pub returns : goal.returns
returns c =
    grouped_all c.args.sets.items c.args.masks.now c.args.losers.first c.args.losers.count c.loop-done._done c.loop-done.left.items
    c.loop-done.plies.items c.loop-done.invariant c.loop-done-test.false
