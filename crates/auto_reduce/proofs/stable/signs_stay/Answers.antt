use Rattle.std.proofs.Common.{◌≡◌, ◌∙◌, arith, sym, ap, subst, refl, get_or, length, inl, inr}
use Rattle.std.proofs.lemmas.Bool.{cases_lt, false≢true}
use Rattle.letter_diagram.specs.Diagram.{Grows}
use Rattle.letter_diagram.specs.Leaves.{AreLeaves}
use Rattle.letter_diagram.proofs.Maps.{Grows-refl, Grows-trans}
use Rattle.auto_reduce.proofs.Stables.{IsKept, DecidesIntegers-kept, IsKept-stable, IsKept-row, row-IsKept, IsKept-leaves, leaf_within}
use Rattle.auto_reduce.proofs.stable.signs_stay.Goals as goal

pub loop-state-init : goal.loop-state-init
loop-state-init c = record {
  grows = subst (Grows c.args.m.now.shapes) (sym (c.in_ok-diagrams.ensures ∙ c.diagrams.ensures.shapes)) (Grows-refl c.args.m.now.shapes);
  kept = λ k none. absurd (omega (arith, none));
}

pub row_node-row-requires : goal.row_node-row-requires
row_node-row-requires c =
    let is = c.in_ok-diagrams.ensures ∙ c.diagrams.ensures.shapes in
    let are = subst (λ s. AreLeaves s c.first_node-first.result c.in_ok-states.states.items) is c.in_ok-states.ensures in
    rw c.as_slice-state-items.ensures.value
    (leaf_within (length c.args.m.now.accept) are c.first_node-first.ensures.within c.loop-state.state-index
    (let l = ap length c.as_slice-state-items.ensures.value in omega (arith, l, c.loop-state-test.true)))

pub loop-state-preserved : goal.loop-state-preserved
loop-state-preserved c =
    let m = c.args.m.now in
    let first = c.first_node-first in
    let row = c.row_node-row in
    let state = get_or c.as_slice-state-items.result.now c.loop-state.state-index 0 in
    let before = c.loop-state.invariant in
    let here : IsKept m state = IsKept-row m m.shapes c.loop-state.diagrams first.result row.result state before.grows first.ensures.known
    row.ensures.known first.ensures.narrow row.ensures.narrow first.ensures.map row.ensures.map
    (c.in_ok-keeps.ensures.keeps.0 c.if-not-branch.false) in
    record {
      grows = Grows-trans before.grows c.keeps.ensures.grows;
      kept = λ k less. elim (cases_lt k c.loop-state.state-index) [
        | inl low ↦ before.kept k low
        | inr past ↦ let same : c.loop-state.state-index ≡ k = omega (arith, less, past) in subst (λ n. IsKept m (get_or c.as_slice-state-items.result.now n 0)) same here
      ];
    }

pub returns-then-not-branch : goal.returns-then-not-branch
returns-then-not-branch c =
    let m = c.args.m.now in
    let first = c.first_node-first in
    let row = c.row_node-row in
    let state = get_or c.as_slice-state-items.result.now c.loop-state.state-index 0 in (
      λ e. absurd (false≢true e),
      λ d. absurd (false≢true (sym c.if-not-branch.true ∙ c.in_ok-keeps.ensures.keeps.1
          (row-IsKept m m.shapes c.loop-state.diagrams first.result row.result state c.loop-state.invariant.grows first.ensures.known
          row.ensures.known first.ensures.narrow row.ensures.narrow first.ensures.map row.ensures.map
          (IsKept-stable m c.requires.valid c.requires.reduced d state)))),
    )

pub returns : goal.returns
returns c =
    let m = c.args.m.now in
    let is = c.in_ok-diagrams.ensures ∙ c.diagrams.ensures.shapes in
    let are = subst (λ s. AreLeaves s c.first_node-first.result c.in_ok-states.states.items) is c.in_ok-states.ensures in
    let items = c.as_slice-state-items.ensures.value in
    let sizes = ap length items in (
      λ e. DecidesIntegers-kept m (IsKept-leaves m are c.first_node-first.ensures.map
          (λ k within. subst (λ l. IsKept m (get_or l k 0)) items (c.loop-state.invariant.kept k (omega (arith, sizes, within, c.loop-state-test.false))))),
      λ d. refl,
    )
