use Rattle.std.proofs.Common.{arith, ◌∙◌}
use Rattle.std.proofs.lemmas.List.{length-set}
use Rattle.letter_diagram.proofs.Maps.{Grows-refl, Grows-trans}
use Rattle.letter_diagram.proofs.SetNumbers.{SetsKept-refl, SetsKept-trans}
use Rattle.letter_diagram.proofs.Mergings.{HasSets-grows}
use Rattle.auto_project.proofs.Closures.{HasNumber-leaf, HasRowsSoFar-step, HasUnionRows-all}
use Rattle.auto_project.proofs.closure.TrackRows.rows_of_sets.Goals as goal

pub row_of_set-requires-clause-known : goal.row_of_set-requires-clause-known
row_of_set-requires-clause-known c =
    let are = rw (c.diagrams.ensures, ← c.as_slice-number-items.ensures.value) at c.in_ok-numbers.ensures in
    let i = c.loop-number.invariant in
    (HasNumber-leaf i.grows i.kept c.requires.states are c.loop-number.number-index c.loop-number-test.true).known

pub row_of_set-requires-clause-some : goal.row_of_set-requires-clause-some
row_of_set-requires-clause-some c =
    let are = rw (c.diagrams.ensures, ← c.as_slice-number-items.ensures.value) at c.in_ok-numbers.ensures in
    let i = c.loop-number.invariant in
    (HasNumber-leaf i.grows i.kept c.requires.states are c.loop-number.number-index c.loop-number-test.true).nonempty

pub row_of_set-requires-clause-within : goal.row_of_set-requires-clause-within
row_of_set-requires-clause-within c =
    let are = rw (c.diagrams.ensures, ← c.as_slice-number-items.ensures.value) at c.in_ok-numbers.ensures in
    let i = c.loop-number.invariant in
    (HasNumber-leaf i.grows i.kept c.requires.states are c.loop-number.number-index c.loop-number-test.true).within

pub index_mut-requires : goal.index_mut-requires
index_mut-requires c =
    let are = rw (c.diagrams.ensures, ← c.as_slice-number-items.ensures.value) at c.in_ok-numbers.ensures in
    let below = (HasNumber-leaf (Grows-refl _) (SetsKept-refl _) c.requires.states are c.loop-number.number-index c.loop-number-test.true).known in
    let size = c.loop-number.invariant.size in
    omega (arith, below, size)

pub loop-number-preserved : goal.loop-number-preserved
loop-number-preserved c =
    let are = rw (c.diagrams.ensures, ← c.as_slice-number-items.ensures.value) at c.in_ok-numbers.ensures in
    let below = (HasNumber-leaf (Grows-refl _) (SetsKept-refl _) c.requires.states are c.loop-number.number-index c.loop-number-test.true).known in
    let i = c.loop-number.invariant in
    let size = i.size in
    let e = c.in_ok-row.ensures in
    record {
      grows = Grows-trans i.grows e.grows;
      kept = SetsKept-trans i.kept e.kept;
      size = length-set _ _ _ ∙ i.size;
      so_far = HasRowsSoFar-step _ e.grows e.kept (λ k d h. HasSets-grows i.grows i.kept (c.requires.rows k d h))
          (λ k h. HasNumber-leaf i.grows i.kept c.requires.states are k h) c.loop-number-test.true (omega (arith, below, size)) i.so_far e.union;
    }

pub returns-clause-rows : goal.returns-clause-rows
returns-clause-rows c =
    let are = rw (c.diagrams.ensures, ← c.as_slice-number-items.ensures.value) at c.in_ok-numbers.ensures in
    let i = c.loop-number.invariant in
    HasUnionRows-all i.grows c.requires.states are (omega (arith, c.loop-number-test.false)) i.size i.so_far
