use Rattle.std.proofs.Common.{sym, subst, ◌∙◌}
use Rattle.letter_diagram.specs.Merged.{HasSets}
use Rattle.letter_diagram.proofs.Maps.{Grows-trans}
use Rattle.letter_diagram.proofs.SetNumbers.{SetsKept-trans}
use Rattle.letter_diagram.proofs.Mergings.{IsMerged-grows, HasSets-grows}
use Rattle.letter_diagram.proofs.Lists.{EachAnswers-push}
use Rattle.auto_project.proofs.rows.merged_rows.Goals as goal

pub merged_row-requires : goal.merged_row-requires
merged_row-requires c =
    let i = c.loop-node.invariant in
    HasSets-grows i.grows i.kept
    (subst (HasSets c.args.merger.now.shapes c.args.merger.now.sets) (sym c.node-item.is)
    (c.requires c.loop-node.node-index c.node-item.result c.loop-node-test.true))

pub loop-node-preserved : goal.loop-node-preserved
loop-node-preserved c =
    let e = c.in_ok-row.ensures in
    let i = c.loop-node.invariant in
    record {
      grows = Grows-trans i.grows e.grows;
      kept = SetsKept-trans i.kept e.sets;
      track = e.track ∙ i.track;
      merged =
          rw (c.in_ok-push.ensures.items, e.track)
          (EachAnswers-push _ _ _ _ _ (λ x y is. IsMerged-grows e.grows e.sets is) c.loop-node-test.true c.node-item.is i.merged
          e.merged);
    }
