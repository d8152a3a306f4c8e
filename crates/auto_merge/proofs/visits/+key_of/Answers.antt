use Rattle.std.proofs.Common.{ℕ, arith, Err}
use Rattle.std.proofs.lemmas.Option.{slice_get_within}
use Rattle.std.proofs.lemmas.Result.{err_from_is_err_and}
use Rattle.auto_walk.proofs.RowLemmas.{Extends-trans, length-Extends}
use Rattle.auto_merge.specs.declared.rows.Key.{Key}
use Rattle.auto_merge.specs.Merging.{IsMerging, Keeps}
use Rattle.auto_merge.proofs.Mergings.{of-IsMerging, IsMerging-of, IsMergingOf-seen, IsMergingOf-nodes, IsRowKey-led, Keeps-trans}
use Rattle.auto_merge.proofs.VisitLemmas.{OnLed-all, OnLed-more, IfOk-led, Keeps-looked, Keeps-nodes, Keeps-refl, Keeps-marked, IfErr-leaf, IsLedBy-leaf, LeadsToOne-more}
use Rattle.auto_merge.proofs.visits.+key_of.Given.{Over}
use Rattle.auto_merge.proofs.visits.+key_of.Goals as goal
use Rattle.auto_merge.proofs.visits.+key_of.Goals.{place_key-then-ne+then-class_of+in_ok-visit_within, place_key-else-ne, place_key-After-leaf_key}

pub fresh_key-place_key-requires : goal.fresh_key-place_key-requires
fresh_key-place_key-requires g t c κs within =
    let one = rw c.in-Place.is at c.in_ok-number.ensures.look in (
      omega (arith, c.decreases),
      (
        within.0,
        (
          within.1.0,
          (
            within.1.1.0,
            (
              within.1.1.1,
              (
                slice_get_within (g.R.RowSource.places c.args.visit.now.rows.now c.look.new.seen) c.in-Place.number one.place one.is,
                IsMerging-of _ (IsMergingOf-seen (of-IsMerging c.requires.merging) c.look.ensures.kept c.look.ensures.seen),
              ),
            ),
          ),
        ),
      ),
    )

pub fresh_key-key_of-requires : goal.fresh_key-key_of-requires
fresh_key-key_of-requires g t c κs within =
    let look = rw c.in-Test.is at c.in_ok-number.ensures.look in
    let top = look.top in
    let above = look.low_above in
    let track = look.track_low in (
      omega (arith, c.decreases, top, above, track),
      (
        within.0,
        (
          within.1.0,
          (
            within.1.1.0,
            (
              within.1.1.1,
              (
                look.low_read,
                IsMerging-of _ (IsMergingOf-seen (of-IsMerging c.requires.merging) c.look.ensures.kept c.look.ensures.seen),
              ),
            ),
          ),
        ),
      ),
    )

pub fresh_key-returns-in_err-low-in-Test-clause-kept : goal.fresh_key-returns-in_err-low-in-Test-clause-kept
fresh_key-returns-in_err-low-in-Test-clause-kept g t c =
    let e = err_from_is_err_and c.from_residual-in_err-low-in-Test.result c.from_residual-in_err-low-in-Test.ensures.1 in
    rw (e.1, e.2)
    (OnLed-more {T = Key} (Err c.in_err-low-in-Test.field-0.0) (Keeps-trans (Keeps-looked c.args.merging.now c.look.new.seen c.look.ensures.kept)) c.in_err-low-in-Test.ensures.kept)

pub fresh_key-returns-in_err-high-in-Test-clause-kept : goal.fresh_key-returns-in_err-high-in-Test-clause-kept
fresh_key-returns-in_err-high-in-Test-clause-kept g t c =
    let e = err_from_is_err_and c.from_residual-in_err-high-in-Test.result c.from_residual-in_err-high-in-Test.ensures.1 in
    rw (e.1, e.2)
    (OnLed-more {T = Key} (Err c.in_err-high-in-Test.field-0.0)
    (Keeps-trans (Keeps-trans (Keeps-looked c.args.merging.now c.look.new.seen c.look.ensures.kept) c.in_ok-low-in-Test.ensures.kept))
    c.in_err-high-in-Test.ensures.kept)

pub fresh_key-returns-in-Place-clause-key : goal.fresh_key-returns-in-Place-clause-key
fresh_key-returns-in-Place-clause-key g t c =
    let one = rw c.in-Place.is at c.in_ok-number.ensures.look in
    IfOk-led c.place_key.result (λ key kept leaf. IsLedBy-leaf key (LeadsToOne-more kept.numbers one) leaf) c.place_key.ensures.kept c.place_key.ensures.key

pub fresh_key-returns-in-Place-clause-kept : goal.fresh_key-returns-in-Place-clause-kept
fresh_key-returns-in-Place-clause-kept g t c =
    OnLed-more c.place_key.result (Keeps-trans (Keeps-looked c.args.merging.now c.look.new.seen c.look.ensures.kept)) c.place_key.ensures.kept

pub fresh_key-returns-in_ok-node-in-Test-clause-merging : goal.fresh_key-returns-in_ok-node-in-Test-clause-merging
fresh_key-returns-in_ok-node-in-Test-clause-merging g t c =
    IsMerging-of _ (IsMergingOf-nodes (of-IsMerging c.in_ok-high-in-Test.ensures.merging) c.in_ok-node-in-Test.ensures.grows)

-- what is known of the merging behind the visit, where there was one
module _ (g : Over) (t : ℕ) (c : place_key-After-leaf_key g t) where
  visited : IsMerging (g.R.RowSource.graph c.args.visit.now.rows.now) (g.R.RowSource.places c.args.visit.now.rows.now) g.R.RowSource.answers c.if-ne.merging
  visited = elim c.if-ne.branch [
    | place_key-then-ne+then-class_of+in_ok-visit_within w ↦ rw w.merging-is w.in_ok-visit_within.ensures.merging
    | place_key-else-ne w ↦ rw w.merging-is c.requires.merging
  ]

  visited-keeps : Keeps (g.R.RowSource.places c.args.visit.now.rows.now) c.args.merging.now c.if-ne.merging
  visited-keeps = elim c.if-ne.branch [
    | place_key-then-ne+then-class_of+in_ok-visit_within w ↦ rw w.merging-is w.in_ok-visit_within.ensures.kept
    | place_key-else-ne w ↦ rw w.merging-is (Keeps-refl c.args.merging.now)
  ]

pub place_key-returns-clause-refused : goal.place_key-returns-clause-refused
place_key-returns-clause-refused g t c =
    IfErr-leaf (g.R.RowSource.graph c.args.visit.now.rows.now) (g.R.RowSource.places c.args.visit.now.rows.now c.if-ne.merging.led.seen) c.if-ne.merging.table.items c.args.number c.leaf_key.result
    (length-Extends c.args.number (visited-keeps g t c).numbers c.requires.known)
    (rw c.as_slice-2.ensures.value at c.leaf_key.ensures.refused)

pub place_key-returns-clause-merging : goal.place_key-returns-clause-merging
place_key-returns-clause-merging g t c =
    OnLed-all c.leaf_key.result (IsMerging-of _ (IsMergingOf-nodes (of-IsMerging (visited g t c)) c.leaf_key.ensures.grows))

pub place_key-returns-clause-kept : goal.place_key-returns-clause-kept
place_key-returns-clause-kept g t c =
    OnLed-all c.leaf_key.result (Keeps-trans (visited-keeps g t c) (Keeps-nodes c.if-ne.merging c.leaf_key.new.to c.leaf_key.ensures.grows))

pub visit_within-give_visited-requires-clause-key : goal.visit_within-give_visited-requires-clause-key
visit_within-give_visited-requires-clause-key g t c =
    IsRowKey-led c.in-Ok.key.whole c.in-Ok.ensures.kept.numbers c.row-spot.ensures c.in-Ok.ensures.key

pub visit_within-keep_row-requires : goal.visit_within-keep_row-requires
visit_within-keep_row-requires g t c κs within =
    let some = c.if-visit-eq0.false in
    let kept = Extends-trans c.in-Ok.ensures.kept.numbers c.in_ok-give_visited-in-Ok.ensures.kept.numbers in (
      omega (arith, c.decreases, some),
      (within.0, (within.1.0, (within.1.1.0, (within.1.1.1, (c.in_ok-give_visited-in-Ok.ensures.merging, length-Extends c.args.number kept c.requires.new.within))))),
    )

pub visit_within-turn_back-requires-clause-known : goal.visit_within-turn_back-requires-clause-known
visit_within-turn_back-requires-clause-known g t c =
    let kept = rw c.in-Err-Unclassed.field-0-is at c.in-Err-Unclassed.ensures.kept in
    length-Extends c.args.number kept.numbers c.requires.new.within

pub visit_within-returns-in_ok-give_visited-in-Ok-clause-kept : goal.visit_within-returns-in_ok-give_visited-in-Ok-clause-kept
visit_within-returns-in_ok-give_visited-in-Ok-clause-kept g t c =
    OnLed-more c.keep_row.result (Keeps-trans (Keeps-marked (Keeps-trans c.in-Ok.ensures.kept c.in_ok-give_visited-in-Ok.ensures.kept))) c.keep_row.ensures.kept

pub visit_within-returns-in-Err-Unclassed-clause-kept : goal.visit_within-returns-in-Err-Unclassed-clause-kept
visit_within-returns-in-Err-Unclassed-clause-kept g t c =
    let kept = rw c.in-Err-Unclassed.field-0-is at c.in-Err-Unclassed.ensures.kept in
    OnLed-more c.turn_back.result (Keeps-trans (Keeps-marked kept)) c.turn_back.ensures.kept
