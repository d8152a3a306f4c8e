use Rattle.std.proofs.Common.{length, ap, refl, ◌∙◌}
use Rattle.std.proofs.lemmas.List.{length-set}
use Rattle.auto_search.proofs.Mets.{begin-empty, begin-none, begin-some}
use Rattle.auto_search.proofs.met.VisitTable.begin.Goals as goal
use Rattle.auto_search.proofs.met.VisitTable.begin.Goals.{in-None, in-Some}

pub loop-slot-init : goal.loop-slot-init
loop-slot-init c = record {
  begins = begin-empty c.requires.sizes c.requires.none refl;
  sizes = record { times_kept = refl; states_kept = refl; slots_kept = refl };
}

pub loop-slot-preserved : goal.loop-slot-preserved
loop-slot-preserved c =
    let here = c.loop-slot.self in
    elim c.match-front-slot.branch [
      | in-None w ↦
          rw w.self-is
          (record {
            begins = begin-none c.loop-slot.invariant.begins c.loop-slot-test.true c.requires.opened c.requires.front w.in-None.is;
            sizes = c.loop-slot.invariant.sizes;
          })
      | in-Some w ↦ rw w.self-is (record {
        begins =
            begin-some c.loop-slot.invariant.begins c.loop-slot-test.true c.requires.opened c.requires.front w.in-Some.state w.in-Some.is w.put.ensures.times
            w.put.ensures.states w.put.ensures.slots w.put.ensures.len;
        sizes = record {
          times_kept = ap length w.put.ensures.times ∙ c.loop-slot.invariant.sizes.times_kept;
          states_kept = ap length w.put.ensures.states ∙ length-set here.states.items here.len w.in-Some.state ∙ c.loop-slot.invariant.sizes.states_kept;
          slots_kept = ap length w.put.ensures.slots ∙ length-set here.slots.items here.len c.loop-slot.slot ∙ c.loop-slot.invariant.sizes.slots_kept;
        };
      })
    ]
