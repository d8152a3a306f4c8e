use Rattle.auto_search.proofs.MarkLemmas.{Remembers-marked, SameRoom-trans}
use Rattle.auto_search.proofs.marks.Marks.add_all.Goals as goal
use Rattle.auto_search.proofs.marks.Marks.add_all.Goals.{in-Some, in_default}

pub loop-slot-preserved : goal.loop-slot-preserved
loop-slot-preserved c =
    let course = c.args.course.now in
    let here = c.loop-slot.self in
    let known = c.loop-slot.invariant in
    elim c.match-front-slot.branch [
      | in-Some w ↦
          let state = w.in-Some.state in
          rw w.self-is (record {
            serves = record {
              remembers =
                  Remembers-marked w.add.new.self.failed.items c.args.place state c.loop-slot.slot c.args.front.now known.serves.remembers
                  (c.requires.front.states c.loop-slot.slot state w.in-Some.is) (rw w.cell_at.ensures at w.add.ensures.marked) w.in-Some.is c.requires.dead;
              listed = w.add.ensures.listed;
            };
            room = SameRoom-trans known.room w.add.ensures.room;
          })
      | in_default w ↦ rw w.self-is known
    ]
