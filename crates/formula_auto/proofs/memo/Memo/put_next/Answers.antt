use Rattle.std.proofs.Common.{◌*◌, ◌≤◌, length, ap}
use Rattle.formula_auto.specs.Chains.{link_done}
use Rattle.formula_auto.proofs.Chains.{waits}
use Rattle.formula_auto.proofs.memo.Memo.put_next.Goals as goal

pub returns-then-pays-clause-ok : goal.returns-then-pays-clause-ok
returns-then-pays-clause-ok c =
    let begun = c.in_ok-begun_with.ensures in
    let next = c.requires.short in
    let own = c.states_of-own.ensures.is next.auto next.has in
    record {
      done = ap link_done begun.is;
      puts = λ f e fits is.
          let base = c.states_of-base.ensures.is is.auto is.has in
          let room : length is.auto.accept * length next.auto.accept ≤ c.args.self.now.budget =
          rw (base.count, own.count) (c.pays.ensures.room c.if-pays.true) in
          rw begun.is (waits is next c.pays.ensures.valid fits begun.same base.valid own.valid room);
    }
