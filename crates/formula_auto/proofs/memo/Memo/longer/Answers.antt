use Rattle.std.proofs.Common.{◌*◌, ◌≤◌, length, sym, subst}
use Rattle.formula_auto.specs.PartOf.{IsPart}
use Rattle.formula_auto.proofs.Chains.{rest-fits, room-rest, pending-longer}
use Rattle.formula_auto.proofs.memo.Memo.longer.Goals as goal

pub together-requires-clause-fits : goal.together-requires-clause-fits
together-requires-clause-fits c = rest-fits c.requires.left.is c.requires.short c.requires.left.fits

pub together-requires-clause-room : goal.together-requires-clause-room
together-requires-clause-room c = λ a b has_a has_b.
    let base = c.requires.left.is.base in
    room-rest (c.states_of-base.ensures.is base.auto base.has) (c.states_of-few.ensures.is a has_a) (c.states_of.ensures.is b has_b)
    (c.pays.ensures.room c.if-not-pays.false)

pub returns-clause-longer : goal.returns-clause-longer
returns-clause-longer c = λ f e step fits is.
    let next = c.requires.short in
    let base = c.states_of-base.ensures.is is.base.auto is.base.has in
    let few = c.states_of-few.ensures.is is.rest.auto is.rest.has in
    let one = c.states_of.ensures.is next.auto next.has in
    let more = rw c.in_ok-rest.ensures.same at c.in_ok-rest.ensures.short in
    let still = subst (λ m. IsPart m c.args.meets.now c.in_ok-rest.rest.part more.auto) (sym c.in_ok-rest.ensures.same) more.has in
    let own = c.states_of-own.ensures.is more.auto still in
    let all : length is.base.auto.accept * (length is.rest.auto.accept * length next.auto.accept) ≤ c.args.self.now.budget =
    rw (base.count, few.count, one.count) (c.pays.ensures.room c.if-not-pays.false) in
    let enough = rw c.in_ok-rest.ensures.same at (c.pays-2.ensures.room c.if-not-pays-2.false) in
    let room : length is.base.auto.accept * length more.auto.accept ≤ c.args.self.now.budget = rw (base.count, own.count) enough in
    pending-longer is next fits c.pays.ensures.valid one.valid all c.in_ok-rest.ensures.formula more own.valid room
