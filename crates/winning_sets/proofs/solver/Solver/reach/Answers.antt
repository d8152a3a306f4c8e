use Rattle.std.proofs.Common.{◌≡◌, ◌<◌, get_or, length, take, List, ℕ, None, rules, sym, subst, ◌∙◌, arith}
use Rattle.std.proofs.lemmas.List.{get_or_default}
use Rattle.winning_sets.specs.Finished.{AreFinished}
use Rattle.winning_sets.specs.Solve.{IsReachedSet, IsUnreached, SolverState}
use Rattle.winning_sets.proofs.Growing.{grows-take}
use Rattle.winning_sets.proofs.Reached.{in_empties, in_names, name_within, none_of, reached_set}
use Rattle.winning_sets.proofs.solver.Solver.reach.Goals.{After-as_slice-names}
use Rattle.winning_sets.proofs.solver.Solver.reach.Goals as goal

-- what is finished, with the masks as they are read
finished : (c : After-as_slice-names)
    → AreFinished c.self.inside.position c.self.inside.work.memo.budget c.as_slice.result.now c.self.inside.empties.items
    (take c.self.inside.count c.self.inside.work.sets) c.self.inside.levels.items
finished c =
    subst
    (λ (masks : List ℕ). AreFinished c.self.inside.position c.self.inside.work.memo.budget masks c.self.inside.empties.items
    (take c.self.inside.count c.self.inside.work.sets) c.self.inside.levels.items)
    (sym c.as_slice.ensures.value) c.self.invariant.1

within : (c : After-as_slice-names) → c.args.ply < length c.self.inside.levels.items
within c = omega (arith, c.if-ply-len.false, c.len.ensures)

names_at : (c : After-as_slice-names) → c.as_slice-names.result.now ≡ get_or c.self.inside.levels.items c.args.ply c.as_slice-names.result.now
names_at c =
    c.as_slice-names.ensures ∙ c.index.ensures ∙ get_or_default c.self.inside.levels.items c.args.ply c.index.result.now c.as_slice-names.result.now (within c)

in_place : (c : After-as_slice-names) → c.in_ok-k.k < length c.as_slice-names.result.now
in_place c =
    let i = c.self.inside in
    let place = c.in_ok-k.ensures in
    in_names i.position i.winner i.work.memo.budget c.as_slice.result.now i.empties.items (take i.count i.work.sets) i.work.sets i.levels.items (finished c) (grows-take i.count i.work.sets)
    c.args.ply c.args.mask c.in_ok-k.k (omega (arith, c.if-ply-eq0.false)) (within c) c.as_slice-names.result.now (names_at c) place.within place.found place.before

pub returns-in_err-k-clause-none : goal.returns-in_err-k-clause-none
returns-in_err-k-clause-none c =
    let i = c.self.inside in
    let is =
    subst
    (λ (masks : List ℕ). AreFinished i.position i.work.memo.budget masks i.empties.items (take i.count i.work.sets) i.levels.items)
    (sym c.as_slice.ensures.value) c.self.invariant.1 in
    let none = none_of i.position i.winner i.work.memo.budget c.as_slice.result.now i.empties.items (take i.count i.work.sets) i.work.sets i.levels.items is (grows-take i.count i.work.sets)
    c.args.ply c.args.mask (omega (arith, c.if-ply-len.false, c.len.ensures)) c.in_err-k.ensures.none in
    rw c.from_residual.ensures (subst (λ (s : SolverState). IsUnreached s c.args.ply c.args.mask) c.self.view_is none)

pub index-requires-2 : goal.index-requires-2
index-requires-2 c =
    let start = (goal.at.index-requires-2 c).After-as_slice-names in
    let i = c.self.inside in
    let place = c.in_ok-k.ensures in
    let less =
    in_empties i.position i.winner i.work.memo.budget c.as_slice.result.now i.empties.items (take i.count i.work.sets) i.work.sets i.levels.items (finished start) (grows-take i.count i.work.sets)
    c.args.ply c.args.mask c.in_ok-k.k (omega (arith, c.if-ply-eq0.false)) (within start) c.as_slice-names.result.now (names_at start) place.within place.found place.before in
    omega (arith, less, i.empties.ok.0)

pub offset_bounds-names-k : goal.offset_bounds-names-k
offset_bounds-names-k c =
    let less = in_place (goal.at.offset_bounds-names-k c).After-as_slice-names in
    search rules

pub bounds-names-k : goal.bounds-names-k
bounds-names-k c = in_place (goal.at.bounds-names-k c).After-as_slice-names

pub lent-requires : goal.lent-requires
lent-requires c =
    let start = (goal.at.lent-requires c).After-as_slice-names in
    let i = c.self.inside in
    let place = c.in_ok-k.ensures in
    name_within i.position i.winner i.work.memo.budget c.as_slice.result.now i.empties.items (take i.count i.work.sets) i.work.sets i.levels.items (finished start) (grows-take i.count i.work.sets)
    c.args.ply c.args.mask c.in_ok-k.k (omega (arith, c.if-ply-eq0.false)) (within start) c.as_slice-names.result.now (names_at start) place.within place.found place.before

pub returns-clause-some : goal.returns-clause-some
returns-clause-some c =
    let start = (goal.at.returns-clause-some c).After-as_slice-names in
    let i = c.self.inside in
    let place = c.in_ok-k.ensures in
    let id = get_or c.as_slice-names.result.now c.in_ok-k.k None in
    let set =
    reached_set i.position i.winner i.work.memo.budget c.as_slice.result.now i.empties.items (take i.count i.work.sets) i.work.sets i.levels.items (finished start) (grows-take i.count i.work.sets)
    c.args.ply c.args.mask c.in_ok-k.k (omega (arith, c.if-ply-eq0.false)) (within start) c.as_slice-names.result.now (names_at start) place.within place.found place.before
    c.lent.result.now c.index-2.result.now id c.index-2.ensures (get_or_default c.as_slice-names.result.now c.in_ok-k.k None id (in_place start)) c.lent.ensures in
    subst (λ (s : SolverState). IsReachedSet s c.args.ply c.args.mask c.lent.result.now) c.self.view_is set
