use Rattle.std.proofs.Common.{List, Ok, Err, refl, sym, subst, arith}
use Rattle.std.proofs.lemmas.Result.{err_from_is_err_and}
use Rattle.auto_core.specs.Automaton.{Automaton}
use Rattle.lin_formula.specs.SetOf.{IsEmpty, as_set}
use Rattle.rule_formula.specs.Fits.{masks_of}
use Rattle.rule_formula.specs.Mean.{mask_tracks}
use Rattle.set_plan.specs.Sets.{Grows, set_at}
use Rattle.mate_plan.specs.Levels.{level_of}
use Rattle.mate_plan.specs.PlanOf.{rules_of}
use Rattle.mate_plan.proofs.LevelLemmas.{grows-grows, grows_cut, length-grows, name_is_found, on_from_kept, set_is_found}
use Rattle.mate_plan.proofs.LostParts.{lost_none, lost_some}
use Rattle.mate_plan.proofs.losing.lost_name.Goals as goal

pub is_lacking-requires : goal.is_lacking-requires
is_lacking-requires c = (
  mask_tracks c.args.bench.now.position.now c.args.mask,
  name_is_found c.args.bench.now.position.now.men c.args.work.now.sets (masks_of c.args.bench.now.position.now)
      (masks_of c.args.bench.now.position.now) c.args.from.now.reach.now c.args.mask c.name_in-name.result refl c.name_in-name.ensures
      c.requires.reach,
)

pub lost_set-requires-clause-reach : goal.lost_set-requires-clause-reach
lost_set-requires-clause-reach c =
    name_is_found c.args.bench.now.position.now.men c.args.work.now.sets (masks_of c.args.bench.now.position.now)
    (masks_of c.args.bench.now.position.now) c.args.from.now.reach.now c.args.mask c.name_in-name.result refl c.name_in-name.ensures
    c.requires.reach

pub truncate-requires : goal.truncate-requires
truncate-requires c =
    let more = length-grows c.args.work.now.sets c.lost_set.new.work.sets c.in_ok-set.ensures.later.grows in
    omega (arith, more, c.count-count.ensures)

pub returns-then-is_lacking-clause-answers : goal.returns-then-is_lacking-clause-answers
returns-then-is_lacking-clause-answers c =
    let masks = masks_of c.args.bench.now.position.now in
    let is = set_is_found c.args.work.now.sets masks masks c.args.from.now.reach.now c.args.mask c.name_in-name.result refl c.name_in-name.ensures in
    let empty : IsEmpty (set_at c.args.work.now.sets c.name_in-name.result) = rw c.if-is_lacking.true at c.is_lacking.ensures.yes in
    lost_none (rules_of c.args.bench.now.position.now) c.args.from.now.side c.args.from.now.ply c.args.mask c.args.work.now.memo.budget
    (level_of c.args.work.now.sets masks c.args.from.now.reach.now) (level_of c.args.work.now.sets masks c.args.from.now.next_reach.now)
    (level_of c.args.work.now.sets masks c.args.from.now.rests.now)
    (subst IsEmpty is empty)

pub returns-in_err-set-clause-answers : goal.returns-in_err-set-clause-answers
returns-in_err-set-clause-answers c =
    let p = err_from_is_err_and c.from_residual.result c.from_residual.ensures.1 in
    let masks = masks_of c.args.bench.now.position.now in
    let is = set_is_found c.args.work.now.sets masks masks c.args.from.now.reach.now c.args.mask c.name_in-name.result refl c.name_in-name.ensures in
    let some : ¬ IsEmpty (set_at c.args.work.now.sets c.name_in-name.result) = rw c.if-is_lacking.false at c.is_lacking.ensures.none in
    rw (p.1, p.2)
    (lost_some (rules_of c.args.bench.now.position.now) c.args.from.now.side c.args.from.now.ply c.args.mask c.args.work.now.memo.budget
    (level_of c.args.work.now.sets masks c.args.from.now.reach.now) (level_of c.args.work.now.sets masks c.args.from.now.next_reach.now)
    (level_of c.args.work.now.sets masks c.args.from.now.rests.now) (set_at c.args.work.now.sets c.name_in-name.result) is some as_set
    (Err c.in_err-set.field-0.0) c.in_err-set.ensures.answers)

pub returns-clause-answers : goal.returns-clause-answers
returns-clause-answers c =
    let masks = masks_of c.args.bench.now.position.now in
    let is = set_is_found c.args.work.now.sets masks masks c.args.from.now.reach.now c.args.mask c.name_in-name.result refl c.name_in-name.ensures in
    let some : ¬ IsEmpty (set_at c.args.work.now.sets c.name_in-name.result) = rw c.if-is_lacking.false at c.is_lacking.ensures.none in
    rw c.in_ok-keep.ensures.ok
    (lost_some (rules_of c.args.bench.now.position.now) c.args.from.now.side c.args.from.now.ply c.args.mask c.args.work.now.memo.budget
    (level_of c.args.work.now.sets masks c.args.from.now.reach.now) (level_of c.args.work.now.sets masks c.args.from.now.next_reach.now)
    (level_of c.args.work.now.sets masks c.args.from.now.rests.now) (set_at c.args.work.now.sets c.name_in-name.result) is some as_set
    (Ok c.in_ok-set.set) c.in_ok-set.ensures.answers)

pub returns-clause-name : goal.returns-clause-name
returns-clause-name c =
    on_from_kept (mask_tracks c.args.bench.now.position.now c.args.mask) c.keep.new.self c.in_ok-set.set c.in_ok-keep.field-0 c.in_ok-set.ensures.set
    c.in_ok-keep.ensures.ok c.in_ok-keep.ensures.within

pub returns-in_err-keep-clause-later : goal.returns-in_err-keep-clause-later
returns-in_err-keep-clause-later c =
    let cut = grows_cut c.args.work.now.sets c.lost_set.new.work.sets c.count-count.result c.count-count.ensures c.in_ok-set.ensures.later.grows in
    let To : List Automaton → Type 0 = λ t. Grows c.args.work.now.sets t in
    record {
      grows = grows-grows c.args.work.now.sets c.truncate.new.self c.keep.new.self (subst To (sym c.truncate.ensures) cut) c.in_err-keep.ensures.grows;
      budget = c.in_ok-set.ensures.later.budget;
    }

pub returns-clause-later : goal.returns-clause-later
returns-clause-later c =
    let cut = grows_cut c.args.work.now.sets c.lost_set.new.work.sets c.count-count.result c.count-count.ensures c.in_ok-set.ensures.later.grows in
    let To : List Automaton → Type 0 = λ t. Grows c.args.work.now.sets t in
    record {
      grows = grows-grows c.args.work.now.sets c.truncate.new.self c.keep.new.self (subst To (sym c.truncate.ensures) cut) c.in_ok-keep.ensures.grows;
      budget = c.in_ok-set.ensures.later.budget;
    }
