use Rattle.std.proofs.Common.{◌≡◌, Some, None, ap, sym, ◌∙◌}
use Rattle.std.specs.Prelude.{IsTrue, option_copied}
use Rattle.game_rules.specs.Rays.{serves_moves}
use Rattle.mask_sets.specs.Stock.{mask_of}
use Rattle.mask_sets.proofs.Masks.{mask_one}
use Rattle.mask_sets.specs.Sets.{IsSetFor, set_at}
use Rattle.move_choice.proofs.Counted.{none_unset, quiet_counted, quiet_counted_all}
use Rattle.game_laws.proofs.StockLemmas.{own_stock}
use Rattle.move_choice.proofs.ray_moves.count_served.Goals.{In-Some}
use Rattle.move_choice.proofs.ray_moves.count_served.Goals as goal

-- the set of the position's own mask
here : (c : In-Some) → set_at c.args.along.now.aim.now.sets.now (mask_of c.args.along.now.aim.now.position.now) ≡ Some c.in-Some.set.now
here c =
    let mask = mask_one c.mask.ensures in
    ap (set_at c.args.along.now.aim.now.sets.now) (sym mask) ∙ sym c.get.ensures ∙ ap option_copied c.in-Some.is

suits : (c : In-Some) → IsSetFor c.args.along.now.aim.now.position.now c.in-Some.set.now
suits c = let p = c.args.along.now.aim.now.position.now in c.args.along.now.aim.now.next.askable p (own_stock p) c.in-Some.set.now (here c)

pub returns-in_default-clause-few : goal.returns-in_default-clause-few
returns-in_default-clause-few c =
    let mask = mask_one c.mask.ensures in
    let aim = c.args.along.now.aim.now in
    let none : set_at aim.sets.now (mask_of aim.position.now) ≡ None =
    ap (set_at aim.sets.now) (sym mask) ∙ sym c.get.ensures ∙ ap option_copied c.in_default.is in
    none_unset aim.sets.now c.args.along.now.mover none

pub count_to-requires-clause-suits : goal.count_to-requires-clause-suits
count_to-requires-clause-suits c = suits (goal.at.count_to-requires-clause-suits c).In-Some

pub count_all-requires-clause-suits : goal.count_all-requires-clause-suits
count_all-requires-clause-suits c = suits (goal.at.count_all-requires-clause-suits c).In-Some

pub returns-in-Some-last-clause-few : goal.returns-in-Some-last-clause-few
returns-in-Some-last-clause-few c =
    let m = c.args.along.now.mover in
    let serves : IsTrue (serves_moves m.man.kind c.args.along.now.his.number) = rw m.is_man at c.requires.serves in
    quiet_counted c.args.along.now.aim.now.sets.now m c.args.along.now.aim.now.next c.in-Some.set.now (here (goal.at.returns-in-Some-last-clause-few c).In-Some) serves
    c.count_to.result c.in-Some-last.last (rw c.in-Some-last.is at c.requires.last) c.count_to.ensures.few

pub returns-in-None-clause-few : goal.returns-in-None-clause-few
returns-in-None-clause-few c =
    let m = c.args.along.now.mover in
    let serves : IsTrue (serves_moves m.man.kind c.args.along.now.his.number) = rw m.is_man at c.requires.serves in
    quiet_counted_all c.args.along.now.aim.now.sets.now m c.args.along.now.aim.now.next c.in-Some.set.now (here (goal.at.returns-in-None-clause-few c).In-Some) serves
    c.count_all.result (rw c.in-None.is at c.requires.all) c.count_all.ensures.few
