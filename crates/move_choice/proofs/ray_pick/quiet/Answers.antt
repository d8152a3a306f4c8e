use Rattle.std.proofs.Common.{◌≡◌, Some, None, ap, sym, ◌∙◌}
use Rattle.std.specs.Prelude.{IsTrue, option_copied}
use Rattle.game_rules.specs.Rays.{serves_moves}
use Rattle.mask_sets.specs.Stock.{mask_of}
use Rattle.mask_sets.proofs.Masks.{mask_one}
use Rattle.mask_sets.specs.Sets.{set_at}
use Rattle.move_choice.proofs.Firsts.{quiet_first_hit, quiet_none_hit, quiet_none_there}
use Rattle.game_laws.proofs.StockLemmas.{own_stock}
use Rattle.move_choice.proofs.ray_pick.quiet.Goals.{In-Some}
use Rattle.move_choice.proofs.ray_pick.quiet.Goals as goal

-- the set of the position's own mask
here : (c : In-Some) → set_at c.args.along.now.aim.now.sets.now (mask_of c.args.along.now.aim.now.position.now) ≡ Some c.in-Some.set.now
here c =
    let mask = mask_one c.mask.ensures in
    ap (set_at c.args.along.now.aim.now.sets.now) (sym mask) ∙ sym c.get.ensures ∙ ap option_copied c.in-Some.is

pub returns-in_default-clause-first : goal.returns-in_default-clause-first
returns-in_default-clause-first c =
    let mask = mask_one c.mask.ensures in
    let aim = c.args.along.now.aim.now in
    let none : set_at aim.sets.now (mask_of aim.position.now) ≡ None =
    ap (set_at aim.sets.now) (sym mask) ∙ sym c.get.ensures ∙ ap option_copied c.in_default.is in
    quiet_none_there aim.next aim.frame c.args.along.now.mover none

pub least_hit-requires-clause-suits : goal.least_hit-requires-clause-suits
least_hit-requires-clause-suits c =
    let aim = c.args.along.now.aim.now in
    aim.next.askable aim.position.now (own_stock aim.position.now) c.in-Some.set.now (here (goal.at.least_hit-requires-clause-suits c).In-Some)

pub returns-in-Some-least_hit-clause-first : goal.returns-in-Some-least_hit-clause-first
returns-in-Some-least_hit-clause-first c =
    let m = c.args.along.now.mover in
    let way = c.choice_along.ensures in
    let serves : IsTrue (serves_moves m.man.kind c.args.along.now.his.number) = rw m.is_man at c.requires.serves in
    quiet_first_hit c.args.along.now.aim.now.next c.args.along.now.aim.now.frame m c.in-Some.set.now (here (goal.at.returns-in-Some-least_hit-clause-first c).In-Some)
    c.args.way.near c.args.way.far c.requires.free c.choice_along.result c.in-Some-least_hit.ensures.least way.man way.ray way.distance way.leads serves

pub returns-in-None-clause-first : goal.returns-in-None-clause-first
returns-in-None-clause-first c =
    quiet_none_hit c.args.along.now.aim.now.next c.args.along.now.aim.now.frame c.args.along.now.mover c.in-Some.set.now (here (goal.at.returns-in-None-clause-first c).In-Some)
    c.args.way.near c.args.way.far c.requires.free c.in-None.ensures.least
