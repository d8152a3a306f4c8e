use Rattle.std.proofs.Common.{◌≡◌, true}
use Rattle.move_choice.proofs.Firsts.{capture_none_in, capture_none_legal, capture_some_in}
use Rattle.game_laws.proofs.StockLemmas.{own_stock, step_stock}
use Rattle.move_choice.proofs.ray_pick.take.Goals as goal

pub returns-in_default : goal.returns-in_default
returns-in_default c = record {
  first =
      let aim = c.args.along.now.aim.now in
      capture_none_legal aim.next aim.frame c.args.along.now.mover aim.sound c.args.mv c.requires.man c.requires.met c.in_default.ensures.illegal;
}

pub contains-requires : goal.contains-requires
contains-requires c =
    let aim = c.args.along.now.aim.now in
    aim.next.askable c.in-Ok.after (step_stock {q = c.in-Ok.after} {i = c.args.mv.man} (own_stock aim.position.now) c.in-Ok.ensures.legal.step.after)

pub returns-then-not-contains : goal.returns-then-not-contains
returns-then-not-contains c = record {
  first =
      let aim = c.args.along.now.aim.now in
      capture_none_in aim.next aim.frame c.args.along.now.mover aim.sound c.args.mv c.requires.man c.requires.met c.in-Ok.ensures.legal
      (λ is_in. let t : c.contains.result ≡ true = c.contains.ensures.1 is_in in let f = c.if-not-contains.true in cc);
}

pub returns : goal.returns
returns c = record {
  first =
      let aim = c.args.along.now.aim.now in
      capture_some_in aim.next aim.frame c.args.along.now.mover aim.sound c.args.mv c.requires.man c.requires.met c.in-Ok.ensures.legal
      (c.contains.ensures.0 c.if-not-contains.false) c.steps_of.result c.steps_of.ensures.steps;
}
