use Rattle.std.proofs.Common.{◌∙◌, ◌-ℤ◌, sym}
use Rattle.game_rules.specs.Game.{StandsOn}
use Rattle.game_laws.specs.Reach.{HasReach}
use Rattle.chess_game.proofs.BearLemmas.{bears_at}
use Rattle.chess_game.proofs.attack.bears.Goals as goal

pub returns-then-reaches : goal.returns-then-reaches
returns-then-reaches c =
    let stands : StandsOn c.args.man.now c.in-Some.from = sym c.square.ensures.square ∙ c.in-Some.is in
    let same = bears_at c.args.p.now c.args.man.now c.in-Some.from c.args.to stands in
    let reach : HasReach c.args.man.now.side c.args.man.now.kind (c.args.to.x -ℤ c.in-Some.from.x) (c.args.to.y -ℤ c.in-Some.from.y) =
    rw (← c.offset_between.ensures.right, ← c.offset_between.ensures.up, ← c.side.ensures, ← c.kind.ensures) (c.reaches.ensures.0 c.if-reaches.true) in
    (λ t. same.1 (reach, c.is_open.ensures.0 t), λ h. c.is_open.ensures.1 (same.0 h).1)
