use Rattle.loser_session.proofs.Defending.{typed_keeps}
use Rattle.loser_session.proofs.defence.Defence.typed.Goals as goal

pub make-requires : goal.make-requires
make-requires c =
    let keeps = c.position-position.ensures.defence in
    λ q legal. typed_keeps c.args.self.now keeps c.requires.turn c.requires.left legal
