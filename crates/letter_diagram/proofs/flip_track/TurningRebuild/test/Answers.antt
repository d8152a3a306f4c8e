use Rattle.std.proofs.Common.{ℕ, ap, ◌∙◌}
use Rattle.letter_diagram.specs.Diagram.{chosen}
use Rattle.letter_diagram.proofs.Turnings.{turned-moves, chosen-turned, chosen-kept}
use Rattle.letter_diagram.proofs.flip_track.TurningRebuild.test.Goals as goal
use Rattle.letter_diagram.proofs.flip_track.TurningRebuild.test.Goals.{then-track-self, else-track-self}

pub returns-clause-map : goal.returns-clause-map
returns-clause-map c = λ letter. c.in_ok-node.ensures.map letter ∙ elim c.if-track-self.branch [
  | then-track-self w ↦ ap (λ (p : ℕ × ℕ). chosen c.args.to.now c.args.track p.0 p.1 letter) w.low-is ∙ chosen-turned _ _ _ _ _ letter w.if-track-self.true
  | else-track-self w ↦ ap (λ (p : ℕ × ℕ). chosen c.args.to.now c.args.track p.0 p.1 letter) w.low-is ∙ chosen-kept _ _ _ _ _ letter w.if-track-self.false
]

pub returns-clause-top : goal.returns-clause-top
returns-clause-top c = λ keeps. absurd (turned-moves _ keeps)
