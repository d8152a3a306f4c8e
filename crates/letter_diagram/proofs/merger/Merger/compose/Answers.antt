use Rattle.letter_diagram.proofs.SetNumbers.{SetsKept-refl}
use Rattle.letter_diagram.proofs.Mergings.{RemembersMerged-grows, RemembersUnited-grows}
use Rattle.letter_diagram.proofs.merger.Merger.compose.Goals as goal

pub invariant_of-self : goal.invariant_of-self
invariant_of-self c = (
  c.self.invariant.0,
  RemembersMerged-grows c.compose.ensures.grows (SetsKept-refl _) c.self.invariant.1,
  RemembersUnited-grows c.compose.ensures.grows (SetsKept-refl _) c.self.invariant.2,
)

pub invariant_of-self-2 : goal.invariant_of-self-2
invariant_of-self-2 c = (
  c.self.invariant.0,
  RemembersMerged-grows c.compose.ensures.grows (SetsKept-refl _) c.self.invariant.1,
  RemembersUnited-grows c.compose.ensures.grows (SetsKept-refl _) c.self.invariant.2,
)
