-- Claims whose sets may have different tables but have the same words.
use Rattle.std.specs.Prelude.{◌≡◌, ℕ, Option, Some, None}
use Rattle.auto_core.specs.Automaton.{Automaton}
use Rattle.auto_reduce.specs.Tables.{AcceptSameWords}
use Rattle.mate_plan.specs.Claim.{Claim, claimed_at}

-- the same words over the same tracks
pub record IsSameSet (a b : Automaton) : Type 0 where
  pub tracks : a.tracks ≡ b.tracks
  pub words : AcceptSameWords a b

-- both sets exist and are the same, or neither exists
abbrev pub AreSameSets : Option Automaton → Option Automaton → Type 0
AreSameSets None None = Unit {0}
AreSameSets None (Some b) = ⊥
AreSameSets (Some a) None = ⊥
AreSameSets (Some a) (Some b) = IsSameSet a b

-- the same sets are claimed of the same position, for the same winner and number of moves
pub record IsSameClaim (c d : Claim) : Type 0 where
  pub position : c.position ≡ d.position
  pub winner : c.winner ≡ d.winner
  pub moves : c.moves ≡ d.moves
  pub sets : (ply mask : ℕ) → AreSameSets (claimed_at c ply mask) (claimed_at d ply mask)
