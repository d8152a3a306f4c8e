-- Claimed sets before and after reduction.
use Rattle.std.specs.Prelude.{◌≡◌, ◌≤◌, List, length}
use Rattle.std.specs.List.{AllZip}
use Rattle.auto_core.specs.Automaton.{Automaton}
use Rattle.auto_core.specs.Reduced.{IsReduced}
use Rattle.mate_plan.specs.Claim.{ClaimedSet}
use Rattle.mate_plan.specs.SameClaim.{IsSameSet}

-- the same words over the same tracks, in a reduced automaton with at most as many states
pub record IsReducedOf (a b : Automaton) : Type 0 where
  pub same : IsSameSet a b
  pub reduced : IsReduced b
  pub fewer : length b.accept ≤ length a.accept

-- the same for sets of the same ply and mask
pub record IsReducedSet (c d : ClaimedSet) : Type 0 where
  pub ply : c.ply ≡ d.ply
  pub mask : c.mask ≡ d.mask
  pub set : IsReducedOf c.set d.set

abbrev pub AreReduced : List ClaimedSet → List ClaimedSet → Type 0
AreReduced cs ds = AllZip IsReducedSet cs ds
