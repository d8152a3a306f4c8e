-- A claimed set that is signed can have a name.
use Rattle.std.proofs.Common.{◌≡◌, ℕ, Some}
use Rattle.auto_core.specs.Automaton.{Automaton}
use Rattle.auto_core.specs.Integers.{DecidesIntegers}
use Rattle.rule_formula.specs.Mean.{mask_tracks}
use Rattle.set_plan.specs.Sets.{IsSetOn}
use Rattle.mate_plan.specs.Claim.{claimed_at}
use Rattle.winning_sets.specs.declared.claimed.ClaimedSets.{ClaimedSets}
use Rattle.claim_check.specs.Ready.{AreSigned, IsReady, claim_in}

pub one_on : {s : ClaimedSets} → IsReady s → (ply mask : ℕ) (a : Automaton) → DecidesIntegers a → claimed_at (claim_in s) ply mask ≡ Some a → IsSetOn (mask_tracks s.position mask) a
one_on ready ply mask a signed there = record {
  reduced = ready.reduced ply mask a there;
  decides = record { integers = signed; tracks_are = ready.claim.tracks ply mask a there };
  few = ready.few ply mask a there;
}

pub claimed_on : {s : ClaimedSets} → IsReady s → AreSigned (claim_in s) → (ply mask : ℕ) (a : Automaton)
    → claimed_at (claim_in s) ply mask ≡ Some a → IsSetOn (mask_tracks s.position mask) a
claimed_on ready signed ply mask a there = one_on ready ply mask a (signed ply mask a there) there
