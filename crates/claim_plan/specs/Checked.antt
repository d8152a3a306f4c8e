-- The meaning of each rule of a claim, and the order of the rules.
use Rattle.std.specs.Prelude.{◌≡◌, ◌⊎◌, ℕ, suc, List, [], ◌∷◌, ◌++◌, map, Some, None}
use Rattle.std.specs.List.{flat_map}
use Rattle.auto_core.specs.Automaton.{Automaton}
use Rattle.auto_core.specs.Integers.{DecidesIntegers}
use Rattle.game_rules.specs.Game.{HasMove, InCheck, IsApart, Moves, Position}
use Rattle.rule_formula.specs.Fits.{masks_of}
use Rattle.mask_sets.specs.Stock.{mask_of}
use Rattle.mate_plan.specs.Claim.{Claim, IsClaimed, claimed_at, losers_plies}
use Rattle.mate_plan.specs.Won.{IsBegun}
use Rattle.game_laws.specs.Sets.{LeadsInto}
use Rattle.claim_plan.specs.CheckPlan.{Finding, rule_at}
use Rattle.claim_plan.specs.declared.names.Rule.{Rule}
use Rattle.claim_plan.specs.declared.names.Rule.TheVariants as rule
use Rattle.claim_plan.specs.declared.names.RuleAt.{RuleAt}

-- the position is claimed at the ply and has the live men of the mask
pub record IsClaimedWith (c : Claim) (ply mask : ℕ) (q : Position) : Type 0 where
  pub claimed : IsClaimed c ply q
  pub mask_is : mask_of q ≡ mask

-- a move leads from a position claimed at the ply before to this position, which has the live men of the mask
pub record IsRepliedWith (c : Claim) (ply mask : ℕ) (r : Position) : Type 0 where
  pub before : ℕ
  pub next : ply ≡ suc before
  pub from : Position
  pub claimed : IsClaimed c before from
  pub moves : Moves from r
  pub mask_is : mask_of r ≡ mask

-- the meaning of a rule at a ply and a mask
abbrev pub RuleHolds : Claim → Rule → ℕ → ℕ → Type 0
RuleHolds c rule.Sign ply mask = (a : Automaton) → claimed_at c ply mask ≡ Some a → DecidesIntegers a
RuleHolds c rule.Same ply mask = (q : Position) → IsClaimedWith c ply mask q → IsApart q
RuleHolds c rule.Guard ply mask = (q : Position) → IsClaimedWith c ply mask q → InCheck q c.winner → ⊥
RuleHolds c rule.First ply mask = IsBegun c.winner c.position (IsClaimed c)
RuleHolds c rule.Left ply mask = (r : Position) → IsRepliedWith c ply mask r → LeadsInto (IsClaimed c (suc ply)) r
RuleHolds c rule.Stale ply mask = (q : Position) → IsClaimedWith c ply mask q → InCheck q q.turn ⊎ HasMove q

-- the rule is true of the claim at its ply and mask
abbrev pub KeepsRule : Claim → RuleAt → Type 0
KeepsRule c r = RuleHolds c r.rule r.ply r.mask

-- the rules of the sets claimed at a ply, mask by mask
abbrev pub set_rules : Claim → ℕ → List RuleAt
set_rules c ply =
    let of_mask =
    λ (mask : ℕ). rule_at ply mask rule.Sign ∷ rule_at ply mask rule.Same ∷ rule_at ply mask rule.Guard ∷ [] in
    flat_map of_mask (masks_of c.position)

-- the rules of the replies at a ply: those of the positions reached, mask by mask, and then those of the claimed
-- positions
abbrev pub reply_rules : Claim → ℕ → List RuleAt
reply_rules c ply =
    map (λ mask. rule_at (suc ply) mask rule.Left) (masks_of c.position)
    ++ map (λ mask. rule_at ply mask rule.Stale) (masks_of c.position)

-- all rules in their order
abbrev pub rules_in_order : Claim → List RuleAt
rules_in_order c =
    let plies = losers_plies c.winner c.position.turn c.moves in
    flat_map (set_rules c) plies ++ (rule_at 0 (mask_of c.position) rule.First ∷ flat_map (reply_rules c) plies)

-- the finding is the first of these rules that fails, or none fails
abbrev pub IsFirstFailing : (RuleAt → Type 0) → List RuleAt → Finding → Type 0
IsFirstFailing Holds [] found = found ≡ None
IsFirstFailing Holds (r ∷ rs) found = ((¬ Holds r) × (found ≡ Some r)) ⊎ (Holds r × IsFirstFailing Holds rs found)
