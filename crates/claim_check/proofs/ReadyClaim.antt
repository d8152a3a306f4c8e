-- The reduced sets of a claim that has a file.
use Rattle.std.proofs.Common.{◌≡◌, ℕ, ◌≤◌, List, [], ◌∷◌, map, refl, sym, ap, ◌∙◌, subst, arith}
use Rattle.rule_formula.specs.Fits.{masks_of}
use Rattle.mate_plan.specs.Claim.{Claim, every_second, losers_plies}
use Rattle.mate_plan.specs.SameClaim.{IsSameClaim}
use Rattle.claim_plan.proofs.SameClaims.{same_claims_are_checked_alike}
use Rattle.strategy_file.specs.Claims.{claim_of, set_of}
use Rattle.strategy_file.specs.Fitting.{HasFileOf, IsFormed}
use Rattle.strategy_file.specs.declared.version.Version.TheVariants.{Shared}
use Rattle.strategy_file.specs.StrategyFile.{places_with}
use Rattle.strategy_file.specs.declared.claim.Claim.{Claim as ClaimHere}
use Rattle.strategy_file.specs.declared.claim.ClaimedSet.{ClaimedSet as SetHere}
use Rattle.strategy_file.proofs.FileClaims.{files_are_claims}
use Rattle.winning_sets.specs.Claimed.{sets_from}
use Rattle.winning_sets.specs.declared.claimed.ClaimedSets.{ClaimedSets}
use Rattle.claim_check.specs.Ready.{IsReady, claim_in}
use Rattle.claim_check.specs.Reduced.{AreReduced}
use Rattle.claim_check.proofs.ReducedSets.{reduced_are, reduced_few, reduced_same}

module _ (c : Claim) (s : ClaimedSets) (file : HasFileOf c) (position : s.position ≡ c.position) (winner : s.winner ≡ c.winner) (moves : s.moves ≡ c.moves)
    (masks : s.masks.items ≡ masks_of s.position) (are : AreReduced c.sets (sets_from 0 (masks_of s.position) s.plies.items)) where
  pub same_claim : IsSameClaim c (claim_in s)
  same_claim = record {
    position = sym position;
    winner = sym winner;
    moves = sym moves;
    sets = reduced_same c.sets (sets_from 0 (masks_of s.position) s.plies.items) are;
  }

  pub ready_claim : IsReady s
  ready_claim =
      let few : ℕ → Type 0 = λ n. n ≤ 20 in
      record {
        masks = masks;
        moves = subst few (sym moves) file.moves;
        claim = (same_claims_are_checked_alike c (claim_in s) same_claim).claims.0 (files_are_claims Shared c file);
        reduced = reduced_are c.sets (sets_from 0 (masks_of s.position) s.plies.items) are;
        few = reduced_few c.sets (sets_from 0 (masks_of s.position) s.plies.items) are (IsFormed c.position) (λ d formed. let few = formed.few in omega (arith, few)) file.sets;
      }

-- its sets stand at every second ply
same_places : (sets : List SetHere) → map {B = ℕ × ℕ} (λ s. (s.ply, s.mask)) (map set_of sets) ≡ map {B = ℕ × ℕ} (λ s. (s.ply, s.mask)) sets
same_places [] = refl
same_places (s ∷ sets) = ap (λ l. (s.ply, s.mask) ∷ l) (same_places sets)

pub places_here : (c : ClaimHere) → HasFileOf (claim_of c) → (first count : ℕ) (masks : List ℕ)
    → masks ≡ masks_of c.position → every_second first count ≡ losers_plies c.winner c.position.turn c.moves
    → map {B = ℕ × ℕ} (λ s. (s.ply, s.mask)) c.sets.items ≡ places_with (every_second first count) masks
places_here c file first count masks are plies =
    sym (same_places c.sets.items) ∙ file.places
    ∙ ap (λ l. places_with l (masks_of c.position)) (sym plies)
    ∙ ap (places_with (every_second first count)) (sym are)
