-- What holds of a valid solution, wherever its sets come from. Other crates may cite these lemmas.
use Rattle.std.proofs.Common.{◌≡◌, ◌↔◌, ℕ, zero, suc, ◌≤◌, length, Some, sym, ◌∙◌, subst, arith}
use Rattle.limits.specs.declared.numbers.TheConstants.{MOST_STATES}
use Rattle.auto_core.specs.Automaton.{Automaton}
use Rattle.formula_auto.proofs.FirstOvers.{none_some}
use Rattle.game_rules.specs.Game.{Position, Sound, Value}
use Rattle.rule_formula.specs.Fits.{IsGameMask}
use Rattle.winning_sets.specs.Claimed.{IsValid, IsValidBy, IsWonClaim, claim_of}
use Rattle.winning_sets.specs.Solve.{AreReachedTo, IsKeptIn, IsSetAt, IsSolution, Sets, Solution, end_of, kept_at, reach_at}
use Rattle.winning_sets.specs.declared.origin.Origin.{Origin}
use Rattle.winning_sets.specs.declared.origin.Origin.TheVariants.{Plan, Claim as Claimed}
use Rattle.winning_sets.proofs.Answered.{start_kept}
use Rattle.winning_sets.proofs.ClaimPlaces.{claimed_kept}
use Rattle.winning_sets.proofs.ClaimedLemmas.{claim_value}

pub plan_valid : (s : Solution) → IsValid s → s.origin ≡ Plan → IsSolution s
plan_valid s valid is = subst (λ (o : Origin). IsValidBy o s) is valid

pub claim_valid : (s : Solution) → IsValid s → s.origin ≡ Claimed → IsWonClaim s
claim_valid s valid is = subst (λ (o : Origin). IsValidBy o s) is valid

reached_formed : (p : Position) (last : ℕ) (sets : Sets) → AreReachedTo p last sets → (ply mask : ℕ) (a : Automaton) → sets ply mask ≡ Some a → length a.accept ≤ MOST_STATES
reached_formed p zero sets none ply mask a some = none_some (sym some ∙ none ply mask)
reached_formed p (suc last) sets are ply mask a some = (are.formed ply mask a some).few

module _ (s : Solution) where
  sound_by : (o : Origin) → IsValidBy o s → Sound s.position
  sound_by Plan is = is.sound
  sound_by Claimed is = is.claim.sound

  few_by : (o : Origin) → IsValidBy o s → length s.position.men ≤ 8
  few_by Plan is = is.few
  few_by Claimed is = is.claim.few

  moves_by : (o : Origin) → IsValidBy o s → s.moves ≤ 20
  moves_by Plan is = is.moves
  moves_by Claimed is = is.moves

  formed_by : (o : Origin) → IsValidBy o s → (ply mask : ℕ) (a : Automaton) → kept_at s ply mask ≡ Some a → IsSetAt s.position.men mask a
  formed_by Plan is ply mask a some = is.kept.formed ply mask a some
  formed_by Claimed is ply mask a some = is.formed ply mask a some

  only_by : (o : Origin) → IsValidBy o s → (ply mask : ℕ) (a : Automaton) → kept_at s ply mask ≡ Some a → (ply ≤ end_of s) × IsGameMask s.position mask
  only_by Plan is ply mask a some = is.kept.only ply mask a some
  only_by Claimed is ply mask a some =
      let (losers, game) = is.claim.only ply mask a (claimed_kept s ply mask ∙ some) in
      let before = losers.before in
      (omega (arith, before), game)

  reached_by : (o : Origin) → IsValidBy o s → (ply mask : ℕ) (a : Automaton) → reach_at s ply mask ≡ Some a → length a.accept ≤ MOST_STATES
  reached_by Plan is ply mask a some = reached_formed s.position (end_of s) (reach_at s) is.reached ply mask a some
  reached_by Claimed is ply mask a some = none_some (sym some ∙ is.unreached ply mask)

  module _ (valid : IsValid s) where
    pub valid_sound : Sound s.position
    valid_sound = sound_by s.origin valid

    pub valid_few : length s.position.men ≤ 8
    valid_few = few_by s.origin valid

    pub valid_moves : s.moves ≤ 20
    valid_moves = moves_by s.origin valid

    -- each set is formed as it should be
    pub valid_formed : (ply mask : ℕ) (a : Automaton) → kept_at s ply mask ≡ Some a → IsSetAt s.position.men mask a
    valid_formed = formed_by s.origin valid

    -- and stands at a ply up to the last and at a mask of the position
    pub valid_only : (ply mask : ℕ) (a : Automaton) → kept_at s ply mask ≡ Some a → (ply ≤ end_of s) × IsGameMask s.position mask
    valid_only = only_by s.origin valid

    pub valid_reached : (ply mask : ℕ) (a : Automaton) → reach_at s ply mask ≡ Some a → length a.accept ≤ MOST_STATES
    valid_reached = reached_by s.origin valid

    -- with the sets of a plan the starting position is kept exactly where the winner mates in time
    pub plan_value : s.origin ≡ Plan → IsKeptIn s 0 s.position ↔ Value s.winner s.moves s.position
    plan_value is = start_kept (plan_valid s valid is)

    -- with those of a won claim he does
    pub claimed_value : s.origin ≡ Claimed → Value s.winner s.moves s.position
    claimed_value is =
        let won = claim_valid s valid is in
        claim_value (claim_of s) won.claim won.won
