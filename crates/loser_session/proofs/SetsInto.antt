-- The sets that moves are to lead into at a ply.
use Rattle.std.proofs.Common.{◌≡◌, inl, inr, ℕ, ◌<◌, List, [], get_or, Option, Some, None, refl, sym, ap, ◌∙◌, subst, arith}
use Rattle.std.specs.List.{AllZip, Contains}
use Rattle.auto_core.specs.Automaton.{Automaton}
use Rattle.game_rules.specs.Game.{other}
use Rattle.game_laws.proofs.SoundLemmas.{side_or_other}
use Rattle.mate_plan.specs.Plan.{turn_at}
use Rattle.mate_plan.proofs.TurnLemmas.{waits_none, waits_one}
use Rattle.rule_formula.specs.Fits.{masks_of}
use Rattle.winning_sets.specs.Solve.{IsSolution, Solution, end_of, reach_at}
use Rattle.winning_sets.proofs.MeaningLaws.{mean}
use Rattle.winning_sets.proofs.Places.{sets_at-ply}
use Rattle.loser_session.specs.Unwon.{AreUnwonPlies, AreUnwonSets, IsUnwonSet, by_turn, sets_into}
use Rattle.loser_session.proofs.Zips.{zip_found, zip_set}
use Rattle.loser_session.proofs.UnwonParts.{all_unwon, are_reached, reach_found}

some_or_none : (o : Option Automaton) → (o ≡ None → ⊥) → (a : Automaton) × (o ≡ Some a)
some_or_none None some = absurd (some refl)
some_or_none (Some a) some = (a, refl)

-- sets that stand beside the masks are those of the masks
pub beside_masks : (s : Solution) → IsSolution s → (ply : ℕ) (sets : List Automaton) → AllZip (IsUnwonSet s ply) (masks_of s.position) sets → AreUnwonSets s ply sets
beside_masks s valid ply sets all = record {
  each = λ mask a is. zip_set (IsUnwonSet s ply) (masks_of s.position) sets mask a all is;
  found = λ mask game.
      let among : Contains (masks_of s.position) mask = ((mean valid.sound valid.few).game.masks mask).1 game in
      zip_found (IsUnwonSet s ply) (masks_of s.position) sets mask all among;
}

module _ (s : Solution) (plies : List (List Automaton)) (ply : ℕ) where
  -- with the winner to move they are those of the list, with the loser to move those that are reached
  pub winners_sets : turn_at s.position.turn ply ≡ s.winner → sets_into s plies ply ≡ get_or plies ply []
  winners_sets turn = ap (λ n. by_turn n (get_or plies ply []) (get_or s.reach ply [])) (waits_none s.winner (turn_at s.position.turn ply) turn)

  pub losers_sets : turn_at s.position.turn ply ≡ other s.winner → sets_into s plies ply ≡ get_or s.reach ply []
  losers_sets turn = ap (λ n. by_turn n (get_or plies ply []) (get_or s.reach ply [])) (waits_one s.winner (turn_at s.position.turn ply) turn)

  module _ (valid : IsSolution s) (unwon : AreUnwonPlies s plies) (some : 0 < ply) (before : ply < end_of s) where
    reached_unwon : turn_at s.position.turn ply ≡ other s.winner → AreUnwonSets s ply (get_or s.reach ply [])
    reached_unwon turn = record {
      each = λ mask a is.
          let at : reach_at s ply mask ≡ Some a = sym (sets_at-ply (masks_of s.position) s.reach ply mask) ∙ is in
          let game = ((are_reached s valid (omega (arith, before))).only ply mask a at).1 in
          all_unwon s valid ply mask a game before turn at;
      found = λ mask game.
          let found = some_or_none (reach_at s ply mask) (reach_found s valid ply mask game before) in
          (found.0, sets_at-ply (masks_of s.position) s.reach ply mask ∙ found.1);
    }

    -- either way they are the sets of what is not won there
    pub are_unwon : AreUnwonSets s ply (sets_into s plies ply)
    are_unwon =
        elim (side_or_other (turn_at s.position.turn ply) s.winner) [
          | inl his ↦ subst (AreUnwonSets s ply) (sym (winners_sets his)) (unwon.each ply before some his)
          | inr turn ↦ subst (AreUnwonSets s ply) (sym (losers_sets turn)) (reached_unwon turn)
        ]
