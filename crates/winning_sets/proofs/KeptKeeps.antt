-- A position of the stock is in the kept sets exactly where it is kept.
use Rattle.std.proofs.Common.{◌≡◌, ◌↔◌, ℕ, ◌≤◌, length, Option, Some, None, refl, sym, ◌∙◌, subst}
use Rattle.std.specs.Prelude.{IsSomeAnd}
use Rattle.auto_core.specs.Automaton.{Automaton}
use Rattle.auto_core.specs.Integers.{IsAccepted}
use Rattle.game_rules.specs.Game.{Position, Sound}
use Rattle.rule_formula.specs.Fits.{Fits}
use Rattle.mask_sets.specs.Stock.{mask_of}
use Rattle.rule_formula.specs.Mean.{RulesMean}
use Rattle.mask_sets.specs.Tuple.{tuple_of}
use Rattle.rule_formula.specs.Trees.{point_of}
use Rattle.rule_formula.proofs.StockLemmas.{stock_unique}
use Rattle.winning_sets.specs.Kept.{Kept}
use Rattle.mate_plan.specs.Plan.{turn_at}
use Rattle.winning_sets.specs.Solve.{AreKept, HasTuplesOf, IsKeptIn, IsTupleOf, Solution, end_of, kept_at}
use Rattle.winning_sets.proofs.KeptPlan.{fits_reached}

module _ (s : Solution) (sound : Sound s.position) (few : length s.position.men ≤ 8) (mean : RulesMean s.position)
    (some_point : point_of s.position.men ≡ None → ⊥) (sets : AreKept s.winner s.position s.moves (kept_at s)) (ply : ℕ) (q : Position) where
  abbrev IsKept : Position → Type 0
  IsKept r = Kept s.winner s.position s.moves ply r

  fits : (r : Position) → IsKept r → Fits s.position (turn_at s.position.turn ply) r
  fits r kept = fits_reached s.position sound few mean some_point ply r kept.reached

  -- who has the tuple of a kept position is kept
  same_kept : IsKeptIn s ply q → IsTupleOf IsKept (mask_of q) (tuple_of q) → IsKept q
  same_kept is h =
      let there = fits h.position h.is_in in
      let same : h.position ≡ q = stock_unique there.stock is.stock (there.turn ∙ sym is.turn) h.mask_is h.tuple_is in
      subst IsKept same h.is_in

  kept_of : (o : Option Automaton) → kept_at s ply (mask_of q) ≡ o → IsKeptIn s ply q → IsSomeAnd o (λ a. IsAccepted a (tuple_of q)) → (ply ≤ end_of s) × IsKept q
  kept_of None e is h = absurd h
  kept_of (Some a) e is h =
      let (within, game) = sets.only ply (mask_of q) a e in
      let has : HasTuplesOf IsKept (mask_of q) a = subst (λ o. IsSomeAnd o (HasTuplesOf IsKept (mask_of q))) e (sets.found ply (mask_of q) within game) in
      (within, same_kept is ((has.same (tuple_of q)).0 h))

  in_of : (o : Option Automaton) → IsKept q → IsSomeAnd o (HasTuplesOf IsKept (mask_of q)) → IsSomeAnd o (λ a. IsAccepted a (tuple_of q))
  in_of None kept h = absurd h
  in_of (Some a) kept h = (h.same (tuple_of q)).1 (record { position = q; is_in = kept; mask_is = refl; tuple_is = refl })

  pub keeps_is_kept : IsKeptIn s ply q ↔ ((ply ≤ end_of s) × IsKept q)
  keeps_is_kept = (
    λ is. kept_of (kept_at s ply (mask_of q)) refl is is.is_in,
    λ (within, kept).
        let fit = fits q kept in
        let game = mean.game.mask_is (turn_at s.position.turn ply) q fit in
        record { stock = fit.stock; turn = fit.turn; is_in = in_of (kept_at s ply (mask_of q)) kept (sets.found ply (mask_of q) within game) },
  )
