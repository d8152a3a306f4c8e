-- A claim of what is kept at the plies of the loser is won.
use Rattle.std.proofs.Common.{◌≡◌, ◌↔◌, ℕ, ◌+◌, Option, Some, None, inl, inr, refl, sym, ◌∙◌, subst}
use Rattle.std.specs.Prelude.{IsSomeAnd}
use Rattle.auto_core.specs.Automaton.{Automaton}
use Rattle.auto_core.specs.Integers.{IsAccepted}
use Rattle.game_rules.specs.Game.{Position, Value, other}
use Rattle.game_rules.specs.declared.men.Side.{Side}
use Rattle.mask_sets.specs.Stock.{mask_of}
use Rattle.rule_formula.specs.Mean.{RulesMean}
use Rattle.mask_sets.specs.Tuple.{tuple_of}
use Rattle.rule_formula.specs.Trees.{point_of}
use Rattle.mate_plan.specs.Plan.{turn_at}
use Rattle.winning_sets.specs.Kept.{Kept}
use Rattle.rule_formula.proofs.StockLemmas.{stock_unique}
use Rattle.winning_sets.proofs.KeptParts.{kept_lost}
use Rattle.winning_sets.proofs.KeptPlan.{fits_reached}
use Rattle.mate_plan.specs.Claim.{Claim, IsClaim, IsClaimed, claimed_at}
use Rattle.claim_plan.specs.WonLaws.{IsOfKept}
use Rattle.winning_sets.specs.KeptByLoser.{KeptByLoser}
use Rattle.mate_plan.specs.Won.{IsBegun, IsWonBy, Won}
use Rattle.game_laws.specs.Sets.{LeadsInto}
use Rattle.winning_sets.proofs.KeptGame.{kept_won}

-- the same positions are won
module _ (winner : Side) (p : Position) (C D : ℕ → Position → Type 0) (same : (ply : ℕ) (q : Position) → C ply q ↔ D ply q) where
  leads_same : (ply : ℕ) (r : Position) → LeadsInto (C ply) r → LeadsInto (D ply) r
  leads_same ply r (s, moves, is_in) = (s, moves, (same ply s).0 is_in)

  begun_same : IsBegun winner p C → IsBegun winner p D
  begun_same h = elim h [ inl (turn, leads) ↦ inl (turn, leads_same 1 p leads) | inr (turn, is_in) ↦ inr (turn, (same 0 p).0 is_in) ]

  pub won_same : IsWonBy winner p C → IsWonBy winner p D
  won_same won = record {
    same = λ ply q h. won.same ply q ((same ply q).1 h);
    guard = λ ply q h. won.guard ply q ((same ply q).1 h);
    first = begun_same won.first;
    left = λ ply q r h moves. leads_same (ply + 2) r (won.left ply q r ((same ply q).1 h) moves);
    stale = λ ply q h. won.stale ply q ((same ply q).1 h);
  }

module _ (c : Claim) (is : IsClaim c) (mean : RulesMean c.position) (some_point : point_of c.position.men ≡ None → ⊥) (kept : IsOfKept c) where
  abbrev IsKept : ℕ → Position → Type 0
  IsKept ply q = Kept c.winner c.position c.moves ply q

  turn_of : {ply : ℕ} {q : Position} (h : KeptByLoser c.winner c.position c.moves ply q) → q.turn ≡ other c.winner
  turn_of {ply} {q} h = ((kept_lost c.winner c.position c.moves ply h.losers.left h.losers.before q).0 h.kept).1.0

  from_set : {ply : ℕ} {q : Position} (o : Option Automaton) → claimed_at c ply (mask_of q) ≡ o → IsClaimed c ply q
      → IsSomeAnd o (λ a. IsAccepted a (tuple_of q)) → KeptByLoser c.winner c.position c.moves ply q
  from_set None e h there = absurd there
  from_set {ply} {q} (Some a) e h there =
      let losers = (is.only ply (mask_of q) a e).0 in
      let w = ((kept ply (mask_of q) a e).kept.same (tuple_of q)).0 there in
      let at_ply : KeptByLoser c.winner c.position c.moves ply w.position = record { losers = losers; kept = w.is_in } in
      let fits = fits_reached c.position is.sound is.few mean some_point ply w.position w.is_in.reached in
      let one : w.position ≡ q = stock_unique fits.stock h.stock (turn_of at_ply ∙ sym h.turn) w.mask_is w.tuple_is in
      subst (KeptByLoser c.winner c.position c.moves ply) one at_ply

  to_set : (ply : ℕ) (q : Position) (o : Option Automaton) → claimed_at c ply (mask_of q) ≡ o → (o ≡ None → ⊥) → IsKept ply q → IsSomeAnd o (λ a. IsAccepted a (tuple_of q))
  to_set ply q None e some h = absurd (some refl)
  to_set ply q (Some a) e some h = ((kept ply (mask_of q) a e).kept.same (tuple_of q)).1 (record { position = q; is_in = h; mask_is = refl; tuple_is = refl })

  claimed_kept : (ply : ℕ) (q : Position) → KeptByLoser c.winner c.position c.moves ply q ↔ IsClaimed c ply q
  claimed_kept ply q = (
    λ h.
        let fits = fits_reached c.position is.sound is.few mean some_point ply q h.kept.reached in
        let game = mean.game.mask_is (turn_at c.position.turn ply) q fits in
        record { stock = fits.stock; turn = turn_of h; is_in = to_set ply q (claimed_at c ply (mask_of q)) refl (is.found ply (mask_of q) h.losers game) h.kept },
    λ h. from_set (claimed_at c ply (mask_of q)) refl h h.is_in,
  )

  pub kept_claim_won : Value c.winner c.moves c.position → Won c
  kept_claim_won value = record {
    sign = λ ply mask a e. (kept ply mask a e).sign;
    positions = won_same c.winner c.position (KeptByLoser c.winner c.position c.moves) (IsClaimed c) claimed_kept (kept_won c.winner c.position c.moves is.sound value);
  }
