-- The positions of a claim.
use Rattle.std.proofs.Common.{◌≡◌, ◌↔◌, ℕ, List, Option, Some, None, ℤ, refl, sym, ap, ◌∙◌, subst}
use Rattle.std.specs.Prelude.{IsSomeAnd}
use Rattle.track_word.specs.Tracks.{Values, values_at, word_values}
use Rattle.auto_core.specs.Automaton.{Automaton}
use Rattle.auto_core.specs.Integers.{IsAccepted}
use Rattle.game_rules.specs.Game.{Lost, Position, other}
use Rattle.lin_formula.specs.SetOf.{Member, as_set}
use Rattle.mask_sets.specs.Stock.{mask_of}
use Rattle.rule_formula.specs.Placed.{is_live, placed}
use Rattle.mask_sets.specs.Tuple.{tuple_of}
use Rattle.rule_formula.specs.Seats.{squares}
use Rattle.rule_formula.proofs.FitLemmas.{tuple_placed}
use Rattle.rule_formula.proofs.GameTheorem.{placed_mask, placed_stock}
use Rattle.mate_plan.specs.PlanOf.{last_ply}
use Rattle.winning_sets.specs.Kept.{moves_left}
use Rattle.winning_sets.specs.Solve.{HasTuplesOf, IsTupleOf}
use Rattle.winning_sets.proofs.KeptParts.{left_half_more}
use Rattle.mate_plan.specs.Claim.{Claim, IsClaim, IsClaimed, claimed_at, claimed_level}
use Rattle.claim_plan.specs.WonLaws.{ClaimedAreOfGame, ClaimedIsLost, SetsHaveClaimedTuples, WonIsValue}
use Rattle.winning_sets.proofs.ClaimedLemmas.{claim_value, claimed_there, of_game}
use Rattle.winning_sets.proofs.WonLemmas.{claimed_lost}

module _ (c : Claim) (is : IsClaim c) where
  -- a tuple of a claimed set is that of the position whose men stand where it says
  from_set : (ply m : ℕ) (a : Automaton) (tuple : List ℤ) → claimed_at c ply m ≡ Some a → IsAccepted a tuple → IsTupleOf (IsClaimed c ply) m tuple
  from_set ply m a tuple e h =
      let (losers, game) = is.only ply m a e in
      let v : Values = word_values a.tracks h.word in
      let q : Position = placed c.position.men (is_live m) (other c.winner) (squares v) in
      let mask : mask_of q ≡ m = sym (placed_mask c.position.men (is_live m) (other c.winner) (squares v) m game.no_more (λ k low high. refl)) in
      let same : tuple_of q ≡ tuple = sym (tuple_placed c.position.men (is_live m) (other c.winner) v) ∙ (ap (λ vars. values_at vars v) (sym (is.tracks ply m a e)) ∙ h.values) in
      let here : claimed_at c ply (mask_of q) ≡ Some a = ap (claimed_at c ply) mask ∙ e in
      let accepted : IsAccepted a (tuple_of q) = subst (IsAccepted a) (sym same) h in
      record {
        position = q;
        is_in = record {
          stock = placed_stock c.position.men (is_live m) (other c.winner) (squares v);
          turn = refl;
          is_in = subst (λ (o : Option Automaton). IsSomeAnd o (λ b. IsAccepted b (tuple_of q))) (sym here) accepted;
        };
        mask_is = mask;
        tuple_is = same;
      }

  some_member : (o : Option Automaton) (tuple : List ℤ) → Member (as_set o) tuple ↔ IsSomeAnd o (λ a. IsAccepted a tuple)
  some_member None tuple = (λ h. h, λ h. h)
  some_member (Some a) tuple = (λ h. h, λ h. h)

  pub claimed_level-member : (ply : ℕ) (q : Position) → Member (claimed_level c ply (mask_of q)) (tuple_of q) ↔ IsSomeAnd (claimed_at c ply (mask_of q)) (λ a. IsAccepted a (tuple_of q))
  claimed_level-member ply q = some_member (claimed_at c ply (mask_of q)) (tuple_of q)

  pub claimed_member : (ply m : ℕ) (q : Position) → IsClaimed c ply q → mask_of q ≡ m → Member (claimed_level c ply m) (tuple_of q)
  claimed_member ply m q h e =
      let P : ℕ → Type 0 = λ k. Member (claimed_level c ply k) (tuple_of q) in
      subst P e ((claimed_level-member ply q).1 h.is_in)

  -- each tuple of a claimed set is that of a claimed position
  pub claimed_positions : (ply m : ℕ) (tuple : List ℤ) → Member (claimed_level c ply m) tuple → IsTupleOf (IsClaimed c ply) m tuple
  claimed_positions ply m tuple h = at (claimed_at c ply m) refl h
    where
      at : (o : Option Automaton) → claimed_at c ply m ≡ o → Member (as_set o) tuple → IsTupleOf (IsClaimed c ply) m tuple
      at None e h = absurd h
      at (Some a) e h = from_set ply m a tuple e h

  claimed_tuples : (ply m : ℕ) (a : Automaton) → claimed_at c ply m ≡ Some a → HasTuplesOf (IsClaimed c ply) m a
  claimed_tuples ply m a e = record {
    same = λ tuple. (
      from_set ply m a tuple e,
      λ w.
          let member = claimed_member ply m w.position w.is_in w.mask_is in
          let there = subst (λ (o : Option Automaton). Member (as_set o) (tuple_of w.position)) e member in
          subst (IsAccepted a) w.tuple_is there,
    );
  }

pub sets_have_claimed_tuples : SetsHaveClaimedTuples
sets_have_claimed_tuples = λ c ply mask a is e. claimed_tuples c is ply mask a e

pub claimed_are_of_game : ClaimedAreOfGame
claimed_are_of_game = λ c is won. of_game c is won

pub claimed_is_lost : ClaimedIsLost
claimed_is_lost = λ c ply q is won h.
    let losers = (claimed_there c is h).0 in
    let left : moves_left (last_ply c.winner c.position.turn c.moves) ply ≡ losers.left = left_half_more (last_ply c.winner c.position.turn c.moves) ply losers.left losers.before in
    let At : ℕ → Type 0 = λ n. Lost c.winner n q in
    subst At (sym left) (claimed_lost c.winner c.position c.moves (IsClaimed c) (of_game c is won) won.positions losers.left ply losers.before q h)

pub won_is_value : WonIsValue
won_is_value = λ c is won. claim_value c is won
