-- What a session rests on, wherever its sets come from: the positions that are held where the loser is to move are of the game, they are those of
-- the sets, and where the winner mates in time they are won.
use Rattle.std.proofs.Common.{◌≡◌, ℕ, ◌+◌, ◌-◌, ◌≤◌, Option, sym, subst, ◌∙◌, arith}
use Rattle.std.specs.Prelude.{IsSomeAnd}
use Rattle.auto_core.specs.Automaton.{Automaton}
use Rattle.auto_core.specs.Integers.{IsAccepted}
use Rattle.game_rules.specs.declared.men.Side.{Side}
use Rattle.game_rules.specs.Game.{Position, Lost, Value, other}
use Rattle.mask_sets.specs.Stock.{mask_of}
use Rattle.game_laws.specs.Stock.{HasStock}
use Rattle.mask_sets.specs.Tuple.{tuple_of}
use Rattle.mate_plan.specs.Claim.{IsClaimed, IsLosersPly}
use Rattle.mate_plan.specs.Plan.{turn_at}
use Rattle.mate_plan.specs.PlanOf.{last_ply}
use Rattle.mate_plan.specs.Turns.{plies_before_turn}
use Rattle.mate_plan.specs.Won.{IsWonBy}
use Rattle.mate_plan.proofs.TurnLemmas.{its_plies, waits_sum}
use Rattle.winning_sets.specs.KeptByLoser.{KeptByLoser}
use Rattle.winning_sets.proofs.KeptGame.{kept_are_of_game, kept_is_won}
use Rattle.winning_sets.specs.Claimed.{IsHeldFrom, IsValid, IsValidBy, IsWonClaim, claim_of}
use Rattle.winning_sets.specs.Kept.{moves_left}
use Rattle.winning_sets.specs.OfGame.{AreOfGame}
use Rattle.winning_sets.specs.Solve.{HasCoordinates, IsKeptIn, IsSolution, Solution, end_of}
use Rattle.winning_sets.specs.declared.origin.Origin.{Origin}
use Rattle.winning_sets.specs.declared.origin.Origin.TheVariants.{Plan, Claim as Claimed}
use Rattle.winning_sets.proofs.ClaimedLemmas.{of_game}
use Rattle.winning_sets.proofs.ClaimPlaces.{claimed_kept}
use Rattle.winning_sets.proofs.KeptParts.{left_half_more, turn-reach}
use Rattle.winning_sets.proofs.MeaningLaws.{keeps_kept}
use Rattle.winning_sets.proofs.WonLemmas.{claimed_lost}

-- at a ply of the loser up to the last one, the winner has this number of moves left
pub losers_ply : (winner : Side) (p : Position) (moves ply : ℕ) → ply ≤ last_ply winner p.turn moves → turn_at p.turn ply ≡ other winner → IsLosersPly winner p moves ply
losers_ply winner p moves ply low is =
    let there = its_plies (other winner) p.turn ply is in
    let at = there.1 in
    let one = waits_sum winner p.turn in
    record { left = moves + plies_before_turn winner p.turn - there.0 - 1; before = omega (arith, low, at, one) }

-- what is held where the loser is to move
abbrev pub Losing : Origin → Solution → ℕ → Position → Type 0
Losing Plan s ply q = KeptByLoser s.winner s.position s.moves ply q
Losing Claimed s ply q = IsClaimed (claim_of s) ply q

-- these are of the game, they are held there, and they are those of the sets
pub record HasHeld (o : Origin) (s : Solution) : Type 0 where
  pub game : AreOfGame s.winner s.position s.moves (Losing o s)
  pub held : (ply : ℕ) (q : Position) → Losing o s ply q → IsHeldFrom o s ply q
  pub losing : (ply : ℕ) (q : Position) → ply ≤ end_of s → q.turn ≡ other s.winner → IsHeldFrom o s ply q → Losing o s ply q
  pub in_set : (ply : ℕ) (q : Position) → Losing o s ply q → HasCoordinates s ply q
  pub of_set : (ply : ℕ) (q : Position) → HasStock s.position.men q → q.turn ≡ other s.winner → turn_at s.position.turn ply ≡ other s.winner
      → HasCoordinates s ply q → Losing o s ply q

kept_has : {s : Solution} → IsSolution s → HasHeld Plan s
kept_has {s} valid = record {
  game = kept_are_of_game s.winner s.position s.moves valid.sound;
  held = λ ply q h. h.kept;
  losing = λ ply q low turn h. record {
    losers = losers_ply s.winner s.position s.moves ply low (sym (turn-reach s.position q ply h.reached) ∙ turn);
    kept = h;
  };
  in_set = λ ply q h.
      let before = h.losers.before in
      let low : ply ≤ end_of s = omega (arith, before) in
      let h = (keeps_kept s ply q valid.sound valid.few valid.kept).1 (low, h.kept) in h.is_in;
  of_set = λ ply q stock turn at is.
      let here : IsKeptIn s ply q = record { stock = stock; turn = turn ∙ sym at; is_in = is } in
      let (low, kept) = (keeps_kept s ply q valid.sound valid.few valid.kept).0 here in
      record { losers = losers_ply s.winner s.position s.moves ply low at; kept = kept };
}

claim_has : {s : Solution} → IsWonClaim s → HasHeld Claimed s
claim_has {s} valid =
    let Has : Position → Option Automaton → Type 0 = λ q o. IsSomeAnd o (λ a. IsAccepted a (tuple_of q)) in
    record {
      game = of_game (claim_of s) valid.claim valid.won;
      held = λ ply q h. h;
      losing = λ ply q low turn h. h;
      in_set = λ ply q h. subst (Has q) (claimed_kept s ply (mask_of q)) h.is_in;
      of_set = λ ply q stock turn at is. record { stock = stock; turn = turn; is_in = subst (Has q) (sym (claimed_kept s ply (mask_of q))) is };
    }

has_by : (o : Origin) (s : Solution) → IsValidBy o s → HasHeld o s
has_by Plan s valid = kept_has valid
has_by Claimed s valid = claim_has valid

pub has_held : (s : Solution) → IsValid s → HasHeld s.origin s
has_held s valid = has_by s.origin s valid

won_by : (o : Origin) (s : Solution) → IsValidBy o s → Value s.winner s.moves s.position → IsWonBy s.winner s.position (Losing o s)
won_by Plan s valid value = kept_is_won s.winner s.position s.moves valid.sound value
won_by Claimed s valid value = valid.won.positions

pub held_won : (s : Solution) → IsValid s → Value s.winner s.moves s.position → IsWonBy s.winner s.position (Losing s.origin s)
held_won s valid value = won_by s.origin s valid value

-- and from each of them the loser is mated within the moves that are left
pub losing_lost : (s : Solution) → IsValid s → Value s.winner s.moves s.position → (ply : ℕ) (q : Position) → Losing s.origin s ply q → Lost s.winner (moves_left (end_of s) ply) q
losing_lost s valid value ply q h =
    let game = (has_held s valid).game in
    let at = game.plies ply q h in
    let left : moves_left (end_of s) ply ≡ at.left = left_half_more (end_of s) ply at.left at.before in
    subst (λ n. Lost s.winner n q) (sym left)
    (claimed_lost s.winner s.position s.moves (Losing s.origin s) game (held_won s valid value) at.left ply at.before q h)
