-- What is kept at the plies of the loser is of the game, and won where the winner mates in time. Other crates cite kept_of_game and kept_won.
use Rattle.std.proofs.Common.{◌≡◌, ℕ, zero, suc, ◌+◌, ◌*◌, inl, inr, refl, ap, ◌∙◌, subst, arith}
use Rattle.game_rules.specs.Game.{InCheck, Lost, Moves, Position, Sound, Value, Win, other}
use Rattle.game_rules.specs.declared.men.Side.{Side}
use Rattle.game_laws.proofs.SoundLemmas.{other_other}
use Rattle.game_laws.proofs.ValueLemmas.{lost_flat}
use Rattle.mate_plan.specs.PlanOf.{last_ply}
use Rattle.mate_plan.specs.Won.{IsBegun, IsWonBy}
use Rattle.game_laws.specs.Sets.{LeadsInto}
use Rattle.winning_sets.specs.KeptByLoser.{KeptAreOfGame, KeptByLoser, KeptIsWon}
use Rattle.winning_sets.specs.OfGame.{AreOfGame}
use Rattle.winning_sets.specs.Reach.{Reach}
use Rattle.winning_sets.proofs.KeptParts.{kept_lost, reached_sound}
use Rattle.winning_sets.proofs.WonLemmas.{last_loser, last_winner}

module _ (winner : Side) (p : Position) (moves : ℕ) (sound : Sound p) where
  kept_losing : {ply : ℕ} {q : Position} (h : KeptByLoser winner p moves ply q) → Reach p ply q × Lost winner h.losers.left q
  kept_losing {ply} {q} h = (kept_lost winner p moves ply h.losers.left h.losers.before q).0 h.kept

  losing_kept : (ply left : ℕ) → ply + (2 * left + 1) ≡ last_ply winner p.turn moves → (q : Position) → Reach p ply q → Lost winner left q → KeptByLoser winner p moves ply q
  losing_kept ply left before q reached lost = record {
    losers = record { left = left; before = before };
    kept = (kept_lost winner p moves ply left before q).1 (reached, lost);
  }

  pub kept_of_game : AreOfGame winner p moves (KeptByLoser winner p moves)
  kept_of_game = record {
    plies = λ ply q h. h.losers;
    turn = λ ply q h. (kept_losing h).1.0;
    sound = λ ply q h. reached_sound p sound ply q (kept_losing h).0;
  }

  -- what is kept at the plies of the loser is won
  pub kept_won : Value winner moves p → IsWonBy winner p (KeptByLoser winner p moves)
  kept_won value = record {
    same = λ ply q h. (reached_sound p sound ply q (kept_losing h).0).apart;
    guard = λ ply q h.
        let (reached, lost) = kept_losing h in
        let his : other q.turn ≡ winner = ap other lost.0 ∙ other_other winner in
        let P : Side → Type 0 = λ s. InCheck q s → ⊥ in
        subst P his (reached_sound p sound ply q reached).other_safe;
    first = begun moves value refl;
    left = λ ply q r h step. answered ply q r h.losers.left h.losers.before (kept_losing h) step;
    stale = λ ply q h. (lost_flat winner (Win winner h.losers.left) q (kept_losing h).1).1;
  }
    where
      begun : (n : ℕ) → Value winner n p → n ≡ moves → IsBegun winner p (KeptByLoser winner p moves)
      begun zero (inl win) is = absurd win
      begun (suc k) (inl (turn, (i, z, q, legal, lost))) is =
          let e = last_winner winner p.turn moves turn in
          inl (turn, (q, (i, z, legal), losing_kept 1 k (omega (arith, e, is)) q (p, refl, (i, z, legal)) lost))
      begun n (inr lost) is =
          let e = last_loser winner p.turn moves lost.0 in
          inr (lost.0, losing_kept 0 n (omega (arith, e, is)) p refl lost)

      answered : (ply : ℕ) (q r : Position) (left : ℕ) → ply + (2 * left + 1) ≡ last_ply winner p.turn moves → Reach p ply q × Lost winner left q
          → Moves q r → LeadsInto (KeptByLoser winner p moves (ply + 2)) r
      answered ply q r left before (reached, lost) (i, z, legal) = from left before ((lost_flat winner (Win winner left) q lost).2 i z r legal)
        where
          from : (left : ℕ) → ply + (2 * left + 1) ≡ last_ply winner p.turn moves → Win winner left r → LeadsInto (KeptByLoser winner p moves (ply + 2)) r
          from zero before win = absurd win
          from (suc k) before (turn, (j, y, s, next, lost)) =
              let two : suc (suc ply) ≡ ply + 2 = omega arith in
              let reached_two : Reach p (ply + 2) s = subst (λ (n : ℕ). Reach p n s) two (r, (q, reached, (i, z, legal)), (j, y, next)) in
              (s, (j, y, next), losing_kept (ply + 2) k (omega (arith, before)) s reached_two lost)

pub kept_are_of_game : KeptAreOfGame
kept_are_of_game = λ winner p moves sound. kept_of_game winner p moves sound

pub kept_is_won : KeptIsWon
kept_is_won = λ winner p moves sound value. kept_won winner p moves sound value
