-- Sets of positions that are won, one for each ply of the loser: from each position the loser is mated in time. The two lemmas
-- at the end speak of any such sets, which a law can't; other crates may cite them.
use Rattle.std.proofs.Common.{◌≡◌, ℕ, zero, suc, ◌+◌, ◌*◌, inl, inr, refl, ap, ◌∙◌, arith}
use Rattle.game_rules.specs.Game.{Lost, Position, Value, Win, other}
use Rattle.game_rules.specs.declared.men.Side.{Side}
use Rattle.game_laws.proofs.SoundLemmas.{other_other}
use Rattle.game_laws.proofs.ValueLemmas.{flat_lost}
use Rattle.mate_plan.specs.PlanOf.{last_ply}
use Rattle.mate_plan.specs.Won.{IsBegun, IsWonBy}
use Rattle.game_laws.specs.Sets.{LeadsInto}
use Rattle.mate_plan.proofs.TurnLemmas.{waits_none, waits_one}
use Rattle.winning_sets.specs.OfGame.{AreOfGame}

-- with the winner to move, the last ply is twice the number of moves; with the loser to move it is one more
pub last_winner : (winner s : Side) (n : ℕ) → s ≡ winner → last_ply winner s n ≡ 2 * n
last_winner winner s n is = let none = waits_none winner s is in omega (arith, none)

pub last_loser : (winner s : Side) (n : ℕ) → s ≡ other winner → last_ply winner s n ≡ 2 * n + 1
last_loser winner s n is = let one = waits_one winner s is in omega (arith, one)

module _ (winner : Side) (p : Position) (moves : ℕ) (C : ℕ → Position → Type 0) (are : AreOfGame winner p moves C) (won : IsWonBy winner p C) where
  abbrev last : ℕ
  last = last_ply winner p.turn moves

  -- the loser is mated from each of the positions within the moves that are left
  pub claimed_lost : (left ply : ℕ) → ply + (2 * left + 1) ≡ last_ply winner p.turn moves → (q : Position) → C ply q → Lost winner left q
  claimed_lost zero ply before q is =
      flat_lost winner (Win winner 0) (are.sound ply q is) (
        are.turn ply q is,
        won.stale ply q is,
        λ i z r legal.
            let (s, step, is_in) = won.left ply q r is (i, z, legal) in
            let there = are.plies (ply + 2) s is_in in
            absurd (omega (arith, before, there.before)),
      )
  claimed_lost (suc k) ply before q is =
      flat_lost winner (Win winner (suc k)) (are.sound ply q is) (
        are.turn ply q is,
        won.stale ply q is,
        λ i z r legal.
            let (s, (j, y, next), is_in) = won.left ply q r is (i, z, legal) in
            let his : r.turn ≡ winner = legal.step.after.turn ∙ (ap other (are.turn ply q is) ∙ other_other winner) in
            (his, (j, y, s, next, claimed_lost k (ply + 2) (omega (arith, before)) s is_in)),
      )

  -- and the winner mates in time
  pub won_value : Value winner moves p
  won_value = by won.first
    where
      from_one : (n : ℕ) → last_ply winner p.turn moves ≡ 2 * n → p.turn ≡ winner → LeadsInto (C 1) p → Win winner n p
      from_one zero is turn (q, step, is_in) =
          let there = are.plies 1 q is_in in
          absurd (omega (arith, is, there.before))
      from_one (suc k) is turn (q, (i, z, legal), is_in) = (turn, (i, z, q, legal, claimed_lost k 1 (omega (arith, is)) q is_in))

      by : IsBegun winner p C → Value winner moves p
      by (inl (turn, leads)) = inl (from_one moves (last_winner winner p.turn moves turn) turn leads)
      by (inr (turn, is_in)) = inr (claimed_lost moves 0 (let e = last_loser winner p.turn moves turn in omega (arith, e)) p is_in)
