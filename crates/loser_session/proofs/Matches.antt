-- What a game that is defended keeps, move by move, whatever sets there are.
use Rattle.std.proofs.Common.{◌≡◌, inl, inr, ℕ, suc, ◌+◌, ◌*◌, ◌<◌, ◌≤◌, refl, sym, ap, subst, ◌∙◌, arith}
use Rattle.game_rules.specs.declared.men.Square.{Square}
use Rattle.game_rules.specs.Game.{Position, HasMove, Legal, Lost, Value, Win, other}
use Rattle.game_laws.proofs.SoundLemmas.{other_differs, other_other}
use Rattle.mate_plan.specs.Claim.{IsLosersPly}
use Rattle.mate_plan.specs.Plan.{turn_at}
use Rattle.winning_sets.specs.Kept.{moves_left}
use Rattle.winning_sets.specs.Reach.{Reach}
use Rattle.winning_sets.proofs.KeptParts.{left_first, left_half, left_half_more, turn-reach, value_win}
use Rattle.winner_session.proofs.Games.{left_made}
use Rattle.winner_session.proofs.Held.{losers_ply}
use Rattle.loser_session.specs.Defending.{DefenceMatch, HasMovesLeft, IsLosersTurn, IsMated, IsNextUnwon, IsUnwonMatch, IsWinnersTurn, last_of, made_of, moved, StandsAs}
use Rattle.loser_session.specs.declared.defence.Stand.{Stand}
use Rattle.loser_session.specs.declared.defence.Stand.TheVariants.{Held, Stuck, Attack, Answer}
use Rattle.loser_session.proofs.UnwonParts.{not_won}

module _ (g : DefenceMatch) (keeps : IsUnwonMatch g) where
  match_turn : g.position.turn ≡ turn_at g.start.turn g.ply
  match_turn = turn-reach g.start g.position g.ply keeps.reached

  pub left_is : moves_left (last_of g) g.ply + made_of g ≡ g.moves
  left_is = left_made g.winner g.start.turn g.moves g.ply keeps.within

  -- where the winner has a move left, two plies are left
  pub two_left : HasMovesLeft g → suc g.ply < last_of g
  two_left on = let left = left_is in omega (arith, left, on)

  -- with the loser to move
  module _ (turn : IsLosersTurn g) where
    losers : IsLosersPly g.winner g.start g.moves g.ply
    losers = losers_ply g.winner g.start g.moves g.ply keeps.within (sym match_turn ∙ turn)

    -- the winner has as many moves left after the next ply
    same_left : moves_left (last_of g) (suc g.ply) ≡ moves_left (last_of g) g.ply
    same_left =
        let at : g.ply + (2 * losers.left + 1) ≡ last_of g = losers.before in
        left_half (last_of g) (suc g.ply) losers.left (omega (arith, at)) ∙ sym (left_half_more (last_of g) g.ply losers.left at)

    pub his_next : {i : ℕ} {z : Square} {q : Position} → Legal g.position i z q → q.turn ≡ g.winner
    his_next legal = legal.step.after.turn ∙ (ap other turn ∙ other_other g.winner)

    -- after a legal move to a position that is not won the game is not won
    pub pick_unwon : HasMovesLeft g → {i : ℕ} {z : Square} {q : Position} → Legal g.position i z q → IsNextUnwon g q → IsUnwonMatch (moved g q)
    pick_unwon on {i} {z} {q} legal unwon =
        let two = two_left on in
        record {
          reached = (g.position, keeps.reached, (i, z, legal));
          within = omega (arith, two);
          not_won = λ value. unwon (value_win g.winner (moves_left (last_of g) (suc g.ply)) q (his_next legal) value);
        }

    -- where each legal move leads to a position that is won, and there is one, he is lost
    pub not_all_won : HasMove g.position → ((i : ℕ) (z : Square) (q : Position) → Legal g.position i z q → Win g.winner (moves_left (last_of g) (suc g.ply)) q) → ⊥
    not_all_won moves wins =
        keeps.not_won (inr (turn, inr (moves, λ i z r legal. subst (λ n. Win g.winner n r) same_left (wins i z r legal))))

  -- with the winner to move the game is not won after his legal move
  pub typed_unwon : IsWinnersTurn g → HasMovesLeft g → {i : ℕ} {z : Square} {q : Position} → Legal g.position i z q → IsUnwonMatch (moved g q)
  typed_unwon turn on {i} {z} {q} legal =
      let two = two_left on in
      let next : turn_at g.start.turn (suc g.ply) ≡ other g.winner = ap other (sym match_turn ∙ turn) in
      let losers = losers_ply g.winner g.start g.moves (suc g.ply) (omega (arith, two)) next in
      let at : suc g.ply + (2 * losers.left + 1) ≡ last_of g = losers.before in
      let later : moves_left (last_of g) (suc g.ply) ≡ losers.left = left_half_more (last_of g) (suc g.ply) losers.left at in
      let here : moves_left (last_of g) g.ply ≡ suc losers.left = left_half (last_of g) g.ply (suc losers.left) (omega (arith, at)) in
      let his : q.turn ≡ other g.winner = legal.step.after.turn ∙ ap other turn in
      record {
        reached = (g.position, keeps.reached, (i, z, legal));
        within = omega (arith, two);
        not_won = λ value. elim value [
          | inl win ↦ not_won g.winner (moves_left (last_of g) (suc g.ply)) q his win
          | inr lost ↦
              keeps.not_won (subst (λ n. Value g.winner n g.position) (sym here)
              (inl (turn, (i, z, q, legal, subst (λ n. Lost g.winner n q) later lost))))
        ];
      }

  -- the loser is not mated
  pub unmated : IsMated g → ⊥
  unmated (turn, mate) = keeps.not_won (inr (turn, inl mate))

  -- nor has the winner made more moves than he has
  pub made_within : made_of g ≤ g.moves
  made_within = let left = left_is in omega (arith, left)

-- before the first move
pub first_unwon : (g : DefenceMatch) → g.position ≡ g.start → g.ply ≡ 0 → (Value g.winner g.moves g.start → ⊥) → IsUnwonMatch g
first_unwon g here none unwon = record {
  reached = subst (λ n. Reach g.start n g.position) (sym none) here;
  within = omega (arith, none);
  not_won = λ value.
      unwon (subst (λ n. Value g.winner n g.start) (left_first g.winner g.start.turn g.moves)
      (subst (λ p. Value g.winner (moves_left (last_of g) 0) p) here (subst (λ n. Value g.winner (moves_left (last_of g) n) g.position) none value)));
}

-- a game stands in one way
pub stands_once : (g : DefenceMatch) (one two : Stand) → StandsAs g one → StandsAs g two → one ≡ two
stands_once g Held Held h k = refl
stands_once g Held Stuck h k = absurd (let on = k.0 in omega (arith, h, on))
stands_once g Held Attack h k = absurd (let on = k.0 in omega (arith, h, on))
stands_once g Held Answer h k = absurd (let on = k.0 in omega (arith, h, on))
stands_once g Stuck Held h k = absurd (let on = h.0 in omega (arith, k, on))
stands_once g Stuck Stuck h k = refl
stands_once g Stuck Attack h k = absurd (h.1 k.1)
stands_once g Stuck Answer h k = absurd (h.1 k.1)
stands_once g Attack Held h k = absurd (let on = h.0 in omega (arith, k, on))
stands_once g Attack Stuck h k = absurd (k.1 h.1)
stands_once g Attack Attack h k = refl
stands_once g Attack Answer h k = absurd (other_differs g.winner (sym h.2 ∙ k.2))
stands_once g Answer Held h k = absurd (let on = h.0 in omega (arith, k, on))
stands_once g Answer Stuck h k = absurd (k.1 h.1)
stands_once g Answer Attack h k = absurd (other_differs g.winner (sym k.2 ∙ h.2))
stands_once g Answer Answer h k = refl
