-- Who forces what he wins has won.
use Rattle.std.proofs.Common.{◌≡◌, inl, inr, ℕ, zero, suc, ◌+◌, ◌*◌, ◌<◌, ◌≤◌, arith}
use Rattle.std.specs.Prelude.{◌⊎◌}
use Rattle.game_rules.specs.Game.{Position, Win}
use Rattle.game_rules.specs.declared.men.Side.{Side}
use Rattle.game_laws.proofs.ValueLemmas.{lost_into, win_more}
use Rattle.game_forever.specs.Forces.{Forces, RanksFall, RanksFallTo}

pub forced_won : (winner : Side) (T : Position → Type 0) (b : ℕ) → ((q : Position) → T q → q.turn ≡ winner → Win winner b q)
    → (n : ℕ) (p : Position) → Forces winner T n p → Win winner (n + b) p
forced_won winner T b won zero p (turn, is) = win_more winner b (zero + b) p (omega arith) (won p is turn)
forced_won winner T b won (suc n) p (turn, inl is) = win_more winner b (suc n + b) p (omega arith) (won p is turn)
forced_won winner T b won (suc n) p (turn, inr (i, z, q, l, lost)) =
    let one_more : Win winner (suc (n + b)) p = (turn, (i, z, q, l, lost_into winner (Forces winner T n) (Win winner (n + b)) (forced_won winner T b won n) q lost)) in
    win_more winner (suc (n + b)) (suc n + b) p (omega arith) one_more

pub win_forced : (winner : Side) (n : ℕ) (p : Position) → Win winner n p → Forces winner (λ q. ⊥) n p
win_forced winner zero p h = absurd h
win_forced winner (suc n) p (turn, (i, z, q, l, lost)) =
    (turn, inr (i, z, q, l, lost_into winner (Win winner n) (Forces winner (λ r. ⊥) n) (win_forced winner n) q lost))

pub forced_win : (winner : Side) (n : ℕ) (p : Position) → Forces winner (λ q. ⊥) n p → Win winner n p
forced_win winner n p h = win_more winner (n + 0) n p (omega arith) (forced_won winner (λ q. ⊥) 0 (λ q none turn. none) n p h)

-- ranks that fall to positions that are won
module _ (winner : Side) (A : Position → Type 0) (rank : Position → ℕ) (b n : ℕ) (falls : RanksFallTo winner A rank b n) where
  -- each position of rank e at most
  below : (e : ℕ) (p : Position) → A p → p.turn ≡ winner → rank p ≤ e → Win winner (n * suc e + b) p
  below zero p is turn low =
      let won : (q : Position) → (A q × (rank q < rank p)) ⊎ Win winner b q → q.turn ≡ winner → Win winner b q =
      λ q h his. elim h [ inl less ↦ absurd (omega (arith, low, less.1)) | inr w ↦ w ] in
      win_more winner (n + b) (n * 1 + b) p (omega arith) (forced_won winner _ b won n p (falls p is turn))
  below (suc e) p is turn low =
      let won : (q : Position) → (A q × (rank q < rank p)) ⊎ Win winner b q → q.turn ≡ winner → Win winner (n * suc e + b) q =
      λ q h his.
      elim h [
        | inl less ↦ below e q less.0 his (omega (arith, low, less.1))
        | inr w ↦ win_more winner b (n * suc e + b) q (omega arith) w
      ] in
      win_more winner (n + (n * suc e + b)) (n * suc (suc e) + b) p (omega arith) (forced_won winner _ (n * suc e + b) won n p (falls p is turn))

  pub ranked_won_to : (p : Position) → A p → p.turn ≡ winner → Win winner (n * suc (rank p) + b) p
  ranked_won_to p is turn = below (rank p) p is turn (omega arith)

-- who forces a position of a set forces one of a wider
forces_wider : (winner : Side) (T U : Position → Type 0) → ((q : Position) → T q → U q) → (n : ℕ) (p : Position) → Forces winner T n p → Forces winner U n p
forces_wider winner T U f zero p (turn, is) = (turn, f p is)
forces_wider winner T U f (suc n) p (turn, inl is) = (turn, inl (f p is))
forces_wider winner T U f (suc n) p (turn, inr (i, z, q, l, lost)) =
    (turn, inr (i, z, q, l, lost_into winner (Forces winner T n) (Forces winner U n) (forces_wider winner T U f n) q lost))

pub ranked_won : (winner : Side) (A : Position → Type 0) (rank : Position → ℕ) (n : ℕ) → RanksFall winner A rank n
    → (p : Position) → A p → p.turn ≡ winner → Win winner (n * suc (rank p)) p
ranked_won winner A rank n falls p is turn =
    win_more winner (n * suc (rank p) + 0) (n * suc (rank p)) p (omega arith)
    (ranked_won_to winner A rank 0 n
    (λ r is_r his. forces_wider winner (λ q. A q × (rank q < rank r)) (λ q. (A q × (rank q < rank r)) ⊎ Win winner 0 q) (λ q h. inl h) n r (falls r is_r his))
    p is turn)
