-- More moves lose nothing, the flat form of Lost, and Lost at once.
use Rattle.std.proofs.Common.{◌≡◌, inl, inr, ℕ, zero, suc, ◌≤◌, arith}
use Rattle.game_rules.specs.Game.{Position, Lost, LostInto, Mate, Sound, Win, other}
use Rattle.game_rules.specs.declared.men.Side.{Side}
use Rattle.game_laws.specs.Lost.{FlatLostInto}
use Rattle.game_laws.proofs.MateLemmas.{mate_or_move}

pub lost_into : (winner : Side) (V W : Position → Type 0) → ((r : Position) → V r → W r) → (q : Position) → LostInto winner V q → LostInto winner W q
lost_into winner V W f q (turn, inl mate) = (turn, inl mate)
lost_into winner V W f q (turn, inr h) = (turn, inr (h.0, λ i z r l. f r (h.1 i z r l)))

pub win_more : (winner : Side) (k n : ℕ) (p : Position) → k ≤ n → Win winner k p → Win winner n p
win_more winner zero n p far h = absurd h
win_more winner (suc k) zero p far h = absurd (omega arith)
win_more winner (suc k) (suc n) p far (turn, (i, z, q, l, lost)) =
    (turn, (i, z, q, l, lost_into winner (Win winner k) (Win winner n) (λ r. win_more winner k n r (omega arith)) q lost))

pub lost_more : (winner : Side) (k n : ℕ) (p : Position) → k ≤ n → Lost winner k p → Lost winner n p
lost_more winner k n p far h = lost_into winner (Win winner k) (Win winner n) (λ r. win_more winner k n r far) p h

-- mate, or to lose with each legal move, in the flat form
pub lost_flat : (winner : Side) (W : Position → Type 0) (q : Position) → LostInto winner W q → FlatLostInto winner W q
lost_flat winner W q (turn, inl mate) = (turn, inl mate.check, λ i z r l. absurd (mate.stuck i z r l))
lost_flat winner W q (turn, inr h) = (turn, inr h.0, h.1)

-- in check, there is mate or a legal move
pub flat_lost : (winner : Side) (W : Position → Type 0) {q : Position} → Sound q → FlatLostInto winner W q → LostInto winner W q
flat_lost winner W {q} sound (turn, inl check, each) =
    (turn, elim (mate_or_move q sound check) [ inl mate ↦ inl mate | inr go ↦ inr (go, each) ])
flat_lost winner W sound (turn, inr go, each) = (turn, inr (go, each))

-- who has a legal move is not mated at once
pub at_once : (winner : Side) (q : Position) → Lost winner 0 q → (q.turn ≡ other winner) × Mate q
at_once winner q (turn, inl mate) = (turn, mate)
at_once winner q (turn, inr h) = absurd (h.1 h.0.0 h.0.1 h.0.2 h.0.3)
