-- Refuges, tables and falling ranks up to moves of the board.
use Rattle.std.proofs.Common.{◌≡◌, ◌⊎◌, inl, inr, ℕ, zero, suc, ◌<◌, ℤ, sym, subst}
use Rattle.game_rules.specs.Game.{HasMove, InCheck, Position, Win}
use Rattle.game_rules.specs.declared.men.Side.{Side}
use Rattle.game_laws.specs.Symmetry.{mapped, shift}
use Rattle.game_laws.specs.Sets.{LeadsInto}
use Rattle.game_laws.proofs.BoardMaps.{negated, shift_keeps}
use Rattle.game_forever.specs.Centre.{IsMovable, IsMovedInto}
use Rattle.game_forever.specs.Forces.{Forces, ForcesLower, RanksFallTo}
use Rattle.game_forever.specs.Refuge.{Escapes, IsRefuge, LeavesEscapes}
use Rattle.game_forever.specs.Sets.{IsStalemate}
use Rattle.game_forever.specs.Tables.{IsLostInto, IsTable}
use Rattle.game_forever.proofs.CentreLemmas.{moved_movable}
use Rattle.game_forever.proofs.MovedLemmas.{legal_back, shifted_back, shifted_forth}

leads_moved : (S : Position → Type 0) → IsMovable S → (dx dy : ℤ) (p : Position) → LeadsInto S p → LeadsInto S (mapped (shift dx dy) p)
leads_moved S movable dx dy p (q, (i, z, l), is) =
    (mapped (shift dx dy) q, (i, (shift dx dy).square z, ((shift_keeps dx dy).legal p i z q).0 l), movable dx dy q is)

stalemate_moved : (dx dy : ℤ) (q : Position) → IsStalemate q → IsStalemate (mapped (shift dx dy) q)
stalemate_moved dx dy q stale =
    record {
      safe = λ check. stale.safe (((shift_keeps dx dy).check q q.turn).1 check);
      stuck = λ move. stale.stuck (((shift_keeps dx dy).has_move q).1 move);
    }

escapes_moved : (X : Position → Type 0) → IsMovable X → (dx dy : ℤ) (q : Position) → Escapes X q → Escapes X (mapped (shift dx dy) q)
escapes_moved X movable dx dy q (inl stale) = inl (stalemate_moved dx dy q stale)
escapes_moved X movable dx dy q (inr leads) = inr (leads_moved X movable dx dy q leads)

leaves_moved : (X : Position → Type 0) → IsMovable X → (dx dy : ℤ) (p : Position) → LeavesEscapes X p → LeavesEscapes X (mapped (shift dx dy) p)
leaves_moved X movable dx dy p leaves q (i, z, l) =
    subst (Escapes X) (shifted_forth dx dy q)
    (escapes_moved X movable dx dy (mapped (shift (negated dx) (negated dy)) q) (leaves _ (i, _, legal_back dx dy p i z q l)))

-- a set is a refuge if it is one up to moves of the board
pub moved_is_refuge : (X : Position → Type 0) (winner : Side)
    → ((p : Position) → X p → p.turn ≡ winner → LeavesEscapes (IsMovedInto X) p)
    → IsRefuge winner (IsMovedInto X)
moved_is_refuge X winner leaves p (dx, dy, is) turn =
    subst (LeavesEscapes (IsMovedInto X)) (shifted_back dx dy p)
    (leaves_moved (IsMovedInto X) (moved_movable X) (negated dx) (negated dy) (mapped (shift dx dy) p) (leaves (mapped (shift dx dy) p) is turn))

-- in a moved position the loser is lost into a table as he was
stale_moved : (dx dy : ℤ) (q : Position) → InCheck q q.turn ⊎ HasMove q → InCheck (mapped (shift dx dy) q) q.turn ⊎ HasMove (mapped (shift dx dy) q)
stale_moved dx dy q (inl check) = inl (((shift_keeps dx dy).check q q.turn).0 check)
stale_moved dx dy q (inr move) = inr (((shift_keeps dx dy).has_move q).0 move)

lost_into_moved : (winner : Side) (L : ℕ → Position → Type 0) → ((n : ℕ) → IsMovable (L n)) → (n : ℕ) (dx dy : ℤ) (q : Position)
    → IsLostInto winner L n q → IsLostInto winner L n (mapped (shift dx dy) q)
lost_into_moved winner L movable n dx dy q lost =
    record {
      sound = ((shift_keeps dx dy).sound q).0 lost.sound;
      turn = lost.turn;
      stale = stale_moved dx dy q lost.stale;
      left = λ r (i, z, l).
          let (k, less, leads) = lost.left (mapped (shift (negated dx) (negated dy)) r) (i, _, legal_back dx dy q i z r l) in
          (k, less, subst (LeadsInto (L k)) (shifted_forth dx dy r) (leads_moved (L k) (movable k) dx dy (mapped (shift (negated dx) (negated dy)) r) leads));
    }

-- sets are a table if they are one up to moves of the board
pub moved_is_table : (L : ℕ → Position → Type 0) (winner : Side)
    → ((n : ℕ) (q : Position) → L n q → IsLostInto winner (λ k. IsMovedInto (L k)) n q)
    → IsTable winner (λ n. IsMovedInto (L n))
moved_is_table L winner rules n q (dx, dy, is) =
    subst (IsLostInto winner (λ k. IsMovedInto (L k)) n) (shifted_back dx dy q)
    (lost_into_moved winner (λ k. IsMovedInto (L k)) (λ k. moved_movable (L k)) n (negated dx) (negated dy) (mapped (shift dx dy) q) (rules n (mapped (shift dx dy) q) is))

-- the winner forces a moved position from where he is moved
forces_moved : (winner : Side) (T U : Position → Type 0) (dx dy : ℤ) → ((q : Position) → T q → U (mapped (shift dx dy) q))
    → (n : ℕ) (p : Position) → Forces winner T n p → Forces winner U n (mapped (shift dx dy) p)
forces_moved winner T U dx dy f zero p (turn, is) = (turn, f p is)
forces_moved winner T U dx dy f (suc n) p (turn, inl is) = (turn, inl (f p is))
forces_moved winner T U dx dy f (suc n) p (turn, inr (i, z, q, l, (his, inl mate))) =
    (turn, inr (i, (shift dx dy).square z, mapped (shift dx dy) q, ((shift_keeps dx dy).legal p i z q).0 l, (his, inl (((shift_keeps dx dy).mate q).0 mate))))
forces_moved winner T U dx dy f (suc n) p (turn, inr (i, z, q, l, (his, inr (move, each)))) = (
  turn,
  inr (
    i,
    (shift dx dy).square z,
    mapped (shift dx dy) q,
    ((shift_keeps dx dy).legal p i z q).0 l,
    (
      his,
      inr (
        ((shift_keeps dx dy).has_move q).0 move,
        λ j w r next.
            subst (Forces winner U n) (shifted_forth dx dy r)
            (forces_moved winner T U dx dy f n (mapped (shift (negated dx) (negated dy)) r)
            (each j _ (mapped (shift (negated dx) (negated dy)) r) (legal_back dx dy q j w r next))),
      ),
    ),
  ),
)

lower_moved : (winner : Side) (A : Position → Type 0) (rank : Position → ℕ) (b n : ℕ) → IsMovable A
    → ((dx dy : ℤ) (p : Position) → rank (mapped (shift dx dy) p) ≡ rank p)
    → (dx dy : ℤ) (p : Position) → ForcesLower winner A rank b n p → ForcesLower winner A rank b n (mapped (shift dx dy) p)
lower_moved winner A rank b n movable same dx dy p h =
    forces_moved winner (λ q. (A q × (rank q < rank p)) ⊎ Win winner b q) (λ q. (A q × (rank q < rank (mapped (shift dx dy) p))) ⊎ Win winner b q) dx dy
    (λ q t. elim t [
      | inl lower ↦ inl (movable dx dy q lower.0, subst (λ e. e < rank (mapped (shift dx dy) p)) (sym (same dx dy q)) (subst (λ e. rank q < e) (sym (same dx dy p)) lower.1))
      | inr won ↦ inr (((shift_keeps dx dy).win winner b q).0 won)
    ])
    n p h

-- ranks that stay the same where the board is moved fall if they fall up to such moves
pub moved_falls : (A : Position → Type 0) (winner : Side) (rank : Position → ℕ) (b n : ℕ)
    → ((dx dy : ℤ) (p : Position) → rank (mapped (shift dx dy) p) ≡ rank p)
    → ((p : Position) → A p → p.turn ≡ winner → ForcesLower winner (IsMovedInto A) rank b n p)
    → RanksFallTo winner (IsMovedInto A) rank b n
moved_falls A winner rank b n same falls p (dx, dy, is) turn =
    subst (ForcesLower winner (IsMovedInto A) rank b n) (shifted_back dx dy p)
    (lower_moved winner (IsMovedInto A) rank b n (moved_movable A) same (negated dx) (negated dy) (mapped (shift dx dy) p) (falls (mapped (shift dx dy) p) is turn))
