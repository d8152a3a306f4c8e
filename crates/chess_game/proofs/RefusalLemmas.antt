-- A refused move is not legal.
use Rattle.std.proofs.Common.{◌≡◌, inl, inr, ℕ, ◌<◌, length, Option, Some, None, sym, subst, ◌∙◌, arith}
use Rattle.std.specs.Prelude.{IsNone, IsSomeAnd}
use Rattle.game_rules.specs.Game.{Position, GoesAs, InCheck, IsAfter, Legal, square_of}
use Rattle.game_rules.specs.declared.men.Kind.{Kind}
use Rattle.game_rules.specs.declared.men.Kind.TheVariants.{King, Queen, Rook, Bishop, Knight, Pawn, Chancellor, Archbishop, Amazon, Nightrider}
use Rattle.game_rules.specs.declared.men.Man.{Man}
use Rattle.game_rules.specs.declared.men.Square.{Square}
use Rattle.chess_game.specs.Near.{IsNarrow, IsNarrowMan, IsNarrowPosition}
use Rattle.chess_game.specs.Refusal.{IsRefusal}
use Rattle.chess_game.specs.declared.moves.Illegal.{Illegal}
use Rattle.chess_game.specs.declared.moves.Illegal.TheVariants.{NoSuchMan, NotYours, Captured, OwnMan, NotReached, KingLeft}
use Rattle.game_laws.proofs.MoveLemmas.{after_each, same_after}
use Rattle.game_laws.proofs.SoundLemmas.{other_differs}

pub some_not_none : (o : Option Square) (P : Square → Type 0) → IsSomeAnd o P → IsNone o → ⊥
some_not_none None P h n = h
some_not_none (Some z) P h n = cc

pub stands_not_none : (o : Option Square) (z : Square) → o ≡ Some z → IsNone o → ⊥
stands_not_none None z h n = cc
stands_not_none (Some a) z h n = cc

-- who goes is live
pub goes_live : (k : Kind) (p : Position) (m : Man) (z : Square) → GoesAs k p m z → IsNone (square_of m) → ⊥
goes_live King p m z h n = some_not_none (square_of m) _ h n
goes_live Queen p m z h n = some_not_none (square_of m) _ h n
goes_live Rook p m z h n = some_not_none (square_of m) _ h n
goes_live Bishop p m z h n = some_not_none (square_of m) _ h n
goes_live Knight p m z h n = some_not_none (square_of m) _ h n
goes_live Chancellor p m z h n = some_not_none (square_of m) _ h n
goes_live Archbishop p m z h n = some_not_none (square_of m) _ h n
goes_live Amazon p m z h n = some_not_none (square_of m) _ h n
goes_live Nightrider p m z h n = some_not_none (square_of m) _ h n
goes_live Pawn p m z (inl h) n = some_not_none (square_of m) _ h.0 n
goes_live Pawn p m z (inr h) n = stands_not_none (square_of m) _ h.0 n

pub refused_not_legal : (e : Illegal) {p : Position} {i : ℕ} {z : Square} {q : Position} → IsRefusal p i z e → Legal p i z q → ⊥
refused_not_legal NoSuchMan h l = let is = l.step.is_man in cc
refused_not_legal NotYours {p} h l =
    let side = rw l.step.is_man at h in
    other_differs p.turn (sym l.step.his_turn ∙ side)
refused_not_legal Captured {p} {z} h l =
    goes_live l.step.man.kind p l.step.man z l.step.goes (rw l.step.is_man at h).1
refused_not_legal OwnMan h l = l.step.not_own (rw l.step.is_man at h).2
refused_not_legal NotReached h l = (rw l.step.is_man at h).3 l.step.goes
refused_not_legal KingLeft {p} {q} (r, step, check) l =
    let same : r ≡ q = same_after step.after l.step.after in
    l.safe (subst (λ s. InCheck s p.turn) same check)

pub narrow_after : {p : Position} {i : ℕ} {z : Square} {q : Position} → IsAfter p i z q → IsNarrowPosition p → IsNarrow z → IsNarrowPosition q
narrow_after {p} {z} after narrow here k d h =
    let within : k < length p.men = omega (arith, after.same_count, h) in
    after_each after k d within IsNarrowMan
    (λ e x is. let same : z ≡ x = cc in subst IsNarrow same here)
    (λ ne s x is. cc)
    (λ ne n. narrow k d within)
