-- What seats have whose variables all differ.
use Rattle.std.proofs.Common.{◌≢◌, ℕ, ◌<◌, ℤ, sym, arith}
use Rattle.rule_formula.specs.declared.seats.Seat.{Seat}
use Rattle.rule_formula.specs.Seats.{own}
use Rattle.rule_formula.specs.Trees.{AreApart, IsCounted, IsDrawn}

-- the seats of two men
pub own_others : (i k : ℕ) → 0 < i → 0 < k → i ≢ k → AreApart (own i) (own k)
own_others i k low first ne = record { across = λ e. ne (omega (arith, e)); along = λ e. ne (omega (arith, e)) }

pub apart_back : {a b : Seat} → AreApart a b → AreApart b a
apart_back h = record { across = λ e. h.across (sym e); along = λ e. h.along (sym e) }

-- an atom for the line through them, and for the order along it
pub apart_drawn : (dx dy : ℤ) {a b : Seat} → AreApart a b → IsDrawn dx dy a b
apart_drawn dx dy h = record { across = λ e w. h.across (sym w); along = λ e w. h.along (sym w); aslant = λ e f. (λ w. h.across (sym w), λ w. h.along (sym w)) }

pub apart_counted : (dx dy : ℤ) {a b : Seat} → AreApart a b → IsCounted dx dy a b
apart_counted dx dy h = record { across = λ e. h.across; along = λ e. h.along }
