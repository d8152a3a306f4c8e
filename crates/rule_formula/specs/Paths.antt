-- How men move along rays, by their numbers and by seats.
use Rattle.std.specs.Prelude.{◌≡◌, ◌≢◌, ℕ, ◌≤◌, ℤ, unsigned_abs, List, length, Some}
use Rattle.game_rules.specs.declared.men.Man.{Man}
use Rattle.game_rules.specs.declared.men.Ray.{Ray}
use Rattle.game_rules.specs.Rays.{ray_of}
use Rattle.game_laws.specs.Stock.{stock_man}
use Rattle.rule_formula.specs.declared.seats.Seat.{Seat}
use Rattle.rule_formula.specs.Seats.{IsSeat, own}
use Rattle.rule_formula.specs.Trees.{AreApart, Suits}

-- the step of a ray: at most two in each coordinate, and one in at least one of them
pub record IsRayStep (dx dy : ℤ) : Type 0 where
  pub short_right : unsigned_abs dx ≤ 2
  pub short_up : unsigned_abs dy ≤ 2
  pub one : (unsigned_abs dx ≡ 1 → ⊥) → unsigned_abs dy ≡ 1

-- man i moves by a ray, and does not take himself
pub record IsJourney (i : ℕ) (r : Ray) (t : ℕ) : Type 0 where
  pub low : 1 ≤ i
  pub high : i ≤ 8
  pub taken : t ≤ 8
  pub apart : i ≢ t
  pub step : IsRayStep r.dx r.dy

-- man i of the stock has ray n, and man t is another one of the stock, or t is 0
pub record HasJourney (stock : List Man) (i n t : ℕ) : Type 0 where
  pub man : Man
  pub ray : Ray
  pub is_man : stock_man stock i ≡ Some man
  pub is_ray : ray_of man.kind man.side n ≡ Some ray
  pub taken : t ≤ length stock
  pub apart : i ≢ t

-- the ray may lead from the first seat to the second
pub record IsStretch (r : Ray) (a b : Seat) : Type 0 where
  pub from : IsSeat a
  pub to : IsSeat b
  pub suits : Suits r a b
  pub step : IsRayStep r.dx r.dy

-- each man but two has variables of his own, which differ from these seats
pub record IsPassedBy (a b : Seat) (i j : ℕ) : Type 0 where
  pub from : (k : ℕ) → 1 ≤ k → k ≤ 8 → k ≢ i → k ≢ j → AreApart a (own k)
  pub to : (k : ℕ) → 1 ≤ k → k ≤ 8 → k ≢ i → k ≢ j → AreApart (own k) b
