-- The squares to which a man may go to answer a check: at most one on each of his rays.
use Rattle.std.specs.Prelude.{◌≡◌, ℕ, zero, suc, ◌+◌, ◌/◌, ◌==◌, if◌then◌else◌, min, Bool, true, false, ℤ, ◌+ℤ◌, ◌-ℤ◌, ◌*ℤ◌, unsigned_abs, IsSomeAnd}
use Rattle.std.specs.Int.{int_signum}
use Rattle.std.specs.List.{Any}
use Rattle.game_rules.specs.Game.{Position, Bears, IsLiveAnd, Legal, StandsOn, after_steps, man_at, other}
use Rattle.game_rules.specs.Rays.{rays_of}
use Rattle.game_rules.specs.declared.men.Kind.TheVariants.{King}
use Rattle.game_rules.specs.declared.men.Ray.{Ray}
use Rattle.game_rules.specs.declared.men.Square.{Square}

-- the number of equal steps in an offset with these absolute values, if it is a multiple of a direction: the lesser
-- value, or the other one if one is 0
abbrev pub steps_of : ℕ → ℕ → ℕ
steps_of zero n = n
steps_of (suc m) zero = suc m
steps_of (suc m) (suc n) = min (suc m) (suc n)

-- one coordinate of the step toward an offset, from that coordinate d and the other one e: a king's step, but of size 2
-- if d is twice e in absolute value
abbrev pub step_toward : ℤ → ℤ → ℤ
step_toward d e =
    if unsigned_abs d == unsigned_abs e + unsigned_abs e then int_signum d +ℤ int_signum d else int_signum d

-- the step from a toward b
abbrev pub toward_x : Square → Square → ℤ
toward_x a b = step_toward (b.x -ℤ a.x) (b.y -ℤ a.y)

abbrev pub toward_y : Square → Square → ℤ
toward_y a b = step_toward (b.y -ℤ a.y) (b.x -ℤ a.x)

-- the number of equal steps of a direction between two squares on one line
abbrev pub distance : Square → Square → ℕ
distance a b = steps_of (unsigned_abs (b.x -ℤ a.x)) (unsigned_abs (b.y -ℤ a.y))

-- the cross product of two offsets, which is 0 if and only if they are parallel
abbrev pub cross : ℤ → ℤ → ℤ → ℤ → ℤ
cross x y u v = (x *ℤ v) -ℤ (y *ℤ u)

-- the distance of the offset from the line through a toward k: the absolute value of their cross product
abbrev pub off_line : ℤ → ℤ → Square → Square → ℕ
off_line x y a k = unsigned_abs (cross x y (toward_x a k) (toward_y a k))

-- a near ray has one step; a far one meets the line after off / each steps, or, if it is parallel to the line, after
-- `direct` steps
abbrev pub steps_to : (far : Bool) (each off direct : ℕ) → ℕ
steps_to false each off direct = 1
steps_to true zero off direct = direct
steps_to true (suc each) off direct = off / suc each

-- the number of steps along the ray after which a man at b meets the line from a toward k, or a itself if the ray goes
-- along the line
abbrev pub answer_steps : Ray → Square → Square → Square → ℕ
answer_steps r b a k = steps_to r.far (off_line r.dx r.dy a k) (off_line (b.x -ℤ a.x) (b.y -ℤ a.y) a k) (distance b a)

-- the only square on the ray to which a man at b may go to answer a check from a of the king at k
abbrev pub answer_square : Square → Square → Square → Ray → Square
answer_square a k b r = after_steps b (answer_steps r b a k) r.dx r.dy

-- man i has a legal move to z
abbrev pub CanGo : Position → ℕ → Square → Type 0
CanGo p i z = (q : Position) × Legal p i z q

-- man i has a legal move to one of these squares
abbrev pub HasAnswer : Position → Square → Square → ℕ → Type 0
HasAnswer p a k i =
    IsSomeAnd (man_at p i)
    (λ m. IsLiveAnd m (λ b. Any (λ r. CanGo p i (answer_square a k b r)) (rays_of m.kind m.side)))

-- a man at a gives check to the king at k
pub record IsCheckFrom (p : Position) (a k : Square) : Type 0 where
  pub king : Any (λ m. (m.side ≡ p.turn) × (m.kind ≡ King) × StandsOn m k) p.men
  pub checker : Any (λ m. (m.side ≡ other p.turn) × StandsOn m a × Bears p m k) p.men
