-- To bear is to reach over an open line: a single step leaps over no square.
use Rattle.std.proofs.Common.{◌≡◌, ◌⊎◌, inl, inr, ℕ, max, ℤ, pos, ◌+ℤ◌, ◌-ℤ◌, ◌*ℤ◌, unsigned_abs, Option, Some, None, get_or, sym, ap, ◌∙◌, arith}
use Rattle.std.specs.Prelude.{IsSomeAnd}
use Rattle.std.proofs.lemmas.Int.{ints, unsigned_abs-mul}
use Rattle.game_rules.specs.declared.men.Kind.{Kind}
use Rattle.game_rules.specs.declared.men.Kind.TheVariants.{King, Queen, Rook, Bishop, Knight, Pawn, Chancellor, Archbishop, Amazon, Nightrider}
use Rattle.game_rules.specs.declared.men.Man.{Man}
use Rattle.game_rules.specs.declared.men.Side.{Side}
use Rattle.game_rules.specs.declared.men.Square.{Square}
use Rattle.game_rules.specs.Game.{Position, Bears, BearsAs, IsBetween, IsLeap, IsOpen, square_of}
use Rattle.game_laws.specs.Reach.{HasReach, ReachesOpenly}
use Rattle.game_laws.proofs.Products.{times_one}

-- a single step goes one to a side, or one up or down
abbrev pub IsSingle : Square → Square → Type 0
IsSingle a z = (unsigned_abs (z.x -ℤ a.x) ≡ 1) ⊎ (unsigned_abs (z.y -ℤ a.y) ≡ 1)

one_of : (a z d : ℤ) (t : ℕ) → z ≡ a +ℤ (pos t *ℤ d) → unsigned_abs (z -ℤ a) ≡ 1 → t ≡ 1
one_of a z d t leads one =
    let way : z -ℤ a ≡ pos t *ℤ d = omega (arith, ints, leads) in
    times_one t (unsigned_abs d) (sym (unsigned_abs-mul (pos t) d) ∙ ap unsigned_abs (sym way) ∙ one)

-- nothing is between the ends of a single step
nothing_between : (a z w : Square) → IsSingle a z → IsBetween a z w → ⊥
nothing_between a z w (inl one) h =
    omega (arith, h.begun, h.fewer, one_of a.x z.x h.dx h.whole (ap (λ b. b.x) h.to_b) one)
nothing_between a z w (inr one) h =
    omega (arith, h.begun, h.fewer, one_of a.y z.y h.dy h.whole (ap (λ b. b.y) h.to_b) one)

not_some : (o : Option Square) (P : Square → Type 0) → ((b : Square) → P b → ⊥) → IsSomeAnd o P → ⊥
not_some None P never h = h
not_some (Some b) P never h = never b h

pub single_open : (p : Position) (a z : Square) → IsSingle a z → IsOpen p a z
single_open p a z one k d within h =
    not_some (square_of (get_or p.men k d)) (IsBetween a z) (λ w. nothing_between a z w one) h

leap_open : (p : Position) (a z : Square) → IsLeap (z.x -ℤ a.x) (z.y -ℤ a.y) → IsOpen p a z
leap_open p a z (inl h) = single_open p a z (inl h.0)
leap_open p a z (inr h) = single_open p a z (inr h.1)

one_of_max : (m n : ℕ) → max m n ≡ 1 → (m ≡ 1) ⊎ (n ≡ 1)
one_of_max m n h = grind arith

abbrev Openly : Position → Side → Kind → Square → Square → Type 0
Openly p s k a z = HasReach s k (z.x -ℤ a.x) (z.y -ℤ a.y) × IsOpen p a z

openly : (p : Position) (s : Side) (k : Kind) (a z : Square) → BearsAs p s k a z → Openly p s k a z
openly p s King a z h = (h, single_open p a z (one_of_max _ _ h))
openly p s Queen a z (inl h) = (inl h.0, h.1)
openly p s Queen a z (inr h) = (inr h.0, h.1)
openly p s Rook a z h = h
openly p s Bishop a z h = h
openly p s Knight a z h = (h, leap_open p a z h)
openly p s Pawn a z h = (h, single_open p a z (inl h.0))
openly p s Chancellor a z (inl h) = (inl h.0, h.1)
openly p s Chancellor a z (inr h) = (inr h, leap_open p a z h)
openly p s Archbishop a z (inl h) = (inl h.0, h.1)
openly p s Archbishop a z (inr h) = (inr h, leap_open p a z h)
openly p s Amazon a z (inl (inl h)) = (inl (inl h.0), h.1)
openly p s Amazon a z (inl (inr h)) = (inl (inr h.0), h.1)
openly p s Amazon a z (inr h) = (inr h, leap_open p a z h)
openly p s Nightrider a z h = h

bears_as : (p : Position) (s : Side) (k : Kind) (a z : Square) → HasReach s k (z.x -ℤ a.x) (z.y -ℤ a.y) → IsOpen p a z → BearsAs p s k a z
bears_as p s King a z h clear = h
bears_as p s Queen a z (inl h) clear = inl (h, clear)
bears_as p s Queen a z (inr h) clear = inr (h, clear)
bears_as p s Rook a z h clear = (h, clear)
bears_as p s Bishop a z h clear = (h, clear)
bears_as p s Knight a z h clear = h
bears_as p s Pawn a z h clear = h
bears_as p s Chancellor a z (inl h) clear = inl (h, clear)
bears_as p s Chancellor a z (inr h) clear = inr h
bears_as p s Archbishop a z (inl h) clear = inl (h, clear)
bears_as p s Archbishop a z (inr h) clear = inr h
bears_as p s Amazon a z (inl (inl h)) clear = inl (inl (h, clear))
bears_as p s Amazon a z (inl (inr h)) clear = inl (inr (h, clear))
bears_as p s Amazon a z (inr h) clear = inr h
bears_as p s Nightrider a z h clear = (h, clear)

some_map : (o : Option Square) (P Q : Square → Type 0) → ((a : Square) → P a → Q a) → IsSomeAnd o P → IsSomeAnd o Q
some_map None P Q f h = h
some_map (Some a) P Q f h = f a h

pub bears_openly : (p : Position) (m : Man) (z : Square) → Bears p m z → ReachesOpenly p m z
bears_openly p m z h =
    some_map (square_of m) (λ a. BearsAs p m.side m.kind a z) (λ a. Openly p m.side m.kind a z) (λ a. openly p m.side m.kind a z) h

pub openly_bears : (p : Position) (m : Man) (z : Square) → ReachesOpenly p m z → Bears p m z
openly_bears p m z h =
    some_map (square_of m) (λ a. Openly p m.side m.kind a z) (λ a. BearsAs p m.side m.kind a z)
    (λ a w. bears_as p m.side m.kind a z w.0 w.1) h
