-- The meaning of the formulas of the rules at positions.
use Rattle.std.specs.Prelude.{◌≡◌, ◌≢◌, ◌↔◌, ℕ, zero, suc, ◌^◌, ◌<◌, ◌≤◌, true, List, length, Some}
use Rattle.std.specs.List.{Any}
use Rattle.game_rules.specs.declared.men.Kind.{Kind}
use Rattle.game_rules.specs.declared.men.Kind.TheVariants.{King}
use Rattle.game_rules.specs.declared.men.Side.{Side}
use Rattle.game_rules.specs.declared.men.Man.{Man}
use Rattle.game_rules.specs.declared.men.Place.TheVariants.{Gone}
use Rattle.game_rules.specs.declared.men.Square.{Square}
use Rattle.game_rules.specs.Game.{Position, Bears, IsEmptySquare, StandsOn, Step, man_at, other}
use Rattle.game_rules.specs.declared.men.Ray.{Ray}
use Rattle.game_rules.specs.Rays.{IsAlong, ray_of, serves_captures, serves_moves}
use Rattle.rule_formula.specs.Placed.{HoldsApart, IsMember, is_live, placed, without}
use Rattle.game_laws.specs.Stock.{stock_man}
use Rattle.rule_formula.specs.Seats.{squares}
use Rattle.rule_formula.specs.declared.opt.Opt.{Opt}
use Rattle.lin_formula.specs.Tree.{Tree}
use Rattle.lin_formula.specs.Holds.{Holds, Sets}
use Rattle.lin_formula.specs.SetOf.{SetOf, members}
use Rattle.track_word.specs.Tracks.{Values}

-- man k attacks the square of man g along the ray
pub record BearsAlong (r : Ray) (k g : ℕ) (p : Position) : Type 0 where
  pub man : Man
  pub target : Man
  pub from : Square
  pub to : Square
  pub is_man : man_at p k ≡ Some man
  pub is_target : man_at p g ≡ Some target
  pub stands : StandsOn man from
  pub target_stands : StandsOn target to
  pub along : IsAlong r from to
  pub bears : Bears p man to

-- man t stands on the square, or the square is empty if t is 0
abbrev pub Takes : ℕ → Position → Square → Type 0
Takes zero p z = IsEmptySquare p z
Takes (suc t) p z = (m : Man) × (man_at p (suc t) ≡ Some m) × StandsOn m z

-- man i moves along the ray, and takes man t, or nobody if t is 0
pub record StepsBy (i : ℕ) (r : Ray) (t : ℕ) (p q : Position) : Type 0 where
  pub man : Man
  pub from : Square
  pub to : Square
  pub is_man : man_at p i ≡ Some man
  pub stands : StandsOn man from
  pub along : IsAlong r from to
  pub takes : Takes t p to
  pub step : Step p i to q

-- the ray allows a move with this capture
abbrev pub Serves : Kind → ℕ → ℕ → Type 0
Serves k n zero = serves_moves k n ≡ true
Serves k n (suc t) = serves_captures k n ≡ true

-- man t is a live enemy other than the king, or t is 0
abbrev pub IsPrey : List Man → ℕ → Side → ℕ → Type 0
IsPrey stock mask side zero = Unit {0}
IsPrey stock mask side (suc t) =
    (m : Man) × (stock_man stock (suc t) ≡ Some m) × (is_live mask (suc t) ≡ true) × (m.side ≡ other side)
    × (m.kind ≢ King)

-- moving along ray n and taking man t, or nobody if t is 0, is an option of man i
pub record IsOption (stock : List Man) (mask i n t : ℕ) (man : Man) (r : Ray) : Type 0 where
  pub is_man : stock_man stock i ≡ Some man
  pub live : is_live mask i ≡ true
  pub ray : ray_of man.kind man.side n ≡ Some r
  pub serves : Serves man.kind n t
  pub prey : IsPrey stock mask man.side t

-- man k can attack along ray n, and man g is another live man
pub record IsBearing (stock : List Man) (mask k n g : ℕ) (man target : Man) (r : Ray) : Type 0 where
  pub is_man : stock_man stock k ≡ Some man
  pub live : is_live mask k ≡ true
  pub ray : ray_of man.kind man.side n ≡ Some r
  pub serves : serves_captures man.kind n ≡ true
  pub is_target : stock_man stock g ≡ Some target
  pub target_live : is_live mask g ≡ true
  pub apart : k ≢ g

-- it is an option of some man
pub record IsOptionOf (stock : List Man) (mask : ℕ) (o : Opt) : Type 0 where
  pub man : Man
  pub ray : Ray
  pub is : IsOption stock mask o.man o.ray o.taken man ray

-- it is an option of a man of the side
abbrev pub IsOptionOfSide : List Man → ℕ → Side → Opt → Type 0
IsOptionOfSide stock mask s o = (w : IsOptionOf stock mask o) × (w.man.side ≡ s)

-- a step by the option leads from p to q
pub record TakesOption (o : Opt) (p q : Position) : Type 0 where
  pub man : Man
  pub ray : Ray
  pub is_man : man_at p o.man ≡ Some man
  pub is_ray : ray_of man.kind man.side o.ray ≡ Some ray
  pub steps : StepsBy o.man ray o.taken p q

-- a step by the option leads to q from a position of the set
abbrev pub IsReached : Sets → ℕ → List Man → ℕ → Side → Opt → Position → Type 0
IsReached e s stock mask side o q =
    (f : ℕ → Square) × IsMember e s (placed stock (is_live mask) side f)
    × TakesOption o (placed stock (is_live mask) side f) q

-- the formula is true at the positions that the option reaches from the set
abbrev pub ImageHolds : Sets → List Man → ℕ → Opt → ℕ → Tree → Type 0
ImageHolds e stock mask o s t =
    (man : Man) (v : Values) → stock_man stock o.man ≡ Some man → HoldsApart e s stock (is_live mask) man.side →
    Holds t e v
    ↔ IsReached e s stock mask man.side o
    (placed stock (without (is_live mask) o.taken) (other man.side) (squares v))

-- man k can attack along ray n, and man g is another live man
pub record IsBearer (stock : List Man) (mask k n g : ℕ) : Type 0 where
  pub man : Man
  pub target : Man
  pub ray : Ray
  pub is : IsBearing stock mask k n g man target ray

-- man k attacks the square of man g along his ray n
pub record BearsBy (k n g : ℕ) (p : Position) : Type 0 where
  pub man : Man
  pub ray : Ray
  pub is_man : man_at p k ≡ Some man
  pub is_ray : ray_of man.kind man.side n ≡ Some ray
  pub bears : BearsAlong ray k g p

-- the formula is true at the positions of the set in which man k attacks man g along his ray n
abbrev pub BearHolds : Sets → List Man → ℕ → ℕ → ℕ → ℕ → ℕ → Tree → Type 0
BearHolds e stock mask k n g s t =
    (turn : Side) (v : Values) →
    Holds t e v
    ↔ (IsMember e s (placed stock (is_live mask) turn (squares v))
    × BearsBy k n g (placed stock (is_live mask) turn (squares v)))

-- a step by the option leads from p to a position of the set
abbrev pub Reaches : Sets → ℕ → List Man → ℕ → Side → Opt → Position → Type 0
Reaches e s stock mask side o p =
    (g : ℕ → Square) × IsMember e s (placed stock (without (is_live mask) o.taken) (other side) g)
    × TakesOption o p (placed stock (without (is_live mask) o.taken) (other side) g)

-- the formula is true at the positions of the first set from which the option leads into the second
abbrev pub PreHolds : Sets → List Man → ℕ → Opt → ℕ → ℕ → Tree → Type 0
PreHolds e stock mask o s q t =
    (man : Man) (v : Values) → stock_man stock o.man ≡ Some man → HoldsApart e s stock (is_live mask) man.side →
    Holds t e v
    ↔ (IsMember e s (placed stock (is_live mask) man.side (squares v))
    × Reaches e q stock mask man.side o (placed stock (is_live mask) man.side (squares v)))

-- the formula is true at the positions of the set in which man k does not attack man g along his ray n
abbrev pub SafeHolds : Sets → List Man → ℕ → ℕ → ℕ → ℕ → ℕ → Tree → Type 0
SafeHolds e stock mask k n g s t =
    (turn : Side) (v : Values) →
    Holds t e v
    ↔ (IsMember e s (placed stock (is_live mask) turn (squares v))
    × (¬ BearsBy k n g (placed stock (is_live mask) turn (squares v))))

-- men a and b stand on one square
pub record AreTwins (a b : ℕ) (p : Position) : Type 0 where
  pub first : Man
  pub second : Man
  pub square : Square
  pub is_first : man_at p a ≡ Some first
  pub is_second : man_at p b ≡ Some second
  pub first_stands : StandsOn first square
  pub second_stands : StandsOn second square

-- some man is live
abbrev pub HasLiveMan : Position → Type 0
HasLiveMan p = Any (λ m. m.place ≢ Gone) p.men

-- the formula is true at the positions of the set in which men a and b stand on one square
abbrev pub TwinsHolds : Sets → ℕ → ℕ → ℕ → ℕ → Tree → Type 0
TwinsHolds e mask a b s t =
    (stock : List Man) (turn : Side) (v : Values) → length stock ≤ 8 → mask < 2 ^ length stock →
    Holds t e v
    ↔ (IsMember e s (placed stock (is_live mask) turn (squares v))
    × AreTwins a b (placed stock (is_live mask) turn (squares v)))

-- the formula is true only for the places of the men
abbrev pub PointHolds : Sets → List Man → Tree → Type 0
PointHolds e men t =
    (v : Values)
    → Holds t e v ↔ ((k : ℕ) (m : Man) (z : Square) → stock_man men k ≡ Some m → StandsOn m z → squares v k ≡ z)

-- the same for all sets as data
abbrev pub IsImage : List Man → ℕ → Opt → ℕ → Tree → Type 0
IsImage stock mask o s t = (e : ℕ → SetOf) → ImageHolds (members e) stock mask o s t

abbrev pub IsPre : List Man → ℕ → Opt → ℕ → ℕ → Tree → Type 0
IsPre stock mask o s q t = (e : ℕ → SetOf) → PreHolds (members e) stock mask o s q t

abbrev pub IsBear : List Man → ℕ → ℕ → ℕ → ℕ → ℕ → Tree → Type 0
IsBear stock mask k n g s t = (e : ℕ → SetOf) → BearHolds (members e) stock mask k n g s t

abbrev pub IsSafe : List Man → ℕ → ℕ → ℕ → ℕ → ℕ → Tree → Type 0
IsSafe stock mask k n g s t = (e : ℕ → SetOf) → SafeHolds (members e) stock mask k n g s t

abbrev pub IsTwins : ℕ → ℕ → ℕ → ℕ → Tree → Type 0
IsTwins mask a b s t = (e : ℕ → SetOf) → TwinsHolds (members e) mask a b s t

abbrev pub IsPoint : List Man → Tree → Type 0
IsPoint men t = (e : ℕ → SetOf) → PointHolds (members e) men t
