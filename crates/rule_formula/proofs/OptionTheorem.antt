-- Each step that takes no king is one by an option.
use Rattle.std.proofs.Common.{◌≡◌, ◌≢◌, ◌⊎◌, ℕ, zero, suc, ◌<◌, ◌≤◌, pos, ◌-ℤ◌, Bool, true, List, length, Option, Some, None, inl, inr, refl, subst, sym, ap, ◌∙◌, arith}
use Rattle.std.specs.Prelude.{IsSomeAnd}
use Rattle.std.proofs.lemmas.Int.{ints}
use Rattle.game_rules.specs.declared.men.Kind.{Kind}
use Rattle.game_rules.specs.declared.men.Kind.TheVariants.{King, Queen, Rook, Bishop, Knight, Pawn, Chancellor, Archbishop, Amazon, Nightrider}
use Rattle.game_rules.specs.declared.men.Side.{Side}
use Rattle.game_rules.specs.declared.men.Man.{Man}
use Rattle.game_rules.specs.declared.men.Square.{Square}
use Rattle.game_rules.specs.Game.{Bears, GoesAs, IsOccupiedBy, IsOpen, IsEmptySquare, Position, StandsOn, Step, forward, man_at, other, square_of}
use Rattle.game_rules.specs.declared.men.Ray.{Ray}
use Rattle.rule_formula.specs.declared.opt.Opt.{Opt}
use Rattle.game_rules.specs.Rays.{leap, ray_of, serves_moves}
use Rattle.game_laws.specs.Reach.{HasReach}
use Rattle.game_laws.proofs.LineLemmas.{square_is}
use Rattle.game_laws.proofs.OpenLemmas.{bears_openly}
use Rattle.game_laws.proofs.RayLemmas.{true_or_not}
use Rattle.game_laws.proofs.MoveLemmas.{same_or_not}
use Rattle.game_laws.proofs.SoundLemmas.{any_at, side_or_other}
use Rattle.game_laws.proofs.CheckLemmas.{any_is}
use Rattle.rule_formula.proofs.RayLemmas.{LiesOn, is_along}
use Rattle.rule_formula.specs.Placed.{is_live, placed}
use Rattle.game_laws.specs.Stock.{stock_man}
use Rattle.rule_formula.specs.Meaning.{IsOptionOf, IsPrey, Serves, TakesOption, Takes}
use Rattle.rule_formula.proofs.BearLemmas.{bears_from, each_placed, man_placed, stands_at, stock_number}
use Rattle.mask_sets.proofs.Men.{all_men}
use Rattle.game_laws.proofs.StockLemmas.{stock_has}
use Rattle.rule_formula.proofs.ChainLemmas.{Each, each_more}
use Rattle.rule_formula.proofs.PlacedLemmas.{from_placed, placed_man, stands_placed}
use Rattle.rule_formula.proofs.ReachLemmas.{IsRayTo, ray_to}

same_square : (a b : Square) → (a ≡ b) ⊎ (a ≢ b)
same_square a b =
    elim (same_or_not a.x b.x) [
      | inl ex ↦ elim (same_or_not a.y b.y) [ inl ey ↦ inl (square_is a b.x b.y ex ey) | inr ne ↦ inr (λ e. ne (ap (λ (z : Square). z.y) e)) ]
      | inr ne ↦ inr (λ e. ne (ap (λ (z : Square). z.x) e))
    ]

-- a live man of the first n stands on the square
record IsHere (live : ℕ → Bool) (f : ℕ → Square) (z : Square) (n : ℕ) : Type 0 where
  number : ℕ
  low : 0 < number
  high : number ≤ n
  on : live number ≡ true
  there : f number ≡ z

nobody_or_here : (live : ℕ → Bool) (f : ℕ → Square) (z : Square) (n : ℕ) → Each (λ k. live k ≡ true → f k ≡ z → ⊥) n ⊎ IsHere live f z n
nobody_or_here live f z zero = inl (λ k low high. absurd (omega arith))
nobody_or_here live f z (suc n) =
    elim (nobody_or_here live f z n) [
      | inr h ↦ let last : h.number ≤ n = h.high in inr (record { number = h.number; low = h.low; high = omega arith; on = h.on; there = h.there })
      | inl none ↦ elim (true_or_not (live (suc n))) [
        | inr off ↦ inl ((each_more (λ k. live k ≡ true → f k ≡ z → ⊥) n).1 (none, λ on. absurd (cc)))
        | inl on ↦ elim (same_square (f (suc n)) z) [
          | inl there ↦ inr (record { number = suc n; low = omega arith; high = omega arith; on = on; there = there })
          | inr away ↦ inl ((each_more (λ k. live k ≡ true → f k ≡ z → ⊥) n).1 (none, λ on there. away there))
        ]
      ]
    ]

-- a way by which man i gets to z
record IsWay (m : Man) (t : ℕ) (a z : Square) : Type 0 where
  number : ℕ
  ray : Ray
  is_ray : ray_of m.kind m.side number ≡ Some ray
  serves : Serves m.kind number t
  along : LiesOn ray a z

pub way_of_bears : (p : Position) (m : Man) (a z : Square) → StandsOn m a → Bears p m z → IsRayTo m.kind m.side a z
way_of_bears p m a z stands bears =
    let reach = (bears_from p m a z stands bears).0 in
    ray_to m.kind m.side a z (z.x -ℤ a.x) (z.y -ℤ a.y) (omega (arith, ints)) (omega (arith, ints)) reach

capture_way : (k : Kind) (s : Side) (t : ℕ) (p : Position) (m : Man) (a z : Square) → m.kind ≡ k → StandsOn m a → Bears p m z → 0 < t → IsWay m t a z
capture_way k s zero p m a z is stands bears low = absurd (omega arith)
capture_way k s (suc t) p m a z is stands bears low =
    let w = way_of_bears p m a z stands bears in record { number = w.number; ray = w.ray; is_ray = w.is_ray; serves = w.serves; along = w.along }

-- whoever goes where an enemy stands bears on him
pub goes_capture : (k : Kind) (p : Position) (m : Man) (z : Square) → (IsEmptySquare p z → ⊥) → GoesAs k p m z → Bears p m z
goes_capture King p m z full g = g
goes_capture Queen p m z full g = g
goes_capture Rook p m z full g = g
goes_capture Bishop p m z full g = g
goes_capture Knight p m z full g = g
goes_capture Chancellor p m z full g = g
goes_capture Archbishop p m z full g = g
goes_capture Amazon p m z full g = g
goes_capture Nightrider p m z full g = g
goes_capture Pawn p m z full (inl g) = g.0
goes_capture Pawn p m z full (inr g) = absurd (full g.1)

all_move : (k : Kind) (n : ℕ) → (k ≡ Pawn → ⊥) → serves_moves k n ≡ true
all_move King n h = refl
all_move Queen n h = refl
all_move Rook n h = refl
all_move Bishop n h = refl
all_move Knight n h = refl
all_move Chancellor n h = refl
all_move Archbishop n h = refl
all_move Amazon n h = refl
all_move Nightrider n h = refl
all_move Pawn n h = absurd (h refl)

quiet_way : (p : Position) (m : Man) (a z : Square) → (m.kind ≡ Pawn → ⊥) → StandsOn m a → Bears p m z → IsWay m 0 a z
quiet_way p m a z piece stands bears =
    let w = way_of_bears p m a z stands bears in record { number = w.number; ray = w.ray; is_ray = w.is_ray; serves = all_move m.kind w.number piece; along = w.along }

pawn_way : (p : Position) (m : Man) (a z : Square) → m.kind ≡ Pawn → StandsOn m a → StandsOn m (record { x = z.x; y = z.y -ℤ forward m.side }) → IsWay m 0 a z
pawn_way p m a z pawn stands ahead =
    let both : Some a ≡ Some (record { x = z.x; y = z.y -ℤ forward m.side }) = sym stands ∙ ahead in
    let same : a ≡ record { x = z.x; y = z.y -ℤ forward m.side } = cc in
    let ex : a.x ≡ z.x = ap (λ (b : Square). b.x) same in
    let ey : a.y ≡ z.y -ℤ forward m.side = ap (λ (b : Square). b.y) same in
    record {
      number = 0;
      ray = leap (pos 0) (forward m.side);
      is_ray = ap (λ k. ray_of k m.side 0) pawn;
      serves = ap (λ k. serves_moves k 0) pawn;
      along = record { distance = 1; positive = omega arith; near = λ e. refl; steps = record { right = omega (arith, ints); up = omega (arith, ints) } };
    }

step_way : (k : Kind) (p : Position) (m : Man) (a z : Square) → m.kind ≡ k → StandsOn m a → (IsOccupiedBy p (other m.side) z → ⊥) → GoesAs k p m z → IsWay m 0 a z
step_way King p m a z is stands free g = quiet_way p m a z (λ e. cc) stands g
step_way Queen p m a z is stands free g = quiet_way p m a z (λ e. cc) stands g
step_way Rook p m a z is stands free g = quiet_way p m a z (λ e. cc) stands g
step_way Bishop p m a z is stands free g = quiet_way p m a z (λ e. cc) stands g
step_way Knight p m a z is stands free g = quiet_way p m a z (λ e. cc) stands g
step_way Chancellor p m a z is stands free g = quiet_way p m a z (λ e. cc) stands g
step_way Archbishop p m a z is stands free g = quiet_way p m a z (λ e. cc) stands g
step_way Amazon p m a z is stands free g = quiet_way p m a z (λ e. cc) stands g
step_way Nightrider p m a z is stands free g = quiet_way p m a z (λ e. cc) stands g
step_way Pawn p m a z is stands free (inl g) = absurd (free g.1)
step_way Pawn p m a z is stands free (inr g) = pawn_way p m a z is stands g.0

pub some_square : (o : Option Square) (P : Square → Type 0) → IsSomeAnd o P → (a : Square) × (o ≡ Some a)
some_square None P h = absurd h
some_square (Some a) P h = (a, refl)

pub bears_lives : (p : Position) (m : Man) (z : Square) → Bears p m z → (a : Square) × StandsOn m a
bears_lives p m z b = some_square (square_of m) (λ a. HasReach m.side m.kind (z.x -ℤ a.x) (z.y -ℤ a.y) × IsOpen p a z) (bears_openly p m z b)

goes_lives : (k : Kind) (p : Position) (m : Man) (z : Square) → GoesAs k p m z → (a : Square) × StandsOn m a
goes_lives King p m z g = bears_lives p m z g
goes_lives Queen p m z g = bears_lives p m z g
goes_lives Rook p m z g = bears_lives p m z g
goes_lives Bishop p m z g = bears_lives p m z g
goes_lives Knight p m z g = bears_lives p m z g
goes_lives Chancellor p m z g = bears_lives p m z g
goes_lives Archbishop p m z g = bears_lives p m z g
goes_lives Amazon p m z g = bears_lives p m z g
goes_lives Nightrider p m z g = bears_lives p m z g
goes_lives Pawn p m z (inl g) = bears_lives p m z g.0
goes_lives Pawn p m z (inr g) = (record { x = z.x; y = z.y -ℤ forward m.side }, g.0)

prey_of : (stock : List Man) (mask k : ℕ) (side : Side) (m : Man) → stock_man stock k ≡ Some m → is_live mask k ≡ true
    → m.side ≡ other side → m.kind ≢ King → IsPrey stock mask side k
prey_of stock mask zero side m is on enemy piece = tt
prey_of stock mask (suc k) side m is on enemy piece = (m, is, on, enemy, piece)

takes_of : (p : Position) (k : ℕ) (m : Man) (z : Square) → man_at p k ≡ Some m → StandsOn m z → Takes k p z
takes_of p zero m z is stands = absurd (cc)
takes_of p (suc k) m z is stands = (m, is, stands)

-- nobody of this side who stands on the square is a king
abbrev pub IsNoKing : Position → Side → Square → Type 0
IsNoKing p s z = (k : ℕ) (m : Man) → man_at p k ≡ Some m → m.side ≡ s → StandsOn m z → m.kind ≢ King

option_by : (stock : List Man) (mask : ℕ) (side : Side) (f : ℕ → Square) {i : ℕ} (t : ℕ) {z : Square} {q : Position} (a : Square)
    → (h : Step (placed stock (is_live mask) side f) i z q) → StandsOn h.man a → IsWay h.man t a z → IsPrey stock mask side t
    → Takes t (placed stock (is_live mask) side f) z
    → (o : Opt) × (o.man ≡ i) × IsOptionOf stock mask o × TakesOption o (placed stock (is_live mask) side f) q
option_by stock mask side f {i} t {z} a h stands way prey takes =
    let m = from_placed stock (is_live mask) side f i h.man h.is_man in
    let there : StandsOn (man_placed (is_live mask) f i m.man) a = subst (λ b. StandsOn b a) m.is stands in
    let his : IsWay (man_placed (is_live mask) f i m.man) t a z = subst (λ b. IsWay b t a z) m.is way in
    let same : m.man.side ≡ side = sym (ap (λ (b : Man). b.side) m.is) ∙ h.his_turn in
    let o : Opt = record { man = i; ray = way.number; taken = t } in (
      o,
      refl,
      record {
        man = m.man;
        ray = way.ray;
        is = record {
          is_man = m.is_man;
          live = (stands_placed (is_live mask i) (f i) a there).0;
          ray = subst (λ (b : Man). ray_of b.kind b.side way.number ≡ Some way.ray) m.is way.is_ray;
          serves = subst (λ (b : Man). Serves b.kind way.number t) m.is way.serves;
          prey = subst (λ s. IsPrey stock mask s t) (sym same) prey;
        };
      },
      record {
        man = h.man;
        ray = way.ray;
        is_man = h.is_man;
        is_ray = way.is_ray;
        steps = record { man = h.man; from = a; to = z; is_man = h.is_man; stands = stands; along = is_along way.along; takes = takes; step = h };
      },
    )

-- each step that takes no king is one by an option
pub option_of_step : (stock : List Man) (mask : ℕ) (side : Side) (f : ℕ → Square) {i : ℕ} {z : Square} {q : Position}
    → IsNoKing (placed stock (is_live mask) side f) (other side) z → Step (placed stock (is_live mask) side f) i z q
    → (o : Opt) × (o.man ≡ i) × IsOptionOf stock mask o × TakesOption o (placed stock (is_live mask) side f) q
option_of_step stock mask side f {z} kings h =
    let p : Position = placed stock (is_live mask) side f in
    let (a, stands) = goes_lives h.man.kind p h.man z h.goes in
    elim (nobody_or_here (is_live mask) f z (length stock)) [
      | inl none ↦
          let empty : IsEmptySquare p z = (each_placed stock (is_live mask) side f (λ m. StandsOn m z → ⊥)).1
          (λ k m is here.
          let at = stock_number stock k m is in
          let s = stands_placed (is_live mask k) (f k) z here in none k at.low at.high s.0 s.1)
          in
          let free : IsOccupiedBy p (other h.man.side) z → ⊥ = λ w.
          let (k, m, is, (enemy, here)) = any_is p (λ m. (m.side ≡ other h.man.side) × StandsOn m z) w in
          (all_men p (λ m. StandsOn m z → ⊥)).0 empty k m is here
          in
          option_by stock mask side f 0 a h stands (step_way h.man.kind p h.man a z refl stands free h.goes) tt empty
      | inr here ↦
          let k : ℕ = here.number in
          let (m, is) = stock_has stock k here.low here.high in
          let at : man_at p k ≡ Some (man_placed (is_live mask) f k m) = placed_man stock (is_live mask) side f k m is in
          let there : StandsOn (man_placed (is_live mask) f k m) z = stands_at (is_live mask k) (f k) here.on ∙ ap (λ (b : Square). Some b) here.there in
          let enemy : m.side ≡ other side = elim (side_or_other m.side side) [
            | inl own ↦ absurd (h.not_own (any_at p (λ m. (m.side ≡ side) × StandsOn m z) k (man_placed (is_live mask) f k m) at (own, there)))
            | inr enemy ↦ enemy
          ]
          in
          let full : IsEmptySquare p z → ⊥ = λ empty. (all_men p (λ m. StandsOn m z → ⊥)).0 empty k (man_placed (is_live mask) f k m) at there in
          option_by stock mask side f k a h stands
          (capture_way h.man.kind side k p h.man a z refl stands (goes_capture h.man.kind p h.man z full h.goes) here.low)
          (prey_of stock mask k side m is here.on enemy (kings k (man_placed (is_live mask) f k m) at enemy there))
          (takes_of p k (man_placed (is_live mask) f k m) z at there)
    ]
