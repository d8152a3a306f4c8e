-- Moves between placed positions.
use Rattle.std.proofs.Common.{◌≡◌, ◌≢◌, ◌⊎◌, ℕ, zero, suc, ◌<◌, pos, ◌+ℤ◌, ◌-ℤ◌, Bool, true, false, ◌&&◌, not, List, Some, inl, inr, refl, subst, sym, ap, ◌∙◌, arith}
use Rattle.std.specs.Prelude.{◌==◌}
use Rattle.std.proofs.lemmas.Int.{ints}
use Rattle.std.proofs.lemmas.Bool.Decides.{nat_tests}
use Rattle.game_rules.specs.declared.men.Kind.{Kind}
use Rattle.game_rules.specs.declared.men.Kind.TheVariants.{King, Queen, Rook, Bishop, Knight, Pawn, Chancellor, Archbishop, Amazon, Nightrider}
use Rattle.game_rules.specs.declared.men.Side.{Side}
use Rattle.game_rules.specs.declared.men.Man.{Man}
use Rattle.game_rules.specs.declared.men.Place.TheVariants.{Gone, At}
use Rattle.game_rules.specs.declared.men.Square.{Square}
use Rattle.game_rules.specs.Game.{Bears, Goes, GoesAs, IsOccupiedBy, IsAfter, IsEmptySquare, IsLeftBy, Position, StandsOn, forward, man_at, other, place_square, IsApart}
use Rattle.game_rules.specs.declared.men.Ray.{Ray}
use Rattle.game_rules.specs.Rays.{leap, serves_captures, serves_moves}
use Rattle.game_laws.proofs.LineLemmas.{square_is}
use Rattle.game_laws.proofs.SoundLemmas.{any_at, other_differs}
use Rattle.game_laws.proofs.RayLemmas.{true_or_not}
use Rattle.game_laws.proofs.CheckLemmas.{any_is}
use Rattle.rule_formula.proofs.RayLemmas.{LiesOn, is_along, lies_on, IsSteps, IsWithin, along_moves, one_step, steps_same}
use Rattle.rule_formula.specs.Placed.{is_live, place_at, placed, without}
use Rattle.game_laws.specs.Stock.{stock_man}
use Rattle.rule_formula.specs.Meaning.{IsOption, IsPrey, StepsBy, Takes}
use Rattle.rule_formula.proofs.BearLemmas.{IsClearTo, bears_along, each_placed, man_placed, not_at_end, not_at_start, stands_at}
use Rattle.rule_formula.proofs.KindLemmas.{IsRayOf, ray_is}
use Rattle.rule_formula.proofs.PlacedLemmas.{from_placed, length_placed, placed_man, stands_placed}
use Rattle.mask_sets.proofs.Men.{all_men}

-- each live man other than i and t
abbrev pub EachOther : List Man → (ℕ → Bool) → ℕ → ℕ → (ℕ → Type 0) → Type 0
EachOther stock live i t P = (k : ℕ) (m : Man) → stock_man stock k ≡ Some m → live k ≡ true → k ≢ i → k ≢ t → P k

-- man i goes along the ray from his square in f to that in g, where man t stood, and the others stay
pub record IsMove (stock : List Man) (live : ℕ → Bool) (i : ℕ) (r : Ray) (t : ℕ) (f g : ℕ → Square) : Type 0 where
  pub along : LiesOn r (f i) (g i)
  pub clear : EachOther stock live i t (λ k. IsWithin r (f i) (f k) (suc along.distance) → ⊥)
  pub stay : EachOther stock live i t (λ k. f k ≡ g k)
  pub taken : 0 < t → f t ≡ g i

-- who is live after the capture
pub kept_live : (b : Bool) (k t : ℕ) → b ≡ true → k ≢ t → (b && not (k == t)) ≡ true
kept_live true k t e ne = grind (arith, nat_tests)
kept_live false k t e ne = absurd (cc)

pub was_live : (b : Bool) (k t : ℕ) → (b && not (k == t)) ≡ true → (b ≡ true) × (k ≢ t)
was_live true k t e = (refl, grind (arith, nat_tests))
was_live false k t e = absurd (cc)

pub taken_gone : (b : Bool) (k t : ℕ) → k ≡ t → (b && not (k == t)) ≡ false
taken_gone true k t e = grind (arith, nat_tests)
taken_gone false k t e = refl

pub never_live : (b c : Bool) → b ≡ false → (b && c) ≡ false
never_live true c e = absurd (cc)
never_live false c e = refl

pub place_is : (b : Bool) (z : Square) → b ≡ true → place_at b z ≡ At z.x z.y
place_is true z e = refl
place_is false z e = absurd (cc)

pub place_gone : (b : Bool) (z : Square) → b ≡ false → place_at b z ≡ Gone
place_gone true z e = absurd (cc)
place_gone false z e = refl

goes_as : (k : Kind) (p : Position) (m : Man) (z : Square) → Bears p m z → IsOccupiedBy p (other m.side) z → GoesAs k p m z
goes_as King p m z b h = b
goes_as Queen p m z b h = b
goes_as Rook p m z b h = b
goes_as Bishop p m z b h = b
goes_as Knight p m z b h = b
goes_as Chancellor p m z b h = b
goes_as Archbishop p m z b h = b
goes_as Amazon p m z b h = b
goes_as Nightrider p m z b h = b
goes_as Pawn p m z b h = inl (b, h)

-- whoever is no pawn goes where he bears
goes_bears : (k : Kind) (p : Position) (m : Man) (z : Square) → (k ≡ Pawn → ⊥) → GoesAs k p m z → Bears p m z
goes_bears King p m z piece g = g
goes_bears Queen p m z piece g = g
goes_bears Rook p m z piece g = g
goes_bears Bishop p m z piece g = g
goes_bears Knight p m z piece g = g
goes_bears Chancellor p m z piece g = g
goes_bears Archbishop p m z piece g = g
goes_bears Amazon p m z piece g = g
goes_bears Nightrider p m z piece g = g
goes_bears Pawn p m z piece g = absurd (piece refl)

-- a man who takes nobody goes along a ray of moves
goes_quiet : (k : Kind) (n : ℕ) (p : Position) (m : Man) (z : Square) → serves_moves k n ≡ true → (serves_captures k n ≡ true → Bears p m z)
    → (serves_captures k n ≡ false → StandsOn m (record { x = z.x; y = z.y -ℤ forward m.side })) → IsEmptySquare p z → GoesAs k p m z
goes_quiet King n p m z moves bears ahead free = bears refl
goes_quiet Queen n p m z moves bears ahead free = bears refl
goes_quiet Rook n p m z moves bears ahead free = bears refl
goes_quiet Bishop n p m z moves bears ahead free = bears refl
goes_quiet Knight n p m z moves bears ahead free = bears refl
goes_quiet Chancellor n p m z moves bears ahead free = bears refl
goes_quiet Archbishop n p m z moves bears ahead free = bears refl
goes_quiet Amazon n p m z moves bears ahead free = bears refl
goes_quiet Nightrider n p m z moves bears ahead free = bears refl
goes_quiet Pawn zero p m z moves bears ahead free = inr (ahead refl, free)
goes_quiet Pawn (suc n) p m z moves bears ahead free = absurd (cc)

pub same_number : (a b : ℕ) → (a ≡ b) ⊎ (a ≢ b)
same_number a b = grind arith

-- where he comes from, if he goes one step ahead
step_back : (s : Side) (r : Ray) (a z : Square) → r ≡ leap (pos 0) (forward s) → (w : LiesOn r a z) → a ≡ record { x = z.x; y = z.y -ℤ forward s }
step_back s r a z e w =
    let one : w.distance ≡ 1 = w.near (ap (λ (r : Ray). r.far) e) in
    let right : z.x ≡ a.x +ℤ r.dx = one_step a.x z.x r.dx w.distance one w.steps.right in
    let up : z.y ≡ a.y +ℤ r.dy = one_step a.y z.y r.dy w.distance one w.steps.up in
    let none : r.dx ≡ pos 0 = ap (λ (r : Ray). r.dx) e in
    let ahead : r.dy ≡ forward s = ap (λ (r : Ray). r.dy) e in
    let ex : a.x ≡ z.x = omega (arith, ints) in
    let ey : a.y ≡ z.y -ℤ forward s = omega (arith, ints) in
    square_is a z.x (z.y -ℤ forward s) ex ey

-- the man who is taken is a live man of the other side
prey_is : (stock : List Man) (mask t : ℕ) (side : Side) → IsPrey stock mask side t → (k : ℕ) (m : Man) → k ≡ t → stock_man stock k ≡ Some m → m.side ≡ other side
prey_is stock mask zero side h k m e is =
    let none : stock_man stock zero ≡ Some m = subst (λ j. stock_man stock j ≡ Some m) e is in absurd (cc)
prey_is stock mask (suc t) side h k m e is =
    let here : stock_man stock (suc t) ≡ Some m = subst (λ j. stock_man stock j ≡ Some m) e is in
    let both : Some h.0 ≡ Some m = sym h.1 ∙ here in
    let same : h.0 ≡ m = cc in
    subst (λ (a : Man). a.side ≡ other side) same h.3

prey_live : (stock : List Man) (mask t : ℕ) (side : Side) → IsPrey stock mask side t → 0 < t → is_live mask t ≡ true
prey_live stock mask zero side h low = absurd (omega arith)
prey_live stock mask (suc t) side h low = h.2

pub some_number : (stock : List Man) (k : ℕ) (m : Man) → stock_man stock k ≡ Some m → 0 < k
some_number stock zero m is = absurd (cc)
some_number stock (suc k) m is = omega arith

-- whoever stands where man i goes is taken
taken_there : {stock : List Man} {mask i n t : ℕ} {man : Man} {r : Ray} → IsOption stock mask i n t man r → {f g : ℕ → Square}
    → IsMove stock (is_live mask) i r t f g → (k : ℕ) (m : Man) → stock_man stock k ≡ Some m → is_live mask k ≡ true → f k ≡ g i → k ≡ t
taken_there {i} {n} {t} {man} {r} o {f} {g} w k m is live there =
    let ray : IsRayOf man.side man.kind n r = ray_is man.side man.kind n r o.ray in
    elim (same_number k i) [
      | inl e ↦ absurd (along_moves ray.fair (f i) (g i) w.along (subst (λ j. f j ≡ g i) e there))
      | inr other_than ↦ elim (same_number k t) [
        | inl e ↦ e
        | inr untaken ↦ absurd (w.clear k m is live other_than untaken (record {
          distance = w.along.distance;
          positive = w.along.positive;
          before = omega arith;
          steps = subst (λ z. IsSteps r (f i) z w.along.distance) (sym there) w.along.steps;
        }))
      ]
    ]

empty_there : (stock : List Man) (mask i n : ℕ) (man : Man) (r : Ray) → IsOption stock mask i n 0 man r → (f g : ℕ → Square)
    → IsMove stock (is_live mask) i r 0 f g → IsEmptySquare (placed stock (is_live mask) man.side f) (g i)
empty_there stock mask i n man r o f g w =
    (each_placed stock (is_live mask) man.side f (λ m. StandsOn m (g i) → ⊥)).1
    (λ k m is stands.
    let s = stands_placed (is_live mask k) (f k) (g i) stands in
    let none : k ≡ 0 = taken_there o w k m is s.0 s.1 in
    let low : 0 < k = some_number stock k m is in
    omega arith)

prey_stands : {stock : List Man} {mask i n : ℕ} (t : ℕ) {man : Man} {r : Ray} → (o : IsOption stock mask i n (suc t) man r) → {f g : ℕ → Square}
    → IsMove stock (is_live mask) i r (suc t) f g → StandsOn (man_placed (is_live mask) f (suc t) o.prey.0) (g i)
prey_stands {mask} t o {f} w =
    let there : place_square (place_at (is_live mask (suc t)) (f (suc t))) ≡ Some (f (suc t)) = stands_at (is_live mask (suc t)) (f (suc t)) o.prey.2 in
    there ∙ ap (λ (z : Square). Some z) (w.taken (omega arith))

takes_there : {stock : List Man} {mask i n t : ℕ} {man : Man} {r : Ray} → IsOption stock mask i n t man r → {f g : ℕ → Square}
    → IsMove stock (is_live mask) i r t f g → Takes t (placed stock (is_live mask) man.side f) (g i)
takes_there {stock} {mask} {i} {n} {t = zero} {man} {r} o {f} {g} w = empty_there stock mask i n man r o f g w
takes_there {stock} {mask} {t = suc t} {man} o {f} w =
    (man_placed (is_live mask) f (suc t) o.prey.0, placed_man stock (is_live mask) man.side f (suc t) o.prey.0 o.prey.1, prey_stands t o w)

no_own_there : {stock : List Man} {mask i n t : ℕ} {man : Man} {r : Ray} → IsOption stock mask i n t man r → {f g : ℕ → Square}
    → IsMove stock (is_live mask) i r t f g → IsOccupiedBy (placed stock (is_live mask) man.side f) man.side (g i) → ⊥
no_own_there {stock} {mask} {i} {t} {man} o {f} {g} w h =
    let p : Position = placed stock (is_live mask) man.side f in
    let (k, q, is, (side, stands)) = any_is p (λ m. (m.side ≡ man.side) × StandsOn m (g i)) h in
    let m = from_placed stock (is_live mask) man.side f k q is in
    let s = stands_placed (is_live mask k) (f k) (g i) (subst (λ a. StandsOn a (g i)) m.is stands) in
    let e : k ≡ t = taken_there o w k m.man m.is_man s.0 s.1 in
    let enemy : m.man.side ≡ other man.side = prey_is stock mask t man.side o.prey k m.man e m.is_man in
    let same : q.side ≡ m.man.side = ap (λ (a : Man). a.side) m.is in
    other_differs man.side (sym side ∙ same ∙ enemy)

clear_way : (stock : List Man) (mask i n t : ℕ) (man : Man) (r : Ray) → IsOption stock mask i n t man r → (f g : ℕ → Square)
    → (w : IsMove stock (is_live mask) i r t f g) → r.far ≡ true → IsClearTo stock (is_live mask) f r (f i) w.along.distance
clear_way stock mask i n t man r o f g w is_far k m is live within =
    let ray : IsRayOf man.side man.kind n r = ray_is man.side man.kind n r o.ray in
    elim (same_number k i) [
      | inl e ↦ not_at_start ray.fair is_far (subst (λ j. IsWithin r (f i) (f j) w.along.distance) e within)
      | inr other_than ↦ elim (same_number k t) [
        | inl e ↦
            let low : 0 < t = subst (λ j. 0 < j) e (some_number stock k m is) in
            let there : f k ≡ g i = ap f e ∙ w.taken low in
            not_at_end ray.fair is_far w.along.steps (subst (λ z. IsWithin r (f i) z w.along.distance) there within)
        | inr untaken ↦
            let early : within.distance < w.along.distance = within.before in
            w.clear k m is live other_than untaken (record { distance = within.distance; positive = within.positive; before = omega arith; steps = within.steps })
      ]
    ]

stands_here : {stock : List Man} {mask i n t : ℕ} {man : Man} {r : Ray} → IsOption stock mask i n t man r → (f : ℕ → Square) → StandsOn (man_placed (is_live mask) f i man) (f i)
stands_here {mask} {i} o f = stands_at (is_live mask i) (f i) o.live

goes_there : {stock : List Man} {mask i n t : ℕ} {man : Man} {r : Ray} → IsOption stock mask i n t man r → {f g : ℕ → Square}
    → (w : IsMove stock (is_live mask) i r t f g) → Goes (placed stock (is_live mask) man.side f) (man_placed (is_live mask) f i man) (g i)
goes_there {stock} {mask} {i} {n} {t = zero} {man} {r} o {f} {g} w =
    let ray : IsRayOf man.side man.kind n r = ray_is man.side man.kind n r o.ray in
    let stands = stands_here o f in
    goes_quiet man.kind n (placed stock (is_live mask) man.side f) (man_placed (is_live mask) f i man) (g i) o.serves
    (λ serves. (bears_along stock (is_live mask) man.side f (man_placed (is_live mask) f i man) n r (f i) (g i) ray serves stands w.along).1 (clear_way stock mask i n zero man r o f g w))
    (λ quiet. stands ∙ ap (λ (z : Square). Some z) (step_back man.side r (f i) (g i) (ray.quiet quiet) w.along))
    (empty_there stock mask i n man r o f g w)
goes_there {stock} {mask} {i} {n} {t = suc t} {man} {r} o {f} {g} w =
    let p : Position = placed stock (is_live mask) man.side f in
    let ray : IsRayOf man.side man.kind n r = ray_is man.side man.kind n r o.ray in
    let stands = stands_here o f in
    goes_as man.kind p (man_placed (is_live mask) f i man) (g i)
    ((bears_along stock (is_live mask) man.side f (man_placed (is_live mask) f i man) n r (f i) (g i) ray o.serves stands w.along).1 (clear_way stock mask i n (suc t) man r o f g w))
    (any_at p (λ m. (m.side ≡ other man.side) × StandsOn m (g i)) (suc t) (man_placed (is_live mask) f (suc t) o.prey.0)
    (placed_man stock (is_live mask) man.side f (suc t) o.prey.0 o.prey.1) (o.prey.3, prey_stands t o w))

-- the position after the move, man by man
man_after : {stock : List Man} {mask i n t : ℕ} {man : Man} {r : Ray} → IsOption stock mask i n t man r → {f g : ℕ → Square}
    → IsMove stock (is_live mask) i r t f g → (k : ℕ) (m : Man) → k ≢ i → stock_man stock k ≡ Some m
    → IsLeftBy (g i) (man_placed (is_live mask) f k m) (man_placed (without (is_live mask) t) g k m)
man_after {stock} {mask} {i} {t} o {f} {g} w k m other_than is =
    record {
      taken = λ stands.
          let s = stands_placed (is_live mask k) (f k) (g i) stands in
          let e : k ≡ t = taken_there o w k m is s.0 s.1 in
          ap (λ a. record m { place = a }) (place_gone (without (is_live mask) t k) (g k) (taken_gone (is_live mask k) k t e));
      kept = λ away.
          elim (true_or_not (is_live mask k)) [
            | inl live ↦
                let untaken : k ≢ t = λ e.
                let low : 0 < t = subst (λ j. 0 < j) e (some_number stock k m is) in
                let there : f k ≡ g i = ap f e ∙ w.taken low in
                away (stands_at (is_live mask k) (f k) live ∙ ap (λ (z : Square). Some z) there)
                in
                let same : f k ≡ g k = w.stay k m is live other_than untaken in
                ap (λ a. record m { place = a }) (place_is (without (is_live mask) t k) (g k) (kept_live (is_live mask k) k t live untaken)
                ∙ ap (λ (z : Square). At z.x z.y) (sym same) ∙ sym (place_is (is_live mask k) (f k) live))
            | inr gone ↦ ap (λ a. record m { place = a }) (place_gone (without (is_live mask) t k) (g k) (never_live (is_live mask k) (not (k == t)) gone)
                ∙ sym (place_gone (is_live mask k) (f k) gone))
          ];
    }

pub option_untaken : {stock : List Man} {mask i n t : ℕ} {man : Man} {r : Ray} → IsOption stock mask i n t man r → i ≢ t
option_untaken {stock} {mask} {i} {t} {man} o e = other_differs man.side (prey_is stock mask t man.side o.prey i man e o.is_man)

pub same_man : (stock : List Man) (live : ℕ → Bool) (turn : Side) (f : ℕ → Square) (k : ℕ) (m q : Man) → stock_man stock k ≡ Some m
    → man_at (placed stock live turn f) k ≡ Some q → q ≡ man_placed live f k m
same_man stock live turn f k m q is at =
    let both : Some q ≡ Some (man_placed live f k m) = sym at ∙ placed_man stock live turn f k m is in cc

is_after : {stock : List Man} {mask i n t : ℕ} {man : Man} {r : Ray} → IsOption stock mask i n t man r → {f g : ℕ → Square}
    → IsMove stock (is_live mask) i r t f g
    → IsAfter (placed stock (is_live mask) man.side f) i (g i) (placed stock (without (is_live mask) t) (other man.side) g)
is_after {stock} {mask} {i} {t} {man} o {f} {g} w =
    record {
      same_count = length_placed 1 stock (without (is_live mask) t) g ∙ sym (length_placed 1 stock (is_live mask) f);
      mover = λ m is.
          let same : m ≡ man_placed (is_live mask) f i man = same_man stock (is_live mask) man.side f i man m o.is_man is in
          let there : man_at (placed stock (without (is_live mask) t) (other man.side) g) i ≡ Some (man_placed (without (is_live mask) t) g i man) =
          placed_man stock (without (is_live mask) t) (other man.side) g i man o.is_man in
          let place : man_placed (without (is_live mask) t) g i man ≡ record man { place = At (g i).x (g i).y } =
          ap (λ a. record man { place = a }) (place_is (without (is_live mask) t i) (g i) (kept_live (is_live mask i) i t o.live (option_untaken o))) in
          there ∙ ap (λ (a : Man). Some a) (place ∙ ap (λ (a : Man). record a { place = At (g i).x (g i).y }) (sym same));
      others = λ k m q other_than is_m is_q.
          let a = from_placed stock (is_live mask) man.side f k m is_m in
          let b : q ≡ man_placed (without (is_live mask) t) g k a.man = same_man stock (without (is_live mask) t) (other man.side) g k a.man q a.is_man is_q in
          subst (λ m. IsLeftBy (g i) m q) (sym a.is)
          (subst (IsLeftBy (g i) (man_placed (is_live mask) f k a.man)) (sym b) (man_after o w k a.man other_than a.is_man));
      turn = refl;
    }

-- such a move is a step by the option
pub steps_by : {stock : List Man} {mask i n t : ℕ} {man : Man} {r : Ray} → IsOption stock mask i n t man r → {f g : ℕ → Square}
    → IsMove stock (is_live mask) i r t f g
    → StepsBy i r t (placed stock (is_live mask) man.side f) (placed stock (without (is_live mask) t) (other man.side) g)
steps_by {stock} {mask} {i} {man} o {f} {g} w =
    record {
      man = man_placed (is_live mask) f i man;
      from = f i;
      to = g i;
      is_man = placed_man stock (is_live mask) man.side f i man o.is_man;
      stands = stands_here o f;
      along = is_along w.along;
      takes = takes_there o w;
      step = record {
        man = man_placed (is_live mask) f i man;
        is_man = placed_man stock (is_live mask) man.side f i man o.is_man;
        his_turn = refl;
        not_own = no_own_there o w;
        goes = goes_there o w;
        after = is_after o w;
      };
    }

-- a step, said of the squares of both positions
record IsStepOf (stock : List Man) (mask i : ℕ) (r : Ray) (t : ℕ) (man : Man) (f g : ℕ → Square) : Type 0 where
  along : LiesOn r (f i) (g i)
  takes : Takes t (placed stock (is_live mask) man.side f) (g i)
  goes : Goes (placed stock (is_live mask) man.side f) (man_placed (is_live mask) f i man) (g i)
  after : IsAfter (placed stock (is_live mask) man.side f) i (g i) (placed stock (without (is_live mask) t) (other man.side) g)

step_of : {stock : List Man} {mask i n t : ℕ} {man : Man} {r : Ray} → IsOption stock mask i n t man r → (f g : ℕ → Square)
    → StepsBy i r t (placed stock (is_live mask) man.side f) (placed stock (without (is_live mask) t) (other man.side) g)
    → IsStepOf stock mask i r t man f g
step_of {stock} {mask} {i} {t} {man} {r} o f g h =
    let p : Position = placed stock (is_live mask) man.side f in
    let q : Position = placed stock (without (is_live mask) t) (other man.side) g in
    let is : h.man ≡ man_placed (is_live mask) f i man = same_man stock (is_live mask) man.side f i man h.man o.is_man h.is_man in
    let from_is : f i ≡ h.from = (stands_placed (is_live mask i) (f i) h.from (subst (λ m. StandsOn m h.from) is h.stands)).1 in
    let there : man_at q i ≡ Some (record h.man { place = At h.to.x h.to.y }) = h.step.after.mover h.man h.is_man in
    let same : record h.man { place = At h.to.x h.to.y } ≡ man_placed (without (is_live mask) t) g i man =
    same_man stock (without (is_live mask) t) (other man.side) g i man (record h.man { place = At h.to.x h.to.y }) o.is_man there in
    let stands : StandsOn (man_placed (without (is_live mask) t) g i man) h.to = subst (λ m. StandsOn m h.to) same refl in
    let to_is : h.to ≡ g i = sym (stands_placed (without (is_live mask) t i) (g i) h.to stands).1 in
    let step_man : h.step.man ≡ man_placed (is_live mask) f i man = same_man stock (is_live mask) man.side f i man h.step.man o.is_man h.step.is_man in
    record {
      along = subst (λ a. LiesOn r a (g i)) (sym from_is) (subst (LiesOn r h.from) to_is (lies_on r h.from h.to h.along));
      takes = subst (Takes t p) to_is h.takes;
      goes = subst (Goes p (man_placed (is_live mask) f i man)) to_is (subst (λ m. Goes p m h.to) step_man h.step.goes);
      after = subst (λ z. IsAfter p i z q) to_is h.step.after;
    }

pub nobody_there : (t : ℕ) (p : Position) (z : Square) → Takes t p z → IsApart p → (k : ℕ) (m : Man) → man_at p k ≡ Some m → StandsOn m z → k ≢ t → ⊥
nobody_there zero p z takes apart k m is stands ne = (all_men p (λ m. StandsOn m z → ⊥)).0 takes k m is stands
nobody_there (suc t) p z takes apart k m is stands ne = ne (apart k (suc t) m takes.0 z is takes.1 stands takes.2)

piece_serves : (k : Kind) (n : ℕ) → (k ≡ Pawn → ⊥) → serves_captures k n ≡ true
piece_serves King n piece = refl
piece_serves Queen n piece = refl
piece_serves Rook n piece = refl
piece_serves Bishop n piece = refl
piece_serves Knight n piece = refl
piece_serves Chancellor n piece = refl
piece_serves Archbishop n piece = refl
piece_serves Amazon n piece = refl
piece_serves Nightrider n piece = refl
piece_serves Pawn n piece = absurd (piece refl)

nobody_stands : {stock : List Man} {mask i : ℕ} (n : ℕ) {t : ℕ} {man : Man} {r : Ray} {f g : ℕ → Square} → IsApart (placed stock (is_live mask) man.side f)
    → IsStepOf stock mask i r t man f g → (k : ℕ) (m : Man) → stock_man stock k ≡ Some m → is_live mask k ≡ true → k ≢ t → f k ≡ g i → ⊥
nobody_stands {stock} {mask} {i} n {t} {man} {f} {g} apart h k m is live untaken there =
    nobody_there t (placed stock (is_live mask) man.side f) (g i) h.takes apart k (man_placed (is_live mask) f k m) (placed_man stock (is_live mask) man.side f k m is)
    (stands_at (is_live mask k) (f k) live ∙ ap (λ (z : Square). Some z) there) untaken

nobody_within : {stock : List Man} {mask i n t : ℕ} {man : Man} {r : Ray} → IsOption stock mask i n t man r → {f g : ℕ → Square}
    → IsApart (placed stock (is_live mask) man.side f) → (h : IsStepOf stock mask i r t man f g) → (k : ℕ) (m : Man) → stock_man stock k ≡ Some m
    → is_live mask k ≡ true → k ≢ t → IsWithin r (f i) (f k) (suc h.along.distance) → ⊥
nobody_within {stock} {mask} {i} {n} {man} {r} o {f} {g} apart h k m is live untaken within =
    let ray : IsRayOf man.side man.kind n r = ray_is man.side man.kind n r o.ray in
    let low : within.distance < suc h.along.distance = within.before in
    let positive : 0 < within.distance = within.positive in
    elim (same_number within.distance h.along.distance) [
      | inl e ↦
          nobody_stands n apart h k m is live untaken
          (steps_same (subst (IsSteps r (f i) (f k)) e within.steps) h.along.steps)
      | inr earlier ↦ elim (true_or_not r.far) [
        | inl is_far ↦
            let piece : man.kind ≡ Pawn → ⊥ = ray.piece is_far in
            (bears_along stock (is_live mask) man.side f (man_placed (is_live mask) f i man) n r (f i) (g i) ray (piece_serves man.kind n piece) (stands_here o f) h.along).0
            (goes_bears man.kind (placed stock (is_live mask) man.side f) (man_placed (is_live mask) f i man) (g i) piece h.goes)
            is_far k m is live (record { distance = within.distance; positive = positive; before = omega arith; steps = within.steps })
        | inr is_near ↦ let one : h.along.distance ≡ 1 = h.along.near is_near in omega arith
      ]
    ]

placed_square : (b c : Bool) (y z : Square) → b ≡ true → c ≡ true → place_at b y ≡ place_at c z → y ≡ z
placed_square true true y z e d h = let s : Some y ≡ Some z = ap place_square h in cc
placed_square true false y z e d h = absurd (cc)
placed_square false c y z e d h = absurd (cc)

taken_square : {stock : List Man} {mask i n t : ℕ} {man : Man} {r : Ray} → IsOption stock mask i n t man r
    → {f g : ℕ → Square} → IsStepOf stock mask i r t man f g → 0 < t → f t ≡ g i
taken_square {t = zero} o h low = absurd (omega arith)
taken_square {stock} {mask} {i} {t = suc t} {man} o {f} {g} h low =
    let same : h.takes.0 ≡ man_placed (is_live mask) f (suc t) o.prey.0 = same_man stock (is_live mask) man.side f (suc t) o.prey.0 h.takes.0 o.prey.1 h.takes.1 in
    (stands_placed (is_live mask (suc t)) (f (suc t)) (g i) (subst (λ m. StandsOn m (g i)) same h.takes.2)).1

stays_there : {stock : List Man} {mask i : ℕ} (n : ℕ) {t : ℕ} {man : Man} {r : Ray} {f g : ℕ → Square} → IsApart (placed stock (is_live mask) man.side f)
    → IsStepOf stock mask i r t man f g → EachOther stock (is_live mask) i t (λ k. f k ≡ g k)
stays_there {stock} {mask} {i} n {t} {man} {f} {g} apart h k m is live other_than untaken =
    let left = h.after.others k (man_placed (is_live mask) f k m) (man_placed (without (is_live mask) t) g k m) other_than
    (placed_man stock (is_live mask) man.side f k m is) (placed_man stock (without (is_live mask) t) (other man.side) g k m is) in
    let same : man_placed (without (is_live mask) t) g k m ≡ man_placed (is_live mask) f k m = left.kept
    (λ stands. nobody_stands n apart h k m is live untaken (stands_placed (is_live mask k) (f k) (g i) stands).1)
    in
    placed_square (is_live mask k) (without (is_live mask) t k) (f k) (g k) live (kept_live (is_live mask k) k t live untaken) (sym (ap (λ (a : Man). a.place) same))

-- where live men stand apart, a step by the option is such a move
pub move_of : {stock : List Man} {mask i n t : ℕ} {man : Man} {r : Ray} → IsOption stock mask i n t man r → (f g : ℕ → Square)
    → IsApart (placed stock (is_live mask) man.side f)
    → StepsBy i r t (placed stock (is_live mask) man.side f) (placed stock (without (is_live mask) t) (other man.side) g)
    → IsMove stock (is_live mask) i r t f g
move_of {stock} {mask} {i} {n} {t} {man} {r} o f g apart steps =
    let h : IsStepOf stock mask i r t man f g = step_of o f g steps in
    record {
      along = h.along;
      clear = λ k m is live other_than untaken within. nobody_within o apart h k m is live untaken within;
      stay = stays_there n apart h;
      taken = taken_square o h;
    }
