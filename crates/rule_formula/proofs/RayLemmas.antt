-- What the atoms of a far ray say.
use Rattle.std.proofs.Common.{◌≡◌, ◌↔◌, inl, inr, ℕ, zero, suc, ◌<◌, ◌≤◌, ℤ, pos, negsuc, ◌+ℤ◌, ◌*ℤ◌, ◌-ℤ◌, unsigned_abs, Bool, true, false, List, [], ◌∷◌, ◌++◌, ap, refl, subst, sym, ◌∙◌, arith}
use Rattle.std.specs.Prelude.{◌≤ℤ◌, ◌==◌, if◌then◌else◌}
use Rattle.std.proofs.lemmas.Bool.Decides.{nat_tests}
use Rattle.game_rules.specs.declared.men.Square.{Square}
use Rattle.track_word.specs.declared.tracks.Var.{Var}
use Rattle.track_word.specs.declared.atoms.Rel.TheVariants.{Eq}
use Rattle.lin_formula.specs.Tree.{Tree}
use Rattle.rule_formula.specs.Fine.{AllHold}
use Rattle.std.proofs.lemmas.Int.{ints}
use Rattle.lin_formula.specs.Holds.{Holds, Sets}
use Rattle.track_word.specs.Tracks.{Values}
use Rattle.rule_formula.specs.declared.atoms.Extent.{Extent}
use Rattle.rule_formula.specs.declared.atoms.Extent.TheVariants.{Onto, Before}
use Rattle.rule_formula.specs.declared.seats.Seat.{Seat}
use Rattle.game_rules.specs.declared.men.Ray.{Ray}
use Rattle.game_rules.specs.Game.{IsDirection, after_steps}
use Rattle.game_rules.specs.Rays.{IsAlong, leap, slide}
use Rattle.game_laws.proofs.LineLemmas.{square_is, steps_distance}
use Rattle.rule_formula.specs.Seats.{at}
use Rattle.rule_formula.specs.Trees.{Suits, ahead, difference, line, line_atoms, on, past, ray_atoms, unless_same}

-- b is t times the ray's step away from a, coordinate by coordinate
pub record IsSteps (r : Ray) (a b : Square) (t : ℕ) : Type 0 where
  pub right : b.x ≡ a.x +ℤ (pos t *ℤ r.dx)
  pub up : b.y ≡ a.y +ℤ (pos t *ℤ r.dy)

-- b lies on the ray from a, coordinate by coordinate
pub record LiesOn (r : Ray) (a b : Square) : Type 0 where
  pub distance : ℕ
  pub positive : 0 < distance
  pub near : r.far ≡ false → distance ≡ 1
  pub steps : IsSteps r a b distance

pub square_at : (a b : Square) → a.x ≡ b.x → a.y ≡ b.y → a ≡ b
square_at a b ex ey = square_is a b.x b.y ex ey

pub lies_on : (r : Ray) (a b : Square) → IsAlong r a b → LiesOn r a b
lies_on r a b w =
    record {
      distance = w.0;
      positive = omega (arith, w.1.begun);
      near = w.1.one;
      steps = record { right = ap (λ (z : Square). z.x) w.1.leads; up = ap (λ (z : Square). z.y) w.1.leads };
    }

pub is_along : {r : Ray} {a b : Square} → LiesOn r a b → IsAlong r a b
is_along {r} {a} {b} w =
    (w.distance, record { begun = omega (arith, w.positive); one = w.near; leads = square_at b (after_steps a w.distance r.dx r.dy) w.steps.right w.steps.up })

-- one coordinate of a direction
pub data Sign : Type 0 where
  Less : Sign
  Minus : Sign
  Zero : Sign
  Plus : Sign
  More : Sign

abbrev pub num : Sign → ℤ
num Less = negsuc 1
num Minus = negsuc 0
num Zero = pos 0
num Plus = pos 1
num More = pos 2

pub small_sign : (d : ℤ) → unsigned_abs d ≤ 2 → (x : Sign) × (d ≡ num x)
small_sign (pos zero) h = (Zero, refl)
small_sign (pos (suc zero)) h = (Plus, refl)
small_sign (pos (suc (suc zero))) h = (More, refl)
small_sign (pos (suc (suc (suc m)))) h = absurd (omega (arith, h))
small_sign (negsuc zero) h = (Minus, refl)
small_sign (negsuc (suc zero)) h = (Less, refl)
small_sign (negsuc (suc (suc m))) h = absurd (omega (arith, h))

-- a direction goes one to a side, or one up or down
pub none_of : (dx dy : ℤ) → (unsigned_abs dx ≡ 1 → ⊥) → (unsigned_abs dy ≡ 1 → ⊥) → IsDirection dx dy → ⊥
none_of dx dy across along (inl h) = across h.0
none_of dx dy across along (inr h) = along h.0

-- how far one number is below another
pub gap_above : (a b : ℤ) → ((pos 1 *ℤ a) +ℤ ((negsuc 0 *ℤ b) +ℤ pos 0)) ≤ℤ negsuc 0 → (t : ℕ) × (0 < t) × (b ≡ a +ℤ pos t)
gap_above a b h = (unsigned_abs (b -ℤ a), grind (arith, ints), grind (arith, ints))

pub steps_from_atoms : (x y : Sign) → IsDirection (num x) (num y) → (a b : Seat) (e : Sets) (v : Values) → Holds (line (num x) (num y) a b) e v
    → Holds (ahead (num x) (num y) a b Before) e v → (t : ℕ) × (0 < t) × IsSteps (slide (num x) (num y)) (at v a) (at v b) t
steps_from_atoms Less Less some a b e v l h = absurd (none_of (num Less) (num Less) (λ e. omega (arith, e)) (λ e. omega (arith, e)) some)
steps_from_atoms Less Minus some a b e v l h =
    let g = gap_above (v b.y.0) (v a.y.0) h in (g.0, g.1, record { right = omega (arith, ints, l, g.2); up = omega (arith, ints, g.2) })
steps_from_atoms Less Zero some a b e v l h = absurd (none_of (num Less) (num Zero) (λ e. omega (arith, e)) (λ e. omega (arith, e)) some)
steps_from_atoms Less Plus some a b e v l h =
    let g = gap_above (v a.y.0) (v b.y.0) h in (g.0, g.1, record { right = omega (arith, ints, l, g.2); up = omega (arith, ints, g.2) })
steps_from_atoms Less More some a b e v l h = absurd (none_of (num Less) (num More) (λ e. omega (arith, e)) (λ e. omega (arith, e)) some)
steps_from_atoms Minus Less some a b e v l h =
    let g = gap_above (v b.x.0) (v a.x.0) h in (g.0, g.1, record { right = omega (arith, ints, g.2); up = omega (arith, ints, l, g.2) })
steps_from_atoms Minus Minus some a b e v l h =
    let g = gap_above (v b.x.0) (v a.x.0) h in (g.0, g.1, record { right = omega (arith, ints, g.2); up = omega (arith, ints, l, g.2) })
steps_from_atoms Minus Zero some a b e v l h =
    let g = gap_above (v b.x.0) (v a.x.0) h in (g.0, g.1, record { right = omega (arith, ints, g.2); up = omega (arith, ints, l, g.2) })
steps_from_atoms Minus Plus some a b e v l h =
    let g = gap_above (v b.x.0) (v a.x.0) h in (g.0, g.1, record { right = omega (arith, ints, g.2); up = omega (arith, ints, l, g.2) })
steps_from_atoms Minus More some a b e v l h =
    let g = gap_above (v b.x.0) (v a.x.0) h in (g.0, g.1, record { right = omega (arith, ints, g.2); up = omega (arith, ints, l, g.2) })
steps_from_atoms Zero Less some a b e v l h = absurd (none_of (num Zero) (num Less) (λ e. omega (arith, e)) (λ e. omega (arith, e)) some)
steps_from_atoms Zero Minus some a b e v l h =
    let g = gap_above (v b.y.0) (v a.y.0) h in (g.0, g.1, record { right = omega (arith, ints, l, g.2); up = omega (arith, ints, g.2) })
steps_from_atoms Zero Zero some a b e v l h = absurd (none_of (num Zero) (num Zero) (λ e. omega (arith, e)) (λ e. omega (arith, e)) some)
steps_from_atoms Zero Plus some a b e v l h =
    let g = gap_above (v a.y.0) (v b.y.0) h in (g.0, g.1, record { right = omega (arith, ints, l, g.2); up = omega (arith, ints, g.2) })
steps_from_atoms Zero More some a b e v l h = absurd (none_of (num Zero) (num More) (λ e. omega (arith, e)) (λ e. omega (arith, e)) some)
steps_from_atoms Plus Less some a b e v l h =
    let g = gap_above (v a.x.0) (v b.x.0) h in (g.0, g.1, record { right = omega (arith, ints, g.2); up = omega (arith, ints, l, g.2) })
steps_from_atoms Plus Minus some a b e v l h =
    let g = gap_above (v a.x.0) (v b.x.0) h in (g.0, g.1, record { right = omega (arith, ints, g.2); up = omega (arith, ints, l, g.2) })
steps_from_atoms Plus Zero some a b e v l h =
    let g = gap_above (v a.x.0) (v b.x.0) h in (g.0, g.1, record { right = omega (arith, ints, g.2); up = omega (arith, ints, l, g.2) })
steps_from_atoms Plus Plus some a b e v l h =
    let g = gap_above (v a.x.0) (v b.x.0) h in (g.0, g.1, record { right = omega (arith, ints, g.2); up = omega (arith, ints, l, g.2) })
steps_from_atoms Plus More some a b e v l h =
    let g = gap_above (v a.x.0) (v b.x.0) h in (g.0, g.1, record { right = omega (arith, ints, g.2); up = omega (arith, ints, l, g.2) })
steps_from_atoms More Less some a b e v l h = absurd (none_of (num More) (num Less) (λ e. omega (arith, e)) (λ e. omega (arith, e)) some)
steps_from_atoms More Minus some a b e v l h =
    let g = gap_above (v b.y.0) (v a.y.0) h in (g.0, g.1, record { right = omega (arith, ints, l, g.2); up = omega (arith, ints, g.2) })
steps_from_atoms More Zero some a b e v l h = absurd (none_of (num More) (num Zero) (λ e. omega (arith, e)) (λ e. omega (arith, e)) some)
steps_from_atoms More Plus some a b e v l h =
    let g = gap_above (v a.y.0) (v b.y.0) h in (g.0, g.1, record { right = omega (arith, ints, l, g.2); up = omega (arith, ints, g.2) })
steps_from_atoms More More some a b e v l h = absurd (none_of (num More) (num More) (λ e. omega (arith, e)) (λ e. omega (arith, e)) some)

pub atoms_from_steps : (x y : Sign) → IsDirection (num x) (num y) → (a b : Seat) (e : Sets) (v : Values) {t : ℕ} → 0 < t
    → IsSteps (slide (num x) (num y)) (at v a) (at v b) t → Holds (line (num x) (num y) a b) e v × Holds (ahead (num x) (num y) a b Before) e v
atoms_from_steps Less Less some a b e v low h = absurd (none_of (num Less) (num Less) (λ e. omega (arith, e)) (λ e. omega (arith, e)) some)
atoms_from_steps Less Minus some a b e v low h = (omega (arith, ints, h.right, h.up), omega (arith, ints, h.right, h.up))
atoms_from_steps Less Zero some a b e v low h = absurd (none_of (num Less) (num Zero) (λ e. omega (arith, e)) (λ e. omega (arith, e)) some)
atoms_from_steps Less Plus some a b e v low h = (omega (arith, ints, h.right, h.up), omega (arith, ints, h.right, h.up))
atoms_from_steps Less More some a b e v low h = absurd (none_of (num Less) (num More) (λ e. omega (arith, e)) (λ e. omega (arith, e)) some)
atoms_from_steps Minus Less some a b e v low h = (omega (arith, ints, h.right, h.up), omega (arith, ints, h.right, h.up))
atoms_from_steps Minus Minus some a b e v low h = (omega (arith, ints, h.right, h.up), omega (arith, ints, h.right, h.up))
atoms_from_steps Minus Zero some a b e v low h = (omega (arith, ints, h.right, h.up), omega (arith, ints, h.right, h.up))
atoms_from_steps Minus Plus some a b e v low h = (omega (arith, ints, h.right, h.up), omega (arith, ints, h.right, h.up))
atoms_from_steps Minus More some a b e v low h = (omega (arith, ints, h.right, h.up), omega (arith, ints, h.right, h.up))
atoms_from_steps Zero Less some a b e v low h = absurd (none_of (num Zero) (num Less) (λ e. omega (arith, e)) (λ e. omega (arith, e)) some)
atoms_from_steps Zero Minus some a b e v low h = (omega (arith, ints, h.right, h.up), omega (arith, ints, h.right, h.up))
atoms_from_steps Zero Zero some a b e v low h = absurd (none_of (num Zero) (num Zero) (λ e. omega (arith, e)) (λ e. omega (arith, e)) some)
atoms_from_steps Zero Plus some a b e v low h = (omega (arith, ints, h.right, h.up), omega (arith, ints, h.right, h.up))
atoms_from_steps Zero More some a b e v low h = absurd (none_of (num Zero) (num More) (λ e. omega (arith, e)) (λ e. omega (arith, e)) some)
atoms_from_steps Plus Less some a b e v low h = (omega (arith, ints, h.right, h.up), omega (arith, ints, h.right, h.up))
atoms_from_steps Plus Minus some a b e v low h = (omega (arith, ints, h.right, h.up), omega (arith, ints, h.right, h.up))
atoms_from_steps Plus Zero some a b e v low h = (omega (arith, ints, h.right, h.up), omega (arith, ints, h.right, h.up))
atoms_from_steps Plus Plus some a b e v low h = (omega (arith, ints, h.right, h.up), omega (arith, ints, h.right, h.up))
atoms_from_steps Plus More some a b e v low h = (omega (arith, ints, h.right, h.up), omega (arith, ints, h.right, h.up))
atoms_from_steps More Less some a b e v low h = absurd (none_of (num More) (num Less) (λ e. omega (arith, e)) (λ e. omega (arith, e)) some)
atoms_from_steps More Minus some a b e v low h = (omega (arith, ints, h.right, h.up), omega (arith, ints, h.right, h.up))
atoms_from_steps More Zero some a b e v low h = absurd (none_of (num More) (num Zero) (λ e. omega (arith, e)) (λ e. omega (arith, e)) some)
atoms_from_steps More Plus some a b e v low h = (omega (arith, ints, h.right, h.up), omega (arith, ints, h.right, h.up))
atoms_from_steps More More some a b e v low h = absurd (none_of (num More) (num More) (λ e. omega (arith, e)) (λ e. omega (arith, e)) some)

-- of two squares so many steps away, which is ahead of which
pub ahead_is : (x y : Sign) → IsDirection (num x) (num y) → (a b z : Seat) (e : Sets) (v : Values) (extent : Extent) {t s : ℕ}
    → IsSteps (slide (num x) (num y)) (at v a) (at v b) t → IsSteps (slide (num x) (num y)) (at v a) (at v z) s
    → Holds (ahead (num x) (num y) z b extent) e v ↔ (pos s ≤ℤ (pos t +ℤ past extent))
ahead_is Less Less some a b z e v extent h k = absurd (none_of (num Less) (num Less) (λ e. omega (arith, e)) (λ e. omega (arith, e)) some)
ahead_is Less Minus some a b z e v extent h k = (λ w. omega (arith, ints, h.up, k.up), λ w. omega (arith, ints, h.up, k.up))
ahead_is Less Zero some a b z e v extent h k = absurd (none_of (num Less) (num Zero) (λ e. omega (arith, e)) (λ e. omega (arith, e)) some)
ahead_is Less Plus some a b z e v extent h k = (λ w. omega (arith, ints, h.up, k.up), λ w. omega (arith, ints, h.up, k.up))
ahead_is Less More some a b z e v extent h k = absurd (none_of (num Less) (num More) (λ e. omega (arith, e)) (λ e. omega (arith, e)) some)
ahead_is Minus _ some a b z e v extent h k = (λ w. omega (arith, ints, h.right, k.right), λ w. omega (arith, ints, h.right, k.right))
ahead_is Zero Less some a b z e v extent h k = absurd (none_of (num Zero) (num Less) (λ e. omega (arith, e)) (λ e. omega (arith, e)) some)
ahead_is Zero Minus some a b z e v extent h k = (λ w. omega (arith, ints, h.up, k.up), λ w. omega (arith, ints, h.up, k.up))
ahead_is Zero Zero some a b z e v extent h k = absurd (none_of (num Zero) (num Zero) (λ e. omega (arith, e)) (λ e. omega (arith, e)) some)
ahead_is Zero Plus some a b z e v extent h k = (λ w. omega (arith, ints, h.up, k.up), λ w. omega (arith, ints, h.up, k.up))
ahead_is Zero More some a b z e v extent h k = absurd (none_of (num Zero) (num More) (λ e. omega (arith, e)) (λ e. omega (arith, e)) some)
ahead_is Plus _ some a b z e v extent h k = (λ w. omega (arith, ints, h.right, k.right), λ w. omega (arith, ints, h.right, k.right))
ahead_is More Less some a b z e v extent h k = absurd (none_of (num More) (num Less) (λ e. omega (arith, e)) (λ e. omega (arith, e)) some)
ahead_is More Minus some a b z e v extent h k = (λ w. omega (arith, ints, h.up, k.up), λ w. omega (arith, ints, h.up, k.up))
ahead_is More Zero some a b z e v extent h k = absurd (none_of (num More) (num Zero) (λ e. omega (arith, e)) (λ e. omega (arith, e)) some)
ahead_is More Plus some a b z e v extent h k = (λ w. omega (arith, ints, h.up, k.up), λ w. omega (arith, ints, h.up, k.up))
ahead_is More More some a b z e v extent h k = absurd (none_of (num More) (num More) (λ e. omega (arith, e)) (λ e. omega (arith, e)) some)

-- a ray of one step, or of steps of a direction
pub data IsFair : Ray → Type 0 where
  far : (x y : Sign) → IsDirection (num x) (num y) → IsFair (slide (num x) (num y))
  near : (dx dy : ℤ) → (dx ≡ pos 0 → dy ≡ pos 0 → ⊥) → IsFair (leap dx dy)

unless_holds : (f : Tree) (e : Sets) (v : Values) (b : Bool) → (b ≡ true → Holds f e v) → AllHold (if b then [] else f ∷ []) e v ↔ Holds f e v
unless_holds f e v true h = (λ w. h refl, λ w. tt)
unless_holds f e v false h = (λ w. w.0, λ w. (w, tt))

pub unless_same_holds : (x y : Var) (f : Tree) (e : Sets) (v : Values) → (x.0 ≡ y.0 → Holds f e v) → AllHold (unless_same x y f) e v ↔ Holds f e v
unless_same_holds x y f e v h = unless_holds f e v (x.0 == y.0) (λ b. h (grind (arith, nat_tests)))

pub all_hold-append : (fs gs : List Tree) (e : Sets) (v : Values) → AllHold (fs ++ gs) e v ↔ (AllHold fs e v × AllHold gs e v)
all_hold-append [] gs e v = (λ h. (tt, h), λ h. h.1)
all_hold-append (f ∷ fs) gs e v =
    let rest : AllHold (fs ++ gs) e v ↔ (AllHold fs e v × AllHold gs e v) = all_hold-append fs gs e v in
    (λ h. let w : AllHold fs e v × AllHold gs e v = rest.0 h.1 in ((h.0, w.0), w.1), λ h. (h.0.0, rest.1 (h.0.1, h.1)))

self_difference : (x y : Var) (e : Sets) (v : Values) (n : ℤ) → x.0 ≡ y.0 → n ≡ pos 0 → Holds (difference x y Eq n) e v
self_difference x y e v n same none =
    let e : v x.0 ≡ v y.0 = ap v same in omega (arith, ints)

line_atoms_hold : (x y : Sign) → IsDirection (num x) (num y) → (a b : Seat) (e : Sets) (v : Values) → AllHold (line_atoms (num x) (num y) a b) e v ↔ Holds (line (num x) (num y) a b) e v
line_atoms_hold Less Less some a b e v = absurd (none_of (num Less) (num Less) (λ e. omega (arith, e)) (λ e. omega (arith, e)) some)
line_atoms_hold Less Minus some a b e v = (λ h. h.0, λ h. (h, tt))
line_atoms_hold Less Zero some a b e v = absurd (none_of (num Less) (num Zero) (λ e. omega (arith, e)) (λ e. omega (arith, e)) some)
line_atoms_hold Less Plus some a b e v = (λ h. h.0, λ h. (h, tt))
line_atoms_hold Less More some a b e v = absurd (none_of (num Less) (num More) (λ e. omega (arith, e)) (λ e. omega (arith, e)) some)
line_atoms_hold Minus Less some a b e v = (λ h. h.0, λ h. (h, tt))
line_atoms_hold Minus Minus some a b e v = (λ h. h.0, λ h. (h, tt))
line_atoms_hold Minus Zero some a b e v = unless_same_holds b.y a.y (line (num Minus) (num Zero) a b) e v (λ same. self_difference b.y a.y e v (pos 0) same refl)
line_atoms_hold Minus Plus some a b e v = (λ h. h.0, λ h. (h, tt))
line_atoms_hold Minus More some a b e v = (λ h. h.0, λ h. (h, tt))
line_atoms_hold Zero Less some a b e v = absurd (none_of (num Zero) (num Less) (λ e. omega (arith, e)) (λ e. omega (arith, e)) some)
line_atoms_hold Zero Minus some a b e v = unless_same_holds b.x a.x (line (num Zero) (num Minus) a b) e v (λ same. self_difference b.x a.x e v (pos 0) same refl)
line_atoms_hold Zero Zero some a b e v = absurd (none_of (num Zero) (num Zero) (λ e. omega (arith, e)) (λ e. omega (arith, e)) some)
line_atoms_hold Zero Plus some a b e v = unless_same_holds b.x a.x (line (num Zero) (num Plus) a b) e v (λ same. self_difference b.x a.x e v (pos 0) same refl)
line_atoms_hold Zero More some a b e v = absurd (none_of (num Zero) (num More) (λ e. omega (arith, e)) (λ e. omega (arith, e)) some)
line_atoms_hold Plus Less some a b e v = (λ h. h.0, λ h. (h, tt))
line_atoms_hold Plus Minus some a b e v = (λ h. h.0, λ h. (h, tt))
line_atoms_hold Plus Zero some a b e v = unless_same_holds b.y a.y (line (num Plus) (num Zero) a b) e v (λ same. self_difference b.y a.y e v (pos 0) same refl)
line_atoms_hold Plus Plus some a b e v = (λ h. h.0, λ h. (h, tt))
line_atoms_hold Plus More some a b e v = (λ h. h.0, λ h. (h, tt))
line_atoms_hold More Less some a b e v = absurd (none_of (num More) (num Less) (λ e. omega (arith, e)) (λ e. omega (arith, e)) some)
line_atoms_hold More Minus some a b e v = (λ h. h.0, λ h. (h, tt))
line_atoms_hold More Zero some a b e v = absurd (none_of (num More) (num Zero) (λ e. omega (arith, e)) (λ e. omega (arith, e)) some)
line_atoms_hold More Plus some a b e v = (λ h. h.0, λ h. (h, tt))
line_atoms_hold More More some a b e v = absurd (none_of (num More) (num More) (λ e. omega (arith, e)) (λ e. omega (arith, e)) some)

pub one_step : (a b d : ℤ) (t : ℕ) → t ≡ 1 → b ≡ a +ℤ (pos t *ℤ d) → b ≡ a +ℤ d
one_step a b d t one h = let f : b ≡ a +ℤ (pos 1 *ℤ d) = subst (λ n. b ≡ a +ℤ (pos n *ℤ d)) one h in omega (arith, ints)

-- the atoms of a ray hold exactly where b lies on it
pub ray_atoms_hold : {r : Ray} → IsFair r → {a b : Seat} → Suits r a b → (e : Sets) (v : Values) → AllHold (ray_atoms r a b) e v ↔ LiesOn r (at v a) (at v b)
ray_atoms_hold (far x y some) {a} {b} suits e v =
    let both = all_hold-append (line_atoms (num x) (num y) a b) (ahead (num x) (num y) a b Before ∷ []) e v in
    let first = line_atoms_hold x y some a b e v in (
      λ h.
          let s = steps_from_atoms x y some a b e v (first.0 (both.0 h).0) (both.0 h).1.0 in
          record { distance = s.0; positive = s.1; near = λ w. absurd (cc); steps = s.2 },
      λ h.
          let w = atoms_from_steps x y some a b e v h.positive h.steps in
          both.1 (first.1 w.0, (w.1, tt)),
    )
ray_atoms_hold (near dx dy some) {a} {b} suits e v =
    let both = all_hold-append (unless_same b.x a.x (difference b.x a.x Eq dx)) (unless_same b.y a.y (difference b.y a.y Eq dy)) e v in
    let first = unless_same_holds b.x a.x (difference b.x a.x Eq dx) e v (λ same. self_difference b.x a.x e v dx same (suits.across same)) in
    let second = unless_same_holds b.y a.y (difference b.y a.y Eq dy) e v (λ same. self_difference b.y a.y e v dy same (suits.along same)) in (
      λ h.
          let l = first.0 (both.0 h).0 in
          let k = second.0 (both.0 h).1 in
          record { distance = 1; positive = omega arith; near = λ w. refl; steps = record { right = omega (arith, ints, l); up = omega (arith, ints, k) } },
      λ h.
          let right = one_step (v a.x.0) (v b.x.0) dx h.distance (h.near refl) h.steps.right in
          let up = one_step (v a.y.0) (v b.y.0) dy h.distance (h.near refl) h.steps.up in
          both.1 (first.1 (omega (arith, ints, right)), second.1 (omega (arith, ints, up))),
    )

-- z stands fewer than n steps along the ray from a
pub record IsWithin (r : Ray) (a z : Square) (n : ℕ) : Type 0 where
  pub distance : ℕ
  pub positive : 0 < distance
  pub before : distance < n
  pub steps : IsSteps r a z distance

far_on_holds : (x y : Sign) → IsDirection (num x) (num y) → (a b z : Seat) (e : Sets) (v : Values) (extent : Extent) {t : ℕ}
    → IsSteps (slide (num x) (num y)) (at v a) (at v b) t → (m : ℕ) → (pos t +ℤ past extent) +ℤ pos 1 ≡ pos m
    → Holds (on (slide (num x) (num y)) a b extent z) e v ↔ IsWithin (slide (num x) (num y)) (at v a) (at v z) m
far_on_holds x y some a b z e v extent {t} steps m is = (
  λ h.
      let s = steps_from_atoms x y some a z e v h.0.0 h.0.1 in
      let order : pos s.0 ≤ℤ (pos t +ℤ past extent) = (ahead_is x y some a b z e v extent steps s.2).0 h.1 in
      record { distance = s.0; positive = s.1; before = omega (arith, ints, order, is); steps = s.2 },
  λ h.
      let w = atoms_from_steps x y some a z e v h.positive h.steps in
      let low : h.distance < m = h.before in
      (w, (ahead_is x y some a b z e v extent steps h.steps).1 (omega (arith, ints, low, is))),
)

-- where b lies on the ray, what `on` says up to b and with it
pub on_holds : {r : Ray} → IsFair r → (a b z : Seat) (e : Sets) (v : Values) (w : LiesOn r (at v a) (at v b)) → Holds (on r a b Onto z) e v ↔ IsWithin r (at v a) (at v z) (suc w.distance)
on_holds (far x y some) a b z e v w = far_on_holds x y some a b z e v Onto w.steps (suc w.distance) (omega (arith, ints))
on_holds (near dx dy some) a b z e v w =
    let right = one_step (v a.x.0) (v b.x.0) dx w.distance (w.near refl) w.steps.right in
    let up = one_step (v a.y.0) (v b.y.0) dy w.distance (w.near refl) w.steps.up in (
      λ h. record { distance = 1; positive = omega arith; before = omega (arith, w.positive); steps = record { right = omega (arith, ints, h.0, right); up = omega (arith, ints, h.1, up) } },
      λ h.
          let one : h.distance ≡ 1 = omega (arith, h.positive, h.before, w.near refl) in
          let far_right = one_step (v a.x.0) (v z.x.0) dx h.distance one h.steps.right in
          let far_up = one_step (v a.y.0) (v z.y.0) dy h.distance one h.steps.up in
          (omega (arith, ints, right, far_right), omega (arith, ints, up, far_up)),
    )

-- and without b, for a far ray
pub between_holds : {r : Ray} → IsFair r → r.far ≡ true → (a b z : Seat) (e : Sets) (v : Values) (w : LiesOn r (at v a) (at v b))
    → Holds (on r a b Before z) e v ↔ IsWithin r (at v a) (at v z) w.distance
between_holds (far x y some) is_far a b z e v w = far_on_holds x y some a b z e v Before w.steps w.distance (omega (arith, ints, w.positive))
between_holds (near dx dy some) is_far a b z e v w = absurd (cc)

-- a square is at most one number of steps away along a slide
pub slide_steps_same : (x y : Sign) → IsDirection (num x) (num y) → {a z : Square} {s t : ℕ} → IsSteps (slide (num x) (num y)) a z s → IsSteps (slide (num x) (num y)) a z t → s ≡ t
slide_steps_same x y some {a} {z} {s} {t} h k =
    sym (steps_distance a z (num x) (num y) some s (square_at z (after_steps a s (num x) (num y)) h.right h.up))
    ∙ steps_distance a z (num x) (num y) some t (square_at z (after_steps a t (num x) (num y)) k.right k.up)

pub no_steps : (r : Ray) (a : Square) → IsSteps r a a 0
no_steps r a = record { right = omega (arith, ints); up = omega (arith, ints) }

pub steps_same : {r : Ray} {a b c : Square} {t : ℕ} → IsSteps r a b t → IsSteps r a c t → b ≡ c
steps_same {b} {c} h k =
    let right : b.x ≡ c.x = h.right ∙ sym k.right in let up : b.y ≡ c.y = h.up ∙ sym k.up in square_at b c right up

stays_put : (a b d : ℤ) → b ≡ a +ℤ d → a ≡ b → d ≡ pos 0
stays_put a b d h e = omega (arith, ints)

-- who goes along a ray does not stay where he is
pub along_moves : {r : Ray} → IsFair r → (a b : Square) → LiesOn r a b → a ≡ b → ⊥
along_moves (far x y some) a b w same =
    let k : IsSteps (slide (num x) (num y)) a b 0 = subst (λ z. IsSteps (slide (num x) (num y)) a z 0) same (no_steps (slide (num x) (num y)) a) in
    let none : w.distance ≡ 0 = slide_steps_same x y some w.steps k in
    omega (arith, w.positive)
along_moves (near dx dy some) a b w same =
    some (stays_put a.x b.x dx (one_step a.x b.x dx w.distance (w.near refl) w.steps.right) (ap (λ (z : Square). z.x) same))
    (stays_put a.y b.y dy (one_step a.y b.y dy w.distance (w.near refl) w.steps.up) (ap (λ (z : Square). z.y) same))
