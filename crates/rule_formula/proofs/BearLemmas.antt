-- How men of a placed position bear.
use Rattle.std.proofs.Common.{◌≡◌, ◌↔◌, ℕ, zero, suc, ◌<◌, ◌≤◌, ◌-ℤ◌, Bool, true, false, List, length, Some, inl, inr, refl, subst, sym, arith}
use Rattle.std.specs.Prelude.{IsSomeAnd}
use Rattle.std.specs.List.{All}
use Rattle.std.proofs.lemmas.Option.{slice_get_within}
use Rattle.game_rules.specs.declared.men.Side.{Side}
use Rattle.game_rules.specs.declared.men.Man.{Man}
use Rattle.game_rules.specs.declared.men.Square.{Square}
use Rattle.game_rules.specs.Game.{Bears, IsBetween, IsLiveAnd, IsOpen, Position, StandsOn, place_square}
use Rattle.game_laws.specs.Reach.{HasReach}
use Rattle.game_laws.proofs.OpenLemmas.{bears_openly, openly_bears}
use Rattle.game_rules.specs.declared.men.Ray.{Ray}
use Rattle.game_rules.specs.Rays.{serves_captures}
use Rattle.game_laws.proofs.RayLemmas.{near_open, true_or_not}
use Rattle.rule_formula.proofs.RayLemmas.{LiesOn, IsSteps, IsFair, IsWithin, along_moves, far, is_along, near, slide_steps_same}
use Rattle.rule_formula.specs.Placed.{place_at, placed}
use Rattle.game_laws.specs.Stock.{stock_man}
use Rattle.rule_formula.proofs.KindLemmas.{IsRayOf, between_is, reach_along}
use Rattle.rule_formula.proofs.PlacedLemmas.{from_placed, placed_man}
use Rattle.mask_sets.proofs.Men.{all_men}

-- a man of the stock in the position
abbrev pub man_placed : (ℕ → Bool) → (ℕ → Square) → ℕ → Man → Man
man_placed live f k m = record m { place = place_at (live k) (f k) }

pub each_placed : (stock : List Man) (live : ℕ → Bool) (turn : Side) (f : ℕ → Square) (P : Man → Type 0)
    → All P (placed stock live turn f).men ↔ ((k : ℕ) (m : Man) → stock_man stock k ≡ Some m → P (man_placed live f k m))
each_placed stock live turn f P =
    let men = all_men (placed stock live turn f) P in (
      λ h k m is. men.0 h k (man_placed live f k m) (placed_man stock live turn f k m is),
      λ h.
          men.1
          (λ k q is.
          let w = from_placed stock live turn f k q is in subst P (sym w.is) (h k w.man w.is_man)),
    )

live_and : (b : Bool) (z : Square) (P : Square → Type 0) → IsSomeAnd (place_square (place_at b z)) P ↔ ((b ≡ true) × P z)
live_and true z P = (λ h. (refl, h), λ h. h.1)
live_and false z P = (λ h. absurd h, λ h. absurd (cc))

pub stands_at : (b : Bool) (z : Square) → b ≡ true → place_square (place_at b z) ≡ Some z
stands_at true z e = refl
stands_at false z e = absurd (cc)

pub record IsNumber (stock : List Man) (k : ℕ) : Type 0 where
  pub low : 0 < k
  pub high : k ≤ length stock

pub stock_number : (stock : List Man) (k : ℕ) (m : Man) → stock_man stock k ≡ Some m → IsNumber stock k
stock_number stock zero m is = absurd (cc)
stock_number stock (suc k) m is =
    let within : k < length stock = slice_get_within stock k m is in record { low = omega arith; high = omega arith }

-- the way is open exactly where no live man's square is between
pub open_is : (stock : List Man) (live : ℕ → Bool) (turn : Side) (f : ℕ → Square) (a b : Square)
    → IsOpen (placed stock live turn f) a b ↔ ((k : ℕ) (m : Man) → stock_man stock k ≡ Some m → live k ≡ true → IsBetween a b (f k) → ⊥)
open_is stock live turn f a b =
    let each = each_placed stock live turn f (λ m. IsLiveAnd m (IsBetween a b) → ⊥) in (
      λ h k m is on between. each.0 h k m is ((live_and (live k) (f k) (IsBetween a b)).1 (on, between)),
      λ h.
          each.1
          (λ k m is w.
          let v = (live_and (live k) (f k) (IsBetween a b)).0 w in h k m is v.0 v.1),
    )

pub bears_at : (p : Position) (m : Man) (a z : Square) → StandsOn m a → HasReach m.side m.kind (z.x -ℤ a.x) (z.y -ℤ a.y) → IsOpen p a z → Bears p m z
bears_at p m a z stands reach clear =
    openly_bears p m z (subst (λ o. IsSomeAnd o (λ a. HasReach m.side m.kind (z.x -ℤ a.x) (z.y -ℤ a.y) × IsOpen p a z)) (sym stands) (reach, clear))

pub bears_from : (p : Position) (m : Man) (a z : Square) → StandsOn m a → Bears p m z → HasReach m.side m.kind (z.x -ℤ a.x) (z.y -ℤ a.y) × IsOpen p a z
bears_from p m a z stands h =
    subst (λ o. IsSomeAnd o (λ a. HasReach m.side m.kind (z.x -ℤ a.x) (z.y -ℤ a.y) × IsOpen p a z)) stands (bears_openly p m z h)

-- no live man stands before b on the way from a
abbrev pub IsClearTo : List Man → (ℕ → Bool) → (ℕ → Square) → Ray → Square → ℕ → Type 0
IsClearTo stock live f r a t = (k : ℕ) (m : Man) → stock_man stock k ≡ Some m → live k ≡ true → IsWithin r a (f k) t → ⊥

open_along : (stock : List Man) (live : ℕ → Bool) (turn : Side) (f : ℕ → Square) {r : Ray} → IsFair r → r.far ≡ true
    → {a b : Square} (w : LiesOn r a b) → IsOpen (placed stock live turn f) a b ↔ IsClearTo stock live f r a w.distance
open_along stock live turn f (far x y some) is_far {a} {b} w =
    let o = open_is stock live turn f a b in (
      λ h k m is on within. o.0 h k m is on ((between_is x y some (f k) w.positive w.steps).1 within),
      λ h. o.1 (λ k m is on between. h k m is on ((between_is x y some (f k) w.positive w.steps).0 between)),
    )
open_along stock live turn f (near dx dy some) is_far w = absurd (cc)

-- a man bears along his ray exactly where a far ray is clear
pub bears_along : (stock : List Man) (live : ℕ → Bool) (turn : Side) (f : ℕ → Square) (m : Man) (n : ℕ) (r : Ray) (a b : Square)
    → IsRayOf m.side m.kind n r → serves_captures m.kind n ≡ true → StandsOn m a → (w : LiesOn r a b)
    → Bears (placed stock live turn f) m b ↔ (r.far ≡ true → IsClearTo stock live f r a w.distance)
bears_along stock live turn f m n r a b is serves stands w =
    let p : Position = placed stock live turn f in (
      λ h is_far. (open_along stock live turn f is.fair is_far w).0 (bears_from p m a b stands h).1,
      λ h.
          bears_at p m a b stands (reach_along is serves w)
          (elim (true_or_not r.far) [
            | inl is_far ↦ (open_along stock live turn f is.fair is_far w).1 (h is_far)
            | inr is_near ↦ let along = is_along w in near_open p m.side m.kind n r along.0 a b is.is_ray is_near along.1
          ]),
    )

-- who stands on an end of a slide is not on the way
pub not_at_start : {r : Ray} → IsFair r → r.far ≡ true → {a : Square} {t : ℕ} → IsWithin r a a t → ⊥
not_at_start fair is_far {a} w =
    along_moves fair a a (record { distance = w.distance; positive = w.positive; near = λ e. absurd (cc); steps = w.steps }) refl

pub not_at_end : {r : Ray} → IsFair r → r.far ≡ true → {a b : Square} {t : ℕ} → IsSteps r a b t → IsWithin r a b t → ⊥
not_at_end (far x y some) is_far {t} steps w =
    let same : w.distance ≡ t = slide_steps_same x y some w.steps steps in omega (arith, w.before)
not_at_end (near dx dy some) is_far steps w = absurd (cc)
