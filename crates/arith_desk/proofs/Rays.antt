-- The numbers that a search in both directions meets.
use Rattle.std.proofs.Common.{◌≡◌, ℕ, ◌^◌, [], ◌∷◌, ℤ, pos, negsuc, ◌+ℤ◌, ◌*ℤ◌, Option, Some, None, refl, sym, ap, ◌∙◌, subst, arith}
use Rattle.std.specs.Prelude.{neg_ℤ}
use Rattle.std.proofs.lemmas.Int.{ints}
use Rattle.auto_core.specs.Automaton.{Automaton}
use Rattle.auto_core.specs.Integers.{IsAccepted}
use Rattle.auto_search.specs.declared.tuple_ray.TupleRay.{TupleRay}
use Rattle.auto_search.specs.TupleRay.{IsLeastFound, tuple_at}
use Rattle.arith_desk.proofs.Nearests.{IsLeastOf}

-- a way from 0 and 0 along the first track
pub record IsLine (way : TupleRay) (slope : ℤ) : Type 0 where
  pub origin : way.fixed.now ≡ pos 0 ∷ pos 0 ∷ []
  pub x_track : way.x_track ≡ 0
  pub y_track : way.y_track ≡ 1
  pub dx : way.dx ≡ slope
  pub dy : way.dy ≡ pos 0

along : {way : TupleRay} {slope : ℤ} (t : ℕ) → IsLine way slope → tuple_at way t ≡ (pos 0 +ℤ (pos t *ℤ slope)) ∷ (pos 0 +ℤ (pos t *ℤ pos 0)) ∷ []
along t is = rw (is.origin, is.x_track, is.y_track, is.dx, is.dy) refl

pub up_tuple : {way : TupleRay} (t : ℕ) → IsLine way (pos 1) → tuple_at way t ≡ pos t ∷ pos 0 ∷ []
up_tuple t is =
    let first : pos 0 +ℤ (pos t *ℤ pos 1) ≡ pos t = omega (arith, ints) in
    let second : pos 0 +ℤ (pos t *ℤ pos 0) ≡ pos 0 = omega (arith, ints) in
    along t is ∙ (ap (λ n. n ∷ (pos 0 +ℤ (pos t *ℤ pos 0)) ∷ []) first ∙ ap (λ n. pos t ∷ n ∷ []) second)

pub down_tuple : {way : TupleRay} (t : ℕ) → IsLine way (negsuc 0) → tuple_at way t ≡ neg_ℤ (pos t) ∷ pos 0 ∷ []
down_tuple t is =
    let first : pos 0 +ℤ (pos t *ℤ negsuc 0) ≡ neg_ℤ (pos t) = omega (arith, ints) in
    let second : pos 0 +ℤ (pos t *ℤ pos 0) ≡ pos 0 = omega (arith, ints) in
    along t is ∙ (ap (λ n. n ∷ (pos 0 +ℤ (pos t *ℤ pos 0)) ∷ []) first ∙ ap (λ n. neg_ℤ (pos t) ∷ n ∷ []) second)

least_of : (a : Automaton) (way : TupleRay) (near : ℕ) (value : ℕ → ℤ) (found : Option ℕ)
    → ((t : ℕ) → tuple_at way t ≡ value t ∷ pos 0 ∷ []) → IsLeastFound a way near (2 ^ 64) found
    → IsLeastOf (λ t. IsAccepted a (value t ∷ pos 0 ∷ [])) near found
least_of a way near value None tuple h = λ t from to hit. h t from to (subst (IsAccepted a) (sym (tuple t)) hit)
least_of a way near value (Some t) tuple h = record {
  from = h.from;
  to = h.to;
  hit = subst (IsAccepted a) (tuple t) h.hit;
  least = λ u from hit. h.least u from (subst (IsAccepted a) (sym (tuple u)) hit);
}

pub least_above : (a : Automaton) {way : TupleRay} (found : Option ℕ) → IsLine way (pos 1) → IsLeastFound a way 0 (2 ^ 64) found → IsLeastOf (λ t. IsAccepted a (pos t ∷ pos 0 ∷ [])) 0 found
least_above a {way} found is h = least_of a way 0 (λ t. pos t) found (λ t. up_tuple t is) h

pub least_below : (a : Automaton) {way : TupleRay} (found : Option ℕ) → IsLine way (negsuc 0) → IsLeastFound a way 1 (2 ^ 64) found
    → IsLeastOf (λ t. IsAccepted a (neg_ℤ (pos t) ∷ pos 0 ∷ [])) 1 found
least_below a {way} found is h = least_of a way 1 (λ t. neg_ℤ (pos t)) found (λ t. down_tuple t is) h
