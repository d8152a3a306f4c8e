-- The table of rays, kind by kind: what each ray reaches, and which ray reaches what a man bears on.
use Rattle.std.proofs.Common.{◌≡◌, ◌≢◌, ◌⊎◌, ℕ, zero, suc, ◌+◌, ◌++◌, ◌≤◌, lit≤, max, ℤ, pos, negsuc, ◌*ℤ◌, unsigned_abs, Bool, true, false, cond, List, [], ◌∷◌, length, Some, inl, inr, refl, subst, sym, ap, ◌∙◌, arith}
use Rattle.std.specs.Prelude.{slice_get, IsTrue}
use Rattle.std.proofs.lemmas.Int.{ints}
use Rattle.std.proofs.lemmas.Bool.Decides.{Decides-int_eq}
use Rattle.std.specs.Ordering.{int_eq}
use Rattle.game_rules.specs.declared.men.Kind.{Kind}
use Rattle.game_rules.specs.declared.men.Kind.TheVariants.{King, Queen, Rook, Bishop, Knight, Pawn, Chancellor, Archbishop, Amazon, Nightrider}
use Rattle.game_rules.specs.declared.men.Ray.{Ray}
use Rattle.game_rules.specs.declared.men.Side.{Side}
use Rattle.game_rules.specs.declared.men.Side.TheVariants.{White, Black}
use Rattle.game_rules.specs.Game.{IsDiagonal, IsDirection, IsLeap, IsLeaps, IsStraight}
use Rattle.game_rules.specs.Rays.{all_round_rays, diagonal_rays, leap, leap_rays, ray_of, rays_of, serves_captures, slide, straight_rays}
use Rattle.game_laws.specs.Reach.{HasReach}
use Rattle.game_laws.proofs.LineLemmas.{unit_cases}

-- what holds of ray number n of a kind
pub record IsRayOf (s : Side) (k : Kind) (n : ℕ) (r : Ray) : Type 0 where
  pub direction : IsDirection r.dx r.dy
  pub not_king : r.far ≡ true → k ≢ King
  pub reaches : IsTrue (serves_captures k n) → (t : ℕ) → 1 ≤ t → (r.far ≡ false → t ≡ 1) → HasReach s k (pos t *ℤ r.dx) (pos t *ℤ r.dy)

leap_is : (s : Side) (k : Kind) (n : ℕ) (dx dy : ℤ) → IsDirection dx dy → (IsTrue (serves_captures k n) → HasReach s k (pos 1 *ℤ dx) (pos 1 *ℤ dy)) → IsRayOf s k n (leap dx dy)
leap_is s k n dx dy direction reach =
    record {
      direction = direction;
      not_king = λ e. absurd (cc);
      reaches = λ c t low one. subst (λ j. HasReach s k (pos j *ℤ dx) (pos j *ℤ dy)) (sym (one refl)) (reach c);
    }

slide_is : (s : Side) (k : Kind) (n : ℕ) (dx dy : ℤ) → IsDirection dx dy → k ≢ King → ((t : ℕ) → 1 ≤ t → HasReach s k (pos t *ℤ dx) (pos t *ℤ dy)) → IsRayOf s k n (slide dx dy)
slide_is s k n dx dy direction not_king reach =
    record { direction = direction; not_king = λ e. not_king; reaches = λ c t low one. reach t low }

east : (t : ℕ) → 1 ≤ t → IsStraight (pos t *ℤ pos 1) (pos t *ℤ pos 0)
east t low = inr (λ e. omega (arith, ints, e), omega (arith, ints))

west : (t : ℕ) → 1 ≤ t → IsStraight (pos t *ℤ negsuc 0) (pos t *ℤ pos 0)
west t low = inr (λ e. omega (arith, ints, e), omega (arith, ints))

north : (t : ℕ) → 1 ≤ t → IsStraight (pos t *ℤ pos 0) (pos t *ℤ pos 1)
north t low = inl (omega (arith, ints), λ e. omega (arith, ints, e))

south : (t : ℕ) → 1 ≤ t → IsStraight (pos t *ℤ pos 0) (pos t *ℤ negsuc 0)
south t low = inl (omega (arith, ints), λ e. omega (arith, ints, e))

north_east : (t : ℕ) → 1 ≤ t → IsDiagonal (pos t *ℤ pos 1) (pos t *ℤ pos 1)
north_east t low = (grind (arith, ints), grind (arith, ints))

north_west : (t : ℕ) → 1 ≤ t → IsDiagonal (pos t *ℤ negsuc 0) (pos t *ℤ pos 1)
north_west t low = (grind (arith, ints), grind (arith, ints))

south_east : (t : ℕ) → 1 ≤ t → IsDiagonal (pos t *ℤ pos 1) (pos t *ℤ negsuc 0)
south_east t low = (grind (arith, ints), grind (arith, ints))

south_west : (t : ℕ) → 1 ≤ t → IsDiagonal (pos t *ℤ negsuc 0) (pos t *ℤ negsuc 0)
south_west t low = (grind (arith, ints), grind (arith, ints))

abbrev AreRaysOf : Side → Kind → ℕ → List Ray → Type 0
AreRaysOf s k n [] = Unit {0}
AreRaysOf s k n (r ∷ rs) = IsRayOf s k n r × AreRaysOf s k (suc n) rs

-- the rays of a list, from this number on, are as the kind wants them, and so are those that follow
module _ (s : Side) (k : Kind) (n : ℕ) (rs : List Ray) where
  straight_are : k ≢ King → ((dx dy : ℤ) → IsStraight dx dy → HasReach s k dx dy) → AreRaysOf s k (suc (suc (suc (suc n)))) rs → AreRaysOf s k n (straight_rays ++ rs)
  straight_are other reach rest = (slide_is s k n _ _ (inl (refl, lit≤ tt)) other (λ t low. reach _ _ (east t low)), (slide_is s k (suc n) _ _ (inr (refl, lit≤ tt)) other (λ t low. reach _ _ (north t low)), (slide_is s k (suc (suc n)) _ _ (inl (refl, lit≤ tt)) other (λ t low. reach _ _ (west t low)), (slide_is s k (suc (suc (suc n))) _ _ (inr (refl, lit≤ tt)) other (λ t low. reach _ _ (south t low)), rest))))

  diagonal_are : k ≢ King → ((dx dy : ℤ) → IsDiagonal dx dy → HasReach s k dx dy) → AreRaysOf s k (suc (suc (suc (suc n)))) rs → AreRaysOf s k n (diagonal_rays ++ rs)
  diagonal_are other reach rest = (slide_is s k n _ _ (inl (refl, lit≤ tt)) other (λ t low. reach _ _ (north_east t low)), (slide_is s k (suc n) _ _ (inl (refl, lit≤ tt)) other (λ t low. reach _ _ (north_west t low)), (slide_is s k (suc (suc n)) _ _ (inl (refl, lit≤ tt)) other (λ t low. reach _ _ (south_west t low)), (slide_is s k (suc (suc (suc n))) _ _ (inl (refl, lit≤ tt)) other (λ t low. reach _ _ (south_east t low)), rest))))

  all_round_are : k ≢ King → ((dx dy : ℤ) → IsStraight dx dy → HasReach s k dx dy) → ((dx dy : ℤ) → IsDiagonal dx dy → HasReach s k dx dy)
      → AreRaysOf s k (suc (suc (suc (suc (suc (suc (suc (suc n)))))))) rs → AreRaysOf s k n (all_round_rays ++ rs)
  all_round_are other straight diagonal rest = (slide_is s k n _ _ (inl (refl, lit≤ tt)) other (λ t low. straight _ _ (east t low)), (slide_is s k (suc n) _ _ (inl (refl, lit≤ tt)) other (λ t low. diagonal _ _ (north_east t low)), (slide_is s k (suc (suc n)) _ _ (inr (refl, lit≤ tt)) other (λ t low. straight _ _ (north t low)), (slide_is s k (suc (suc (suc n))) _ _ (inl (refl, lit≤ tt)) other (λ t low. diagonal _ _ (north_west t low)), (slide_is s k (suc (suc (suc (suc n)))) _ _ (inl (refl, lit≤ tt)) other (λ t low. straight _ _ (west t low)), (slide_is s k (suc (suc (suc (suc (suc n))))) _ _ (inl (refl, lit≤ tt)) other (λ t low. diagonal _ _ (south_west t low)), (slide_is s k (suc (suc (suc (suc (suc (suc n)))))) _ _ (inr (refl, lit≤ tt)) other (λ t low. straight _ _ (south t low)), (slide_is s k (suc (suc (suc (suc (suc (suc (suc n))))))) _ _ (inl (refl, lit≤ tt)) other (λ t low. diagonal _ _ (south_east t low)), rest))))))))

leaps_are : (s : Side) (k : Kind) (n : ℕ) → ((dx dy : ℤ) → IsLeap dx dy → HasReach s k dx dy) → AreRaysOf s k n leap_rays
leaps_are s k n reach = (leap_is s k n _ _ (inr (refl, lit≤ tt)) (λ c. reach _ _ (inr (refl, refl))), (leap_is s k (suc n) _ _ (inl (refl, lit≤ tt)) (λ c. reach _ _ (inl (refl, refl))), (leap_is s k (suc (suc n)) _ _ (inl (refl, lit≤ tt)) (λ c. reach _ _ (inl (refl, refl))), (leap_is s k (suc (suc (suc n))) _ _ (inr (refl, lit≤ tt)) (λ c. reach _ _ (inr (refl, refl))), (leap_is s k (suc (suc (suc (suc n)))) _ _ (inr (refl, lit≤ tt)) (λ c. reach _ _ (inr (refl, refl))), (leap_is s k (suc (suc (suc (suc (suc n))))) _ _ (inl (refl, lit≤ tt)) (λ c. reach _ _ (inl (refl, refl))), (leap_is s k (suc (suc (suc (suc (suc (suc n)))))) _ _ (inl (refl, lit≤ tt)) (λ c. reach _ _ (inl (refl, refl))), (leap_is s k (suc (suc (suc (suc (suc (suc (suc n))))))) _ _ (inr (refl, lit≤ tt)) (λ c. reach _ _ (inr (refl, refl))), tt))))))))

rays_are : (s : Side) (k : Kind) → AreRaysOf s k 0 (rays_of k s)
rays_are s King = (leap_is s King 0 _ _ (inl (refl, lit≤ tt)) (λ c. refl), (leap_is s King 1 _ _ (inl (refl, lit≤ tt)) (λ c. refl), (leap_is s King 2 _ _ (inr (refl, lit≤ tt)) (λ c. refl), (leap_is s King 3 _ _ (inl (refl, lit≤ tt)) (λ c. refl), (leap_is s King 4 _ _ (inl (refl, lit≤ tt)) (λ c. refl), (leap_is s King 5 _ _ (inl (refl, lit≤ tt)) (λ c. refl), (leap_is s King 6 _ _ (inr (refl, lit≤ tt)) (λ c. refl), (leap_is s King 7 _ _ (inl (refl, lit≤ tt)) (λ c. refl), tt))))))))
rays_are s Queen = all_round_are s Queen 0 [] (λ e. cc) (λ dx dy h. inl h) (λ dx dy h. inr h) tt
rays_are s Rook = straight_are s Rook 0 [] (λ e. cc) (λ dx dy h. h) tt
rays_are s Bishop = diagonal_are s Bishop 0 [] (λ e. cc) (λ dx dy h. h) tt
rays_are s Knight = leaps_are s Knight 0 (λ dx dy h. h)
rays_are White Pawn = (leap_is White Pawn 0 _ _ (inr (refl, lit≤ tt)) (λ c. absurd (cc)), (leap_is White Pawn 1 _ _ (inl (refl, lit≤ tt)) (λ c. (refl, refl)), (leap_is White Pawn 2 _ _ (inl (refl, lit≤ tt)) (λ c. (refl, refl)), tt)))
rays_are Black Pawn = (leap_is Black Pawn 0 _ _ (inr (refl, lit≤ tt)) (λ c. absurd (cc)), (leap_is Black Pawn 1 _ _ (inl (refl, lit≤ tt)) (λ c. (refl, refl)), (leap_is Black Pawn 2 _ _ (inl (refl, lit≤ tt)) (λ c. (refl, refl)), tt)))
rays_are s Chancellor = straight_are s Chancellor 0 leap_rays (λ e. cc) (λ dx dy h. inl h) (leaps_are s Chancellor 4 (λ dx dy h. inr h))
rays_are s Archbishop = diagonal_are s Archbishop 0 leap_rays (λ e. cc) (λ dx dy h. inl h) (leaps_are s Archbishop 4 (λ dx dy h. inr h))
rays_are s Amazon =
    all_round_are s Amazon 0 leap_rays (λ e. cc) (λ dx dy h. inl (inl h)) (λ dx dy h. inl (inr h)) (leaps_are s Amazon 8 (λ dx dy h. inr h))
rays_are s Nightrider = (slide_is s Nightrider 0 _ _ (inr (refl, lit≤ tt)) (λ e. cc) (λ t low. inr (grind (arith, ints), grind (arith, ints))), (slide_is s Nightrider 1 _ _ (inl (refl, lit≤ tt)) (λ e. cc) (λ t low. inl (grind (arith, ints), grind (arith, ints))), (slide_is s Nightrider 2 _ _ (inl (refl, lit≤ tt)) (λ e. cc) (λ t low. inl (grind (arith, ints), grind (arith, ints))), (slide_is s Nightrider 3 _ _ (inr (refl, lit≤ tt)) (λ e. cc) (λ t low. inr (grind (arith, ints), grind (arith, ints))), (slide_is s Nightrider 4 _ _ (inr (refl, lit≤ tt)) (λ e. cc) (λ t low. inr (grind (arith, ints), grind (arith, ints))), (slide_is s Nightrider 5 _ _ (inl (refl, lit≤ tt)) (λ e. cc) (λ t low. inl (grind (arith, ints), grind (arith, ints))), (slide_is s Nightrider 6 _ _ (inl (refl, lit≤ tt)) (λ e. cc) (λ t low. inl (grind (arith, ints), grind (arith, ints))), (slide_is s Nightrider 7 _ _ (inr (refl, lit≤ tt)) (λ e. cc) (λ t low. inr (grind (arith, ints), grind (arith, ints))), tt))))))))

ray_in : (s : Side) (k : Kind) (n i j : ℕ) (rs : List Ray) (r : Ray) → j ≡ n + i → AreRaysOf s k n rs → slice_get rs i ≡ Some r → IsRayOf s k j r
ray_in s k n i j [] r e h is = absurd (cc)
ray_in s k n zero j (x ∷ rs) r e h is =
    let here : n ≡ j = omega arith in
    let same : x ≡ r = cc in
    subst (λ m. IsRayOf s k m r) here (subst (IsRayOf s k n) same h.0)
ray_in s k n (suc i) j (x ∷ rs) r e h is = ray_in s k (suc n) i j rs r (omega arith) h.1 is

-- each ray of the table is as its kind wants it
pub ray_is : (s : Side) (k : Kind) (n : ℕ) (r : Ray) → ray_of k s n ≡ Some r → IsRayOf s k n r
ray_is s k n r is = ray_in s k 0 n n (rays_of k s) r (omega arith) (rays_are s k) is

-- a ray that serves captures leads to this offset
pub record IsReached (s : Side) (k : Kind) (dx dy : ℤ) : Type 0 where
  pub number : ℕ
  pub ray : Ray
  pub is_ray : ray_of k s number ≡ Some ray
  pub serves : IsTrue (serves_captures k number)
  pub times : ℕ
  pub begun : 1 ≤ times
  pub one : ray.far ≡ false → times ≡ 1
  pub right : dx ≡ pos times *ℤ ray.dx
  pub up : dy ≡ pos times *ℤ ray.dy

slide_to : (s : Side) (k : Kind) (n : ℕ) (ux uy : ℤ) (m : ℕ) (dx dy : ℤ) → ray_of k s n ≡ Some (slide ux uy) → IsTrue (serves_captures k n)
    → dx ≡ pos (suc m) *ℤ ux → dy ≡ pos (suc m) *ℤ uy → IsReached s k dx dy
slide_to s k n ux uy m dx dy is serves right up =
    record { number = n; ray = slide ux uy; is_ray = is; serves = serves; times = suc m; begun = omega arith; one = λ e. absurd (cc); right = right; up = up }

leap_to : (s : Side) (k : Kind) (n : ℕ) (ux uy dx dy : ℤ) → ray_of k s n ≡ Some (leap ux uy) → IsTrue (serves_captures k n) → dx ≡ ux → dy ≡ uy → IsReached s k dx dy
leap_to s k n ux uy dx dy is serves right up =
    record { number = n; ray = leap ux uy; is_ray = is; serves = serves; times = 1; begun = omega arith; one = λ e. refl; right = omega (arith, ints); up = omega (arith, ints) }

-- where the four straight rays of a kind stand in the table
record HasStraight (s : Side) (k : Kind) : Type 0 where
  serves : (n : ℕ) → IsTrue (serves_captures k n)
  east : ℕ
  is_east : ray_of k s east ≡ Some (slide (pos 1) (pos 0))
  north : ℕ
  is_north : ray_of k s north ≡ Some (slide (pos 0) (pos 1))
  west : ℕ
  is_west : ray_of k s west ≡ Some (slide (negsuc 0) (pos 0))
  south : ℕ
  is_south : ray_of k s south ≡ Some (slide (pos 0) (negsuc 0))

-- and the four diagonal ones
record HasDiagonal (s : Side) (k : Kind) : Type 0 where
  serves : (n : ℕ) → IsTrue (serves_captures k n)
  north_east : ℕ
  is_north_east : ray_of k s north_east ≡ Some (slide (pos 1) (pos 1))
  north_west : ℕ
  is_north_west : ray_of k s north_west ≡ Some (slide (negsuc 0) (pos 1))
  south_west : ℕ
  is_south_west : ray_of k s south_west ≡ Some (slide (negsuc 0) (negsuc 0))
  south_east : ℕ
  is_south_east : ray_of k s south_east ≡ Some (slide (pos 1) (negsuc 0))

-- and the eight of a knight
record HasLeaps (s : Side) (k : Kind) : Type 0 where
  serves : (n : ℕ) → IsTrue (serves_captures k n)
  first : ℕ
  leaps : (i : ℕ) (r : Ray) → slice_get leap_rays i ≡ Some r → ray_of k s (first + i) ≡ Some r

queen_straight : (s : Side) → HasStraight s Queen
queen_straight s = record { serves = λ n. refl; east = 0; is_east = refl; north = 2; is_north = refl; west = 4; is_west = refl; south = 6; is_south = refl }

queen_diagonal : (s : Side) → HasDiagonal s Queen
queen_diagonal s =
    record { serves = λ n. refl; north_east = 1; is_north_east = refl; north_west = 3; is_north_west = refl; south_west = 5; is_south_west = refl; south_east = 7; is_south_east = refl }

rook_straight : (s : Side) → HasStraight s Rook
rook_straight s = record { serves = λ n. refl; east = 0; is_east = refl; north = 1; is_north = refl; west = 2; is_west = refl; south = 3; is_south = refl }

bishop_diagonal : (s : Side) → HasDiagonal s Bishop
bishop_diagonal s =
    record { serves = λ n. refl; north_east = 0; is_north_east = refl; north_west = 1; is_north_west = refl; south_west = 2; is_south_west = refl; south_east = 3; is_south_east = refl }

chancellor_straight : (s : Side) → HasStraight s Chancellor
chancellor_straight s = record { serves = λ n. refl; east = 0; is_east = refl; north = 1; is_north = refl; west = 2; is_west = refl; south = 3; is_south = refl }

amazon_straight : (s : Side) → HasStraight s Amazon
amazon_straight s = record { serves = λ n. refl; east = 0; is_east = refl; north = 2; is_north = refl; west = 4; is_west = refl; south = 6; is_south = refl }

archbishop_diagonal : (s : Side) → HasDiagonal s Archbishop
archbishop_diagonal s =
    record { serves = λ n. refl; north_east = 0; is_north_east = refl; north_west = 1; is_north_west = refl; south_west = 2; is_south_west = refl; south_east = 3; is_south_east = refl }

amazon_diagonal : (s : Side) → HasDiagonal s Amazon
amazon_diagonal s =
    record { serves = λ n. refl; north_east = 1; is_north_east = refl; north_west = 3; is_north_west = refl; south_west = 5; is_south_west = refl; south_east = 7; is_south_east = refl }

-- what comes after the first of two lists
get_after : (rs qs : List Ray) (n i : ℕ) (r : Ray) → n ≡ length rs → slice_get qs i ≡ Some r → slice_get (rs ++ qs) (n + i) ≡ Some r
get_after [] qs n i r e is = let none : n + i ≡ i = omega (arith, e) in ap (slice_get qs) none ∙ is
get_after (q ∷ rs) qs zero i r e is = absurd (omega (arith, e))
get_after (q ∷ rs) qs (suc n) i r e is =
    let next : suc n + i ≡ suc (n + i) = omega arith in
    ap (slice_get (q ∷ (rs ++ qs))) next ∙ get_after rs qs n i r (omega (arith, e)) is

knight_leaps : (s : Side) → HasLeaps s Knight
knight_leaps s = record { serves = λ n. refl; first = 0; leaps = λ i r is. get_after [] leap_rays 0 i r refl is }

chancellor_leaps : (s : Side) → HasLeaps s Chancellor
chancellor_leaps s = record { serves = λ n. refl; first = 4; leaps = λ i r is. get_after straight_rays leap_rays 4 i r refl is }

archbishop_leaps : (s : Side) → HasLeaps s Archbishop
archbishop_leaps s = record { serves = λ n. refl; first = 4; leaps = λ i r is. get_after diagonal_rays leap_rays 4 i r refl is }

amazon_leaps : (s : Side) → HasLeaps s Amazon
amazon_leaps s = record { serves = λ n. refl; first = 8; leaps = λ i r is. get_after all_round_rays leap_rays 8 i r refl is }

straight_to : {s : Side} {k : Kind} → HasStraight s k → (dx dy : ℤ) → IsStraight dx dy → IsReached s k dx dy
straight_to t (pos zero) (pos zero) (inl h) = absurd (h.1 refl)
straight_to t (pos zero) (pos zero) (inr h) = absurd (h.0 refl)
straight_to {s} {k} t (pos zero) (pos (suc m)) h = slide_to s k t.north _ _ m _ _ t.is_north (t.serves t.north) (omega (arith, ints)) (omega (arith, ints))
straight_to {s} {k} t (pos zero) (negsuc m) h = slide_to s k t.south _ _ m _ _ t.is_south (t.serves t.south) (omega (arith, ints)) (omega (arith, ints))
straight_to {s} {k} t (pos (suc m)) (pos zero) h = slide_to s k t.east _ _ m _ _ t.is_east (t.serves t.east) (omega (arith, ints)) (omega (arith, ints))
straight_to {s} {k} t (negsuc m) (pos zero) h = slide_to s k t.west _ _ m _ _ t.is_west (t.serves t.west) (omega (arith, ints)) (omega (arith, ints))
straight_to t (pos (suc m)) (pos (suc n)) (inl h) = absurd (omega (arith, ints, h.0))
straight_to t (pos (suc m)) (pos (suc n)) (inr h) = absurd (omega (arith, ints, h.1))
straight_to t (pos (suc m)) (negsuc n) (inl h) = absurd (omega (arith, ints, h.0))
straight_to t (pos (suc m)) (negsuc n) (inr h) = absurd (omega (arith, ints, h.1))
straight_to t (negsuc m) (pos (suc n)) (inl h) = absurd (omega (arith, ints, h.0))
straight_to t (negsuc m) (pos (suc n)) (inr h) = absurd (omega (arith, ints, h.1))
straight_to t (negsuc m) (negsuc n) (inl h) = absurd (omega (arith, ints, h.0))
straight_to t (negsuc m) (negsuc n) (inr h) = absurd (omega (arith, ints, h.1))

diagonal_to : {s : Side} {k : Kind} → HasDiagonal s k → (dx dy : ℤ) → IsDiagonal dx dy → IsReached s k dx dy
diagonal_to t (pos zero) dy h = absurd (omega (arith, h.1))
diagonal_to {s} {k} t (pos (suc m)) (pos n) h = slide_to s k t.north_east _ _ m _ _ t.is_north_east (t.serves t.north_east) (omega (arith, ints)) (omega (arith, ints, h.0))
diagonal_to {s} {k} t (pos (suc m)) (negsuc n) h = slide_to s k t.south_east _ _ m _ _ t.is_south_east (t.serves t.south_east) (omega (arith, ints)) (omega (arith, ints, h.0))
diagonal_to {s} {k} t (negsuc m) (pos n) h = slide_to s k t.north_west _ _ m _ _ t.is_north_west (t.serves t.north_west) (omega (arith, ints)) (omega (arith, ints, h.0))
diagonal_to {s} {k} t (negsuc m) (negsuc n) h = slide_to s k t.south_west _ _ m _ _ t.is_south_west (t.serves t.south_west) (omega (arith, ints)) (omega (arith, ints, h.0))

abs_cases : (d : ℤ) (n : ℕ) → unsigned_abs d ≡ suc n → (d ≡ pos (suc n)) ⊎ (d ≡ negsuc n)
abs_cases (pos m) n h = inl (omega (arith, ints, h))
abs_cases (negsuc m) n h = inr (omega (arith, ints, h))

king_to : (s : Side) (dx dy : ℤ) → max (unsigned_abs dx) (unsigned_abs dy) ≡ 1 → IsReached s King dx dy
king_to s dx dy h =
    elim (unit_cases dx (omega (arith, h))) [
      | inl x ↦
          elim (unit_cases dy (omega (arith, h))) [
            | inl y ↦ leap_to s King 5 _ _ _ _ refl refl x y
            | inr v ↦
                elim v [ inl y ↦ leap_to s King 4 _ _ _ _ refl refl x y | inr y ↦ leap_to s King 3 _ _ _ _ refl refl x y ]
          ]
      | inr u ↦ elim u [
        | inl x ↦
            elim (unit_cases dy (omega (arith, h))) [
              | inl y ↦ leap_to s King 6 _ _ _ _ refl refl x y
              | inr v ↦
                  elim v [ inl y ↦ absurd (none_far dx dy h x y) | inr y ↦ leap_to s King 2 _ _ _ _ refl refl x y ]
            ]
        | inr x ↦
            elim (unit_cases dy (omega (arith, h))) [
              | inl y ↦ leap_to s King 7 _ _ _ _ refl refl x y
              | inr v ↦
                  elim v [ inl y ↦ leap_to s King 0 _ _ _ _ refl refl x y | inr y ↦ leap_to s King 1 _ _ _ _ refl refl x y ]
            ]
      ]
    ]
  where
    none_far : (dx dy : ℤ) → max (unsigned_abs dx) (unsigned_abs dy) ≡ 1 → dx ≡ pos 0 → dy ≡ pos 0 → ⊥
    none_far dx dy h x y = omega (arith, h, ap unsigned_abs x, ap unsigned_abs y)

-- a leap lies on a ray of leaps
leap_at : {s : Side} {k : Kind} → HasLeaps s k → (i : ℕ) (ux uy dx dy : ℤ) → slice_get leap_rays i ≡ Some (leap ux uy) → dx ≡ ux → dy ≡ uy → IsReached s k dx dy
leap_at {s} {k} t i ux uy dx dy is x y = leap_to s k (t.first + i) ux uy dx dy (t.leaps i (leap ux uy) is) (t.serves (t.first + i)) x y

knight_to : {s : Side} {k : Kind} → HasLeaps s k → (dx dy : ℤ) → IsLeap dx dy → IsReached s k dx dy
knight_to t dx dy (inl h) =
    elim (abs_cases dx 0 h.0) [
      | inl x ↦ elim (abs_cases dy 1 h.1) [ inl y ↦ leap_at t 1 _ _ _ _ refl x y | inr y ↦ leap_at t 6 _ _ _ _ refl x y ]
      | inr x ↦ elim (abs_cases dy 1 h.1) [ inl y ↦ leap_at t 2 _ _ _ _ refl x y | inr y ↦ leap_at t 5 _ _ _ _ refl x y ]
    ]
knight_to t dx dy (inr h) =
    elim (abs_cases dx 1 h.0) [
      | inl x ↦ elim (abs_cases dy 0 h.1) [ inl y ↦ leap_at t 0 _ _ _ _ refl x y | inr y ↦ leap_at t 7 _ _ _ _ refl x y ]
      | inr x ↦ elim (abs_cases dy 0 h.1) [ inl y ↦ leap_at t 3 _ _ _ _ refl x y | inr y ↦ leap_at t 4 _ _ _ _ refl x y ]
    ]

-- some leaps in one direction lie on a nightrider's ray
rider_to : (s : Side) (dx dy : ℤ) → IsLeaps dx dy → IsReached s Nightrider dx dy
rider_to s (pos (suc m)) (pos n) (inl h) = slide_to s Nightrider 1 _ _ m _ _ refl refl (omega (arith, ints)) (omega (arith, ints, h.1))
rider_to s (pos (suc m)) (negsuc n) (inl h) = slide_to s Nightrider 6 _ _ m _ _ refl refl (omega (arith, ints)) (omega (arith, ints, h.1))
rider_to s (negsuc m) (pos n) (inl h) = slide_to s Nightrider 2 _ _ m _ _ refl refl (omega (arith, ints)) (omega (arith, ints, h.1))
rider_to s (negsuc m) (negsuc n) (inl h) = slide_to s Nightrider 5 _ _ m _ _ refl refl (omega (arith, ints)) (omega (arith, ints, h.1))
rider_to s (pos zero) dy (inl h) = absurd (omega (arith, h.0))
rider_to s (pos n) (pos (suc m)) (inr h) = slide_to s Nightrider 0 _ _ m _ _ refl refl (omega (arith, ints, h.1)) (omega (arith, ints))
rider_to s (pos n) (negsuc m) (inr h) = slide_to s Nightrider 7 _ _ m _ _ refl refl (omega (arith, ints, h.1)) (omega (arith, ints))
rider_to s (negsuc n) (pos (suc m)) (inr h) = slide_to s Nightrider 3 _ _ m _ _ refl refl (omega (arith, ints, h.1)) (omega (arith, ints))
rider_to s (negsuc n) (negsuc m) (inr h) = slide_to s Nightrider 4 _ _ m _ _ refl refl (omega (arith, ints, h.1)) (omega (arith, ints))
rider_to s dx (pos zero) (inr h) = absurd (omega (arith, h.0))

-- what a man bears on lies on a ray of the table
pub reached : (s : Side) (k : Kind) (dx dy : ℤ) → HasReach s k dx dy → IsReached s k dx dy
reached s King dx dy h = king_to s dx dy h
reached s Queen dx dy (inl h) = straight_to (queen_straight s) dx dy h
reached s Queen dx dy (inr h) = diagonal_to (queen_diagonal s) dx dy h
reached s Rook dx dy h = straight_to (rook_straight s) dx dy h
reached s Bishop dx dy h = diagonal_to (bishop_diagonal s) dx dy h
reached s Knight dx dy h = knight_to (knight_leaps s) dx dy h
reached s Chancellor dx dy (inl h) = straight_to (chancellor_straight s) dx dy h
reached s Chancellor dx dy (inr h) = knight_to (chancellor_leaps s) dx dy h
reached s Archbishop dx dy (inl h) = diagonal_to (archbishop_diagonal s) dx dy h
reached s Archbishop dx dy (inr h) = knight_to (archbishop_leaps s) dx dy h
reached s Amazon dx dy (inl (inl h)) = straight_to (amazon_straight s) dx dy h
reached s Amazon dx dy (inl (inr h)) = diagonal_to (amazon_diagonal s) dx dy h
reached s Amazon dx dy (inr h) = knight_to (amazon_leaps s) dx dy h
reached s Nightrider dx dy h = rider_to s dx dy h
reached s Pawn dx dy h =
    elim (abs_cases dx 0 h.0) [ inl x ↦ leap_to s Pawn 2 _ _ _ _ refl refl x h.1 | inr x ↦ leap_to s Pawn 1 _ _ _ _ refl refl x h.1 ]

-- no two rays of a kind have one step
abbrev same_way : Ray → Ray → Bool
same_way r q = cond (int_eq r.dx q.dx) (int_eq r.dy q.dy) false

abbrev is_among : Ray → List Ray → Bool
is_among r [] = false
is_among r (q ∷ rs) = cond (same_way r q) true (is_among r rs)

abbrev AreDistinct : List Ray → Type 0
AreDistinct [] = Unit {0}
AreDistinct (r ∷ rs) = (is_among r rs ≡ false) × AreDistinct rs

rays_distinct : (s : Side) (k : Kind) → AreDistinct (rays_of k s)
rays_distinct s King = (refl, (refl, (refl, (refl, (refl, (refl, (refl, (refl, tt))))))))
rays_distinct s Queen = (refl, (refl, (refl, (refl, (refl, (refl, (refl, (refl, tt))))))))
rays_distinct s Rook = (refl, (refl, (refl, (refl, tt))))
rays_distinct s Bishop = (refl, (refl, (refl, (refl, tt))))
rays_distinct s Knight = (refl, (refl, (refl, (refl, (refl, (refl, (refl, (refl, tt))))))))
rays_distinct s Chancellor = (refl, (refl, (refl, (refl, (refl, (refl, (refl, (refl, (refl, (refl, (refl, (refl, tt))))))))))))
rays_distinct s Archbishop = (refl, (refl, (refl, (refl, (refl, (refl, (refl, (refl, (refl, (refl, (refl, (refl, tt))))))))))))
rays_distinct s Amazon = (refl, (refl, (refl, (refl, (refl, (refl, (refl, (refl, (refl, (refl, (refl, (refl, (refl, (refl, (refl, (refl, tt))))))))))))))))
rays_distinct s Nightrider = (refl, (refl, (refl, (refl, (refl, (refl, (refl, (refl, tt))))))))
rays_distinct White Pawn = (refl, (refl, (refl, tt)))
rays_distinct Black Pawn = (refl, (refl, (refl, tt)))

same_steps : (r q : Ray) → r.dx ≡ q.dx → r.dy ≡ q.dy → same_way r q ≡ true
same_steps r q x y = ap (λ b. cond b (int_eq r.dy q.dy) false) ((Decides-int_eq r.dx q.dx).1 x) ∙ (Decides-int_eq r.dy q.dy).1 y

among : (q : Ray) (rs : List Ray) (n : ℕ) (r : Ray) → same_way q r ≡ true → slice_get rs n ≡ Some r → is_among q rs ≡ true
among q [] n r same is = absurd (cc)
among q (p ∷ rs) zero r same is =
    let here : r ≡ p = cc in ap (λ b. cond b true (is_among q rs)) (ap (same_way q) (sym here) ∙ same)
among q (p ∷ rs) (suc n) r same is = or_later (same_way q p) (is_among q rs) (among q rs n r same is)
  where
    or_later : (a b : Bool) → b ≡ true → cond a true b ≡ true
    or_later true b h = refl
    or_later false b h = h

not_among : (q r : Ray) (rs : List Ray) (n : ℕ) → is_among q rs ≡ false → q.dx ≡ r.dx → q.dy ≡ r.dy → slice_get rs n ≡ Some r → ⊥
not_among q r rs n off x y is = let h = among q rs n r (same_steps q r x y) is in cc

one_place : (rs : List Ray) → AreDistinct rs → (m n : ℕ) (r q : Ray) → slice_get rs m ≡ Some r → slice_get rs n ≡ Some q → r.dx ≡ q.dx → r.dy ≡ q.dy → m ≡ n
one_place [] d m n r q is there x y = absurd (cc)
one_place (p ∷ rs) d zero zero r q is there x y = refl
one_place (p ∷ rs) d zero (suc n) r q is there x y =
    let here : p ≡ r = cc in absurd (not_among p q rs n d.0 (ap (λ a. a.dx) here ∙ x) (ap (λ a. a.dy) here ∙ y) there)
one_place (p ∷ rs) d (suc m) zero r q is there x y =
    let here : p ≡ q = cc in absurd (not_among p r rs m d.0 (ap (λ a. a.dx) here ∙ sym x) (ap (λ a. a.dy) here ∙ sym y) is)
one_place (p ∷ rs) d (suc m) (suc n) r q is there x y = ap suc (one_place rs d.1 m n r q is there x y)

-- a step has one number
pub one_number : (s : Side) (k : Kind) (m n : ℕ) (r q : Ray) → ray_of k s m ≡ Some r → ray_of k s n ≡ Some q → r.dx ≡ q.dx → r.dy ≡ q.dy → m ≡ n
one_number s k m n r q is there x y = one_place (rays_of k s) (rays_distinct s k) m n r q is there x y
