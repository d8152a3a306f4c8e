-- The table of rays as it is kept.
use Rattle.std.proofs.Common.{◌≡◌, ℕ, zero, suc, ◌+◌, ◌-◌, ◌<◌, ◌≤◌, ◌++◌, true, false, ℤ, List, [], ◌∷◌, length, length-append, map, refl, sym, ap, ◌∙◌, arith}
use Rattle.std.specs.Prelude.{slice_get}
use Rattle.game_rules.specs.declared.men.Kind.{Kind}
use Rattle.game_rules.specs.declared.men.Kind.TheVariants.{King, Queen, Rook, Bishop, Knight, Pawn, Chancellor, Archbishop, Amazon, Nightrider}
use Rattle.game_rules.specs.declared.men.Ray.{Ray}
use Rattle.game_rules.specs.declared.men.Side.{Side}
use Rattle.game_rules.specs.Rays.{rays_of}
use Rattle.std.specs.Option.{option_map}
use Rattle.std.proofs.lemmas.List.{length-map}
use Rattle.std.proofs.lemmas.Option.{slice_get-map}
use Rattle.game_rules.specs.Rays.{ray_of}
use Rattle.chess_game.specs.RayTable.{far_rays, near_rays, ray_by}

-- the far rays, and then the others, are the table
pub rays_are : (k : Kind) (s : Side) → rays_of k s ≡ far_rays k s ++ near_rays k s
rays_are King s = refl
rays_are Queen s = refl
rays_are Rook s = refl
rays_are Bishop s = refl
rays_are Knight s = refl
rays_are Pawn s = refl
rays_are Chancellor s = refl
rays_are Archbishop s = refl
rays_are Amazon s = refl
rays_are Nightrider s = refl

pub get_first : (rs qs : List Ray) (n : ℕ) → n < length rs → slice_get (rs ++ qs) n ≡ slice_get rs n
get_first [] qs n low = absurd (omega (arith, low))
get_first (r ∷ rs) qs zero low = refl
get_first (r ∷ rs) qs (suc n) low = get_first rs qs n (omega (arith, low))

pub get_second : (rs qs : List Ray) (n i : ℕ) → n ≡ length rs → slice_get (rs ++ qs) (n + i) ≡ slice_get qs i
get_second [] qs n i e = let none : n + i ≡ i = omega (arith, e) in ap (slice_get qs) none
get_second (q ∷ rs) qs zero i e = absurd (omega (arith, e))
get_second (q ∷ rs) qs (suc n) i e =
    let next : suc n + i ≡ suc (n + i) = omega arith in
    ap (slice_get (q ∷ (rs ++ qs))) next ∙ get_second rs qs n i (omega (arith, e))

-- how many rays a kind has
pub count_rays : (k : Kind) (s : Side) (far near : List (ℤ × ℤ)) → map (ray_by true) far ≡ far_rays k s → map (ray_by false) near ≡ near_rays k s
    → length far + length near ≡ length (rays_of k s)
count_rays k s far near is_far is_near =
    let whole : length (rays_of k s) ≡ length (far_rays k s) + length (near_rays k s) =
    ap length (rays_are k s) ∙ length-append (far_rays k s) (near_rays k s) in
    let far_count : length (far_rays k s) ≡ length far = ap length (sym is_far) ∙ length-map far (ray_by true) in
    let near_count : length (near_rays k s) ≡ length near = ap length (sym is_near) ∙ length-map near (ray_by false) in
    omega (arith, whole, far_count, near_count)

-- a ray of the table by its step
module _ (k : Kind) (s : Side) (n : ℕ) (far : List (ℤ × ℤ)) (is_far : map (ray_by true) far ≡ far_rays k s) where
  count : length (far_rays k s) ≡ length far
  count = ap length (sym is_far) ∙ length-map far (ray_by true)

  pub ray_first : n < length far → option_map (ray_by true) (slice_get far n) ≡ ray_of k s n
  ray_first low =
      sym (slice_get-map (ray_by true) far n)
      ∙ ap (λ rs. slice_get rs n) is_far
      ∙ sym (get_first (far_rays k s) (near_rays k s) n (omega (arith, low, count)))
      ∙ ap (λ rs. slice_get rs n) (sym (rays_are k s))

  pub ray_second : (near : List (ℤ × ℤ)) → map (ray_by false) near ≡ near_rays k s → length far ≤ n
      → option_map (ray_by false) (slice_get near (n - length far)) ≡ ray_of k s n
  ray_second near is_near high =
      let whole : length far + (n - length far) ≡ n = omega (arith, high) in
      sym (slice_get-map (ray_by false) near (n - length far))
      ∙ ap (λ rs. slice_get rs (n - length far)) is_near
      ∙ sym (get_second (far_rays k s) (near_rays k s) (length far) (n - length far) (sym count))
      ∙ ap (slice_get (far_rays k s ++ near_rays k s)) whole
      ∙ ap (λ rs. slice_get rs n) (sym (rays_are k s))
