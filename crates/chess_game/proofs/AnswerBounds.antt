-- How far the squares lie where a check may be answered. Crates above cite these lemmas.
use Rattle.std.proofs.Common.{◌≡◌, ℕ, zero, suc, ◌+◌, ◌<◌, ◌≤◌, ◌*◌, ℤ, pos, ◌*ℤ◌, unsigned_abs, Bool, true, false, ap, subst, sym, ◌∙◌, refl, arith, List, [], ◌∷◌, Some, length, lit≤}
use Rattle.std.proofs.lemmas.Int.{ints, unsigned_abs-mul}
use Rattle.std.specs.Prelude.{IsSomeAnd, slice_get}
use Rattle.std.specs.List.{Any}
use Rattle.std.proofs.Math.Nat.{div-le_self}
use Rattle.std.proofs.lemmas.Option.{slice_get-get_or}
use Rattle.game_rules.specs.declared.men.Kind.{Kind}
use Rattle.game_rules.specs.declared.men.Kind.TheVariants.{King, Queen, Rook, Bishop, Knight, Pawn, Chancellor, Archbishop, Amazon, Nightrider}
use Rattle.game_rules.specs.declared.men.Ray.{Ray}
use Rattle.game_rules.specs.declared.men.Side.{Side}
use Rattle.game_rules.specs.declared.men.Side.TheVariants.{White, Black}
use Rattle.game_rules.specs.Rays.{ray_of, rays_of}
use Rattle.game_laws.specs.Answer.{steps_of, steps_to}
use Rattle.chess_game.specs.Along.{IsStepwise}
use Rattle.game_laws.proofs.TableLemmas.{ray_is}
use Rattle.game_laws.proofs.LineLemmas.{each_small}

-- a product by a small number is no more than twice as great
pub small_product : (x e : ℤ) → unsigned_abs e ≤ 2 → unsigned_abs (x *ℤ e) ≤ unsigned_abs x + unsigned_abs x
small_product x e small =
    each_small (λ e. unsigned_abs (x *ℤ e) ≤ unsigned_abs x + unsigned_abs x)
    (omega (arith, ints)) (omega (arith, ints)) (omega (arith, ints)) (omega (arith, ints)) (omega (arith, ints)) e small

pub times_abs : (steps : ℕ) (step : ℤ) → unsigned_abs (pos steps *ℤ step) ≡ steps * unsigned_abs step
times_abs steps step = unsigned_abs-mul (pos steps) step

-- the steps are bounded by the ways off the line and along it
pub steps_within : (far : Bool) (each off direct b : ℕ) → 1 ≤ b → off ≤ b → direct ≤ b → steps_to far each off direct ≤ b
steps_within false each off direct b one h k = one
steps_within true zero off direct b one h k = k
steps_within true (suc each) off direct b one h k = omega (arith, h, div-le_self off (suc each))

-- equal steps are no more than the ways to both sides
pub steps_below : (m n b : ℕ) → m ≤ b → n ≤ b → steps_of m n ≤ b
steps_below zero n b h k = k
steps_below (suc m) zero b h k = h
steps_below (suc m) (suc n) b h k = omega (arith, h)

-- and so is the way that they lead to one side
pub way_within : (n b d : ℕ) → n ≤ b → d ≤ 2 → n * d ≤ b + b
way_within n b zero h small = omega arith
way_within n b (suc zero) h small = omega (arith, h)
way_within n b (suc (suc zero)) h small = omega (arith, h)
way_within n b (suc (suc (suc d))) h small = absurd (omega (arith, small))

-- the rays of the table go by steps of a direction
pub ray_stepwise : (k : Kind) (s : Side) (n : ℕ) (r : Ray) → ray_of k s n ≡ Some r → IsStepwise r
ray_stepwise k s n r is = (ray_is s k n r is).direction

pub rays_few : (k : Kind) (s : Side) → length (rays_of k s) ≤ 16
rays_few King s = lit≤ tt
rays_few Queen s = lit≤ tt
rays_few Rook s = lit≤ tt
rays_few Bishop s = lit≤ tt
rays_few Knight s = lit≤ tt
rays_few Chancellor s = lit≤ tt
rays_few Archbishop s = lit≤ tt
rays_few Amazon s = lit≤ tt
rays_few Nightrider s = lit≤ tt
rays_few Pawn White = lit≤ tt
rays_few Pawn Black = lit≤ tt

-- of a man's rays one has a property where that of some number has it
pub some_ray : (k : Kind) (s : Side) (n : ℕ) (P : Ray → Type 0) → IsSomeAnd (ray_of k s n) P → Any P (rays_of k s)
some_ray k s n P h = some_in (rays_of k s) n P h
  where
    some_in : (rs : List Ray) (n : ℕ) (P : Ray → Type 0) → IsSomeAnd (slice_get rs n) P → Any P rs
    some_in [] n P h = absurd h
    some_in (r ∷ rs) zero P h = (zero, r, omega arith, refl, h)
    some_in (r ∷ rs) (suc n) P h = let w = some_in rs n P h in (suc w.0, w.1, omega (arith, w.2), w.3, w.4)

pub no_ray : (k : Kind) (s : Side) (P : Ray → Type 0) → ((n : ℕ) → n < 16 → IsSomeAnd (ray_of k s n) P → ⊥) → Any P (rays_of k s) → ⊥
no_ray k s P none (n, r, within, is, h) =
    none n (omega (arith, within, rays_few k s))
    (subst (λ o. IsSomeAnd o P) (sym (slice_get-get_or (rays_of k s) n r within ∙ ap (λ q. Some q) is)) h)
