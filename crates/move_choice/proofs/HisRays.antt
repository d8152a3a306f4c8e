-- Whether a man may move along a ray of this number.
use Rattle.std.proofs.Common.{◌≡◌, ◌≢◌, ◌↔◌, ℕ, Bool, false, IsTrue, Option, Some, None, sym, subst, ◌∙◌}
use Rattle.std.specs.Prelude.{IsSomeAnd, is_some}
use Rattle.std.proofs.lemmas.Option.{same_Some}
use Rattle.game_rules.specs.Game.{Position, man_at}
use Rattle.game_rules.specs.Rays.{ray_of}
use Rattle.game_rules.specs.declared.men.Man.{Man}
use Rattle.game_rules.specs.declared.men.Place.TheVariants.{Gone}
use Rattle.game_rules.specs.declared.men.Ray.{Ray}
use Rattle.move_choice.specs.Aims.{HasRay, IsLiveOf, IsMover}
use Rattle.move_choice.proofs.Picks.{mover_at}
use Rattle.move_choice.proofs.Tuples.{stands_live}

-- whether a man has a ray of this number
module _ (p : Position) (man number : ℕ) (him : Man) (is : man_at p man ≡ Some him) where
  same_mover : {r : Ray} (mover : IsMover p man number r) → mover.man ≡ him
  same_mover mover = same_Some mover.man him (sym mover.is_man ∙ is)

  moves_on : HasRay p man number → IsLiveOf p.turn him
  moves_on ray =
      let mover = ray.1 in
      let same : mover.man ≡ him = same_mover mover in
      (subst (λ m. m.side ≡ p.turn) same mover.turn, subst (λ m. m.place ≢ Gone) same (stands_live mover.man mover.square mover.stands))

  goes_on : (ray : HasRay p man number) → ray_of him.kind him.side number ≡ Some ray.0
  goes_on ray = subst (λ m. ray_of m.kind m.side number ≡ Some ray.0) (same_mover ray.1) ray.1.is_ray

  pub idle_ray : (IsLiveOf p.turn him → ⊥) → IsTrue false ↔ HasRay p man number
  idle_ray idle = (λ t. absurd (cc), λ ray. absurd (idle (moves_on ray)))

  pub live_ray : IsLiveOf p.turn him → (found : Option Ray) (test : Bool) → test ≡ is_some found
      → found ≡ ray_of him.kind him.side number → IsTrue test ↔ HasRay p man number
  live_ray live (Some r) test is_test is_ray =
      (λ _. (r, mover_at p man number him r is (subst (λ o. IsSomeAnd o (IsLiveOf p.turn)) (sym is) live) (sym is_ray)), λ _. is_test)
  live_ray live None test is_test is_ray = (λ t. absurd (cc), λ ray. let none : None ≡ Some ray.0 = is_ray ∙ goes_on ray in absurd (cc))
