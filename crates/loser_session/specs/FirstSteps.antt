-- Whether there is a legal move; the first steps of the rays decide it.
use Rattle.std.specs.Prelude.{◌⊎◌, ℕ, IsSomeAnd}
use Rattle.std.specs.List.{Any}
use Rattle.game_rules.specs.Game.{Position, HasMove, InCheck, IsLiveAnd, Legal, Sound, after_steps, man_at}
use Rattle.game_rules.specs.Rays.{rays_of}
use Rattle.game_rules.specs.declared.men.Ray.{Ray}
use Rattle.game_rules.specs.declared.men.Square.{Square}
use Rattle.game_laws.specs.Answer.{CanGo}
use Rattle.game_laws.specs.OnRay.{IsOnRay}

-- the first square of a ray
abbrev pub first_square : Square → Ray → Square
first_square a r = after_steps a 1 r.dx r.dy

-- man i has a legal move to the first square of one of his rays
abbrev pub CanStep : Position → ℕ → Type 0
CanStep p i =
    IsSomeAnd (man_at p i) (λ m. IsLiveAnd m (λ a. Any (λ r. CanGo p i (first_square a r)) (rays_of m.kind m.side)))

-- at a sound position in which the side to move is not in check, a man with a legal move along a ray has one to its
-- first square
abbrev pub FirstStepIsFree : Type 0
FirstStepIsFree =
    (p : Position) (i : ℕ) (z : Square) (q : Position) (l : Legal p i z q)
    → Sound p
    → (InCheck p p.turn → ⊥)
    → IsLiveAnd l.step.man (λ a. (n k : ℕ) (on : IsOnRay l.step.man a z n k) → CanGo p i (first_square a on.ray))

-- a sound position has a legal move, or has none
abbrev pub MoveOrNone : Type 0
MoveOrNone = (p : Position) → Sound p → HasMove p ⊎ (HasMove p → ⊥)
