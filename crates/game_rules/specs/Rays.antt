-- The table of rays: the directions in which the men of each kind go, in a fixed order.
use Rattle.std.specs.Prelude.{◌≡◌, ℕ, zero, suc, ◌≤◌, Bool, true, false, List, [], ◌∷◌, ◌++◌, ℤ, pos, negsuc, Option, slice_get}
use Rattle.game_rules.specs.Game.{forward, after_steps}
use Rattle.game_rules.specs.declared.men.Kind.{Kind}
use Rattle.game_rules.specs.declared.men.Kind.TheVariants.{King, Queen, Rook, Bishop, Knight, Pawn, Chancellor, Archbishop, Amazon, Nightrider}
use Rattle.game_rules.specs.declared.men.Side.{Side}
use Rattle.game_rules.specs.declared.men.Square.{Square}
use Rattle.game_rules.specs.declared.men.Ray.{Ray}

abbrev pub leap : ℤ → ℤ → Ray
leap dx dy = record { dx = dx; dy = dy; far = false }

abbrev pub slide : ℤ → ℤ → Ray
slide dx dy = record { dx = dx; dy = dy; far = true }

abbrev pub straight_rays : List Ray
straight_rays =
    slide (pos 1) (pos 0) ∷ slide (pos 0) (pos 1) ∷ slide (negsuc 0) (pos 0) ∷ slide (pos 0) (negsuc 0) ∷ []

abbrev pub diagonal_rays : List Ray
diagonal_rays =
    slide (pos 1) (pos 1) ∷ slide (negsuc 0) (pos 1) ∷ slide (negsuc 0) (negsuc 0) ∷ slide (pos 1) (negsuc 0) ∷ []

abbrev pub all_round_rays : List Ray
all_round_rays =
    slide (pos 1) (pos 0) ∷ slide (pos 1) (pos 1) ∷ slide (pos 0) (pos 1) ∷ slide (negsuc 0) (pos 1)
    ∷ slide (negsuc 0) (pos 0) ∷ slide (negsuc 0) (negsuc 0) ∷ slide (pos 0) (negsuc 0) ∷ slide (pos 1) (negsuc 0) ∷ []

abbrev pub leap_rays : List Ray
leap_rays =
    leap (pos 2) (pos 1) ∷ leap (pos 1) (pos 2) ∷ leap (negsuc 0) (pos 2) ∷ leap (negsuc 1) (pos 1)
    ∷ leap (negsuc 1) (negsuc 0) ∷ leap (negsuc 0) (negsuc 1) ∷ leap (pos 1) (negsuc 1) ∷ leap (pos 2) (negsuc 0) ∷ []

-- the rays of a kind; only those of pawns depend on the side
abbrev pub rays_of : Kind → Side → List Ray
rays_of King s =
    leap (pos 1) (pos 0) ∷ leap (pos 1) (pos 1) ∷ leap (pos 0) (pos 1) ∷ leap (negsuc 0) (pos 1)
    ∷ leap (negsuc 0) (pos 0) ∷ leap (negsuc 0) (negsuc 0) ∷ leap (pos 0) (negsuc 0) ∷ leap (pos 1) (negsuc 0) ∷ []
rays_of Queen s = all_round_rays
rays_of Rook s = straight_rays
rays_of Bishop s = diagonal_rays
rays_of Knight s = leap_rays
rays_of Pawn s = leap (pos 0) (forward s) ∷ leap (negsuc 0) (forward s) ∷ leap (pos 1) (forward s) ∷ []
rays_of Chancellor s = straight_rays ++ leap_rays
rays_of Archbishop s = diagonal_rays ++ leap_rays
rays_of Amazon s = all_round_rays ++ leap_rays
rays_of Nightrider s =
    slide (pos 2) (pos 1) ∷ slide (pos 1) (pos 2) ∷ slide (negsuc 0) (pos 2) ∷ slide (negsuc 1) (pos 1)
    ∷ slide (negsuc 1) (negsuc 0) ∷ slide (negsuc 0) (negsuc 1) ∷ slide (pos 1) (negsuc 1) ∷ slide (pos 2) (negsuc 0) ∷ []

-- ray number n of a kind, counted from 0
abbrev pub ray_of : Kind → Side → ℕ → Option Ray
ray_of kind side n = slice_get (rays_of kind side) n

-- the ray serves moves onto an empty square; of a pawn's three rays only the first does
abbrev pub serves_moves : Kind → ℕ → Bool
serves_moves Pawn zero = true
serves_moves Pawn (suc n) = false
serves_moves _ n = true

-- the ray serves captures, and the man bears along it; of a pawn's three rays all but the first do
abbrev pub serves_captures : Kind → ℕ → Bool
serves_captures Pawn zero = false
serves_captures Pawn (suc n) = true
serves_captures _ n = true

-- k steps along the ray go from a to b; only a far ray allows more than one step
pub record IsAt (r : Ray) (k : ℕ) (a b : Square) : Type 0 where
  pub begun : 1 ≤ k
  pub one : r.far ≡ false → k ≡ 1
  pub leads : b ≡ after_steps a k r.dx r.dy

-- some number of steps along the ray goes from a to b
abbrev pub IsAlong : Ray → Square → Square → Type 0
IsAlong r a b = (k : ℕ) × IsAt r k a b
