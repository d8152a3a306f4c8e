-- How the table of rays is stored: the far rays of a kind, followed by the near ones.
use Rattle.std.specs.Prelude.{ℤ, Bool, List, []}
use Rattle.game_rules.specs.Rays.{all_round_rays, diagonal_rays, leap_rays, rays_of, straight_rays}
use Rattle.game_rules.specs.declared.men.Kind.{Kind}
use Rattle.game_rules.specs.declared.men.Kind.TheVariants.{King, Queen, Rook, Bishop, Knight, Pawn, Chancellor, Archbishop, Amazon, Nightrider}
use Rattle.game_rules.specs.declared.men.Ray.{Ray}
use Rattle.game_rules.specs.declared.men.Side.{Side}

-- the ray with this step
abbrev pub ray_by : Bool → ℤ × ℤ → Ray
ray_by far step = record { dx = step.0; dy = step.1; far = far }

abbrev pub far_rays : Kind → Side → List Ray
far_rays King s = []
far_rays Queen s = all_round_rays
far_rays Rook s = straight_rays
far_rays Bishop s = diagonal_rays
far_rays Knight s = []
far_rays Pawn s = []
far_rays Chancellor s = straight_rays
far_rays Archbishop s = diagonal_rays
far_rays Amazon s = all_round_rays
far_rays Nightrider s = rays_of Nightrider s

abbrev pub near_rays : Kind → Side → List Ray
near_rays King s = rays_of King s
near_rays Queen s = []
near_rays Rook s = []
near_rays Bishop s = []
near_rays Knight s = leap_rays
near_rays Pawn s = rays_of Pawn s
near_rays Chancellor s = leap_rays
near_rays Archbishop s = leap_rays
near_rays Amazon s = leap_rays
near_rays Nightrider s = []
