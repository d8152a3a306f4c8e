-- The rules as formulas on the distances of a path's legs.
use Rattle.std.specs.Prelude.{ℕ, zero, suc, Bool, true, false, ◌==◌, if◌then◌else◌, List, [], ◌∷◌, ◌++◌, map, length, ℤ, pos, negsuc, neg_ℤ, unsigned_abs}
use Rattle.game_rules.specs.declared.men.Man.{Man}
use Rattle.game_rules.specs.declared.men.Ray.{Ray}
use Rattle.game_rules.specs.declared.men.Square.{Square}
use Rattle.track_word.specs.declared.atoms.Rel.TheVariants.{Le, Eq}
use Rattle.track_word.specs.declared.tracks.Var.{Var}
use Rattle.lin_formula.specs.Tree.{Tree, Lin, Not, And}
use Rattle.rule_formula.specs.declared.opt.Bearing.{Bearing}
use Rattle.rule_formula.specs.Seats.{var}
use Rattle.rule_formula.specs.Trees.{clear, is_other, ray_at}
use Rattle.line_formula.specs.declared.gap.Gap.{Gap}
use Rattle.line_formula.specs.declared.leg.Leg.{Leg}
use Rattle.line_formula.specs.Atoms.{constant, gap_tree, sum_tree, terms}

-- the gap to the right from man a to man b
abbrev pub across : ℕ → ℕ → Gap
across a b = record { right = pos 1; up = pos 0; from = a; to = b }

-- the gap upwards from man a to man b
abbrev pub upward : ℕ → ℕ → Gap
upward a b = record { right = pos 0; up = pos 1; from = a; to = b }

-- a gap that is 0 if man b is on the line through man a along the ray
abbrev pub off_line : Ray → ℕ → ℕ → Gap
off_line r a b = record { right = r.dy; up = neg_ℤ r.dx; from = a; to = b }

abbrev pub measure_by : Bool → Ray → ℕ → ℕ → Gap
measure_by sideways r a b = record {
  right = if sideways then r.dx else pos 0;
  up = if sideways then pos 0 else r.dy;
  from = a;
  to = b;
}

-- the number of steps along the ray from man a to man b, if b is on that line: counted to the right or left if a step moves by one
-- in x, and upwards or downwards otherwise
abbrev pub measure : Ray → ℕ → ℕ → Gap
measure r a b = measure_by (unsigned_abs r.dx == 1) r a b

abbrev pub opposite : Gap → Gap
opposite g = record { right = neg_ℤ g.right; up = neg_ℤ g.up; from = g.from; to = g.to }

module _ (home : ℕ → Square) where
  -- man b is on the line through man a along the ray
  abbrev pub line : List Leg → Ray → ℕ → ℕ → Tree
  line legs r a b = gap_tree home legs (off_line r a b) Eq (pos 0)

  -- the measure from man a to man b is at least 1
  abbrev pub ahead : List Leg → Ray → ℕ → ℕ → Tree
  ahead legs r a b = gap_tree home legs (opposite (measure r a b)) Le (negsuc 0)

  -- the measure from man a to man b is at most the distance of the next leg
  abbrev pub reached : List Leg → Ray → ℕ → ℕ → Tree
  reached legs r a b =
      sum_tree (constant home (measure r a b)) ((negsuc 0, var (length legs)) ∷ terms (measure r a b) legs) Le (pos 0)

  -- man b is at this distance from man a, to the right and upwards
  abbrev pub apart_by : List Leg → ℕ → ℕ → ℤ → ℤ → Tree
  apart_by legs a b x y = And (gap_tree home legs (across a b) Eq x) (gap_tree home legs (upward a b) Eq y)

  -- man k is on the way of the next leg, its end included
  abbrev pub on_way_as : Bool → List Leg → Leg → ℕ → Tree
  on_way_as true legs leg k =
      And (And (line legs leg.ray leg.man k) (ahead legs leg.ray leg.man k)) (reached legs leg.ray leg.man k)
  on_way_as false legs leg k = apart_by (leg ∷ legs) leg.man k (pos 0) (pos 0)

  abbrev pub on_way : List Leg → Leg → ℕ → Tree
  on_way legs leg k = on_way_as leg.ray.far legs leg k

  -- man l is between man k and man g on the ray from k to g
  abbrev pub screens : List Leg → Ray → ℕ → ℕ → ℕ → Tree
  screens legs r k g l = And (And (line legs r k l) (ahead legs r k l)) (ahead legs r l g)

  -- man k attacks man g along the ray
  abbrev pub bear_as : Bool → List Leg → (ℕ → Bool) → ℕ → Ray → ℕ → ℕ → Tree
  bear_as true legs live n r k g =
      clear (And (line legs r k g) (ahead legs r k g)) (screens legs r k g) live k g n
  bear_as false legs live n r k g = apart_by legs k g r.dx r.dy

  abbrev pub bear : List Leg → (ℕ → Bool) → ℕ → Ray → ℕ → ℕ → Tree
  bear legs live n r k g = bear_as r.far legs live n r k g

  -- the first part of a move: the distance is one step, or at least one on a far ray
  abbrev pub distance_as : Bool → Var → Tree
  distance_as true t = Lin ((negsuc 0, t) ∷ []) Le (negsuc 0)
  distance_as false t = Lin ((pos 1, t) ∷ []) Eq (pos 1)

  -- of a capture: the mover reaches the square of the captured man
  abbrev pub capture_parts : List Leg → Leg → ℕ → List Tree
  capture_parts legs leg zero = []
  capture_parts legs leg (suc t) =
      gap_tree home (leg ∷ legs) (across (suc t) leg.man) Eq (pos 0)
      ∷ gap_tree home (leg ∷ legs) (upward (suc t) leg.man) Eq (pos 0) ∷ []

  -- none of the other live men among the first n is on the way
  abbrev pub clear_parts : List Leg → Leg → (ℕ → Bool) → ℕ → ℕ → List Tree
  clear_parts legs leg live t zero = []
  clear_parts legs leg live t (suc n) =
      if is_other live leg.man t (suc n) then clear_parts legs leg live t n ++ Not (on_way legs leg (suc n)) ∷ []
      else clear_parts legs leg live t n

  -- by man and by ray, he does not attack the king
  abbrev pub safe_parts : List Leg → List Man → (ℕ → Bool) → List Bearing → List Tree
  safe_parts legs men live bearings =
      map (λ b. Not (bear legs live (length men) (ray_at men b.man b.ray) b.man b.king)) bearings
