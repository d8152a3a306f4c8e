-- Formulas of the images of sets under changes of values.
use Rattle.std.specs.Prelude.{◌≢◌, ℕ, suc, ℤ, pos, negsuc, ◌==◌, if◌then◌else◌, List, [], ◌∷◌, map, All, AllPairs}
use Rattle.track_word.specs.declared.tracks.Var.{Var}
use Rattle.track_word.specs.declared.atoms.Rel.TheVariants.{Eq}
use Rattle.lin_formula.specs.Tree.{Tree, Lin, Among, Not, And, Ex, free_vars}
use Rattle.lin_formula.specs.Free.{IsOneOf}
use Rattle.shift_image.specs.Equations.{Equation}
use Rattle.shift_image.specs.declared.shift.ValueShift.{ValueShift}

-- the tuples of a set, with some values changed, for which none of some formulas is true
pub record Image : Type 0 where
  pub set : ℕ
  pub vars : List Var
  pub shifts : List ValueShift
  pub clear : List Tree

-- the conjunction of the formula and each of the list, nested to the left
abbrev pub and_all : Tree → List Tree → Tree
and_all f [] = f
and_all f (g ∷ gs) = and_all (And f g) gs

-- the quantification of variables, the first outermost
abbrev pub ex_all : List Var → Tree → Tree
ex_all [] f = f
ex_all (x ∷ xs) f = Ex x (ex_all xs f)

-- the new value minus the old one is the constant
abbrev pub change : ValueShift → Tree
change s = Lin ((pos 1, s.new) ∷ (negsuc 0, s.gone) ∷ []) Eq s.by

abbrev pub gone : List ValueShift → List Var
gone shifts = map (λ s. s.gone) shifts

-- a member, and the changes of its values
abbrev pub step : Image → Tree
step i = and_all (Among i.set i.vars) (map change i.shifts)

-- the formula of an image, with the old values bound
abbrev pub image_tree : Image → Tree
image_tree i = ex_all (gone i.shifts) (and_all (step i) (map Not i.clear))

-- an equivalent formula: the old values are bound before the other formulas are tested
abbrev pub moved_tree : Image → Tree
moved_tree i = ex_all (gone i.shifts) (step i)

abbrev pub part_tree : Image → Tree
part_tree i = and_all (moved_tree i) (map Not i.clear)

-- the variable that has a value after the change
abbrev pub moved_var : List ValueShift → Var → Var
moved_var [] x = x
moved_var (s ∷ shifts) x = if x.0 == s.gone.0 then s.new else moved_var shifts x

abbrev pub moved_vars : Image → List Var
moved_vars i = map (moved_var i.shifts) i.vars

-- the formula has no other free variables
abbrev pub IsAbout : List Var → Tree → Type 0
IsAbout vars g = (x : Var) → IsOneOf x (free_vars g) → IsOneOf x vars

pub record AreOtherVars (s t : ValueShift) : Type 0 where
  pub gone : s.gone ≢ t.gone
  pub new : s.new ≢ t.new

-- the old values are values of a member and the new ones are not; the other formulas are about the shifted member
pub record IsShiftable (i : Image) : Type 0 where
  pub old : All (λ s. IsOneOf s.gone i.vars) i.shifts
  pub new : All (λ s. ¬ IsOneOf s.new i.vars) i.shifts
  pub apart : AllPairs AreOtherVars i.shifts
  pub clear : All (IsAbout (moved_vars i)) i.clear

-- the new value is the old one plus the constant, as an equation with a natural number
abbrev pub equation_by : Var → Var → ℤ → Equation
equation_by new old (pos n) = record { greater = new; less = old; by = n }
equation_by new old (negsuc n) = record { greater = old; less = new; by = suc n }

abbrev pub equation_of : ValueShift → Equation
equation_of s = equation_by s.new s.gone s.by
