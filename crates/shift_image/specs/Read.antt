-- Formulas parsed as images.
use Rattle.std.specs.Prelude.{◌≡◌, ◌⊎◌, ◌<◌, ℤ, pos, negsuc, List, length, map, All}
use Rattle.std.specs.Borrow.{Bor}
use Rattle.track_word.specs.declared.tracks.Var.{Var}
use Rattle.lin_formula.specs.Tree.{Tree, Among, Not}
use Rattle.lin_formula.specs.TreeOf.{tree_of}
use Rattle.lin_formula.specs.Free.{IsOneOf}
use Rattle.lin_formula.specs.declared.formula.Formula.{Formula}
use Rattle.shift_image.specs.Image.{Image, IsShiftable, and_all, change}
use Rattle.shift_image.specs.declared.shift.ValueShift.{ValueShift}
use Rattle.shift_image.specs.declared.image.Image as read
use Rattle.shift_image.specs.declared.reading.Step.{Step}

-- the borrowed formulas as trees
abbrev pub trees : List (Bor Formula) → List Tree
trees formulas = map (λ f. tree_of f.now) formulas

abbrev pub image_of : read.Image → Image
image_of i = record { set = i.set.0; vars = i.vars.now; shifts = i.shifts.items; clear = trees i.clear.items }

-- the conjunction of a formula and the negations of the others
abbrev pub with_clear : Tree → List (Bor Formula) → Tree
with_clear f clear = and_all f (map Not (trees clear))

abbrev pub step_tree : Step → Tree
step_tree s = and_all (Among s.set.0 s.vars.now) (map change s.shifts.items)

-- plus or minus one or two
abbrev pub IsNear : ℤ → Type 0
IsNear by = ((by ≡ pos 1) ⊎ (by ≡ pos 2)) ⊎ ((by ≡ negsuc 0) ⊎ (by ≡ negsuc 1))

-- one of the variables changes, by one or two, to one that is not among them
pub record Leaves (vars : List Var) (s : ValueShift) : Type 0 where
  pub old : IsOneOf s.gone vars
  pub new : ¬ IsOneOf s.new vars
  pub near : IsNear s.by

-- some values change, each by one or two, and tracks of the set can be shifted for that
pub record IsMovable (i : Image) : Type 0 where
  pub some : 0 < length i.shifts
  pub near : All (λ s. IsNear s.by) i.shifts
  pub shiftable : IsShiftable i
