-- Formulas that say what another one says of some of their variables, and that the other variables solve equations.
use Rattle.std.specs.Prelude.{◌≡◌, ◌≢◌, ◌⊎◌, ◌↔◌, ℕ, ◌*◌, ◌≤◌, List, [], ◌∷◌}
use Rattle.track_word.specs.declared.tracks.Var.{Var}
use Rattle.track_word.specs.Tracks.{Values}
use Rattle.lin_formula.specs.Tree.{Tree, And, Ex, free_vars}
use Rattle.lin_formula.specs.Free.{IsOneOf}
use Rattle.lin_formula.specs.Holds.{Sets, Holds}
use Rattle.lin_formula.specs.SetOf.{SetOf, members}
use Rattle.formula_auto.specs.Step.{Exceeds}
use Rattle.shift_image.specs.Equations.{Equation, AreSolved, colours}
use Rattle.shift_image.specs.States.{HasMoreResiduals}

abbrev pub AreOver : List Equation → List Var → Type 0
AreOver [] vars = Unit {0}
AreOver (q ∷ qs) vars = IsOneOf q.greater vars × IsOneOf q.less vars × AreOver qs vars

-- the whole says what the part says, and that the equations are solved
pub record IsFactored (whole part : Tree) (qs : List Equation) (e : Sets) : Type 0 where
  pub part_vars : (x : Var) → IsOneOf x (free_vars part) → IsOneOf x (free_vars whole)
  pub equation_vars : AreOver qs (free_vars whole)
  pub holds : (v : Values) → Holds whole e v ↔ (Holds part e v × AreSolved qs v)

-- a conjunction with a formula needs at most a constant times as many states as that of the part with it
abbrev pub AndBound : Type 0
AndBound =
    (whole part g : Tree) (qs : List Equation) (e : ℕ → SetOf) (budget each : ℕ)
    → IsFactored whole part qs (members e) → colours qs * each ≤ budget
    → Exceeds (And whole g) (members e) budget → Exceeds (And part g) (members e) each

-- the truth of the formula depends only on whether the equations are solved
abbrev pub RestsOn : Tree → List Equation → Sets → Type 0
RestsOn g rs e = (v w : Values) → AreSolved rs v ↔ AreSolved rs w → Holds g e v → Holds g e w

-- a conjunction with equations, or with their negation, needs at most a constant times as many states as the part
abbrev pub EquationBound : Type 0
EquationBound =
    (whole part g : Tree) (qs rs : List Equation) (e : ℕ → SetOf) (budget each : ℕ)
    → IsFactored whole part qs (members e) → RestsOn g rs (members e) → colours qs * colours rs * each ≤ budget
    → Exceeds (And whole g) (members e) budget → HasMoreResiduals part (members e) each

-- the equation determines the variable
abbrev pub Settles : Var → Equation → Type 0
Settles x q = ((q.less ≡ x) × (q.greater ≢ x)) ⊎ ((q.greater ≡ x) × (q.less ≢ x))

-- after the projection of a variable that an equation determines, a formula needs at most a constant times as many states as the
-- part
abbrev pub ExBound : Type 0
ExBound =
    (x : Var) (whole part : Tree) (q : Equation) (qs : List Equation) (e : ℕ → SetOf) (budget each : ℕ)
    → IsFactored whole part (q ∷ qs) (members e) → Settles x q
    → ((y : Var) → IsOneOf y (free_vars part) → y ≢ x) → AreOver qs (free_vars (Ex x whole))
    → colours qs * each ≤ budget → Exceeds (Ex x whole) (members e) budget → HasMoreResiduals part (members e) each
