-- The subformulas that are looked up in a cache.
use Rattle.std.specs.Prelude.{◌≡◌, ℕ, Bool, false, List, [], length}
use Rattle.lin_formula.specs.Tree.{Tree, Not, steps}
use Rattle.formula_auto.specs.PlainParts.{is_plain, plain_within}
use Rattle.formula_auto.specs.declared.standing.Recall.{Recall}
use Rattle.formula_auto.specs.declared.standing.Recall.TheVariants.{Plain, Nothing}
use Rattle.formula_auto.specs.declared.standing.PartPosition.{PartPosition}
use Rattle.auto_bool.specs.declared.connective.Connective.{Connective}
use Rattle.auto_bool.specs.declared.connective.Connective.TheVariants.{And, Or, AndNot}

-- the formula itself is looked up
abbrev pub is_recalled : Recall → Tree → Bool
is_recalled Plain f = is_plain f
is_recalled Nothing f = false

-- if conjunction and negation are one step, the negation is not looked up itself
abbrev pub MayBeOneStep : Recall → Connective → Tree → Type 0
MayBeOneStep recall And g = Unit {0}
MayBeOneStep recall Or g = Unit {0}
MayBeOneStep recall AndNot g = is_recalled recall (Not g) ≡ false

-- the subformulas that are looked up, of those that end within the first steps
abbrev pub recalled_within : Recall → Tree → ℕ → List Tree
recalled_within Plain f n = plain_within f n
recalled_within Nothing f n = []

-- all of them
abbrev pub recalled_parts : Recall → Tree → List Tree
recalled_parts recall f = recalled_within recall f (length (steps f))

-- the position of a whole formula
abbrev pub start : Recall → PartPosition
start recall = record { before = 0; recall = recall }
