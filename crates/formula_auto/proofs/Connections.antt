-- Two formulas put together.
use Rattle.std.proofs.Common.{◌≡◌, ℕ, ◌+◌, ◌≤◌, List, [], ◌∷◌, ◌++◌, length, refl}
use Rattle.limits.specs.declared.numbers.TheConstants.{MOST_TRACKS}
use Rattle.track_word.specs.Tracks.{with_vars}
use Rattle.auto_core.specs.Automaton.{Automaton}
use Rattle.lin_formula.specs.Tree as tree
use Rattle.lin_formula.specs.Tree.{Tree, steps, free_vars}
use Rattle.formula_auto.specs.Connected.{connect}
use Rattle.formula_auto.specs.Ready.{IsReady}
use Rattle.auto_bool.specs.declared.connective.Connective.{Connective}
use Rattle.auto_bool.specs.declared.connective.Connective.TheVariants.{And, Or, AndNot}
use Rattle.formula_auto.proofs.PlainLemmas.{both_fit}

pub steps-connect : (connective : Connective) (f g : Tree) → steps (connect connective f g) ≡ steps f ++ steps g ++ connect connective f g ∷ []
steps-connect And f g = refl
steps-connect Or f g = refl
steps-connect AndNot f g = refl

pub size-connect : (connective : Connective) (f g : Tree) → length (steps (connect connective f g)) ≡ length (steps f) + length (steps g) + 1
size-connect And f g = both_fit f g (tree.And f g)
size-connect Or f g = both_fit f g (tree.Or f g)
size-connect AndNot f g = both_fit f g (tree.And f (tree.Not g))

pub ready-connect : (connective : Connective) (f g : Tree) (sets : List Automaton) → IsReady (connect connective f g) sets
    → (length (with_vars (free_vars f) (free_vars g)) ≤ MOST_TRACKS) × IsReady f sets × IsReady g sets
ready-connect And f g sets ready = ready
ready-connect Or f g sets ready = ready
ready-connect AndNot f g sets ready = ready

-- how many formulas with parts there are in a formula
abbrev pub nodes : Tree → ℕ
nodes (tree.Not f) = nodes f + 1
nodes (tree.And f g) = nodes f + nodes g + 1
nodes (tree.Or f g) = nodes f + nodes g + 1
nodes (tree.Ex x f) = nodes f + 1
nodes _ = 0
