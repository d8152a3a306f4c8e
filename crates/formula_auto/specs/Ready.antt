-- What a formula needs so that each part of it can be compiled.
use Rattle.std.specs.Prelude.{◌≤◌, List, length}
use Rattle.limits.specs.declared.numbers.TheConstants.{MOST_TRACKS}
use Rattle.track_word.specs.Tracks.{with_vars}
use Rattle.track_word.specs.Atom.{IsAtom}
use Rattle.auto_core.specs.Automaton.{Automaton}
use Rattle.lin_formula.specs.Tree.{Tree, Lin, Value, Among, Not, And, Or, Ex, free_vars}
use Rattle.formula_auto.specs.Compiled.{IsSetFor}

-- well made, with a set for each name, and with few free variables at each conjunction and disjunction
abbrev pub IsReady : Tree → List Automaton → Type 0
IsReady (Lin terms rel bound) sets = IsAtom terms bound
IsReady (Value x n) sets = Unit {0}
IsReady (Among number vars) sets = IsSetFor sets number (length vars)
IsReady (Not f) sets = IsReady f sets
IsReady (And f g) sets =
    (length (with_vars (free_vars f) (free_vars g)) ≤ MOST_TRACKS) × IsReady f sets × IsReady g sets
IsReady (Or f g) sets = (length (with_vars (free_vars f) (free_vars g)) ≤ MOST_TRACKS) × IsReady f sets × IsReady g sets
IsReady (Ex x f) sets = IsReady f sets
