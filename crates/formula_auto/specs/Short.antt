-- Short formulas without sets, whose automata are valid in any context.
use Rattle.std.specs.Prelude.{◌≡◌, ℕ, Bool, ◌&&◌, nat_eq, nat_le, [], length}
use Rattle.auto_core.specs.Automaton.{Automaton}
use Rattle.lin_formula.specs.Tree.{Tree, symbols, steps}
use Rattle.lin_formula.specs.SetOf.{SetOf}
use Rattle.formula_auto.specs.Compiled.{IsCompiledOn}
use Rattle.formula_auto.specs.MemoState.{MemoState}
use Rattle.formula_auto.specs.MeetState.{MeetState}
use Rattle.formula_auto.specs.PartOf.{IsPart}
use Rattle.formula_auto.specs.declared.part_auto.PartAuto.{PartAuto}
use Rattle.formula_auto.specs.declared.plain.TheConstants.{MOST_SHORT_STEPS}

-- names no set, and has few steps or none
abbrev pub is_short : Tree → Bool
is_short f = nat_le (length (steps f)) MOST_SHORT_STEPS && nat_eq (length (symbols f)) 0

-- a formula that names no set, and an automaton that compiling it returns, for any sets
pub record IsShort (budget : ℕ) (f : Tree) (a : Automaton) : Type 0 where
  pub no_set : symbols f ≡ []
  pub compiled : (e : ℕ → SetOf) → IsCompiledOn f e 0 budget a

-- the part has such an automaton
pub record IsShortPart (m : MemoState) (l : MeetState) (f : Tree) (part : PartAuto) : Type 0 where
  pub auto : Automaton
  pub has : IsPart m l part auto
  pub short : IsShort m.budget f auto
