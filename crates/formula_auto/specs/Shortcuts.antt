-- Steps whose results are known without a product.
use Rattle.std.specs.Prelude.{◌≤◌, ◌⊎◌, ℕ, length}
use Rattle.auto_core.specs.Automaton.{Automaton}
use Rattle.auto_bool.specs.declared.connective.Connective.{Connective}
use Rattle.auto_bool.specs.declared.connective.Connective.TheVariants.{And, Or, AndNot}
use Rattle.auto_bool.specs.declared.operand.Operand.{Operand}
use Rattle.auto_bool.specs.declared.operand.Operand.TheVariants.{Left}
use Rattle.auto_bool.specs.Operands.{operand_of, IsAtHand, IsNoneOf}
use Rattle.formula_auto.specs.MemoState.{MemoState}
use Rattle.formula_auto.specs.MeetState.{MeetState}
use Rattle.formula_auto.specs.Nodes.{IsStepWithin}
use Rattle.formula_auto.specs.PartOf.{IsPart, IsSamePlace}
use Rattle.formula_auto.specs.declared.part_auto.PartAuto.{PartAuto}
use Rattle.formula_auto.specs.declared.shortcut.Shortcut.{Shortcut}
use Rattle.formula_auto.specs.declared.shortcut.Shortcut.TheVariants as shortcut

-- the shortcut's result is that of the connective on two automata, within the budget: one of them, or any that accepts no word
abbrev pub Serves : Connective → Automaton → Automaton → ℕ → Shortcut → Type 0
Serves connective a b budget (shortcut.Operand operand) = IsStepWithin connective a b budget (operand_of operand a b)
Serves connective a b budget shortcut.Nothing = (n : Automaton) → IsNoneOf a n → IsStepWithin connective a b budget n

-- the same for an automaton and itself
abbrev pub with_itself : Connective → Shortcut
with_itself And = shortcut.Operand Left
with_itself Or = shortcut.Operand Left
with_itself AndNot = shortcut.Nothing

-- it is the result of the connective on the automata of two parts, within the cache's budget
abbrev pub IsShortcutOf : Connective → MemoState → MeetState → PartAuto → PartAuto → Shortcut → Type 0
IsShortcutOf connective m l left right shortcut =
    (a b : Automaton) → IsPart m l left a → IsPart m l right b → Serves connective a b m.budget shortcut

-- two parts have the same automaton and the cache's budget has room for its states; or their product equals one of them, because an
-- automaton with one state accepts all words or none
pub record IsSeen (connective : Connective) (m : MemoState) (l : MeetState) (left right : PartAuto) : Type 0 where
  pub first : Automaton
  pub second : Automaton
  pub has_first : IsPart m l left first
  pub has_second : IsPart m l right second
  pub seen :
      (IsSamePlace left right × (length first.accept ≤ m.budget))
      ⊎ ((operand : Operand) × IsAtHand first second connective m.budget operand)
