-- The result of combining two parts of a formula.
use Rattle.std.specs.Prelude.{◌≤◌, ℕ, length}
use Rattle.limits.specs.declared.numbers.TheConstants.{MOST_TRACKS}
use Rattle.track_word.specs.Tracks.{with_vars}
use Rattle.auto_core.specs.Automaton.{Automaton}
use Rattle.auto_core.specs.Reduced.{AllReached}
use Rattle.auto_bool.specs.Words.{StepExceeds}
use Rattle.auto_bool.specs.declared.connective.Connective.{Connective}
use Rattle.auto_bool.specs.Operands.{operand_of}
use Rattle.formula_auto.specs.MemoState.{MemoState}
use Rattle.formula_auto.specs.MeetState.{MeetState}
use Rattle.formula_auto.specs.Nodes.{IsStepWithin}
use Rattle.formula_auto.specs.PartOf.{IsPart}
use Rattle.formula_auto.specs.declared.part_auto.PartAuto.{PartAuto}
use Rattle.formula_auto.specs.declared.part_auto.PartAuto.TheVariants.{Fresh}
use Rattle.formula_auto.specs.declared.joint.Joint.{Joint}
use Rattle.formula_auto.specs.declared.joint.Joint.TheVariants as joint

-- one of the two parts, or a new one
abbrev pub joint_part : Joint → PartAuto → PartAuto → PartAuto
joint_part (joint.Operand operand) left right = operand_of operand left right
joint_part (joint.Made auto) left right = Fresh auto

-- the result is that of the connective on two automata, within the budget; the states of a new automaton are reached
abbrev pub Joins : Connective → Automaton → Automaton → ℕ → Joint → Type 0
Joins connective a b budget (joint.Operand operand) = IsStepWithin connective a b budget (operand_of operand a b)
Joins connective a b budget (joint.Made c) = IsStepWithin connective a b budget c × AllReached c

-- the same for the automata of two parts, within the cache's budget
abbrev pub IsJointOf : Connective → MemoState → MeetState → PartAuto → PartAuto → Joint → Type 0
IsJointOf connective m l left right joint =
    (a b : Automaton) → IsPart m l left a → IsPart m l right b → Joins connective a b m.budget joint

-- their automata have few tracks together
abbrev pub FitTogether : MemoState → MeetState → PartAuto → PartAuto → Type 0
FitTogether m l left right =
    (a b : Automaton) → IsPart m l left a → IsPart m l right b → length (with_vars a.tracks b.tracks) ≤ MOST_TRACKS

-- the step on their automata exceeds the cache's budget
abbrev pub TogetherExceed : MemoState → MeetState → PartAuto → PartAuto → Type 0
TogetherExceed m l left right =
    (a b : Automaton) → IsPart m l left a → IsPart m l right b → StepExceeds a b m.budget
