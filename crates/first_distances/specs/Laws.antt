-- Uniqueness of the set of a ray, and of its error within a budget.
use Rattle.std.specs.Prelude.{◌≡◌, ◌≢◌, ◌↔◌, ℕ, List, ℤ}
use Rattle.auto_core.specs.Automaton.{Automaton}
use Rattle.auto_core.specs.Integers.{IsAccepted}
use Rattle.auto_numbers.specs.Numbers.{Has}
use Rattle.formula_auto.specs.declared.errors.CompileError.{CompileError}
use Rattle.formula_auto.specs.declared.errors.CompileError.TheVariants.{Memory}
use Rattle.game_rules.specs.Game.{Position}
use Rattle.game_rules.specs.declared.men.Side.{Side}
use Rattle.winner_session.specs.Firsts.{Firsts}
use Rattle.first_distances.specs.FirstSet.{IsFirstSet, IsRayError, RayStaysWithin}

-- the numbers in the set are the distances of first moves
abbrev pub HasFirsts : Type 0
HasFirsts =
    (winner : Side) (n : ℕ) (p : Position) (man ray : ℕ) (a : Automaton) → IsFirstSet winner n p man ray a
    → (t : ℕ) → Has a t ↔ Firsts winner n p man ray t

-- two automata of a ray accept the same tuples
abbrev pub OneFirstSet : Type 0
OneFirstSet =
    (winner : Side) (n : ℕ) (p : Position) (man ray : ℕ) (a b : Automaton) → IsFirstSet winner n p man ray a
    → IsFirstSet winner n p man ray b
    → (tuple : List ℤ) → IsAccepted a tuple ↔ IsAccepted b tuple

-- if no step exceeds the budget, the only error is out of memory
abbrev pub NoErrorWithin : Type 0
NoErrorWithin =
    (winner : Side) (n : ℕ) (p : Position) (man ray budget : ℕ) (why : CompileError)
    → RayStaysWithin winner n p man ray budget
    → IsRayError winner n p man ray budget why
    → why ≡ Memory

-- there is at most one error apart from out of memory
abbrev pub OneRayError : Type 0
OneRayError =
    (winner : Side) (n : ℕ) (p : Position) (man ray budget : ℕ) (why other : CompileError) → why ≢ Memory
    → other ≢ Memory → IsRayError winner n p man ray budget why → IsRayError winner n p man ray budget other
    → why ≡ other
