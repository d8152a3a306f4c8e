-- Products that equal one of the two automata.
use Rattle.std.specs.Prelude.{◌≡◌, ◌⊎◌, ◌≤◌, ◌*◌, ℕ, Bool, true, false, List, length}
use Rattle.track_word.specs.Word.{IsWord}
use Rattle.track_word.specs.Tracks.{with_vars}
use Rattle.auto_core.specs.Automaton.{Automaton, Accepts, is_final}
use Rattle.auto_core.specs.Reduced.{AllReached}
use Rattle.auto_bool.specs.declared.connective.Connective.{Connective}
use Rattle.auto_bool.specs.declared.connective.Connective.TheVariants.{And, Or, AndNot}
use Rattle.auto_bool.specs.declared.operand.Operand.{Operand}
use Rattle.auto_bool.specs.declared.operand.Operand.TheVariants.{Left, Right}
use Rattle.auto_bool.specs.Sides.{AreAmong}
use Rattle.auto_bool.specs.Words.{AcceptsBy, StepExceeds}

-- the value of the operand
abbrev pub operand_of : {X : Type 0} → Operand → X → X → X
operand_of Left a b = a
operand_of Right a b = b

-- one state with this flag, which each word reaches: all words are accepted, or none
pub record IsConstant (a : Automaton) (flag : Bool) : Type 0 where
  pub single : length a.accept ≡ 1
  pub flagged : is_final a 0 ≡ flag

-- one of the two accepts all words or none, so that the connective accepts the words of the operand
abbrev pub Yields : Connective → Operand → Automaton → Automaton → Type 0
Yields And Left a b = IsConstant a false ⊎ IsConstant b true
Yields And Right a b = IsConstant b false ⊎ IsConstant a true
Yields Or Left a b = IsConstant a true ⊎ IsConstant b false
Yields Or Right a b = IsConstant b true ⊎ IsConstant a false
Yields AndNot Left a b = IsConstant a false ⊎ IsConstant b false
Yields AndNot Right a b = ⊥

-- in addition, the operand has the tracks of both, and the budget has room for all pairs of states
pub record IsAtHand (a b : Automaton) (connective : Connective) (budget : ℕ) (operand : Operand) : Type 0 where
  pub yields : Yields connective operand a b
  pub among : AreAmong (operand_of operand a b).tracks (operand_of operand b a).tracks
  pub room : length a.accept * length b.accept ≤ budget

-- the second automaton accepts no word over the tracks of the first, and has one state, which words reach
pub record IsNoneOf (a n : Automaton) : Type 0 where
  pub tracks : n.tracks ≡ a.tracks
  pub single : length n.accept ≡ 1
  pub reached : AllReached n
  pub words : (word : List ℕ) → IsWord (length n.tracks) word → ¬ Accepts n word

-- the automaton is the product of the two; neither it nor the step exceeds the budget
pub record IsProductWithin (a b : Automaton) (connective : Connective) (budget : ℕ) (m : Automaton) : Type 0 where
  pub tracks : m.tracks ≡ with_vars a.tracks b.tracks
  pub words : AcceptsBy connective a b m
  pub few : length m.accept ≤ budget
  pub within : ¬ StepExceeds a b budget

-- each automaton that accepts no word is the difference of the automaton with itself
abbrev pub IsNothingLeft : Automaton → ℕ → Type 0
IsNothingLeft a budget = (n : Automaton) → IsNoneOf a n → IsProductWithin a a AndNot budget n

-- the operand is such a product
abbrev pub IsOperand : Automaton → Automaton → Connective → ℕ → Operand → Type 0
IsOperand a b connective budget operand = IsProductWithin a b connective budget (operand_of operand a b)
