-- A set of positions as automata, one for each mask of live men.
use Rattle.std.specs.Prelude.{◌≡◌, ℕ, ◌≤◌, ◌==◌, if◌then◌else◌, List, [], ◌∷◌, length, Option, Some, None, IsSomeAnd}
use Rattle.auto_core.specs.Automaton.{Automaton}
use Rattle.auto_core.specs.Integers.{DecidesIntegers, IsAccepted}
use Rattle.game_rules.specs.Game.{Position}
use Rattle.mask_sets.specs.Stock.{mask_of}
use Rattle.mask_sets.specs.Tuple.{tuple_of}

-- the automaton of a mask, if the list has one for it
abbrev pub set_of : List ℕ → List Automaton → ℕ → Option Automaton
set_of [] sets mask = None
set_of (m ∷ masks) [] mask = None
set_of (m ∷ masks) (a ∷ sets) mask = if m == mask then Some a else set_of masks sets mask

-- masks with their automata
pub record Table : Type 0 where
  pub masks : List ℕ
  pub sets : List Automaton

abbrev pub set_at : Table → ℕ → Option Automaton
set_at t mask = set_of t.masks t.sets mask

-- the coordinates of the position are in the set of its own mask
abbrev pub IsIn : Table → Position → Type 0
IsIn t q = IsSomeAnd (set_at t (mask_of q)) (λ a. IsAccepted a (tuple_of q))

-- the automaton decides a set of integer tuples, with as many tracks as the position has coordinates
pub record IsSetFor (q : Position) (a : Automaton) : Type 0 where
  pub integers : DecidesIntegers a
  pub count : length (tuple_of q) ≡ length a.tracks

-- the automaton of the position's own mask, if there is one, is of that kind
abbrev pub IsAskable : Table → Position → Type 0
IsAskable t q = (a : Automaton) → set_at t (mask_of q) ≡ Some a → IsSetFor q a

-- no automaton has more states than this
abbrev pub HaveAtMost : ℕ → Table → Type 0
HaveAtMost most t = (mask : ℕ) (a : Automaton) → set_at t mask ≡ Some a → length a.accept ≤ most
