-- Pairs of states in which one operand decides the connective alone, and the automaton of a product.
use Rattle.std.specs.Prelude.{◌≡◌, ℕ, ◌<◌, Bool, true, false, List, [], ◌∷◌, length, Option, Some, None}
use Rattle.track_word.specs.declared.tracks.Var.{Var}
use Rattle.track_word.specs.Tracks.{with_vars, restrict}
use Rattle.diagram_product.specs.declared.absorbing.Absorbing.{Absorbing}
use Rattle.diagram_product.specs.Absorbed.{absorbed}
use Rattle.auto_core.specs.Automaton.{Automaton, width, first_state, next_state, is_final}
use Rattle.auto_core.specs.Reduced.{AllReached}
use Rattle.auto_walk.specs.Walker.{Walker}
use Rattle.auto_bool.specs.declared.connective.Connective.{Connective}
use Rattle.auto_bool.specs.declared.connective.Connective.TheVariants.{And, Or, AndNot}
use Rattle.auto_bool.specs.Both.{place_of_pair, final_pair}
use Rattle.auto_bool.specs.Words.{AcceptsBy}

-- the flag at which the left operand decides alone
abbrev pub left_deciding : Connective → Bool
left_deciding And = false
left_deciding Or = true
left_deciding AndNot = false

-- the flag at which the right operand decides alone
abbrev pub right_deciding : Connective → Bool
right_deciding And = false
right_deciding Or = true
right_deciding AndNot = true

-- an absorbing state with this flag: each letter leads from it to itself
pub record IsSink (a : Automaton) (flag : Bool) (state : ℕ) : Type 0 where
  pub known : state < length a.accept
  pub accepts : is_final a state ≡ flag
  pub stays : (letter : ℕ) → letter < width a → next_state a state letter ≡ state

-- the first absorbing state with a flag, if there is one
abbrev pub IsFirstSink : Automaton → Bool → Option ℕ → Type 0
IsFirstSink a flag None = (state : ℕ) → ¬ IsSink a flag state
IsFirstSink a flag (Some first) = IsSink a flag first × ((state : ℕ) → state < first → ¬ IsSink a flag state)

-- the absorbing values are absorbing states at which their operand decides alone
pub record AreSinks (a b : Automaton) (connective : Connective) (absorbing : Absorbing) : Type 0 where
  pub left : (state : ℕ) → absorbing.left ≡ Some state → IsSink a (left_deciding connective) state
  pub right : (state : ℕ) → absorbing.right ≡ Some state → IsSink b (right_deciding connective) state

-- the absorbing value of each operand is its first such state, if there is one
pub record AreFirstSinks (a b : Automaton) (connective : Connective) (absorbing : Absorbing) : Type 0 where
  pub left : IsFirstSink a (left_deciding connective) absorbing.left
  pub right : IsFirstSink b (right_deciding connective) absorbing.right

-- the pair of states that represents the next pair after a further letter
abbrev pub next_absorbed : Absorbing → Automaton → Automaton → List Var → List ℕ → ℕ → List ℕ
next_absorbed absorbing a b tracks (left ∷ right ∷ []) letter =
    place_of_pair
    (absorbed absorbing (next_state a left (restrict tracks a.tracks letter))
    (next_state b right (restrict tracks b.tracks letter)))
next_absorbed absorbing a b tracks _ letter = []

-- the walk over pairs of states, over the given tracks, with one pair for all pairs with an absorbing state
abbrev pub absorbing_walker : Absorbing → List Var → Automaton → Automaton → Connective → Walker
absorbing_walker absorbing tracks a b connective = record {
  tracks = tracks;
  first =
      λ letter. place_of_pair
      (absorbed absorbing (first_state a (restrict tracks a.tracks letter))
      (first_state b (restrict tracks b.tracks letter)));
  next = next_absorbed absorbing a b tracks;
  final = final_pair a b connective;
}

-- an automaton, all of whose states are reached, that accepts by the connective
pub record IsProduct (a b : Automaton) (connective : Connective) (m : Automaton) : Type 0 where
  pub tracks : m.tracks ≡ with_vars a.tracks b.tracks
  pub words : AcceptsBy connective a b m
  pub reached : AllReached m
