-- The pairs of nodes that a traversal of two automata discovers.
use Rattle.std.specs.Prelude.{◌≡◌, ◌⊎◌, ℕ, ◌<◌, ◌+◌, ◌^◌, false, List, length, Some}
use Rattle.track_word.specs.Tracks.{restrict}
use Rattle.diagram_product.specs.Absorbed.{absorbed}
use Rattle.diagram_product.specs.Sided.{CanBePaired, pair_at}
use Rattle.auto_core.specs.Automaton.{first_state, next_state}
use Rattle.auto_walk.specs.Walker.{Walker, IsReached}
use Rattle.auto_bool.specs.declared.connective.Connective.TheVariants.{And}
use Rattle.auto_bool.specs.Both.{place_of_pair, final_pair}
use Rattle.auto_bool.specs.Absorbed.{absorbing_walker}
use Rattle.auto_disjoint.specs.declared.meeting.Meeting.{Meeting}
use Rattle.auto_disjoint.specs.Met.{IsMetIn}

-- the walk over the pairs of states of both, with one pair for all pairs in which a state rejects every continuation
abbrev pub walker_of : Meeting → Walker
walker_of m = absorbing_walker m.absorbing m.tracks.items m.left.now m.right.now And

-- the pair of states to which two nodes map a letter
abbrev pub states_at : Meeting → ℕ × ℕ → ℕ → ℕ × ℕ
states_at m nodes letter = pair_at m.sides m.none nodes.0 nodes.1 letter

-- the nodes can be read, and map each letter to states that a word reaches
pub record IsMet (m : Meeting) (nodes : ℕ × ℕ) : Type 0 where
  pub read : CanBePaired m.sides m.none nodes.0 nodes.1
  pub reached : (letter : ℕ) → IsReached (walker_of m) (place_of_pair (states_at m nodes letter))

abbrev pub AreMet : Meeting → List (ℕ × ℕ) → Type 0
AreMet m met = (nodes : ℕ × ℕ) → IsMetIn met nodes → IsMet m nodes

-- the nodes map each letter to the states that follow two states
pub record AreRowNodes (m : Meeting) (states nodes : ℕ × ℕ) : Type 0 where
  pub leads : (letter : ℕ) → letter < 2 ^ length m.tracks.items
      → states_at m nodes letter
      ≡ absorbed m.absorbing (next_state m.left.now states.0 (restrict m.tracks.items m.left.now.tracks letter))
      (next_state m.right.now states.1 (restrict m.tracks.items m.right.now.tracks letter))

-- the nodes map each sign letter to the states that it reaches
pub record AreFirstNodes (m : Meeting) (nodes : ℕ × ℕ) : Type 0 where
  pub leads : (letter : ℕ) → letter < 2 ^ length m.tracks.items
      → states_at m nodes letter
      ≡ absorbed m.absorbing (first_state m.left.now (restrict m.tracks.items m.left.now.tracks letter))
      (first_state m.right.now (restrict m.tracks.items m.right.now.tracks letter))

-- one of both states rejects every continuation
abbrev pub Rejects : Meeting → ℕ × ℕ → Type 0
Rejects m states = (m.absorbing.left ≡ Some states.0) ⊎ (m.absorbing.right ≡ Some states.1)

-- not both states accept, and the nodes of their rows are discovered
pub record GoesOn (m : Meeting) (met : List (ℕ × ℕ)) (states : ℕ × ℕ) : Type 0 where
  pub rejected : final_pair m.left.now m.right.now And (place_of_pair states) ≡ false
  pub nodes : ℕ × ℕ
  pub there : IsMetIn met nodes
  pub rows : AreRowNodes m states nodes

abbrev pub AreStatesSettled : Meeting → List (ℕ × ℕ) → ℕ × ℕ → Type 0
AreStatesSettled m met states = Rejects m states ⊎ GoesOn m met states

-- smaller discovered nodes map the letter to the same states
pub record HasSmaller (m : Meeting) (met : List (ℕ × ℕ)) (nodes : ℕ × ℕ) (letter : ℕ) : Type 0 where
  pub smaller : ℕ × ℕ
  pub there : IsMetIn met smaller
  pub same : states_at m smaller letter ≡ states_at m nodes letter
  pub less : smaller.0 + smaller.1 < nodes.0 + nodes.1

-- each letter leads to states that are settled, or smaller discovered nodes map it to the same states
abbrev pub AreSettled : Meeting → List (ℕ × ℕ) → ℕ × ℕ → Type 0
AreSettled m met nodes = (letter : ℕ) → AreStatesSettled m met (states_at m nodes letter) ⊎ HasSmaller m met nodes letter
