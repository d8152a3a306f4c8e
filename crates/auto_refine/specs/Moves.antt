-- States that move to new classes, and the partition after they moved.
use Rattle.std.specs.Prelude.{◌≡◌, ◌≢◌, ◌↔◌, ℕ, ◌<◌, ◌≤◌, ◌+◌, ◌-◌, ◌++◌, List, [], length, replicate, All, AllPairs, Contains, slice_get, slice_index, Some}
use Rattle.auto_refine.specs.Coarsest.{IsPartition}
use Rattle.auto_refine.specs.Listing.{AreListed, lists_of}
use Rattle.auto_refine.specs.Put.{IsPut}
use Rattle.auto_refine.specs.declared.classes.Partition.{Partition}
use Rattle.auto_refine.specs.declared.listing.Listing.{Listing}
use Rattle.auto_refine.specs.declared.moves.Moves.{Moves}

-- the node of the representative of a state's class
abbrev pub chosen_node : List ℕ → List ℕ → List ℕ → ℕ → ℕ
chosen_node classes representatives nodes state =
    slice_index nodes (slice_index representatives (slice_index classes state))

-- each state has the node of its class's representative, if neither of them is among the stale states
pub record AreSettled (classes representatives nodes stale : List ℕ) : Type 0 where
  pub at : (state : ℕ) → state < length classes → ¬ Contains stale state
      → ¬ Contains stale (slice_index representatives (slice_index classes state))
      → slice_index nodes state ≡ chosen_node classes representatives nodes state

-- the same, for the states of a partition
abbrev pub IsSettled : Partition → Listing → List ℕ → List ℕ → Type 0
IsSettled p listing nodes stale = AreSettled p.classes.items listing.representatives.items nodes stale

-- some states, and all states of a class whose representative is one of them
pub record AreCandidates (p : Partition) (representatives stale candidates : List ℕ) : Type 0 where
  pub within : All (λ state. state < length p.classes.items) candidates
  pub each : (state : ℕ) → Contains stale state → Contains candidates state
  pub led : (state : ℕ) → state < length p.classes.items
      → Contains stale (slice_index representatives (slice_index p.classes.items state)) → Contains candidates state

-- a state whose node differs from that of its class's representative
abbrev pub IsOther : List ℕ → List ℕ → List ℕ → ℕ → Type 0
IsOther classes representatives nodes state = slice_index nodes state ≢ chosen_node classes representatives nodes state

-- the number, after all classes, of the signature of a state whose node differs from that of its class's representative
pub record IsMove (classes representatives nodes : List ℕ) (count : ℕ) (signatures : List (ℕ × ℕ))
    (state number : ℕ) : Type 0 where
  pub within : state < length classes
  pub other : IsOther classes representatives nodes state
  pub least : count ≤ number
  pub is : slice_get signatures (number - count) ≡ Some (slice_index classes state, slice_index nodes state)

-- states with the numbers of their signatures, and one state of each signature
pub record AreMoves (classes representatives nodes : List ℕ) (count : ℕ) (signatures : List (ℕ × ℕ))
    (states numbers firsts : List ℕ) : Type 0 where
  pub unrepeated : AllPairs (λ p q. p ≢ q) signatures
  pub size : length numbers ≡ length states
  pub each : (turn : ℕ) → turn < length states
      → IsMove classes representatives nodes count signatures (slice_index states turn) (slice_index numbers turn)
  pub firsts_size : length firsts ≡ length signatures
  pub first : (place : ℕ) → place < length signatures
      → IsMove classes representatives nodes count signatures (slice_index firsts place) (count + place)

-- the moves that are found in a partition
abbrev pub AreFound : Partition → List ℕ → List ℕ → Moves → Type 0
AreFound p representatives nodes m =
    AreMoves p.classes.items representatives nodes p.count m.signatures m.states.items m.numbers.items m.firsts.items

-- states that moved before still move
abbrev pub KeepsMoves : Moves → Moves → Type 0
KeepsMoves old new = (state : ℕ) → Contains old.states.items state → Contains new.states.items state

-- a state moves if its node differs from that of its class's representative
abbrev pub MovesIfOther : Partition → Listing → List ℕ → Moves → ℕ → Type 0
MovesIfOther p listing nodes m state =
    IsOther p.classes.items listing.representatives.items nodes state → Contains m.states.items state

-- each of some states moves if so
abbrev pub MovesOthers : Partition → Listing → List ℕ → Moves → List ℕ → Type 0
MovesOthers p listing nodes m states = (state : ℕ) → Contains states state → MovesIfOther p listing nodes m state

-- the number of classes of a partition after the moves
abbrev pub count_with : Partition → Moves → ℕ
count_with p m = p.count + length m.firsts.items

-- the moves applied to a partition and its lists: each signature is a class, with one of its states as representative
pub record AreMoved (m : Moves) (old new : Partition) (was listing : Listing) : Type 0 where
  pub classes : IsPut old.classes.items m.states.items m.numbers.items new.classes.items
  pub count : new.count ≡ count_with old m
  pub representatives : listing.representatives.items ≡ was.representatives.items ++ m.firsts.items
  pub lists : AreListed (lists_of was.lists.items ++ replicate (length m.firsts.items) []) m.states.items
      m.numbers.items (lists_of listing.lists.items)

-- no class is lost, and some are added if some states moved
pub record CountGrows (old new : Partition) (moved : List ℕ) : Type 0 where
  pub kept : old.count ≤ new.count
  pub grown : 0 < length moved → old.count < new.count

-- the other states keep their classes
pub record KeepsOthers (old new : Partition) (moved : List ℕ) : Type 0 where
  pub kept : (state : ℕ) → state < length old.classes.items → ¬ Contains moved state
      → slice_index new.classes.items state ≡ slice_index old.classes.items state

-- states of one class were in one class before
pub record IsFiner (old new : List ℕ) : Type 0 where
  pub same : (j k : ℕ) → j < length new → k < length new → slice_index new j ≡ slice_index new k
      → slice_index old j ≡ slice_index old k

-- states are in one class if and only if they were in one class before and have one node
pub record IsSplit (current nodes classes : List ℕ) (count : ℕ) : Type 0 where
  pub partition : IsPartition (length current) classes count
  pub same : (j k : ℕ) → j < length current → k < length current
      → (slice_index classes j ≡ slice_index classes k)
      ↔ ((slice_index current j ≡ slice_index current k) × (slice_index nodes j ≡ slice_index nodes k))

-- a partition is split by nodes
abbrev pub WasSplit : Partition → List ℕ → Partition → Type 0
WasSplit old nodes new = IsSplit old.classes.items nodes new.classes.items new.count
