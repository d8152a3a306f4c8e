-- Depth-first traversals of place numbers: those on the stack, and those that were entered.
use Rattle.std.specs.Prelude.{◌≡◌, ℕ, ◌<◌, ◌≤◌, ◌+◌, ◌-◌, ◌*◌, Bool, true, false, List, length, All, sum_by}
use Rattle.auto_merge.specs.declared.merging.Merging.{Merging}
use Rattle.auto_merge.specs.declared.walk.Trail.{Trail}
use Rattle.auto_merge.specs.Graph.{Graph}

-- this many numbers are known, and those on the stack are among them
pub record IsTrail (count : ℕ) (way : Trail) : Type 0 where
  pub size : length way.entered.items ≤ count
  pub within : All (λ number. number < count) way.numbers.items

-- 1 for a number that was entered
abbrev pub number_in : Bool → ℕ
number_in true = 1
number_in false = 0

-- the number of entered numbers
abbrev pub entered_count : List Bool → ℕ
entered_count entered = sum_by number_in entered

-- the table is extended to this many numbers; the new ones are not entered
pub record IsRoomMade (old new : List Bool) (count : ℕ) : Type 0 where
  pub room : count ≤ length new
  pub few : (bound : ℕ) → length old ≤ bound → count ≤ bound → length new ≤ bound
  pub counted : entered_count new ≡ entered_count old

-- a number is entered, and the flag says whether it is new
pub record IsEntered (old new : List Bool) (number : ℕ) (is_new : Bool) : Type 0 where
  pub few : (bound : ℕ) → length old ≤ bound → number < bound → length new ≤ bound
  pub new_counted : is_new ≡ true → entered_count new ≡ entered_count old + 1
  pub old_counted : is_new ≡ false → entered_count new ≡ entered_count old

-- a bound on the remaining steps of a traversal if at most this many numbers are entered: an entered number pushes itself and its
-- predecessor
abbrev pub steps_left : ℕ → Trail → ℕ
steps_left most way = 2 * (most - entered_count way.entered.items) + length way.numbers.items

-- at most two more numbers are on the stack, and only the second is newly entered
pub record IsTurned (number next : ℕ) (old new : Trail) : Type 0 where
  pub way : (count : ℕ) → number < count → next < count → IsTrail count old → IsTrail count new
  pub left : (count most : ℕ) → next < count → count ≤ most → IsTrail count old → steps_left most new ≤ steps_left most old

-- the numbers on the stack are numbers of places
abbrev pub IsTrailIn : {R Spot Seen Memo : Type 0} → (Seen → List (List ℕ)) → Merging R Spot Seen Memo → Trail → Type 0
IsTrailIn places m way = IsTrail (length (places m.led.seen)) way

abbrev pub steps_left_in : {Spot : Type 0} → Graph Spot → Trail → ℕ
steps_left_in g way = steps_left g.most way
