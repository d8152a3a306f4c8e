-- The visited entries of a search, stated for a course.
use Rattle.std.specs.Prelude.{◌≡◌, ℕ, ◌+◌, ◌≤◌, Bool, List, Option}
use Rattle.auto_search.specs.declared.carry.Carry.{Carry}
use Rattle.auto_search.specs.declared.course.Course.{Course}
use Rattle.auto_search.specs.declared.few.Few.{Few}
use Rattle.auto_search.specs.declared.met.VisitTable.{VisitTable}
use Rattle.auto_search.specs.Met.{Adds, Begins, Walks, HasPlace, HasSizes, SameSizes, Counting, IsEntered}
use Rattle.auto_search.specs.Search.{stepped}

-- the state after one more bit, if the bits after it may have these carries
abbrev pub IsNextState : Course → ℕ → Bool → List (Option ℕ) → Carry → Option ℕ → Type 0
IsNextState course place bit front carry state =
    carry.x ≤ course.ray.now.x.zero + course.ray.now.x.one → carry.y ≤ course.ray.now.y.zero + course.ray.now.y.one
    → state ≡ stepped course.auto.now course.ray.now place bit front carry.x carry.y

-- lists that are long enough for the course
abbrev pub HasLists : Course → VisitTable → Type 0
HasLists course met = HasSizes course.auto.now met.times.items met.states.items met.slots.items

-- the lists keep their lengths
abbrev pub KeepsLists : VisitTable → VisitTable → Type 0
KeepsLists old new =
    SameSizes old.times.items old.states.items old.slots.items new.times.items new.states.items new.slots.items

-- there is room for one more entry
abbrev pub HasRoomFor : Course → VisitTable → Type 0
HasRoomFor course met = HasPlace course.auto.now met.times.items met.states.items met.slots.items met.len

-- one more entry, if its state was visited less than twice before
abbrev pub AddsEntry : VisitTable → VisitTable → ℕ → ℕ → Type 0
AddsEntry old new state slot =
    Adds old.times.items old.states.items old.slots.items old.len new.times.items new.states.items new.slots.items
    new.len state slot

-- the starting entries of a traversal along the course, as far as they are recorded
abbrev pub BeginsAlong : Course → VisitTable → ℕ → Type 0
BeginsAlong course met now =
    Begins course.auto.now course.ray.now met.times.items met.states.items met.slots.items met.len now

-- a traversal along the course continues from one moment to another
abbrev pub WalksAlong : Course → VisitTable → VisitTable → ℕ → ℕ → ℕ → Type 0
WalksAlong course old new starts now now' =
    Walks course.auto.now course.ray.now old.times.items old.states.items old.slots.items old.len new.times.items
    new.states.items new.slots.items new.len starts starts now now'

-- each visited state is listed
abbrev pub AreListed : VisitTable → Type 0
AreListed met = IsEntered met.times.items met.states.items met.slots.items met.len

-- the entries before a given one are counted
abbrev pub HasCounted : Course → VisitTable → ℕ → ℕ → Few → Type 0
HasCounted course met starts entry few =
    Counting course.auto.now course.ray.now met.times.items met.states.items met.slots.items met.len starts entry few
