-- The tuples at the distances of a ray, and which of them are in the set of an automaton.
use Rattle.std.specs.Prelude.{◌≢◌, ℕ, ℤ, pos, negsuc, ◌+ℤ◌, ◌*ℤ◌, ◌≤ℤ◌, ◌<◌, ◌≤◌, List, length, slice_index_or, slice_set, Option, MatchOption}
use Rattle.auto_core.specs.Automaton.{Automaton}
use Rattle.auto_core.specs.Integers.{IsAccepted}
use Rattle.auto_search.specs.declared.tuple_ray.TupleRay.{TupleRay}
use Rattle.auto_search.specs.declared.few.Few.{Few}
use Rattle.auto_search.specs.Fews.{HasFew}

-- what a step may add to a coordinate: -2 to 2
abbrev pub IsSlope : ℤ → Type 0
IsSlope d = (negsuc 1 ≤ℤ d) × (d ≤ℤ pos 2)

-- a ray adds at most two per step, up or down, on each of two different tracks
pub record IsTupleRay (way : TupleRay) : Type 0 where
  pub x_track : way.x_track < length way.fixed.now
  pub y_track : way.y_track < length way.fixed.now
  pub apart : way.x_track ≢ way.y_track
  pub dx : IsSlope way.dx
  pub dy : IsSlope way.dy

-- the value of a track after this many steps
abbrev pub value_after : List ℤ → ℕ → ℤ → ℕ → ℤ
value_after values track slope distance = slice_index_or values track (pos 0) +ℤ (pos distance *ℤ slope)

-- the tuple at a distance
abbrev pub tuple_at : TupleRay → ℕ → List ℤ
tuple_at way t =
    slice_set (slice_set way.fixed.now way.x_track (value_after way.fixed.now way.x_track way.dx t)) way.y_track
    (value_after way.fixed.now way.y_track way.dy t)

-- the tuple at the distance is in the set
abbrev pub IsHit : Automaton → TupleRay → ℕ → Type 0
IsHit a way t = IsAccepted a (tuple_at way t)

-- the least distance between two bounds whose tuple is in the set
pub record IsLeastHit (a : Automaton) (way : TupleRay) (near far t : ℕ) : Type 0 where
  pub from : near ≤ t
  pub to : t ≤ far
  pub hit : IsHit a way t
  pub least : (u : ℕ) → near ≤ u → IsHit a way u → t ≤ u

-- that distance, or none if there is none
abbrev pub IsLeastFound : Automaton → TupleRay → ℕ → ℕ → Option ℕ → Type 0
IsLeastFound a way near far found =
    MatchOption found ((t : ℕ) → near ≤ t → t ≤ far → IsHit a way t → ⊥) (IsLeastHit a way near far)

-- this many of all positive distances have their tuple in the set
abbrev pub HasHits : Automaton → TupleRay → Few → Type 0
HasHits a way few = HasFew few (λ t. (1 ≤ t) × IsHit a way t)
