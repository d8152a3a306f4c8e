-- The meaning of the plan's sets.
use Rattle.std.specs.Prelude.{◌≡◌, ◌↔◌, ℕ, ◌+◌, ◌<◌, ◌≤◌, Bool, true, IsTrue, List, ◌∷◌, length, Option, Some, ℤ, Contains}
use Rattle.game_rules.specs.Game.{Position, Sound, Value}
use Rattle.game_rules.specs.declared.men.Side.{Side}
use Rattle.track_word.specs.Tracks.{Values, values_at}
use Rattle.lin_formula.specs.SetOf.{Member, SetOf}
use Rattle.rule_formula.specs.declared.opt.Opt.{Opt}
use Rattle.line_formula.specs.Paths.{Plays, after, options_at, turn_at}
use Rattle.set_plan.specs.Outcome.{Ends, Stops}
use Rattle.set_plan.specs.Program.{Entry, Takes}
use Rattle.set_plan.specs.declared.stop.PartStep.{PartStep}
use Rattle.line_plan.specs.Plan.{Found, distances, kept, plan, plies, reach}

-- the set has exactly the tuples of n distances at which the property is true
pub record IsSetWhere (n : ℕ) (P : Values → Type 0) (s : SetOf) : Type 0 where
  pub over : (tuple : List ℤ) → Member s tuple → (v : Values) × (values_at (distances n) v ≡ tuple)
  pub same : (v : Values) → Member s (values_at (distances n) v) ↔ P v

-- the set has the distances at which the moves of the path are legal
abbrev pub IsLine : Position → List Opt → SetOf → Type 0
IsLine p s l = IsSetWhere (length s) (Plays p s) l

-- the set has the distances at which the moves of the path are legal and the winner then mates within `moves` moves
abbrev pub IsKept : Position → Side → ℕ → List Opt → SetOf → Type 0
IsKept p winner moves s k = IsSetWhere (length s) (λ v. Plays p s v × Value winner moves (after p s v)) k

-- one step of the plan goes from a set of legal distances to one: the path has fewer than 16 moves
abbrev pub ReachIsLegal : Type 0
ReachIsLegal =
    (p : Position) (winner : Side) (s : List Opt) (o : Opt) (l : SetOf) (at : ℕ) (entries : List (Entry (Unit {0}))) (next : SetOf × ℕ)
    → Sound p → length s < 16 → Contains (options_at p s) o → IsLine p s l
    → Takes (reach p winner s o (l, at)) entries (Some next)
    → IsLine p (o ∷ s) next.0

-- the set kept after a path has the distances after which the winner mates with the moves left; path and moves left are
-- at most 16 moves
abbrev pub KeptIsWon : Type 0
KeptIsWon =
    (p : Position) (winner : Side) (moves : ℕ) (s : List Opt) (l : SetOf) (at : ℕ) (entries : List (Entry (Unit {0})))
    (found : Found) → Sound p → length s + plies (turn_at p s) winner moves ≤ 16 → IsLine p s l
    → Takes (kept p winner (plies (turn_at p s) winner moves) s (l, at)) entries (Some found)
    → found.known ≡ true → IsKept p winner moves s found.set

-- the verdict is true if and only if the winner mates within at most 7 moves
abbrev pub PlanDecides : Type 0
PlanDecides =
    (p : Position) (winner : Side) (moves : ℕ) (entries : List (Entry (Unit {0}))) (mates : Bool)
    → Sound p → moves ≤ 7 → Takes (plan p winner moves) entries (Some (Some mates))
    → IsTrue mates ↔ Value winner moves p

-- within a budget the plan has one end or stops at one step
pub record EndsOnce (p : Position) (winner : Side) (moves budget : ℕ) : Type 0 where
  pub one_end : (a b : Option Bool) → Ends (plan p winner moves) budget a → Ends (plan p winner moves) budget b → a ≡ b
  pub one_step : (x y : PartStep (Unit {0})) → Stops (plan p winner moves) budget x → Stops (plan p winner moves) budget y
      → x ≡ y
  pub not_both : (a : Option Bool) (x : PartStep (Unit {0})) → Ends (plan p winner moves) budget a
      → Stops (plan p winner moves) budget x → ⊥

abbrev pub PlanEndsOnce : Type 0
PlanEndsOnce = (p : Position) (winner : Side) (moves budget : ℕ) → EndsOnce p winner moves budget
