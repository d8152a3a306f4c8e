-- What is said of a set and of its automaton depends on the set alone: where it repeats, and the steps by which periods are tried.
use Rattle.std.proofs.Common.{◌≡◌, ◌↔◌, ℕ, zero, suc, ◌+◌, List, [], ◌∷◌, Option, Some, None, inl, inr, pos, ℤ}
use Rattle.auto_core.specs.Automaton.{Automaton}
use Rattle.auto_core.specs.Integers.{IsAccepted}
use Rattle.auto_numbers.specs.Numbers.{Has}
use Rattle.formula_auto.specs.Step.{FirstOver}
use Rattle.lin_formula.specs.Holds.{Sets}
use Rattle.lin_formula.specs.Tree.{Tree}
use Rattle.period_sets.specs.Description.{HasNoPeriod, HasTooMany, IsFound, IsTooFar}
use Rattle.period_sets.specs.Period.{AreRests, AreRuns, HasMoreRuns, IsFirstRun, IsLeastPeriod, IsLeastStart, IsPeriod, IsPeriodic, Repeats}
use Rattle.period_sets.specs.Question.{IsFirstPast, StaysWithin, named, questions}
use Rattle.period_sets.specs.declared.periodic.TheConstants.{MOST_PERIOD, MOST_RUNS}
use Rattle.period_sets.specs.declared.periodic.Periodic.{Periodic}
use Rattle.period_sets.specs.declared.periodic.Run.{Run}
use Rattle.period_sets.specs.declared.periodic.PeriodStart.{PeriodStart}
use Rattle.set_plan.proofs.SameSets.{Exceeds-same}
use Rattle.desk_describe.specs.Description.{IsDescription}
use Rattle.desk_describe.specs.declared.description.Description.{Description}
use Rattle.desk_describe.specs.declared.description.Description.TheVariants as tells

abbrev SameNumbers : (ℕ → Type 0) → (ℕ → Type 0) → Type 0
SameNumbers S T = (t : ℕ) → S t ↔ T t

back : {S T : ℕ → Type 0} → SameNumbers S T → SameNumbers T S
back same t = ((same t).1, (same t).0)

module _ {S T : ℕ → Type 0} (same : SameNumbers S T) where
  repeats_alike : (q from : ℕ) → Repeats S q from → Repeats T q from
  repeats_alike q from h = λ t le. let r = h t le in (λ x. (same (t + q)).0 (r.0 ((same t).1 x)), λ y. (same t).0 (r.1 ((same (t + q)).1 y)))

  period_alike : (q : ℕ) → IsPeriod S q → IsPeriod T q
  period_alike q h = record { some = h.some; from = h.from; positive = h.positive; repeats = repeats_alike q h.from h.repeats }

  run_alike : (from end : ℕ) (run : Run) → IsFirstRun S from end run → IsFirstRun T from end run
  run_alike from end run h = record {
    first = h.first;
    order = h.order;
    below = h.below;
    before = λ t le lt is. h.before t le lt ((same t).1 is);
    inside = λ t le more. (same t).0 (h.inside t le more);
    after = λ lt is. h.after lt ((same (run.high + 1)).1 is);
  }

  runs_alike : (from end : ℕ) (runs : List Run) → AreRuns S from end runs → AreRuns T from end runs
  runs_alike from end [] h = λ t le lt is. h t le lt ((same t).1 is)
  runs_alike from end (run ∷ runs) h = (run_alike from end run h.0, runs_alike (run.high + 1) end runs h.1)

  more_alike : (from end most : ℕ) → HasMoreRuns S from end most → HasMoreRuns T from end most
  more_alike from end most h = record { stop = h.stop; within = h.within; runs = h.runs; are = runs_alike from h.stop h.runs h.are; many = h.many }

  rests_alike : (from q rests : ℕ) → AreRests S from q rests → AreRests T from q rests
  rests_alike from q rests h = record { small = h.small; tells = λ t le. let r = h.tells t le in (λ x. r.0 ((same t).1 x), λ y. (same t).0 (r.1 y)) }

module _ {S T : ℕ → Type 0} (same : SameNumbers S T) where
  least_period_alike : (q : ℕ) → IsLeastPeriod S q → IsLeastPeriod T q
  least_period_alike q h = record { is = period_alike same q h.is; small = h.small; least = λ r is. h.least r (period_alike (back same) r is) }

  least_start_alike : (q from : ℕ) → IsLeastStart S q from → IsLeastStart T q from
  least_start_alike q from h = record {
    positive = h.positive;
    repeats = repeats_alike same q from h.repeats;
    least = λ m some is. h.least m some (repeats_alike (back same) q m is);
  }

  periodic_alike : (p : Periodic) → IsPeriodic S p → IsPeriodic T p
  periodic_alike p h = record {
    period = least_period_alike p.period h.period;
    from = least_start_alike p.period p.from h.from;
    near = h.near;
    runs = (runs_alike same 1 p.from p.runs.items h.runs.0, h.runs.1);
    rests = rests_alike same p.from p.period p.rests h.rests;
  }

-- the first step past a budget is that of sets that are the same
over_alike : (d e : Sets) → ((k : ℕ) (tuple : List ℤ) → d k tuple ↔ e k tuple) → (xs : List Tree) (budget from : ℕ) (answer : Option ℕ)
    → FirstOver xs d budget from answer → FirstOver xs e budget from answer
over_alike d e same [] budget from answer h = h
over_alike d e same (x ∷ xs) budget from answer (inl (over, is)) = inl (Exceeds-same d e same x budget over, is)
over_alike d e same (x ∷ xs) budget from answer (inr (within, rest)) = inr (
  λ over. within (Exceeds-same e d (λ k tuple. ((same k tuple).1, (same k tuple).0)) x budget over),
  over_alike d e same xs budget (from + 1) answer rest,
)

module _ {a b : Automaton} (same : (tuple : List ℤ) → IsAccepted a tuple ↔ IsAccepted b tuple) where
  numbers : SameNumbers (Has a) (Has b)
  numbers t = same (pos t ∷ [])

  sets : (k : ℕ) (tuple : List ℤ) → named a k tuple ↔ named b k tuple
  sets zero tuple = same tuple
  sets (suc k) tuple = (λ h. h, λ h. h)

  module _ (budget : ℕ) where
    stays_alike : (last : ℕ) → StaysWithin a budget last → StaysWithin b budget last
    stays_alike last h = over_alike (named a) (named b) sets (questions last) budget 1 None h

    pub first_past_alike : (step : ℕ) → IsFirstPast (Has a) a budget step → IsFirstPast (Has b) b budget step
    first_past_alike step h = record {
      last = h.last;
      few = h.few;
      none = λ q less is. h.none q less (period_alike (back numbers) q is);
      past = over_alike (named a) (named b) sets (questions h.last) budget 1 (Some step) h.past;
    }

    no_period_alike : HasNoPeriod (Has a) a budget → HasNoPeriod (Has b) b budget
    no_period_alike h = record { none = λ q le is. h.none q le (period_alike (back numbers) q is); within = stays_alike MOST_PERIOD h.within }

    too_far_alike : IsTooFar (Has a) a budget → IsTooFar (Has b) b budget
    too_far_alike h = record {
      period = h.period;
      is_least = least_period_alike numbers h.period h.is_least;
      far = λ from some is. h.far from some (repeats_alike (back numbers) h.period from is);
      within = stays_alike h.period h.within;
    }

    found_alike : (start : PeriodStart) → IsFound (Has a) a budget start → IsFound (Has b) b budget start
    found_alike start h = record {
      period = least_period_alike numbers start.period h.period;
      from = least_start_alike numbers start.period start.from h.from;
      near = h.near;
      within = stays_alike start.period h.within;
    }

    too_many_alike : HasTooMany (Has a) a budget → HasTooMany (Has b) b budget
    too_many_alike h = record { start = h.start; found = found_alike h.start h.found; many = more_alike numbers 1 h.start.from MOST_RUNS h.many }

    pub description_alike : (description : Description) → IsDescription a budget description → IsDescription b budget description
    description_alike (tells.Repeats p) h = (periodic_alike numbers p h.0, stays_alike p.period h.1)
    description_alike tells.NoPeriod h = no_period_alike h
    description_alike tells.Far h = too_far_alike h
    description_alike tells.Many h = too_many_alike h
