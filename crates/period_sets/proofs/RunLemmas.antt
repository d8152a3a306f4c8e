-- Runs one after another.
use Rattle.std.proofs.Common.{◌≡◌, ℕ, ◌+◌, ◌-◌, ◌<◌, ◌≤◌, List, [], ◌∷◌, ◌++◌, length, append_assoc, arith, inl, inr, sym, ap, ◌∙◌, subst}
use Rattle.std.proofs.lemmas.List.{append-nil}
use Rattle.period_sets.specs.declared.periodic.Run.{Run}
use Rattle.period_sets.specs.declared.errors.PeriodError.{PeriodError}
use Rattle.period_sets.specs.Period.{IsFirstRun, AreRuns, HasMoreRuns}
use Rattle.period_sets.specs.Finding.{IsFirstMember, IsRunEnd, AddsRuns, IsRunsError}

module _ (S : ℕ → Type 0) where
  -- the run between a first member and an end
  pub first-run : (from end low stop : ℕ) (run : Run) → run.low ≡ low → run.high + 1 ≡ stop → IsFirstMember S from end low → IsRunEnd S low end stop
      → IsFirstRun S from end run
  first-run from end low stop run is-low is-high first ends = record {
    first = let h = first.first in omega (arith, h, is-low);
    order = let h = ends.some in omega (arith, h, is-low, is-high);
    below = let h = ends.within in omega (arith, h, is-high);
    before = λ t past small. first.before t past (omega (arith, small, is-low));
    inside = λ t past small. ends.inside t (omega (arith, past, is-low)) (omega (arith, small, is-high));
    after = λ before. rw is-high (ends.after (rw is-high at before));
  }

  pub adds-none : (from end room : ℕ) (runs : List Run) → ((t : ℕ) → from ≤ t → t < end → ¬ S t) → AddsRuns S from end room runs runs
  adds-none from end room runs none = record { added = []; are = (none, omega arith); is = sym (append-nil runs) }

  pub adds-run : (from end room low stop : ℕ) (run : Run) (old mid new : List Run) → 1 ≤ room → run.low ≡ low → run.high + 1 ≡ stop
      → IsFirstMember S from end low → IsRunEnd S low end stop → mid ≡ old ++ run ∷ [] → AddsRuns S stop end (room - 1) mid new → AddsRuns S from end room old new
  adds-run from end room low stop run old mid new some is-low is-high first ends put adds = record {
    added = run ∷ adds.added;
    are = (
      (first-run from end low stop run is-low is-high first ends, rw is-high adds.are.0),
      (let h = adds.are.1 in omega (arith, h, some)),
    );
    is = adds.is ∙ ap (λ runs. runs ++ adds.added) put ∙ append_assoc old (run ∷ []) adds.added;
  }

  -- one run is more than none
  pub more-than-none : (from end low : ℕ) → IsFirstMember S from end low → HasMoreRuns S from end 0
  more-than-none from end low first = record {
    stop = low + 1;
    within = let h = first.below in omega (arith, h);
    runs = record { low = low; high = low } ∷ [];
    are = (
      record {
        first = first.first;
        order = omega arith;
        below = omega arith;
        before = first.before;
        inside = λ t past small. let e : low ≡ t = omega (arith, past, small) in subst S e first.member;
        after = λ before. absurd (omega (arith, before));
      },
      λ t past small. absurd (omega (arith, past, small)),
    );
    many = omega arith;
  }

  -- one run and more behind it
  pub more-behind : (from end room low stop : ℕ) (run : Run) → 1 ≤ room → run.low ≡ low → run.high + 1 ≡ stop → IsFirstMember S from end low
      → IsRunEnd S low end stop → HasMoreRuns S stop end (room - 1) → HasMoreRuns S from end room
  more-behind from end room low stop run some is-low is-high first ends more = at more.runs more.are more.many
    where
      at : (runs : List Run) → AreRuns S stop more.stop runs → room - 1 < length runs → HasMoreRuns S from end room
      at [] are many = absurd (omega (arith, many))
      at (next ∷ runs) are many = record {
        stop = more.stop;
        within = more.within;
        runs = run ∷ next ∷ runs;
        are = (here, rw is-high are);
        many = omega (arith, many, some);
      }
        where
          here : IsFirstRun S from more.stop run
          here = record {
            first = let h = first.first in omega (arith, h, is-low);
            order = let h = ends.some in omega (arith, h, is-low, is-high);
            below = let f = are.0.first in let o = are.0.order in let b = are.0.below in omega (arith, f, o, b, is-high);
            before = λ t past small. first.before t past (omega (arith, small, is-low));
            inside = λ t past small. ends.inside t (omega (arith, past, is-low)) (omega (arith, small, is-high));
            after = λ before. rw is-high (ends.after (let w = more.within in omega (arith, before, w, is-high)));
          }

  pub error-behind : (from end room low stop : ℕ) (run : Run) (why : PeriodError) → 1 ≤ room → run.low ≡ low → run.high + 1 ≡ stop → IsFirstMember S from end low
      → IsRunEnd S low end stop → IsRunsError S stop end (room - 1) why → IsRunsError S from end room why
  error-behind from end room low stop run why some is-low is-high first ends (inl more) =
      inl (more.0, more-behind from end room low stop run some is-low is-high first ends more.1)
  error-behind from end room low stop run why some is-low is-high first ends (inr memory) = inr memory
