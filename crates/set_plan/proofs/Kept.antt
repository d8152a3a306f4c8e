-- SetStore that are kept.
use Rattle.std.proofs.Common.{◌≡◌, ℕ, zero, suc, List, [], ◌∷◌, ◌++◌, Some, slice_get, sym, subst}
use Rattle.auto_core.specs.Automaton.{Automaton}
use Rattle.set_plan.specs.Sets.{Grows}

get-append : (xs ys : List Automaton) (k : ℕ) (a : Automaton) → slice_get xs k ≡ Some a → slice_get (xs ++ ys) k ≡ Some a
get-append [] ys k a e = cc
get-append (x ∷ xs) ys zero a e = e
get-append (x ∷ xs) ys (suc k) a e = get-append xs ys k a e

pub grows-append : (xs ys new : List Automaton) → new ≡ xs ++ ys → Grows xs new
grows-append xs ys new is k a e = subst (λ (l : List Automaton). slice_get l k ≡ Some a) (sym is) (get-append xs ys k a e)

pub grows-same : (xs new : List Automaton) → new ≡ xs → Grows xs new
grows-same xs new is k a e = subst (λ (l : List Automaton). slice_get l k ≡ Some a) (sym is) e
