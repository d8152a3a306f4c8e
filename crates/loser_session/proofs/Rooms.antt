-- The greatest number of states so far is enough for all sets so far.
use Rattle.std.proofs.Common.{◌≡◌, inl, inr, ℕ, ◌+◌, ◌<◌, ◌≤◌, List, length, get_or, take, max, subst, arith}
use Rattle.std.specs.List.{All}
use Rattle.std.proofs.lemmas.Bool.{cases_lt}
use Rattle.std.proofs.lemmas.List.Elements.{All-more, All-weaker}
use Rattle.auto_core.specs.Automaton.{Automaton}
use Rattle.winning_sets.specs.Solve.{Solution}
use Rattle.loser_session.specs.Unwon.{sets_into}

-- a set has no more states than these
abbrev pub HasAtMost : ℕ → Automaton → Type 0
HasAtMost most a = length a.accept ≤ most

has_more : (most next : ℕ) → most ≤ next → (a : Automaton) → HasAtMost most a → HasAtMost next a
has_more most next low a h = omega (arith, low, h)

-- with one more set
pub sets_more : (sets : List Automaton) (i : ℕ) (d : Automaton) (most here next : ℕ) → i < length sets → All (HasAtMost most) (take i sets)
    → HasAtMost here (get_or sets i d) → next ≡ max most here → All (HasAtMost next) (take (i + 1) sets)
sets_more sets i d most here next within so_far one is =
    All-more (HasAtMost next) sets i d within
    (All-weaker (HasAtMost most) (HasAtMost next) (has_more most next (omega (arith, is))) (take i sets) so_far)
    (has_more here next (omega (arith, is)) (get_or sets i d) one)

-- the sets of the plies before this one
abbrev pub HaveAtMostTo : ℕ → Solution → List (List Automaton) → ℕ → Type 0
HaveAtMostTo most s plies count = (ply : ℕ) → ply < count → All (HasAtMost most) (sets_into s plies ply)

-- with one more ply
pub plies_have_more : (s : Solution) (plies : List (List Automaton)) (n most here next : ℕ) → HaveAtMostTo most s plies n
    → All (HasAtMost here) (sets_into s plies n) → next ≡ max most here → HaveAtMostTo next s plies (n + 1)
plies_have_more s plies n most here next so_far one is ply less =
    elim (cases_lt ply n) [
      | inl before ↦
          All-weaker (HasAtMost most) (HasAtMost next) (has_more most next (omega (arith, is))) (sets_into s plies ply) (so_far ply before)
      | inr last ↦
          let at : n ≡ ply = omega (arith, last, less) in
          subst (λ k. All (HasAtMost next) (sets_into s plies k)) at
          (All-weaker (HasAtMost here) (HasAtMost next) (has_more here next (omega (arith, is))) (sets_into s plies n) one)
    ]
