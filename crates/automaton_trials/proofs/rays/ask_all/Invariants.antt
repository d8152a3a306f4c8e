use Rattle.std.proofs.Common.{◌≡◌}
use Rattle.automaton_trials.proofs.rays.ask_all.Given as goal

-- the search keeps its room
abbrev pub invariant-loop-turn : goal.invariant-loop-turn
invariant-loop-turn l = l.search ≡ l.initial.search
