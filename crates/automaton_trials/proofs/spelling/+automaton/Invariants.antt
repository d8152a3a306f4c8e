use Rattle.std.proofs.Common.{◌+◌, ◌*◌}
use Rattle.automaton_trials.proofs.spelling.+automaton.Given as goal

-- the depth that is left, and how far the functions are from the next automaton at that depth
abbrev pub decreases-automaton : goal.decreases-automaton
decreases-automaton l = 2 * l.depth

abbrev pub decreases-both : goal.decreases-both
decreases-both l = 2 * l.depth + 1

abbrev pub decreases-projected : goal.decreases-projected
decreases-projected l = 2 * l.depth + 1
