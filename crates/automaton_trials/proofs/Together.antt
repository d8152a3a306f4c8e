-- How many tracks two automata have together.
use Rattle.std.proofs.Common.{◌+◌, ◌≤◌, List, [], ◌∷◌, length, arith}
use Rattle.track_word.specs.declared.tracks.Var.{Var}
use Rattle.track_word.specs.Tracks.{with_vars}
use Rattle.auto_core.proofs.Inserted.{length-with_var}

most_together : (xs ys : List Var) → length (with_vars xs ys) ≤ length xs + length ys
most_together [] ys = omega arith
most_together (x ∷ xs) ys = let one = length-with_var x (with_vars xs ys) in let rest = most_together xs ys in omega (arith, one, rest)

pub few_together : (xs ys : List Var) → length xs + length ys ≤ 20 → length (with_vars xs ys) ≤ 20
few_together xs ys few = let most = most_together xs ys in omega (arith, most, few)
