-- The tracks of the sets of a mask. Crates above cite these lemmas.
use Rattle.std.proofs.Common.{ℕ, zero, suc, ◌*◌, ◌≤◌, Bool, List, [], ◌∷◌, ◌++◌, length, subst, arith}
use Rattle.std.proofs.lemmas.List.{length-append}
use Rattle.track_word.specs.declared.tracks.Var.{Var}
use Rattle.track_word.specs.Tracks.{IsAscending}
use Rattle.game_rules.specs.declared.men.Man.{Man}
use Rattle.lin_formula.specs.Tree.{Among, Or}
use Rattle.lin_formula.proofs.FreeVars.{free_vars-ascend, if_cases}
use Rattle.rule_formula.specs.Placed.{is_live}
use Rattle.rule_formula.specs.Seats.{own, vars_to}
use Rattle.rule_formula.specs.Trees.{tracks_of}
use Rattle.rule_formula.proofs.TracksTheorem.{tracks_twice}

-- the tracks of a mask ascend
pub tracks_ascend : (stock : List Man) (mask : ℕ) → IsAscending (tracks_of stock (is_live mask))
tracks_ascend stock mask =
    let tracks = tracks_of stock (is_live mask) in
    subst IsAscending (tracks_twice (is_live mask) (length stock) 0 1) (free_vars-ascend (Or (Among 0 tracks) (Among 1 tracks)))

-- and are two a man at most
vars_few : (live : ℕ → Bool) (n : ℕ) → length (vars_to own live n) ≤ 2 * n
vars_few live zero = omega arith
vars_few live (suc n) =
    let rest = vars_few live n in
    let more = vars_to own live n ++ (own (suc n)).x ∷ (own (suc n)).y ∷ [] in
    if_cases (live (suc n)) more (vars_to own live n) (λ (l : List Var). length l ≤ 2 * suc n)
    (λ e. let count = length-append (vars_to own live n) ((own (suc n)).x ∷ (own (suc n)).y ∷ []) in omega (arith, count, rest))
    (λ e. omega (arith, rest))

pub tracks_few : (stock : List Man) (mask : ℕ) → length stock ≤ 8 → length (tracks_of stock (is_live mask)) ≤ 20
tracks_few stock mask few = let count = vars_few (is_live mask) (length stock) in omega (arith, count, few)
