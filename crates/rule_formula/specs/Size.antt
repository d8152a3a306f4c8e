-- The sizes of the formulas of the rules, and the sets that they name.
use Rattle.std.specs.Prelude.{◌≡◌, ◌⊎◌, ℕ, ◌<◌, ◌≤◌, List, length, All}
use Rattle.game_rules.specs.declared.men.Man.{Man}
use Rattle.track_word.specs.declared.tracks.Var.{Var}
use Rattle.lin_formula.specs.Tree.{IsWellMade, Tree, memberships, steps, vars_of}
use Rattle.rule_formula.specs.declared.opt.Opt.{Opt}
use Rattle.rule_formula.specs.Placed.{is_live, without}
use Rattle.rule_formula.specs.Trees.{tracks_of}

-- well made, with at most eighteen variables and fewer than a hundred steps
pub record IsModest (t : Tree) : Type 0 where
  pub well_made : IsWellMade t
  pub variables : length (vars_of t) ≤ 18
  pub steps_are_few : length (steps t) < 100

-- this set is named, with as many variables as it has tracks
pub record IsOver (s : ℕ) (tracks : List Var) (m : ℕ × List Var) : Type 0 where
  pub set : m.0 ≡ s
  pub count : length m.1 ≡ length tracks

-- only this set is named
abbrev pub NamesOnly : ℕ → List Var → Tree → Type 0
NamesOnly s tracks t = All (IsOver s tracks) (memberships t)

-- only these two sets are named
abbrev pub NamesBoth : ℕ → List Var → ℕ → List Var → Tree → Type 0
NamesBoth s tracks q others t = All (λ m. IsOver s tracks m ⊎ IsOver q others m) (memberships t)

-- only the set before a step by the option is named, over the live men, and the set after it, over those that remain live
abbrev pub NamesBeforeAndAfter : List Man → ℕ → Opt → ℕ → ℕ → Tree → Type 0
NamesBeforeAndAfter stock mask o before after t =
    NamesBoth before (tracks_of stock (is_live mask)) after (tracks_of stock (without (is_live mask) o.taken)) t
