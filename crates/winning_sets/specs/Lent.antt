-- The sets that names refer to, with empty sets for `None`.
use Rattle.std.specs.Prelude.{ℕ, ◌<◌, ◌≤◌, List, [], ◌∷◌, length, Option, Some, None, ℤ, All, IfSome, slice_index_or}
use Rattle.std.specs.List.{AllZip}
use Rattle.track_word.specs.declared.tracks.Var.{Var}
use Rattle.auto_core.specs.Automaton.{Automaton}
use Rattle.auto_core.specs.Integers.{IsAccepted}
use Rattle.game_rules.specs.declared.men.Man.{Man}
use Rattle.lin_formula.specs.declared.formula.SetId.{SetId}
use Rattle.rule_formula.specs.Placed.{is_live}
use Rattle.rule_formula.specs.Trees.{tracks_of}
use Rattle.set_plan.specs.Sets.{IsSetOn}

-- the set of a name, or another one if there is no name
abbrev pub set_or : List Automaton → Automaton → Option SetId → Automaton
set_or table other None = other
set_or table other (Some id) = slice_index_or table id.0 other

-- the sets of the names, or the others for those without a name
abbrev pub sets_or : List Automaton → List Automaton → List (Option SetId) → List Automaton
sets_or table [] ids = []
sets_or table (other ∷ others) [] = []
sets_or table (other ∷ others) (id ∷ ids) = set_or table other id ∷ sets_or table others ids

-- a reduced automaton over these tracks that accepts nothing
pub record IsEmptyOn (tracks : List Var) (a : Automaton) : Type 0 where
  pub set : IsSetOn tracks a
  pub none : (tuple : List ℤ) → IsAccepted a tuple → ⊥

-- one empty set for each of the masks, over the tracks of its men
abbrev pub AreEmpties : List Man → List ℕ → List Automaton → Type 0
AreEmpties stock masks sets = AllZip (λ mask a. IsEmptyOn (tracks_of stock (is_live mask)) a) masks sets

-- at most `others` names, each of a set of a table of this size
pub record AreWithin (size others : ℕ) (ids : List (Option SetId)) : Type 0 where
  pub names : All (λ id. IfSome id (λ k. k.0 < size)) ids
  pub count : length ids ≤ others
