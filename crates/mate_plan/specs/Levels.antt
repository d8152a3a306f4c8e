-- Levels as lists of names of stored sets.
use Rattle.std.specs.Prelude.{◌≡◌, ◌==◌, if◌then◌else◌, ℕ, List, [], ◌∷◌, length, map, drop, Option, None}
use Rattle.auto_core.specs.Automaton.{Automaton}
use Rattle.game_rules.specs.Game.{Position}
use Rattle.game_rules.specs.declared.men.Man.{Man}
use Rattle.lin_formula.specs.declared.formula.SetId.{SetId}
use Rattle.rule_formula.specs.Fits.{masks_of}
use Rattle.rule_formula.specs.Placed.{is_live}
use Rattle.rule_formula.specs.Trees.{tracks_of}
use Rattle.set_plan.specs.Sets.{IsNameOn, set_at}
use Rattle.mate_plan.specs.Plan.{Level, level_with, no_sets}

-- the names of the sets of a level, one for each mask; None means that the set is empty
abbrev pub Names : Type 0
Names = List (Option SetId)

-- this name for one mask of the position, and no name for the others
abbrev pub one_name : Position → ℕ → Option SetId → Names
one_name p mask name = map (λ m. if m == mask then name else None) (masks_of p)

-- a level, with the sets of these names for the masks
abbrev pub level_from : List Automaton → Level → List ℕ → List (Option SetId) → Level
level_from sets level [] ids = level
level_from sets level (mask ∷ masks) [] = level
level_from sets level (mask ∷ masks) (id ∷ ids) = level_from sets (level_with level mask (set_at sets id)) masks ids

-- the sets of these names for the masks
abbrev pub level_of : List Automaton → List ℕ → List (Option SetId) → Level
level_of sets masks ids = level_from sets no_sets masks ids

-- one name for each mask, None or that of a set over the tracks of the mask's men
abbrev pub AreNames : List Man → List Automaton → List ℕ → List (Option SetId) → Type 0
AreNames stock sets [] [] = Unit {0}
AreNames stock sets [] (id ∷ ids) = ⊥
AreNames stock sets (mask ∷ masks) [] = ⊥
AreNames stock sets (mask ∷ masks) (id ∷ ids) =
    IsNameOn (tracks_of stock (is_live mask)) sets id × AreNames stock sets masks ids

-- the level of these names, one for each mask of the position
abbrev pub level_in : Position → List Automaton → List (Option SetId) → Level
level_in p sets ids = level_of sets (masks_of p) ids

-- one name for each mask of the position
abbrev pub AreNamesIn : Position → List Automaton → List (Option SetId) → Type 0
AreNamesIn p sets ids = AreNames p.men sets (masks_of p) ids

-- one name for each of the first masks, None or that of a set over the tracks of the mask's men
abbrev pub HaveNames : List Man → List Automaton → List ℕ → List (Option SetId) → Type 0
HaveNames stock sets masks [] = Unit {0}
HaveNames stock sets [] (id ∷ ids) = ⊥
HaveNames stock sets (mask ∷ masks) (id ∷ ids) =
    IsNameOn (tracks_of stock (is_live mask)) sets id × HaveNames stock sets masks ids

-- one name for each of the first masks of the position; the other masks are these
pub record AreNamesSoFar (p : Position) (sets : List Automaton) (ids : List (Option SetId)) (rest : List ℕ) : Type
    0 where
  pub have : HaveNames p.men sets (masks_of p) ids
  pub left : drop (length ids) (masks_of p) ≡ rest
