-- The formulas of the plan over sets that names refer to.
use Rattle.std.specs.Prelude.{◌≡◌, ℕ, ◌==◌, if◌then◌else◌, List, [], ◌∷◌, ◌++◌, map, filter, Option, Some, None, Vec}
use Rattle.std.specs.List.{flat_map}
use Rattle.std.specs.declared.alloc.Global.{Global}
use Rattle.game_rules.specs.Game.{Position}
use Rattle.game_rules.specs.declared.men.Side.{Side}
use Rattle.lin_formula.specs.Tree.{Tree}
use Rattle.lin_formula.specs.TreeOf.{tree_of}
use Rattle.lin_formula.specs.declared.formula.Formula.{Formula}
use Rattle.lin_formula.specs.declared.formula.SetId.{SetId}
use Rattle.rule_formula.specs.declared.opt.Bearing.{Bearing}
use Rattle.rule_formula.specs.declared.opt.Opt.{Opt}
use Rattle.rule_formula.specs.Bearings.{bearings_of}
use Rattle.rule_formula.specs.Fits.{masks_of, target_of}
use Rattle.rule_formula.specs.Options.{options_of}
use Rattle.rule_formula.specs.Trees.{bear_of, image_of, pre_of}
use Rattle.mate_plan.specs.Levels.{Names}
use Rattle.mate_plan.specs.declared.stage.MaskSet.{MaskSet}
use Rattle.mate_plan.specs.declared.stage.Stage.{Stage}
use Rattle.mate_plan.specs.declared.stage.StageSet.{StageSet}

-- the last name for the mask, or the given one if there is none
abbrev pub name_from : Option SetId → List ℕ → List (Option SetId) → ℕ → Option SetId
name_from found [] names mask = found
name_from found (m ∷ masks) [] mask = found
name_from found (m ∷ masks) (name ∷ names) mask = name_from (if mask == m then name else found) masks names mask

-- the name for the mask in a level
abbrev pub name_of : List ℕ → List (Option SetId) → ℕ → Option SetId
name_of masks names mask = name_from None masks names mask

-- the formulas have these trees
abbrev pub HaveTrees : List Tree → Vec Formula Global → Type 0
HaveTrees trees formulas = map tree_of formulas.items ≡ trees

-- formulas with these trees are added
abbrev pub AreAdded : List Tree → Vec Formula Global → Vec Formula Global → Type 0
AreAdded trees old new = map tree_of new.items ≡ map tree_of old.items ++ trees

-- the targets of the option's moves from the set of a mask, if it leads to the other mask
abbrev pub image_to : Position → MaskSet → ℕ → Opt → List Tree
image_to p from to o = if target_of from.mask o == to then image_of p.men from.mask o from.set.0 ∷ [] else []

-- the targets of the options' moves from the set of a mask, for the options that lead to the other mask
abbrev pub images_to : Position → MaskSet → ℕ → List Opt → List Tree
images_to p from to options =
    map (λ o. image_of p.men from.mask o from.set.0) (filter (λ o. target_of from.mask o == to) options)

-- the targets of the side's moves from the set of a mask, with the other mask
abbrev pub images_from : Position → Side → ℕ → ℕ → Option SetId → List Tree
images_from p side to mask None = []
images_from p side to mask (Some source) =
    images_to p (record { mask = mask; set = source }) to (options_of p.men mask side)

-- the targets of the moves of the stage's side from the set of a mask, with the mask of the stage
abbrev pub stage_images : Position → Stage → ℕ → Option SetId → List Tree
stage_images p stage mask source = images_from p stage.side stage.mask mask source

-- the targets of the side's moves from all sets of a level, with the mask
abbrev pub image_trees : Position → Side → ℕ → List (Option SetId) → List Tree
image_trees p side to level =
    flat_map (λ mask. images_from p side to mask (name_of (masks_of p) level mask)) (masks_of p)

-- the positions of a mask's set with a move by the option into the other set
abbrev pub pre_to : Position → MaskSet → Opt → Option SetId → List Tree
pre_to p from o None = []
pre_to p from o (Some target) = pre_of p.men from.mask o from.set.0 target.0 ∷ []

-- the positions of a mask's set with a move by one of the options into a set of a level
abbrev pub pres_to : Position → MaskSet → Names → List Opt → List Tree
pres_to p from targets options =
    flat_map (λ o. pre_to p from o (name_of (masks_of p) targets (target_of from.mask o))) options

-- the positions of a mask's set from which the side has a move into a set of a level
abbrev pub pre_trees : Position → Side → ℕ → Option SetId → List (Option SetId) → List Tree
pre_trees p side mask None targets = []
pre_trees p side mask (Some source) targets =
    pres_to p (record { mask = mask; set = source }) targets (options_of p.men mask side)

-- the positions of the stage's set from which the stage's side has a move into a set of a level
abbrev pub stage_pres : Position → StageSet → Names → List Tree
stage_pres p source targets = pre_trees p source.stage.side source.stage.mask source.name targets

-- the positions of a mask's set in which one of the bearings attacks
abbrev pub bears_by : Position → MaskSet → List Bearing → List Tree
bears_by p source bearings = map (λ b. bear_of p.men source.mask b.man b.ray b.king source.set.0) bearings

-- the positions of a mask's set in which the side attacks the other king
abbrev pub bear_trees : Position → Side → ℕ → Option SetId → List Tree
bear_trees p side mask None = []
bear_trees p side mask (Some source) =
    bears_by p (record { mask = mask; set = source }) (bearings_of p.men mask side)
