-- The formulas of two men on one square, for every two live men of a mask.
use Rattle.std.specs.Prelude.{ℕ, List, [], map, Option, Some, None}
use Rattle.game_rules.specs.Game.{Position}
use Rattle.lin_formula.specs.Tree.{Tree}
use Rattle.lin_formula.specs.SetOf.{SetOf}
use Rattle.lin_formula.specs.declared.formula.SetId.{SetId}
use Rattle.rule_formula.specs.Pairs.{pairs_of}
use Rattle.rule_formula.specs.declared.opt.ManPair.{ManPair}
use Rattle.rule_formula.specs.Trees.{twins_tree}
use Rattle.set_plan.specs.Program.{Item}

-- one of the pairs of men stands on one square, in set number `source`
abbrev pub twins_by : ℕ → ℕ → List ManPair → List Tree
twins_by mask source pairs = map (λ w. twins_tree 8 mask w.first w.second source) pairs

-- two of the men stand on one square, in set number `source`
abbrev pub twins_of : Position → ℕ → ℕ → List Tree
twins_of p mask source = twins_by mask source (pairs_of p.men mask)

abbrev pub twin_item : SetOf → Tree → Item
twin_item source f = record { formula = f; sets = λ _. source }

-- the formulas with the set
abbrev pub twin_items : Position → ℕ → SetOf → List Item
twin_items p mask source = map (twin_item source) (twins_of p mask 0)

-- the formulas over the set of a name, or none if there is no name
abbrev pub twin_trees : Position → ℕ → Option SetId → List Tree
twin_trees p mask None = []
twin_trees p mask (Some source) = twins_of p mask source.0
