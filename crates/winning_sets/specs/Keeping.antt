-- The programs of the kept levels, over sets that names refer to.
use Rattle.std.specs.Prelude.{List, Result, Vec, map, reverse}
use Rattle.std.specs.declared.alloc.Global.{Global}
use Rattle.set_plan.specs.declared.stop.PlanError.{PlanError}
use Rattle.mate_plan.specs.Bench.{level_on, rules_on}
use Rattle.mate_plan.specs.Levels.{Names}
use Rattle.mate_plan.specs.Named.{AnswersBy, Named}
use Rattle.mate_plan.specs.Plan as plan
use Rattle.mate_plan.specs.Plan.{Level}
use Rattle.mate_plan.specs.declared.bench.PlanContext.{PlanContext}
use Rattle.mate_plan.specs.declared.bench.PlanState.{PlanState}
use Rattle.mate_plan.specs.declared.names.PartName.{PartName}
use Rattle.winning_sets.specs.declared.kept.Keeping.{Keeping}

-- the result is the names, among the new sets, of the levels that are the value of the program over the old sets
abbrev pub AnswersLevels : PlanContext → PlanState → PlanState → Named (List Level) → Result (Vec Names Global) (PlanError PartName)
    → Type 0
AnswersLevels bench old new program result =
    AnswersBy bench old program (λ kept. map (level_on bench new.sets) kept.items) result

-- the kept level of a ply, from what is reached there and at the next ply, and what is kept at the next ply
abbrev pub kept_level : Keeping → Named Level
kept_level from bench sets =
    plan.kept_level (rules_on bench) bench.position.now.turn from.ply from.left (level_on bench sets from.reach.now)
    (level_on bench sets from.next_reach.now) (level_on bench sets from.next_kept.now)

-- the kept levels of all plies, from what is reached at each ply, the first one first
abbrev pub backward_from : List Names → Named (List Level)
backward_from reach bench sets =
    plan.backward_from (rules_on bench) bench.position.now.turn (reverse (map (level_on bench sets) reach))
