-- What the sets of a plan mean.
use Rattle.std.proofs.Common.{ℕ, List, map, Option, ◌≡◌, ◌≢◌, ◌≤◌, length, None}
use Rattle.std.specs.List.{All}
use Rattle.auto_core.specs.Automaton.{Automaton}
use Rattle.game_rules.specs.Game.{Position, Sound}
use Rattle.game_rules.specs.declared.men.Place.TheVariants.{Gone}
use Rattle.game_rules.specs.declared.men.Side.TheVariants.{White}
use Rattle.game_laws.proofs.KingLemmas.{a_king_lives}
use Rattle.lin_formula.specs.declared.formula.SetId.{SetId}
use Rattle.rule_formula.specs.Mean.{IsGame, RulesMean}
use Rattle.rule_formula.specs.Trees.{point_of}
use Rattle.rule_formula.proofs.MeanTheorem.{rules_mean}
use Rattle.rule_formula.proofs.PointTheorem.{point_made}
use Rattle.mate_plan.specs.Levels.{AreNames, level_of}
use Rattle.winning_sets.specs.PlanMeans.{AreDecided, FirstIsValue, ForwardIsReach, KeepsIsKept, MovesAreCounted, NoneIsKeptLast, PlanIsKept, TablesAreDecided}
use Rattle.set_plan.proofs.Tables.{table_decided}
use Rattle.winning_sets.proofs.KeptKeeps.{keeps_is_kept}
use Rattle.winning_sets.proofs.KeptNames.{levels_decided}
use Rattle.winning_sets.proofs.KeptParts.{kept_end, moves_counted}
use Rattle.winning_sets.proofs.KeptPlan.{first_is_value, forward_is_reach, plan_is_kept}

-- a sound position of at most eight men begins a game
pub mean : {p : Position} → Sound p → length p.men ≤ 8 → RulesMean p
mean {p} sound few = let game : IsGame p = record { few = few; kings = sound.kings } in rules_mean p game

-- and some man is live in it
pub some_point : {p : Position} → Sound p → point_of p.men ≡ None → ⊥
some_point {p} sound =
    point_made p (a_king_lives sound.kings)

pub forward_means : ForwardIsReach
forward_means = λ p ply entries levels sound few t. forward_is_reach p sound few (mean sound few) (some_point sound) ply entries levels t

pub plan_means : PlanIsKept
plan_means = λ winner p moves entries levels sound few more decided t.
    plan_is_kept p sound few (mean sound few) (some_point sound) winner moves entries levels more decided t

pub first_means : FirstIsValue
first_means = λ winner p moves entries levels sound few decided t.
    first_is_value p sound few (mean sound few) (some_point sound) winner moves entries levels decided t

pub none_last : NoneIsKeptLast
none_last = λ winner p q moves. kept_end winner p moves {q = q}

pub counted : MovesAreCounted
counted = moves_counted

pub tables_decided : TablesAreDecided
tables_decided = table_decided

pub keeps_kept : KeepsIsKept
keeps_kept = λ s ply q sound few sets. keeps_is_kept s sound few (mean sound few) (some_point sound) sets ply q

-- of levels of names of sets it is known which tuples they have
pub names_known : {p : Position} → Sound p → length p.men ≤ 8 → (sets : List Automaton) (masks : List ℕ) (names : List (List (Option SetId)))
    → All (AreNames p.men sets masks) names → AreDecided (map (level_of sets masks) names)
names_known {p} sound few sets masks names all = levels_decided p (mean sound few).game sets masks names all
