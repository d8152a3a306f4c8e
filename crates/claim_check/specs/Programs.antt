-- The programs of a claim's plan, over the claimed sets and the levels that names in a table refer to.
use Rattle.std.specs.Prelude.{ℕ, suc, ◌+◌, List}
use Rattle.auto_core.specs.Automaton.{Automaton}
use Rattle.game_rules.specs.Game.{other}
use Rattle.lin_formula.specs.SetOf.{SetOf}
use Rattle.mate_plan.specs.Claim.{claimed_level}
use Rattle.mate_plan.specs.Levels.{level_in}
use Rattle.mate_plan.specs.Plan.{Level, Program, Rules, reach_level}
use Rattle.mate_plan.specs.PlanOf.{rules_of}
use Rattle.mate_plan.specs.Questions.{are_on_distinct_squares}
use Rattle.mate_plan.specs.Turns.{plies_before_turn}
use Rattle.mate_plan.specs.declared.stage.StageLevel.{StageLevel}
use Rattle.winning_sets.specs.declared.claimed.ClaimedSets.{ClaimedSets}
use Rattle.claim_plan.specs.CheckPlan.{Finding, check_first, check_guard, check_left, check_stale, for_each, holds_by, rule_at}
use Rattle.claim_plan.specs.declared.names.Rule.TheVariants as rule
use Rattle.claim_check.specs.declared.replies.Replies.{Replies}
use Rattle.claim_check.specs.Ready.{claim_in}

-- the rules of chess for the men of the claim
abbrev pub rules_in : ClaimedSets → Rules
rules_in s = rules_of s.position

-- the set of the stage's mask
abbrev pub set_in : ClaimedSets → List Automaton → StageLevel → SetOf
set_in s table at = level_in s.position table at.level.now at.stage.mask

-- the level that the replies reach
abbrev pub reached_in : ClaimedSets → List Automaton → Replies → Level
reached_in s table r = level_in s.position table r.reached

-- no two live men stand on one square in the stage's set
abbrev pub check_same_in : ClaimedSets → List Automaton → StageLevel → Program Finding
check_same_in s table at =
    holds_by (rule_at at.stage.ply at.stage.mask rule.Same)
    (are_on_distinct_squares s.position at.stage.ply at.stage.mask (set_in s table at))

-- in no position of the stage's set a man of the side bears on the other king
abbrev pub check_guard_in : ClaimedSets → List Automaton → StageLevel → Program Finding
check_guard_in s table at = check_guard (rules_in s) at.stage.side at.stage.ply at.stage.mask (set_in s table at)

-- the rule of the start
abbrev pub check_start_in : ClaimedSets → Program Finding
check_start_in s = check_first (claim_in s) (plies_before_turn s.winner s.position.turn)

-- the level that the replies reach from what is claimed at a ply
abbrev pub reach_in : ClaimedSets → ℕ → Program Level
reach_in s ply = reach_level (rules_in s) (other s.winner) (suc ply) (claimed_level (claim_in s) ply)

-- each reached position with the mask has a move into what is claimed two plies later
abbrev pub check_left_in : ClaimedSets → List Automaton → Replies → ℕ → Program Finding
check_left_in s table r mask =
    check_left (rules_in s) s.winner (suc r.ply) (reached_in s table r) (claimed_level (claim_in s) (r.ply + 2)) mask

-- in each claimed position with the mask the loser is in check or has one of the replies
abbrev pub check_stale_in : ClaimedSets → List Automaton → Replies → ℕ → Program Finding
check_stale_in s table r mask =
    check_stale (rules_in s) (other s.winner) r.ply (claimed_level (claim_in s) r.ply) (reached_in s table r) mask

-- `check_left_in`, mask by mask
abbrev pub check_all_left_in : ClaimedSets → List Automaton → Replies → Program Finding
check_all_left_in s table r = for_each (rules_in s).masks (check_left_in s table r)

-- `check_stale_in`, mask by mask
abbrev pub check_all_stale_in : ClaimedSets → List Automaton → Replies → Program Finding
check_all_stale_in s table r = for_each (rules_in s).masks (check_stale_in s table r)
