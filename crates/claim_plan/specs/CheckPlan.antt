-- The plan by which a claim is checked: a program that gives the first rule that fails, or none.
use Rattle.std.specs.Prelude.{ℕ, zero, suc, ◌+◌, List, Option, Some, None, ℤ, Bool, true, false}
use Rattle.auto_core.specs.Automaton.{Automaton}
use Rattle.game_rules.specs.Game.{other}
use Rattle.game_rules.specs.declared.men.Side.{Side}
use Rattle.lin_formula.specs.SetOf.{SetOf}
use Rattle.mask_sets.specs.Stock.{mask_of}
use Rattle.mask_sets.specs.Tuple.{tuple_of}
use Rattle.set_plan.specs.Program.{Question, Give, Ask, Stable, Has, bind, each, ◌>>=◌}
use Rattle.mate_plan.specs.Plan.{Level, Program, Rules, reach_level}
use Rattle.mate_plan.specs.PlanOf.{rules_of}
use Rattle.mate_plan.specs.Questions.{are_answered, are_on_distinct_squares, are_safe, has_first_move, have_replies}
use Rattle.mate_plan.specs.Claim.{Claim, claimed_at, claimed_level, losers_plies}
use Rattle.mate_plan.specs.Turns.{plies_before_turn}
use Rattle.claim_plan.specs.declared.names.Rule.{Rule}
use Rattle.claim_plan.specs.declared.names.Rule.TheVariants as rule
use Rattle.claim_plan.specs.declared.names.RuleAt.{RuleAt}

-- the rule that fails, with its ply and its mask, or none
abbrev pub Finding : Type 0
Finding = Option RuleAt

abbrev pub rule_at : ℕ → ℕ → Rule → RuleAt
rule_at ply mask r = record { ply = ply; mask = mask; rule = r }

-- continues with the program only if nothing was found
abbrev pub go_on : Program Finding → Finding → Program Finding
go_on next None = next
go_on next (Some failed) = Give (Some failed)

abbrev pub and_then : Program Finding → Program Finding → Program Finding
and_then first next = bind first (go_on next)

-- executes the programs of the items in order, up to the first one that finds something
abbrev pub for_each : {X : Type 0} → List X → (X → Program Finding) → Program Finding
for_each xs f = each xs (λ x. go_on (f x)) None

-- nothing is found if the rule is true
abbrev pub failed_rule : RuleAt → Bool → Finding
failed_rule r true = None
failed_rule r false = Some r

-- the rule is true if the program gives true
abbrev pub holds_by : RuleAt → Program Bool → Program Finding
holds_by r program = bind program (λ holds. Give (failed_rule r holds))

-- the rule is true if the answer to the question is yes
abbrev pub holds_if : RuleAt → Question → Program Finding
holds_if r question = holds_by r (Ask question (Give true) (Give false))

-- a claimed set decides a set of integers; this takes no step
abbrev pub check_sign : ℕ → ℕ → Option Automaton → Program Finding
check_sign ply mask None = Give None
check_sign ply mask (Some a) = holds_if (rule_at ply mask rule.Sign) (Stable a)

module _ (rules : Rules) where
  -- in no position of a claimed set a man of the loser bears on the winner's king
  abbrev pub check_guard : Side → ℕ → ℕ → SetOf → Program Finding
  check_guard loser ply mask claimed = holds_by (rule_at ply mask rule.Guard) (are_safe rules loser ply mask claimed)

  -- each reached position has a move into the claimed level of the next ply. If nothing is claimed there, no formula is
  -- left, and no position has such a move, without a step
  abbrev pub check_left : Side → ℕ → Level → Level → ℕ → Program Finding
  check_left winner ply reached claimed1 mask =
      holds_by (rule_at ply mask rule.Left) (are_answered rules winner ply reached claimed1 mask)

  -- the loser has a reply in each claimed position in which he is not in check; there is no step if no position is
  -- claimed
  abbrev pub check_stale : Side → ℕ → Level → Level → ℕ → Program Finding
  check_stale loser ply claimed reached mask =
      holds_by (rule_at ply mask rule.Stale) (have_replies rules loser ply claimed reached mask)

  -- what the loser's moves reach from the claimed positions of a ply, and the rules of these moves: first those of the
  -- positions reached, mask by mask, and then those of the claimed positions, mask by mask
  abbrev pub check_replies : Side → ℕ → Level → Level → Program Finding
  check_replies loser ply claimed claimed2 = do
    reached ← reach_level rules loser (suc ply) claimed
    and_then (for_each rules.masks (check_left (other loser) (suc ply) reached claimed2))
        (for_each rules.masks (check_stale loser ply claimed reached))

  -- a move of the winner leads from the position with these coordinates into the claimed level of ply 1
  abbrev pub check_move : Side → ℕ → List ℤ → Level → Program Finding
  check_move winner mask tuple claimed1 =
      holds_by (rule_at 0 mask rule.First) (has_first_move rules winner mask tuple claimed1)

module _ (c : Claim) where
  abbrev pub rules : Rules
  rules = rules_of c.position

  abbrev pub loser : Side
  loser = other c.winner

  abbrev pub first_mask : ℕ
  first_mask = mask_of c.position

  abbrev pub plies : List ℕ
  plies = losers_plies c.winner c.position.turn c.moves

  -- no two live men stand on one square in a claimed set
  abbrev pub check_same : ℕ → ℕ → Program Finding
  check_same ply mask = holds_by (rule_at ply mask rule.Same) (are_on_distinct_squares c.position ply mask (claimed_level c ply mask))

  -- the rules of one claimed set
  abbrev pub check_set : ℕ → ℕ → Program Finding
  check_set ply mask =
      and_then (check_sign ply mask (claimed_at c ply mask))
      (and_then (check_same ply mask) (check_guard rules loser ply mask (claimed_level c ply mask)))

  abbrev pub check_sets : ℕ → Program Finding
  check_sets ply = for_each rules.masks (check_set ply)

  -- the rule of the start if it is the winner's turn. With 0 moves nothing is claimed at ply 1, and the rule fails
  -- without a step
  abbrev pub check_moving : ℕ → Program Finding
  check_moving zero = Give (Some (rule_at 0 first_mask rule.First))
  check_moving (suc moves) = check_move rules c.winner first_mask (tuple_of c.position) (claimed_level c 1)

  -- the rule of the start if it is the loser's turn: the starting position is claimed, which takes no step
  abbrev pub check_waiting : Program Finding
  check_waiting = holds_if (rule_at 0 first_mask rule.First) (Has (claimed_level c 0 first_mask) (tuple_of c.position))

  -- the rule of the start, by the number of plies before the winner's first turn
  abbrev pub check_first : ℕ → Program Finding
  check_first zero = check_moving c.moves
  check_first (suc _) = check_waiting

  abbrev pub check_ply : ℕ → Program Finding
  check_ply ply = check_replies rules loser ply (claimed_level c ply) (claimed_level c (ply + 2))

  -- the plan: the sets claimed at each ply of the loser, the start, and the replies at each ply of the loser
  abbrev pub check_plan : Program Finding
  check_plan =
      and_then (for_each plies check_sets)
      (and_then (check_first (plies_before_turn c.winner c.position.turn)) (for_each plies check_ply))
