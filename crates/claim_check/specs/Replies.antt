-- The levels of the replies at a ply.
use Rattle.std.specs.Prelude.{◌≡◌, ℕ, ◌+◌, ◌≤◌, List}
use Rattle.auto_core.specs.Automaton.{Automaton}
use Rattle.mate_plan.specs.Levels.{AreNamesIn}
use Rattle.winning_sets.specs.declared.claimed.ClaimedSets.{ClaimedSets}
use Rattle.claim_check.specs.declared.replies.Replies.{Replies}
use Rattle.claim_check.specs.Ready.{AreNamesOf}

-- names in a table: of what is claimed at the ply and two plies later, and of what is reached between
pub record AreReplies (s : ClaimedSets) (ply : ℕ) (table : List Automaton) (r : Replies) : Type 0 where
  pub ply_is : r.ply ≡ ply
  pub low : ply ≤ 41
  pub claimed : AreNamesIn s.position table r.claimed
  pub reached : AreNamesIn s.position table r.reached
  pub later : AreNamesIn s.position table r.later
  pub claimed_is : AreNamesOf s ply table r.claimed
  pub later_is : AreNamesOf s (ply + 2) table r.later
