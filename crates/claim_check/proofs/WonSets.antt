-- Claimed sets with which the plan of their claim finds nothing are those of a won claim.
use Rattle.std.proofs.Common.{◌≡◌, ℕ, [], List, None, option_and_then, ap, ◌∙◌, arith}
use Rattle.std.specs.Prelude.{slice_get}
use Rattle.std.proofs.lemmas.Option.{slice_get_past}
use Rattle.auto_core.specs.Automaton.{Automaton}
use Rattle.mask_sets.specs.Sets.{set_of}
use Rattle.rule_formula.specs.Fits.{masks_of}
use Rattle.set_plan.specs.Outcome.{Ends}
use Rattle.claim_plan.specs.CheckPlan.{check_plan}
use Rattle.claim_plan.proofs.CheckLaws.{ends_where_won}
use Rattle.winning_sets.specs.Claimed.{IsWonClaim, solution_of}
use Rattle.winning_sets.specs.declared.claimed.ClaimedSets.{ClaimedSets}
use Rattle.winning_sets.proofs.ClaimPlaces.{claimed_kept}
use Rattle.claim_check.specs.Ready.{IsReady, claim_in}

pub won_sets : {s : ClaimedSets} {budget : ℕ} → IsReady s → Ends (check_plan (claim_in s)) budget None → IsWonClaim (solution_of s)
won_sets {s} {budget} ready h =
    let won = ((ends_where_won (claim_in s) budget ready.claim).0 h).0 in
    record {
      claim = ready.claim;
      won = won;
      moves = ready.moves;
      formed = λ ply mask a e.
          let there = claimed_kept (solution_of s) ply mask ∙ e in
          record {
            reduced = ready.reduced ply mask a there;
            integers = won.sign ply mask a there;
            tracks = ready.claim.tracks ply mask a there;
            few = ready.few ply mask a there;
          };
      unreached = λ ply mask.
          let none : slice_get {X = List Automaton} [] ply ≡ None = slice_get_past [] ply (omega arith) in
          ap (option_and_then (λ sets. set_of (masks_of s.position) sets mask)) none;
    }
