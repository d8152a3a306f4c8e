-- The rules of the replies at a ply, one after another.
use Rattle.std.proofs.Common.{◌≡◌, ℕ, suc, ◌+◌, List, sym, ◌∙◌, subst}
use Rattle.auto_core.specs.Automaton.{Automaton}
use Rattle.game_laws.proofs.SoundLemmas.{other_other}
use Rattle.game_rules.specs.Game.{other}
use Rattle.game_rules.specs.declared.men.Side.{Side}
use Rattle.rule_formula.specs.Fits.{masks_of}
use Rattle.set_plan.specs.Outcome.{Ends, IsPlanError}
use Rattle.set_plan.specs.Sets.{Grows}
use Rattle.set_plan.specs.declared.stop.PlanError.{PlanError}
use Rattle.set_plan.proofs.Composition.{Error-bind, LeadsTo, LeadsTo-later, LeadsTo-self}
use Rattle.mate_plan.specs.Claim.{Claim, claimed_level}
use Rattle.mate_plan.specs.Plan.{Level, reach_level}
use Rattle.mate_plan.specs.PlanOf.{rules_of}
use Rattle.mate_plan.specs.declared.names.PartName.{PartName}
use Rattle.mate_plan.proofs.LevelLemmas.{level-grows, names-grow}
use Rattle.winning_sets.specs.declared.claimed.ClaimedSets.{ClaimedSets}
use Rattle.claim_plan.specs.CheckPlan.{and_then, check_left, check_ply, check_stale, for_each}
use Rattle.claim_check.specs.Replies.{AreReplies}
use Rattle.claim_check.specs.declared.replies.Replies.{Replies}

-- what is reached is not known
pub reach_stopped : (c : Claim) (ply budget : ℕ) (e : PlanError PartName)
    → IsPlanError (reach_level (rules_of c.position) (other c.winner) (suc ply) (claimed_level c ply)) budget e → IsPlanError (check_ply c ply) budget e
reach_stopped c ply budget e h =
    let rules = rules_of c.position in
    let lefts = λ (reached : Level). for_each (masks_of c.position) (check_left rules (other (other c.winner)) (suc ply) reached (claimed_level c (ply + 2))) in
    let stales = λ (reached : Level). for_each (masks_of c.position) (check_stale rules (other c.winner) ply (claimed_level c ply) reached) in
    Error-bind (reach_level rules (other c.winner) (suc ply) (claimed_level c ply)) (λ reached. and_then (lefts reached) (stales reached)) budget e h

-- what is reached is known, and the rules of the replies are left, mask by mask
pub ply_leads : (c : Claim) (ply : ℕ) {budget : ℕ} (k : ℕ) (masks : List ℕ) {reached : Level} → k ≡ ply → masks ≡ masks_of c.position
    → Ends (reach_level (rules_of c.position) (other c.winner) (suc ply) (claimed_level c ply)) budget reached
    → LeadsTo (and_then (for_each masks (check_left (rules_of c.position) c.winner (suc k) reached (claimed_level c (k + 2))))
    (for_each masks (check_stale (rules_of c.position) (other c.winner) k (claimed_level c k) reached))) (check_ply c ply) budget
ply_leads c ply {budget} k masks {reached} at_ply masks_are ends =
    let rules = rules_of c.position in
    let after =
    λ (s : Side) (n : ℕ) (ms : List ℕ) (l : Level). and_then (for_each ms (check_left rules s (suc n) l (claimed_level c (n + 2))))
    (for_each ms (check_stale rules (other c.winner) n (claimed_level c n) l)) in
    let By : Side → Type 0 = λ s. LeadsTo (after s ply (masks_of c.position) reached) (check_ply c ply) budget in
    let At : ℕ → Type 0 = λ n. LeadsTo (after c.winner n (masks_of c.position) reached) (check_ply c ply) budget in
    let Over : List ℕ → Type 0 = λ ms. LeadsTo (after c.winner k ms reached) (check_ply c ply) budget in
    let all = LeadsTo-later (after (other (other c.winner)) ply (masks_of c.position)) {whole = check_ply c ply} ends
    (LeadsTo-self (check_ply c ply) budget) in
    subst Over (sym masks_are) (subst At (sym at_ply) (subst By (other_other c.winner) all))

-- the levels stay what they are while the table grows
pub replies_grow : {s : ClaimedSets} {ply : ℕ} {old : List Automaton} (new : List Automaton) {r : Replies} → Grows old new → AreReplies s ply old r → AreReplies s ply new r
replies_grow {s} {old} new {r} grows are =
    let men = s.position.men in
    let masks = masks_of s.position in
    record {
      ply_is = are.ply_is;
      low = are.low;
      claimed = names-grow men old new masks r.claimed grows are.claimed;
      reached = names-grow men old new masks r.reached grows are.reached;
      later = names-grow men old new masks r.later grows are.later;
      claimed_is = level-grows men old new masks r.claimed grows are.claimed ∙ are.claimed_is;
      later_is = level-grows men old new masks r.later grows are.later ∙ are.later_is;
    }

pub at_own_ply : {s : ClaimedSets} {ply : ℕ} {table : List Automaton} {r : Replies} → AreReplies s ply table r → AreReplies s r.ply table r
at_own_ply {s} {table} {r} are =
    let At : ℕ → Type 0 = λ k. AreReplies s k table r in
    subst At (sym are.ply_is) are
