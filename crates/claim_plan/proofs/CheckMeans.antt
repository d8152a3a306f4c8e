-- What the plan of a claim finds. Crates above cite these lemmas.
use Rattle.std.proofs.Common.{◌≡◌, ◌↔◌, ℕ, suc, ◌+◌, List, [], ◌∷◌, map, None, refl, subst, arith}
use Rattle.std.specs.Prelude.{Contains}
use Rattle.std.specs.List.{flat_map}
use Rattle.game_rules.specs.Game.{other}
use Rattle.rule_formula.specs.Fits.{IsGameMask, masks_of}
use Rattle.mask_sets.specs.Stock.{mask_of}
use Rattle.rule_formula.specs.Mean.{RulesMean}
use Rattle.rule_formula.specs.Trees.{point_of}
use Rattle.winning_sets.proofs.KeptSets.{game_mask, in_masks}
use Rattle.mate_plan.specs.Claim.{Claim, IsClaim, IsClaimed, IsLosersPly, losers_plies}
use Rattle.mate_plan.specs.Turns.{plies_before_turn}
use Rattle.claim_plan.specs.CheckPlan.{Finding, and_then, check_first, check_plan, check_ply, check_set, check_sets, for_each, rule_at}
use Rattle.claim_plan.specs.Checked.{IsFirstFailing, RuleHolds, KeepsRule, reply_rules, rules_in_order, set_rules}
use Rattle.mate_plan.specs.Won.{Won}
use Rattle.game_laws.specs.Sets.{LeadsInto}
use Rattle.claim_plan.specs.declared.names.RuleAt.{RuleAt}
use Rattle.claim_plan.specs.declared.names.Rule.{Rule}
use Rattle.claim_plan.specs.declared.names.Rule.TheVariants as rule
use Rattle.winning_sets.proofs.ClaimedLemmas.{claimed_there}
use Rattle.claim_plan.proofs.Findings.{AllHold, Checks, all_append, all_at, all_in, all_of, and_then-checks, failing_none, for_each-checks, none_failing}
use Rattle.claim_plan.proofs.FirstRule.{first-checks}
use Rattle.mate_plan.proofs.ClaimPlies.{plies-have}
use Rattle.claim_plan.proofs.ReplyRules.{replied_fits, replies-checks}
use Rattle.claim_plan.proofs.SetRules.{claimed-checks}

-- in a won claim each rule is kept at each ply and mask
won_rule : {c : Claim} → Won c → (r : Rule) (ply m : ℕ) → RuleHolds c r ply m
won_rule won rule.Sign ply m = λ a e. won.sign ply m a e
won_rule won rule.Same ply m = λ q w. won.positions.same ply q w.claimed
won_rule won rule.Guard ply m = λ q w. won.positions.guard ply q w.claimed
won_rule won rule.First ply m = won.positions.first
won_rule {c} won rule.Left ply m = λ r w.
    let one = w.next in
    let two : w.before + 2 ≡ suc ply = omega (arith, one) in
    let P : ℕ → Type 0 = λ k. LeadsInto (IsClaimed c k) r in
    subst P two (won.positions.left w.before w.from r w.claimed w.moves)
won_rule won rule.Stale ply m = λ q w. won.positions.stale ply q w.claimed

pub won_keeps : {c : Claim} → Won c → (f : RuleAt) → KeepsRule c f
won_keeps won f = won_rule won f.rule f.ply f.mask

module _ (c : Claim) (is : IsClaim c) (mean : RulesMean c.position) where
  abbrev plies : List ℕ
  plies = losers_plies c.winner c.position.turn c.moves

  in_masks_of : {m : ℕ} → IsGameMask c.position m → Contains (masks_of c.position) m
  in_masks_of {m} game = (mean.game.masks m).1 game

  module _ (all : AllHold (KeepsRule c) (flat_map (set_rules c) (losers_plies c.winner c.position.turn c.moves))) where
    set_rules-hold : {ply m : ℕ} → IsLosersPly c.winner c.position c.moves ply → IsGameMask c.position m
        → AllHold (KeepsRule c) (rule_at ply m rule.Sign ∷ rule_at ply m rule.Same ∷ rule_at ply m rule.Guard ∷ [])
    set_rules-hold {ply} {m} losers game =
        let at_ply = all_at (KeepsRule c) (set_rules c) plies all ply (plies-have losers) in
        all_at (KeepsRule c) (λ k. rule_at ply k rule.Sign ∷ rule_at ply k rule.Same ∷ rule_at ply k rule.Guard ∷ []) (masks_of c.position) at_ply m (in_masks_of game)

    pub apart : (ply m : ℕ) → RuleHolds c rule.Same ply m
    apart ply m q w =
        let (losers, game) = claimed_there c is w.claimed in
        (set_rules-hold losers game).1.0 q (record { claimed = w.claimed; mask_is = refl })

    pub safe : (ply m : ℕ) → RuleHolds c rule.Guard ply m
    safe ply m q w =
        let (losers, game) = claimed_there c is w.claimed in
        (set_rules-hold losers game).1.1.0 q (record { claimed = w.claimed; mask_is = refl })

    pub signed : (ply m : ℕ) → RuleHolds c rule.Sign ply m
    signed ply m a e =
        let (losers, game) = is.only ply m a e in
        (set_rules-hold losers game).0 a e

  abbrev sets : List RuleAt
  sets = flat_map (set_rules c) plies

  abbrev start : RuleAt
  start = rule_at 0 (mask_of c.position) rule.First

  -- a claim of which each rule holds is won
  keeping_won : AllHold (KeepsRule c) (rules_in_order c) → Won c
  keeping_won all =
      let (front, rest) = all_append (KeepsRule c) sets (start ∷ flat_map (reply_rules c) plies) all in
      let replies = λ (ply : ℕ) (losers : IsLosersPly c.winner c.position c.moves ply).
      all_append (KeepsRule c) (map (λ m. rule_at (suc ply) m rule.Left) (masks_of c.position)) (map (λ m. rule_at ply m rule.Stale) (masks_of c.position))
      (all_at (KeepsRule c) (reply_rules c) plies rest.1 ply (plies-have losers)) in
      record {
        sign = λ ply m a e. signed front ply m a e;
        positions = record {
          same = λ ply q h. apart front ply (mask_of q) q (record { claimed = h; mask_is = refl });
          guard = λ ply q h. safe front ply (mask_of q) q (record { claimed = h; mask_is = refl });
          first = rest.0;
          left = λ ply q r h moves.
              let (losers, game) = claimed_there c is h in
              let fits = replied_fits c is mean (apart front) (safe front) r h moves in
              let i = in_masks c.position mean (other (other c.winner)) r fits in
              let says = all_in (KeepsRule c) (λ m. rule_at (suc ply) m rule.Left) (masks_of c.position) (replies ply losers).0 (mask_of r) i in
              let two : suc (suc ply) ≡ ply + 2 = omega arith in
              let P : ℕ → Type 0 = λ k. LeadsInto (IsClaimed c k) r in
              subst P two (says r (record { before = ply; next = refl; from = q; claimed = h; moves = moves; mask_is = refl }));
          stale = λ ply q h.
              let (losers, game) = claimed_there c is h in
              all_in (KeepsRule c) (λ m. rule_at ply m rule.Stale) (masks_of c.position) (replies ply losers).1 (mask_of q) (in_masks_of game) q (record { claimed = h; mask_is = refl });
        };
      }

  -- no rule fails if and only if the claim is won
  pub none_fails : (found : Finding) → IsFirstFailing (KeepsRule c) (rules_in_order c) found → (found ≡ None) ↔ Won c
  none_fails found first = (
    λ e. keeping_won (none_failing (KeepsRule c) (rules_in_order c) (subst (λ (o : Finding). IsFirstFailing (KeepsRule c) (rules_in_order c) o) e first)),
    λ won. failing_none (KeepsRule c) (rules_in_order c) found (all_of (KeepsRule c) (won_keeps won) (rules_in_order c)) first,
  )

  -- at each ply the rules of the claimed sets are checked
  pub sets-checks : (ply : ℕ) → Checks (KeepsRule c) (set_rules c ply) (check_sets c ply)
  sets-checks ply =
      for_each-checks (KeepsRule c) (λ m. rule_at ply m rule.Sign ∷ rule_at ply m rule.Same ∷ rule_at ply m rule.Guard ∷ [])
      (check_set c ply) (masks_of c.position)
      (λ m i. claimed-checks c is mean ply (game_mask c.position mean m i))

  module _ (some_point : point_of c.position.men ≡ None → ⊥) where
    -- the plan finds the first of the rules that fails
    pub plan-checks : Checks (KeepsRule c) (rules_in_order c) (check_plan c)
    plan-checks =
        let later = flat_map (reply_rules c) plies in
        let first = check_first c (plies_before_turn c.winner c.position.turn) in
        let replies = for_each plies (check_ply c) in
        and_then-checks (KeepsRule c) sets (start ∷ later) (for_each plies (check_sets c)) (and_then first replies)
        (for_each-checks (KeepsRule c) (set_rules c) (check_sets c) plies (λ ply i. sets-checks ply))
        (λ all. and_then-checks (KeepsRule c) (start ∷ []) later first replies
        (first-checks c is mean some_point (apart all) (safe all))
        (λ begun. for_each-checks (KeepsRule c) (reply_rules c) (check_ply c) plies (λ ply i. replies-checks c is mean (apart all) (safe all) ply)))
