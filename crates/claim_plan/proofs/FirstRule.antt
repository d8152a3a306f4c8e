-- The rule of the start.
use Rattle.std.proofs.Common.{◌≡◌, ◌↔◌, ℕ, zero, suc, List, [], ◌∷◌, Option, Some, None, ◌==◌, if◌then◌else◌, Bool, true, false, inl, inr, ℤ, pos, refl, sym, subst, arith}
use Rattle.game_rules.specs.Game.{Position, other}
use Rattle.game_rules.specs.declared.men.Side.{Side}
use Rattle.lin_formula.specs.Tree.{Tree}
use Rattle.lin_formula.specs.Tree as tree
use Rattle.lin_formula.specs.SetOf.{Member, SetOf, Nothing, Where}
use Rattle.rule_formula.specs.Fits.{Fits}
use Rattle.mask_sets.specs.Stock.{mask_of}
use Rattle.rule_formula.specs.Mean.{RulesMean}
use Rattle.mask_sets.specs.Tuple.{tuple_of}
use Rattle.rule_formula.specs.Seats.{var}
use Rattle.rule_formula.specs.Trees.{point_of}
use Rattle.set_plan.specs.Program.{Ask, Give, Has, Item, Takes, bind}
use Rattle.set_plan.specs.Unite.{make}
use Rattle.set_plan.proofs.Composition.{Takes-split}
use Rattle.std.proofs.lemmas.Bool.{eq-eqb}
use Rattle.mate_plan.specs.Plan.{Level, level_with, name, no_sets, point_level, pre_items, union}
use Rattle.mate_plan.specs.PlanOf.{formula_or, rules_of}
use Rattle.mate_plan.specs.Questions.{has_first_move}
use Rattle.mate_plan.specs.declared.names.Part.TheVariants as kind
use Rattle.winning_sets.proofs.KeptParts.{StepsTo-moves}
use Rattle.winning_sets.proofs.KeptSets.{Entries, pre-stands}
use Rattle.set_plan.proofs.Takings.{Takes-give, make-members}
use Rattle.mate_plan.specs.Claim.{Claim, IsClaim, IsClaimed, claimed_level}
use Rattle.claim_plan.specs.CheckPlan.{Finding, check_first, check_moving, check_waiting, holds_if, rule_at}
use Rattle.claim_plan.specs.Checked.{RuleHolds, KeepsRule}
use Rattle.mate_plan.specs.Won.{IsBegun}
use Rattle.mate_plan.specs.Turns.{plies_before_turn}
use Rattle.mate_plan.proofs.TurnLemmas.{moves_first, moves_later}
use Rattle.claim_plan.specs.declared.names.RuleAt.{RuleAt}
use Rattle.claim_plan.specs.declared.names.Rule.TheVariants as rule
use Rattle.winning_sets.proofs.ClaimedLemmas.{claimed_there}
use Rattle.claim_plan.proofs.Findings.{Checks, IsTold, Tells, asked-tells, holds_by-told, one-checks, tells-same, told-checks}
use Rattle.claim_plan.proofs.ReplyRules.{answer_moves}
use Rattle.claim_plan.proofs.SetRules.{claimed_stands}
use Rattle.winning_sets.proofs.WonLemmas.{last_loser, last_winner}

module _ (c : Claim) (is : IsClaim c) (mean : RulesMean c.position) (some_point : point_of c.position.men ≡ None → ⊥)
    (apart : (ply m : ℕ) → RuleHolds c rule.Same ply m) (safe : (ply m : ℕ) → RuleHolds c rule.Guard ply m) where
  abbrev p : Position
  p = c.position

  abbrev f : RuleAt
  f = rule_at 0 (mask_of c.position) rule.First

  has-told : (s : SetOf) (xs : Entries) (found : Finding)
      → Takes (holds_if (rule_at 0 (mask_of c.position) rule.First) (Has s (tuple_of c.position))) xs (Some found)
      → IsTold (Member s (tuple_of c.position)) (rule_at 0 (mask_of c.position) rule.First) found
  has-told s xs found t =
      holds_by-told (Member s (tuple_of p)) f (Ask (Has s (tuple_of p)) (Give true) (Give false)) (asked-tells (Has s (tuple_of p)) (Member s (tuple_of p)) (λ h. h) (λ h. h)) xs found t

  point_has : (s : SetOf) (o : Option Tree) → point_of c.position.men ≡ o
      → ((tuple : List ℤ) → Member s tuple ↔ Member (Where (formula_or (tree.Value (var 0) (pos 0)) o) (λ _. Nothing)) tuple)
      → Member s (tuple_of c.position)
  point_has s None e same = absurd (some_point e)
  point_has s (Some t) e same = (same (tuple_of p)).1 ((mean.point.point t (λ _. Nothing) (tuple_of p) e).1 refl)

  same_number : (n : ℕ) → n == n ≡ true
  same_number n = eq-eqb n n refl

  start_has : (level : Level) (xs : Entries) → Takes (point_level (rules_of c.position) (mask_of c.position)) xs (Some level) → Member (level (mask_of c.position)) (tuple_of c.position)
  start_has level xs t =
      let item : Item = record { formula = (rules_of p).point; sets = λ _. Nothing } in
      let mask = mask_of p in
      let (us, vs, made, order, first, rest) = Takes-split (make (name 0 mask kind.Point) 1 item) (λ made. Give (level_with no_sets mask made.0)) xs level t in
      let is : level ≡ level_with no_sets mask made.0 = Takes-give (level_with no_sets mask made.0) level vs rest in
      let has = point_has made.0 (point_of p.men) refl (make-members (name 0 mask kind.Point) 1 item us made first).same in
      let If : Bool → Type 0 = λ b. Member (if b then made.0 else Nothing) (tuple_of p) in
      let there : Member (level_with no_sets mask made.0 mask) (tuple_of p) = subst If (sym (same_number mask)) has in
      let At : Level → Type 0 = λ l. Member (l mask) (tuple_of p) in
      subst At (sym is) there

  -- with the winner to move no set is claimed at ply 0, and with no move none at ply 1
  not_started : c.position.turn ≡ c.winner → IsClaimed c 0 c.position → ⊥
  not_started turn h =
      let losers = (claimed_there c is h).0 in
      let last = last_winner c.winner p.turn c.moves turn in
      omega (arith, last, losers.before)

  no_move : (q : Position) → c.position.turn ≡ c.winner → c.moves ≡ 0 → IsClaimed c 1 q → ⊥
  no_move q turn none h =
      let losers = (claimed_there c is h).0 in
      let last = last_winner c.winner p.turn c.moves turn in
      omega (arith, last, losers.before, none)

  not_moved : {q : Position} → c.position.turn ≡ other c.winner → IsClaimed c 1 q → ⊥
  not_moved turn h =
      let losers = (claimed_there c is h).0 in
      let last = last_loser c.winner p.turn c.moves turn in
      omega (arith, last, losers.before)

  move_means : (point first : SetOf) (xs : Entries) → c.position.turn ≡ c.winner → Member point (tuple_of c.position)
      → Takes
      (union (rules_of c.position) 0 (mask_of c.position) kind.First
      (pre_items (rules_of c.position) c.winner (mask_of c.position) point (claimed_level c 1)))
      xs (Some first)
      → Member first (tuple_of c.position) ↔ IsBegun c.winner c.position (IsClaimed c)
  move_means point first xs turn source t =
      let Side_fits : Side → Type 0 = λ s. Fits p s p in
      let fits = subst Side_fits turn (mean.game.begins is.sound) in
      let Start : Position → Type 0 = λ q. q ≡ p in
      let stands =
      pre-stands p mean 0 kind.First point first (λ _. claimed_level c 1) xs Start (IsClaimed c 1) fits (λ h. is.sound)
      (λ h. refl, λ h. source) (λ o r i here takes fits_r. claimed_stands c is mean 1 r fits_r) t in (
        λ h.
            let pre = stands.0 h in
            inl (turn, (pre.next, answer_moves c is mean apart safe p pre.leads pre.step, pre.leads)),
        λ h. elim h [
          | inl (his, (q, moves, is_in)) ↦ stands.1 (record { is_in = refl; next = q; step = StepsTo-moves p q moves; leads = is_in })
          | inr (his, is_in) ↦ absurd (not_started turn is_in)
        ],
      )

  starts-tell : c.position.turn ≡ c.winner → (xs : Entries) (b : Bool)
      → Takes (has_first_move (rules_of c.position) c.winner (mask_of c.position) (tuple_of c.position) (claimed_level c 1)) xs (Some b)
      → Tells (IsBegun c.winner c.position (IsClaimed c)) b
  starts-tell turn xs b t =
      let into_one = λ (s : SetOf). union (rules_of p) 0 (mask_of p) kind.First (pre_items (rules_of p) c.winner (mask_of p) s (claimed_level c 1)) in
      let asked = λ (s : SetOf). Ask (Has s (tuple_of p)) (Give true) (Give false) in
      let (us, vs, start, o1, first, rest) = Takes-split (point_level (rules_of p) (mask_of p)) (λ start. bind (into_one (start (mask_of p))) asked) xs b t in
      let (ws, zs, into, o2, second, last) = Takes-split (into_one (start (mask_of p))) asked vs b rest in
      tells-same (Member into (tuple_of p)) (IsBegun c.winner c.position (IsClaimed c)) b
      (move_means (start (mask_of p)) into ws turn (start_has start us first) second)
      (asked-tells (Has into (tuple_of p)) (Member into (tuple_of p)) (λ h. h) (λ h. h) zs b last)

  moves-checks : (n : ℕ) → c.moves ≡ n → c.position.turn ≡ c.winner → Checks (KeepsRule c) (rule_at 0 (mask_of c.position) rule.First ∷ []) (check_moving c n)
  moves-checks zero none turn xs found t =
      let given : found ≡ Some f = Takes-give (Some f) found xs t in
      inl (
        λ begun. elim begun [
          | inl (his, (q, moves, is_in)) ↦ no_move q turn none is_in
          | inr (his, is_in) ↦ not_started turn is_in
        ],
        given,
      )
  moves-checks (suc n) some turn xs found t =
      told-checks (KeepsRule c) f (has_first_move (rules_of p) c.winner (mask_of p) (tuple_of p) (claimed_level c 1)) (starts-tell turn) xs found t

  starting-checks : c.position.turn ≡ other c.winner → Checks (KeepsRule c) (rule_at 0 (mask_of c.position) rule.First ∷ []) (check_waiting c)
  starting-checks turn xs found t =
      let Side_fits : Side → Type 0 = λ s. Fits p s p in
      let fits = subst Side_fits turn (mean.game.begins is.sound) in
      let stands = claimed_stands c is mean 0 p fits in
      one-checks (KeepsRule c) (Member (claimed_level c 0 (mask_of p)) (tuple_of p)) f found
      (λ h. inr (turn, stands.0 h), λ h. elim h [ inl (his, (q, moves, is_in)) ↦ absurd (not_moved turn is_in) | inr (his, is_in) ↦ stands.1 is_in ])
      (has-told (claimed_level c 0 (mask_of p)) xs found t)

  first_at : (plies : ℕ) → plies_before_turn c.winner c.position.turn ≡ plies → Checks (KeepsRule c) (rule_at 0 (mask_of c.position) rule.First ∷ []) (check_first c plies)
  first_at zero none = moves-checks c.moves refl (moves_first c.winner c.position.turn none)
  first_at (suc plies) some = starting-checks (moves_later c.winner c.position.turn plies some)

  pub first-checks : Checks (KeepsRule c) (rule_at 0 (mask_of c.position) rule.First ∷ []) (check_first c (plies_before_turn c.winner c.position.turn))
  first-checks = first_at (plies_before_turn c.winner c.position.turn) refl
