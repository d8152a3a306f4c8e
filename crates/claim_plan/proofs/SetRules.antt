-- The rules of the claimed sets: no heed of repeated first letters, men apart, the winner not in check.
use Rattle.std.proofs.Common.{◌≡◌, ◌≢◌, ◌↔◌, ℕ, zero, suc, ◌<◌, ◌≤◌, true, false, List, [], ◌∷◌, length, map, Option, Some, None, inl, inr, ℤ, refl, sym, ap, ◌∙◌, subst, arith}
use Rattle.std.specs.Prelude.{Contains}
use Rattle.std.proofs.lemmas.Option.{slice_get_within}
use Rattle.std.proofs.lemmas.Bool.{cases_order}
use Rattle.track_word.specs.Tracks.{Values, values_at, word_values}
use Rattle.auto_core.specs.Automaton.{Automaton}
use Rattle.auto_core.specs.Integers.{DecidesIntegers}
use Rattle.game_rules.specs.Game.{InCheck, Position, StandsOn, man_at, other, place_square}
use Rattle.game_rules.specs.declared.men.Man.{Man}
use Rattle.game_rules.specs.declared.men.Place.TheVariants.{Gone}
use Rattle.game_rules.specs.declared.men.Side.{Side}
use Rattle.game_rules.specs.declared.men.Square.{Square}
use Rattle.game_laws.proofs.SoundLemmas.{other_other}
use Rattle.lin_formula.specs.Tree.{Tree}
use Rattle.lin_formula.specs.SetOf.{Member, SetOf, as_set}
use Rattle.rule_formula.specs.declared.opt.Bearing.{Bearing}
use Rattle.rule_formula.specs.Bearings.{bearings_of}
use Rattle.rule_formula.specs.Fits.{Fits, IsGameMask}
use Rattle.mask_sets.specs.Stock.{mask_of}
use Rattle.rule_formula.specs.Mean.{RulesMean, mask_tracks}
use Rattle.rule_formula.specs.Meaning.{AreTwins}
use Rattle.rule_formula.specs.Placed.{is_live}
use Rattle.mask_sets.specs.Tuple.{tuple_of}
use Rattle.rule_formula.specs.Trees.{twins_tree}
use Rattle.rule_formula.proofs.GameTheorem.{live_in_mask}
use Rattle.set_plan.specs.Program.{Ask, Give, Stable}
use Rattle.set_plan.specs.Unite.{are_empty}
use Rattle.set_plan.proofs.Composition.{none_some}
use Rattle.mate_plan.specs.Plan.{Rules, bear_item, bear_items, name}
use Rattle.mate_plan.specs.PlanOf.{rules_of}
use Rattle.mate_plan.specs.declared.names.Part.TheVariants as kind
use Rattle.winning_sets.proofs.KeptSets.{Stands}
use Rattle.set_plan.proofs.Takings.{AnyItem, IsOf, IsOver, Takes-give, any-map, contains_map}
use Rattle.winning_sets.proofs.KeptWithin.{bear_within}
use Rattle.mate_plan.specs.Claim.{Claim, IsClaim, IsClaimed, claimed_at, claimed_level}
use Rattle.claim_plan.specs.CheckPlan.{and_then, check_set, check_sign, holds_by, rule_at}
use Rattle.rule_formula.specs.declared.opt.ManPair.{ManPair}
use Rattle.rule_formula.specs.Pairs.{pairs_of}
use Rattle.mate_plan.specs.Twins.{twin_item, twins_of}
use Rattle.claim_plan.specs.Checked.{IsClaimedWith, KeepsRule, RuleHolds}
use Rattle.claim_plan.specs.declared.names.Rule.TheVariants as rule
use Rattle.winning_sets.proofs.ClaimedLemmas.{claimed_fits}
use Rattle.claim_plan.proofs.ClaimLemmas.{claimed_level-member, claimed_member, claimed_positions}
use Rattle.claim_plan.proofs.Findings.{Checks, NoItem, and_then-checks, are_empty-tells, asked-tells, holds_by-told, one-checks}

-- a man that stands on a square is not captured
stands_there : (m : Man) (z : Square) → StandsOn m z → m.place ≢ Gone
stands_there m z stands gone = none_some (sym stands ∙ ap place_square gone)

numbered_low : (q : Position) (i : ℕ) (m : Man) → man_at q i ≡ Some m → (1 ≤ i) × (i ≤ length q.men)
numbered_low q zero m e = none_some (sym e)
numbered_low q (suc i) m e = let within = slice_get_within q.men i m e in (omega arith, omega (arith, within))

module _ (c : Claim) (is : IsClaim c) (mean : RulesMean c.position) where
  abbrev p : Position
  p = c.position

  abbrev rules : Rules
  rules = rules_of c.position

  abbrev loser : Side
  loser = other c.winner

  -- at the positions that fit, what is claimed stands for the claimed positions
  pub claimed_stands : (ply : ℕ) → Stands c.position (other c.winner) (claimed_level c ply) (IsClaimed c ply)
  claimed_stands ply q fits = (
    λ h. record { stock = fits.stock; turn = fits.turn; is_in = (claimed_level-member c is ply q).0 h },
    λ h. claimed_member c is ply (mask_of q) q h refl,
  )

  pub claimed_over : (ply m : ℕ) → IsOver (mask_tracks c.position m) (claimed_level c ply m)
  claimed_over ply m tuple h = of (claimed_at c ply m) refl h
    where
      of : (o : Option Automaton) → claimed_at c ply m ≡ o → Member (as_set o) tuple → (v : Values) × (values_at (mask_tracks c.position m) v ≡ tuple)
      of None e h = absurd h
      of (Some a) e h = (word_values a.tracks h.word, ap (λ vars. values_at vars (word_values a.tracks h.word)) (sym (is.tracks ply m a e)) ∙ h.values)

  -- sign
  sign-checks : (ply m : ℕ) (o : Option Automaton) → claimed_at c ply m ≡ o → Checks (KeepsRule c) (rule_at ply m rule.Sign ∷ []) (check_sign ply m o)
  sign-checks ply m None e xs found t =
      inr (λ a there. none_some (sym there ∙ e), Takes-give None found xs t)
  sign-checks ply m (Some a) e xs found t =
      let same : (b : Automaton) → claimed_at c ply m ≡ Some b → a ≡ b = λ b there. let both : Some a ≡ Some b = sym e ∙ there in cc in
      one-checks (KeepsRule c) (DecidesIntegers a) (rule_at ply m rule.Sign) found
      (λ h b there. subst DecidesIntegers (same b there) h, λ h. h a e)
      (holds_by-told (DecidesIntegers a) (rule_at ply m rule.Sign) (Ask (Stable a) (Give true) (Give false)) (asked-tells (Stable a) (DecidesIntegers a) (λ h. h) (λ h. h)) xs found t)

module _ (c : Claim) (is : IsClaim c) (mean : RulesMean c.position) where
  -- same
  abbrev tree_at : ℕ → ManPair → Tree
  tree_at m w = twins_tree 8 m w.first w.second 0

  any_twins : {ply m : ℕ} (game : IsGameMask c.position m) (i j : ℕ) (a b : Man) (z : Square) {q : Position} → IsClaimed c ply q → mask_of q ≡ m
      → i < j → man_at q i ≡ Some a → man_at q j ≡ Some b → StandsOn a z → StandsOn b z
      → AnyItem (map (twin_item (claimed_level c ply m)) (twins_of c.position m 0)) (tuple_of q)
  any_twins {ply} {m} game i j a b z {q} h e less is_a is_b on_a on_b =
      let w : ManPair = record { first = i; second = j } in
      let (low_i, high_i) = numbered_low q i a is_a in
      let (low_j, high_j) = numbered_low q j b is_b in
      let count = h.stock.count in
      let live_i : is_live m i ≡ true = subst (λ k. is_live k i ≡ true) e (live_in_mask q i a is_a (stands_there a z on_a)) in
      let live_j : is_live m j ≡ true = subst (λ k. is_live k j ≡ true) e (live_in_mask q j b is_b (stands_there b z on_b)) in
      let in_pairs = (mean.game.pairs m w).1 (record { order = less; low = low_i; high = omega (arith, high_j, count); first_live = live_i; second_live = live_j }) in
      let twins : AreTwins i j q = record { first = a; second = b; square = z; is_first = is_a; is_second = is_b; first_stands = on_a; second_stands = on_b } in
      let member = ((mean.pairs m w game in_pairs).twins 0 (λ _. claimed_level c ply m) q h.stock e).1 (claimed_member c is ply m q h e, twins) in
      let in_trees = (contains_map (tree_at m) (pairs_of c.position.men m) (tree_at m w)).1 (w, in_pairs, refl) in
      (any-map (twin_item (claimed_level c ply m)) (twins_of c.position m 0) (tuple_of q)).1 (tree_at m w, in_trees, member)

  same_means : (ply : ℕ) {m : ℕ} → IsGameMask c.position m → NoItem (map (twin_item (claimed_level c ply m)) (twins_of c.position m 0)) ↔ RuleHolds c rule.Same ply m
  same_means ply {m} game = (
    λ none q w i j a b z is_a is_b on_a on_b.
        elim (cases_order i j) [
          | inl same ↦ same
          | inr (inl less) ↦ absurd (none (tuple_of q) (any_twins game i j a b z w.claimed w.mask_is less is_a is_b on_a on_b))
          | inr (inr more) ↦ absurd (none (tuple_of q) (any_twins game j i b a z w.claimed w.mask_is more is_b is_a on_b on_a))
        ],
    λ says tuple h.
        let (f, in_trees, member) = (any-map (twin_item (claimed_level c ply m)) (twins_of c.position m 0) tuple).0 h in
        let (w, in_pairs, is_tree) = (contains_map (tree_at m) (pairs_of c.position.men m) f).0 in_trees in
        let In : Tree → Type 0 = λ g. IsOf (twin_item (claimed_level c ply m) g) tuple in
        let there = subst In (sym is_tree) member in
        let means = mean.pairs m w game in_pairs in
        let known = claimed_positions c is ply m tuple (means.within 0 (λ _. claimed_level c ply m) tuple there) in
        let q = known.position in
        let claimed = known.is_in in
        let mask = known.mask_is in
        let is_tuple = known.tuple_is in
        let At : List ℤ → Type 0 = λ u. IsOf (twin_item (claimed_level c ply m) (tree_at m w)) u in
        let twins = ((means.twins 0 (λ _. claimed_level c ply m) q claimed.stock mask).0 (subst At (sym is_tuple) there)).1 in
        let one : w.first ≡ w.second =
        says q (record { claimed = claimed; mask_is = mask }) w.first w.second twins.first twins.second twins.square twins.is_first
        twins.is_second twins.first_stands twins.second_stands in
        let less = ((mean.game.pairs m w).0 in_pairs).order in
        omega (arith, one, less),
  )

  -- guard
  guard_means : (ply : ℕ) {m : ℕ} → IsGameMask c.position m → RuleHolds c rule.Same ply m
      → NoItem (bear_items (rules_of c.position) (other c.winner) m (claimed_level c ply m)) ↔ RuleHolds c rule.Guard ply m
  guard_means ply {m} game apart =
      let s : SetOf = claimed_level c ply m in
      let any = λ (tuple : List ℤ). any-map (bear_item (rules_of c.position) m s) (bearings_of c.position.men m (other c.winner)) tuple in
      let there : ℕ → Bearing → Type 0 = λ k b. Contains (bearings_of c.position.men k (other c.winner)) b in
      let checks = λ (q : Position) (fits : Fits c.position (other c.winner) q). mean.game.checks (other c.winner) (other c.winner) q fits in
      let turned : Position → Side → Type 0 = λ q t. InCheck q t in (
        λ none q w check.
            let fits = claimed_fits c is w.claimed (apart q w) in
            let (b, i, bears) = (checks q fits).0 (subst (turned q) (sym (other_other c.winner)) check) in
            let in_m = subst (λ k. there k b) w.mask_is i in
            let member = ((mean.bearings m (other c.winner) b game in_m).bear 0 (λ _. s) (other c.winner) q fits w.mask_is).1 (claimed_member c is ply m q w.claimed w.mask_is, bears) in
            none (tuple_of q) ((any (tuple_of q)).1 (b, in_m, member)),
        λ says tuple h.
            let (b, in_m, member) = (any tuple).0 h in
            let means = mean.bearings m (other c.winner) b game in_m in
            let inside = bear_within c.position.men m b.man b.ray b.king 0 (λ _. s) tuple (means.bear_tracks 0) member in
            let known = claimed_positions c is ply m tuple inside in
            let q = known.position in
            let claimed = known.is_in in
            let mask = known.mask_is in
            let is_tuple = known.tuple_is in
            let w : IsClaimedWith c ply m q = record { claimed = claimed; mask_is = mask } in
            let fits = claimed_fits c is claimed (apart q w) in
            let At : List ℤ → Type 0 = λ u. IsOf (bear_item (rules_of c.position) m s b) u in
            let bears = ((means.bear 0 (λ _. s) (other c.winner) q fits mask).0 (subst At (sym is_tuple) member)).1 in
            let i = subst (λ k. there k b) (sym mask) in_m in
            says q w (subst (turned q) (other_other c.winner) ((checks q fits).1 (b, i, bears))),
      )

  -- the rules of one claimed set
  pub claimed-checks : (ply : ℕ) {m : ℕ} → IsGameMask c.position m → Checks (KeepsRule c) (rule_at ply m rule.Sign ∷ rule_at ply m rule.Same ∷ rule_at ply m rule.Guard ∷ []) (check_set c ply m)
  claimed-checks ply {m} game =
      let H = KeepsRule c in
      let sign = rule_at ply m rule.Sign in
      let same = rule_at ply m rule.Same in
      let guard = rule_at ply m rule.Guard in
      let twins = map (twin_item (claimed_level c ply m)) (twins_of c.position m 0) in
      let bears = bear_items (rules_of c.position) (other c.winner) m (claimed_level c ply m) in
      let no_twins = are_empty (name ply m kind.Same) 1 twins in
      let no_bears = are_empty (name ply m kind.Guard) 1 bears in
      let apart = holds_by same no_twins in
      let safe = holds_by guard no_bears in
      and_then-checks H (sign ∷ []) (same ∷ guard ∷ []) (check_sign ply m (claimed_at c ply m)) (and_then apart safe)
      (sign-checks c is mean ply m (claimed_at c ply m) refl)
      (λ signed. and_then-checks H (same ∷ []) (guard ∷ []) apart safe
      (λ xs found t. one-checks H (NoItem twins) same found (same_means ply game) (holds_by-told (NoItem twins) same no_twins (are_empty-tells (name ply m kind.Same) twins 1) xs found t))
      (λ all xs found t. one-checks H (NoItem bears) guard found (guard_means ply game all.0)
      (holds_by-told (NoItem bears) guard no_bears (are_empty-tells (name ply m kind.Guard) bears 1) xs found t)))
