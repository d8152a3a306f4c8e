-- The whole plan: what is reached, and what is kept.
use Rattle.std.proofs.Common.{◌≡◌, ◌↔◌, ℕ, zero, suc, ◌+◌, ◌*◌, ◌-◌, ◌<◌, ◌≤◌, ◌⊎◌, ◌==◌, if◌then◌else◌, Bool, true, false, List, [], ◌∷◌, length, Option, Some, None, inl, inr, ℤ, pos, refl, sym, ap, ◌∙◌, subst, arith}
use Rattle.std.specs.Prelude.{IsSomeAnd, slice_get}
use Rattle.std.specs.List.{All}
use Rattle.std.proofs.lemmas.Bool.{eqb-true, eq-eqb}
use Rattle.std.proofs.lemmas.List.Elements.{All-head, All-tail}
use Rattle.track_word.specs.Tracks.{Values, values_at}
use Rattle.game_rules.specs.Game.{Position, Sound, Value, other}
use Rattle.game_rules.specs.declared.men.Side.{Side}
use Rattle.lin_formula.specs.Tree.{Tree, free_vars}
use Rattle.lin_formula.specs.Tree as tree
use Rattle.lin_formula.specs.SetOf.{SetOf, Nothing, Where, Member}
use Rattle.rule_formula.specs.Bearings.{bearings_of}
use Rattle.rule_formula.specs.Fits.{Fits, IsGameMask, masks_of, target_of}
use Rattle.mask_sets.specs.Stock.{mask_of}
use Rattle.rule_formula.specs.Mean.{HoldsFitting, RulesMean, mask_tracks}
use Rattle.rule_formula.specs.Options.{options_of}
use Rattle.mask_sets.specs.Tuple.{tuple_of}
use Rattle.rule_formula.specs.Seats.{var}
use Rattle.rule_formula.specs.Trees.{point_of}
use Rattle.set_plan.specs.Program.{Item, Give, Takes}
use Rattle.set_plan.specs.Unite.{make, two}
use Rattle.mate_plan.specs.Plan.{Level, Program, Rules, backward, backward_from, bear_item, bear_items, difference, for_masks, forward, is_even, kept_level, level_with, lost_level, lost_set, lost_set_if, name, no_sets, plan, point_level, pre_item, pre_items, reach_level, reach_more, reach_set, rest_set, turn_at, union, win_level, win_set}
use Rattle.mate_plan.specs.PlanOf.{formula_or, last_ply, plan_of, plan_to, rules_of}
use Rattle.winning_sets.specs.Kept.{Kept}
use Rattle.winning_sets.specs.Reach.{Reach}
use Rattle.winning_sets.specs.PlanMeans.{AreDecided, AreLevelsOf, IsDecided, IsLevelOf}
use Rattle.mate_plan.specs.declared.names.Part.{Part}
use Rattle.mate_plan.specs.declared.names.Part.TheVariants as kind
use Rattle.winning_sets.proofs.KeptParts.{Reach-image, StepsTo-moves, kept_end, kept_first, lost-step, reached_sound, two_steps, win-step}
use Rattle.set_plan.proofs.Composition.{Takes-split, none_some}
use Rattle.set_plan.proofs.Takings.{IsOver, remainder_over, Takes-give, any-map, make-members, difference_set-members, same_some, union_of_two-members, union-members, union_over}
use Rattle.winning_sets.proofs.KeptSets.{Entries, Stands, bear_have, for_masks-level, game_mask, lost-stands, pre_have, reach_set-stands, reach_set_fitting, reach_set_over, win-stands, in_masks}
use Rattle.winning_sets.proofs.KeptBounds.{level-of, lost_within_if, union_pre}

-- the level of a mask alone
level_if : (P : ℕ → SetOf → Type 0) (m mask : ℕ) (s : SetOf) → (m ≡ mask → P m s) → ((m ≡ mask → ⊥) → P m Nothing) → P m (level_with no_sets mask s m)
level_if P m mask s here there = by (m == mask) refl
  where
    by : (b : Bool) → m == mask ≡ b → P m (if b then s else Nothing)
    by true e = here (eqb-true m mask e)
    by false e = there (λ same. let t : m == mask ≡ true = eq-eqb m mask same in cc)

branch : {A : Type 0} (b c : Bool) (f g : Program A) (xs : Entries) (a : A) → b ≡ c → Takes (if b then f else g) xs (Some a) → Takes (if c then f else g) xs (Some a)
branch b c f g xs a e t = subst (λ (d : Bool). Takes (if d then f else g) xs (Some a)) e t

-- the sets that were there before are among those that are given at last
backward-all : (rules : Rules) (first : Side) (P : Level → Type 0) (before : List Level) (reach1 kept1 : Level) (later levels : List Level)
    (xs : Entries)
    → Takes (backward rules first reach1 before kept1 later) xs (Some levels) → All P levels → All P (kept1 ∷ later)
backward-all rules first P [] reach1 kept1 later levels xs t all = subst (All P) (Takes-give (kept1 ∷ later) levels xs t) all
backward-all rules first P (reach ∷ before) reach1 kept1 later levels xs t all =
    let (us, vs, level, order, one, rest) =
    Takes-split (kept_level rules first (length before) (suc (length later)) reach reach1 kept1)
    (λ level. backward rules first reach before level (kept1 ∷ later)) xs levels t in
    All-tail P level (kept1 ∷ later) (backward-all rules first P before reach level (kept1 ∷ later) levels vs rest all)

module _ (p : Position) (sound : Sound p) (few : length p.men ≤ 8) (mean : RulesMean p) (some_point : point_of p.men ≡ None → ⊥) where
  abbrev rules : Rules
  rules = rules_of p

  abbrev side_at : ℕ → Side
  side_at j = turn_at p.turn j

  starts : Fits p p.turn p
  starts = mean.game.begins sound

  -- what is reached fits
  pub fits_reached : (j : ℕ) (q : Position) → Reach p j q → Fits p (side_at j) q
  fits_reached zero q is = subst (Fits p p.turn) (sym is) starts
  fits_reached (suc j) q (before, reached, moves) =
      let fits = fits_reached j before reached in
      let (o, i, takes) = (mean.game.steps (side_at j) before q fits (reached_sound p sound j before reached)).0 (StepsTo-moves before q moves) in
      (mean.game.target (side_at j) o before q fits i takes).1

  -- the level has exactly what is reached after so many moves
  pub record IsReached (j : ℕ) (level : Level) : Type 0 where
    pub stands : Stands p (side_at j) level (Reach p j)
    pub fitting : (m : ℕ) → HoldsFitting p (side_at j) m (level m)
    pub over : (m : ℕ) → IsOver (mask_tracks p m) (level m)

  -- the set has the tuple of the starting position alone
  record IsPoint (s : SetOf) : Type 0 where
    same : (tuple : List ℤ) → Member s tuple ↔ (tuple ≡ tuple_of p)
    over : IsOver (mask_tracks p (mask_of p)) s

  point_is : (o : Option Tree)
      → point_of p.men ≡ o → (s : SetOf)
      → ((tuple : List ℤ) → Member s tuple ↔ Member (Where (formula_or (tree.Value (var 0) (pos 0)) o) (λ _. Nothing)) tuple)
      → IsPoint s
  point_is None e s is = absurd (some_point e)
  point_is (Some t) e s is = record {
    same = λ tuple.
        let point = mean.point.point t (λ _. Nothing) tuple e in
        (λ h. point.0 ((is tuple).0 h), λ h. (is tuple).1 (point.1 h));
    over = λ tuple h.
        let k = (is tuple).0 h in
        (k.values, ap (λ vars. values_at vars k.values) (sym (mean.point.tracks t e)) ∙ k.is_tuple);
  }

  reached-first : (level : Level) (xs : Entries) → Takes (point_level rules (mask_of p)) xs (Some level) → IsReached 0 level
  reached-first level xs t =
      let mask = mask_of p in
      let item : Item = record { formula = rules.point; sets = λ _. Nothing } in
      let (us, vs, made, order, first, rest) = Takes-split (make (name 0 mask kind.Point) 1 item) (λ made. Give (level_with no_sets mask made.0)) xs level t in
      let is : level ≡ level_with no_sets mask made.0 = Takes-give (level_with no_sets mask made.0) level vs rest in
      let members = make-members (name 0 mask kind.Point) 1 item us made first in
      let point = point_is (point_of p.men) refl made.0 members.same in
      let At : Level → Type 0 = λ l. IsReached 0 l in
      subst At (sym is) (record {
        stands = λ q fits.
            let Is : ℕ → SetOf → Type 0 = λ m s. m ≡ mask_of q → Member s (tuple_of q) ↔ (q ≡ p) in
            level_if Is (mask_of q) mask made.0
            (λ same e. (
              λ h. mean.game.unique p.turn q p fits starts same ((point.same (tuple_of q)).0 h),
              λ here. (point.same (tuple_of q)).1 (ap tuple_of here),
            ))
            (λ off e. (λ h. absurd h, λ here. absurd (off (ap mask_of here))))
            refl;
        fitting = λ m. level_if (λ k s. HoldsFitting p p.turn k s) m mask made.0
            (λ same tuple h. (p, starts, sym same, sym ((point.same tuple).0 h)))
            (λ off tuple h. absurd h);
        over = λ m. level_if (λ k s. IsOver (mask_tracks p k) s) m mask made.0
            (λ same tuple h. subst (λ k. (v : Values) × (values_at (mask_tracks p k) v ≡ tuple)) (sym same) (point.over tuple h))
            (λ off tuple h. absurd h);
      })

  reached-next : {j : ℕ} {level : Level} (more : Level) (xs : Entries) → IsReached j level → Takes (reach_level rules (side_at j) (suc j) level) xs (Some more) → IsReached (suc j) more
  reached-next {j} {level} more xs is t =
      let side = side_at j in
      let f = reach_set rules side (suc j) level in
      let inside : (q : Position) → Reach p j q → Fits p (side_at j) q × Sound q = λ q h. (fits_reached j q h, reached_sound p sound j q h) in
      record {
        stands = λ q fits.
            let Is : ℕ → SetOf → Type 0 = λ m s. (ys : Entries) × Takes (f m) ys (Some s) in
            let (ys, made) = for_masks-level f Is (masks_of p) (λ m i s zs h. (zs, h)) no_sets more xs t (mask_of q) (inr (in_masks p mean (other side) q fits)) in
            let stands = reach_set-stands p mean side (suc j) level (more (mask_of q)) ys (Reach p j) q is.fitting is.stands inside fits made in
            let next = Reach-image p q j in
            (λ h. next.1 (stands.0 h), λ h. stands.1 (next.0 h));
        fitting = λ m. for_masks-level f (HoldsFitting p (other side)) (masks_of p)
            (λ m i s ys made. reach_set_fitting p mean side (suc j) level m s ys i is.fitting made)
            no_sets more xs t m (inl (λ tuple h. absurd h));
        over = λ m. for_masks-level f (λ m s. IsOver (mask_tracks p m) s) (masks_of p)
            (λ m i s ys made. reach_set_over p mean side (suc j) level m s ys i made)
            no_sets more xs t m (inl (λ tuple h. absurd h));
      }

  -- the levels are what is reached, the last ply first
  abbrev pub AllReached : List Level → Type 0
  AllReached [] = Unit {0}
  AllReached (level ∷ before) = IsReached (length before) level × AllReached before

  more-reached : (ply : ℕ) (levels more : List Level) (xs : Entries) → AllReached levels → length levels ≡ suc ply
      → Takes (reach_more rules p.turn ply levels) xs (Some more) → AllReached more × (length more ≡ suc (suc ply))
  more-reached ply [] more xs all count t = absurd (omega (arith, count))
  more-reached ply (level ∷ before) more xs all count t =
      let same : ply ≡ length before = omega (arith, count) in
      let (us, vs, next, order, first, rest) = Takes-split (reach_level rules (side_at ply) (suc ply) level) (λ next. Give (next ∷ level ∷ before)) xs more t in
      let is : more ≡ next ∷ level ∷ before = Takes-give (next ∷ level ∷ before) more vs rest in
      let there = subst (λ (n : ℕ). Takes (reach_level rules (side_at n) (suc n) level) us (Some next)) same first in
      let reached = reached-next next us all.0 there in
      (subst AllReached (sym is) (reached, all), ap length is ∙ ap suc count)

  pub forward-reached : (ply : ℕ) (levels : List Level) (xs : Entries) → Takes (forward rules p.turn (mask_of p) ply) xs (Some levels) → AllReached levels × (length levels ≡ suc ply)
  forward-reached zero levels xs t =
      let (us, vs, level, order, first, rest) = Takes-split (point_level rules (mask_of p)) (λ level. Give (level ∷ [])) xs levels t in
      let is : levels ≡ level ∷ [] = Takes-give (level ∷ []) levels vs rest in
      (subst AllReached (sym is) (reached-first level us first, tt), ap length is)
  forward-reached (suc ply) levels xs t =
      let (us, vs, before, order, first, rest) = Takes-split (forward rules p.turn (mask_of p) ply) (reach_more rules p.turn ply) xs levels t in
      let (all, count) = forward-reached ply before us first in
      more-reached ply before levels vs all count rest

  module _ (winner : Side) (moves : ℕ) where
    abbrev end : ℕ
    end = last_ply winner p.turn moves

    -- the level has exactly what is kept at the ply
    pub record IsKept (j : ℕ) (level : Level) : Type 0 where
      pub stands : Stands p (side_at j) level (Kept winner p moves j)
      pub fitting : (m : ℕ) → HoldsFitting p (side_at j) m (level m)

    pub kept-last : IsKept end no_sets
    kept-last = record {
      stands = λ q fits. (λ h. absurd h, λ h. absurd (kept_end winner p moves h));
      fitting = λ m tuple h. absurd h;
    }

    -- a ply of the winner
    kept-win : (j k : ℕ) {reach kept1 : Level} (level : Level) (xs : Entries) → j + 2 * suc k ≡ end → IsReached j reach → IsKept (suc j) kept1
        → Takes (win_level rules (side_at j) j reach kept1) xs (Some level) → IsKept j level
    kept-win j k {reach} {kept1} level xs e reached kept t =
        let f = win_set rules (side_at j) j reach kept1 in
        let stands = win-stands p mean (side_at j) j reach kept1 level xs (Reach p j) (Kept winner p moves (suc j)) (reached_sound p sound j) reached.stands kept.stands t in
        record {
          stands = λ q fits.
              let step = win-step winner p sound moves j k e q in
              (λ h. step.0 ((stands q fits).0 h), λ h. (stands q fits).1 (step.1 h));
          fitting = λ m. for_masks-level f (HoldsFitting p (side_at j)) (masks_of p)
              (λ m i s ys made tuple h. reached.fitting m tuple (union_pre p few mean (side_at j) j kind.Win (reach m) (λ _. kept1) s ys (game_mask p mean m i) made tuple h))
              no_sets level xs t m (inl (λ tuple h. absurd h));
        }

    -- a ply of the loser
    kept-lost : (j k : ℕ) {reach reach1 kept1 : Level} (level : Level) (xs : Entries) → j + (2 * k + 1) ≡ end → IsReached j reach → IsReached (suc j) reach1
        → IsKept (suc j) kept1 → ((m : ℕ) → IsDecided (kept1 m)) → Takes (lost_level rules (side_at j) j reach reach1 kept1) xs (Some level)
        → IsKept j level
    kept-lost j k {reach} {reach1} {kept1} level xs e reached reached1 kept decided t =
        let stands =
        lost-stands p mean (side_at j) j reach reach1 kept1 level xs (Reach p j) (Reach p (suc j)) (Kept winner p moves (suc j))
        (reached_sound p sound j) reached.over reached1.over reached.stands reached1.stands kept.stands t in
        let kept_or_not : (q : Position) → Reach p (suc j) q → Kept winner p moves (suc j) q ⊎ (Kept winner p moves (suc j) q → ⊥) = λ q h.
        let is = kept.stands q (fits_reached (suc j) q h) in
        elim (decided (mask_of q) (tuple_of q)) [ inl a ↦ inl (is.0 a) | inr n ↦ inr (λ c. n (is.1 c)) ] in
        let rest_of = rest_set rules (suc j) reach1 kept1 in
        let (us, vs, rests, order, first, last) =
        Takes-split (for_masks (masks_of p) rest_of no_sets)
        (λ rests. for_masks (masks_of p) (lost_set_if rules (side_at j) j reach reach1 rests) no_sets) xs level t in
        record {
          stands = λ q fits.
              let step = lost-step winner p sound moves j k e kept_or_not q in
              (λ h. step.0 ((stands q fits).0 h), λ h. (stands q fits).1 (step.1 h));
          fitting = λ m. for_masks-level (lost_set_if rules (side_at j) j reach reach1 rests) (HoldsFitting p (side_at j)) (masks_of p)
              (λ m i s ys made tuple h. reached.fitting m tuple (lost_within_if p few mean (side_at j) j reach (λ _. reach1) (λ _. rests) s ys (game_mask p mean m i) (reached.over m) made tuple h))
              no_sets level vs last m (inl (λ tuple h. absurd h));
        }

    -- the levels are what is kept from a ply on
    abbrev pub KeptFrom : ℕ → List Level → Type 0
    KeptFrom j [] = Unit {0}
    KeptFrom j (level ∷ later) = IsKept j level × KeptFrom (suc j) later

    pub kept-next : {j : ℕ} (left : ℕ) {reach reach1 kept1 : Level} (level : Level) (xs : Entries) → j + suc left ≡ end → IsReached j reach → IsReached (suc j) reach1
        → IsKept (suc j) kept1 → ((m : ℕ) → IsDecided (kept1 m)) → Takes (kept_level rules p.turn j (suc left) reach reach1 kept1) xs (Some level)
        → IsKept j level
    kept-next {j} left {reach} {reach1} {kept1} level xs e reached reached1 kept decided t =
        elim (two_steps (suc left)) [
          | inl (zero, is, even) ↦ absurd (omega (arith, is))
          | inl (suc k, is, even) ↦
              kept-win j k level xs (omega (arith, is, e)) reached kept
              (branch (is_even (suc left)) true (win_level rules (side_at j) j reach kept1) (lost_level rules (side_at j) j reach reach1 kept1) xs level even t)
          | inr (k, is, odd) ↦
              kept-lost j k level xs (omega (arith, is, e)) reached reached1 kept decided
              (branch (is_even (suc left)) false (win_level rules (side_at j) j reach kept1) (lost_level rules (side_at j) j reach reach1 kept1) xs level odd t)
        ]

    backward-kept : (before : List Level) {reach1 : Level} (kept1 : Level) (later levels : List Level) (xs : Entries) → IsReached (length before) reach1
        → AllReached before → KeptFrom (length before) (kept1 ∷ later) → length before + length later ≡ end → AreDecided levels
        → Takes (backward rules p.turn reach1 before kept1 later) xs (Some levels) → KeptFrom 0 levels × (length levels ≡ suc end)
    backward-kept [] kept1 later levels xs reached1 all kept sum decided t =
        let is : levels ≡ kept1 ∷ later = Takes-give (kept1 ∷ later) levels xs t in
        let count : length (kept1 ∷ later) ≡ suc end = omega (arith, sum) in
        (subst (KeptFrom 0) (sym is) kept, ap length is ∙ count)
    backward-kept (reach ∷ before) {reach1} kept1 later levels xs reached1 all kept sum decided t =
        let j = length before in
        let (us, vs, level, order, one, rest) =
        Takes-split (kept_level rules p.turn j (suc (length later)) reach reach1 kept1)
        (λ level. backward rules p.turn reach before level (kept1 ∷ later)) xs levels t in
        let here =
        All-head (λ l. (m : ℕ) → IsDecided (l m)) kept1 later
        (backward-all rules p.turn (λ l. (m : ℕ) → IsDecided (l m)) (reach ∷ before) reach1 kept1 later levels xs t decided) in
        let e : j + suc (length later) ≡ end = omega (arith, sum) in
        let now = kept-next (length later) level us e all.0 reached1 kept.0 here one in
        backward-kept before level (kept1 ∷ later) levels vs all.0 all.1 (now, kept) e decided rest

    plan-kept : (last : ℕ) (levels : List Level) (xs : Entries) → last ≡ end → AreDecided levels
        → Takes (plan rules p.turn (mask_of p) last) xs (Some levels) → KeptFrom 0 levels × (length levels ≡ suc end)
    plan-kept last levels xs is decided t =
        let (us, vs, reached, order, first, rest) = Takes-split (forward rules p.turn (mask_of p) last) (backward_from rules p.turn) xs levels t in
        let (all, count) = forward-reached last reached us first in
        from reached vs all count rest
      where
        from : (reached : List Level) (vs : Entries) → AllReached reached → length reached ≡ suc last
            → Takes (backward_from rules p.turn reached) vs (Some levels) → KeptFrom 0 levels × (length levels ≡ suc end)
        from [] vs all count rest = absurd (omega (arith, count))
        from (reach ∷ before) vs all count rest =
            let at_end : end ≡ length before = omega (arith, count, is) in
            let kept : IsKept (length before) no_sets = subst (λ (n : ℕ). IsKept n no_sets) at_end kept-last in
            backward-kept before no_sets [] levels vs all.0 all.1 (kept, tt) (omega (arith, at_end)) decided rest

    pub plan_to-kept : (last : ℕ) (levels : List Level) (xs : Entries) → last ≡ end → 0 < last → AreDecided levels
        → Takes (plan_to p last) xs (Some levels) → KeptFrom 0 levels × (length levels ≡ suc end)
    plan_to-kept zero levels xs is more decided t = absurd (omega (arith, more))
    plan_to-kept (suc last) levels xs is more decided t = plan-kept (suc last) levels xs is decided t

    kept-at : (j k : ℕ) (levels : List Level) (level : Level) → KeptFrom j levels → slice_get levels k ≡ Some level → IsKept (k + j) level
    kept-at j k [] level kept is = none_some (sym is)
    kept-at j zero (first ∷ later) level kept is =
        let sum : j ≡ 0 + j = omega arith in
        subst (λ (n : ℕ). IsKept n level) sum (subst (IsKept j) (same_some is) kept.0)
    kept-at j (suc k) (first ∷ later) level kept is =
        let there = kept-at (suc j) k later level kept.1 is in
        let sum : k + suc j ≡ suc k + j = omega arith in
        subst (λ (n : ℕ). IsKept n level) sum there

  reached-at : (k : ℕ) (levels : List Level) (level : Level) → AllReached levels → slice_get levels k ≡ Some level → IsReached (length levels - suc k) level
  reached-at k [] level all is = none_some (sym is)
  reached-at zero (first ∷ before) level all is =
      let n : length before ≡ length (first ∷ before) - 1 = omega arith in
      subst (λ (j : ℕ). IsReached j level) n (subst (IsReached (length before)) (same_some is) all.0)
  reached-at (suc k) (first ∷ before) level all is =
      let n : length before - suc k ≡ length (first ∷ before) - suc (suc k) = omega arith in
      subst (λ (j : ℕ). IsReached j level) n (reached-at k before level all.1 is)

  -- what a plan goes through forward
  pub forward_is_reach : (ply : ℕ) (xs : Entries) (levels : List Level)
      → Takes (forward rules p.turn (mask_of p) ply) xs (Some levels)
      → AreLevelsOf (λ number. Reach p (ply - number)) ply levels
  forward_is_reach ply xs levels t =
      let (all, count) = forward-reached ply levels xs t in
      record {
        count = count;
        each = λ k level is.
            let n : length levels - suc k ≡ ply - k = omega (arith, count) in
            let reached = subst (λ (j : ℕ). IsReached j level) n (reached-at k levels level all is) in
            level-of p (side_at (ply - k)) (Reach p (ply - k)) level (fits_reached (ply - k)) reached.stands reached.fitting;
      }

  -- what a plan gives
  pub plan_is_kept : (winner : Side) (moves : ℕ) (xs : Entries) (levels : List Level) → 0 < last_ply winner p.turn moves → AreDecided levels
      → Takes (plan_of winner p moves) xs (Some levels) → AreLevelsOf (Kept winner p moves) (last_ply winner p.turn moves) levels
  plan_is_kept winner moves xs levels more decided t =
      let (all, count) = plan_to-kept winner moves (last_ply winner p.turn moves) levels xs refl more decided t in
      record {
        count = count;
        each = λ k level is.
            let n : k + 0 ≡ k = omega arith in
            let kept = subst (λ (j : ℕ). IsKept winner moves j level) n (kept-at winner moves 0 k levels level all is) in
            level-of p (side_at k) (Kept winner p moves k) level (λ q h. fits_reached k q h.reached) kept.stands kept.fitting;
      }

  abbrev IsFirst : List Level → Type 0
  IsFirst levels = IsSomeAnd (slice_get levels 0) (λ level. Member (level (mask_of p)) (tuple_of p))

  -- the first set that a plan gives
  pub first_is_value : (winner : Side) (moves : ℕ) (xs : Entries) (levels : List Level) → AreDecided levels
      → Takes (plan_of winner p moves) xs (Some levels)
      → Value winner moves p ↔ IsSomeAnd (slice_get levels 0) (λ level. Member (level (mask_of p)) (tuple_of p))
  first_is_value winner moves xs levels decided t = by (last_ply winner p.turn moves) refl t
    where
      of : (l : List Level) → KeptFrom winner moves 0 l → length l ≡ suc (last_ply winner p.turn moves) → Value winner moves p ↔ IsFirst l
      of [] all count = absurd (omega (arith, count))
      of (level ∷ later) all count =
          let first = kept_first winner p moves in
          let here = all.0.stands p starts in
          (λ h. here.1 (first.0 h), λ h. first.1 (here.0 h))

      by : (last : ℕ) → last ≡ last_ply winner p.turn moves → Takes (plan_to p last) xs (Some levels) → Value winner moves p ↔ IsFirst levels
      by zero is t =
          let none : levels ≡ [] = Takes-give [] levels xs t in
          let first = kept_first winner p moves in (
            λ h. absurd (kept_end winner p moves (subst (λ (j : ℕ). Kept winner p moves j p) is (first.0 h))),
            λ h. absurd (subst IsFirst none h),
          )
      by (suc last) is t =
          let (all, count) = plan_to-kept winner moves (suc last) levels xs is (omega arith) decided t in
          of levels all count
