-- A plan's way back, ply by ply.
use Rattle.std.proofs.Common.{◌≡◌, ℕ, suc, ◌+◌, ◌-◌, ◌%◌, ◌<◌, ◌≤◌, inl, inr, if◌then◌else◌, Bool, true, false, List, [], ◌∷◌, ◌++◌, length, get_or, take, map, Result, refl, sym, ap, ◌∙◌, subst, arith}
use Rattle.std.specs.Prelude.{reverse}
use Rattle.std.specs.List.{All}
use Rattle.std.proofs.lemmas.List.{length-append, length-map, length-reverse, length-take-le, map_more, map_push, reverse-append, take_all}
use Rattle.std.proofs.lemmas.List.Elements.{All-push, All-take}
use Rattle.auto_core.specs.Automaton.{Automaton}
use Rattle.game_rules.specs.Game.{Position}
use Rattle.game_rules.specs.declared.men.Side.{Side}
use Rattle.set_plan.specs.Program.{Give, bind}
use Rattle.rule_formula.specs.Fits.{masks_of}
use Rattle.set_plan.specs.Outcome.{Answers, Ends, IsPlanError}
use Rattle.set_plan.specs.Sets.{Grows}
use Rattle.set_plan.specs.declared.stop.PlanError.{PlanError}
use Rattle.set_plan.proofs.Composition.{Ends-give, Error-bind, LeadsTo, LeadsTo-error, LeadsTo-later}
use Rattle.mate_plan.specs.Levels.{AreNames, level_of}
use Rattle.mate_plan.specs.Plan.{Level, Program, Rules, backward, backward_from, is_even, kept_level, lost_level, no_sets, turn_at, win_level}
use Rattle.mate_plan.specs.PlanOf.{rules_of}
use Rattle.mate_plan.specs.declared.names.PartName.{PartName}
use Rattle.winning_sets.proofs.Growing.{all_names-grow, grows-trans, levels-grow}
use Rattle.winning_sets.proofs.KeptParts.{two_steps}
use Rattle.winning_sets.proofs.LentLemmas.{Names}

-- what is left of the way back, where the last of these levels is reached at the ply at which the last of those is kept
abbrev pub way_back : Rules → Side → List Level → List Level → Program (List Level)
way_back rules first (reach1 ∷ before) (kept1 ∷ later) = backward rules first reach1 before kept1 later
way_back rules first _ _ = Give []

even_is : (n : ℕ) → n % 2 ≡ 0 → is_even n ≡ true
even_is n even = elim (two_steps n) [ inl (k, e, is) ↦ is | inr (k, e, is) ↦ absurd (omega (arith, e, even)) ]

odd_is : (n : ℕ) → (n % 2 ≡ 0 → ⊥) → is_even n ≡ false
odd_is n odd = elim (two_steps n) [ inl (k, e, is) ↦ absurd (odd (omega (arith, e))) | inr (k, e, is) ↦ is ]

-- at an even number of plies before the last the winner is to move
kept_won : (rules : Rules) (first : Side) (ply left : ℕ) (reach reach1 kept1 : Level) → left % 2 ≡ 0
    → kept_level rules first ply left reach reach1 kept1 ≡ win_level rules (turn_at first ply) ply reach kept1
kept_won rules first ply left reach reach1 kept1 even =
    ap (λ (b : Bool). if b then win_level rules (turn_at first ply) ply reach kept1 else lost_level rules (turn_at first ply) ply reach reach1 kept1) (even_is left even)

kept_lost : (rules : Rules) (first : Side) (ply left : ℕ) (reach reach1 kept1 : Level) → (left % 2 ≡ 0 → ⊥)
    → kept_level rules first ply left reach reach1 kept1 ≡ lost_level rules (turn_at first ply) ply reach reach1 kept1
kept_lost rules first ply left reach reach1 kept1 odd =
    ap (λ (b : Bool). if b then win_level rules (turn_at first ply) ply reach kept1 else lost_level rules (turn_at first ply) ply reach reach1 kept1) (odd_is left odd)

module _ {R : Type 0} (rules : Rules) (first side : Side) (ply left : ℕ) (reach reach1 kept1 : Level) (budget : ℕ) (view : R → Level)
    (r : Result R (PlanError PartName)) (turn : side ≡ turn_at first ply) where
  pub won_answers : left % 2 ≡ 0 → Answers (win_level rules side ply reach kept1) budget view r → Answers (kept_level rules first ply left reach reach1 kept1) budget view r
  won_answers even h =
      let here = subst (λ (s : Side). Answers (win_level rules s ply reach kept1) budget view r) turn h in
      subst (λ (m : Program Level). Answers m budget view r) (sym (kept_won rules first ply left reach reach1 kept1 even)) here

  pub lost_answers : (left % 2 ≡ 0 → ⊥) → Answers (lost_level rules side ply reach reach1 kept1) budget view r → Answers (kept_level rules first ply left reach reach1 kept1) budget view r
  lost_answers odd h =
      let here = subst (λ (s : Side). Answers (lost_level rules s ply reach reach1 kept1) budget view r) turn h in
      subst (λ (m : Program Level). Answers m budget view r) (sym (kept_lost rules first ply left reach reach1 kept1 odd)) here

pub map-reverse : {X Y : Type 0} (f : X → Y) (xs : List X) → map f (reverse xs) ≡ reverse (map f xs)
map-reverse f [] = refl
map-reverse f (x ∷ xs) =
    ap (map f) (reverse-append (x ∷ []) xs) ∙ map_push f (reverse xs) x ∙ ap (λ ys. ys ++ f x ∷ []) (map-reverse f xs)
    ∙ sym (reverse-append (f x ∷ []) (map f xs))

-- one more at the front of what is turned
pub reversed_more : {X Y : Type 0} (f : X → Y) (xs : List X) (i : ℕ) (d : X) → i < length xs → reverse (map f (take (suc i) xs)) ≡ f (get_or xs i d) ∷ reverse (map f (take i xs))
reversed_more {X} f xs i d within =
    let one : suc i ≡ i + 1 = omega arith in
    ap (λ n. reverse (map f (take n xs))) one ∙ ap reverse (map_more f xs i d within) ∙ reverse-append (map f (take i xs)) (f (get_or xs i d) ∷ [])

count_turned : {X Y : Type 0} (f : X → Y) (xs : List X) (i : ℕ) → i ≤ length xs → length (reverse (map f (take i xs))) ≡ i
count_turned f xs i within =
    length-reverse (map f (take i xs)) ∙ length-map (take i xs) f ∙ length-take-le i xs within

-- the levels of some names, the last one first
abbrev pub turned : List ℕ → List Automaton → List Names → List Level
turned masks table names = reverse (map (level_of table masks) names)

-- what is left of the way back leads to the end of the whole
abbrev pub IsLeft : Rules → Side → ℕ → Program (List Level) → List ℕ → List Automaton → List Names → List Names → Type 0
IsLeft rules first budget whole masks table reach kept = LeadsTo (way_back rules first (turned masks table reach) (turned masks table kept)) whole budget

module _ (rules : Rules) (first : Side) (budget : ℕ) (whole : Program (List Level)) (masks : List ℕ) where
  module _ (table : List Automaton) (reach kept : List Names) (ply left : ℕ) (r0 r1 k1 : Names) (sum : suc (ply + left) ≡ length reach)
      (some : 0 < left) (count : length kept ≡ left) (is0 : r0 ≡ get_or reach ply r0) (is1 : r1 ≡ get_or reach (suc ply) r1)
      (is_kept : k1 ≡ get_or kept (left - 1) k1) where
    abbrev level : Names → Level
    level ids = level_of table masks ids

    abbrev before : List Level
    before = turned masks table (take ply reach)

    abbrev later : List Level
    later = turned masks table (take (left - 1) kept)

    abbrev one_level : Program Level
    one_level = kept_level rules first ply left (level r0) (level r1) (level k1)

    rest_opens : turned masks table (take (suc ply) reach) ≡ level r0 ∷ before
    rest_opens = reversed_more level reach ply r0 (omega (arith, sum)) ∙ ap (λ (l : Level). l ∷ before) (ap level (sym is0))

    reach_opens : turned masks table (take (suc (suc ply)) reach) ≡ level r1 ∷ level r0 ∷ before
    reach_opens =
        reversed_more level reach (suc ply) r1 (omega (arith, sum, some))
        ∙ ap (λ (l : Level). l ∷ turned masks table (take (suc ply) reach)) (ap level (sym is1))
        ∙ ap (λ (l : List Level). level r1 ∷ l) rest_opens

    kept_opens : turned masks table kept ≡ level k1 ∷ later
    kept_opens =
        let all : take (suc (left - 1)) kept ≡ kept = take_all (suc (left - 1)) kept (omega (arith, count, some)) in
        ap (turned masks table) (sym all) ∙ reversed_more level kept (left - 1) k1 (omega (arith, count, some)) ∙ ap (λ (l : Level). l ∷ later) (ap level (sym is_kept))

    before_count : length before ≡ ply
    before_count = count_turned level reach ply (omega (arith, sum))

    later_count : suc (length later) ≡ left
    later_count =
        let n : length later ≡ left - 1 = count_turned level kept (left - 1) (omega (arith, count)) in
        omega (arith, n, some)

    way_opens : way_back rules first (turned masks table (take (suc (suc ply)) reach)) (turned masks table kept)
        ≡ bind one_level (λ l. way_back rules first (level r0 ∷ before) (l ∷ level k1 ∷ later))
    way_opens =
        ap (λ rs. way_back rules first rs (turned masks table kept)) reach_opens
        ∙ ap (λ ks. way_back rules first (level r1 ∷ level r0 ∷ before) ks) kept_opens
        ∙ ap (λ n. bind (kept_level rules first n (suc (length later)) (level r0) (level r1) (level k1)) (λ l. way_back rules first (level r0 ∷ before) (l ∷ level k1 ∷ later))) before_count
        ∙ ap (λ n. bind (kept_level rules first ply n (level r0) (level r1) (level k1)) (λ l. way_back rules first (level r0 ∷ before) (l ∷ level k1 ∷ later))) later_count

    opened : IsLeft rules first budget whole masks table (take (suc (suc ply)) reach) kept
        → LeadsTo (bind one_level (λ l. way_back rules first (level r0 ∷ before) (l ∷ level k1 ∷ later))) whole budget
    opened leads = subst (λ (m : Program (List Level)). LeadsTo m whole budget) way_opens leads

    pub left_error : (e : PlanError PartName) → IsLeft rules first budget whole masks table (take (suc (suc ply)) reach) kept
        → IsPlanError (kept_level rules first ply left (level_of table masks r0) (level_of table masks r1) (level_of table masks k1)) budget e
        → IsPlanError whole budget e
    left_error e leads h =
        LeadsTo-error (opened leads) e
        (Error-bind one_level (λ l. way_back rules first (level r0 ∷ before) (l ∷ level k1 ∷ later)) budget e h)

    pub left_next : (new : List Automaton) (ids : Names) → turned masks new (take (suc ply) reach) ≡ turned masks table (take (suc ply) reach)
        → turned masks new kept ≡ turned masks table kept → IsLeft rules first budget whole masks table (take (suc (suc ply)) reach) kept
        → Ends (kept_level rules first ply left (level_of table masks r0) (level_of table masks r1) (level_of table masks k1)) budget
        (level_of new masks ids)
        → IsLeft rules first budget whole masks new (take (suc ply) reach) (kept ++ ids ∷ [])
    left_next new ids same_reach same_kept leads h =
        let next = LeadsTo-later (λ l. way_back rules first (level r0 ∷ before) (l ∷ level k1 ∷ later)) h (opened leads) in
        let reaches : turned masks new (take (suc ply) reach) ≡ level r0 ∷ before = same_reach ∙ rest_opens in
        let keeps : turned masks new (kept ++ ids ∷ []) ≡ level_of new masks ids ∷ level k1 ∷ later =
        ap reverse (map_push (level_of new masks) kept ids) ∙ reverse-append (map (level_of new masks) kept) (level_of new masks ids ∷ [])
        ∙ ap (λ (l : List Level). level_of new masks ids ∷ l) (same_kept ∙ kept_opens) in
        subst (λ (ks : List Level). LeadsTo (way_back rules first (turned masks new (take (suc ply) reach)) ks) whole budget) (sym keeps)
        (subst (λ (rs : List Level). LeadsTo (way_back rules first rs (level_of new masks ids ∷ level k1 ∷ later)) whole budget) (sym reaches) next)

-- on the way back, with so many plies kept
pub record IsBack (p : Position) (budget : ℕ) (whole : Program (List Level)) (old table : List Automaton) (reach kept : List Names) (left : ℕ) : Type 0 where
  pub grows : Grows old table
  pub reach_named : All (AreNames p.men table (masks_of p)) reach
  pub kept_named : All (AreNames p.men table (masks_of p)) kept
  pub count : length kept ≡ left
  pub leads : IsLeft (rules_of p) p.turn budget whole (masks_of p) table (take (suc (length reach) - left) reach) kept

-- the way back from what is reached
abbrev pub whole_back : Position → List Automaton → List Names → Program (List Level)
whole_back p table reach = backward_from (rules_of p) p.turn (turned (masks_of p) table reach)

module _ (p : Position) (budget : ℕ) (old : List Automaton) (reach : List Names) where
  starts : (rs : List Level) → 0 < length rs → way_back (rules_of p) p.turn rs (no_sets ∷ []) ≡ backward_from (rules_of p) p.turn rs
  starts [] none = absurd (omega (arith, none))
  starts (r ∷ rs) some = refl

  module _ (table : List Automaton) (kept : List Names) (ply left : ℕ) (r0 r1 k1 : Names) (sum : suc (ply + left) ≡ length reach) (some : 0 < left)
      (is : IsBack p budget (whole_back p old reach) old table reach kept left) (is0 : r0 ≡ get_or reach ply r0)
      (is1 : r1 ≡ get_or reach (suc ply) r1) (is_kept : k1 ≡ get_or kept (left - 1) k1) where
    abbrev taken : ℕ → Type 0
    taken n = IsLeft (rules_of p) p.turn budget (whole_back p old reach) (masks_of p) table (take n reach) kept

    leads : IsLeft (rules_of p) p.turn budget (whole_back p old reach) (masks_of p) table (take (suc (suc ply)) reach) kept
    leads = let n : suc (length reach) - left ≡ suc (suc ply) = omega (arith, sum) in subst taken n is.leads

    pub back_error : (e : PlanError PartName)
        → IsPlanError
        (kept_level (rules_of p) p.turn ply left (level_of table (masks_of p) r0) (level_of table (masks_of p) r1)
        (level_of table (masks_of p) k1))
        budget e
        → IsPlanError (whole_back p old reach) budget e
    back_error e h = left_error (rules_of p) p.turn budget (whole_back p old reach) (masks_of p) table reach kept ply left r0 r1 k1 sum some is.count is0 is1 is_kept e leads h

    pub back_next : (new : List Automaton) (ids : Names) → Grows table new → AreNames p.men new (masks_of p) ids
        → Ends
        (kept_level (rules_of p) p.turn ply left (level_of table (masks_of p) r0) (level_of table (masks_of p) r1)
        (level_of table (masks_of p) k1))
        budget (level_of new (masks_of p) ids)
        → IsBack p budget (whole_back p old reach) old new reach (kept ++ ids ∷ []) (left + 1)
    back_next new ids grows named h =
        let front = All-take (AreNames p.men table (masks_of p)) (suc ply) reach is.reach_named in
        let same_reach = ap reverse (levels-grow table new grows p.men (masks_of p) (take (suc ply) reach) front) in
        let same_kept = ap reverse (levels-grow table new grows p.men (masks_of p) kept is.kept_named) in
        let next =
        left_next (rules_of p) p.turn budget (whole_back p old reach) (masks_of p) table reach kept ply left r0 r1 k1 sum some is.count is0 is1
        is_kept new ids same_reach same_kept leads h in
        let n : suc ply ≡ suc (length reach) - (left + 1) = omega (arith, sum) in
        record {
          grows = grows-trans old table new is.grows grows;
          reach_named = all_names-grow table new grows p.men (masks_of p) reach is.reach_named;
          kept_named = All-push (AreNames p.men new (masks_of p)) kept ids (all_names-grow table new grows p.men (masks_of p) kept is.kept_named) named;
          count = omega (arith, length-append kept (ids ∷ []), is.count);
          leads = subst (λ (k : ℕ). IsLeft (rules_of p) p.turn budget (whole_back p old reach) (masks_of p) new (take k reach) (kept ++ ids ∷ [])) n next;
        }

  ends_at : (rs ks : List Level) → length rs ≡ 1 → 0 < length ks → way_back (rules_of p) p.turn rs ks ≡ Give ks
  ends_at [] ks one some = absurd (omega (arith, one))
  ends_at (r ∷ rs) [] one some = absurd (omega (arith, some))
  ends_at (r ∷ []) (k ∷ ks) one some = refl
  ends_at (r ∷ s ∷ rs) (k ∷ ks) one some = absurd (omega (arith, one))

  -- at the first ply all is kept
  pub back_last : {table : List Automaton} {kept : List Names} {left : ℕ} → 0 < left → left ≡ length reach
      → IsBack p budget (whole_back p old reach) old table reach kept left
      → Ends (whole_back p old reach) budget (map (level_of table (masks_of p)) (reverse kept))
  back_last {table} {kept} {left} some at_first is =
      let rs = turned (masks_of p) table (take (suc (length reach) - left) reach) in
      let ks = turned (masks_of p) table kept in
      let one : length rs ≡ 1 = count_turned (level_of table (masks_of p)) reach (suc (length reach) - left) (omega (arith, at_first, some)) ∙ omega (arith, at_first) in
      let many : length ks ≡ left = length-reverse (map (level_of table (masks_of p)) kept) ∙ length-map kept (level_of table (masks_of p)) ∙ is.count in
      let given : LeadsTo (Give ks) (whole_back p old reach) budget =
      subst (λ (m : Program (List Level)). LeadsTo m (whole_back p old reach) budget) (ends_at rs ks one (omega (arith, many, some))) is.leads in
      subst (λ (ls : List Level). Ends (whole_back p old reach) budget ls) (sym (map-reverse (level_of table (masks_of p)) kept)) (given.ends ks (Ends-give budget ks))
