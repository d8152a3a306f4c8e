-- A plan's way forward, ply by ply, and what is finished of it.
use Rattle.std.proofs.Common.{◌≡◌, ℕ, zero, suc, ◌+◌, ◌<◌, ◌≤◌, List, [], ◌∷◌, ◌++◌, length, get_or, take, map, inl, inr, sym, ap, ◌∙◌, subst, arith}
use Rattle.std.specs.Prelude.{reverse}
use Rattle.std.specs.List.{All}
use Rattle.std.proofs.lemmas.Bool.{cases_lt}
use Rattle.std.proofs.lemmas.List.{length-append, map_push, reverse-append, take-append-le, take_all}
use Rattle.std.proofs.lemmas.List.Elements.{All-get_or, All-push, All-take}
use Rattle.auto_core.specs.Automaton.{Automaton}
use Rattle.game_rules.specs.Game.{Position}
use Rattle.game_rules.specs.declared.men.Side.{Side}
use Rattle.rule_formula.specs.Fits.{masks_of}
use Rattle.mask_sets.specs.Stock.{mask_of}
use Rattle.set_plan.specs.Program.{Give}
use Rattle.set_plan.specs.Outcome.{Ends, IsPlanError}
use Rattle.set_plan.specs.Sets.{Grows}
use Rattle.set_plan.specs.declared.stop.PlanError.{PlanError}
use Rattle.set_plan.proofs.Composition.{Ends-bind, Ends-give, Error-bind, Error-later}
use Rattle.mate_plan.specs.Levels.{AreNames, level_of}
use Rattle.mate_plan.specs.Plan.{Level, Program, Rules, backward_from, forward, plan, point_level, reach_level, reach_more, turn_at}
use Rattle.mate_plan.specs.PlanOf.{plan_to, rules_of}
use Rattle.mate_plan.specs.declared.names.PartName.{PartName}
use Rattle.mate_plan.proofs.LevelLemmas.{length-grows}
use Rattle.winning_sets.specs.Finished.{AreFinished}
use Rattle.winning_sets.specs.Lent.{AreEmpties}
use Rattle.winning_sets.proofs.Backwards.{reversed_more}
use Rattle.winning_sets.proofs.Growing.{all_names-grow, grows-trans, level-grows, levels-grow, take-grows}
use Rattle.winning_sets.proofs.LentLemmas.{Names}

module _ (rules : Rules) (first : Side) (mask budget : ℕ) where
  abbrev Way : ℕ → Program (List Level)
  Way ply = forward rules first mask ply

  -- the first ply
  pub forward_first : {level : Level} → Ends (point_level rules mask) budget level → Ends (forward rules first mask 0) budget (level ∷ [])
  forward_first {level} h = Ends-bind (point_level rules mask) (λ l. Give (l ∷ [])) budget level (level ∷ []) h (Ends-give budget (level ∷ []))

  pub forward_first_error : (e : PlanError PartName) → IsPlanError (point_level rules mask) budget e → IsPlanError (forward rules first mask 0) budget e
  forward_first_error e h = Error-bind (point_level rules mask) (λ l. Give (l ∷ [])) budget e h

  -- a further ply
  abbrev next_level : ℕ → Level → Program Level
  next_level ply level = reach_level rules (turn_at first ply) (suc ply) level

  pub forward_next : (ply : ℕ) (level more : Level) (before : List Level) → Ends (forward rules first mask ply) budget (level ∷ before)
      → Ends (reach_level rules (turn_at first ply) (suc ply) level) budget more
      → Ends (forward rules first mask (suc ply)) budget (more ∷ level ∷ before)
  forward_next ply level more before h k =
      Ends-bind (Way ply) (reach_more rules first ply) budget (level ∷ before) (more ∷ level ∷ before) h
      (Ends-bind (next_level ply level) (λ l. Give (l ∷ level ∷ before)) budget more (more ∷ level ∷ before) k (Ends-give budget (more ∷ level ∷ before)))

  pub forward_next_error : (ply : ℕ) (level : Level) (before : List Level) (e : PlanError PartName)
      → Ends (forward rules first mask ply) budget (level ∷ before) → IsPlanError (reach_level rules (turn_at first ply) (suc ply) level) budget e
      → IsPlanError (forward rules first mask (suc ply)) budget e
  forward_next_error ply level before e h k =
      Error-later (reach_more rules first ply) budget (level ∷ before) h e
      (Error-bind (next_level ply level) (λ l. Give (l ∷ level ∷ before)) budget e k)

  -- an error on the way to a ply is one on the way to a later one
  pub forward_later_error : (more ply last : ℕ) (e : PlanError PartName) → more + ply ≡ last → IsPlanError (forward rules first mask ply) budget e
      → IsPlanError (forward rules first mask last) budget e
  forward_later_error zero ply last e sum h =
      let same : ply ≡ last = omega (arith, sum) in
      subst (λ (n : ℕ). IsPlanError (Way n) budget e) same h
  forward_later_error (suc more) ply zero e sum h = absurd (omega (arith, sum))
  forward_later_error (suc more) ply (suc last) e sum h =
      Error-bind (Way last) (reach_more rules first last) budget e (forward_later_error more ply last e (omega (arith, sum)) h)

module _ (p : Position) (budget last : ℕ) (some : 0 < last) where
  abbrev rules : Rules
  rules = rules_of p

  to_plan : (P : Program (List Level) → Type 0) → P (plan rules p.turn (mask_of p) last) → P (plan_to p last)
  to_plan P h = by last some h
    where
      by : (n : ℕ) → 0 < n → P (plan rules p.turn (mask_of p) n) → P (plan_to p n)
      by zero none k = absurd (omega (arith, none))
      by (suc n) is k = k

  -- the way forward and the way back make the plan
  pub plan_ends : {levels kept : List Level}
      → Ends (forward rules p.turn (mask_of p) last) budget levels
      → Ends (backward_from rules p.turn levels) budget kept → Ends (plan_to p last) budget kept
  plan_ends {levels} {kept} h k =
      to_plan (λ m. Ends m budget kept) (Ends-bind (forward rules p.turn (mask_of p) last) (backward_from rules p.turn) budget levels kept h k)

  pub plan_error : (e : PlanError PartName) → IsPlanError (forward rules p.turn (mask_of p) last) budget e → IsPlanError (plan_to p last) budget e
  plan_error e h =
      to_plan (λ m. IsPlanError m budget e) (Error-bind (forward rules p.turn (mask_of p) last) (backward_from rules p.turn) budget e h)

  pub plan_later_error : {levels : List Level} (e : PlanError PartName) → Ends (forward rules p.turn (mask_of p) last) budget levels
      → IsPlanError (backward_from rules p.turn levels) budget e → IsPlanError (plan_to p last) budget e
  plan_later_error {levels} e h k =
      to_plan (λ m. IsPlanError m budget e) (Error-later (backward_from rules p.turn) budget levels h e k)

module _ (p : Position) (budget : ℕ) where
  abbrev LevelsIn : List Automaton → List Names → List Level
  LevelsIn table levels = reverse (map (level_of table (masks_of p)) levels)

  module _ (masks : List ℕ) (empties old new : List Automaton) (levels : List Names) (is : AreFinished p budget masks empties old levels) (grows : Grows old new) where
    grown-names : All (AreNames p.men new (masks_of p)) levels
    grown-names = all_names-grow old new grows p.men (masks_of p) levels is.names

    -- where the table grows
    grown-ends : (ply : ℕ) → ply < length levels → Ends (forward (rules_of p) p.turn (mask_of p) ply) budget (LevelsIn new (take (suc ply) levels))
    grown-ends ply within =
        let there = All-take (AreNames p.men old (masks_of p)) (suc ply) levels is.names in
        let same : LevelsIn new (take (suc ply) levels) ≡ LevelsIn old (take (suc ply) levels) =
        ap reverse (levels-grow old new grows p.men (masks_of p) (take (suc ply) levels) there) in
        subst (λ (l : List Level). Ends (forward (rules_of p) p.turn (mask_of p) ply) budget l) (sym same) (is.ends ply within)

    module _ (masks' : List ℕ) (empties' : List Automaton) (ids : Names) (room : length levels ≤ 41) (named : AreNames p.men new (masks_of p) ids)
        (masks_are : masks' ≡ masks_of p) (empties_are : AreEmpties p.men (masks_of p) empties')
        (ends : Ends (forward (rules_of p) p.turn (mask_of p) (length levels)) budget (level_of new (masks_of p) ids ∷ LevelsIn new levels)) where
      more : List Names
      more = levels ++ ids ∷ []

      count : length (levels ++ ids ∷ []) ≡ suc (length levels)
      count = omega (arith, length-append levels (ids ∷ []))

      pushed-ends : (ply : ℕ) → ply < length (levels ++ ids ∷ []) → Ends (forward (rules_of p) p.turn (mask_of p) ply) budget (LevelsIn new (take (suc ply) (levels ++ ids ∷ [])))
      pushed-ends ply within =
          elim (cases_lt ply (length levels)) [
            | inl less ↦
                let same : take (suc ply) (levels ++ ids ∷ []) ≡ take (suc ply) levels = take-append-le (suc ply) levels (ids ∷ []) (omega (arith, less)) in
                subst (λ (l : List Names). Ends (forward (rules_of p) p.turn (mask_of p) ply) budget (LevelsIn new l)) (sym same) (grown-ends ply less)
            | inr least ↦
                let at_end : length levels ≡ ply = omega (arith, within, count, least) in
                let whole : take (suc ply) (levels ++ ids ∷ []) ≡ levels ++ ids ∷ [] = take_all (suc ply) (levels ++ ids ∷ []) (omega (arith, count, at_end)) in
                let turned : LevelsIn new (levels ++ ids ∷ []) ≡ level_of new (masks_of p) ids ∷ LevelsIn new levels =
                ap reverse (map_push (level_of new (masks_of p)) levels ids) ∙ reverse-append (map (level_of new (masks_of p)) levels) (level_of new (masks_of p) ids ∷ []) in
                let here = subst (λ (l : List Level). Ends (forward (rules_of p) p.turn (mask_of p) (length levels)) budget l) (sym turned) ends in
                let there = subst (λ (l : List Names). Ends (forward (rules_of p) p.turn (mask_of p) (length levels)) budget (LevelsIn new l)) (sym whole) here in
                subst (λ (n : ℕ). Ends (forward (rules_of p) p.turn (mask_of p) n) budget (LevelsIn new (take (suc ply) (levels ++ ids ∷ [])))) at_end there
          ]

      -- with a further ply
      pub finished_push : AreFinished p budget masks' empties' new (levels ++ ids ∷ [])
      finished_push = record {
        sound = is.sound;
        few = is.few;
        short = omega (arith, count, room);
        names = All-push (AreNames p.men new (masks_of p)) levels ids grown-names named;
        masks_are = λ within. masks_are;
        empties_are = λ within. empties_are;
        ends = pushed-ends;
      }

-- what comes after the last ply that is finished, over a table that has more sets
module _ (p : Position) (budget : ℕ) (masks : List ℕ) (empties old table : List Automaton) (levels : List Names)
    (is : AreFinished p budget masks empties old levels) (grows : Grows old table) where
  module _ (n : ℕ) (count : length levels ≡ suc n) (ids : Names) (at : ids ≡ get_or levels n ids) (side : Side) (turn : side ≡ turn_at p.turn n) where
    abbrev before : List Level
    before = LevelsIn p budget old (take n levels)

    named : AreNames p.men old (masks_of p) ids
    named = subst (AreNames p.men old (masks_of p)) (sym at) (All-get_or (AreNames p.men old (masks_of p)) levels n ids (omega (arith, count)) is.names)

    same_level : level_of table (masks_of p) ids ≡ level_of old (masks_of p) ids
    same_level = level-grows old table grows p.men (masks_of p) ids named

    opens : LevelsIn p budget old (take (suc n) levels) ≡ level_of table (masks_of p) ids ∷ before
    opens =
        reversed_more (level_of old (masks_of p)) levels n ids (omega (arith, count))
        ∙ ap (λ (l : Level). l ∷ before) (ap (level_of old (masks_of p)) (sym at) ∙ sym same_level)

    ends : Ends (forward (rules_of p) p.turn (mask_of p) n) budget (level_of table (masks_of p) ids ∷ before)
    ends = subst (λ (l : List Level). Ends (forward (rules_of p) p.turn (mask_of p) n) budget l) opens (is.ends n (omega (arith, count)))

    abbrev next : Side → Program Level
    next s = reach_level (rules_of p) s (suc n) (level_of table (masks_of p) ids)

    pub next_error : (e : PlanError PartName) → IsPlanError (reach_level (rules_of p) side (suc n) (level_of table (masks_of p) ids)) budget e
        → IsPlanError (forward (rules_of p) p.turn (mask_of p) (suc n)) budget e
    next_error e h =
        forward_next_error (rules_of p) p.turn (mask_of p) budget n (level_of table (masks_of p) ids) before e ends
        (subst (λ (s : Side). IsPlanError (next s) budget e) turn h)

    pub next_finished : (new : List Automaton) (more : Names) → Grows table new → length levels ≤ 41 → AreNames p.men new (masks_of p) more
        → Ends (reach_level (rules_of p) side (suc n) (level_of table (masks_of p) ids)) budget (level_of new (masks_of p) more)
        → AreFinished p budget masks empties new (levels ++ more ∷ [])
    next_finished new more later room named_more h =
        let all = grows-trans old table new grows later in
        let whole : take (suc n) levels ≡ levels = take_all (suc n) levels (omega (arith, count)) in
        let same : LevelsIn p budget new levels ≡ level_of table (masks_of p) ids ∷ before =
        ap reverse (levels-grow old new all p.men (masks_of p) levels is.names) ∙ ap (LevelsIn p budget old) (sym whole) ∙ opens in
        let here =
        forward_next (rules_of p) p.turn (mask_of p) budget n (level_of table (masks_of p) ids) (level_of new (masks_of p) more) before ends
        (subst (λ (s : Side). Ends (next s) budget (level_of new (masks_of p) more)) turn h) in
        let there = subst (λ (l : List Level). Ends (forward (rules_of p) p.turn (mask_of p) (suc n)) budget (level_of new (masks_of p) more ∷ l)) (sym same) here in
        let at_end = subst (λ (k : ℕ). Ends (forward (rules_of p) p.turn (mask_of p) k) budget (level_of new (masks_of p) more ∷ LevelsIn p budget new levels)) (sym count) there in
        finished_push p budget masks empties old new levels is all masks empties more room named_more (is.masks_are (omega (arith, count))) (is.empties_are (omega (arith, count))) at_end

  module _ (last : ℕ) (some : 0 < last) (within : last < length levels) where
    whole_ends : Ends (forward (rules_of p) p.turn (mask_of p) last) budget (LevelsIn p budget table (take (last + 1) levels))
    whole_ends =
        let one : suc last ≡ last + 1 = omega arith in
        let named = All-take (AreNames p.men old (masks_of p)) (last + 1) levels is.names in
        let same : LevelsIn p budget table (take (last + 1) levels) ≡ LevelsIn p budget old (take (last + 1) levels) =
        ap reverse (levels-grow old table grows p.men (masks_of p) (take (last + 1) levels) named) in
        let here = subst (λ (k : ℕ). Ends (forward (rules_of p) p.turn (mask_of p) last) budget (LevelsIn p budget old (take k levels))) one (is.ends last within) in
        subst (λ (l : List Level). Ends (forward (rules_of p) p.turn (mask_of p) last) budget l) (sym same) here

    pub finished_plan : (kept : List Level)
        → Ends (backward_from (rules_of p) p.turn (reverse (map (level_of table (masks_of p)) (take (last + 1) levels)))) budget kept
        → Ends (plan_to p last) budget kept
    finished_plan kept h = plan_ends p budget last some whole_ends h

    pub finished_plan_error : (e : PlanError PartName)
        → IsPlanError (backward_from (rules_of p) p.turn (reverse (map (level_of table (masks_of p)) (take (last + 1) levels)))) budget e
        → IsPlanError (plan_to p last) budget e
    finished_plan_error e h = plan_later_error p budget last some e whole_ends h

-- the first ply
pub first_finished : {p : Position} {budget : ℕ} {masks : List ℕ} {empties old : List Automaton} (new : List Automaton) (masks' : List ℕ) (empties' : List Automaton)
    (ids : Names)
    → AreFinished p budget masks empties old [] → Grows old new → AreNames p.men new (masks_of p) ids → masks' ≡ masks_of p
    → AreEmpties p.men (masks_of p) empties' → Ends (point_level (rules_of p) (mask_of p)) budget (level_of new (masks_of p) ids)
    → AreFinished p budget masks' empties' new (ids ∷ [])
first_finished {p} {budget} {masks} {empties} {old} new masks' empties' ids is grows named masks_are empties_are h =
    finished_push p budget masks empties old new [] is grows masks' empties' ids (omega arith) named masks_are empties_are
    (forward_first (rules_of p) p.turn (mask_of p) budget h)

-- the same under other names
pub same_finished : {p : Position} {budget : ℕ} (other : ℕ) {masks : List ℕ} {empties table : List Automaton} (shown : List Automaton) {levels : List Names} (more : List Names)
    → other ≡ budget → shown ≡ table → more ≡ levels → AreFinished p budget masks empties table levels → AreFinished p other masks empties shown more
same_finished {p} {budget} other {masks} {empties} {table} shown more b t l is =
    subst (λ (n : ℕ). AreFinished p n masks empties shown more) (sym b)
    (subst (λ (sets : List Automaton). AreFinished p budget masks empties sets more) (sym t)
    (subst (λ (names : List Names). AreFinished p budget masks empties table names) (sym l) is))

-- a table that has grown begins with what is finished
pub grown_finished : (p : Position) (budget other : ℕ) (masks : List ℕ) (empties old new : List Automaton) (count : ℕ) (levels more : List Names)
    → count ≤ length old → Grows old new → other ≡ budget → more ≡ levels → AreFinished p budget masks empties (take count old) levels
    → (count ≤ length new) × AreFinished p other masks empties (take count new) more
grown_finished p budget other masks empties old new count levels more within grows same names is =
    let longer = length-grows old new grows in
    (omega (arith, within, longer), same_finished other (take count new) more same (take-grows old new count grows within) names is)

-- and with one more ply all of it is finished
pub all_finished : (p : Position) (budget other : ℕ) (masks : List ℕ) (empties table : List Automaton) (count : ℕ) (levels more : List Names)
    → other ≡ budget → count ≡ length table → more ≡ levels → AreFinished p budget masks empties table levels
    → (count ≤ length table) × AreFinished p other masks empties (take count table) more
all_finished p budget other masks empties table count levels more same all names is =
    (omega (arith, all), same_finished other (take count table) more same (take_all count table (omega (arith, all))) names is)
