-- Where one more move is legal: the parts, one after the other.
use Rattle.std.proofs.Common.{◌≡◌, ℕ, suc, ◌+◌, ◌<◌, Bool, List, [], ◌∷◌, ◌++◌, length, map, Ok, Err, sym, ap, ◌∙◌, subst, arith}
use Rattle.std.specs.Prelude.{Result, if◌then◌else◌}
use Rattle.game_rules.specs.Game.{Position}
use Rattle.game_rules.specs.declared.men.Square.{Square}
use Rattle.lin_formula.specs.SetOf.{SetOf}
use Rattle.lin_formula.specs.Tree.{Not, Tree}
use Rattle.rule_formula.specs.declared.opt.Bearing.{Bearing}
use Rattle.rule_formula.specs.declared.opt.Opt.{Opt}
use Rattle.rule_formula.specs.Placed.{is_live}
use Rattle.rule_formula.specs.Trees.{is_other}
use Rattle.line_formula.specs.declared.leg.Leg.{Leg}
use Rattle.line_formula.specs.Paths.{dangers_at, first_part, further_parts, leg_of, legs_at, mask_at, threats_at}
use Rattle.line_formula.specs.Places.{home}
use Rattle.line_formula.specs.Rules.{capture_parts, clear_parts, on_way}
use Rattle.set_plan.specs.Outcome.{Ends, IsPlanError}
use Rattle.set_plan.specs.Program.{Item, each}
use Rattle.set_plan.specs.Unite.{Made, unite, with_item}
use Rattle.set_plan.specs.declared.stop.PlanError.{PlanError}
use Rattle.set_plan.proofs.Composition.{Error-bind, LeadsTo, LeadsTo-error, LeadsTo-later, LeadsTo-self}
use Rattle.set_plan.proofs.Folds.{each-map}
use Rattle.line_plan.specs.Plan as plan
use Rattle.line_engine.specs.declared.path.PathNode.{PathNode}
use Rattle.line_engine.specs.declared.path.PathStep.{PathStep}
use Rattle.line_engine.specs.declared.errors.CrowdError.{CrowdError}
use Rattle.line_engine.specs.Answers.{Answers, as_plan_error}
use Rattle.line_engine.specs.Nodes.{position_of, safe_after}
use Rattle.line_engine.proofs.EachLemmas.{Ends-append, front_error, front_more, later_error}
use Rattle.line_engine.proofs.PartLemmas.{clear_front, clear_more}
use Rattle.line_engine.proofs.StepLemmas.{bears_at, step_place}

-- what leads to the end of the whole answers for the whole
pub answers_left : {A R : Type 0} {left whole : plan.Program A} {budget : ℕ} (view : R → A) → LeadsTo left whole budget → (r : Result R CrowdError)
    → Answers left budget view r → Answers whole budget view r
answers_left view leads (Ok r) h = leads.ends (view r) h
answers_left view leads (Err e) h = LeadsTo-error leads (as_plan_error e) h

-- the parts of a further move
parts_are : (p q : Position) (s path : List Opt) (o : Opt) (legs : List Leg) (leg : Leg) (mask : ℕ) → legs ≡ legs_at p s → leg ≡ leg_of p.men o → mask ≡ mask_at p s → q ≡ p
    → path ≡ o ∷ s
    → capture_parts (home p.men) legs leg o.taken ++ (clear_parts (home p.men) legs leg (is_live mask) o.taken (length p.men) ++ safe_after q path)
    ≡ further_parts p s o
parts_are p q s path o legs leg mask legs_is leg_is mask_is place path_is =
    ap (λ xs. capture_parts (home p.men) xs leg o.taken ++ (clear_parts (home p.men) xs leg (is_live mask) o.taken (length p.men) ++ safe_after q path)) legs_is
    ∙ ap (λ (l : Leg). capture_parts (home p.men) (legs_at p s) l o.taken
    ++ (clear_parts (home p.men) (legs_at p s) l (is_live mask) o.taken (length p.men) ++ safe_after q path)) leg_is
    ∙ ap (λ m. capture_parts (home p.men) (legs_at p s) (leg_of p.men o) o.taken
    ++ (clear_parts (home p.men) (legs_at p s) (leg_of p.men o) (is_live m) o.taken (length p.men) ++ safe_after q path)) mask_is
    ∙ ap (λ (r : Position). capture_parts (home p.men) (legs_at p s) (leg_of p.men o) o.taken
    ++ (clear_parts (home p.men) (legs_at p s) (leg_of p.men o) (is_live (mask_at p s)) o.taken (length p.men) ++ safe_after r path)) place
    ∙ ap (λ t. capture_parts (home p.men) (legs_at p s) (leg_of p.men o) o.taken
    ++ (clear_parts (home p.men) (legs_at p s) (leg_of p.men o) (is_live (mask_at p s)) o.taken (length p.men) ++ safe_after p t)) path_is

module _ (step : PathStep) (budget : ℕ) (begun : Made) where
  abbrev place_before : Position
  place_before = position_of step.before.crowd

  abbrev path_before : List Opt
  path_before = step.before.path.now

  abbrev captures : List Tree
  captures = capture_parts (home step.before.crowd.men.now) step.before.legs.now step.leg step.option.taken

  abbrev clears : List Tree
  clears = clear_parts (home step.before.crowd.men.now) step.before.legs.now step.leg (is_live step.before.force.mask) step.option.taken (length step.before.crowd.men.now)

  abbrev safes : List Tree
  safes = safe_after (position_of step.after.crowd) step.after.path.now

  abbrev by : Tree → Made → plan.Program Made
  by = plan.narrow (length step.after.path.now)

  abbrev first : plan.Program Made
  first = plan.narrow (length path_before) (first_part place_before path_before step.option) begun

  abbrev whole : plan.Program Made
  whole = plan.reach place_before step.before.crowd.winner path_before step.option begun

  pub first_error : (e : PlanError (Unit {0})) → IsPlanError first budget e → IsPlanError whole budget e
  first_error e h = Error-bind first (each (further_parts place_before path_before step.option) (plan.narrow (suc (length path_before)))) budget e h

  module _ (next : Made) (ends : Ends first budget next) where
    first_left : LeadsTo (each (captures ++ (clears ++ safes)) by next) whole budget
    first_left =
        let further = further_parts place_before path_before step.option in
        let rest : LeadsTo (each further (plan.narrow (suc (length path_before))) next) whole budget =
        LeadsTo-later (each further (plan.narrow (suc (length path_before)))) ends (LeadsTo-self whole budget) in
        let counted : LeadsTo (each further by next) whole budget =
        subst (λ n. LeadsTo (each further (plan.narrow n) next) whole budget) (sym (ap (λ xs. length xs) step.path)) rest in
        subst (λ ts. LeadsTo (each ts by next) whole budget)
        (sym (parts_are place_before (position_of step.after.crowd) path_before step.after.path.now step.option step.before.legs.now step.leg step.before.force.mask
        step.before.is.legs_are step.leg_is step.before.is.mask (step_place step) step.path)) counted

    pub captures_error : (e : PlanError (Unit {0})) → IsPlanError (each captures by next) budget e → IsPlanError whole budget e
    captures_error e h = front_error captures (clears ++ safes) by next budget first_left e h

    module _ (second : Made) (captured : Ends (each captures by next) budget second) where
      captures_left : LeadsTo (each (clears ++ safes) by second) whole budget
      captures_left = front_more captures (clears ++ safes) by next budget first_left second captured

      pub clears_error : (e : PlanError (Unit {0})) → IsPlanError (each clears by second) budget e → IsPlanError whole budget e
      clears_error e h = front_error clears safes by second budget captures_left e h

      pub clears_left : (third : Made) → Ends (each clears by second) budget third → LeadsTo (each safes by third) whole budget
      clears_left third cleared = front_more clears safes by second budget captures_left third cleared

-- man by man, that he is not on the way
module _ (start : ℕ → Square) (legs : List Leg) (leg : Leg) (live : ℕ → Bool) (t k budget : ℕ) (first so_far : Made) (n : ℕ)
    (ends : Ends (each (clear_parts start legs leg live t n) (plan.narrow k) first) budget so_far) where
  abbrev next_parts : List Tree
  next_parts = if is_other live leg.man t (n + 1) then Not (on_way start legs leg (n + 1)) ∷ [] else []

  pub clear_ends : (next : Made) → Ends (each next_parts (plan.narrow k) so_far) budget next → Ends (each (clear_parts start legs leg live t (n + 1)) (plan.narrow k) first) budget next
  clear_ends next h =
      subst (λ ts. Ends (each ts (plan.narrow k) first) budget next) (sym (clear_more start legs leg live t n))
      (Ends-append (clear_parts start legs leg live t n) next_parts (plan.narrow k) first budget so_far next ends h)

  pub clear_error : (m : ℕ) → n < m → (e : PlanError (Unit {0})) → IsPlanError (each next_parts (plan.narrow k) so_far) budget e
      → IsPlanError (each (clear_parts start legs leg live t m) (plan.narrow k) first) budget e
  clear_error m less e h =
      let (rest, is) = clear_front start legs leg live t (n + 1) m (omega (arith, less)) in
      let here : IsPlanError (each (clear_parts start legs leg live t (n + 1)) (plan.narrow k) first) budget e =
      subst (λ ts. IsPlanError (each ts (plan.narrow k) first) budget e) (sym (clear_more start legs leg live t n))
      (later_error (clear_parts start legs leg live t n) next_parts (plan.narrow k) first budget so_far ends e h) in
      let whole = each (clear_parts start legs leg live t (n + 1) ++ rest) (plan.narrow k) first in
      subst (λ ts. IsPlanError (each ts (plan.narrow k) first) budget e) (sym is)
      (front_error (clear_parts start legs leg live t (n + 1)) rest (plan.narrow k) first budget (LeadsTo-self whole budget) e here)

-- ray by ray, that no man bears along it
module _ {R : Type 0} (node : PathNode) (budget : ℕ) (view : R → Made) (r : Result R CrowdError) where
  pub safe_answers : (xs : List Bearing) (first : Made) → xs ≡ dangers_at (position_of node.crowd) node.path.now
      → Answers (each xs (λ b. plan.narrow (length node.path.now) (Not (bears_at node b))) first) budget view r
      → Answers (each (safe_after (position_of node.crowd) node.path.now) (plan.narrow (length node.path.now)) first) budget view r
  safe_answers xs first is h =
      let by = plan.narrow (length node.path.now) in
      let all = dangers_at (position_of node.crowd) node.path.now in
      subst (λ (m : plan.Program Made). Answers m budget view r) (sym (each-map (λ b. Not (bears_at node b)) by all first))
      (subst (λ (ys : List Bearing). Answers (each ys (λ b. by (Not (bears_at node b))) first) budget view r) is h)

  -- and that one does
  pub check_answers : (xs : List Bearing) (first : Made) (s : SetOf) → xs ≡ threats_at (position_of node.crowd) node.path.now
      → Answers (each xs (λ b. with_item (plan.distances (length node.path.now)) tt (plan.narrowed (length node.path.now) (bears_at node b) s)) first) budget view r
      → Answers (unite (plan.distances (length node.path.now)) tt first
      (map (λ b. plan.narrowed (length node.path.now) (bears_at node b) s) (threats_at (position_of node.crowd) node.path.now))) budget view r
  check_answers xs first s is h =
      let item : Bearing → Item = λ b. plan.narrowed (length node.path.now) (bears_at node b) s in
      let by : Item → Made → plan.Program Made = with_item (plan.distances (length node.path.now)) tt in
      let all = threats_at (position_of node.crowd) node.path.now in
      subst (λ (m : plan.Program Made). Answers m budget view r) (sym (each-map item by all first))
      (subst (λ (ys : List Bearing). Answers (each ys (λ b. by (item b)) first) budget view r) is h)
