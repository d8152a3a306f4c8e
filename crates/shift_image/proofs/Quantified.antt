-- The old values of an image are bound within the budget, and so are all its steps.
use Rattle.std.proofs.Common.{◌≡◌, ◌≢◌, ℕ, ◌*◌, ◌≤◌, List, [], ◌∷◌, map, length, AllPairs, None}
use Rattle.std.proofs.Common.{arith, refl, sym, ◌∙◌, subst, inl, inr}
use Rattle.std.proofs.lemmas.Nat.{mul-le}
use Rattle.track_word.specs.declared.tracks.Var.{Var}
use Rattle.lin_formula.specs.Tree.{Tree, Among, Not, Ex, free_vars, steps}
use Rattle.lin_formula.specs.Free.{IsOneOf}
use Rattle.lin_formula.specs.SetOf.{SetOf, members}
use Rattle.formula_auto.specs.Step.{Exceeds, FirstOver}
use Rattle.shift_image.specs.Equations.{Equation, colours}
use Rattle.shift_image.specs.Factored.{IsFactored, Settles, AndBound, EquationBound, ExBound}
use Rattle.shift_image.specs.States.{HasMoreResiduals, StatesBound}
use Rattle.shift_image.specs.declared.shift.ValueShift.{ValueShift}
use Rattle.shift_image.specs.Image.{Image, IsShiftable, AreOtherVars, ex_all, and_all, gone, step}
use Rattle.shift_image.specs.Image.{moved_tree, part_tree, image_tree, equation_of}
use Rattle.shift_image.specs.Laws.{start_colours, HasFewStates}
use Rattle.shift_image.proofs.Bindings.{vars-and_all, vars-ex_all}
use Rattle.shift_image.proofs.Shifts.{IsAmong, gone-among, beside, later, new-gone, clear-not_gone}
use Rattle.shift_image.proofs.Withins.{AreWithin, within-append, none-over}
use Rattle.shift_image.proofs.Colours.{turned, colours-later, colours-turned}
use Rattle.shift_image.proofs.Factors.{Sides, Up, Down, sides, IsBeside, beside-one}
use Rattle.shift_image.proofs.Factors.{factored-self, factored-step, factored-ex}
use Rattle.shift_image.proofs.Members.{members-bound}
use Rattle.shift_image.proofs.Chains.{within-changes, factored-clear, within-clear}

settles-old : {s : ValueShift} {q : Equation} → Sides s q → s.new ≢ s.gone → Settles s.gone q
settles-old (Up greater less) differ = inl (less, λ e. differ (sym greater ∙ e))
settles-old (Down greater less) differ = inr (greater, λ e. differ (sym less ∙ e))

-- the old variables are not new ones, and stand neither in the part nor in the other equations
pub record AreSettled (shifts : List ValueShift) (p : Tree) (qs : List Equation) : Type 0 where
  pub new : (s t : ValueShift) → IsAmong s shifts → IsAmong t shifts → s.new ≢ t.gone
  pub apart : AllPairs AreOtherVars shifts
  pub part : (s : ValueShift) → IsAmong s shifts → (y : Var) → IsOneOf y (free_vars p) → y ≢ s.gone
  pub others : (s : ValueShift) → IsAmong s shifts → IsBeside s.gone qs

settled-later : (s : ValueShift) (shifts : List ValueShift) {p : Tree} {qs : List Equation} → AreSettled (s ∷ shifts) p qs
    → AreSettled shifts p (equation_of s ∷ qs)
settled-later s shifts are = record {
  new = λ t r h k. are.new t r (inr h) (inr k);
  apart = later s shifts are.apart;
  part = λ t h. are.part t (inr h);
  others = λ t h.
      let old = (beside s shifts are.apart t h).gone in
      let (greater, less) = beside-one t.gone (sides s) (are.new s t (inl refl) (inr h)) old in
      (greater, less, are.others t (inr h));
}

module _ (bound : ExBound) (e : ℕ → SetOf) (budget each : ℕ) (p : Tree)
    (few : ¬ HasMoreResiduals p (members e) each) where
  record AreBound (shifts : List ValueShift) (w : Tree) (qs : List Equation) : Type 0 where
    pub factored : IsFactored (ex_all (gone shifts) w) p qs (members e)
    pub within : AreWithin (steps (ex_all (gone shifts) w)) (members e) budget

  bind : {shifts : List ValueShift} {w : Tree} {qs : List Equation} → AreSettled shifts p qs
      → IsFactored w p (turned shifts qs) (members e) → colours (turned shifts qs) * each ≤ budget
      → AreWithin (steps w) (members e) budget → AreBound shifts w qs
  bind {shifts = []} are is enough within = record { factored = is; within = within }
  bind {shifts = s ∷ shifts} {w} {qs} are is enough within =
      let inner = bind (settled-later s shifts are) is enough within in
      let differ = are.new s s (inl refl) (inl refl) in
      let others = are.part s (inl refl) in
      let beside = are.others s (inl refl) in
      let outer = factored-ex s (ex_all (gone shifts) w) p qs (members e) inner.factored differ others beside in
      let later = colours-later (s ∷ shifts) qs in
      let fewer = mul-le (colours qs) each (colours (turned (s ∷ shifts) qs)) each later (omega arith) in
      let settles = settles-old (sides s) differ in
      let none : ¬ Exceeds (Ex s.gone (ex_all (gone shifts) w)) (members e) budget = λ more.
      few (bound s.gone (ex_all (gone shifts) w) p (equation_of s) qs e budget each inner.factored settles others
      outer.equation_vars (omega (arith, fewer, enough)) more) in
      record {
        factored = outer;
        within =
            within-append (steps (ex_all (gone shifts) w)) (Ex s.gone (ex_all (gone shifts) w) ∷ []) (members e) budget
            inner.within (none, tt);
      }

  pub bound-within : (shifts : List ValueShift) (w : Tree) → AreSettled shifts p []
      → IsFactored w p (turned shifts []) (members e) → colours (turned shifts []) * each ≤ budget
      → AreWithin (steps w) (members e) budget → AreWithin (steps (ex_all (gone shifts) w)) (members e) budget
  bound-within shifts w are is enough within = (bind are is enough within).within

-- the old variables do not stand in the part of an image
part-settled : {i : Image} → IsShiftable i → AreSettled i.shifts (part_tree i) []
part-settled {i} is = record {
  new = new-gone i is;
  apart = is.apart;
  part = λ s h y free same.
      elim ((vars-and_all y (moved_tree i) (map Not i.clear)).0 free) [
        | inl k ↦ ((vars-ex_all y (gone i.shifts) (step i)).0 k).0 (among y s h same)
        | inr k ↦ clear-not_gone i is y k (among y s h same)
      ];
  others = λ s h. tt;
}
  where
    among : (y : Var) (s : ValueShift) → IsAmong s i.shifts → y ≡ s.gone → IsOneOf y (gone i.shifts)
    among y s h same = subst (λ x. IsOneOf x (gone i.shifts)) (sym same) (gone-among s i.shifts h)

-- what is proved of the words that formulas tell apart
pub record Bounds : Type 0 where
  pub conjunctions : AndBound
  pub equations : EquationBound
  pub projections : ExBound
  pub states : StatesBound

pub steps-within : Bounds → {i : Image} {e : ℕ → SetOf} {budget each : ℕ} → IsShiftable i → HasFewStates i e budget each
    → FirstOver (steps (image_tree i)) (members e) budget 1 None
steps-within bounds {i} {e} {budget} {each} is few =
    let once : 1 * start_colours i.shifts ≡ start_colours i.shifts = omega arith in
    let room : 1 * start_colours i.shifts * length few.set.accept ≤ budget =
    subst (λ n. n * length few.set.accept ≤ budget) (sym once) few.start in
    let members_few = members-bound e i.set i.vars few.set few.is_set few.valid few.arity few.integers in
    let start = within-changes e budget (length few.set.accept) bounds.equations i.shifts (Among i.set i.vars)
    (Among i.set i.vars) [] 1 (factored-self (Among i.set i.vars) (members e)) (omega arith) room members_few tt in
    let factored = factored-step i is (members e) in
    let enough : colours (turned i.shifts []) * each ≤ budget =
    subst (λ n. n * each ≤ budget) (sym (colours-turned i.shifts)) few.changes in
    let asked = within-clear e budget each bounds.conjunctions i.clear (step i) (moved_tree i) (turned i.shifts [])
    factored enough few.clear start in
    let whole = factored-clear e budget each i.clear factored in
    let part_few = bounds.states few.part (part_tree i) e each few.is_part few.decides few.few in
    none-over (steps (image_tree i)) (members e) budget 1
    (bound-within bounds.projections e budget each (part_tree i) part_few i.shifts (and_all (step i) (map Not i.clear))
    (part-settled is) whole enough asked)
