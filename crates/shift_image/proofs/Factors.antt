-- Chains of an image are factored: into its set and the changes, then into the moved set and the changes.
use Rattle.std.proofs.Common.{◌≡◌, ◌≢◌, ◌⊎◌, ◌↔◌, ℤ, pos, negsuc, ◌+ℤ◌, List, [], ◌∷◌, map}
use Rattle.std.proofs.Common.{refl, sym, ap, ◌∙◌, subst, inl, inr}
use Rattle.track_word.specs.declared.tracks.Var.{Var}
use Rattle.track_word.specs.Tracks.{Values, without_var}
use Rattle.lin_formula.specs.Tree.{Tree, Among, And, Ex, free_vars}
use Rattle.lin_formula.specs.Free.{IsOneOf, IsFree}
use Rattle.lin_formula.specs.Holds.{Sets, Holds, with_value}
use Rattle.lin_formula.proofs.FreeVars.{free_vars-free, one_of-with_vars, one_of-without_var}
use Rattle.lin_formula.proofs.Coincide.{coincide}
use Rattle.shift_image.specs.Equations.{Equation, IsSolved, AreSolved}
use Rattle.shift_image.specs.Factored.{AreOver, IsFactored}
use Rattle.shift_image.specs.declared.shift.ValueShift.{ValueShift}
use Rattle.shift_image.specs.Image.{Image, IsShiftable, and_all, change, step, gone, moved_tree}
use Rattle.shift_image.specs.Image.{equation_by, equation_of}
use Rattle.shift_image.specs.Laws.{negated}
use Rattle.formula_auto.proofs.Variables.{one_of-cases}
use Rattle.shift_image.proofs.Bindings.{AgreeBut, AllHold, with_value-same, with_value-other}
use Rattle.shift_image.proofs.Bindings.{vars-ex_all, holds-and_all, holds-ex_all}
use Rattle.shift_image.proofs.Shifts.{IsAmong, new-not_gone, gone-by}
use Rattle.shift_image.proofs.Changes.{change-solved, change-vars, solved-is, each-change}
use Rattle.shift_image.proofs.Colours.{turned}

-- the equation's variables are those of the change
pub data Sides (s : ValueShift) (q : Equation) : Type 0 where
  Up : q.greater ≡ s.new → q.less ≡ s.gone → Sides s q
  Down : q.greater ≡ s.gone → q.less ≡ s.new → Sides s q

sides-by : (s : ValueShift) (by : ℤ) → Sides s (equation_by s.new s.gone by)
sides-by s (pos n) = Up refl refl
sides-by s (negsuc n) = Down refl refl

pub sides : (s : ValueShift) → Sides s (equation_of s)
sides s = sides-by s s.by

over-one : {s : ValueShift} {q : Equation} (vars : List Var) → Sides s q → IsOneOf s.new vars → IsOneOf s.gone vars
    → IsOneOf q.greater vars × IsOneOf q.less vars
over-one vars (Up greater less) new old =
    (subst (λ x. IsOneOf x vars) (sym greater) new, subst (λ x. IsOneOf x vars) (sym less) old)
over-one vars (Down greater less) new old =
    (subst (λ x. IsOneOf x vars) (sym greater) old, subst (λ x. IsOneOf x vars) (sym less) new)

pub over-more : (qs : List Equation) (vars more : List Var) → ((x : Var) → IsOneOf x vars → IsOneOf x more)
    → AreOver qs vars → AreOver qs more
over-more [] vars more within over = tt
over-more (q ∷ qs) vars more within over =
    (within q.greater over.0, within q.less over.1, over-more qs vars more within over.2)

-- a formula is factored into itself
pub factored-self : (f : Tree) (e : Sets) → IsFactored f f [] e
factored-self f e = record {
  part_vars = λ x h. h;
  equation_vars = tt;
  holds = λ v. (λ h. (h, tt), λ h. h.0);
}

module _ (w p : Tree) (qs : List Equation) (e : Sets) (is : IsFactored w p qs e) where
  left : (g : Tree) (x : Var) → IsOneOf x (free_vars w) → IsOneOf x (free_vars (And w g))
  left g x h = (one_of-with_vars x (free_vars w) (free_vars g)).1 (inl h)

  right : (g : Tree) (x : Var) → IsOneOf x (free_vars g) → IsOneOf x (free_vars (And w g))
  right g x h = (one_of-with_vars x (free_vars w) (free_vars g)).1 (inr h)

  -- with a change more
  pub factored-change : (s : ValueShift) → IsFactored (And w (change s)) p (equation_of s ∷ qs) e
  factored-change s =
      let new = right (change s) s.new ((change-vars s.new s).1 (inl refl)) in
      let old = right (change s) s.gone ((change-vars s.gone s).1 (inr refl)) in
      let over = over-more qs (free_vars w) (free_vars (And w (change s))) (left (change s)) is.equation_vars in
      let (greater, less) = over-one (free_vars (And w (change s))) (sides s) new old in
      record {
        part_vars = λ x h. left (change s) x (is.part_vars x h);
        equation_vars = (greater, less, over);
        holds = λ v. (
          λ h. let k = (is.holds v).0 h.0 in (k.0, ((change-solved s e v).0 h.1, k.1)),
          λ h. ((is.holds v).1 (h.0, h.1.1), (change-solved s e v).1 h.1.0),
        );
      }

  -- with a formula more in both
  pub factored-beside : (g : Tree) → IsFactored (And w g) (And p g) qs e
  factored-beside g = record {
    part_vars = λ x h. elim ((one_of-with_vars x (free_vars p) (free_vars g)).0 h) [
      | inl k ↦ left g x (is.part_vars x k)
      | inr k ↦ right g x k
    ];
    equation_vars = over-more qs (free_vars w) (free_vars (And w g)) (left g) is.equation_vars;
    holds = λ v. (
      λ h. let k = (is.holds v).0 h.0 in ((k.0, h.1), k.1),
      λ h. ((is.holds v).1 (h.0.0, h.1), h.0.1),
    );
  }

pub factored-changes : (shifts : List ValueShift) {w p : Tree} {qs : List Equation} {e : Sets} → IsFactored w p qs e
    → IsFactored (and_all w (map change shifts)) p (turned shifts qs) e
factored-changes [] is = is
factored-changes (s ∷ shifts) {w} {p} {qs} {e} is =
    factored-changes shifts (factored-change w p qs e is s)

-- the equations of the changes are solved, and the others too
later-solved : (shifts : List ValueShift) (qs : List Equation) (v : Values) → AreSolved (turned shifts qs) v → AreSolved qs v
later-solved [] qs v h = h
later-solved (s ∷ shifts) qs v h = (later-solved shifts (equation_of s ∷ qs) v h).1

each-solved : (shifts : List ValueShift) (qs : List Equation) (v : Values) → AreSolved (turned shifts qs) v → (s : ValueShift)
    → IsAmong s shifts → IsSolved v (equation_of s)
each-solved [] qs v h s k = absurd k
each-solved (t ∷ shifts) qs v h s (inl is) =
    subst (λ r. IsSolved v (equation_of r)) (sym is) (later-solved shifts (equation_of t ∷ qs) v h).0
each-solved (t ∷ shifts) qs v h s (inr k) = each-solved shifts (equation_of t ∷ qs) v h s k

-- a member and how it changes are a moved member and the changes
module _ (i : Image) (is : IsShiftable i) (e : Sets) where
  from-set : IsFactored (step i) (Among i.set i.vars) (turned i.shifts []) e
  from-set =
      factored-changes i.shifts (factored-self (Among i.set i.vars) e)

  -- values of which the changes hold are settled by those that stay
  settled : (v w : Values) → AgreeBut (gone i.shifts) v w → AreSolved (turned i.shifts []) v
      → AllHold (map change i.shifts) e w → w ≡ v
  settled v w agree solved changes = λ k n. at (record { 0 = n }) (one_of-cases (record { 0 = n }) (gone i.shifts)) k
    where
      at-gone : (s : ValueShift) → IsAmong s i.shifts → w s.gone.0 ≡ v s.gone.0
      at-gone s h =
          let first = (solved-is s w).0 ((change-solved s e w).0 (each-change i.shifts e w changes s h)) in
          let last = (solved-is s v).0 (each-solved i.shifts [] v solved s h) in
          first ∙ ap (λ n. n +ℤ negated s.by) (agree s.new (new-not_gone i is s h)) ∙ sym last

      at : (x : Var) → IsOneOf x (gone i.shifts) ⊎ (¬ IsOneOf x (gone i.shifts)) → w x.0 ≡ v x.0
      at x (inl h) =
          let by = gone-by x i.shifts h in
          ap (λ (y : Var). w y.0) by.is ∙ at-gone by.shift by.among ∙ ap (λ (y : Var). v y.0) (sym by.is)
      at x (inr none) = agree x none

  pub factored-step : IsFactored (step i) (moved_tree i) (turned i.shifts []) e
  factored-step = record {
    part_vars = λ x h. ((vars-ex_all x (gone i.shifts) (step i)).0 h).1;
    equation_vars = from-set.equation_vars;
    holds = λ v. (
      λ h. ((holds-ex_all (gone i.shifts) (step i) e v).1 (v, λ x none. refl, h), ((from-set.holds v).0 h).1),
      λ h.
          let (w, agree, k) = (holds-ex_all (gone i.shifts) (step i) e v).0 h.0 in
          let changes = ((holds-and_all (Among i.set i.vars) (map change i.shifts) e w).0 k).1 in
          subst (Holds (step i) e) (settled v w agree h.1 changes) k,
    );
  }

-- neither variable of any of the equations
abbrev pub IsBeside : Var → List Equation → Type 0
IsBeside x [] = Unit {0}
IsBeside x (q ∷ qs) = (q.greater ≢ x) × (q.less ≢ x) × IsBeside x qs

pub beside-one : {s : ValueShift} (x : Var) {q : Equation} → Sides s q → s.new ≢ x → s.gone ≢ x
    → (q.greater ≢ x) × (q.less ≢ x)
beside-one x (Up greater less) new old = (λ e. new (sym greater ∙ e), λ e. old (sym less ∙ e))
beside-one x (Down greater less) new old = (λ e. old (sym greater ∙ e), λ e. new (sym less ∙ e))

over-without : (x : Var) (qs : List Equation) (vars : List Var) → IsBeside x qs → AreOver qs vars
    → AreOver qs (without_var x vars)
over-without x [] vars beside over = tt
over-without x (q ∷ qs) vars beside over = (
  (one_of-without_var q.greater x vars).1 (beside.0, over.0),
  (one_of-without_var q.less x vars).1 (beside.1, over.1),
  over-without x qs vars beside.2 over.2,
)

solved-beside : (x : Var) (n : ℤ) (qs : List Equation) (v : Values) → IsBeside x qs
    → AreSolved qs v ↔ AreSolved qs (with_value v x n)
solved-beside x n [] v beside = (λ h. h, λ h. h)
solved-beside x n (q ∷ qs) v beside =
    let greater = with_value-other v q.greater x n beside.0 in
    let less = ap (λ k. k +ℤ pos q.by) (with_value-other v q.less x n beside.1) in
    let rest = solved-beside x n qs v beside.2 in
    (λ h. (greater ∙ h.0 ∙ sym less, rest.0 h.1), λ h. (sym greater ∙ h.0 ∙ less, rest.1 h.1))

holds-beside : (x : Var) (n : ℤ) (p : Tree) (e : Sets) (v : Values) → ((y : Var) → IsOneOf y (free_vars p) → y ≢ x)
    → Holds p e v ↔ Holds p e (with_value v x n)
holds-beside x n p e v others =
    let at : (y : Var) → IsFree y p → with_value v x n y.0 ≡ v y.0 =
    λ y free. with_value-other v y x n (others y ((free_vars-free p y).1 free)) in
    (coincide p e v (with_value v x n) (λ y free. sym (at y free)), coincide p e (with_value v x n) v at)

-- without an old variable, the rest is factored by the other equations
module _ (s : ValueShift) (w p : Tree) (qs : List Equation) (e : Sets) (is : IsFactored w p (equation_of s ∷ qs) e)
    (differ : s.new ≢ s.gone) (others : (y : Var) → IsOneOf y (free_vars p) → y ≢ s.gone)
    (beside : IsBeside s.gone qs) where
  -- the values with an old one by which the change holds
  abbrev taken : Values → ℤ
  taken v = v s.new.0 +ℤ negated s.by

  abbrev with_taken : Values → Values
  with_taken v = with_value v s.gone (taken v)

  taken-solved : (v : Values) → IsSolved (with_taken v) (equation_of s)
  taken-solved v =
      let old = with_value-same v s.gone s.gone (taken v) refl in
      let new = with_value-other v s.new s.gone (taken v) differ in
      (solved-is s (with_taken v)).1 (old ∙ ap (λ k. k +ℤ negated s.by) (sym new))

  pub factored-ex : IsFactored (Ex s.gone w) p qs e
  factored-ex = record {
    part_vars = λ y h. (one_of-without_var y s.gone (free_vars w)).1 (others y h, is.part_vars y h);
    equation_vars = over-without s.gone qs (free_vars w) beside is.equation_vars.2;
    holds = λ v. (
      λ (n, h).
          let k = (is.holds (with_value v s.gone n)).0 h in
          ((holds-beside s.gone n p e v others).1 k.0, (solved-beside s.gone n qs v beside).1 k.1.1),
      λ h.
          let part = (holds-beside s.gone (taken v) p e v others).0 h.0 in
          let rest = (solved-beside s.gone (taken v) qs v beside).0 h.1 in
          (taken v, (is.holds (with_taken v)).1 (part, (taken-solved v, rest))),
    );
  }
