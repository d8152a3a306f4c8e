-- What the formulas that compare places say.
use Rattle.std.proofs.Common.{◌≡◌, ◌≢◌, ◌↔◌, ℕ, zero, suc, ◌<◌, ◌≤◌, List, [], ◌∷◌, length, ℤ, pos, negsuc, ◌+ℤ◌, ◌-ℤ◌, ◌*ℤ◌, refl, sym, ap, ◌∙◌, subst, arith}
use Rattle.std.proofs.lemmas.Int.{ints}
use Rattle.std.proofs.Math.IntN.{*ℤ_comm}
use Rattle.std.proofs.lemmas.Bool.Decides.{nat_tests}
use Rattle.game_rules.specs.declared.men.Square.{Square}
use Rattle.track_word.specs.Tracks.{Values}
use Rattle.track_word.specs.Atom.{Compares, sum_of}
use Rattle.track_word.specs.declared.tracks.Var.{Var}
use Rattle.track_word.specs.declared.atoms.Rel.{Rel}
use Rattle.auto_core.proofs.Products.{mul-add}
use Rattle.lin_formula.specs.Holds.{Holds, Sets, with_value}
use Rattle.rule_formula.specs.Seats.{var}
use Rattle.rule_formula.proofs.SweptLemmas.{value_other, value_same}
use Rattle.line_formula.specs.declared.gap.Gap.{Gap}
use Rattle.line_formula.specs.declared.leg.Leg.{Leg}
use Rattle.line_formula.specs.Atoms.{constant, gap_tree, held, sum_tree, terms, weight, weighed, with_term}
use Rattle.line_formula.specs.Places.{place, step_x, step_y}
use Rattle.line_formula.proofs.Numbers.{weighed-step}

-- a term more, if its coefficient is not 0
with_term-sum : (w : ℤ) (x : Var) (ts : List (ℤ × Var)) (v : Values) → sum_of (with_term w x ts) v ≡ (w *ℤ v x.0) +ℤ sum_of ts v
with_term-sum (pos zero) x ts v = omega (arith, ints)
with_term-sum (pos (suc n)) x ts v = refl
with_term-sum (negsuc n) x ts v = refl

-- each leg changes the weighed gap by its weight for each step
weighed-leg : (home : ℕ → Square) (g : Gap) (leg : Leg) (legs : List Leg) (v : Values)
    → weighed g (place home (leg ∷ legs) v g.from) (place home (leg ∷ legs) v g.to)
    ≡ weighed g (place home legs v g.from) (place home legs v g.to) +ℤ (v (length legs) *ℤ weight g leg)
weighed-leg home g leg legs v =
    let a = place home legs v g.from in
    let b = place home legs v g.to in
    let t : ℤ = v (length legs) in
    let right = weighed-step g.right b.x a.x (step_x g.to leg) (step_x g.from leg) t in
    let up = weighed-step g.up b.y a.y (step_y g.to leg) (step_y g.from leg) t in
    let whole = mul-add t (g.right *ℤ (step_x g.to leg -ℤ step_x g.from leg)) (g.up *ℤ (step_y g.to leg -ℤ step_y g.from leg)) in
    omega (arith, ints, right, up, whole)

-- the constant and the terms together are the weighed gap
pub weighed-sum : (home : ℕ → Square) (g : Gap) (legs : List Leg) (v : Values)
    → constant home g +ℤ sum_of (terms g legs) v ≡ weighed g (place home legs v g.from) (place home legs v g.to)
weighed-sum home g [] v = omega (arith, ints)
weighed-sum home g (leg ∷ legs) v =
    let before = weighed-sum home g legs v in
    let term = with_term-sum (weight g leg) (var (length legs)) (terms g legs) v in
    let swap = *ℤ_comm (weight g leg) (v (length legs)) in
    let step = weighed-leg home g leg legs v in
    omega (arith, ints, before, term, swap, step)

-- no term has this variable or a later one
abbrev pub AreBelow : ℕ → List (ℤ × Var) → Type 0
AreBelow n [] = Unit {0}
AreBelow n (t ∷ ts) = (t.1.0 < n) × AreBelow n ts

below-with_term : (n : ℕ) (w : ℤ) (x : Var) (ts : List (ℤ × Var)) → x.0 < n → AreBelow n ts → AreBelow n (with_term w x ts)
below-with_term n (pos zero) x ts less h = h
below-with_term n (pos (suc m)) x ts less h = (less, h)
below-with_term n (negsuc m) x ts less h = (less, h)

pub terms-below : (n : ℕ) (g : Gap) (legs : List Leg) → length legs ≤ n → AreBelow n (terms g legs)
terms-below n g [] few = tt
terms-below n g (leg ∷ legs) few = below-with_term n (weight g leg) (var (length legs)) (terms g legs) (omega arith) (terms-below n g legs (omega arith))

sum-kept : (ts : List (ℤ × Var)) (v : Values) (n : ℤ) → AreBelow 16 ts → sum_of ts (with_value v held n) ≡ sum_of ts v
sum-kept [] v n h = refl
sum-kept (t ∷ ts) v n h =
    ap (λ m. (t.0 *ℤ m) +ℤ sum_of ts (with_value v held n)) (value_other v held n t.1.0 (omega (arith, h.0)))
    ∙ ap (λ m. (t.0 *ℤ v t.1.0) +ℤ m) (sum-kept ts v n h.1)

-- some value of the held variable is the constant, and the sum compares
pub sum_holds : (c : ℤ) (ts : List (ℤ × Var)) (rel : Rel) (bound : ℤ) (e : Sets) (v : Values) → AreBelow 16 ts
    → Holds (sum_tree c ts rel bound) e v ↔ Compares rel (c +ℤ sum_of ts v) bound
sum_holds c ts rel bound e v below =
    let At : ℤ → Type 0 = λ s. Compares rel s bound in
    let whole : (n : ℤ) → with_value v held n 16 ≡ c → (pos 1 *ℤ with_value v held n 16) +ℤ sum_of ts (with_value v held n) ≡ c +ℤ sum_of ts v = λ n is.
    let kept = sum-kept ts v n below in
    omega (arith, ints, is, kept)
    in (
      λ h. subst At (whole h.0 h.1.0) h.1.1,
      λ h.
          let is : with_value v held c 16 ≡ c = value_same v held c 16 refl in
          (c, (is, subst At (sym (whole c is)) h)),
    )

-- the weighed gap compares
pub gap_holds : (home : ℕ → Square) (legs : List Leg) (g : Gap) (rel : Rel) (bound : ℤ) (e : Sets) (v : Values) → length legs ≤ 16
    → Holds (gap_tree home legs g rel bound) e v ↔ Compares rel (weighed g (place home legs v g.from) (place home legs v g.to)) bound
gap_holds home legs g rel bound e v few =
    let At : ℤ → Type 0 = λ s. Compares rel s bound in
    let sum = sum_holds (constant home g) (terms g legs) rel bound e v (terms-below 16 g legs few) in
    let is = weighed-sum home g legs v in
    (λ h. subst At is (sum.0 h), λ h. sum.1 (subst At (sym is) h))
