-- The conjunctions of an image are within the budget.
use Rattle.std.proofs.Common.{◌≡◌, ℕ, ◌*◌, ◌≤◌, List, [], ◌∷◌, ◌++◌, map, arith}
use Rattle.std.proofs.lemmas.Nat.{mul-le}
use Rattle.lin_formula.specs.Tree.{Tree, Not, And, steps}
use Rattle.lin_formula.specs.SetOf.{SetOf, members}
use Rattle.formula_auto.specs.Step.{Exceeds}
use Rattle.shift_image.specs.Equations.{Equation, colours}
use Rattle.shift_image.specs.Factored.{IsFactored, RestsOn, AndBound, EquationBound}
use Rattle.shift_image.specs.States.{HasMoreResiduals}
use Rattle.shift_image.specs.declared.shift.ValueShift.{ValueShift}
use Rattle.shift_image.specs.Image.{and_all, change, equation_of}
use Rattle.shift_image.specs.Laws.{start_colours, AreClearWithin}
use Rattle.shift_image.proofs.Withins.{AreWithin, within-append, over-none}
use Rattle.shift_image.proofs.Colours.{colours-cons, some-start}
use Rattle.shift_image.proofs.Changes.{change-solved}
use Rattle.shift_image.proofs.Factors.{factored-change, factored-beside}

step-enough : (c m k r n budget : ℕ) → c ≤ m → 1 ≤ r → m * (k * r) * n ≤ budget → c * k * n ≤ budget
step-enough c m k r n budget fewer some enough =
    let one = mul-le c k m k fewer (omega arith) in
    let two = mul-le (c * k) n (m * k) n one (omega arith) in
    let three = mul-le (m * k * n) 1 (m * k * n) r (omega arith) some in
    let same : m * k * n * r ≡ m * (k * r) * n = grind arith in
    omega (arith, two, three, same, enough)

next-enough : (m k r n budget : ℕ) → m * (k * r) * n ≤ budget → m * k * r * n ≤ budget
next-enough m k r n budget enough =
    let same : m * k * r * n ≡ m * (k * r) * n = grind arith in
    omega (arith, same, enough)

-- how many colours a change has alone
abbrev one_colours : ValueShift → ℕ
one_colours s = colours (equation_of s ∷ [])

module _ (e : ℕ → SetOf) (budget each : ℕ) where
  -- the changes after a formula that is factored into one with few residuals
  pub within-changes : EquationBound → (shifts : List ValueShift) (w p : Tree) (qs : List Equation) (most : ℕ)
      → IsFactored w p qs (members e) → colours qs ≤ most → most * start_colours shifts * each ≤ budget
      → (¬ HasMoreResiduals p (members e) each) → AreWithin (steps w) (members e) budget
      → AreWithin (steps (and_all w (map change shifts))) (members e) budget
  within-changes bound [] w p qs most is fewer enough few within = within
  within-changes bound (s ∷ shifts) w p qs most is fewer enough few within =
      let one = colours (equation_of s ∷ []) in
      let rests : RestsOn (change s) (equation_of s ∷ []) (members e) = λ v x same h.
      (change-solved s (members e) x).1 ((same.0 ((change-solved s (members e) v).0 h, tt)).0) in
      let here = step-enough (colours qs) most (one_colours s) (start_colours shifts) each budget fewer
      (some-start shifts) enough in
      let none : ¬ Exceeds (And w (change s)) (members e) budget =
      λ more. few (bound w p (change s) qs (equation_of s ∷ []) e budget each is rests here more) in
      let added = mul-le (colours qs) (one_colours s) most (one_colours s) fewer (omega arith) in
      let next = colours-cons (equation_of s) qs in
      within-changes bound shifts (And w (change s)) p (equation_of s ∷ qs) (most * one_colours s)
      (factored-change w p qs (members e) is s) (omega (arith, added, next))
      (next-enough most (one_colours s) (start_colours shifts) each budget enough) few
      (within-append (steps w ++ []) (And w (change s) ∷ []) (members e) budget
      (within-append (steps w) [] (members e) budget within tt) (none, tt))

  pub factored-clear : (gs : List Tree) {w p : Tree} {qs : List Equation} → IsFactored w p qs (members e)
      → IsFactored (and_all w (map Not gs)) (and_all p (map Not gs)) qs (members e)
  factored-clear [] is = is
  factored-clear (g ∷ gs) {w} {p} {qs} is =
      factored-clear gs (factored-beside w p qs (members e) is (Not g))

  -- what is asked after a factored formula
  pub within-clear : AndBound → (gs : List Tree) (w p : Tree) (qs : List Equation) → IsFactored w p qs (members e)
      → colours qs * each ≤ budget → AreClearWithin p gs e budget each → AreWithin (steps w) (members e) budget
      → AreWithin (steps (and_all w (map Not gs))) (members e) budget
  within-clear bound [] w p qs is enough clear within = within
  within-clear bound (g ∷ gs) w p qs is enough clear within =
      let none : ¬ Exceeds (And w (Not g)) (members e) budget =
      λ more. clear.1 (bound w p (Not g) qs e budget each is enough more) in
      let asked = over-none (steps g) (members e) budget 1 clear.0 in
      let more = factored-beside w p qs (members e) is (Not g) in
      within-clear bound gs (And w (Not g)) (And p (Not g)) qs more enough clear.2
      (within-append (steps w ++ steps g) (And w (Not g) ∷ []) (members e) budget
      (within-append (steps w) (steps g) (members e) budget within asked) (none, tt))
