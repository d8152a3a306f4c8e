-- A formula has one answer, and exceeds a budget at one step first, or at none.
use Rattle.std.proofs.Common.{◌≡◌, ℕ, ◌+◌, ◌^◌, ◌≤◌, List, [], ◌∷◌, ℤ, Option, Some, None, inl, inr, refl, sym, ap, ◌∙◌, subst, arith}
use Rattle.std.specs.Prelude.{unsigned_abs}
use Rattle.std.proofs.lemmas.Int.{ints}
use Rattle.std.proofs.lemmas.Option.{same_Some}
use Rattle.track_word.specs.declared.tracks.Var.{Var}
use Rattle.lin_formula.specs.Tree.{Tree, Ex, steps}
use Rattle.formula_auto.specs.Step.{FirstOver}
use Rattle.formula_auto.specs.declared.errors.CompileError.TheVariants.{Over}
use Rattle.arith_desk.specs.declared.deciding.Truth.TheVariants as truths
use Rattle.arith_desk.specs.Laws.{OneExcess, OneTruth}
use Rattle.arith_desk.specs.Truth.{Asks, HoldsWith, IsCompiledFor, IsNearest, IsOver, IsTrueFormula, IsWide, IsWithin, no_sets, with_zero}

-- two numbers that are the nearest are one
one_nearest : (P : ℤ → Type 0) (v w : ℤ) → IsNearest P v → IsNearest P w → v ≡ w
one_nearest P v w a b =
    let same : unsigned_abs v ≡ unsigned_abs w = omega (arith, a.least w b.holds, b.least v a.holds) in
    omega (arith, ints, a.positive w b.holds (sym same), b.positive v a.holds same)

near_and_far : (P : ℤ → Type 0) (w : ℤ) → IsNearest P w → unsigned_abs w ≤ 2 ^ 64 → IsWide P → ⊥
near_and_far P w near within wide = let far = wide.far w near.holds in absurd (omega (arith, within, far))

module _ (f : Tree) (x y : Var) (g h : Tree) (a : Asks f x g) (b : Asks f y h) where
  abbrev same : Ex x g ≡ Ex y h
  same = sym a.is ∙ b.is

  same_var : x ≡ y
  same_var = let s : Ex x g ≡ Ex y h = same in cc

  same_body : g ≡ h
  same_body = let s : Ex x g ≡ Ex y h = same in cc

  -- with what the one holds, the other does
  moved : (P : (ℤ → Type 0) → Type 0) → P (HoldsWith y h) → P (HoldsWith x g)
  moved P is =
      let At : Var → Type 0 = λ z. P (HoldsWith z g) in
      let Of : Tree → Type 0 = λ k. P (HoldsWith y k) in
      subst At (sym same_var) (subst Of (sym same_body) is)

-- a formula that asks for a number holds where there is one
pub asked_holds : {f : Tree} {x : Var} {g : Tree} (n : ℤ) → Asks f x g → HoldsWith x g n → IsTrueFormula f
asked_holds n a holds = subst IsTrueFormula (sym a.is) (n, holds)

pub one_truth : OneTruth
one_truth f truths.False truths.False a b = refl
one_truth f truths.False truths.True a b = absurd (a b.0)
one_truth f truths.False (truths.Witness w) a (x, g, asks, near, within) = absurd (a (asked_holds w asks near.holds))
one_truth f truths.False truths.WitnessWide a (x, g, asks, wide) = absurd (a (asked_holds wide.some.0 asks wide.some.1))
one_truth f truths.True truths.False a b = absurd (b a.0)
one_truth f truths.True truths.True a b = refl
one_truth f truths.True (truths.Witness w) a (x, g, asks, near, within) = absurd (a.1 x g asks)
one_truth f truths.True truths.WitnessWide a (x, g, asks, wide) = absurd (a.1 x g asks)
one_truth f (truths.Witness v) truths.False (x, g, asks, near, within) b = absurd (b (asked_holds v asks near.holds))
one_truth f (truths.Witness v) truths.True (x, g, asks, near, within) b = absurd (b.1 x g asks)
one_truth f (truths.Witness v) (truths.Witness w) (x, g, asks, near, within) (y, h, also, nearest, short) =
    let Near : (ℤ → Type 0) → Type 0 = λ P. IsNearest P w in
    ap truths.Witness (one_nearest (HoldsWith x g) v w near (moved f x y g h asks also Near nearest))
one_truth f (truths.Witness v) truths.WitnessWide (x, g, asks, near, within) (y, h, also, wide) =
    absurd (near_and_far (HoldsWith x g) v near within (moved f x y g h asks also IsWide wide))
one_truth f truths.WitnessWide truths.False (x, g, asks, wide) b = absurd (b (asked_holds wide.some.0 asks wide.some.1))
one_truth f truths.WitnessWide truths.True (x, g, asks, wide) b = absurd (b.1 x g asks)
one_truth f truths.WitnessWide (truths.Witness w) (x, g, asks, wide) (y, h, also, near, within) =
    absurd (near_and_far (HoldsWith y h) w near within (moved f y x h g also asks IsWide wide))
one_truth f truths.WitnessWide truths.WitnessWide a b = refl

-- one formula is compiled
one_compiled : (f p q : Tree) → IsCompiledFor f p → IsCompiledFor f q → p ≡ q
one_compiled f p q (inl (x, g, a, i)) (inl (y, h, b, j)) = i ∙ ap with_zero (same_body f x y g h a b) ∙ sym j
one_compiled f p q (inl (x, g, a, i)) (inr (none, j)) = absurd (none x g a)
one_compiled f p q (inr (none, i)) (inl (y, h, b, j)) = absurd (none y h b)
one_compiled f p q (inr (none, i)) (inr (also, j)) = i ∙ sym j

first_once : (fs : List Tree) (budget from : ℕ) (one other : Option ℕ) → FirstOver fs no_sets budget from one → FirstOver fs no_sets budget from other → one ≡ other
first_once [] budget from one other a b = a ∙ sym b
first_once (step ∷ fs) budget from one other (inl (over, i)) (inl (also, j)) = i ∙ sym j
first_once (step ∷ fs) budget from one other (inl (over, i)) (inr (within, rest)) = absurd (within over)
first_once (step ∷ fs) budget from one other (inr (within, rest)) (inl (over, j)) = absurd (within over)
first_once (step ∷ fs) budget from one other (inr (within, a)) (inr (also, b)) = first_once fs budget (from + 1) one other a b

module _ (f : Tree) (budget : ℕ) where
  -- the steps of what is compiled have one end
  one_end : (p q : Tree) (one other : Option ℕ) → IsCompiledFor f p → IsCompiledFor f q
      → FirstOver (steps p) no_sets budget 1 one → FirstOver (steps q) no_sets budget 1 other → one ≡ other
  one_end p q one other is_p is_q a b =
      let At : Tree → Type 0 = λ t. FirstOver (steps t) no_sets budget 1 other in
      first_once (steps p) budget 1 one other a (subst At (sym (one_compiled f p q is_p is_q)) b)

  one_step : (m n : ℕ) → IsOver f budget (Over m) → IsOver f budget (Over n) → m ≡ n
  one_step m n (p, is_p, a) (q, is_q, b) = same_Some m n (one_end p q (Some m) (Some n) is_p is_q a b)

  not_both : (n : ℕ) → IsWithin f budget → IsOver f budget (Over n) → ⊥
  not_both n (p, is_p, a) (q, is_q, b) = let e : ◌≡◌ {A = Option ℕ} None (Some n) = one_end p q None (Some n) is_p is_q a b in absurd (cc)

pub one_excess : OneExcess
one_excess f budget = record { one_step = one_step f budget; not_both = not_both f budget }
