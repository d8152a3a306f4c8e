-- What the line that is written of a formula says.
use Rattle.std.proofs.Common.{◌≡◌, ◌↔◌, ℕ, suc, drop, ◌^◌, ◌<◌, ◌≤◌, ℤ, pos, negsuc, List, ◌∷◌, ◌++◌, get_or, inl, inr, refl, sym, ap, ◌∙◌, subst, codes, arith}
use Rattle.std.specs.Prelude.{unsigned_abs}
use Rattle.std.specs.Fmt.{decimal, signed_decimal}
use Rattle.std.specs.Str.Parse.{AllDigits, digits_value}
use Rattle.std.proofs.lemmas.Fmt.{decimal_is_IsNumeral_wide}
use Rattle.std.proofs.lemmas.List.{append_cancel_left, append_cancel_right}
use Rattle.std.proofs.lemmas.Str.Parse.{digit_from_value}
use Rattle.lin_formula.specs.Tree.{Tree}
use Rattle.arith_desk.specs.Truth.{IsTrueFormula, IsTruth}
use Rattle.arith_desk.specs.declared.deciding.Truth.{Truth}
use Rattle.arith_desk.specs.declared.deciding.Truth.TheVariants as truths
use Rattle.arith_desk.proofs.OneAnswer.{asked_holds, one_truth}
use Rattle.desk_formula.specs.Answer.{Answers, IsAskedFar, IsAskedFor, SaysTrue, wide_line}
use Rattle.desk_formula.specs.Arith.{truth_line, witness_line}

-- the text of a number begins with a digit
first_digit : (n c : ℕ) (rest : List ℕ) → n < 10 ^ 64 → decimal n ≡ c ∷ rest → (48 ≤ c) × (c ≤ 57)
first_digit n c rest small is = let d = digit_from_value c (subst (AllDigits 10) is (decimal_is_IsNumeral_wide n small).0.1).0 in (omega (arith, d), omega (arith, d))

one_decimal : (m n : ℕ) → m < 10 ^ 64 → n < 10 ^ 64 → decimal m ≡ decimal n → m ≡ n
one_decimal m n p q e = sym (decimal_is_IsNumeral_wide m p).1 ∙ ap (digits_value 10) e ∙ (decimal_is_IsNumeral_wide n q).1

-- a number is told by its text
one_signed : (v w : ℤ) → unsigned_abs v ≤ 2 ^ 64 → unsigned_abs w ≤ 2 ^ 64 → signed_decimal v ≡ signed_decimal w → v ≡ w
one_signed (pos m) (pos n) p q e = ap pos (one_decimal m n (omega (arith, p)) (omega (arith, q)) e)
one_signed (pos m) (negsuc n) p q e = absurd (omega (arith, first_digit m 45 _ (omega (arith, p)) e))
one_signed (negsuc m) (pos n) p q e = absurd (omega (arith, first_digit n 45 _ (omega (arith, q)) (sym e)))
one_signed (negsuc m) (negsuc n) p q e =
    let behind : decimal (suc m) ≡ decimal (suc n) = ap (drop 1) e in
    ap negsuc (omega (arith, one_decimal (suc m) (suc n) (omega (arith, p)) (omega (arith, q)) behind))

one_witness : (v w : ℤ) → unsigned_abs v ≤ 2 ^ 64 → unsigned_abs w ≤ 2 ^ 64 → witness_line v ≡ witness_line w → v ≡ w
one_witness v w p q e =
    let front : List ℕ = codes "true witness " in
    one_signed v w p q (append_cancel_left front (signed_decimal v) (signed_decimal w)
    (append_cancel_right (front ++ signed_decimal v) (front ++ signed_decimal w) (codes "\n") e))

-- and is none of the other words
no_wide_number : (w : ℤ) → unsigned_abs w ≤ 2 ^ 64 → signed_decimal w ≡ codes "wide" → ⊥
no_wide_number (pos n) p e = absurd (omega (arith, first_digit n 119 _ (omega (arith, p)) e))
no_wide_number (negsuc n) p e = let letters : ◌≡◌ {A = ℕ} 45 119 = ap (λ (line : List ℕ). get_or line 0 0) e in absurd (omega arith)

no_wide_witness : (w : ℤ) → unsigned_abs w ≤ 2 ^ 64 → truth_line truths.WitnessWide ≡ witness_line w → ⊥
no_wide_witness w p e =
    let front : List ℕ = codes "true witness " in
    no_wide_number w p (sym (append_cancel_left front (codes "wide") (signed_decimal w)
    (append_cancel_right (front ++ codes "wide") (front ++ signed_decimal w) (codes "\n") e)))

-- what says that a formula holds begins with another letter than what says that it does not
first_letter : (line : List ℕ) → SaysTrue line → get_or line 0 0 ≡ 116
first_letter line (inl e) = ap (λ (l : List ℕ). get_or l 0 0) e
first_letter line (inr (inl e)) = ap (λ (l : List ℕ). get_or l 0 0) e
first_letter line (inr (inr (w, small, e))) = ap (λ (l : List ℕ). get_or l 0 0) e

not_false : (line : List ℕ) → SaysTrue line → line ≡ codes "false\n" → ⊥
not_false line says e = let letter : get_or line 0 0 ≡ 102 = ap (λ (l : List ℕ). get_or l 0 0) e in absurd (omega (arith, first_letter line says, letter))

-- what the line of an answer says
says_false : SaysTrue (codes "false\n") → ⊥
says_false says = not_false (codes "false\n") says refl

module _ (f : Tree) where
  holds_of : (truth : Truth) → IsTruth f truth → SaysTrue (truth_line truth) ↔ IsTrueFormula f
  holds_of truths.False h = (λ says. absurd (says_false says), λ holds. absurd (h holds))
  holds_of truths.True h = (λ says. h.0, λ holds. inl refl)
  holds_of (truths.Witness w) (x, g, asks, near, within) = (λ says. asked_holds w asks near.holds, λ holds. inr (inr (w, within, refl)))
  holds_of truths.WitnessWide (x, g, asks, wide) = (λ says. asked_holds wide.some.0 asks wide.some.1, λ holds. inr (inl refl))

  true_fails : (truth : Truth) → SaysTrue (truth_line truth) → IsTrueFormula f → (truth_line truth ≡ codes "false\n") ↔ (¬ IsTrueFormula f)
  true_fails truth says holds = (λ e. absurd (not_false (truth_line truth) says e), λ fails. absurd (fails holds))

  fails_of : (truth : Truth) → IsTruth f truth → (truth_line truth ≡ codes "false\n") ↔ (¬ IsTrueFormula f)
  fails_of truths.False h = (λ e. h, λ fails. refl)
  fails_of truths.True h = true_fails truths.True (inl refl) h.0
  fails_of (truths.Witness w) (x, g, asks, near, within) = true_fails (truths.Witness w) (inr (inr (w, within, refl))) (asked_holds w asks near.holds)
  fails_of truths.WitnessWide (x, g, asks, wide) = true_fails truths.WitnessWide (inr (inl refl)) (asked_holds wide.some.0 asks wide.some.1)

  -- a number that is written is the one asked for
  written : (truth : Truth) → IsTruth f truth → (w : ℤ) → unsigned_abs w ≤ 2 ^ 64 → truth_line truth ≡ witness_line w → IsAskedFor f w
  written truths.False h w small e = let letters : ◌≡◌ {A = ℕ} 102 116 = ap (λ (l : List ℕ). get_or l 0 0) e in absurd (omega arith)
  written truths.True h w small e = let letters : ◌≡◌ {A = ℕ} 10 32 = ap (λ (l : List ℕ). get_or l 4 0) e in absurd (omega arith)
  written (truths.Witness v) (x, g, asks, near, within) w small e = subst (IsAskedFor f) (one_witness v w within small e) (x, g, asks, near)
  written truths.WitnessWide h w small e = absurd (no_wide_witness w small e)

  -- and so is that it is too far
  far_written : (truth : Truth) → IsTruth f truth → truth_line truth ≡ wide_line → IsAskedFar f
  far_written truths.False h e = let letters : ◌≡◌ {A = ℕ} 102 116 = ap (λ (l : List ℕ). get_or l 0 0) e in absurd (omega arith)
  far_written truths.True h e = let letters : ◌≡◌ {A = ℕ} 10 32 = ap (λ (l : List ℕ). get_or l 4 0) e in absurd (omega arith)
  far_written (truths.Witness v) (x, g, asks, near, within) e = absurd (no_wide_witness v within (sym e))
  far_written truths.WitnessWide h e = h

  pub answers : (truth : Truth) → IsTruth f truth → Answers f (truth_line truth)
  answers truth h = record {
    holds = holds_of truth h;
    fails = fails_of truth h;
    number = λ w small. (
      written truth h w small,
      λ asked. ap truth_line (one_truth f truth (truths.Witness w) h (asked.0, asked.1, asked.2, asked.3, small)),
    );
    wide = (far_written truth h, λ far. ap truth_line (one_truth f truth truths.WitnessWide h far));
  }
