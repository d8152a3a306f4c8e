-- Values with some of them changed.
use Rattle.std.proofs.Common.{◌≡◌, ◌≢◌, ℕ, zero, suc, ◌<◌, ◌≤◌, true, false, Option, Some, None, inl, inr, refl, sym, ap, subst, ◌∙◌, arith}
use Rattle.std.specs.Prelude.{if◌then◌else◌}
use Rattle.game_rules.specs.Game.{Position, man_at}
use Rattle.game_rules.specs.declared.men.Square.{Square}
use Rattle.game_laws.proofs.RayLemmas.{true_or_not}
use Rattle.track_word.specs.Tracks.{Values}
use Rattle.lin_formula.specs.Holds.{with_value}
use Rattle.rule_formula.specs.Placed.{is_live, without}
use Rattle.rule_formula.specs.Seats.{own, squares}
use Rattle.rule_formula.specs.Trees.{man_square}
use Rattle.rule_formula.proofs.ChainLemmas.{last_or_before}
use Rattle.rule_formula.proofs.RayLemmas.{square_at}
use Rattle.rule_formula.proofs.SweptLemmas.{value_other, value_same}

pub own_apart : (k : ℕ) → 0 < k → (own k).x.0 ≢ (own k).y.0
own_apart k low e = omega (arith, low, e)

-- values with man k on the square
abbrev pub with_square : Values → ℕ → Square → Values
with_square v k z = with_value (with_value v (own k).y z.y) (own k).x z.x

-- the same, if there is a square
abbrev pub with_option : Values → ℕ → Option Square → Values
with_option v k None = v
with_option v k (Some z) = with_square v k z

pub square_other : (v : Values) (k : ℕ) (z : Square) (y : ℕ) → y ≢ (own k).x.0 → y ≢ (own k).y.0 → with_square v k z y ≡ v y
square_other v k z y across along = value_other (with_value v (own k).y z.y) (own k).x z.x y across ∙ value_other v (own k).y z.y y along

option_other : (v : Values) (k : ℕ) (o : Option Square) (y : ℕ) → y ≢ (own k).x.0 → y ≢ (own k).y.0 → with_option v k o y ≡ v y
option_other v k None y across along = refl
option_other v k (Some z) y across along = square_other v k z y across along

pub square_same : (v : Values) (k : ℕ) (z : Square) → 0 < k → squares (with_square v k z) k ≡ z
square_same v k z low =
    square_at (squares (with_square v k z) k) z
    (value_same (with_value v (own k).y z.y) (own k).x z.x (own k).x.0 refl)
    (value_other (with_value v (own k).y z.y) (own k).x z.x (own k).y.0 (λ e. own_apart k low (sym e)) ∙ value_same v (own k).y z.y (own k).y.0 refl)

-- the variable is none of the other live men's among the first n
abbrev pub IsNobodys : ℕ → ℕ → ℕ → ℕ → Type 0
IsNobodys mask i n y = (k : ℕ) → 0 < k → k ≤ n → without (is_live mask) i k ≡ true → (y ≢ (own k).x.0) × (y ≢ (own k).y.0)

module _ (p : Position) (mask i : ℕ) where
  -- the values with each other live man among the first n where he stands
  abbrev pub with_others : Values → ℕ → Values
  with_others v zero = v
  with_others v (suc n) =
      if without (is_live mask) i (suc n) then with_others (with_option v (suc n) (man_square (man_at p (suc n)))) n else with_others v n

  module _ (n : ℕ) (v : Values) where
    abbrev Next : Values
    Next = with_option v (suc n) (man_square (man_at p (suc n)))

    pub with_one : without (is_live mask) i (suc n) ≡ true → with_others v (suc n) ≡ with_others Next n
    with_one on = ap (λ b. if b then with_others Next n else with_others v n) on

    pub without_one : without (is_live mask) i (suc n) ≡ false → with_others v (suc n) ≡ with_others v n
    without_one off = ap (λ b. if b then with_others Next n else with_others v n) off

  pub others_other : (n : ℕ) (v : Values) (y : ℕ) → IsNobodys mask i n y → with_others v n y ≡ v y
  others_other zero v y none = refl
  others_other (suc n) v y none =
      let before : IsNobodys mask i n y = λ k low high on. none k low (omega (arith, high)) on in
      elim (true_or_not (without (is_live mask) i (suc n))) [
        | inl on ↦
            let apart = none (suc n) (omega arith) (omega arith) on in
            ap (λ (w : Values). w y) (with_one n v on) ∙ others_other n (Next n v) y before
            ∙ option_other v (suc n) (man_square (man_at p (suc n))) y apart.0 apart.1
        | inr off ↦ ap (λ (w : Values). w y) (without_one n v off) ∙ others_other n v y before
      ]

  pub others_same : (n : ℕ) (v : Values) (k : ℕ) (z : Square) → 0 < k → k ≤ n → without (is_live mask) i k ≡ true
      → man_square (man_at p k) ≡ Some z → squares (with_others v n) k ≡ z
  others_same zero v k z low high on is = absurd (omega (arith, low, high))
  others_same (suc n) v k z low high on is =
      elim (true_or_not (without (is_live mask) i (suc n))) [
        | inl last ↦
            ap (λ (w : Values). squares w k) (with_one n v last) ∙ elim (last_or_before k n high) [
              | inl before ↦ others_same n (Next n v) k z low before on is
              | inr e ↦ his e
            ]
        | inr off ↦ elim (last_or_before k n high) [
          | inl before ↦ ap (λ (w : Values). squares w k) (without_one n v off) ∙ others_same n v k z low before on is
          | inr e ↦
              let no : true ≡ false = sym (subst (λ j. without (is_live mask) i j ≡ true) e on) ∙ off in absurd (cc)
        ]
      ]
    where
      his : k ≡ suc n → squares (with_others (Next n v) n) k ≡ z
      his e =
          let here : man_square (man_at p (suc n)) ≡ Some z = subst (λ j. man_square (man_at p j) ≡ Some z) e is in
          let next : Next n v ≡ with_square v (suc n) z = ap (with_option v (suc n)) here in
          let x : with_others (Next n v) n (own (suc n)).x.0 ≡ Next n v (own (suc n)).x.0 =
          others_other n (Next n v) (own (suc n)).x.0 (λ j some most live. ((λ same. omega (arith, some, most, same)), (λ same. omega (arith, some, most, same)))) in
          let y : with_others (Next n v) n (own (suc n)).y.0 ≡ Next n v (own (suc n)).y.0 =
          others_other n (Next n v) (own (suc n)).y.0 (λ j some most live. ((λ same. omega (arith, some, most, same)), (λ same. omega (arith, some, most, same)))) in
          let same : squares (with_others (Next n v) n) (suc n) ≡ squares (Next n v) (suc n) =
          square_at (squares (with_others (Next n v) n) (suc n)) (squares (Next n v) (suc n)) x y in
          ap (squares (with_others (Next n v) n)) e ∙ same ∙ ap (λ (w : Values). squares w (suc n)) next
          ∙ square_same v (suc n) z (omega arith)
