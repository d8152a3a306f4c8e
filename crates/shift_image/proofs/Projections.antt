-- How many words a factored formula tells apart without a variable that an equation settles.
use Rattle.std.proofs.Common.{◌≡◌, ◌≢◌, ℕ, zero, suc, ℤ, ◌+ℤ◌, ◌-ℤ◌, ◌*◌, ◌≤◌, List, [], ◌∷◌, ◌++◌, length}
use Rattle.std.proofs.Common.{arith, refl, sym, ap, ◌∙◌, subst, inl, inr}
use Rattle.std.proofs.lemmas.Int.{ints}
use Rattle.track_word.specs.declared.tracks.Var.{Var}
use Rattle.track_word.specs.Word.{IsWord, val, repeat_first, repeated}
use Rattle.track_word.specs.Tracks.{without_var, place, part_of, word_values}
use Rattle.track_word.proofs.Repeats.{val-repeated, repeated_some}
use Rattle.auto_core.specs.Spread.{IsLift, LiftsInto, AlikeLifted}
use Rattle.auto_bool.proofs.Spreads.{not_nil-map}
use Rattle.lin_formula.specs.Tree.{Tree, Ex, free_vars}
use Rattle.lin_formula.specs.Free.{IsOneOf}
use Rattle.lin_formula.specs.Holds.{Sets, Holds}
use Rattle.lin_formula.proofs.FreeVars.{one_of-without_var}
use Rattle.formula_auto.specs.Step.{Says, Exceeds}
use Rattle.formula_auto.proofs.Values.{val-part}
use Rattle.formula_auto.proofs.Lifts.{joined, joined-joins, size_of}
use Rattle.formula_auto.proofs.SameWords.{IsWord-part}
use Rattle.formula_auto.proofs.Projections.{apart-free}
use Rattle.shift_image.specs.Equations.{Equation, open_ways, joint, way, colours, colour}
use Rattle.shift_image.specs.Factored.{AreOver, IsFactored, Settles}
use Rattle.shift_image.specs.States.{SaysAlike, HasMoreResiduals}
use Rattle.shift_image.proofs.Counting.{coloured-bound}
use Rattle.shift_image.proofs.Equations.{offset-vals, offset-apart}
use Rattle.shift_image.proofs.Residuals.{part-part, SaysAlike-sym, SaysAlike-trans, colour-below, alike-factored}

part-repeat : (all some : List Var) (word : List ℕ)
    → part_of all some (repeat_first word) ≡ repeat_first (part_of all some word)
part-repeat all some [] = refl
part-repeat all some (l ∷ word) = refl

part-repeated : (all some : List Var) (k : ℕ) (word : List ℕ)
    → part_of all some (repeated k word) ≡ repeated k (part_of all some word)
part-repeated all some zero word = refl
part-repeated all some (suc k) word =
    part-repeat all some (repeated k word) ∙ ap repeat_first (part-repeated all some k word)

repeat-append : (word letters : List ℕ) → word ≢ [] → repeat_first word ++ letters ≡ repeat_first (word ++ letters)
repeat-append [] letters some = absurd (some refl)
repeat-append (l ∷ word) letters some = refl

repeated-append : (k : ℕ) (word letters : List ℕ) → word ≢ []
    → repeated k word ++ letters ≡ repeated k (word ++ letters)
repeated-append zero word letters some = refl
repeated-append (suc k) word letters some =
    repeat-append (repeated k word) letters (repeated_some word k some).1
    ∙ ap repeat_first (repeated-append k word letters some)

-- a word with its first letter repeated is alike
repeated-alike : (f : Tree) (e : Sets) (k : ℕ) (word : List ℕ) → word ≢ [] → SaysAlike f e (repeated k word) word
repeated-alike f e k word some = record {
  same = λ letters all.
      let longer = repeated-append k word letters some in
      let values : word_values (free_vars f) (repeated k word ++ letters) ≡ word_values (free_vars f) (word ++ letters) =
      ap (word_values (free_vars f)) longer
      ∙ (λ i x. val-repeated (word ++ letters) (place (free_vars f) (record { 0 = x })) k i) in
      (λ h. subst (Holds f e) values h, λ h. subst (Holds f e) (sym values) h);
}

-- the value of a track in a lift
lift-value : {all some : List Var} {word lift : List ℕ} (y : Var) → IsLift some all word lift → IsOneOf y some
    → val lift (place all y) ≡ val word (place some y)
lift-value {all} {some} {word} {lift} y is one =
    sym (val-part all some y lift one) ∙ ap (λ w. val w (place some y)) is.repeats
    ∙ val-repeated word (place some y) is.times

way-lift : {all some : List Var} (qs : List Equation) {word lift : List ℕ} → word ≢ [] → lift ≢ [] → AreOver qs some
    → IsLift some all word lift → way all qs lift ≡ way some qs word
way-lift [] w_some l_some over is = refl
way-lift {all} {some} (q ∷ qs) {word} {lift} w_some l_some over is =
    let greater = lift-value q.greater is over.0 in
    let less = lift-value q.less is over.1 in
    let first = offset-vals all some q lift word l_some w_some greater less in
    let rest = way-lift qs w_some l_some over.2 is in
    λ i. joint (open_ways qs) (first i) (rest i)

way-from_colour : (all : List Var) (qs : List Equation) (v w : List ℕ) → colour all qs v ≡ colour all qs w
    → way all qs v ≡ way all qs w
way-from_colour all [] v w e = refl
way-from_colour all (q ∷ qs) v w e = e

balance : (a b c : ℤ) → a -ℤ (a -ℤ (b -ℤ c)) ≡ b -ℤ c
balance a b c = omega (arith, ints)

balance_back : (a b c : ℤ) → (a +ℤ (b -ℤ c)) -ℤ a ≡ b -ℤ c
balance_back a b c = omega (arith, ints)

module _ (x : Var) (whole part : Tree) (q : Equation) (qs : List Equation) (e : Sets)
    (is : IsFactored whole part (q ∷ qs) e) (settles : Settles x q)
    (others : (y : Var) → IsOneOf y (free_vars part) → y ≢ x) (over : AreOver qs (free_vars (Ex x whole))) where
  -- the variables with x, and without it
  abbrev all : List Var
  all = free_vars whole

  abbrev some : List Var
  some = without_var x (free_vars whole)

  -- how far apart a word has the equation's sides
  abbrev gap : List ℕ → ℤ
  gap w = val w (place all q.greater) -ℤ val w (place all q.less)

  among : (y : Var) → IsOneOf y (free_vars part) → IsOneOf y some
  among y h = (one_of-without_var y x all).1 (others y h, is.part_vars y h)

  -- the value for x that keeps the equation's sides as far apart in a lift of w as they are in a lift of v
  record Balanced (w lift : List ℕ) : Type 0 where
    pub n : ℤ
    pub apart : (other : List ℕ) → IsLift some all w other → val other (place all x) ≡ n → gap lift ≡ gap other

  balanced : (w lift : List ℕ) → Balanced w lift
  balanced w lift = elim settles [
    | inl (is_x, ne) ↦
        let there = (one_of-without_var q.greater x all).1 (ne, is.equation_vars.0) in
        record {
          n = val w (place some q.greater) -ℤ gap lift;
          apart = λ other is_lift e.
              let greater = lift-value q.greater is_lift there in
              let less : val other (place all q.less) ≡ val w (place some q.greater) -ℤ gap lift =
              ap (λ y. val other (place all y)) is_x ∙ e in
              let back =
              balance (val w (place some q.greater)) (val lift (place all q.greater)) (val lift (place all q.less)) in
              sym ((λ i. greater i -ℤ less i) ∙ back);
        }
    | inr (is_x, ne) ↦
        let there = (one_of-without_var q.less x all).1 (ne, is.equation_vars.1) in
        record {
          n = val w (place some q.less) +ℤ gap lift;
          apart = λ other is_lift e.
              let less = lift-value q.less is_lift there in
              let greater : val other (place all q.greater) ≡ val w (place some q.less) +ℤ gap lift =
              ap (λ y. val other (place all y)) is_x ∙ e in
              let back =
              balance_back (val w (place some q.less)) (val lift (place all q.greater)) (val lift (place all q.less)) in
              sym ((λ i. greater i -ℤ less i) ∙ back);
        }
  ]

  settled : IsOneOf x all
  settled = elim settles [
    | inl (is_x, ne) ↦ subst (λ y. IsOneOf y all) is_x is.equation_vars.1
    | inr (is_x, ne) ↦ subst (λ y. IsOneOf y all) is_x is.equation_vars.0
  ]

  -- a lift says of the part what the word says
  lift-alike : {word lift : List ℕ} → word ≢ [] → IsLift some all word lift
      → SaysAlike part e (part_of all (free_vars part) lift) (part_of some (free_vars part) word)
  lift-alike {word} {lift} w_some is_lift =
      let down : part_of all (free_vars part) lift ≡ repeated is_lift.times (part_of some (free_vars part) word) =
      sym (part-part all some (free_vars part) lift among) ∙ ap (part_of some (free_vars part)) is_lift.repeats
      ∙ part-repeated some (free_vars part) is_lift.times word in
      subst (λ l. SaysAlike part e l (part_of some (free_vars part) word)) (sym down)
      (repeated-alike part e is_lift.times (part_of some (free_vars part) word) (not_nil-map _ word w_some))

  module _ (v w : List ℕ) (is_v : IsWord (length some) v) (is_w : IsWord (length some) w)
      (same : colour some qs v ≡ colour some qs w)
      (parts : SaysAlike part e (part_of some (free_vars part) v) (part_of some (free_vars part) w)) where
    lifts-into : LiftsInto some all (Says whole e) v w
    lifts-into lift is_lift =
        let b = balanced w lift in
        let made = joined-joins x all b.n (apart-free whole) is_w in
        let other = joined x all b.n (repeated (size_of b.n) w) in
        let lift_some = is_lift.is_word.nonempty in
        let other_some = made.is_lift.is_word.nonempty in
        let gaps = b.apart other made.is_lift (made.value settled) in
        let first = offset-apart all q lift other lift_some other_some gaps in
        let rest = way-lift qs is_v.nonempty lift_some over is_lift ∙ way-from_colour some qs v w same
        ∙ sym (way-lift qs is_w.nonempty other_some over made.is_lift) in
        let colours_same : colour all (q ∷ qs) lift ≡ colour all (q ∷ qs) other =
        λ i. joint (open_ways qs) (first i) (rest i) in
        let from = lift-alike is_v.nonempty is_lift in
        let to = SaysAlike-sym part e _ _ (lift-alike is_w.nonempty made.is_lift) in
        let alike = SaysAlike-trans part e _ _ _ from (SaysAlike-trans part e _ _ _ parts to) in
        let whole_alike = alike-factored whole part (q ∷ qs) e is lift other lift_some other_some colours_same alike in
        (other, made.is_lift, whole_alike)

  pub ex-bound : (budget each : ℕ) → colours qs * each ≤ budget → Exceeds (Ex x whole) e budget
      → HasMoreResiduals part e each
  unfolding Exceeds
  ex-bound budget each enough more =
      coloured-bound (length some) (length (free_vars part)) (AlikeLifted some all (Says whole e)) (SaysAlike part e)
      (part_of some (free_vars part)) (colours qs) (colour some qs)
      (record {
        below = λ w _. colour-below some qs w;
        parts = λ w is_w. IsWord-part _ _ is_w;
        alike = λ v w is_v is_w same parts. record {
          forth = lifts-into v w is_v is_w same parts;
          back = lifts-into w v is_w is_v (sym same) (SaysAlike-sym part e _ _ parts);
        };
      }) budget each enough more
