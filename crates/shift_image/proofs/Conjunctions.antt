-- How many words a conjunction with a factored formula tells apart.
use Rattle.std.proofs.Common.{◌≡◌, ◌≢◌, ℕ, ◌+◌, ◌*◌, ◌<◌, ◌≤◌, List, [], length}
use Rattle.std.proofs.Common.{arith, sym, ap, ◌∙◌, subst, inl, inr}
use Rattle.track_word.specs.declared.tracks.Var.{Var}
use Rattle.track_word.specs.Tracks.{with_vars, restrict, part_of}
use Rattle.auto_core.specs.Spread.{AlikeInBoth}
use Rattle.lin_formula.specs.Tree.{Tree, And, free_vars}
use Rattle.lin_formula.specs.Holds.{Sets}
use Rattle.lin_formula.proofs.FreeVars.{one_of-with_vars}
use Rattle.formula_auto.specs.Step.{Says, Exceeds}
use Rattle.formula_auto.proofs.SameWords.{IsWord-part}
use Rattle.auto_bool.proofs.Spreads.{not_nil-map}
use Rattle.shift_image.specs.Colours.{IsColoured}
use Rattle.shift_image.specs.Equations.{Equation, colours, colour}
use Rattle.shift_image.specs.Factored.{IsFactored, RestsOn}
use Rattle.shift_image.specs.States.{SaysAlike, HasMoreResiduals}
use Rattle.shift_image.proofs.Counting.{coloured-bound}
use Rattle.shift_image.proofs.Equations.{unique, more-product}
use Rattle.shift_image.proofs.Residuals.{part-part, colour-below, colour-same, alike-factored}

-- equal words in place of words that are alike
alike-at : (f : Tree) (e : Sets) (v w v' w' : List ℕ) → v ≡ v' → w ≡ w' → SaysAlike f e v w → SaysAlike f e v' w'
alike-at f e v w v' w' left right alike =
    subst (λ u. SaysAlike f e u w') left (subst (λ u. SaysAlike f e v u) right alike)

module _ (whole part g : Tree) (qs : List Equation) (e : Sets) (is : IsFactored whole part qs e) where
  abbrev all : List Var
  all = with_vars (free_vars whole) (free_vars g)

  abbrev few : List Var
  few = with_vars (free_vars part) (free_vars g)

  abbrev AlikeWhole : List ℕ → List ℕ → Type 0
  AlikeWhole = AlikeInBoth all (free_vars whole) (free_vars g) (Says whole e) (Says g e)

  abbrev AlikePart : List ℕ → List ℕ → Type 0
  AlikePart = AlikeInBoth few (free_vars part) (free_vars g) (Says part e) (Says g e)

  -- the colour of what the whole reads of a word
  abbrev whole_colour : List ℕ → ℕ
  whole_colour w = colour (free_vars whole) qs (part_of all (free_vars whole) w)

  through : (w : List ℕ)
      → part_of (free_vars whole) (free_vars part) (part_of all (free_vars whole) w) ≡ part_of all (free_vars part) w
  through w = part-part all (free_vars whole) (free_vars part) w is.part_vars

  down : (w : List ℕ) → part_of few (free_vars part) (part_of all few w) ≡ part_of all (free_vars part) w
  down w = part-part all few (free_vars part) w (λ y h. (one_of-with_vars y (free_vars part) (free_vars g)).1 (inl h))

  side : (w : List ℕ) → part_of few (free_vars g) (part_of all few w) ≡ part_of all (free_vars g) w
  side w = part-part all few (free_vars g) w (λ y h. (one_of-with_vars y (free_vars part) (free_vars g)).1 (inr h))

  and-coloured : IsColoured (length all) (length few) AlikeWhole AlikePart (part_of all few) (colours qs) whole_colour
  and-coloured = record {
    below = λ w _. colour-below (free_vars whole) qs _;
    parts = λ w is_w. IsWord-part all few is_w;
    alike = λ v w is_v is_w same parts.
        let v_some = not_nil-map _ v is_v.nonempty in
        let w_some = not_nil-map _ w is_w.nonempty in
        let left = alike-at part e _ _ _ _ (down v ∙ sym (through v)) (down w ∙ sym (through w)) parts.left in
        record {
          left = alike-factored whole part qs e is _ _ v_some w_some same left;
          right = alike-at g e _ _ _ _ (side v) (side w) parts.right;
        };
  }

  pub and-bound : (budget each : ℕ) → colours qs * each ≤ budget → Exceeds (And whole g) e budget
      → Exceeds (And part g) e each
  unfolding Exceeds
  and-bound budget each enough more =
      coloured-bound (length all) (length few) AlikeWhole AlikePart (part_of all few) (colours qs) whole_colour
      and-coloured budget each enough more

  module _ (rs : List Equation) (rests : RestsOn g rs e) where
    -- the colour of what the formula beside the whole reads of a word
    abbrev side_colour : List ℕ → ℕ
    side_colour w = colour (free_vars g) rs (part_of all (free_vars g) w)

    -- both colours as one
    abbrev both_colours : List ℕ → ℕ
    both_colours w = whole_colour w * colours rs + side_colour w

    pair-below : (a b m n : ℕ) → a < m → b < n → a * n + b < m * n
    pair-below a b m n ha hb = let l = more-product a n m (omega (arith, ha)) in omega (arith, l, hb)

    cancel : (a b c d : ℕ) → a ≡ c → a + b ≡ c + d → b ≡ d
    cancel a b c d e f = omega (arith, e, f)

    side-alike : (v w : List ℕ) → v ≢ [] → w ≢ [] → colour (free_vars g) rs v ≡ colour (free_vars g) rs w
        → SaysAlike g e v w
    side-alike v w v_some w_some same = record {
      same = λ letters _.
          let forth = colour-same (free_vars g) rs v w letters v_some w_some same in
          let back = colour-same (free_vars g) rs w v letters w_some v_some (sym same) in
          (λ h. rests _ _ (forth, back) h, λ h. rests _ _ (back, forth) h);
    }

    below : (w : List ℕ) → colour (free_vars g) rs w < colours rs
    below w = colour-below (free_vars g) rs w

    equation-coloured : IsColoured (length all) (length (free_vars part)) AlikeWhole (SaysAlike part e)
        (part_of all (free_vars part)) (colours qs * colours rs) both_colours
    equation-coloured = record {
      below = λ w _. pair-below _ _ (colours qs) (colours rs) (colour-below (free_vars whole) qs _) (below _);
      parts = λ w is_w. IsWord-part all (free_vars part) is_w;
      alike = λ v w is_v is_w same parts.
          let v_some = λ (some : List Var). not_nil-map (restrict all some) v is_v.nonempty in
          let w_some = λ (some : List Var). not_nil-map (restrict all some) w is_w.nonempty in
          let first = unique _ _ _ _ (colours rs) (below _) (below _) same in
          let second = cancel _ _ _ _ (ap (λ n. n * colours rs) first) same in
          let left = alike-at part e _ _ _ _ (sym (through v)) (sym (through w)) parts in
          record {
            left =
                alike-factored whole part qs e is _ _ (v_some (free_vars whole)) (w_some (free_vars whole)) first left;
            right = side-alike _ _ (v_some (free_vars g)) (w_some (free_vars g)) second;
          };
    }

    pub equation-bound : (budget each : ℕ) → colours qs * colours rs * each ≤ budget → Exceeds (And whole g) e budget
        → HasMoreResiduals part e each
    unfolding Exceeds
    equation-bound budget each enough more =
        coloured-bound (length all) (length (free_vars part)) AlikeWhole (SaysAlike part e)
        (part_of all (free_vars part)) (colours qs * colours rs) both_colours equation-coloured budget each enough more
