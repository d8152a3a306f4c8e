use Rattle.std.proofs.Common.{◌≤ℤ◌, ℤ, arith, rules, SFits, to_z, of_z, ap, subst, sym, ◌∙◌}
use Rattle.std.specs.Int.{w64}
use Rattle.std.proofs.lemmas.Int.{ints, to_z-of_z}
use Rattle.std.proofs.lemmas.Option.{same_Some}
use Rattle.game_rules.specs.Game.{place_square}
use Rattle.game_rules.specs.declared.men.Square.{Square}
use Rattle.chess_game.specs.Way.{IsInside}
use Rattle.chess_game.specs.declared.way.Frame.{Frame}
use Rattle.move_choice.proofs.men_frame.widened.Goals as goal

low_edge : (v a z : ℤ) → SFits w64 v → SFits w64 a → v ≤ℤ to_z w64 (of_z w64 a) → a ≤ℤ z → to_z w64 (of_z w64 v) ≤ℤ z
low_edge v a z fits fits_a low below =
    let under : v ≤ℤ a = subst (λ u. v ≤ℤ u) (to_z-of_z w64 a fits_a) low in
    subst (λ u. u ≤ℤ z) (sym (to_z-of_z w64 v fits)) (omega (arith, ints, under, below))

high_edge : (v a z : ℤ) → SFits w64 v → SFits w64 a → to_z w64 (of_z w64 a) ≤ℤ v → z ≤ℤ a → z ≤ℤ to_z w64 (of_z w64 v)
high_edge v a z fits fits_a high above =
    let over : a ≤ℤ v = subst (λ u. u ≤ℤ v) (to_z-of_z w64 a fits_a) high in
    subst (λ u. z ≤ℤ u) (sym (to_z-of_z w64 v fits)) (omega (arith, ints, over, above))

no_more : (a : ℤ) → a ≤ℤ a
no_more a = omega (arith, ints)

pub returns-in-At-clause-kept : goal.returns-in-At-clause-kept
returns-in-At-clause-kept c =
    let x_low : SFits w64 c.min.result = search rules in
    let x_high : SFits w64 c.max.result = search rules in
    let y_low : SFits w64 c.min-in-At.result = search rules in
    let y_high : SFits w64 c.max-in-At.result = search rules in
    let left : SFits w64 c.args.frame.x_low = search rules in
    let right : SFits w64 c.args.frame.x_high = search rules in
    let below : SFits w64 c.args.frame.y_low = search rules in
    let above : SFits w64 c.args.frame.y_high = search rules in
    λ z h. record {
      left = low_edge c.min.result c.args.frame.x_low z.x x_low left c.min.ensures.self_bound h.left;
      right = high_edge c.max.result c.args.frame.x_high z.x x_high right c.max.ensures.self_bound h.right;
      below = low_edge c.min-in-At.result c.args.frame.y_low z.y y_low below c.min-in-At.ensures.self_bound h.below;
      above = high_edge c.max-in-At.result c.args.frame.y_high z.y y_high above c.max-in-At.ensures.self_bound h.above;
    }

pub returns-in-At-clause-added : goal.returns-in-At-clause-added
returns-in-At-clause-added c =
    let x_low : SFits w64 c.min.result = search rules in
    let x_high : SFits w64 c.max.result = search rules in
    let y_low : SFits w64 c.min-in-At.result = search rules in
    let y_high : SFits w64 c.max-in-At.result = search rules in
    let x : SFits w64 c.in-At.x = search rules in
    let y : SFits w64 c.in-At.y = search rules in
    let here : Square = record { x = c.in-At.x; y = c.in-At.y } in
    let wide : Frame =
    record {
      x_low = to_z w64 (of_z w64 c.min.result);
      x_high = to_z w64 (of_z w64 c.max.result);
      y_low = to_z w64 (of_z w64 c.min-in-At.result);
      y_high = to_z w64 (of_z w64 c.max-in-At.result);
    } in
    let inside : IsInside wide here = record {
      left = low_edge c.min.result c.in-At.x c.in-At.x x_low x c.min.ensures.other_bound (no_more c.in-At.x);
      right = high_edge c.max.result c.in-At.x c.in-At.x x_high x c.max.ensures.other_bound (no_more c.in-At.x);
      below = low_edge c.min-in-At.result c.in-At.y c.in-At.y y_low y c.min-in-At.ensures.other_bound (no_more c.in-At.y);
      above = high_edge c.max-in-At.result c.in-At.y c.in-At.y y_high y c.max-in-At.ensures.other_bound (no_more c.in-At.y);
    } in
    λ z stands. subst (IsInside wide) (same_Some here z (sym (ap place_square c.in-At.is) ∙ stands)) inside
