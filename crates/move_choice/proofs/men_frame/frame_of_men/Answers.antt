use Rattle.std.proofs.Common.{◌≡◌, ℕ, zero, suc, ◌+◌, ◌≤◌, inl, inr, Some, sym, ap, subst, ◌∙◌, arith}
use Rattle.std.proofs.lemmas.Bool.{cases_lt}
use Rattle.std.proofs.lemmas.Option.{same_Some}
use Rattle.game_rules.specs.declared.men.Man.{Man}
use Rattle.game_rules.specs.declared.men.Square.{Square}
use Rattle.game_rules.specs.Game.{Position, StandsOn, man_at, place_square}
use Rattle.chess_game.specs.Unsoundness.{StandsAt}
use Rattle.chess_game.specs.Way.{IsInside}
use Rattle.chess_game.specs.declared.way.Frame.{Frame}
use Rattle.move_choice.proofs.Firsts.{man_high}
use Rattle.move_choice.proofs.Meets.{stands_is}
use Rattle.move_choice.proofs.men_frame.frame_of_men.Goals as goal

none_stands : (p : Position) (i : ℕ) (z : Square) → i ≤ 0 → StandsAt p i z → ⊥
none_stands p zero z low stands = stands
none_stands p (suc i) z low stands = omega (arith, low)

-- one man more
more_inside : (p : Position) (f g : Frame) (n : ℕ) (m : Man) → man_at p (n + 1) ≡ Some m
    → ((z : Square) → IsInside f z → IsInside g z) → ((z : Square) → place_square m.place ≡ Some z → IsInside g z)
    → ((i : ℕ) (z : Square) → i ≤ n → StandsAt p i z → IsInside f z) → (i : ℕ) (z : Square) → i ≤ n + 1 → StandsAt p i z → IsInside g z
more_inside p f g n m is kept added below i z low stands = elim (cases_lt n i) [
  | inl past ↦
      let here : i ≡ n + 1 = omega (arith, past, low) in
      let w = stands_is p i z stands in
      let same : w.0 ≡ m = same_Some w.0 m (sym w.1 ∙ (ap (man_at p) here ∙ is)) in
      added z (subst (λ k. StandsOn k z) same w.2)
  | inr within ↦ kept z (below i z within stands)
]

pub loop-n-init : goal.loop-n-init
loop-n-init c = λ i z low stands. absurd (none_stands c.args.p.now i z low stands)

pub loop-n-preserved : goal.loop-n-preserved
loop-n-preserved c =
    more_inside c.args.p.now c.loop-n.frame c.widened-frame.result c.loop-n.n c.man.result c.man.ensures c.widened-frame.ensures.kept c.widened-frame.ensures.added c.loop-n.invariant

pub returns : goal.returns
returns c = λ i z stands.
    let w = stands_is c.args.p.now i z stands in
    let high = man_high c.args.p.now i w.0 w.1 in
    let count = c.count-n-end.ensures.count in
    let past = c.loop-n-test.false in
    c.loop-n.invariant i z (omega (arith, high, count, past)) stands
