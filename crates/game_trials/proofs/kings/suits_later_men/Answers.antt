use Rattle.std.proofs.Common.{◌≡◌, ◌<◌, ℕ, Some, arith, below_more, sym, ◌∙◌, subst}
use Rattle.std.proofs.lemmas.Option.{same_Some}
use Rattle.game_rules.specs.declared.men.Man.{Man}
use Rattle.game_trials.specs.Kings.{AreCompatible, AreCompatibleAt}
use Rattle.game_trials.proofs.SoundPositions.{numbered}
use Rattle.game_trials.proofs.kings.suits_later_men.Goals as goal

pub loop-later-preserved : goal.loop-later-preserved
loop-later-preserved c = λ k more below m n is_m is_n.
    let p = c.args.p.now in
    below_more (λ j. c.args.number < j → AreCompatibleAt p c.args.number j) c.loop-later.later (λ j less past. c.loop-later.invariant j past less)
    (λ past a b is_a is_b.
    let one = same_Some c.man-man.result a (sym c.man-man.ensures ∙ is_a) in
    let two = same_Some c.man.result b (sym c.man.ensures ∙ is_b) in
    subst (λ (x : Man). AreCompatible x b) one (subst (λ (x : Man). AreCompatible c.man-man.result x) two (c.are_compatible.ensures c.if-not-are_compatible.false)))
    k below more m n is_m is_n

pub returns : goal.returns
returns c = λ yes k more m n is_m is_n.
    let within = numbered c.args.p.now k n is_n in
    let count = c.count-count.ensures in
    c.loop-later.invariant k more (omega (arith, within, count, c.loop-later-test.false)) m n is_m is_n
