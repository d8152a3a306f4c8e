use Rattle.std.proofs.Common.{arith, true≢false, sym, ap, ◌∙◌, ◌<◌, ◌≡◌, length, get_or, true, false, refl}
use Rattle.auto_core.specs.Automaton.{is_final}
use Rattle.auto_reduce.proofs.Empties.{some_word, no_word}
use Rattle.auto_reduce.proofs.empty.is_empty.Goals as goal

pub returns-then-flag : goal.returns-then-flag
returns-then-flag c =
    let same = c.flags-flag-items.ensures in
    let sizes = ap length same in
    let within : c.loop-flag.flag-index < length c.args.a.now.accept = omega (arith, sizes, c.loop-flag-test.true) in
    let flag : is_final c.args.a.now c.loop-flag.flag-index ≡ true = ap (λ l. get_or l c.loop-flag.flag-index false) (sym same) ∙ c.if-flag.true in
    (λ e. absurd (true≢false (sym e)), λ none. absurd (some_word c.args.a.now c.requires c.loop-flag.flag-index within flag none))

pub returns : goal.returns
returns c =
    let same = c.flags-flag-items.ensures in
    let sizes = ap length same in
    (λ e. no_word c.states.ensures.valid (λ k h. ap (λ l. get_or l k false) (sym same) ∙ c.loop-flag.invariant k (omega (arith, sizes, h, c.loop-flag-test.false))), λ none. refl)
