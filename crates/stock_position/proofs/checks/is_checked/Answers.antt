use Rattle.std.proofs.Common.{◌≡◌, ◌+◌, ◌<◌, Some, arith, ap, ◌∙◌, add-one}
use Rattle.std.proofs.lemmas.Option.{slice_get-get_or}
use Rattle.game_rules.specs.Game.{man_at}
use Rattle.stock_position.proofs.checks.is_checked.Goals as goal

pub returns : goal.returns
returns c = (
  λ t. absurd (cc),
  λ (x, m, within, is, h).
      let at : man_at c.args.p.now (x + 1) ≡ Some m = rw add-one (slice_get-get_or c.args.p.now.men x m within ∙ ap (λ n. Some n) is) in
      let below : x < c.loop-i.i = omega (arith, within, c.count-i-end.ensures.count, c.loop-i-test.false) in
      absurd (c.loop-i.invariant x m below at h),
)
