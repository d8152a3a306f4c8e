use Rattle.std.proofs.Common.{arith, ap, ◌∙◌, ◌≡◌, ◌*◌, length, w64}
use Rattle.std.proofs.lemmas.Int.{to_z-of_z}
use Rattle.auto_core.proofs.Prefixes.{ArePrefixRows-push, AreAllPrefixRows-push}
use Rattle.auto_core.proofs.value.prefix_rows.Goals as goal

pub loop-left-preserved : goal.loop-left-preserved
loop-left-preserved c =
    let inv = c.loop-left.invariant in
    let first = c.in_ok-push.ensures.items in
    let second = c.in_ok-push-2.ensures.items in
    record {
      size = let a = c.in_ok-push.ensures.len in let b = c.in_ok-push-2.ensures.len in let s = inv.size in omega (arith, a, b, s);
      rows = rw (second, first) (ArePrefixRows-push inv.size inv.rows c.state_after_bit.ensures c.state_after_bit-in-loop-left.ensures);
    }

pub returns : goal.returns
returns c =
    let inv = c.loop-left.invariant in
    let end : c.loop-left.left ≡ 64 = grind (arith, c.loop-left-test.false, c.loop-left.auto.left-end) in
    let fits = to_z-of_z w64 c.args.value c.ranges.value in
    let size : length c.loop-left.rows.items ≡ 128 = inv.size ∙ ap (λ n. n * 2) end in
    let rows = rw (end, fits) at inv.rows in
    rw (c.in_ok-push-4.ensures.items, c.in_ok-push-3.ensures.items) (AreAllPrefixRows-push size rows)
