use Rattle.std.proofs.Common.{rules, ◌≡◌, ◌≤◌, length, arith, length-append}
use Rattle.play_loop.proofs.Turning.{move_short}
use Rattle.play_loop.proofs.turn.move_line.Goals as goal

pub push-requires-2 : goal.push-requires-2
push-requires-2 c =
    let text : length c.write.result.now ≤ 43 = rw c.write.ensures (move_short c.args.mv (search rules) (search rules)) in
    let word : length c.push.new.self ≡ 6 = rw (c.push.ensures, c.new-line.ensures) c.side_word.ensures.short in
    omega (arith, text, word)

pub push-requires-3 : goal.push-requires-3
push-requires-3 c =
    let text : length c.write.result.now ≤ 43 = rw c.write.ensures (move_short c.args.mv (search rules) (search rules)) in
    let word : length c.push.new.self ≡ 6 = rw (c.push.ensures, c.new-line.ensures) c.side_word.ensures.short in
    rw c.push-2.ensures (omega (arith, text, word, length-append c.push.new.self c.write.result.now))
