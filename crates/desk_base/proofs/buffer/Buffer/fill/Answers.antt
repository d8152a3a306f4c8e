use Rattle.std.proofs.Common.{◌≤◌, ◌++◌, length, take, ap, ◌∙◌, arith}
use Rattle.desk_base.proofs.Buffers.{filled}
use Rattle.desk_base.proofs.buffer.Buffer.fill.Goals as goal

pub returns-clause-taken : goal.returns-clause-taken
returns-clause-taken g c =
    let k = c.in_ok-count.count in
    let moving = c.move_to_front-self-inside in
    let fits : moving.result ≤ length moving.new.items = omega (arith, moving.ensures.count, c.self.invariant, c.self.told, moving.auto.items) in
    let enough : k ≤ length c.take.new.buffer = omega (arith, c.take.auto.buffer, c.in_ok-count.ensures.most) in
    record {
      bytes = take k c.take.new.buffer;
      all =
          filled moving.result k moving.new.items c.take.new.buffer _ fits enough
          ∙ ap (λ held. held ++ take k c.take.new.buffer) (moving.ensures.front ∙ c.self.view_is);
      taken = c.in_ok-count.ensures.bytes.0;
    }
