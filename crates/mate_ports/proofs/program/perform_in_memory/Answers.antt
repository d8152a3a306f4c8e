use Rattle.std.proofs.Common.{◌≡◌, sym, ◌∙◌, ap, arith}
use Rattle.mate_desk.specs.Faultless.{held}
use Rattle.mate_ports.proofs.InMemory.{ends_exactly}
use Rattle.mate_ports.proofs.program.perform_in_memory.Goals as goal

pub returns : goal.returns
returns c =
    let ran = c.perform-status in
    let parts = c.into_parts-output in
    let none : parts.result.1 ≡ 0 = omega (arith, c.if-write_faults-gt0.false) in
    record {
      exact =
          ends_exactly c.args.words ran.result (held c.args.input.now c.args.output.items c.args.files) (held ran.new.source.now parts.result.0.items ran.new.shelf)
          c.new-sink.result.writer.items ran.new.sink.writer.items c.new-sink.result.faults ran.new.sink.faults (ap (λ v. v.items) c.new-sink.ensures.writer) c.new-sink.ensures.faults
          (ap (λ v. v.items) (sym parts.ensures.writer)) (sym parts.ensures.faults ∙ none) ran.ensures;
    }
