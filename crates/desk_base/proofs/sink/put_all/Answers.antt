use Rattle.std.proofs.Common.{take, ◌++◌, ◌∙◌, sym, ap, subst, arith}
use Rattle.std.specs.Io.KnownBytes.{Appends}
use Rattle.std.proofs.KnownBytes.{Appends-trans}
use Rattle.std.proofs.Math.Seq.{take-add}
use Rattle.std.proofs.lemmas.List.{take_rest}
use Rattle.desk_base.proofs.sink.put_all.Goals as goal

pub loop-sent-preserved : goal.loop-sent-preserved
loop-sent-preserved g c =
    let n = c.loop-sent.sent in
    let k = c.in_ok-sent.field-0 in
    let bytes = c.args.bytes.now in
    let appended = Appends-trans _ _ _ _ _ c.loop-sent.invariant.written c.in_ok-sent.ensures.bytes in
    record {
      within = omega (arith, c.in_ok-sent.ensures.most);
      written = subst (Appends _ _) (ap (λ rest. take n bytes ++ take k rest) (take_rest bytes n) ∙ sym (take-add n k bytes)) appended;
      faults = omega (arith, c.put.ensures.never_falls, c.loop-sent.invariant.faults);
    }
