use Rattle.std.proofs.Common.{◌≡◌, ◌+◌, ◌≤◌, ◌++◌, length, take, drop, arith, ap, sym, ◌∙◌, take_all, take-append-drop, length-append}
use Rattle.std.proofs.lemmas.List.{nil_from_length, take-append-le, take_rest, length-take-le, drop-drop, length-drop}
use Rattle.desk_base.proofs.mem_source.MemSourceSource.take.Goals as goal

pub returns-clause-bytes : goal.returns-clause-bytes
returns-clause-bytes c =
    let n = c.min-count.result in
    let at = c.self.inside.at in
    let left = c.args.self.now.left in
    let buffer = c.args.buffer.now in
    let copied = c.copy_from_slice.new.self in
    let tail = take_rest c.deref.result.now at ∙ ap (λ l. drop at l) c.deref.ensures.value ∙ ap (λ v. v.left) c.self.view_is in
    let is : copied ≡ take n left = c.copy_from_slice.ensures.after ∙ ap (λ l. take n l) tail in
    let fits : n ≤ length buffer = omega (arith, c.min.ensures, c.min-count.ensures) in
    let size : length copied ≡ n = c.copy_from_slice.ensures.len ∙ length-take-le n buffer fits in
    let rest : drop (at + n) c.self.inside.bytes.items ≡ drop n left = sym (drop-drop n at c.self.inside.bytes.items) ∙ ap (λ v. drop n v.left) c.self.view_is in (
      sym (take-append-drop n left)
          ∙ ap (λ front. front ++ drop n left) (sym is ∙ sym (take_all n copied (omega (arith, size))) ∙ sym (take-append-le n copied (drop n buffer) (omega (arith, size))))
          ∙ ap (λ l. take n (copied ++ drop n buffer) ++ l) (sym rest),
      λ none room.
          rest
          ∙ nil_from_length (drop n left)
          (omega (arith, none, room, size, length-append copied (drop n buffer), length-drop n buffer, length-drop n left, ap length tail, c.min.ensures, c.min-count.ensures, c.self.invariant)),
    )
