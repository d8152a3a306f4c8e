use Rattle.std.proofs.Common.{◌++◌, ◌∷◌, [], ap, ◌∙◌, rules}
use Rattle.desk_describe.proofs.Texts.{halved, rest_is_in, rest_is_out}
use Rattle.desk_describe.proofs.lists.rests_below.Goals.{then-bits-eq1+in_ok-push, else-bits-eq1}
use Rattle.desk_describe.proofs.lists.rests_below.Goals as goal

pub loop-rest-preserved : goal.loop-rest-preserved
loop-rest-preserved c =
    let rests = c.args.rests in
    let rest = c.loop-rest.rest in
    let bits = c.loop-rest.bits in
    let inv = c.loop-rest.invariant in
    record {
      bits = halved rests rest bits inv.bits;
      found = elim c.if-bits-eq1.branch [
        | then-bits-eq1+in_ok-push w ↦ rw w.found-is (w.in_ok-push.ensures.items ∙ ap (λ xs. xs ++ rest ∷ []) inv.found ∙ rest_is_in rests rest bits inv.bits (search rules))
        | else-bits-eq1 w ↦ rw w.found-is (inv.found ∙ rest_is_out rests rest bits inv.bits (search rules))
      ];
    }
