use Rattle.lin_formula.specs.TreeOf.{tree_of}
use Rattle.lin_formula.proofs.FreeVars.{free_vars-free}
use Rattle.arith_desk.proofs.deciding.is_free.Goals as goal

pub returns : goal.returns
returns c =
    let listed = rw (c.as_slice.ensures.value, c.in_ok-free.ensures) at c.is_one_of.ensures in
    let free = free_vars-free (tree_of c.args.f.now) c.args.var in
    (λ is. free.0 (listed.0 is), λ is. listed.1 (free.1 is))
