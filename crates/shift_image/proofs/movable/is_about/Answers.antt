use Rattle.lin_formula.specs.Free.{IsOneOf}
use Rattle.shift_image.proofs.Listed.{at_one_of}
use Rattle.shift_image.proofs.movable.is_about.Goals as goal

pub returns : goal.returns
returns c = λ is x one.
    at_one_of (λ y. IsOneOf y c.args.vars.now) _ x (c.are_among.ensures is)
    (rw (c.as_slice.ensures.value, c.in_ok-free.ensures) one)
