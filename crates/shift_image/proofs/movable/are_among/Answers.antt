use Rattle.std.proofs.lemmas.List.Elements.{All-more}
use Rattle.lin_formula.specs.Free.{IsOneOf}
use Rattle.shift_image.proofs.Loops.{all-whole}
use Rattle.shift_image.proofs.movable.are_among.Goals as goal

pub loop-var-preserved : goal.loop-var-preserved
loop-var-preserved c =
    All-more (λ x. IsOneOf x c.args.vars.now) c.args.some.now c.loop-var.var-index _ c.loop-var-test.true
    c.loop-var.invariant (c.is_one_of.ensures.one c.if-not-is_one_of.false)

pub returns : goal.returns
returns c = λ is.
    all-whole (λ x. IsOneOf x c.args.vars.now) c.args.some.now c.loop-var.var-index c.loop-var-test.false c.loop-var.invariant
