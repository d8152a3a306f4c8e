use Rattle.lin_formula.specs.TreeOf.{tree_of}
use Rattle.formula_auto.proofs.StillKept.{keeps-compiled}
use Rattle.shift_image.proofs.leaving.answered.Goals as goal

pub returns-in-Ok-clause-answered : goal.returns-in-Ok-clause-answered
returns-in-Ok-clause-answered c = record {
  valid = c.tracks.ensures.valid;
  decides = c.in-Ok.ensures.decides;
  within = c.in-Ok.ensures.within;
}

pub returns-in-Ok-clause-kept : goal.returns-in-Ok-clause-kept
returns-in-Ok-clause-kept c =
    keeps-compiled (tree_of c.args.f.now) _ _ c.compile.result c.compile.ensures.after c.compile.ensures.stopped

pub returns-in-Err-Over-clause-kept : goal.returns-in-Err-Over-clause-kept
returns-in-Err-Over-clause-kept c =
    keeps-compiled (tree_of c.args.f.now) _ _ c.compile.result c.compile.ensures.after c.compile.ensures.stopped

pub returns-in-Err-Memory-clause-kept : goal.returns-in-Err-Memory-clause-kept
returns-in-Err-Memory-clause-kept c =
    keeps-compiled (tree_of c.args.f.now) _ _ c.compile.result c.compile.ensures.after c.compile.ensures.stopped
