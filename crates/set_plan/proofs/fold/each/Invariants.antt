use Rattle.std.proofs.Common.{◌≡◌, drop}
use Rattle.set_plan.proofs.Folds.{IsAfter}
use Rattle.set_plan.proofs.fold.each.Given as goal

-- what is left leads to the whole, by programs that stay what they are
abbrev pub invariant-loop-item : goal.invariant-loop-item
invariant-loop-item g l =
    let it = g.S.ProgramFold in
    record {
      fits : it.fits l.steps l.work l.value (drop l.item-index l.items);
      program : it.program l.steps l.work ≡ it.program l.steps l.initial.work;
      budget : it.budget l.steps l.work ≡ it.budget l.steps l.initial.work;
      keeps : it.keeps l.steps l.initial.work l.work;
      left : IsAfter l.items (it.program l.steps l.initial.work) (it.view l.steps l.initial.work l.fn.first) (it.budget l.steps l.initial.work)
          l.item-index (it.view l.steps l.work l.value);
    }
