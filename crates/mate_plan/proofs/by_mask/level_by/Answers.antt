use Rattle.std.proofs.Common.{ℕ, List, [], subst}
use Rattle.std.proofs.lemmas.Result.{IfOk-weaker}
use Rattle.rule_formula.specs.Fits.{masks_of}
use Rattle.set_plan.specs.Outcome.{Answers}
use Rattle.mate_plan.specs.Levels.{level_in}
use Rattle.mate_plan.specs.Plan.{Level, for_masks}
use Rattle.mate_plan.proofs.Loops.{level_none, so_far_names, so_far_none}
use Rattle.mate_plan.proofs.by_mask.level_by.Goals as goal

pub each-requires : goal.each-requires
each-requires g c =
    let bench = c.args.bench.now in
    record { fits = rw c.new.ensures (so_far_none bench.position.now c.args.work.now.sets bench.masks.now bench.masks_are, c.requires.fits) }

pub returns-clause-answers : goal.returns-clause-answers
returns-clause-answers g c =
    let bench = c.args.bench.now in
    let sets = c.args.work.now.sets in
    let program = g.M.LevelBuilder.program c.args.making.now bench.position.now sets in
    let Over : List ℕ → Type 0 =
    λ ms. Answers (for_masks ms program (level_in bench.position.now sets [])) c.args.work.now.memo.budget
    (level_in bench.position.now c.each.new.work.sets) c.each.result in
    let From : Level → Type 0 = λ l. Answers (for_masks (masks_of bench.position.now) program l) c.args.work.now.memo.budget (level_in bench.position.now c.each.new.work.sets) c.each.result in
    subst From (level_none bench.position.now sets) (subst Over bench.masks_are (rw c.new.ensures at c.each.ensures.answers))

pub returns-clause-names : goal.returns-clause-names
returns-clause-names g c = IfOk-weaker c.each.result _ _ (λ names (so_far, fits). so_far_names c.args.bench.now.position.now so_far) c.each.ensures.fits
