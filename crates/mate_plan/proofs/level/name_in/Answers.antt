use Rattle.std.proofs.Common.{◌≡◌, List, ℕ, length, subst}
use Rattle.mate_plan.specs.Formulas.{name_of}
use Rattle.std.proofs.lemmas.List.{length_push}
use Rattle.std.proofs.lemmas.Slice.Zip.{zip_end, zip_turn}
use Rattle.mate_plan.proofs.LevelLemmas.{name_all, name_passed}
use Rattle.mate_plan.proofs.level.name_in.Goals as goal

pub loop-at-preserved : goal.loop-at-preserved
loop-at-preserved c =
    let (less, less_names, is, is_name) =
    zip_turn c.args.bench.now.masks.now c.args.level.now c.loop-at.yielded c.into_iter-at-iterator.result c.loop-at.at-iterator c.next.new.self
    c.next.result (cc) (cc) c.loop-at.yielded_by (c.in-Some.at, c.in-Some.name) c.in-Some.is c.next.ensures.steps in
    name_passed c.args.bench.now.masks.now c.args.level.now c.args.mask c.loop-at.found (length c.loop-at.yielded) _ c.in-Some.at.now
    c.in-Some.name.now _ (length_push c.loop-at.yielded _) less less_names (is _) (is_name _) c.if-at-mask.false c.loop-at.invariant

pub returns : goal.returns
returns c =
    let end =
    zip_end c.args.bench.now.masks.now c.args.level.now c.loop-at.yielded c.into_iter-at-iterator.result c.loop-at.at-iterator c.next.new.self
    c.next.result (cc) (cc) c.loop-at.yielded_by c.in-None.is c.next.ensures.steps in
    let At : List ℕ → Type 0 = λ ms. c.loop-at.found ≡ name_of ms c.args.level.now c.args.mask in
    subst At c.args.bench.now.masks_are
    (name_all c.args.bench.now.masks.now c.args.level.now c.args.mask c.loop-at.found (length c.loop-at.yielded) _ end c.loop-at.invariant)
