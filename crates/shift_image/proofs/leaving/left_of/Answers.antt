use Rattle.std.proofs.lemmas.Result.{IfOk-weaker}
use Rattle.lin_formula.specs.TreeOf.{tree_of}
use Rattle.shift_image.proofs.Lefts.{same_tracks, left-of}
use Rattle.shift_image.proofs.leaving.left_of.Goals as goal

pub difference-requires : goal.difference-requires
difference-requires c =
    let asked = c.in_ok-asked.ensures.answered.decides.tracks in
    let same = same_tracks c.args.a.now.tracks (tree_of c.args.f.now) c.tracks.ensures.valid.ascending c.requires.about in
    rw (asked, same) c.tracks.ensures.valid.few_tracks

pub returns-clause-left : goal.returns-clause-left
returns-clause-left c =
    let answer = c.in_ok-asked.ensures.answered in
    IfOk-weaker c.difference.result _ _
    (λ made h. left-of c.tracks.ensures.valid.ascending c.requires.about answer.decides answer.within h)
    c.difference.ensures
