use Rattle.std.proofs.Common.{subst, ◌≡◌, ℕ, length, ap, List}
use Rattle.diagram_product.specs.Paired.{AreAnswers}
use Rattle.auto_reduce.proofs.Stables.{Keeps-pairs, pairs-Keep}
use Rattle.auto_reduce.proofs.stable.keeps.Goals as goal

pub returns-clause-keeps : goal.returns-clause-keeps
returns-clause-keeps c =
    let shapes = c.args.diagrams.now in
    let pairs = c.apply2.new.pairs in
    let none : length c.new-pairs.result ≡ 0 = ap (λ (l : List (ℕ × ℕ)). length l) c.new-pairs.ensures in
    let answers = subst (λ n. AreAnswers shapes n pairs c.args.first c.args.row) none c.in_ok-apply2.ensures.answers in
    let kept = rw c.as_slice.ensures at c.each_keeps.ensures in (
      λ said. Keeps-pairs shapes c.args.first c.args.row c.args.state pairs c.apply2.new.diagrams c.in_ok-apply2.field-0 c.in_ok-apply2.ensures.map (kept.0 said),
      λ keeps. kept.1 (pairs-Keep shapes c.args.first c.args.row c.args.state pairs answers keeps),
    )
