use Rattle.std.proofs.Common.{map, ◌∙◌}
use Rattle.std.proofs.lemmas.Result.{err_from_is_err_and}
use Rattle.lin_formula.specs.SetOf.{Nothing}
use Rattle.lin_formula.specs.TreeOf.{tree_of}
use Rattle.rule_formula.specs.Mean.{mask_tracks}
use Rattle.set_plan.specs.Program.{Give}
use Rattle.set_plan.specs.Sets.{item_of, made_of}
use Rattle.set_plan.specs.Unite.{unite}
use Rattle.set_plan.proofs.Composition.{Ends-bind, Ends-give, Error-bind}
use Rattle.mate_plan.proofs.unions.united.Goals as goal

pub returns-in_err-made-clause-answers : goal.returns-in_err-made-clause-answers
returns-in_err-made-clause-answers c =
    let p = err_from_is_err_and c.from_residual-in_err-made.result c.from_residual-in_err-made.ensures.1 in
    let tracks = c.deref.ensures.value ∙ c.in_ok-tracks.ensures in
    let items = map (item_of c.args.sets.now) (map tree_of c.args.formulas.now) in
    let error = rw (c.table.ensures, tracks) at c.in_err-made.ensures.answers in
    rw (p.1, p.2)
    (Error-bind (unite (mask_tracks c.args.bench.now.position.now c.args.part.mask) c.args.part (Nothing, 1) items) (λ made. Give made.0) c.args.memo.now.budget c.in_err-made.field-0.0 error)

pub returns-clause-answers : goal.returns-clause-answers
returns-clause-answers c =
    let tracks = c.deref.ensures.value ∙ c.in_ok-tracks.ensures in
    let items = map (item_of c.args.sets.now) (map tree_of c.args.formulas.now) in
    let ends = rw (c.table.ensures, tracks) at c.in_ok-made.ensures.answers in
    Ends-bind (unite (mask_tracks c.args.bench.now.position.now c.args.part.mask) c.args.part (Nothing, 1) items) (λ made. Give made.0)
    c.args.memo.now.budget (made_of c.in_ok-made.made) _ ends (Ends-give c.args.memo.now.budget _)
