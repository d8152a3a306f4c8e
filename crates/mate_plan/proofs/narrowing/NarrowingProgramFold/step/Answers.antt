use Rattle.std.proofs.Common.{◌≡◌, suc, List, IfSome, subst, sym, ap, ◌∙◌, arith}
use Rattle.std.proofs.lemmas.List.Elements.{All-head}
use Rattle.std.proofs.lemmas.Result.{err_from_is_err_and}
use Rattle.track_word.specs.declared.tracks.Var.{Var}
use Rattle.lin_formula.specs.SetOf.{as_set, tables}
use Rattle.lin_formula.specs.TreeOf.{tree_of}
use Rattle.rule_formula.specs.Mean.{mask_tracks}
use Rattle.rule_formula.specs.Meaning.{IsBearer}
use Rattle.set_plan.specs.Sets.{IsReachedOn, item_of, made_of}
use Rattle.set_plan.proofs.Items.{item-own}
use Rattle.set_plan.proofs.Thinned.{Ends-make_same}
use Rattle.mate_plan.specs.Plan.{name, safe_item}
use Rattle.mate_plan.specs.PlanOf.{rules_of}
use Rattle.mate_plan.specs.declared.names.Part.TheVariants as kind
use Rattle.mate_plan.proofs.LevelLemmas.{grows_cut, length-grows}
use Rattle.mate_plan.proofs.PartAnswers.{Error-make}
use Rattle.mate_plan.proofs.SafeAnswers.{safe_item_on, safe_item_same}
use Rattle.mate_plan.proofs.UnionAnswers.{game_on}
use Rattle.mate_plan.proofs.narrowing.NarrowingProgramFold.step.Goals as goal

pub make_reached-requires-clause-item : goal.make_reached-requires-clause-item
make_reached-requires-clause-item c =
    let on : IsReachedOn (mask_tracks c.args.self.now.bench.now.position.now c.args.self.now.stage.mask) c.in-Some.source = rw c.in-Some.is at c.requires.fits.1.1 in
    let item =
    safe_item_on c.args.self.now.bench.now.position.now
    (game_on c.args.self.now.bench.now) c.put.new.self
    c.args.self.now.stage.mask c.args.bearing.now
    (All-head (λ b. IsBearer c.args.self.now.bench.now.position.now.men c.args.self.now.stage.mask b.man b.ray b.king) c.args.bearing.now
    c.requires.fits.0 c.requires.fits.1.0)
    c.in_ok-id.id (tree_of c.in_ok-formula.formula) c.in_ok-formula.ensures.tree c.in-Some.source c.in_ok-id.ensures.ok on in
    rw c.table.ensures
    (item-own (mask_tracks c.args.self.now.bench.now.position.now c.args.self.now.stage.mask) c.put.new.self (tree_of c.in_ok-formula.formula) item)

pub truncate-requires : goal.truncate-requires
truncate-requires c =
    let more = length-grows c.args.work.now.sets c.put.new.self c.in_ok-id.ensures.grows in
    omega (arith, more, c.count-count.ensures)

pub returns-clause-answers : goal.returns-clause-answers
returns-clause-answers c =
    let on : IsReachedOn (mask_tracks c.args.self.now.bench.now.position.now c.args.self.now.stage.mask) c.in-Some.source = rw c.in-Some.is at c.requires.fits.1.1 in
    let is : as_set c.args.so_far.set ≡ tables c.put.new.self c.in_ok-id.id.0 = ap as_set c.in-Some.is ∙ sym (ap as_set c.in_ok-id.ensures.ok) in
    let same =
    safe_item_same c.args.self.now.bench.now.position.now
    (game_on c.args.self.now.bench.now) c.put.new.self
    c.args.self.now.stage.mask c.args.bearing.now
    (All-head (λ b. IsBearer c.args.self.now.bench.now.position.now.men c.args.self.now.stage.mask b.man b.ray b.king) c.args.bearing.now
    c.requires.fits.0 c.requires.fits.1.0)
    c.in_ok-id.id (tree_of c.in_ok-formula.formula) c.in_ok-formula.ensures.tree c.in-Some.source c.in_ok-id.ensures.ok on
    (as_set c.args.so_far.set) is in
    let made = rw (c.table.ensures, c.part.ensures) at c.in_ok-made.ensures.answers in
    Ends-make_same (name c.args.self.now.stage.ply c.args.self.now.stage.mask kind.Safe) c.args.work.now.memo.budget c.args.so_far.at
    (item_of c.put.new.self (tree_of c.in_ok-formula.formula))
    (safe_item (rules_of c.args.self.now.bench.now.position.now) c.args.self.now.stage.mask (as_set c.args.so_far.set) c.args.bearing.now)
    (made_of c.in_ok-made.made) same made

pub returns-clause-fits : goal.returns-clause-fits
returns-clause-fits c = λ rest (all, set, room).
    let on : IsReachedOn (mask_tracks c.args.self.now.bench.now.position.now c.args.self.now.stage.mask) c.in-Some.source = rw c.in-Some.is at c.requires.fits.1.1 in
    let item =
    safe_item_on c.args.self.now.bench.now.position.now
    (game_on c.args.self.now.bench.now) c.put.new.self
    c.args.self.now.stage.mask c.args.bearing.now
    (All-head (λ b. IsBearer c.args.self.now.bench.now.position.now.men c.args.self.now.stage.mask b.man b.ray b.king) c.args.bearing.now
    c.requires.fits.0 c.requires.fits.1.0)
    c.in_ok-id.id (tree_of c.in_ok-formula.formula) c.in_ok-formula.ensures.tree c.in-Some.source c.in_ok-id.ensures.ok on in (
      λ k d within. all (suc k) d (omega (arith, within)),
      subst (λ (tracks : List Var). IfSome c.in_ok-made.made.set (IsReachedOn tracks)) item.over c.in_ok-made.ensures.set,
      omega (arith, room, c.in_ok-made.ensures.room),
    )

pub returns-clause-keeps : goal.returns-clause-keeps
returns-clause-keeps c = rw c.truncate.ensures (grows_cut c.args.work.now.sets c.put.new.self c.count-count.result c.count-count.ensures c.in_ok-id.ensures.grows)

pub returns-in_err-made-clause-answers : goal.returns-in_err-made-clause-answers
returns-in_err-made-clause-answers c =
    let on : IsReachedOn (mask_tracks c.args.self.now.bench.now.position.now c.args.self.now.stage.mask) c.in-Some.source = rw c.in-Some.is at c.requires.fits.1.1 in
    let is : as_set c.args.so_far.set ≡ tables c.put.new.self c.in_ok-id.id.0 = ap as_set c.in-Some.is ∙ sym (ap as_set c.in_ok-id.ensures.ok) in
    let same =
    safe_item_same c.args.self.now.bench.now.position.now
    (game_on c.args.self.now.bench.now) c.put.new.self
    c.args.self.now.stage.mask c.args.bearing.now
    (All-head (λ b. IsBearer c.args.self.now.bench.now.position.now.men c.args.self.now.stage.mask b.man b.ray b.king) c.args.bearing.now
    c.requires.fits.0 c.requires.fits.1.0)
    c.in_ok-id.id (tree_of c.in_ok-formula.formula) c.in_ok-formula.ensures.tree c.in-Some.source c.in_ok-id.ensures.ok on
    (as_set c.args.so_far.set) is in
    let made = rw (c.table.ensures, c.part.ensures) at c.in_err-made.ensures.answers in
    let p = err_from_is_err_and c.from_residual-in_err-made.result c.from_residual-in_err-made.ensures.1 in
    rw (p.1, p.2)
    (Error-make (name c.args.self.now.stage.ply c.args.self.now.stage.mask kind.Safe) c.args.work.now.memo.budget c.args.so_far.at
    (item_of c.put.new.self (tree_of c.in_ok-formula.formula))
    (safe_item (rules_of c.args.self.now.bench.now.position.now) c.args.self.now.stage.mask (as_set c.args.so_far.set) c.args.bearing.now)
    same c.in_err-made.field-0.0 made)

pub safe_formula-requires : goal.safe_formula-requires
safe_formula-requires c =
    All-head (λ b. IsBearer c.args.self.now.bench.now.position.now.men c.args.self.now.stage.mask b.man b.ray b.king) c.args.bearing.now c.requires.fits.0 c.requires.fits.1.0

pub returns-in_default-clause-fits : goal.returns-in_default-clause-fits
returns-in_default-clause-fits c = λ rest (all, set, room). (λ k d within. all (suc k) d (omega (arith, within)), tt, omega (arith, room))
