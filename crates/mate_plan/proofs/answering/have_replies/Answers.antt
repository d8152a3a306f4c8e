use Rattle.std.proofs.Common.{◌∙◌, ℕ, Bool, Ok, Err, refl, subst, arith}
use Rattle.std.proofs.lemmas.Result.{err_from_is_err_and}
use Rattle.lin_formula.specs.SetOf.{IsEmpty, SetOf}
use Rattle.rule_formula.specs.Fits.{masks_of}
use Rattle.rule_formula.specs.Mean.{mask_tracks}
use Rattle.set_plan.specs.Outcome.{Answers}
use Rattle.set_plan.specs.Sets.{set_at}
use Rattle.mate_plan.specs.Levels.{level_of}
use Rattle.mate_plan.specs.Plan.{Level}
use Rattle.mate_plan.specs.PlanOf.{rules_of}
use Rattle.mate_plan.specs.Questions.{have_moves}
use Rattle.mate_plan.specs.declared.names.Part.TheVariants as kind
use Rattle.mate_plan.proofs.LevelLemmas.{grows_cut, length-grows, level-grows, name_is_found, names-grow, set_is_found}
use Rattle.mate_plan.proofs.QuestionParts.{none_asked, quiet_error, reply_answers}
use Rattle.mate_plan.proofs.answering.have_replies.Goals as goal

pub is_lacking-requires : goal.is_lacking-requires
is_lacking-requires c =
    let masks = masks_of c.args.bench.now.position.now in (
      mask_tracks c.args.bench.now.position.now c.args.moves.now.stage.mask,
      name_is_found c.args.bench.now.position.now.men c.args.work.now.sets masks masks c.args.moves.now.from.now c.args.moves.now.stage.mask
          c.name_in-name.result refl c.name_in-name.ensures c.requires.from,
    )

pub quiet_name-requires-clause-source : goal.quiet_name-requires-clause-source
quiet_name-requires-clause-source c =
    let masks = masks_of c.args.bench.now.position.now in
    name_is_found c.args.bench.now.position.now.men c.args.work.now.sets masks masks c.args.moves.now.from.now c.args.moves.now.stage.mask
    c.name_in-name.result refl c.name_in-name.ensures c.requires.from

pub have_moves-requires-clause-into : goal.have_moves-requires-clause-into
have_moves-requires-clause-into c =
    names-grow c.args.bench.now.position.now.men c.args.work.now.sets c.quiet_name.new.work.sets (masks_of c.args.bench.now.position.now)
    c.args.moves.now.into.now c.in_ok-quiet.ensures.later.grows c.requires.into

pub truncate-requires : goal.truncate-requires
truncate-requires c =
    let more = length-grows c.args.work.now.sets c.quiet_name.new.work.sets c.in_ok-quiet.ensures.later.grows in
    omega (arith, more, c.count-count.ensures)

pub returns-then-is_lacking-clause-answers : goal.returns-then-is_lacking-clause-answers
returns-then-is_lacking-clause-answers c =
    let masks = masks_of c.args.bench.now.position.now in
    let stage = c.args.moves.now.stage in
    let is = set_is_found c.args.work.now.sets masks masks c.args.moves.now.from.now stage.mask c.name_in-name.result refl c.name_in-name.ensures in
    let empty : IsEmpty (set_at c.args.work.now.sets c.name_in-name.result) = rw c.if-is_lacking.true at c.is_lacking.ensures.yes in
    none_asked (rules_of c.args.bench.now.position.now) stage.side stage.ply stage.mask c.args.work.now.memo.budget
    (level_of c.args.work.now.sets masks c.args.moves.now.from.now) (level_of c.args.work.now.sets masks c.args.moves.now.into.now)
    (subst IsEmpty is empty)

pub returns-in_err-quiet-clause-answers : goal.returns-in_err-quiet-clause-answers
returns-in_err-quiet-clause-answers c =
    let p = err_from_is_err_and c.from_residual.result c.from_residual.ensures.1 in
    let masks = masks_of c.args.bench.now.position.now in
    let stage = c.args.moves.now.stage in
    let is = set_is_found c.args.work.now.sets masks masks c.args.moves.now.from.now stage.mask c.name_in-name.result refl c.name_in-name.ensures in
    let some : ¬ IsEmpty (set_at c.args.work.now.sets c.name_in-name.result) = rw c.if-is_lacking.false at c.is_lacking.ensures.none in
    rw (p.1, p.2)
    (quiet_error (rules_of c.args.bench.now.position.now) stage.side stage.ply stage.mask c.args.work.now.memo.budget
    (level_of c.args.work.now.sets masks c.args.moves.now.from.now) (level_of c.args.work.now.sets masks c.args.moves.now.into.now)
    (set_at c.args.work.now.sets c.name_in-name.result) is some c.in_err-quiet.field-0.0 c.in_err-quiet.ensures.answers)

pub returns-in_err-answered-clause-answers : goal.returns-in_err-answered-clause-answers
returns-in_err-answered-clause-answers c =
    let p = err_from_is_err_and c.from_residual-in_err-answered.result c.from_residual-in_err-answered.ensures.1 in
    let masks = masks_of c.args.bench.now.position.now in
    let stage = c.args.moves.now.stage in
    let rules = rules_of c.args.bench.now.position.now in
    let from : Level = level_of c.args.work.now.sets masks c.args.moves.now.from.now in
    let into : Level = level_of c.args.work.now.sets masks c.args.moves.now.into.now in
    let quiet : SetOf = set_at c.quiet_name.new.work.sets c.in_ok-quiet.quiet in
    let is = set_is_found c.args.work.now.sets masks masks c.args.moves.now.from.now stage.mask c.name_in-name.result refl c.name_in-name.ensures in
    let some : ¬ IsEmpty (set_at c.args.work.now.sets c.name_in-name.result) = rw c.if-is_lacking.false at c.is_lacking.ensures.none in
    let grown = level-grows c.args.bench.now.position.now.men c.args.work.now.sets c.quiet_name.new.work.sets masks c.args.moves.now.into.now c.in_ok-quiet.ensures.later.grows c.requires.into in
    let Over : Level → Type 0 =
    λ level. Answers (have_moves rules stage.side stage.ply stage.mask kind.Reply kind.Stale quiet level) c.quiet_name.new.work.memo.budget
    (λ (b : Bool). b) (Err c.in_err-answered.field-0.0) in
    let Within : ℕ → Type 0 = λ n. Answers (have_moves rules stage.side stage.ply stage.mask kind.Reply kind.Stale quiet into) n (λ (b : Bool). b) (Err c.in_err-answered.field-0.0) in
    rw (p.1, p.2)
    (reply_answers rules stage.side stage.ply stage.mask c.args.work.now.memo.budget from into (set_at c.args.work.now.sets c.name_in-name.result)
    is some quiet (Err c.in_err-answered.field-0.0) c.in_ok-quiet.ensures.answers
    (subst Within c.in_ok-quiet.ensures.later.budget (subst Over grown c.in_err-answered.ensures.answers)))

pub returns-clause-answers : goal.returns-clause-answers
returns-clause-answers c =
    let masks = masks_of c.args.bench.now.position.now in
    let stage = c.args.moves.now.stage in
    let rules = rules_of c.args.bench.now.position.now in
    let from : Level = level_of c.args.work.now.sets masks c.args.moves.now.from.now in
    let into : Level = level_of c.args.work.now.sets masks c.args.moves.now.into.now in
    let quiet : SetOf = set_at c.quiet_name.new.work.sets c.in_ok-quiet.quiet in
    let is = set_is_found c.args.work.now.sets masks masks c.args.moves.now.from.now stage.mask c.name_in-name.result refl c.name_in-name.ensures in
    let some : ¬ IsEmpty (set_at c.args.work.now.sets c.name_in-name.result) = rw c.if-is_lacking.false at c.is_lacking.ensures.none in
    let grown = level-grows c.args.bench.now.position.now.men c.args.work.now.sets c.quiet_name.new.work.sets masks c.args.moves.now.into.now c.in_ok-quiet.ensures.later.grows c.requires.into in
    let Over : Level → Type 0 =
    λ level. Answers (have_moves rules stage.side stage.ply stage.mask kind.Reply kind.Stale quiet level) c.quiet_name.new.work.memo.budget
    (λ (b : Bool). b) (Ok c.in_ok-answered.answered) in
    let Within : ℕ → Type 0 = λ n. Answers (have_moves rules stage.side stage.ply stage.mask kind.Reply kind.Stale quiet into) n (λ (b : Bool). b) (Ok c.in_ok-answered.answered) in
    reply_answers rules stage.side stage.ply stage.mask c.args.work.now.memo.budget from into (set_at c.args.work.now.sets c.name_in-name.result)
    is some quiet (Ok c.in_ok-answered.answered) c.in_ok-quiet.ensures.answers
    (subst Within c.in_ok-quiet.ensures.later.budget (subst Over grown c.in_ok-answered.ensures.answers))

pub returns-clause-later : goal.returns-clause-later
returns-clause-later c =
    record {
      grows = rw c.truncate.ensures (grows_cut c.args.work.now.sets c.quiet_name.new.work.sets c.count-count.result c.count-count.ensures c.in_ok-quiet.ensures.later.grows);
      budget = c.in_ok-answered.ensures.budget ∙ c.in_ok-quiet.ensures.later.budget;
    }
