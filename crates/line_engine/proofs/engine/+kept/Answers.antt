use Rattle.std.proofs.Common.{◌≡◌, suc, ◌+◌, ◌-◌, ◌≤◌, ◌^◌, List, ◌∷◌, length, get_or, Some, None, refl, sym, ap, ◌∙◌, subst, arith}
use Rattle.std.proofs.lemmas.Result.{err_from_is_err_and}
use Rattle.auto_core.specs.Automaton.{Automaton}
use Rattle.lin_formula.specs.SetOf.{Table}
use Rattle.rule_formula.specs.declared.opt.Opt.{Opt}
use Rattle.rule_formula.specs.Options.{is_side}
use Rattle.rule_formula.specs.Placed.{is_live}
use Rattle.line_formula.specs.Paths.{mask_at, turn_at}
use Rattle.set_plan.specs.Outcome.{Ends, IsPlanError}
use Rattle.set_plan.specs.Program.{each}
use Rattle.set_plan.specs.Unite.{Made}
use Rattle.set_plan.proofs.Composition.{LeadsTo-self}
use Rattle.set_plan.proofs.Folds.{each_ends, each_error, each_more}
use Rattle.line_plan.specs.Plan.{Found, distances, kept, lose_option, reach, win_option}
use Rattle.line_engine.specs.Answers.{IsFilled, IsFilledLosing, IsFilledOn, IsOneSet, as_plan_error, found_at, losing_at, made_at, most_of_option, most_steps}
use Rattle.line_engine.specs.Nodes.{position_of}
use Rattle.line_engine.proofs.CycleLemmas.{all_known, filled_is_some, kept_loses, kept_nothing, kept_wins, lose_answers, lose_unchecked, lose_unjoined, lose_unlost, lost_answers, lost_first, lost_nowhere, lost_unkept, lost_unreached, none_is_empty, won_answers, won_none, won_nowhere, won_unkept, won_unmade, won_unreached}
use Rattle.line_engine.proofs.PathLemmas.{option_listed, option_numbers, option_there, options_few, options_whole, path_more}
use Rattle.line_engine.proofs.RoomLemmas.{all_few, one_more, room_more}
use Rattle.line_engine.proofs.engine.+kept.Goals as goal

pub kept-returns-then-left-eq0-clause-answers : goal.kept-returns-then-left-eq0-clause-answers
kept-returns-then-left-eq0-clause-answers t c =
    kept_nothing (position_of c.args.node.now.crowd) c.args.node.now.crowd.winner c.args.left c.args.node.now.path.now (Table c.args.reached) c.args.work.now.at c.args.work.now.memo.budget c.if-left-eq0.true

pub kept-returns-in_err-sets-clause-answers : goal.kept-returns-in_err-sets-clause-answers
kept-returns-in_err-sets-clause-answers t c =
    let p = err_from_is_err_and c.from_residual.result c.from_residual.ensures.1 in rw (p.1, p.2) tt

pub kept-win-requires : goal.kept-win-requires
kept-win-requires t c =
    let same : suc (c.args.left - 1) ≡ c.args.left = omega arith in
    let few = c.requires.few in
    let set : IsOneSet (length c.args.node.now.path.now) c.in_ok-sets.sets = record { set = c.args.reached; is = c.in_ok-sets.ensures; filled = c.requires.set } in
    (omega arith, (c.requires.sound, (omega (arith, few, same), (set, subst (λ n. c.args.work.now.at + most_steps n ≤ 2 ^ 127) (sym same) c.requires.room))))

pub kept-lose-requires : goal.kept-lose-requires
kept-lose-requires t c =
    let same : suc (c.args.left - 1) ≡ c.args.left = omega arith in
    let few = c.requires.few in
    let set : IsOneSet (length c.args.node.now.path.now) c.in_ok-sets.sets = record { set = c.args.reached; is = c.in_ok-sets.ensures; filled = c.requires.set } in
    (omega arith, (c.requires.sound, (omega (arith, few, same), (set, subst (λ n. c.args.work.now.at + most_steps n ≤ 2 ^ 127) (sym same) c.requires.room))))

pub kept-returns-then-is_winners-clause-answers : goal.kept-returns-then-is_winners-clause-answers
kept-returns-then-is_winners-clause-answers t c =
    kept_wins (position_of c.args.node.now.crowd) c.args.node.now.crowd.winner c.args.left (c.args.left - 1) c.args.node.now.path.now (Table c.args.reached) c.args.work.now.at
    c.args.work.now.memo.budget (found_at c.win.new.work.at) c.win.result (omega arith) (ap (λ s. is_side s c.args.node.now.crowd.winner) (sym c.args.node.now.is.side) ∙ sym c.is_winners.ensures ∙ c.if-is_winners.true) (c.win.ensures.answers c.args.reached c.in_ok-sets.ensures)

pub kept-returns-then-is_winners-clause-room : goal.kept-returns-then-is_winners-clause-room
kept-returns-then-is_winners-clause-room t c =
    let same : suc (c.args.left - 1) ≡ c.args.left = omega arith in rw same at c.win.ensures.room

pub kept-returns-clause-answers : goal.kept-returns-clause-answers
kept-returns-clause-answers t c =
    kept_loses (position_of c.args.node.now.crowd) c.args.node.now.crowd.winner c.args.left (c.args.left - 1) c.args.node.now.path.now (Table c.args.reached) c.args.work.now.at
    c.args.work.now.memo.budget (found_at c.lose.new.work.at) c.lose.result (omega arith) (ap (λ s. is_side s c.args.node.now.crowd.winner) (sym c.args.node.now.is.side) ∙ sym c.is_winners.ensures ∙ c.if-is_winners.false) (c.lose.ensures.answers c.args.reached c.in_ok-sets.ensures)

pub kept-returns-clause-room : goal.kept-returns-clause-room
kept-returns-clause-room t c =
    let same : suc (c.args.left - 1) ≡ c.args.left = omega arith in rw same at c.lose.ensures.room

pub win-options-requires : goal.win-options-requires
win-options-requires t c = c.args.ply.node.crowd.is.most

pub win-returns-in_err-choices-clause-answers : goal.win-returns-in_err-choices-clause-answers
win-returns-in_err-choices-clause-answers t c a is =
    let p = err_from_is_err_and c.from_residual.result c.from_residual.ensures.1 in rw (p.1, p.2) tt

pub lose-options-requires : goal.lose-options-requires
lose-options-requires t c = c.args.ply.node.crowd.is.most

pub lose-returns-in_err-choices-clause-answers : goal.lose-returns-in_err-choices-clause-answers
lose-returns-in_err-choices-clause-answers t c a is =
    let p = err_from_is_err_and c.from_residual.result c.from_residual.ensures.1 in rw (p.1, p.2) tt

pub with_won-leg-leg-requires-clause-low : goal.with_won-leg-leg-requires-clause-low
with_won-leg-leg-requires-clause-low t c =
    let node = c.args.ply.node in
    let at = option_numbers node.crowd.men.now (mask_at (position_of node.crowd) node.path.now) (turn_at (position_of node.crowd) node.path.now) c.args.option c.requires.listed in at.man.low

pub with_won-leg-leg-requires-clause-high : goal.with_won-leg-leg-requires-clause-high
with_won-leg-leg-requires-clause-high t c =
    let node = c.args.ply.node in
    let at = option_numbers node.crowd.men.now (mask_at (position_of node.crowd) node.path.now) (turn_at (position_of node.crowd) node.path.now) c.args.option c.requires.listed in at.man.high

pub with_won-force_after-requires-clause-high : goal.with_won-force_after-requires-clause-high
with_won-force_after-requires-clause-high t c =
    let node = c.args.ply.node in
    let at = option_numbers node.crowd.men.now (mask_at (position_of node.crowd) node.path.now) (turn_at (position_of node.crowd) node.path.now) c.args.option c.requires.listed in
    let taken = at.taken in
    let most = node.crowd.is.most in
    omega (arith, taken, most)

pub with_won-force_after-requires-clause-live : goal.with_won-force_after-requires-clause-live
with_won-force_after-requires-clause-live t c =
    let node = c.args.ply.node in
    let at = option_numbers node.crowd.men.now (mask_at (position_of node.crowd) node.path.now) (turn_at (position_of node.crowd) node.path.now) c.args.option c.requires.listed in
    (λ some. ap (λ m. is_live m c.args.option.taken) node.is.mask ∙ at.live some)

pub with_won-returns-in_err-path-clause-answers : goal.with_won-returns-in_err-path-clause-answers
with_won-returns-in_err-path-clause-answers t c a is =
    let p = err_from_is_err_and c.from_residual.result c.from_residual.ensures.1 in rw (p.1, p.2) tt

pub with_won-returns-in_err-legs-clause-answers : goal.with_won-returns-in_err-legs-clause-answers
with_won-returns-in_err-legs-clause-answers t c a is =
    let p = err_from_is_err_and c.from_residual-in_err-legs.result c.from_residual-in_err-legs.ensures.1 in rw (p.1, p.2) tt

pub with_lost-leg-leg-requires-clause-low : goal.with_lost-leg-leg-requires-clause-low
with_lost-leg-leg-requires-clause-low t c =
    let node = c.args.ply.node in
    let at = option_numbers node.crowd.men.now (mask_at (position_of node.crowd) node.path.now) (turn_at (position_of node.crowd) node.path.now) c.args.option c.requires.listed in at.man.low

pub with_lost-leg-leg-requires-clause-high : goal.with_lost-leg-leg-requires-clause-high
with_lost-leg-leg-requires-clause-high t c =
    let node = c.args.ply.node in
    let at = option_numbers node.crowd.men.now (mask_at (position_of node.crowd) node.path.now) (turn_at (position_of node.crowd) node.path.now) c.args.option c.requires.listed in at.man.high

pub with_lost-force_after-requires-clause-high : goal.with_lost-force_after-requires-clause-high
with_lost-force_after-requires-clause-high t c =
    let node = c.args.ply.node in
    let at = option_numbers node.crowd.men.now (mask_at (position_of node.crowd) node.path.now) (turn_at (position_of node.crowd) node.path.now) c.args.option c.requires.listed in
    let taken = at.taken in
    let most = node.crowd.is.most in
    omega (arith, taken, most)

pub with_lost-force_after-requires-clause-live : goal.with_lost-force_after-requires-clause-live
with_lost-force_after-requires-clause-live t c =
    let node = c.args.ply.node in
    let at = option_numbers node.crowd.men.now (mask_at (position_of node.crowd) node.path.now) (turn_at (position_of node.crowd) node.path.now) c.args.option c.requires.listed in
    (λ some. ap (λ m. is_live m c.args.option.taken) node.is.mask ∙ at.live some)

pub with_lost-returns-in_err-path-clause-answers : goal.with_lost-returns-in_err-path-clause-answers
with_lost-returns-in_err-path-clause-answers t c a is =
    let p = err_from_is_err_and c.from_residual.result c.from_residual.ensures.1 in rw (p.1, p.2) tt

pub with_lost-returns-in_err-legs-clause-answers : goal.with_lost-returns-in_err-legs-clause-answers
with_lost-returns-in_err-legs-clause-answers t c a is =
    let p = err_from_is_err_and c.from_residual-in_err-legs.result c.from_residual-in_err-legs.ensures.1 in rw (p.1, p.2) tt

pub with_lost-returns-in_err-copy-clause-answers : goal.with_lost-returns-in_err-copy-clause-answers
with_lost-returns-in_err-copy-clause-answers t c a is =
    let p = err_from_is_err_and c.from_residual-in_err-copy.result c.from_residual-in_err-copy.ensures.1 in rw (p.1, p.2) tt

pub win-loop-option-init : goal.win-loop-option-init
win-loop-option-init t c = record {
  room = omega arith;
  set = tt;
  budget = refl;
  left = λ a is. LeadsTo-self (each c.as_slice-option-items.result.now (win_option (position_of c.args.ply.node.crowd) c.args.ply.node.crowd.winner (kept (position_of c.args.ply.node.crowd) c.args.ply.node.crowd.winner c.args.ply.left) c.args.ply.node.path.now (Table a)) (found_at c.args.work.now.at None)) c.args.work.now.memo.budget;
}

pub win-with_won-requires : goal.win-with_won-requires
win-with_won-requires t c =
    let node = c.args.ply.node in
    let items = c.as_slice-option-items.ensures.value ∙ c.in_ok-choices.ensures.list in
    let whole = options_whole (position_of node.crowd) node.path.now node.force.mask node.force.side c.as_slice-option-items.result.now items node.is.mask node.is.side in
    let listed = option_listed (position_of node.crowd) node.path.now c.as_slice-option-items.result.now c.loop-option.option-index (record { man = 0; ray = 0; taken = 0 }) whole c.loop-option-test.true in
    let count = options_few node.crowd.men.now node.force.mask node.force.side node.crowd.is.most in
    let same = ap (λ (l : List Opt). length l) items in
    let many : c.loop-option.option-index + 1 ≤ 2 ^ 15 = omega (arith, count, same) in
    let all = all_few c.args.ply.left (c.loop-option.option-index + 1) many in
    let next = one_more c.loop-option.option-index (most_of_option c.args.ply.left) in
    (omega arith, (c.requires.sound, (c.requires.few, (c.requires.set, (listed, (c.loop-option.invariant.set, omega (arith, all, next)))))))

pub win-returns-in_err-so_far-clause-answers : goal.win-returns-in_err-so_far-clause-answers
win-returns-in_err-so_far-clause-answers t c a is =
    let node = c.args.ply.node in
    let p = err_from_is_err_and c.from_residual-in_err-so_far.result c.from_residual-in_err-so_far.ensures.1 in
    let items = c.as_slice-option-items.ensures.value ∙ c.in_ok-choices.ensures.list in
    let option : Opt = get_or c.as_slice-option-items.result.now c.loop-option.option-index (record { man = 0; ray = 0; taken = 0 }) in
    let error = rw c.loop-option.invariant.budget at (c.in_err-so_far.ensures.answers a is) in
    let whole =
    each_error c.as_slice-option-items.result.now (win_option (position_of c.args.ply.node.crowd) c.args.ply.node.crowd.winner (kept (position_of c.args.ply.node.crowd) c.args.ply.node.crowd.winner c.args.ply.left) c.args.ply.node.path.now (Table a)) (found_at c.args.work.now.at None) c.args.work.now.memo.budget c.loop-option.option-index option (found_at c.loop-option.work.at c.loop-option.so_far)
    (c.loop-option.invariant.left a is) c.loop-option-test.true (option_there c.as_slice-option-items.result.now c.loop-option.option-index (record { man = 0; ray = 0; taken = 0 }) c.loop-option-test.true) (as_plan_error c.in_err-so_far.field-0.0) error
    in
    rw (p.1, p.2) (subst (λ (l : List Opt). IsPlanError (each l (win_option (position_of c.args.ply.node.crowd) c.args.ply.node.crowd.winner (kept (position_of c.args.ply.node.crowd) c.args.ply.node.crowd.winner c.args.ply.left) c.args.ply.node.path.now (Table a)) (found_at c.args.work.now.at None)) c.args.work.now.memo.budget (as_plan_error c.in_err-so_far.field-0.0))
    (options_whole (position_of node.crowd) node.path.now node.force.mask node.force.side c.as_slice-option-items.result.now items node.is.mask node.is.side) whole)

pub win-loop-option-preserved : goal.win-loop-option-preserved
win-loop-option-preserved t c =
    let next = one_more c.loop-option.option-index (most_of_option c.args.ply.left) in
    let room = c.in_ok-so_far.ensures.room in
    let before = c.loop-option.invariant.room in
    record {
      room = omega (arith, next, room, before);
      set = c.in_ok-so_far.ensures.set;
      budget = c.in_ok-so_far.ensures.budget ∙ c.loop-option.invariant.budget;
      left = λ a is.
          let option : Opt = get_or c.as_slice-option-items.result.now c.loop-option.option-index (record { man = 0; ray = 0; taken = 0 }) in
          each_more c.as_slice-option-items.result.now (win_option (position_of c.args.ply.node.crowd) c.args.ply.node.crowd.winner (kept (position_of c.args.ply.node.crowd) c.args.ply.node.crowd.winner c.args.ply.left) c.args.ply.node.path.now (Table a)) (found_at c.args.work.now.at None) c.args.work.now.memo.budget c.loop-option.option-index option (found_at c.loop-option.work.at c.loop-option.so_far)
          (c.loop-option.invariant.left a is) c.loop-option-test.true (option_there c.as_slice-option-items.result.now c.loop-option.option-index (record { man = 0; ray = 0; taken = 0 }) c.loop-option-test.true) (found_at c.with_won.new.work.at c.in_ok-so_far.so_far)
          (rw c.loop-option.invariant.budget at (c.in_ok-so_far.ensures.answers a is));
    }

pub lose-loop-option-init : goal.lose-loop-option-init
lose-loop-option-init t c = record {
  room = omega arith;
  sets = record { escape = tt; moves = tt };
  budget = refl;
  left = λ a is. LeadsTo-self (each c.as_slice-option-items.result.now (lose_option (position_of c.args.ply.node.crowd) c.args.ply.node.crowd.winner (kept (position_of c.args.ply.node.crowd) c.args.ply.node.crowd.winner c.args.ply.left) c.args.ply.node.path.now (Table a)) (lost_first (position_of c.args.ply.node.crowd) c.args.ply.node.crowd.winner (kept (position_of c.args.ply.node.crowd) c.args.ply.node.crowd.winner c.args.ply.left) c.args.ply.node.path.now (Table a) c.args.work.now.at c.args.work.now.memo.budget)) c.args.work.now.memo.budget;
}

pub lose-with_lost-requires : goal.lose-with_lost-requires
lose-with_lost-requires t c =
    let node = c.args.ply.node in
    let items = c.as_slice-option-items.ensures.value ∙ c.in_ok-choices.ensures.list in
    let whole = options_whole (position_of node.crowd) node.path.now node.force.mask node.force.side c.as_slice-option-items.result.now items node.is.mask node.is.side in
    let listed = option_listed (position_of node.crowd) node.path.now c.as_slice-option-items.result.now c.loop-option.option-index (record { man = 0; ray = 0; taken = 0 }) whole c.loop-option-test.true in
    let count = options_few node.crowd.men.now node.force.mask node.force.side node.crowd.is.most in
    let same = ap (λ (l : List Opt). length l) items in
    let many : c.loop-option.option-index + 1 ≤ 2 ^ 15 = omega (arith, count, same) in
    let all = all_few c.args.ply.left (c.loop-option.option-index + 1) many in
    let next = one_more c.loop-option.option-index (most_of_option c.args.ply.left) in
    (omega arith, (c.requires.sound, (c.requires.few, (c.requires.set, (listed, (c.loop-option.invariant.sets, omega (arith, all, next)))))))

pub lose-returns-in_err-lost-clause-answers : goal.lose-returns-in_err-lost-clause-answers
lose-returns-in_err-lost-clause-answers t c a is =
    let node = c.args.ply.node in
    let p = err_from_is_err_and c.from_residual-in_err-lost.result c.from_residual-in_err-lost.ensures.1 in
    let items = c.as_slice-option-items.ensures.value ∙ c.in_ok-choices.ensures.list in
    let option : Opt = get_or c.as_slice-option-items.result.now c.loop-option.option-index (record { man = 0; ray = 0; taken = 0 }) in
    let error = rw c.loop-option.invariant.budget at (c.in_err-lost.ensures.answers a is) in
    let whole =
    each_error c.as_slice-option-items.result.now (lose_option (position_of c.args.ply.node.crowd) c.args.ply.node.crowd.winner (kept (position_of c.args.ply.node.crowd) c.args.ply.node.crowd.winner c.args.ply.left) c.args.ply.node.path.now (Table a)) (lost_first (position_of c.args.ply.node.crowd) c.args.ply.node.crowd.winner (kept (position_of c.args.ply.node.crowd) c.args.ply.node.crowd.winner c.args.ply.left) c.args.ply.node.path.now (Table a) c.args.work.now.at c.args.work.now.memo.budget) c.args.work.now.memo.budget c.loop-option.option-index option (losing_at c.loop-option.work.at c.loop-option.lost)
    (c.loop-option.invariant.left a is) c.loop-option-test.true (option_there c.as_slice-option-items.result.now c.loop-option.option-index (record { man = 0; ray = 0; taken = 0 }) c.loop-option-test.true) (as_plan_error c.in_err-lost.field-0.0) error
    in
    rw (p.1, p.2) (lose_unlost (position_of c.args.ply.node.crowd) c.args.ply.node.crowd.winner (kept (position_of c.args.ply.node.crowd) c.args.ply.node.crowd.winner c.args.ply.left) c.args.ply.node.path.now (Table a) c.args.work.now.at c.args.work.now.memo.budget c.in_err-lost.field-0.0 (subst (λ (l : List Opt). IsPlanError (each l (lose_option (position_of c.args.ply.node.crowd) c.args.ply.node.crowd.winner (kept (position_of c.args.ply.node.crowd) c.args.ply.node.crowd.winner c.args.ply.left) c.args.ply.node.path.now (Table a)) (lost_first (position_of c.args.ply.node.crowd) c.args.ply.node.crowd.winner (kept (position_of c.args.ply.node.crowd) c.args.ply.node.crowd.winner c.args.ply.left) c.args.ply.node.path.now (Table a) c.args.work.now.at c.args.work.now.memo.budget)) c.args.work.now.memo.budget (as_plan_error c.in_err-lost.field-0.0))
    (options_whole (position_of node.crowd) node.path.now node.force.mask node.force.side c.as_slice-option-items.result.now items node.is.mask node.is.side) whole))

pub lose-loop-option-preserved : goal.lose-loop-option-preserved
lose-loop-option-preserved t c =
    let next = one_more c.loop-option.option-index (most_of_option c.args.ply.left) in
    let room = c.in_ok-lost.ensures.room in
    let before = c.loop-option.invariant.room in
    record {
      room = omega (arith, next, room, before);
      sets = c.in_ok-lost.ensures.sets;
      budget = c.in_ok-lost.ensures.budget ∙ c.loop-option.invariant.budget;
      left = λ a is.
          let option : Opt = get_or c.as_slice-option-items.result.now c.loop-option.option-index (record { man = 0; ray = 0; taken = 0 }) in
          each_more c.as_slice-option-items.result.now (lose_option (position_of c.args.ply.node.crowd) c.args.ply.node.crowd.winner (kept (position_of c.args.ply.node.crowd) c.args.ply.node.crowd.winner c.args.ply.left) c.args.ply.node.path.now (Table a)) (lost_first (position_of c.args.ply.node.crowd) c.args.ply.node.crowd.winner (kept (position_of c.args.ply.node.crowd) c.args.ply.node.crowd.winner c.args.ply.left) c.args.ply.node.path.now (Table a) c.args.work.now.at c.args.work.now.memo.budget) c.args.work.now.memo.budget c.loop-option.option-index option (losing_at c.loop-option.work.at c.loop-option.lost)
          (c.loop-option.invariant.left a is) c.loop-option-test.true (option_there c.as_slice-option-items.result.now c.loop-option.option-index (record { man = 0; ray = 0; taken = 0 }) c.loop-option-test.true) (losing_at c.with_lost.new.work.at c.in_ok-lost.lost)
          (rw c.loop-option.invariant.budget at (c.in_ok-lost.ensures.answers a is));
    }

pub win-returns-clause-answers : goal.win-returns-clause-answers
win-returns-clause-answers t c a is =
    subst (λ (l : List Opt). Ends (each l (win_option (position_of c.args.ply.node.crowd) c.args.ply.node.crowd.winner (kept (position_of c.args.ply.node.crowd) c.args.ply.node.crowd.winner c.args.ply.left) c.args.ply.node.path.now (Table a)) (found_at c.args.work.now.at None)) c.args.work.now.memo.budget (found_at c.loop-option.work.at c.loop-option.so_far)) (options_whole (position_of c.args.ply.node.crowd) c.args.ply.node.path.now c.args.ply.node.force.mask c.args.ply.node.force.side c.as_slice-option-items.result.now (c.as_slice-option-items.ensures.value ∙ c.in_ok-choices.ensures.list) c.args.ply.node.is.mask c.args.ply.node.is.side)
    (each_ends c.as_slice-option-items.result.now (win_option (position_of c.args.ply.node.crowd) c.args.ply.node.crowd.winner (kept (position_of c.args.ply.node.crowd) c.args.ply.node.crowd.winner c.args.ply.left) c.args.ply.node.path.now (Table a)) (found_at c.args.work.now.at None) c.args.work.now.memo.budget c.loop-option.option-index (found_at c.loop-option.work.at c.loop-option.so_far) (c.loop-option.invariant.left a is) c.loop-option-test.false)

pub win-returns-clause-room : goal.win-returns-clause-room
win-returns-clause-room t c =
    let node = c.args.ply.node in
    let items = c.as_slice-option-items.ensures.value ∙ c.in_ok-choices.ensures.list in
    let count = options_few node.crowd.men.now node.force.mask node.force.side node.crowd.is.most in
    let same = ap (λ (l : List Opt). length l) items in
    let many : c.loop-option.option-index ≤ 2 ^ 15 = omega (arith, count, same) in
    let all = all_few c.args.ply.left c.loop-option.option-index many in
    let room = c.loop-option.invariant.room in
    omega (arith, all, room)

pub lose-checked-requires-clause-room : goal.lose-checked-requires-clause-room
lose-checked-requires-clause-room t c =
    let node = c.args.ply.node in
    let items = c.as_slice-option-items.ensures.value ∙ c.in_ok-choices.ensures.list in
    let count = options_few node.crowd.men.now node.force.mask node.force.side node.crowd.is.most in
    let same = ap (λ (l : List Opt). length l) items in
    let many : c.loop-option.option-index ≤ 2 ^ 15 = omega (arith, count, same) in
    let all = all_few c.args.ply.left c.loop-option.option-index many in
    let before = c.loop-option.invariant.room in
    omega (arith, all, before)

pub lose-returns-in_err-check-clause-answers : goal.lose-returns-in_err-check-clause-answers
lose-returns-in_err-check-clause-answers t c a is =
    let p = err_from_is_err_and c.from_residual-in_err-check.result c.from_residual-in_err-check.ensures.1 in
    let ended =
    subst (λ (l : List Opt). Ends (each l (lose_option (position_of c.args.ply.node.crowd) c.args.ply.node.crowd.winner (kept (position_of c.args.ply.node.crowd) c.args.ply.node.crowd.winner c.args.ply.left) c.args.ply.node.path.now (Table a)) (lost_first (position_of c.args.ply.node.crowd) c.args.ply.node.crowd.winner (kept (position_of c.args.ply.node.crowd) c.args.ply.node.crowd.winner c.args.ply.left) c.args.ply.node.path.now (Table a) c.args.work.now.at c.args.work.now.memo.budget)) c.args.work.now.memo.budget (losing_at c.loop-option.work.at c.loop-option.lost)) (options_whole (position_of c.args.ply.node.crowd) c.args.ply.node.path.now c.args.ply.node.force.mask c.args.ply.node.force.side c.as_slice-option-items.result.now (c.as_slice-option-items.ensures.value ∙ c.in_ok-choices.ensures.list) c.args.ply.node.is.mask c.args.ply.node.is.side)
    (each_ends c.as_slice-option-items.result.now (lose_option (position_of c.args.ply.node.crowd) c.args.ply.node.crowd.winner (kept (position_of c.args.ply.node.crowd) c.args.ply.node.crowd.winner c.args.ply.left) c.args.ply.node.path.now (Table a)) (lost_first (position_of c.args.ply.node.crowd) c.args.ply.node.crowd.winner (kept (position_of c.args.ply.node.crowd) c.args.ply.node.crowd.winner c.args.ply.left) c.args.ply.node.path.now (Table a) c.args.work.now.at c.args.work.now.memo.budget) c.args.work.now.memo.budget c.loop-option.option-index (losing_at c.loop-option.work.at c.loop-option.lost) (c.loop-option.invariant.left a is) c.loop-option-test.false) in
    let error = rw c.loop-option.invariant.budget at (c.in_err-check.ensures.answers a is) in
    rw (p.1, p.2) (lose_unchecked (position_of c.args.ply.node.crowd) c.args.ply.node.crowd.winner (kept (position_of c.args.ply.node.crowd) c.args.ply.node.crowd.winner c.args.ply.left) c.args.ply.node.path.now (Table a) c.args.work.now.at c.args.work.now.memo.budget (losing_at c.loop-option.work.at c.loop-option.lost) ended c.in_err-check.field-0.0 error)

pub lose-join-requires-clause-few : goal.lose-join-requires-clause-few
lose-join-requires-clause-few t c =
    let few = c.args.ply.node.is.few in
    let same = c.count-count.ensures in
    omega (arith, few, same)

pub lose-join-requires-clause-so_far : goal.lose-join-requires-clause-so_far
lose-join-requires-clause-so_far t c = rw c.count-count.ensures c.in_ok-check.ensures.set

pub lose-join-requires-clause-next : goal.lose-join-requires-clause-next
lose-join-requires-clause-next t c = rw c.count-count.ensures c.loop-option.invariant.sets.moves

pub lose-join-requires-clause-room : goal.lose-join-requires-clause-room
lose-join-requires-clause-room t c =
    let node = c.args.ply.node in
    let items = c.as_slice-option-items.ensures.value ∙ c.in_ok-choices.ensures.list in
    let count = options_few node.crowd.men.now node.force.mask node.force.side node.crowd.is.most in
    let same = ap (λ (l : List Opt). length l) items in
    let many : c.loop-option.option-index ≤ 2 ^ 15 = omega (arith, count, same) in
    let all = all_few c.args.ply.left c.loop-option.option-index many in
    let before = c.loop-option.invariant.room in
    let checks = c.in_ok-check.ensures.room in
    omega (arith, all, before, checks)

pub lose-returns-in_err-all-clause-answers : goal.lose-returns-in_err-all-clause-answers
lose-returns-in_err-all-clause-answers t c a is =
    let p = err_from_is_err_and c.from_residual-in_err-all.result c.from_residual-in_err-all.ensures.1 in
    let ended =
    subst (λ (l : List Opt). Ends (each l (lose_option (position_of c.args.ply.node.crowd) c.args.ply.node.crowd.winner (kept (position_of c.args.ply.node.crowd) c.args.ply.node.crowd.winner c.args.ply.left) c.args.ply.node.path.now (Table a)) (lost_first (position_of c.args.ply.node.crowd) c.args.ply.node.crowd.winner (kept (position_of c.args.ply.node.crowd) c.args.ply.node.crowd.winner c.args.ply.left) c.args.ply.node.path.now (Table a) c.args.work.now.at c.args.work.now.memo.budget)) c.args.work.now.memo.budget (losing_at c.loop-option.work.at c.loop-option.lost)) (options_whole (position_of c.args.ply.node.crowd) c.args.ply.node.path.now c.args.ply.node.force.mask c.args.ply.node.force.side c.as_slice-option-items.result.now (c.as_slice-option-items.ensures.value ∙ c.in_ok-choices.ensures.list) c.args.ply.node.is.mask c.args.ply.node.is.side)
    (each_ends c.as_slice-option-items.result.now (lose_option (position_of c.args.ply.node.crowd) c.args.ply.node.crowd.winner (kept (position_of c.args.ply.node.crowd) c.args.ply.node.crowd.winner c.args.ply.left) c.args.ply.node.path.now (Table a)) (lost_first (position_of c.args.ply.node.crowd) c.args.ply.node.crowd.winner (kept (position_of c.args.ply.node.crowd) c.args.ply.node.crowd.winner c.args.ply.left) c.args.ply.node.path.now (Table a) c.args.work.now.at c.args.work.now.memo.budget) c.args.work.now.memo.budget c.loop-option.option-index (losing_at c.loop-option.work.at c.loop-option.lost) (c.loop-option.invariant.left a is) c.loop-option-test.false) in
    let check = rw c.loop-option.invariant.budget at (c.in_ok-check.ensures.answers a is) in
    let error = rw (c.count-count.ensures, c.in_ok-check.ensures.budget, c.loop-option.invariant.budget) at c.in_err-all.ensures.answers in
    rw (p.1, p.2) (lose_unjoined (position_of c.args.ply.node.crowd) c.args.ply.node.crowd.winner (kept (position_of c.args.ply.node.crowd) c.args.ply.node.crowd.winner c.args.ply.left) c.args.ply.node.path.now (Table a) c.args.work.now.at c.args.work.now.memo.budget (losing_at c.loop-option.work.at c.loop-option.lost) ended (made_at c.checked.new.work.at c.in_ok-check.check) check c.in_err-all.field-0.0 error)

pub lose-difference-requires-clause-few : goal.lose-difference-requires-clause-few
lose-difference-requires-clause-few t c =
    let few = c.args.ply.node.is.few in
    let same = c.count-count.ensures in
    omega (arith, few, same)

pub lose-difference-requires-clause-other : goal.lose-difference-requires-clause-other
lose-difference-requires-clause-other t c = rw c.count-count.ensures c.loop-option.invariant.sets.escape

pub lose-difference-requires-clause-room : goal.lose-difference-requires-clause-room
lose-difference-requires-clause-room t c =
    let node = c.args.ply.node in
    let items = c.as_slice-option-items.ensures.value ∙ c.in_ok-choices.ensures.list in
    let count = options_few node.crowd.men.now node.force.mask node.force.side node.crowd.is.most in
    let same = ap (λ (l : List Opt). length l) items in
    let many : c.loop-option.option-index ≤ 2 ^ 15 = omega (arith, count, same) in
    let all = all_few c.args.ply.left c.loop-option.option-index many in
    let before = c.loop-option.invariant.room in
    let checks = c.in_ok-check.ensures.room in
    let joins = c.in_ok-all.ensures.room in
    omega (arith, all, before, checks, joins)

pub lose-returns-clause-answers : goal.lose-returns-clause-answers
lose-returns-clause-answers t c a is =
    let ended =
    subst (λ (l : List Opt). Ends (each l (lose_option (position_of c.args.ply.node.crowd) c.args.ply.node.crowd.winner (kept (position_of c.args.ply.node.crowd) c.args.ply.node.crowd.winner c.args.ply.left) c.args.ply.node.path.now (Table a)) (lost_first (position_of c.args.ply.node.crowd) c.args.ply.node.crowd.winner (kept (position_of c.args.ply.node.crowd) c.args.ply.node.crowd.winner c.args.ply.left) c.args.ply.node.path.now (Table a) c.args.work.now.at c.args.work.now.memo.budget)) c.args.work.now.memo.budget (losing_at c.loop-option.work.at c.loop-option.lost)) (options_whole (position_of c.args.ply.node.crowd) c.args.ply.node.path.now c.args.ply.node.force.mask c.args.ply.node.force.side c.as_slice-option-items.result.now (c.as_slice-option-items.ensures.value ∙ c.in_ok-choices.ensures.list) c.args.ply.node.is.mask c.args.ply.node.is.side)
    (each_ends c.as_slice-option-items.result.now (lose_option (position_of c.args.ply.node.crowd) c.args.ply.node.crowd.winner (kept (position_of c.args.ply.node.crowd) c.args.ply.node.crowd.winner c.args.ply.left) c.args.ply.node.path.now (Table a)) (lost_first (position_of c.args.ply.node.crowd) c.args.ply.node.crowd.winner (kept (position_of c.args.ply.node.crowd) c.args.ply.node.crowd.winner c.args.ply.left) c.args.ply.node.path.now (Table a) c.args.work.now.at c.args.work.now.memo.budget) c.args.work.now.memo.budget c.loop-option.option-index (losing_at c.loop-option.work.at c.loop-option.lost) (c.loop-option.invariant.left a is) c.loop-option-test.false) in
    let check = rw c.loop-option.invariant.budget at (c.in_ok-check.ensures.answers a is) in
    let all = rw (c.count-count.ensures, c.in_ok-check.ensures.budget, c.loop-option.invariant.budget) at c.in_ok-all.ensures.answers in
    let rest = rw (c.count-count.ensures, c.in_ok-all.ensures.budget, c.in_ok-check.ensures.budget, c.loop-option.invariant.budget) at c.difference.ensures.answers in
    lose_answers (position_of c.args.ply.node.crowd) c.args.ply.node.crowd.winner (kept (position_of c.args.ply.node.crowd) c.args.ply.node.crowd.winner c.args.ply.left) c.args.ply.node.path.now (Table a) c.args.work.now.at c.args.work.now.memo.budget (losing_at c.loop-option.work.at c.loop-option.lost) ended (made_at c.checked.new.work.at c.in_ok-check.check) check (made_at c.join.new.work.at c.in_ok-all.all) all c.difference.new.work.at c.difference.result rest

pub lose-returns-clause-set : goal.lose-returns-clause-set
lose-returns-clause-set t c = rw c.count-count.ensures at c.difference.ensures.set

pub lose-returns-clause-room : goal.lose-returns-clause-room
lose-returns-clause-room t c =
    let node = c.args.ply.node in
    let items = c.as_slice-option-items.ensures.value ∙ c.in_ok-choices.ensures.list in
    let count = options_few node.crowd.men.now node.force.mask node.force.side node.crowd.is.most in
    let same = ap (λ (l : List Opt). length l) items in
    let many : c.loop-option.option-index ≤ 2 ^ 15 = omega (arith, count, same) in
    let all = all_few c.args.ply.left c.loop-option.option-index many in
    let before = c.loop-option.invariant.room in
    let checks = c.in_ok-check.ensures.room in
    let joins = c.in_ok-all.ensures.room in
    room_more c.difference.result c.difference.new.work.at (c.join.new.work.at + 1000) (c.args.work.now.at + most_steps (suc c.args.ply.left)) c.difference.ensures.room (omega (arith, all, before, checks, joins))

pub with_won-invariant_of-after : goal.with_won-invariant_of-after
with_won-invariant_of-after t c =
    let node = c.args.ply.node in
    let few = c.requires.few in
    record {
      is =
          path_more (position_of node.crowd) node.path.now c.as_slice.result.now node.legs.now c.as_slice-2.result.now node.force c.force_after.result c.args.option c.leg-leg.result node.is (omega (arith, few))
          (c.as_slice.ensures.value ∙ c.in_ok-path.ensures) (c.as_slice-2.ensures.value ∙ c.in_ok-legs.ensures) c.leg-leg.ensures c.force_after.ensures.mask c.force_after.ensures.side;
    }

pub with_won-invariant_of-after-2 : goal.with_won-invariant_of-after-2
with_won-invariant_of-after-2 t c =
    let node = c.args.ply.node in
    let few = c.requires.few in
    record {
      is =
          path_more (position_of node.crowd) node.path.now c.as_slice.result.now node.legs.now c.as_slice-2.result.now node.force c.force_after.result c.args.option c.leg-leg.result node.is (omega (arith, few))
          (c.as_slice.ensures.value ∙ c.in_ok-path.ensures) (c.as_slice-2.ensures.value ∙ c.in_ok-legs.ensures) c.leg-leg.ensures c.force_after.ensures.mask c.force_after.ensures.side;
    }

pub with_won-invariant_of-step : goal.with_won-invariant_of-step
with_won-invariant_of-step t c = record { men = refl; turn = refl; path = c.as_slice.ensures.value ∙ c.in_ok-path.ensures; leg_is = c.leg-leg.ensures }

pub with_won-returns-in_err-next-clause-answers : goal.with_won-returns-in_err-next-clause-answers
with_won-returns-in_err-next-clause-answers t c a is =
    let p = err_from_is_err_and c.from_residual-in_err-next.result c.from_residual-in_err-next.ensures.1 in
    rw (p.1, p.2) (won_unreached (position_of c.args.ply.node.crowd) c.args.ply.node.crowd.winner (kept (position_of c.args.ply.node.crowd) c.args.ply.node.crowd.winner c.args.ply.left) c.args.ply.node.path.now (Table a) c.args.option (found_at c.args.work.now.at c.args.so_far) c.args.work.now.memo.budget c.in_err-next.field-0.0 (c.in_err-next.ensures.answers a is))

pub with_won-returns-in_default-clause-answers : goal.with_won-returns-in_default-clause-answers
with_won-returns-in_default-clause-answers t c a is =
    won_nowhere (position_of c.args.ply.node.crowd) c.args.ply.node.crowd.winner (kept (position_of c.args.ply.node.crowd) c.args.ply.node.crowd.winner c.args.ply.left) c.args.ply.node.path.now (Table a) c.args.option (found_at c.args.work.now.at c.args.so_far) c.args.work.now.memo.budget (made_at c.reach.new.work.at c.in_ok-next.field-0) (c.in_ok-next.ensures.answers a is) (none_is_empty c.in_ok-next.field-0 c.in_default.is)

pub with_lost-invariant_of-after : goal.with_lost-invariant_of-after
with_lost-invariant_of-after t c =
    let node = c.args.ply.node in
    let few = c.requires.few in
    record {
      is =
          path_more (position_of node.crowd) node.path.now c.as_slice.result.now node.legs.now c.as_slice-2.result.now node.force c.force_after.result c.args.option c.leg-leg.result node.is (omega (arith, few))
          (c.as_slice.ensures.value ∙ c.in_ok-path.ensures) (c.as_slice-2.ensures.value ∙ c.in_ok-legs.ensures) c.leg-leg.ensures c.force_after.ensures.mask c.force_after.ensures.side;
    }

pub with_lost-invariant_of-after-2 : goal.with_lost-invariant_of-after-2
with_lost-invariant_of-after-2 t c =
    let node = c.args.ply.node in
    let few = c.requires.few in
    record {
      is =
          path_more (position_of node.crowd) node.path.now c.as_slice.result.now node.legs.now c.as_slice-2.result.now node.force c.force_after.result c.args.option c.leg-leg.result node.is (omega (arith, few))
          (c.as_slice.ensures.value ∙ c.in_ok-path.ensures) (c.as_slice-2.ensures.value ∙ c.in_ok-legs.ensures) c.leg-leg.ensures c.force_after.ensures.mask c.force_after.ensures.side;
    }

pub with_lost-invariant_of-step : goal.with_lost-invariant_of-step
with_lost-invariant_of-step t c = record { men = refl; turn = refl; path = c.as_slice.ensures.value ∙ c.in_ok-path.ensures; leg_is = c.leg-leg.ensures }

pub with_lost-returns-in_err-next-clause-answers : goal.with_lost-returns-in_err-next-clause-answers
with_lost-returns-in_err-next-clause-answers t c a is =
    let p = err_from_is_err_and c.from_residual-in_err-next.result c.from_residual-in_err-next.ensures.1 in
    rw (p.1, p.2) (lost_unreached (position_of c.args.ply.node.crowd) c.args.ply.node.crowd.winner (kept (position_of c.args.ply.node.crowd) c.args.ply.node.crowd.winner c.args.ply.left) c.args.ply.node.path.now (Table a) c.args.option c.args.work.now.at c.args.lost c.args.work.now.memo.budget c.in_err-next.field-0.0 (c.in_err-next.ensures.answers a is))

pub with_lost-returns-in_default-clause-answers : goal.with_lost-returns-in_default-clause-answers
with_lost-returns-in_default-clause-answers t c a is =
    lost_nowhere (position_of c.args.ply.node.crowd) c.args.ply.node.crowd.winner (kept (position_of c.args.ply.node.crowd) c.args.ply.node.crowd.winner c.args.ply.left) c.args.ply.node.path.now (Table a) c.args.option c.args.work.now.at c.args.lost c.args.work.now.memo.budget (made_at c.reach.new.work.at c.in_ok-next.field-0) (c.in_ok-next.ensures.answers a is) (none_is_empty c.in_ok-next.field-0 c.in_default.is)

pub with_won-kept-requires : goal.with_won-kept-requires
with_won-kept-requires t c =
    let path : c.as_slice.result.now ≡ c.args.option ∷ c.args.ply.node.path.now = c.as_slice.ensures.value ∙ c.in_ok-path.ensures in
    let filled = filled_is_some (distances (suc (length c.args.ply.node.path.now))) c.in_ok-next.field-0 c.in-Some.next c.in-Some.is c.in_ok-next.ensures.set in
    let count = ap (λ (l : List Opt). length l) path in
    let few = c.requires.few in
    let room = c.requires.room in
    let before = c.in_ok-next.ensures.room in
    (omega arith, (c.requires.sound, (omega (arith, count, few), (subst (λ (l : List Opt). IsFilledOn (distances (length l)) c.in-Some.next) (sym path) filled, omega (arith, room, before)))))

pub with_won-returns-in_err-kept-clause-answers : goal.with_won-returns-in_err-kept-clause-answers
with_won-returns-in_err-kept-clause-answers t c a is =
    let p = err_from_is_err_and c.from_residual-in_err-kept.result c.from_residual-in_err-kept.ensures.1 in
    let path : c.as_slice.result.now ≡ c.args.option ∷ c.args.ply.node.path.now = c.as_slice.ensures.value ∙ c.in_ok-path.ensures in
    let filled = filled_is_some (distances (suc (length c.args.ply.node.path.now))) c.in_ok-next.field-0 c.in-Some.next c.in-Some.is c.in_ok-next.ensures.set in
    let next : Made = (Table c.in-Some.next, c.reach.new.work.at) in
    let reached : Ends (reach (position_of c.args.ply.node.crowd) c.args.ply.node.crowd.winner c.args.ply.node.path.now c.args.option (Table a, c.args.work.now.at)) c.args.work.now.memo.budget next = rw c.in-Some.is at (c.in_ok-next.ensures.answers a is) in
    let error = rw (path, c.in_ok-next.ensures.budget) at c.in_err-kept.ensures.answers in
    rw (p.1, p.2) (won_unkept (position_of c.args.ply.node.crowd) c.args.ply.node.crowd.winner (kept (position_of c.args.ply.node.crowd) c.args.ply.node.crowd.winner c.args.ply.left) c.args.ply.node.path.now (Table a) c.args.option (found_at c.args.work.now.at c.args.so_far) c.args.work.now.memo.budget next reached filled.some c.in_err-kept.field-0.0 error)

pub with_lost-kept-requires : goal.with_lost-kept-requires
with_lost-kept-requires t c =
    let path : c.as_slice.result.now ≡ c.args.option ∷ c.args.ply.node.path.now = c.as_slice.ensures.value ∙ c.in_ok-path.ensures in
    let filled = filled_is_some (distances (suc (length c.args.ply.node.path.now))) c.in_ok-next.field-0 c.in-Some.next c.in-Some.is c.in_ok-next.ensures.set in
    let count = ap (λ (l : List Opt). length l) path in
    let few = c.requires.few in
    let room = c.requires.room in
    let before = c.in_ok-next.ensures.room in
    (omega arith, (c.requires.sound, (omega (arith, count, few), (subst (λ (x : Automaton). IsFilledOn (distances (length c.as_slice.result.now)) x) (sym c.in_ok-copy.ensures) (subst (λ (l : List Opt). IsFilledOn (distances (length l)) c.in-Some.next) (sym path) filled), omega (arith, room, before)))))

pub with_lost-returns-in_err-kept-clause-answers : goal.with_lost-returns-in_err-kept-clause-answers
with_lost-returns-in_err-kept-clause-answers t c a is =
    let p = err_from_is_err_and c.from_residual-in_err-kept.result c.from_residual-in_err-kept.ensures.1 in
    let path : c.as_slice.result.now ≡ c.args.option ∷ c.args.ply.node.path.now = c.as_slice.ensures.value ∙ c.in_ok-path.ensures in
    let filled = filled_is_some (distances (suc (length c.args.ply.node.path.now))) c.in_ok-next.field-0 c.in-Some.next c.in-Some.is c.in_ok-next.ensures.set in
    let next : Made = (Table c.in-Some.next, c.reach.new.work.at) in
    let reached : Ends (reach (position_of c.args.ply.node.crowd) c.args.ply.node.crowd.winner c.args.ply.node.path.now c.args.option (Table a, c.args.work.now.at)) c.args.work.now.memo.budget next = rw c.in-Some.is at (c.in_ok-next.ensures.answers a is) in
    let error = rw (path, c.in_ok-copy.ensures, c.in_ok-next.ensures.budget) at c.in_err-kept.ensures.answers in
    rw (p.1, p.2) (lost_unkept (position_of c.args.ply.node.crowd) c.args.ply.node.crowd.winner (kept (position_of c.args.ply.node.crowd) c.args.ply.node.crowd.winner c.args.ply.left) c.args.ply.node.path.now (Table a) c.args.option c.args.work.now.at c.args.lost c.args.work.now.memo.budget next reached filled.some c.in_err-kept.field-0.0 error)

pub with_won-returns-in_default-2-clause-answers : goal.with_won-returns-in_default-2-clause-answers
with_won-returns-in_default-2-clause-answers t c a is =
    let path : c.as_slice.result.now ≡ c.args.option ∷ c.args.ply.node.path.now = c.as_slice.ensures.value ∙ c.in_ok-path.ensures in
    let filled = filled_is_some (distances (suc (length c.args.ply.node.path.now))) c.in_ok-next.field-0 c.in-Some.next c.in-Some.is c.in_ok-next.ensures.set in
    let next : Made = (Table c.in-Some.next, c.reach.new.work.at) in
    let reached : Ends (reach (position_of c.args.ply.node.crowd) c.args.ply.node.crowd.winner c.args.ply.node.path.now c.args.option (Table a, c.args.work.now.at)) c.args.work.now.memo.budget next = rw c.in-Some.is at (c.in_ok-next.ensures.answers a is) in
    let none = rw (c.in_default-2.is, path, c.in_ok-next.ensures.budget) at c.in_ok-kept.ensures.answers in
    won_none (position_of c.args.ply.node.crowd) c.args.ply.node.crowd.winner (kept (position_of c.args.ply.node.crowd) c.args.ply.node.crowd.winner c.args.ply.left) c.args.ply.node.path.now (Table a) c.args.option (found_at c.args.work.now.at c.args.so_far) c.args.work.now.memo.budget next reached filled.some c.kept.new.work.at none

pub with_won-returns-in_default-2-clause-room : goal.with_won-returns-in_default-2-clause-room
with_won-returns-in_default-2-clause-room t c =
    let before = c.in_ok-next.ensures.room in
    let inside = c.in_ok-kept.ensures.room in
    omega (arith, before, inside)

pub with_won-shortened-requires-clause-few : goal.with_won-shortened-requires-clause-few
with_won-shortened-requires-clause-few t c =
    let few = c.requires.few in
    let same = c.count.ensures in
    omega (arith, few, same)

pub with_won-shortened-requires-clause-set : goal.with_won-shortened-requires-clause-set
with_won-shortened-requires-clause-set t c =
    let path : c.as_slice.result.now ≡ c.args.option ∷ c.args.ply.node.path.now = c.as_slice.ensures.value ∙ c.in_ok-path.ensures in
    let filled = filled_is_some (distances (length c.as_slice.result.now)) c.in_ok-kept.field-0 c.in-Some-2.kept c.in-Some-2.is c.in_ok-kept.ensures.set in
    subst (λ n. IsFilledOn (distances n) c.in-Some-2.kept) (ap (λ (l : List Opt). length l) path ∙ ap (λ n. suc n) (sym c.count.ensures)) filled

pub with_won-shortened-requires-clause-room : goal.with_won-shortened-requires-clause-room
with_won-shortened-requires-clause-room t c =
    let room = c.requires.room in
    let before = c.in_ok-next.ensures.room in
    let inside = c.in_ok-kept.ensures.room in
    omega (arith, room, before, inside)

pub with_won-returns-in_err-item-clause-answers : goal.with_won-returns-in_err-item-clause-answers
with_won-returns-in_err-item-clause-answers t c a is =
    let p = err_from_is_err_and c.from_residual-in_err-item.result c.from_residual-in_err-item.ensures.1 in
    let path : c.as_slice.result.now ≡ c.args.option ∷ c.args.ply.node.path.now = c.as_slice.ensures.value ∙ c.in_ok-path.ensures in
    let filled = filled_is_some (distances (suc (length c.args.ply.node.path.now))) c.in_ok-next.field-0 c.in-Some.next c.in-Some.is c.in_ok-next.ensures.set in
    let next : Made = (Table c.in-Some.next, c.reach.new.work.at) in
    let reached : Ends (reach (position_of c.args.ply.node.crowd) c.args.ply.node.crowd.winner c.args.ply.node.path.now c.args.option (Table a, c.args.work.now.at)) c.args.work.now.memo.budget next = rw c.in-Some.is at (c.in_ok-next.ensures.answers a is) in
    let inner : Found = found_at c.kept.new.work.at (Some c.in-Some-2.kept) in
    let is_kept : Ends (kept (position_of c.args.ply.node.crowd) c.args.ply.node.crowd.winner c.args.ply.left (c.args.option ∷ c.args.ply.node.path.now) next) c.args.work.now.memo.budget inner = rw (c.in-Some-2.is, path, c.in_ok-next.ensures.budget) at c.in_ok-kept.ensures.answers in
    let error = rw (c.count.ensures, c.in_ok-kept.ensures.budget, c.in_ok-next.ensures.budget) at c.in_err-item.ensures.answers in
    rw (p.1, p.2) (won_unmade (position_of c.args.ply.node.crowd) c.args.ply.node.crowd.winner (kept (position_of c.args.ply.node.crowd) c.args.ply.node.crowd.winner c.args.ply.left) c.args.ply.node.path.now (Table a) c.args.option (found_at c.args.work.now.at c.args.so_far) c.args.work.now.memo.budget next reached filled.some inner is_kept c.in_err-item.field-0.0 error)

pub with_won-join-requires-clause-few : goal.with_won-join-requires-clause-few
with_won-join-requires-clause-few t c =
    let few = c.requires.few in
    let same = c.count-2.ensures in
    omega (arith, few, same)

pub with_won-join-requires-clause-so_far : goal.with_won-join-requires-clause-so_far
with_won-join-requires-clause-so_far t c = rw c.count-2.ensures c.requires.so_far

pub with_won-join-requires-clause-next : goal.with_won-join-requires-clause-next
with_won-join-requires-clause-next t c =
    let set = rw c.count.ensures at c.in_ok-item.ensures.set in rw c.count-2.ensures set

pub with_won-join-requires-clause-room : goal.with_won-join-requires-clause-room
with_won-join-requires-clause-room t c =
    let room = c.requires.room in
    let before = c.in_ok-next.ensures.room in
    let inside = c.in_ok-kept.ensures.room in
    let made = c.in_ok-item.ensures.room in
    omega (arith, room, before, inside, made)

pub with_won-returns-clause-answers : goal.with_won-returns-clause-answers
with_won-returns-clause-answers t c a is =
    let path : c.as_slice.result.now ≡ c.args.option ∷ c.args.ply.node.path.now = c.as_slice.ensures.value ∙ c.in_ok-path.ensures in
    let filled = filled_is_some (distances (suc (length c.args.ply.node.path.now))) c.in_ok-next.field-0 c.in-Some.next c.in-Some.is c.in_ok-next.ensures.set in
    let next : Made = (Table c.in-Some.next, c.reach.new.work.at) in
    let reached : Ends (reach (position_of c.args.ply.node.crowd) c.args.ply.node.crowd.winner c.args.ply.node.path.now c.args.option (Table a, c.args.work.now.at)) c.args.work.now.memo.budget next = rw c.in-Some.is at (c.in_ok-next.ensures.answers a is) in
    let inner : Found = found_at c.kept.new.work.at (Some c.in-Some-2.kept) in
    let is_kept : Ends (kept (position_of c.args.ply.node.crowd) c.args.ply.node.crowd.winner c.args.ply.left (c.args.option ∷ c.args.ply.node.path.now) next) c.args.work.now.memo.budget inner = rw (c.in-Some-2.is, path, c.in_ok-next.ensures.budget) at c.in_ok-kept.ensures.answers in
    let made = rw (c.count.ensures, c.in_ok-kept.ensures.budget, c.in_ok-next.ensures.budget) at c.in_ok-item.ensures.answers in
    let joined = rw (c.count-2.ensures, c.in_ok-item.ensures.budget, c.in_ok-kept.ensures.budget, c.in_ok-next.ensures.budget) at c.join.ensures.answers in
    won_answers (position_of c.args.ply.node.crowd) c.args.ply.node.crowd.winner (kept (position_of c.args.ply.node.crowd) c.args.ply.node.crowd.winner c.args.ply.left) c.args.ply.node.path.now (Table a) c.args.option (found_at c.args.work.now.at c.args.so_far) c.args.work.now.memo.budget next reached filled.some inner is_kept (made_at c.shortened.new.work.at c.in_ok-item.item) made c.join.new.work.at c.join.result joined

pub with_won-returns-clause-set : goal.with_won-returns-clause-set
with_won-returns-clause-set t c = rw c.count-2.ensures at c.join.ensures.set

pub with_won-returns-clause-room : goal.with_won-returns-clause-room
with_won-returns-clause-room t c =
    let before = c.in_ok-next.ensures.room in
    let inside = c.in_ok-kept.ensures.room in
    let made = c.in_ok-item.ensures.room in
    room_more c.join.result c.join.new.work.at (c.shortened.new.work.at + 1000) (c.args.work.now.at + most_of_option c.args.ply.left) c.join.ensures.room (omega (arith, before, inside, made))

pub with_lost-escaped-requires-clause-few : goal.with_lost-escaped-requires-clause-few
with_lost-escaped-requires-clause-few t c =
    let few = c.requires.few in
    let same = c.count.ensures in
    omega (arith, few, same)

pub with_lost-escaped-requires-clause-reached : goal.with_lost-escaped-requires-clause-reached
with_lost-escaped-requires-clause-reached t c =
    let filled = filled_is_some (distances (suc (length c.args.ply.node.path.now))) c.in_ok-next.field-0 c.in-Some.next c.in-Some.is c.in_ok-next.ensures.set in
    subst (λ n. IsFilledOn (distances (suc n)) c.in-Some.next) (sym c.count.ensures) filled

pub with_lost-escaped-requires-clause-kept : goal.with_lost-escaped-requires-clause-kept
with_lost-escaped-requires-clause-kept t c =
    let path : c.as_slice.result.now ≡ c.args.option ∷ c.args.ply.node.path.now = c.as_slice.ensures.value ∙ c.in_ok-path.ensures in
    subst (λ n. IsFilled n c.in_ok-kept.kept) (ap (λ (l : List Opt). length l) path ∙ ap (λ n. suc n) (sym c.count.ensures)) c.in_ok-kept.ensures.set

pub with_lost-escaped-requires-clause-lost : goal.with_lost-escaped-requires-clause-lost
with_lost-escaped-requires-clause-lost t c = subst (λ n. IsFilledLosing n c.args.lost) (sym c.count.ensures) c.requires.lost

pub with_lost-escaped-requires-clause-room : goal.with_lost-escaped-requires-clause-room
with_lost-escaped-requires-clause-room t c =
    let room = c.requires.room in
    let before = c.in_ok-next.ensures.room in
    let inside = c.in_ok-kept.ensures.room in
    omega (arith, room, before, inside)

pub with_lost-returns-clause-answers : goal.with_lost-returns-clause-answers
with_lost-returns-clause-answers t c a is =
    let path : c.as_slice.result.now ≡ c.args.option ∷ c.args.ply.node.path.now = c.as_slice.ensures.value ∙ c.in_ok-path.ensures in
    let filled = filled_is_some (distances (suc (length c.args.ply.node.path.now))) c.in_ok-next.field-0 c.in-Some.next c.in-Some.is c.in_ok-next.ensures.set in
    let next : Made = (Table c.in-Some.next, c.reach.new.work.at) in
    let reached : Ends (reach (position_of c.args.ply.node.crowd) c.args.ply.node.crowd.winner c.args.ply.node.path.now c.args.option (Table a, c.args.work.now.at)) c.args.work.now.memo.budget next = rw c.in-Some.is at (c.in_ok-next.ensures.answers a is) in
    let is_kept : Ends (kept (position_of c.args.ply.node.crowd) c.args.ply.node.crowd.winner c.args.ply.left (c.args.option ∷ c.args.ply.node.path.now) next) c.args.work.now.memo.budget (found_at c.kept.new.work.at c.in_ok-kept.kept) =
    rw (path, c.in_ok-copy.ensures, c.in_ok-next.ensures.budget) at c.in_ok-kept.ensures.answers in
    let kept_filled = subst (λ n. IsFilled n c.in_ok-kept.kept) (ap (λ (l : List Opt). length l) path) c.in_ok-kept.ensures.set in
    let known = all_known (suc (length c.args.ply.node.path.now)) c.in-Some.next c.in_ok-kept.kept filled.reached.decides kept_filled in
    let escaped = rw (c.count.ensures, c.in_ok-kept.ensures.budget, c.in_ok-next.ensures.budget) at c.escaped.ensures.answers in
    lost_answers (position_of c.args.ply.node.crowd) c.args.ply.node.crowd.winner (kept (position_of c.args.ply.node.crowd) c.args.ply.node.crowd.winner c.args.ply.left) c.args.ply.node.path.now (Table a) c.args.option c.args.work.now.at c.args.lost c.args.work.now.memo.budget next reached filled.some c.kept.new.work.at c.in_ok-kept.kept is_kept known c.escaped.new.work.at c.escaped.result escaped

pub with_lost-returns-clause-sets : goal.with_lost-returns-clause-sets
with_lost-returns-clause-sets t c = rw c.count.ensures at c.escaped.ensures.sets

pub with_lost-returns-clause-room : goal.with_lost-returns-clause-room
with_lost-returns-clause-room t c =
    let before = c.in_ok-next.ensures.room in
    let inside = c.in_ok-kept.ensures.room in
    room_more c.escaped.result c.escaped.new.work.at (c.kept.new.work.at + 4000) (c.args.work.now.at + most_of_option c.args.ply.left) c.escaped.ensures.room (omega (arith, before, inside))
