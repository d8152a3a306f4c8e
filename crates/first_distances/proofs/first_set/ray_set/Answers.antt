use Rattle.std.proofs.Common.{◌≡◌, sym, ap, subst, ◌∙◌}
use Rattle.std.specs.List.{All}
use Rattle.game_rules.specs.Game.{Position}
use Rattle.rule_formula.specs.Fits.{IsGameMask}
use Rattle.winning_sets.specs.Solve.{IsSolution}
use Rattle.winning_sets.proofs.ValidLemmas.{plan_valid}
use Rattle.move_choice.specs.Aims.{HasRay}
use Rattle.first_distances.specs.RayFormula.{masks_after}
use Rattle.first_distances.proofs.MaskLemmas.{masks_game}
use Rattle.first_distances.proofs.SetLemmas.{IsAsked, made_compilable, made_firsts, made_over, made_stays, made_steps, prepared, some_ply}
use Rattle.first_distances.proofs.first_set.ray_set.Goals as goal

pub kept_sets-requires-clause-ply : goal.kept_sets-requires-clause-ply
kept_sets-requires-clause-ply c =
    let s = c.args.solved.now in some_ply s.winner s.position.turn s.moves c.requires.moves

pub kept_sets-requires-clause-game : goal.kept_sets-requires-clause-game
kept_sets-requires-clause-game c =
    let s = c.args.solved.now in
    let valid : IsSolution s = plan_valid s c.masks-game.ensures.valid c.requires.plan in
    let masks : c.as_slice-all.result.now ≡ masks_after s.position = c.as_slice-all.ensures.value ∙ c.in_ok-masks.ensures.all ∙ ap masks_after c.position-position.ensures in
    subst (All (IsGameMask s.position)) (sym masks) (masks_game s.position valid.sound)

pub his_ray-his-requires : goal.his_ray-his-requires
his_ray-his-requires c = subst (λ (p : Position). HasRay p c.args.man c.args.ray) (sym c.position-position.ensures) c.requires.mover

pub compile-requires-clause-compilable : goal.compile-requires-clause-compilable
compile-requires-clause-compilable c =
    let asked : IsAsked c.args.solved.now c.args.man c.args.ray = record { valid = c.masks-game.ensures.valid; plan = c.requires.plan; turn = c.requires.turn; moves = c.requires.moves; mover = c.requires.mover } in
    let ready = prepared c.args.solved.now c.args.man c.args.ray c.in_ok-sets.sets _ c.position-position.ensures c.as_slice-all.ensures.value c.in_ok-masks.ensures.all c.in_ok-sets.ensures c.in_ok-f.ensures
    c.his_ray-his.ensures.man c.his_ray-his.ensures.number in
    made_compilable c.args.solved.now c.args.man c.args.ray c.in_ok-sets.sets _ asked ready

pub compile-requires-clause-few_steps : goal.compile-requires-clause-few_steps
compile-requires-clause-few_steps c =
    let asked : IsAsked c.args.solved.now c.args.man c.args.ray = record { valid = c.masks-game.ensures.valid; plan = c.requires.plan; turn = c.requires.turn; moves = c.requires.moves; mover = c.requires.mover } in
    let ready = prepared c.args.solved.now c.args.man c.args.ray c.in_ok-sets.sets _ c.position-position.ensures c.as_slice-all.ensures.value c.in_ok-masks.ensures.all c.in_ok-sets.ensures c.in_ok-f.ensures
    c.his_ray-his.ensures.man c.his_ray-his.ensures.number in
    made_steps c.args.solved.now c.args.man c.args.ray c.in_ok-sets.sets _ asked ready

pub returns-clause-firsts : goal.returns-clause-firsts
returns-clause-firsts c =
    let asked : IsAsked c.args.solved.now c.args.man c.args.ray = record { valid = c.masks-game.ensures.valid; plan = c.requires.plan; turn = c.requires.turn; moves = c.requires.moves; mover = c.requires.mover } in
    let ready = prepared c.args.solved.now c.args.man c.args.ray c.in_ok-sets.sets _ c.position-position.ensures c.as_slice-all.ensures.value c.in_ok-masks.ensures.all c.in_ok-sets.ensures c.in_ok-f.ensures
    c.his_ray-his.ensures.man c.his_ray-his.ensures.number in
    made_firsts c.args.solved.now c.args.man c.args.ray c.in_ok-sets.sets _ asked ready c.compile.result c.compile.ensures.reduced c.compile.ensures.decides c.compile.ensures.integers

pub returns-clause-within : goal.returns-clause-within
returns-clause-within c =
    let asked : IsAsked c.args.solved.now c.args.man c.args.ray = record { valid = c.masks-game.ensures.valid; plan = c.requires.plan; turn = c.requires.turn; moves = c.requires.moves; mover = c.requires.mover } in
    let ready = prepared c.args.solved.now c.args.man c.args.ray c.in_ok-sets.sets _ c.position-position.ensures c.as_slice-all.ensures.value c.in_ok-masks.ensures.all c.in_ok-sets.ensures c.in_ok-f.ensures
    c.his_ray-his.ensures.man c.his_ray-his.ensures.number in
    made_stays c.args.solved.now c.args.man c.args.ray c.in_ok-sets.sets _ asked ready c.args.budget c.compile.result c.compile.ensures.within

pub returns-clause-over : goal.returns-clause-over
returns-clause-over c =
    let asked : IsAsked c.args.solved.now c.args.man c.args.ray = record { valid = c.masks-game.ensures.valid; plan = c.requires.plan; turn = c.requires.turn; moves = c.requires.moves; mover = c.requires.mover } in
    let ready = prepared c.args.solved.now c.args.man c.args.ray c.in_ok-sets.sets _ c.position-position.ensures c.as_slice-all.ensures.value c.in_ok-masks.ensures.all c.in_ok-sets.ensures c.in_ok-f.ensures
    c.his_ray-his.ensures.man c.his_ray-his.ensures.number in
    made_over c.args.solved.now c.args.man c.args.ray c.in_ok-sets.sets _ asked ready c.args.budget c.compile.result c.compile.ensures.over
