use Rattle.std.proofs.Common.{◌≡◌, sym, subst, refl}
use Rattle.auto_search.specs.Fews.{HasFew}
use Rattle.auto_search.specs.declared.few.Few.{Few}
use Rattle.game_rules.specs.Game.{Position, Sound}
use Rattle.game_rules.specs.declared.men.Square.{Square}
use Rattle.chess_game.specs.Way.{IsInside}
use Rattle.move_choice.specs.Aims.{AreNext, IsMover}
use Rattle.move_choice.specs.Along.{IsLeastOrNone}
use Rattle.move_choice.proofs.Slopes.{ray_slopes, slope_same}
use Rattle.winning_sets.proofs.ValidLemmas.{valid_sound}
use Rattle.winner_session.specs.Firsts.{Firsts}
use Rattle.winner_session.proofs.FirstLemmas.{first_next, first_room, firsts_few, firsts_least, passed_on}
use Rattle.winner_session.proofs.Games.{table_is, table_of}
use Rattle.winner_session.proofs.first_line.first_moves.Goals as goal

pub invariant_of-aim : goal.invariant_of-aim
invariant_of-aim c =
    let s = c.args.solved.now in
    let valid = c.masks.ensures.valid in
    let is : c.new-sets.result ≡ table_of s 1 = table_is s 0 1 c.masks.result.now c.kept_sets.result.now c.new-sets.result refl c.masks.ensures.masks c.kept_sets.ensures.sets c.new-sets.ensures in
    record {
      sound = subst Sound (sym c.position-position.ensures) (valid_sound s valid);
      next = subst (λ (p : Position). AreNext p c.new-sets.result) (sym c.position-position.ensures) (first_next s valid c.requires.plan c.requires.turn c.requires.moves c.new-sets.result is);
    }

pub moves_along-moves-requires : goal.moves_along-moves-requires
moves_along-moves-requires c =
    let s = c.args.solved.now in
    let is : c.new-sets.result ≡ table_of s 1 = table_is s 0 1 c.masks.result.now c.kept_sets.result.now c.new-sets.result refl c.masks.ensures.masks c.kept_sets.ensures.sets c.new-sets.ensures in
    record { few = first_room s c.masks.ensures.valid c.requires.plan c.requires.turn c.requires.moves c.new-sets.result is c.args.search.now c.requires.room }

pub returns-in-Zero-clause-none : goal.returns-in-Zero-clause-none
returns-in-Zero-clause-none c =
    let s = c.args.solved.now in
    let valid = c.masks.ensures.valid in
    let t = c.new-sets.result in
    let is : t ≡ table_of s 1 = table_is s 0 1 c.masks.result.now c.kept_sets.result.now t refl c.masks.ensures.masks c.kept_sets.ensures.sets c.new-sets.ensures in
    let his = c.his_ray-his.ensures in
    let few = c.moves_along-moves.result.few in
    let All : Square → Type 0 = λ z. Unit {0} in
    let here =
    passed_on s valid c.requires.plan c.requires.turn c.requires.moves t is All c.args.man c.args.ray (HasFew few) c.position-position.result
    c.his_ray-his.result.man c.his_ray-his.result.number c.position-position.ensures his.man his.number c.moves_along-moves.ensures.few in
    let lost = firsts_few s valid c.requires.plan c.requires.turn c.requires.moves t is All c.args.man c.args.ray few here in
    subst (λ (f : Few). HasFew f (Firsts s.winner s.moves s.position c.args.man c.args.ray)) c.in-Zero.is lost

pub returns : goal.returns
returns c =
    let s = c.args.solved.now in
    let valid = c.masks.ensures.valid in
    let t = c.new-sets.result in
    let is : t ≡ table_of s 1 = table_is s 0 1 c.masks.result.now c.kept_sets.result.now t refl c.masks.ensures.masks c.kept_sets.ensures.sets c.new-sets.ensures in
    let h = c.his_ray-his.result in
    let his = c.his_ray-his.ensures in
    let moves = c.moves_along-moves.result in
    let mover : IsMover s.position c.args.man c.args.ray h.ray = subst (λ (p : Position). IsMover p c.args.man c.args.ray h.ray) c.position-position.ensures his.mover in
    let short = ray_slopes mover.man.kind mover.man.side c.args.ray h.ray mover.is_ray in
    let All : Square → Type 0 = λ z. Unit {0} in
    let few =
    passed_on s valid c.requires.plan c.requires.turn c.requires.moves t is All c.args.man c.args.ray (HasFew moves.few)
    c.position-position.result h.man h.number c.position-position.ensures his.man his.number c.moves_along-moves.ensures.few in
    let least =
    passed_on s valid c.requires.plan c.requires.turn c.requires.moves t is (IsInside c.args.frame) c.args.man c.args.ray
    (λ P. IsLeastOrNone P moves.least) c.position-position.result h.man h.number c.position-position.ensures his.man his.number
    c.moves_along-moves.ensures.least in
    record {
      none = tt;
      line = record {
        him = mover.man;
        step = h.ray;
        is_man = mover.is_man;
        is_ray = mover.is_ray;
        man_is = refl;
        dx_is = slope_same h.ray.dx short.x;
        dy_is = slope_same h.ray.dy short.y;
        some = c.in_default.not-Zero;
        few = firsts_few s valid c.requires.plan c.requires.turn c.requires.moves t is All c.args.man c.args.ray moves.few few;
        least = firsts_least s valid c.requires.plan c.requires.turn c.requires.moves t is (IsInside c.args.frame) c.args.man c.args.ray moves.least least;
      };
      kept = c.moves_along-moves.ensures.kept;
    }
