use Rattle.std.proofs.Common.{◌≡◌, ℕ, Option, Some, None, sym, subst, ◌∙◌}
use Rattle.std.proofs.lemmas.Option.{same_Some}
use Rattle.game_rules.specs.Game.{Position, man_at}
use Rattle.game_rules.specs.Rays.{ray_of}
use Rattle.game_rules.specs.declared.men.Man.{Man}
use Rattle.game_rules.specs.declared.men.Ray.{Ray}
use Rattle.move_choice.specs.Aims.{HasRay, IsMover}
use Rattle.move_choice.proofs.Firsts.{man_high, man_low}
use Rattle.move_choice.proofs.movers.his_ray.Goals as goal

pub man-him-requires-clause-first : goal.man-him-requires-clause-first
man-him-requires-clause-first c = let m = c.requires.1 in man_low c.args.p.now c.args.man m.man m.is_man

pub man-him-requires-clause-last : goal.man-him-requires-clause-last
man-him-requires-clause-last c = let m = c.requires.1 in man_high c.args.p.now c.args.man m.man m.is_man

-- the ray that is looked up is his
looked_up : (p : Position) (i n : ℕ) (has : HasRay p i n) (m : Man) (o : Option Ray) → man_at p i ≡ Some m → o ≡ ray_of m.kind m.side n → o ≡ Some has.0
looked_up p i n has m o is found =
    let same : has.1.man ≡ m = same_Some has.1.man m (sym has.1.is_man ∙ is) in
    found ∙ subst (λ k. ray_of k.kind k.side n ≡ Some has.0) same has.1.is_ray

pub unreachable-requires : goal.unreachable-requires
unreachable-requires c =
    let found = looked_up c.args.p.now c.args.man c.args.number c.requires c.man-him.result c.ray.result c.man-him.ensures c.ray.ensures in
    let no : None ≡ Some c.requires.0 = sym c.in-None.is ∙ found in
    cc

pub returns-clause-mover : goal.returns-clause-mover
returns-clause-mover c =
    let found = looked_up c.args.p.now c.args.man c.args.number c.requires c.man-him.result c.ray.result c.man-him.ensures c.ray.ensures in
    subst (IsMover c.args.p.now c.args.man c.args.number) (same_Some c.requires.0 c.in-Some.ray (sym found ∙ c.in-Some.is)) c.requires.1
