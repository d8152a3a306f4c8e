use Rattle.std.proofs.Common.{rules, ◌≡◌, ◌≢◌, Some, sym, ◌∙◌}
use Rattle.game_rules.specs.Game.{man_at}
use Rattle.game_rules.specs.declared.men.Place.TheVariants.{Gone}
use Rattle.stock_position.proofs.Men.{twins_are, twins_place}
use Rattle.stock_position.proofs.checks.are_twins.Goals as goal

pub returns-then-ne : goal.returns-then-ne
returns-then-ne c =
    let p = c.args.p.now in
    let m = c.in-Some-Some.one in
    let n = c.in-Some-Some.other in
    let one : man_at p c.args.one ≡ Some m = sym c.man_of.ensures ∙ c.in-Some-Some.is-0 in
    let other : man_at p c.args.other ≡ Some n = sym c.man_of-2.ensures ∙ c.in-Some-Some.is-1 in
    let live : m.place ≢ Gone = search rules in (
      λ t. let same : m.place ≡ n.place = search rules in twins_are p c.args.one c.args.other m n one other live same,
      λ h. let same : m.place ≡ n.place = (twins_place p c.args.one c.args.other m n one other h).1 in search rules,
    )
