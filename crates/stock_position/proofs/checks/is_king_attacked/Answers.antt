use Rattle.std.proofs.Common.{rules, ◌≡◌, SFits, ap}
use Rattle.std.specs.Int.{w64}
use Rattle.std.proofs.lemmas.Int.{to_z-of_z}
use Rattle.game_rules.specs.Game.{Attacked, StandsOn, other, place_square, square_of}
use Rattle.game_rules.specs.declared.men.Kind.TheVariants.{King}
use Rattle.game_rules.specs.declared.men.Square.{Square}
use Rattle.game_laws.proofs.AnswerLemmas.{same_stand}
use Rattle.game_laws.proofs.SoundLemmas.{live_at}
use Rattle.stock_position.proofs.checks.is_king_attacked.Goals as goal

pub returns-in-At : goal.returns-in-At
returns-in-At c =
    let p = c.args.p.now in
    let man = c.args.man in
    let x : SFits w64 c.in-At.x = search rules in
    let y : SFits w64 c.in-At.y = search rules in
    let z : Square = record { x = c.in-At.x; y = c.in-At.y } in
    let stands : StandsOn man z = ap place_square c.in-At.is in
    let side : man.side ≡ c.args.side = search rules in
    let kind : man.kind ≡ King = search rules in
    let said = rw (to_z-of_z w64 c.in-At.x x, to_z-of_z w64 c.in-At.y y, c.other.ensures) at c.attacked.ensures in (
      λ t. (side, kind, live_at man z (Attacked p (other c.args.side)) stands (said.0 t)),
      λ h. said.1 (same_stand (square_of man) z (Attacked p (other c.args.side)) stands h.2),
    )
