use Rattle.std.proofs.Common.{◌≡◌, Ok, refl, arith}
use Rattle.std.proofs.lemmas.Grind.{common_steps}
use Rattle.std.proofs.lemmas.Result.{err_from_is_err_and}
use Rattle.strategy_file.specs.Layout.{Give, bind, repeated}
use Rattle.strategy_file.specs.Reading.{Fails, taken}
use Rattle.strategy_file.specs.Rests.{left_of}
use Rattle.strategy_file.specs.Versions.{most_kind}
use Rattle.strategy_file.specs.Men.{Start, start_with, man_layout, start_layout}
use Rattle.strategy_file.proofs.Takings.{then_ok, first_fails}
use Rattle.strategy_file.proofs.men.opening_at.Goals as goal

pub returns-in_err-men-clause-start : goal.returns-in_err-men-clause-start
unfolding start_layout
returns-in_err-men-clause-start c =
    let p = err_from_is_err_and c.from_residual-in_err-men.result c.from_residual-in_err-men.ensures.1 in
    let version = c.in_ok-version.version in
    let fails : Fails c.in_err-men.field-0.0 (taken (repeated c.in_ok-count.count (man_layout (most_kind version))) c.in_ok-count.rest.at c.in_ok-count.rest.bytes.now) =
    rw c.most_kind.ensures at c.in_err-men.ensures.men in
    let h : Fails c.in_err-men.field-0.0
    (taken {A = Start} (bind (repeated c.in_ok-count.count (man_layout (most_kind version))) (λ men. Give (start_with version c.in_ok-moves.moves c.in_ok-turn.turn men)))
    c.in_ok-count.rest.at c.in_ok-count.rest.bytes.now) =
    first_fails c.in_err-men.field-0.0 (repeated c.in_ok-count.count (man_layout (most_kind version))) (λ men. Give (start_with version c.in_ok-moves.moves c.in_ok-turn.turn men))
    c.in_ok-count.rest.at c.in_ok-count.rest.bytes.now fails in
    rw (p.1, p.2) (grind (arith, common_steps, h))

pub returns-clause-start : goal.returns-clause-start
unfolding start_layout
returns-clause-start c =
    let version = c.in_ok-version.version in
    let men : taken (repeated c.in_ok-count.count (man_layout (most_kind version))) c.in_ok-count.rest.at c.in_ok-count.rest.bytes.now ≡ Ok (c.in_ok-men.men.items, left_of c.in_ok-men.rest) =
    rw c.most_kind.ensures at c.in_ok-men.ensures.men in
    let h : taken {A = Start} (bind (repeated c.in_ok-count.count (man_layout (most_kind version))) (λ men. Give (start_with version c.in_ok-moves.moves c.in_ok-turn.turn men))) c.in_ok-count.rest.at c.in_ok-count.rest.bytes.now
    ≡ Ok (start_with version c.in_ok-moves.moves c.in_ok-turn.turn c.in_ok-men.men.items, left_of c.in_ok-men.rest) =
    then_ok (repeated c.in_ok-count.count (man_layout (most_kind version))) (λ men. Give (start_with version c.in_ok-moves.moves c.in_ok-turn.turn men))
    c.in_ok-count.rest.at c.in_ok-count.rest.bytes.now c.in_ok-men.men.items (left_of c.in_ok-men.rest)
    (Ok (start_with version c.in_ok-moves.moves c.in_ok-turn.turn c.in_ok-men.men.items, left_of c.in_ok-men.rest)) men refl in
    rw (c.turn_of.ensures, c.winner_of.ensures) (grind (arith, common_steps, h))
