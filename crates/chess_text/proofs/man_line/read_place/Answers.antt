use Rattle.std.proofs.Common.{rules, ◌≢◌, inl, inr, sym, subst, codes, ℤ, w64}
use Rattle.std.proofs.lemmas.Int.{to_z-of_z}
use Rattle.std.proofs.lemmas.Result.{err_from_is_err_and}
use Rattle.chess_text.specs.Grammar.{IsCoordinateOf}
use Rattle.chess_text.specs.ManLine.{HasPlaceFault}
use Rattle.chess_text.proofs.Spellings.{not_place, pair_is_far}
use Rattle.chess_text.proofs.man_line.read_place.Goals as goal
use Rattle.chess_text.proofs.man_line.read_place.Goals.{else-takes-via-then-takes+else-takes-2, else-takes-via-else-takes}

pub returns-in_err-x-clause-refused : goal.returns-in_err-x-clause-refused
returns-in_err-x-clause-refused c =
    let p = err_from_is_err_and c.from_residual.result c.from_residual.ensures.1 in
    let other : c.args.text.now ≢ codes "gone" = search rules in
    rw (p.1, p.2) (not_place c.args.grammar.now c.in_err-x.field-0.0 other c.in_err-x.ensures.refused)

pub returns-else-takes-clause-refused : goal.returns-else-takes-clause-refused
returns-else-takes-clause-refused c =
    let g = c.args.grammar.now in
    let fits = c.in_ok-x.ensures.fits in
    let Takes : ℤ → Type 0 = λ z. IsCoordinateOf g z in
    let x_is = sym (to_z-of_z w64 c.in_ok-x.x fits.0) in
    let y_is = sym (to_z-of_z w64 c.in_ok-x.y fits.1) in
    let far = pair_is_far {g = g} c.in_ok-x.x c.in_ok-x.y fits.0 fits.1 in
    subst (HasPlaceFault g) (sym c.in_ok-x.ensures.pair)
    (elim c.else-takes.branch [
      | else-takes-via-then-takes+else-takes-2 w ↦
          far (inr (λ t. let yes = w.takes-then-takes.ensures.1 (subst Takes y_is t) in let no = w.if-takes-2.false in absurd (search rules)))
      | else-takes-via-else-takes w ↦ far (inl (λ t. let yes = c.takes.ensures.1 (subst Takes x_is t) in let no = w.if-takes.false in absurd (search rules)))
    ])
