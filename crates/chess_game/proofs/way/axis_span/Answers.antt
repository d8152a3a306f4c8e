use Rattle.std.proofs.Common.{◌≡◌, ◌≤◌, pos, arith}
use Rattle.std.proofs.lemmas.Int.{ints}
use Rattle.chess_game.proofs.WayLemmas.{falling, level}
use Rattle.chess_game.proofs.way.axis_span.Goals as goal

pub returns-then-axis-eq0-clause-span : goal.returns-then-axis-eq0-clause-span
returns-then-axis-eq0-clause-span c =
    λ t within.
    let still : c.args.axis.step ≡ pos 0 = omega (arith, ints) in
    let same = level t c.args.axis still in
    let span = c.level_span.ensures.span t within in
    (λ h. same.0 (span.0 h), λ h. span.1 (same.1 h))

pub returns-then-axis-gt0-clause-span : goal.returns-then-axis-gt0-clause-span
returns-then-axis-gt0-clause-span c = λ t within. c.growing_span.ensures.span t

pub returns-else-axis-gt0-clause-span : goal.returns-else-axis-gt0-clause-span
returns-else-axis-gt0-clause-span c =
    λ t within.
    let same = falling t c.args.axis c.mirrored-axis.result c.mirrored-axis.ensures.step c.mirrored-axis.ensures.at c.mirrored-axis.ensures.low c.mirrored-axis.ensures.high in
    let span = c.growing_span-else-axis-gt0.ensures.span t in
    (λ h. same.0 (span.0 h), λ h. span.1 (same.1 h))

pub returns-else-axis-gt0-clause-all : goal.returns-else-axis-gt0-clause-all
returns-else-axis-gt0-clause-all c =
    λ moves t within.
    let same = falling t c.args.axis c.mirrored-axis.result c.mirrored-axis.ensures.step c.mirrored-axis.ensures.at c.mirrored-axis.ensures.low c.mirrored-axis.ensures.high in
    let last : t ≤ c.growing_span-else-axis-gt0.result.last = ((c.growing_span-else-axis-gt0.ensures.span t).1 (same.1 within)).1 in
    omega (arith, last, c.growing_span-else-axis-gt0.ensures.bound)
