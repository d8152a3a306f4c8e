use Rattle.std.proofs.Common.{◌∙◌, ap, ◌++◌}
use Rattle.chess_text.specs.PositionText.{position_text}
use Rattle.mate_desk.proofs.show.shown.Goals as goal

pub returns : goal.returns
returns c =
    let check = c.check_line.result.now in (
      check,
      c.check_line.ensures,
      c.in_ok-extend_from_slice-2.ensures.items
          ∙ ap (λ t. t ++ c.as_slice.result.now) (c.in_ok-extend_from_slice.ensures.items ∙ ap (λ t. t ++ check) c.in_ok-text.ensures)
          ∙ ap (λ l. (position_text c.args.problem.now.position c.args.problem.now.winner ++ check) ++ l) (c.as_slice.ensures ∙ c.count_line.ensures),
    )
