use Rattle.std.proofs.Common.{◌≡◌, refl, ap, ◌∙◌}
use Rattle.std.specs.Prelude.{Err}
use Rattle.mate_plan.specs.Claim.{Claim}
use Rattle.desk_report.specs.Outcome.{Report, done_with}
use Rattle.desk_verdict.specs.Verdict.{mate_line}
use Rattle.desk_files.proofs.FileClaims.{line_checks, refused_ends}
use Rattle.desk_files.proofs.check.check.Goals as goal

pub returns-in-Ok : goal.returns-in-Ok
returns-in-Ok g c =
    let f = c.in-Ok.ensures.fetches in
    let file = c.args.file.now in
    let line = c.as_slice.ensures ∙ c.verdict_line-line.ensures.won refl ∙ ap mate_line c.moves.ensures in
    record { ends = (f.0, f.1, line_checks f.2 c.print.result c.as_slice.result.now _ _ line f.1 c.in-Ok.ensures.same (c.print.ensures.ends f.0)) }

pub returns-in-Err : goal.returns-in-Err
returns-in-Err g c =
    let f = c.in-Err.ensures.fetches in
    let file = c.args.file.now in
    let Says : Claim → Report → Type 0 = λ d report. report ≡ done_with f.0 (mate_line d.moves) in
    record {
      ends = (
        f.0,
        f.1,
        rw c.refuse_file.ensures.status
            (refused_ends Says file.budget file.name.now f.0 (Unit {0}) _ _ f.1 c.in-Err.ensures.same c.in-Err.why f.2 tt
            (λ e. c.in-Err.ensures.failed (ap Err e)) c.refuse_file.ensures.written),
      );
    }
