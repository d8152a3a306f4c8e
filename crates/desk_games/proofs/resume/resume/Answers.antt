use Rattle.std.proofs.Common.{[], refl, ap}
use Rattle.std.specs.Prelude.{Err}
use Rattle.desk_games.proofs.Resuming.{claim_value, game_resumes, refused_resumes}
use Rattle.desk_games.proofs.resume.resume.Goals as goal

pub play_on-requires-clause-value : goal.play_on-requires-clause-value
play_on-requires-clause-value g c =
    let f = c.in-Ok.ensures.fetches in
    let file = c.args.file.now in
    claim_value file.budget file.name.now f.0 c.in-Ok.solved f.2

pub returns-in-Ok : goal.returns-in-Ok
returns-in-Ok g c =
    let f = c.in-Ok.ensures.fetches in
    let file = c.args.file.now in
    let p = c.play_on.ensures.ends f.0 in
    record { ends = (f.0, f.1, (p.0, game_resumes file.budget file.name.now f.0 c.in-Ok.solved f.2 _ _ f.1 c.in-Ok.ensures.same p.1)) }

pub returns-in-Err : goal.returns-in-Err
returns-in-Err g c =
    let f = c.in-Err.ensures.fetches in
    let file = c.args.file.now in
    record {
      ends = (
        f.0,
        f.1,
        (
          [],
          rw c.refuse_file.ensures.status
              (refused_resumes file.budget file.name.now f.0 c.in-Err.why _ _ f.2 f.1 c.in-Err.ensures.same
              (λ e. c.in-Err.ensures.failed (ap Err e)) c.refuse_file.ensures.written refl),
        ),
      );
    }
