use Rattle.std.proofs.Common.{None, Ok, Err, refl, ap, subst}
use Rattle.chess_text.specs.declared.grammar.Grammar.{Grammar}
use Rattle.desk_text.specs.Text.{problem_of, texts_of}
use Rattle.desk_text.specs.TextRead.{TextReadOf}
use Rattle.desk_text.specs.declared.problem.Problem.{Problem}
use Rattle.desk_text.proofs.Said.{read_said}
use Rattle.desk_report.specs.Outcome.{NeverMisses, RunEndsAs}
use Rattle.desk_report.specs.Ports.{sink_seen}
use Rattle.desk_report.proofs.TextEnds.{behind_text, sound_ends, unsound_ends}
use Rattle.desk_crowd.specs.Crowd.{CrowdReports, IsBehindCrowd, crowd_texts}
use Rattle.desk_crowd.proofs.Drafted.{same_problem}
use Rattle.desk_crowd.proofs.NoText.{no_text_ends}
use Rattle.desk_crowd.proofs.crowd.crowd.Goals as goal

pub returns-in-Err : goal.returns-in-Err
returns-in-Err g c = record {
  ends = λ files.
      let pending = c.read_text.new.reader.pending in
      let before = g.S.Source.left c.args.source.now in
      let after = g.S.Source.left c.read_text.new.source in
      let end = c.in-Err.end in
      let Of : Grammar → Type 0 = λ k. TextReadOf (texts_of k) (Err end) pending before after in
      let read = read_said crowd_texts (Err end) pending before after (subst Of c.crowds.ensures c.in-Err.ensures.reads) in (
        pending,
        rw c.refuse_text.ensures.status (no_text_ends c.args.moves c.args.budget files pending before after _ _ _ _ _ _ end read (λ same. c.in-Err.ensures.failed (ap Err same))
            c.refuse_text.ensures.written),
      );
}

pub returns-in-Err-draft_soundness : goal.returns-in-Err-draft_soundness
returns-in-Err-draft_soundness g c = record {
  ends = λ files.
      let pending = c.read_text.new.reader.pending in
      let before = g.S.Source.left c.args.source.now in
      let after = g.S.Source.left c.read_text.new.source in
      let text = c.in-Ok.text in
      let Of : Grammar → Type 0 = λ k. TextReadOf (texts_of k) (Ok text) pending before after in
      let read = read_said crowd_texts (Ok text) pending before after (subst Of c.crowds.ensures c.in-Ok.ensures.reads) in (
        pending,
        unsound_ends crowd_texts (λ problem rest. CrowdReports c.args.moves c.args.budget problem files) files IsBehindCrowd pending before after _ _ _ _ _ _
            (problem_of text.draft text.lines) read c.in-Err-draft_soundness.why c.in-Err-draft_soundness.ensures.reason
            (rw (c.as_slice.ensures, c.unsound_line-line.ensures) at c.refuse.ensures.written),
      );
}

pub returns : goal.returns
returns g c = record {
  ends = λ files.
      let pending = c.read_text.new.reader.pending in
      let before = g.S.Source.left c.args.source.now in
      let after = g.S.Source.left c.read_text.new.source in
      let text = c.in-Ok.text in
      let problem = problem_of text.draft text.lines in
      let Of : Grammar → Type 0 = λ k. TextReadOf (texts_of k) (Ok text) pending before after in
      let read = read_said crowd_texts (Ok text) pending before after (subst Of c.crowds.ensures c.in-Ok.ensures.reads) in
      let sound = c.in_default.ensures.ok.0 refl in
      let Ends : Problem → Type 0 =
      λ p. RunEndsAs c.answer.result (CrowdReports c.args.moves c.args.budget p files) (Unit {0}) NeverMisses (sink_seen g.K.Sink files c.args.sink.now)
      (sink_seen g.K.Sink files c.answer.new.sink) in
      let answered : Ends problem = subst Ends (same_problem text.draft c.crowd_of-crowd.result text.lines c.crowd_of-crowd.ensures c.in-Ok.ensures.lines) (c.answer.ensures.ends files) in (
        pending,
        sound_ends crowd_texts (λ q rest. CrowdReports c.args.moves c.args.budget q files) files IsBehindCrowd pending before after _ _ _ _ _ _ problem read sound c.answer.result
            (Unit {0})
            (λ some. behind_text crowd_texts (λ q rest. CrowdReports c.args.moves c.args.budget q files) files IsBehindCrowd pending before after None None 0 0 0 0 problem read
            (λ q. Unit {0}) sound tt)
            answered,
      );
}
