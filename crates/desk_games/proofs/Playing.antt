-- How a command that plays a game ends, from how its game does.
use Rattle.std.proofs.Common.{◌≡◌, ◌⊎◌, ℕ, ◌≤◌, List, [], ◌++◌, length, take, Option, Result, Ok, Err, IsErrOf, inl, inr, refl, sym, ◌∙◌, ap, subst, append_assoc, arith}
use Rattle.std.specs.Prelude.{codes, unwrap_or}
use Rattle.std.specs.Io.KnownBytes.{Appends}
use Rattle.std.proofs.KnownBytes.{Appends-trans, Consumes-nil}
use Rattle.std.proofs.lemmas.List.{append-nil}
use Rattle.std.proofs.lemmas.List.Elements.{All-nil}
use Rattle.desk_base.specs.Faults.{HasRisen}
use Rattle.desk_base.specs.Files.{Files}
use Rattle.desk_base.specs.Lines.{IsLine, Lines, lines_of}
use Rattle.desk_base.specs.Moves.{AppendsFront}
use Rattle.game_rules.specs.Game.{Value}
use Rattle.chess_text.specs.PositionText.{text_of_lines}
use Rattle.chess_game.specs.declared.way.Frame.{Frame}
use Rattle.winner_player.specs.WinnerRules.{Match, seen, strategy_by, winner_rules}
use Rattle.play_loop.specs.LineReport.{IsReport, LineReport, ending_line}
use Rattle.play_loop.specs.Played.{IsDue, IsPlayed, Ports, is_short}
use Rattle.play_loop.specs.Turns.{Rules}
use Rattle.move_choice.specs.Squares.{all_squares}
use Rattle.desk_text.specs.Taken.{TakesLines}
use Rattle.play_loop.specs.declared.ending.Ending.{Ending}
use Rattle.play_loop.specs.declared.ending.Ending.TheVariants.{Mated, Held, Stuck, Wide, Quit, NoLine, Many, CutAt, LongAt}
use Rattle.play_loop.specs.declared.play.GameError.{GameError}
use Rattle.play_loop.specs.declared.play.GameError.TheVariants.{Read, Write}
use Rattle.winner_session.specs.Game.{Game, start_of}
use Rattle.winning_sets.specs.Claimed.{claim_of}
use Rattle.winning_sets.specs.Solve.{IsOf, Solution}
use Rattle.winning_sets.specs.declared.origin.Origin.TheVariants as origin
use Rattle.desk_report.specs.Outcome.{DoesReport, RunEndsAs, NeverMisses, Report, Seen, Writes, of_sink, of_streams, reported_on}
use Rattle.desk_report.specs.ByLines.{EndsByLines, IsDueBy}
use Rattle.desk_games.specs.Play.{Finishes, PlayReports, as_played, first_match, status_of}
use Rattle.desk_games.specs.Resume.{claimed_match}
use Rattle.desk_verdict.specs.Verdict.{FitsBudget}
use Rattle.desk_text.specs.declared.problem.Problem.{Problem}
use Rattle.desk_report.specs.declared.status.Status.{Status}
use Rattle.desk_text.proofs.TextSteps.{known_rest}
use Rattle.desk_report.proofs.Writing.{at_sink, ends_as}

-- a text, and a fault line behind it
then_line : (text : List ℕ) {line : List ℕ} (before : Option (List ℕ)) {between after : Option (List ℕ)} {failed : Type 0} (also : Type 0) → Appends before between text → (failed → also)
    → Writes [] line between after failed → Writes text line before after also
then_line text {line} before {between} {after} {failed} also wrote more writes = record {
  count = writes.count;
  front = Appends-trans before between after text (take writes.count line) wrote writes.front;
  whole = either writes.whole;
}
  where
    either : (length line ≤ writes.count) ⊎ failed → (length line ≤ writes.count) ⊎ also
    either (inl long) = inl long
    either (inr f) = inr (more f)

later_risen : (before between after : ℕ) → before ≤ between → HasRisen between after → HasRisen before after
later_risen before between after le risen = omega (arith, le, risen)

-- the game of a session that begins with a solved problem
pub seen_first : (problem : Problem) (n : ℕ) (s : Solution) (f : Frame) (g : Game) → IsOf problem.position problem.winner n s → f ≡ all_squares → g ≡ start_of s f → seen g ≡ first_match n problem
seen_first problem n s f g of whole is = ap seen is ∙ (λ i. record {
  winner = of.winner_is i;
  start = of.position i;
  moves = of.moves_are i;
  strategy = strategy_by (of.origin i) s;
  frame = whole i;
  position = of.position i;
  ply = 0;
})

-- and of one that begins with the sets of a claim
pub seen_claimed : (s : Solution) (f : Frame) (g : Game) → s.origin ≡ origin.Claim → f ≡ all_squares → g ≡ start_of s f → seen g ≡ claimed_match (claim_of s)
seen_claimed s f g by whole is = ap seen is ∙ (λ i. record {
  winner = s.winner;
  start = s.position;
  moves = s.moves;
  strategy = strategy_by (by i) s;
  frame = whole i;
  position = s.position;
  ply = 0;
})

-- so it is the game that was played
pub same_played : {G : Type 0} (rules : Rules G) (number : ℕ) (answer : Result Ending GameError) (g first after : G) {old new : Ports} → g ≡ first
    → IsPlayed rules answer number g after old new → IsPlayed rules answer number first after old new
same_played {G} rules number answer g first after {old} {new} is played = let P : G → Type 0 = λ m. IsPlayed rules answer number m after old new in subst P is played

-- what is reported of lines, and where memory may be wanting and the shelf may fail after some bytes
module _ (reports : Lines → Report → Type 0) (may_lack : List ℕ → Type 0) (may_miss : List ℕ → Option (List ℕ) → Type 0) (files : Files) where
  -- a command that has the sink alone takes nothing more
  module _ (held : List ℕ) (few : length held ≤ 256) (left before after : Option (List ℕ)) (reads writes later : ℕ) where
    pub still : (status : Status) (says : Report → Type 0) (lacks : Type 0) → ((report : Report) (lines : Lines) → says report → reports lines report)
        → (lacks → may_lack []) → RunEndsAs status says lacks NeverMisses (of_sink files before writes) (of_sink files after later)
        → EndsByLines reports may_lack may_miss status held held (of_streams files left before reads writes) (of_streams files left after reads later)
    still status says lacks more lack ends =
        let old = of_streams files left before reads writes in
        let new = of_streams files left after reads later in
        let rest = unwrap_or left [] in
        record {
          bytes = [];
          rest = rest;
          taken = Consumes-nil left;
          left = known_rest left;
          takes = record { lines = []; are_lines = All-nil IsLine; due = λ k below. absurd (omega (arith, below)); bytes = append-nil held; few = few };
          ends =
              ends_as status says (reports (lines_of (reported_on status (held ++ []) rest))) lacks (may_lack []) NeverMisses (may_miss []) old new
              (λ report right. more report (lines_of (reported_on status (held ++ []) rest)) right) lack (λ keeping never. absurd never)
              (at_sink files old new refl refl status says lacks ends);
        }

  module _ {G : Type 0} (rules : Rules G) (number : ℕ) (g : G) (says : (lines : Lines) (played : LineReport G) → IsReport rules number lines g played → reports lines (as_played files played)) where
    -- each line that the game has read was due
    replies_due : (held pending : List ℕ) → TakesLines (IsDue rules number g) held pending → TakesLines (IsDueBy reports) held pending
    replies_due held pending t = record {
      lines = t.lines;
      are_lines = t.are_lines;
      due = λ k below. let due = t.due k below in (as_played files due.0, says (lines_of (text_of_lines (take k t.lines))) due.0 due.1, ap is_short due.2);
      bytes = t.bytes;
      few = t.few;
    }

    done_as : (ending : Ending) (due : Report → Type 0) (lacks : Type 0) (misses : Option (List ℕ) → Type 0) (report : Report) (old new : Seen)
        → due report → DoesReport (status_of ending) report old new → RunEndsAs (status_of ending) due lacks misses old new
    done_as Mated due lacks misses report old new right does = (report, right, does)
    done_as Held due lacks misses report old new right does = (report, right, does)
    done_as Stuck due lacks misses report old new right does = (report, right, does)
    done_as Wide due lacks misses report old new right does = (report, right, does)
    done_as Quit due lacks misses report old new right does = (report, right, does)
    done_as NoLine due lacks misses report old new right does = (report, right, does)
    done_as Many due lacks misses report old new right does = (report, right, does)
    done_as (CutAt line) due lacks misses report old new right does = (report, right, does)
    done_as (LongAt line) due lacks misses report old new right does = (report, right, does)

    on_all : (ending : Ending) (taken rest : List ℕ) → reported_on (status_of ending) taken rest ≡ taken ++ rest
    on_all Mated taken rest = refl
    on_all Held taken rest = refl
    on_all Stuck taken rest = refl
    on_all Wide taken rest = refl
    on_all Quit taken rest = refl
    on_all NoLine taken rest = refl
    on_all Many taken rest = refl
    on_all (CutAt line) taken rest = refl
    on_all (LongAt line) taken rest = refl

    module _ (held pending : List ℕ) (after : G) (left_old left_new before between done : Option (List ℕ)) (reads later_reads writes later_writes last_writes : ℕ) where
      abbrev old : Seen
      old = of_streams files left_old before reads writes

      abbrev new : Seen
      new = of_streams files left_new done later_reads last_writes

      abbrev EndsSo : Status → Type 0
      EndsSo status = EndsByLines reports may_lack may_miss status held pending old new

      abbrev Played : Result Ending GameError → Type 0
      Played answer =
          IsPlayed rules answer number g after (record { pending = held; left = left_old; written = before }) (record { pending = pending; left = left_new; written = between })

      -- what is written after the game comes behind its text
      writes_both : (report : LineReport G) (line : List ℕ) → Appends before between report.text → writes ≤ later_writes
          → Writes [] line between done (HasRisen later_writes last_writes) → Writes report.text line before done (HasRisen writes last_writes)
      writes_both report line wrote never_falls wrote_line =
          then_line report.text before (HasRisen writes last_writes) wrote (later_risen writes later_writes last_writes never_falls) wrote_line

      pub game_ends : (answer : Result Ending GameError) (status : Status) → Played answer → (IsErrOf answer Read → HasRisen reads later_reads)
          → (IsErrOf answer Write → HasRisen writes later_writes) → writes ≤ later_writes → later_writes ≤ last_writes
          → Finishes answer status between done (HasRisen later_writes last_writes) → EndsSo status
      game_ends (Ok ending) status played read_failed write_failed never_falls no_more (is', wrote) =
          let report = played.ends.0 in
          let goes = played.ends.1 in
          let same = played.ends.2 in
          let On : List ℕ → Type 0 = λ b. reports (lines_of b) (as_played files report) in
          let due = says (lines_of (held ++ (played.bytes ++ played.rest))) report goes.reports in
          let right : On (reported_on (status_of report.ending) (held ++ played.bytes) played.rest) =
          subst On (sym (append_assoc held played.bytes played.rest) ∙ sym (on_all report.ending (held ++ played.bytes) played.rest)) due in
          let line : Writes [] (ending_line report.ending) between done (HasRisen later_writes last_writes) =
          subst (λ e. Writes [] (ending_line e) between done (HasRisen later_writes last_writes)) (sym same) wrote in
          let does : DoesReport (status_of report.ending) (as_played files report) old new = record {
            reported = refl;
            written = writes_both report (ending_line report.ending) goes.written never_falls line;
            files = refl;
          } in
          subst EndsSo (ap status_of same ∙ sym is') (record {
            bytes = played.bytes;
            rest = played.rest;
            taken = played.taken;
            left = played.left;
            takes = replies_due (held ++ played.bytes) pending played.takes;
            ends =
                done_as report.ending (reports (lines_of (reported_on (status_of report.ending) (held ++ played.bytes) played.rest))) (may_lack played.bytes) (may_miss played.bytes)
                (as_played files report) old new right does;
          })
      game_ends (Err Read) status played read_failed write_failed never_falls no_more (is', wrote) =
          let report = played.ends.0 in
          let goes = played.ends.1 in
          subst EndsSo (sym is') (record {
            bytes = played.bytes;
            rest = played.rest;
            taken = played.taken;
            left = played.left;
            takes = replies_due (held ++ played.bytes) pending played.takes;
            ends = (
              as_played files report,
              says (lines_of (held ++ played.bytes)) report goes.reports,
              record {
                failed = read_failed refl;
                short = played.ends.2;
                written = writes_both report (codes "read fault\n") goes.written never_falls wrote;
                files = refl;
              },
            );
          })
      game_ends (Err Write) status played read_failed write_failed never_falls no_more (is', same) =
          let report = played.ends.0 in
          let On : List ℕ → Type 0 = λ b. reports (lines_of b) (as_played files report) in
          let F : Option (List ℕ) → Type 0 = λ w. AppendsFront before w report.text in
          subst EndsSo (sym is') (record {
            bytes = played.bytes;
            rest = played.rest;
            taken = played.taken;
            left = played.left;
            takes = replies_due (held ++ played.bytes) pending played.takes;
            ends = (
              as_played files report,
              subst On (sym (append_assoc held played.bytes played.rest)) (says (lines_of (held ++ (played.bytes ++ played.rest))) report played.ends.1),
              record { failed = omega (arith, write_failed refl, no_more); written = subst F (sym same) played.ends.2; files = refl },
            );
          })

-- the game that `play` reports
pub reports_game : (n budget : ℕ) (problem : Problem) (files : Files) → FitsBudget problem budget n → Value problem.winner n problem.position
    → (lines : Lines) (played : LineReport Match) → IsReport winner_rules problem.lines lines (first_match n problem) played
    → PlayReports n budget problem lines files (as_played files played)
reports_game n budget problem files fits value lines played right = inr (fits, inr (value, (played, right, refl)))
