-- How `resume` ends, from the claim of its file.
use Rattle.std.proofs.Common.{◌≡◌, ℕ, List, [], Option, IfSome, refl, sym, subst, take, arith}
use Rattle.std.specs.Io.KnownBytes.{Consumes}
use Rattle.std.specs.Prelude.{unwrap_or}
use Rattle.std.proofs.KnownBytes.{Consumes-nil}
use Rattle.std.proofs.lemmas.List.Elements.{All-nil}
use Rattle.claim_plan.proofs.CheckLaws.{ends_where_won}
use Rattle.claim_plan.proofs.ClaimLemmas.{won_is_value}
use Rattle.claim_plan.proofs.SameClaims.{same_claims_are_checked_alike}
use Rattle.desk_base.specs.Faults.{HasRisen}
use Rattle.desk_base.specs.Files.{Files, Go}
use Rattle.desk_base.specs.Lines.{IsLine, Lines, lines_of}
use Rattle.game_rules.specs.Game.{Position, Value}
use Rattle.game_rules.specs.declared.men.Side.{Side}
use Rattle.winner_player.proofs.Alike.{by_claim, report_alike, report_by}
use Rattle.winner_player.specs.WinnerRules.{ByClaim, Match, winner_rules}
use Rattle.play_loop.specs.LineReport.{IsReport}
use Rattle.move_choice.specs.Squares.{all_squares}
use Rattle.chess_text.specs.PositionText.{text_of_lines}
use Rattle.mate_plan.specs.Claim.{Claim}
use Rattle.mate_plan.specs.Won.{Won}
use Rattle.strategy_file.specs.Claims.{claim_with}
use Rattle.winning_sets.specs.Claimed.{claim_of}
use Rattle.winning_sets.specs.Solve.{Solution}
use Rattle.desk_files.specs.FileClaim.{HasFileClaim, LacksClaim, MissesFetch, no_claim_line, no_claim_status}
use Rattle.desk_files.specs.declared.file_claim.NoClaim.{NoClaim}
use Rattle.desk_files.specs.declared.file_claim.NoClaim.TheVariants.{Fault}
use Rattle.desk_files.proofs.FileClaims.{of_claim, refused_ends}
use Rattle.desk_report.specs.Outcome.{NeverMisses, Report, Seen, Writes, WriteFailed, of_streams, reported_on}
use Rattle.desk_report.specs.ByLines.{EndsByLines}
use Rattle.desk_games.specs.Resume.{GameReports, LacksBefore, ResumeEnds, ResumeReports, claimed_match}
use Rattle.desk_report.specs.declared.status.Status.{Status}
use Rattle.desk_text.proofs.TextSteps.{known_rest}
use Rattle.desk_report.proofs.Writing.{at_files, ends_as}

-- the winner of a claim that keeps all rules mates in time
module _ (budget : ℕ) (name : List ℕ) (files : Files) (s : Solution) (h : HasFileClaim budget name files s) where
  abbrev c : Claim
  c = claim_with h.charts

  won : Won c
  won = ((ends_where_won c budget h.is_claim).0 h.keeps_rules).0

  pub claim_value : Value s.winner s.moves s.position
  claim_value =
      let value : Value c.winner c.moves c.position = won_is_value c h.is_claim won in
      let At : Position → Type 0 = λ p. Value s.winner s.moves p in
      let In : ℕ → Type 0 = λ n. Value s.winner n c.position in
      let Of : Side → Type 0 = λ w. Value w c.moves c.position in
      subst At h.same.position (subst In h.same.moves (subst Of h.same.winner value))

  -- the report of a game by the sets of the solution is one by the claim of the file
  same_game : (lines : Lines) (report : Report) → GameReports lines files (claim_of s) report → GameReports lines files c report
  same_game lines report (played, right, is') =
      let same = same_claims_are_checked_alike c (claim_of s) h.same in
      let first : Match = claimed_match (claim_of s) in
      let other : IsReport winner_rules 0 lines (by_claim c first) (report_by c played) = report_alike (claim_of s) c (λ ply q. ((same.positions ply q).1, (same.positions ply q).0)) 0 lines first played right in
      let start : by_claim c first ≡ claimed_match c = λ i. record {
        winner = sym h.same.winner i;
        start = sym h.same.position i;
        moves = sym h.same.moves i;
        strategy = ByClaim c;
        frame = all_squares;
        position = sym h.same.position i;
        ply = 0;
      } in
      let P : Match → Type 0 = λ g. IsReport winner_rules 0 lines g (report_by c played) in
      (report_by c played, subst P start other, is')

  says_game : (lines : Lines) (report : Report) → GameReports lines files (claim_of s) report → ResumeReports budget lines name files report
  says_game lines report right = of_claim (GameReports lines files) budget name files report h (same_game lines report right)

  -- so `resume` ends as the game does
  pub game_resumes : {status : Status} {pending : List ℕ} (old new : Seen) → IfSome old.files (λ told. told ≡ files) → Go old.files new.files (λ before after. after ≡ before)
      → EndsByLines (λ lines. GameReports lines files (claim_of s)) LacksBefore (λ bytes. NeverMisses) status [] pending
      (of_streams files old.left old.written old.read_faults old.write_faults) (of_streams files new.left new.written new.read_faults new.write_faults)
      → ResumeEnds budget name files status pending old new
  game_resumes {status} old new kept same p =
      let on = lines_of (reported_on status p.bytes p.rest) in
      record {
        bytes = p.bytes;
        rest = p.rest;
        taken = p.taken;
        left = p.left;
        takes = record {
          lines = p.takes.lines;
          are_lines = p.takes.are_lines;
          due = λ k below. let due = p.takes.due k below in (due.0, says_game (lines_of (text_of_lines (take k p.takes.lines))) due.0 due.1, due.2);
          bytes = p.takes.bytes;
          few = p.takes.few;
        };
        ends =
            ends_as status (GameReports on files (claim_of s)) (ResumeReports budget on name files) (LacksBefore p.bytes) (LacksBefore p.bytes) NeverMisses (MissesFetch p.bytes) old new
            (says_game on) (λ lack. lack) (λ keeping never. absurd never)
            (at_files files old new kept same old.left new.left old.read_faults new.read_faults (λ risen. risen) status (GameReports on files (claim_of s)) (LacksBefore p.bytes) p.ends);
      }

-- `resume` takes nothing where there is no claim
pub refused_resumes : (budget : ℕ) (name : List ℕ) (files : Files) (why : NoClaim) (old new : Seen) → LacksClaim budget name files why
    → IfSome old.files (λ told. told ≡ files) → Go old.files new.files (λ before after. after ≡ before)
    → (why ≡ Fault → HasRisen old.shelf_faults new.shelf_faults)
    → Writes [] (no_claim_line why) old.written new.written (WriteFailed old new) → new.left ≡ old.left
    → ResumeEnds budget name files (no_claim_status why) [] old new
refused_resumes budget name files why old new lacks kept same failed wrote left =
    let rest = unwrap_or old.left [] in
    let L : Option (List ℕ) → Type 0 = λ l. IfSome l (λ told. told ≡ rest) in
    let C : Option (List ℕ) → Type 0 = λ l. Consumes old.left l [] in
    let on = lines_of (reported_on (no_claim_status why) [] rest) in
    record {
      bytes = [];
      rest = rest;
      taken = subst C (sym left) (Consumes-nil old.left);
      left = subst L (sym left) (known_rest old.left);
      takes = record { lines = []; are_lines = All-nil IsLine; due = λ k below. absurd (omega (arith, below)); bytes = refl; few = omega arith };
      ends = refused_ends (GameReports on files) budget name files (LacksBefore []) old new kept same why lacks refl failed wrote;
    }
