-- The report of `crowd`, and how it ends.
use Rattle.std.specs.Prelude.{◌≡◌, ℕ, ◌+◌, List, [], ◌++◌, length, Bool, Option, codes}
use Rattle.std.specs.Fmt.{decimal}
use Rattle.chess_text.specs.Grammar.{crowds}
use Rattle.chess_text.specs.Draft.{Draft}
use Rattle.set_plan.specs.Outcome.{Ends, Stops}
use Rattle.line_plan.specs.Plan.{plan}
use Rattle.line_engine.specs.Nodes.{position_of}
use Rattle.line_engine.specs.declared.crowd.Crowd.{Crowd}
use Rattle.desk_base.specs.Files.{Files}
use Rattle.desk_base.specs.Lent.{Lent, both_new, both_old}
use Rattle.desk_base.specs.Lines.{Lines}
use Rattle.desk_base.specs.declared.sink.Sink.{Ghosts as SinkModel}
use Rattle.desk_base.specs.declared.source.Source.{Ghosts as SourceModel}
use Rattle.desk_text.specs.Text.{Reading, problem_of, refusal_line}
use Rattle.desk_text.specs.declared.problem.Problem.{Problem}
use Rattle.desk_text.specs.declared.text.TextEnd.{TextEnd}
use Rattle.desk_text.specs.declared.text.TextEnd.TheVariants.{Fault, Refused}
use Rattle.desk_report.specs.ByLines.{EndsByLines}
use Rattle.desk_report.specs.OfText.{IsBehindTextOf, OfLines}
use Rattle.desk_report.specs.Outcome.{FirstOver, NeverMisses, Report, Seen, done_with}
use Rattle.desk_report.specs.Ports.{streams_seen}
use Rattle.desk_report.specs.declared.status.Status.{Status}
use Rattle.desk_report.specs.declared.status.Status.TheVariants as is
use Rattle.desk_verdict.specs.Verdict.{IsVerdict}

-- crowd texts state problems of up to 32 men
abbrev pub crowd_texts : Reading Problem
crowd_texts = record { grammar = crowds; says = problem_of }

-- the problem that the text of a crowd states
abbrev pub problem_in : Crowd → Problem
problem_in c = record { position = position_of c; winner = c.winner; lines = length c.men.now + 3 }

-- the crowd is that of the text's contents
pub record IsCrowdOf (d : Draft) (c : Crowd) : Type 0 where
  pub men : c.men.now ≡ d.men
  pub turn : c.turn ≡ d.turn
  pub winner : c.winner ≡ d.winner

-- the fault line of the step of this number, the first one that exceeds the budget
abbrev pub step_line : (step : ℕ) → List ℕ
step_line step = codes "over budget at crowd " ++ decimal step ++ codes "\n"

-- no step of the plan of a mate within n moves exceeds the budget
abbrev pub FitsPlan : Problem → (budget n : ℕ) → Type 0
FitsPlan problem budget n = (verdict : Option Bool) × Ends (plan problem.position problem.winner n) budget verdict

-- the step of this number is the first one of that plan that exceeds the budget
abbrev pub ExceedsPlan : Problem → (budget n : ℕ) → (step : ℕ) → Type 0
ExceedsPlan problem budget n step =
    Stops (plan problem.position problem.winner n) budget (record { part = tt; at = step })

-- whether the winner of a crowd mates within n moves of his own, or the first step that exceeds the budget
abbrev pub CrowdReports : (n budget : ℕ) → Problem → Files → Report → Type 0
CrowdReports n budget problem files =
    FirstOver step_line (ExceedsPlan problem budget n)
    (λ report.
    FitsPlan problem budget n
    × ((line : List ℕ) × IsVerdict n problem line × (report ≡ done_with files line))) files

-- the report of the crowd text at the front of the lines
abbrev pub CrowdSays : (n budget : ℕ) → Lines → Files → Report → Type 0
CrowdSays n budget lines files =
    OfLines crowd_texts (λ problem rest. CrowdReports n budget problem files) files lines

-- memory may run out after the text of a sound crowd has been taken
abbrev pub IsBehindCrowd : (taken : List ℕ) → Type 0
IsBehindCrowd taken = IsBehindTextOf crowd_texts (λ problem. Unit {0}) taken

-- the status if there is no text
abbrev pub status_of : TextEnd → Status
status_of Fault = is.ReadFault
status_of (Refused number why) = is.Text

-- the fault line if there is no text
abbrev pub end_line : TextEnd → List ℕ
end_line Fault = codes "read fault\n"
end_line (Refused number why) = refusal_line number why

-- how `crowd` ends; nothing of its input was taken before, and at the end it holds `pending`
abbrev pub CrowdEnds : (n budget : ℕ) → Files → Status → (pending : List ℕ) → Seen → Seen → Type 0
CrowdEnds n budget files status pending old new =
    EndsByLines (λ lines. CrowdSays n budget lines files) IsBehindCrowd (λ bytes. NeverMisses) status [] pending old new

-- how it ends with a source and a sink, for any files
abbrev pub CrowdEndsOn : {S K : Type 0} → SourceModel S → SinkModel K → (n budget : ℕ) → Status
    → (ports : Lent S × Lent K) → Type 0
CrowdEndsOn s k n budget status ports =
    (files : Files)
    → (pending : List ℕ)
    × CrowdEnds n budget files status pending (streams_seen s k files (both_old ports))
    (streams_seen s k files (both_new ports))
