-- The laws of the reports of games.
use Rattle.std.specs.Prelude.{◌≡◌, ℕ}
use Rattle.desk_base.specs.Lines.{Lines}
use Rattle.play_loop.specs.LineReport.{AtLines, IsReport, LineReport}
use Rattle.play_loop.specs.Turns.{Rules}
use Rattle.play_loop.specs.declared.player.GameState.TheVariants.{LineDue}

-- a game has at most one report for the same lines
abbrev pub OneReport : {G : Type 0} → Rules G → Type 0
OneReport {G} rules =
    (before : ℕ) (lines : Lines) (g : G) (one two : LineReport G) → IsReport rules before lines g one
    → IsReport rules before lines g two → one ≡ two

-- each valid game has a report, whatever the lines are
abbrev pub SomeReport : {G : Type 0} → Rules G → (G → Type 0) → Type 0
SomeReport {G} rules Kept =
    (before : ℕ) (lines : Lines) (g : G) → Kept g → (report : LineReport G) × IsReport rules before lines g report

-- this is also true later in a game, when a line is due
abbrev pub SomeLater : {G : Type 0} → Rules G → (G → Type 0) → Type 0
SomeLater {G} rules Kept =
    (before read : ℕ) (lines : Lines) (g : G) → Kept g → rules.Stands g LineDue
    → (later : LineReport G) × AtLines rules before read lines g later
