-- How a game ends, and what it reads and writes.
use Rattle.std.specs.Prelude.{◌≡◌, ℕ, ◌<◌, ◌≤◌, List, ◌++◌, length, take, Bool, true, false, Option, IfSome, IsTrue, Result, Ok, Err}
use Rattle.std.specs.Io.KnownBytes.{Appends, Consumes}
use Rattle.desk_base.specs.Lent.{Lent, new_of, old_of}
use Rattle.desk_base.specs.Lines.{ended, lines_of}
use Rattle.desk_base.specs.Moves.{AppendsFront}
use Rattle.desk_base.specs.Reading.{Reading}
use Rattle.desk_base.specs.declared.sink.Sink.{Ghosts as SinkModel}
use Rattle.desk_base.specs.declared.source.Source.{Ghosts as SourceModel}
use Rattle.chess_text.specs.PositionText.{text_of_lines}
use Rattle.desk_text.specs.Taken.{TakesLines}
use Rattle.play_loop.specs.LineReport.{IsReport, LineReport}
use Rattle.play_loop.specs.Turns.{Rules}
use Rattle.play_loop.specs.declared.ending.Ending.{Ending}
use Rattle.play_loop.specs.declared.ending.Ending.TheVariants.{Mated, Held, Stuck, Wide, Quit, NoLine, Many, CutAt, LongAt}
use Rattle.play_loop.specs.declared.play.GameError.{GameError}
use Rattle.play_loop.specs.declared.play.GameError.TheVariants.{Read, Write}

-- the exposed state of the ports of a game: the bytes that its reader has taken and not read as lines, those still to
-- come, and those written
pub record Ports : Type 0 where
  pub pending : List ℕ
  pub left : Option (List ℕ)
  pub written : Option (List ℕ)

abbrev pub ports : List ℕ → Option (List ℕ) → Option (List ℕ) → Ports
ports pending left written = record { pending = pending; left = left; written = written }

-- the game ends because its input ends
abbrev pub is_short : Ending → Bool
is_short Mated = false
is_short Held = false
is_short Stuck = false
is_short Wide = false
is_short Quit = false
is_short NoLine = true
is_short Many = false
is_short (CutAt number) = true
is_short (LongAt number) = false

-- a line is due after these lines, with `before` lines before them: their report ends because they end
abbrev pub IsDue : {G : Type 0} → Rules G → ℕ → G → List (List ℕ) → Type 0
IsDue {G} rules before g lines =
    (report : LineReport G) × IsReport rules before (lines_of (text_of_lines lines)) g report × (report.ending ≡ NoLine)

-- at least as many bytes were written as the report of these lines has
abbrev pub HasTold : {G : Type 0} → Rules G → ℕ → G → List (List ℕ) → ℕ → Type 0
HasTold {G} rules before g lines count =
    (report : LineReport G) × IsReport rules before (lines_of (text_of_lines lines)) g report
    × (length report.text ≤ count)

-- The game was played as the report of these bytes says; `behind` are the bytes after the last line that was read.
pub record GoesAs {G : Type 0} (rules : Rules G) (report : LineReport G) (before : ℕ) (bytes behind : List ℕ)
    (g after : G) (old new : Option (List ℕ)) : Type 0 where
  pub reports : IsReport rules before (lines_of bytes) g report
  pub written : Appends old new report.text
  pub left : report.left ≡ lines_of behind
  pub last : report.last ≡ after

-- How a game ends whose input is the bytes `taken`, with these lines, followed by `rest`.
abbrev pub GameEnds :
    {G : Type 0} → Rules G → Result Ending GameError → ℕ → List (List ℕ) → (taken rest : List ℕ) → (g after : G)
    → (old new : Ports) → Type 0
-- as the report of the whole input says
GameEnds {G} rules (Ok ending) before lines taken rest g after old new =
    (report : LineReport G)
    × GoesAs rules report before (old.pending ++ (taken ++ rest)) (new.pending ++ rest) g after old.written new.written
    × (report.ending ≡ ending)
-- the source failed: as the report of the bytes taken says, at their end
GameEnds {G} rules (Err Read) before lines taken rest g after old new =
    (report : LineReport G)
    × GoesAs rules report before (old.pending ++ taken) new.pending g after old.written new.written
    × IsTrue (is_short report.ending)
-- the sink failed within the text of the report of the whole input; the report of the lines before each line that was
-- read had been written
GameEnds {G} rules (Err Write) before lines taken rest g after old new =
    (report : LineReport G) × IsReport rules before (lines_of (old.pending ++ (taken ++ rest))) g report
    × (front : AppendsFront old.written new.written report.text)
    × ((k : ℕ) → k < length lines → HasTold rules before g (take k lines) front.count)

-- How a game is played from `g` on, with `before` lines of the input before it. The bytes after those that it takes are
-- the source's, if the source exposes them.
pub record IsPlayed {G : Type 0} (rules : Rules G) (answer : Result Ending GameError) (before : ℕ) (g after : G)
    (old new : Ports) : Type 0 where
  pub bytes : List ℕ
  pub rest : List ℕ
  pub taken : Consumes old.left new.left bytes
  pub left : IfSome new.left (λ told. told ≡ rest)
  pub takes : TakesLines (IsDue rules before g) (old.pending ++ bytes) new.pending
  pub ends : GameEnds rules answer before takes.lines bytes rest g after old new

-- the exposed state of the ports before and after a game
abbrev pub ports_before : {S K : Type 0} → SourceModel S → SinkModel K → Lent Reading × Lent S × Lent K → Ports
ports_before s k lent = ports (old_of lent.0).pending (s.left (old_of lent.1)) (k.written (old_of lent.2))

abbrev pub ports_after : {S K : Type 0} → SourceModel S → SinkModel K → Lent Reading × Lent S × Lent K → Ports
ports_after s k lent = ports (new_of lent.0).pending (s.left (new_of lent.1)) (k.written (new_of lent.2))

-- how a game is played from the first state to the second, with a reader, a source and a sink
abbrev pub IsPlayedOn : {G S K : Type 0} → Rules G → SourceModel S → SinkModel K → Result Ending GameError → (before : ℕ)
    → (g after : G) → Lent Reading × Lent S × Lent K → Type 0
IsPlayedOn rules s k answer before g after lent =
    IsPlayed rules answer before g after (ports_before s k lent) (ports_after s k lent)

-- no line is due: the report of an empty input does not end because the input ends
abbrev pub IsSettled : {G : Type 0} → Rules G → ℕ → G → Type 0
IsSettled {G} rules before g = (report : LineReport G) × IsReport rules before ended g report × (report.ending ≡ NoLine → ⊥)
