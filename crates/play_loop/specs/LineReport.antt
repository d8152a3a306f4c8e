-- The report of a game that a player plays against lines.
use Rattle.std.specs.Prelude.{◌≡◌, ℕ, ◌+◌, ◌==◌, List, [], ◌++◌, Bool, true, false, codes, Option, Some, None}
use Rattle.std.specs.Fmt.{decimal}
use Rattle.desk_base.specs.Lines.{Lines, full, ended, cut, long}
use Rattle.play_loop.specs.Turns.{Comes, OfLine, Rules, Turn}
use Rattle.play_loop.specs.declared.ending.Ending.{Ending}
use Rattle.play_loop.specs.declared.ending.Ending.TheVariants.{Mated, Held, Stuck, Wide, Quit, NoLine, Many, CutAt, LongAt}

-- the report of a game: the text written, the game after each move of the player, the final game, how it ended, and the
-- bytes of the input after the last whole line that was read
pub record LineReport (G : Type 0) : Type 0 where
  pub text : List ℕ
  pub games : List G
  pub last : G
  pub ending : Ending
  pub left : Lines

-- the greatest number of lines read in a game
abbrev pub most_lines : ℕ
most_lines = 10000

-- the line for an ending that is not part of the text
abbrev pub ending_line : Ending → List ℕ
ending_line Mated = []
ending_line Held = []
ending_line Stuck = []
ending_line Wide = codes "wide\n"
ending_line Quit = codes "ended\n"
ending_line NoLine = codes "ended\n"
ending_line Many = codes "too many lines\n"
ending_line (CutAt number) = codes "text line " ++ decimal number ++ codes " cut\n"
ending_line (LongAt number) = codes "text line " ++ decimal number ++ codes " long\n"

-- the game ends when a line is due
abbrev pub ends : {G : Type 0} → Ending → G → Lines → LineReport G
ends ending g left = record { text = []; games = []; last = g; ending = ending; left = left }

-- the game ends with a turn
abbrev pub closes : {G : Type 0} → Turn G → Ending → Lines → LineReport G
closes turn ending left =
    record { text = turn.text; games = turn.games; last = turn.after; ending = ending; left = left }

-- the report of a turn followed by another report
abbrev pub behind : {G : Type 0} → Turn G → LineReport G → LineReport G
behind turn later =
    record {
      text = turn.text ++ later.text;
      games = turn.games ++ later.games;
      last = later.last;
      ending = later.ending;
      left = later.left;
    }

-- the report that begins with a turn, which ends the game or is followed by the rest of the game
abbrev pub BeginsAs : {G : Type 0} → Option Ending → (G → LineReport G → Type 0) → Lines → Turn G → LineReport G → Type 0
BeginsAs {G} (Some ending) On left turn report = report ≡ closes turn ending left
BeginsAs {G} None On left turn report = (later : LineReport G) × On turn.after later × (report ≡ behind turn later)

abbrev pub Begins : {G : Type 0} → (G → LineReport G → Type 0) → Lines → Turn G → LineReport G → Type 0
Begins On left turn report = BeginsAs turn.over On left turn report

-- if the first condition is true, the greatest number of lines has been read, and no further line is read; otherwise
-- the last condition is true
abbrev pub OrTooMany : {G : Type 0} → Bool → G → Lines → LineReport G → Type 0 → Type 0
OrTooMany true g left report Else = report ≡ ends Many g left
OrTooMany false g left report Else = Else

-- the report of a game in which a line is due: `before` lines of the input come before those of the game, and `read`
-- lines of the game have been read
abbrev pub AtLines : {G : Type 0} → Rules G → ℕ → ℕ → Lines → G → LineReport G → Type 0
AtLines {G} rules before read (full line rest) g report =
    OrTooMany (read == most_lines) g (full line rest) report
    ((turn : Turn G) × OfLine rules g line turn
    × Begins (λ next later. AtLines rules before (read + 1) rest next later) rest turn report)
AtLines {G} rules before read ended g report =
    OrTooMany (read == most_lines) g ended report (report ≡ ends NoLine g ended)
AtLines {G} rules before read (cut front) g report =
    OrTooMany (read == most_lines) g (cut front) report (report ≡ ends (CutAt (before + read + 1)) g (cut front))
AtLines {G} rules before read long g report =
    OrTooMany (read == most_lines) g long report (report ≡ ends (LongAt (before + read + 1)) g long)

-- the report of a game; `before` lines of the input come before these
abbrev pub IsReport : {G : Type 0} → Rules G → ℕ → Lines → G → LineReport G → Type 0
IsReport {G} rules before lines g report =
    (turn : Turn G) × Comes rules g turn × Begins (AtLines rules before 0 lines) lines turn report
