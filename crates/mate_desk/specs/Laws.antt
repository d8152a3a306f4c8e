-- Laws of what a run does.
use Rattle.std.specs.Prelude.{◌≡◌, ◌≢◌, ◌↔◌, ◌⊎◌, ℕ, suc, ◌+◌, ◌-◌, ◌≤◌, List, [], ◌++◌, length, Option, Some, Ok, Err, codes, slice_get}
use Rattle.std.specs.FinMap as map
use Rattle.std.specs.Io.KnownBytes.{Consumes}
use Rattle.desk_base.specs.Faults.{HasRisen}
use Rattle.desk_base.specs.Files.{Files}
use Rattle.desk_base.specs.Lines.{Lines, full, lines_of}
use Rattle.game_rules.specs.Game.{Position, Least, Lost, SoundWithKings, Value}
use Rattle.game_rules.specs.declared.men.Ray.{Ray}
use Rattle.game_rules.specs.declared.men.Side.{Side}
use Rattle.auto_search.specs.declared.few.Few.TheVariants.{One}
use Rattle.move_choice.specs.Aims.{IsMover}
use Rattle.move_choice.specs.Along.{IsLeastOf}
use Rattle.move_choice.specs.Squares.{all_squares}
use Rattle.winner_session.specs.Firsts.{Firsts, FirstsInside, IsFirstLine}
use Rattle.winner_session.specs.declared.first_line.FirstLine.{FirstLine}
use Rattle.period_sets.specs.Laws.{IsTold as IsListed}
use Rattle.chess_text.specs.PositionText.{IsWritable, position_text}
use Rattle.winner_player.specs.WinnerRules.{Match, winner_rules}
use Rattle.play_loop.specs.LineReport.{IsReport, LineReport}
use Rattle.lin_formula.specs.Tree.{Tree}
use Rattle.formula_auto.specs.declared.errors.CompileError.TheVariants.{Over}
use Rattle.arith_desk.specs.Reading.{IsFormulaLine}
use Rattle.arith_desk.specs.Truth.{IsOver}
use Rattle.desk_formula.specs.Answer.{Answers}
use Rattle.desk_formula.specs.Arith.{step_line}
use Rattle.loser_session.specs.Defending.{DefenceMatch}
use Rattle.loser_player.specs.Laws.{IsSavedReport}
use Rattle.loser_player.specs.LoserRules.{loser_rules}
use Rattle.mate_plan.specs.Claim.{Claim}
use Rattle.winning_sets.specs.Reach.{Reach}
use Rattle.winning_sets.specs.declared.names.StepName.{StepName}
use Rattle.desk_crowd.specs.Crowd.{ExceedsPlan, crowd_texts, step_line as crowd_line}
use Rattle.desk_solve.specs.Decide.{IsExact}
use Rattle.desk_solve.specs.First.{Listed, line_of, ray_total}
use Rattle.desk_describe.specs.Describe.{IsDescribed, MenTell}
use Rattle.desk_describe.specs.Description.{ray_line}
use Rattle.desk_describe.specs.RayStep.{ray_step_line}
use Rattle.desk_describe.specs.declared.description.Description.{Description}
use Rattle.desk_describe.specs.declared.description.Description.TheVariants.{Repeats}
use Rattle.claim_plan.specs.CheckPlan.{check_plan}
use Rattle.mate_plan.specs.SameClaim.{IsSameClaim}
use Rattle.strategy_file.specs.Claims.{claim_with}
use Rattle.strategy_file.specs.StrategyFile.{Charts}
use Rattle.winning_sets.specs.Solve.{IsSolveError}
use Rattle.winning_sets.specs.declared.names.SolveError.TheVariants as solve_error
use Rattle.desk_files.specs.FileClaim.{IsReadAs, OfChecked}
use Rattle.desk_solve.specs.Least.{least_line}
use Rattle.desk_args.specs.Order.{Ordered, name_in}
use Rattle.desk_report.specs.Outcome.{FirstOver, Report, Seen, WriteFailed, done_with}
use Rattle.desk_verdict.specs.StepLines.{budget_line, over_budget}
use Rattle.desk_games.specs.Defend.{first_defence}
use Rattle.desk_games.specs.Play.{as_played, first_match}
use Rattle.mate_desk.specs.Report.{IsOfText, MayLackMemory, Reports, TakesMemory, UsesNoShelf}
use Rattle.desk_games.specs.Resume.{claimed_match}
use Rattle.mate_desk.specs.Run.{RunEnds}
use Rattle.desk_text.specs.Text.{IsTextOf, TextAt, refused, whole}
use Rattle.desk_text.specs.TextLaws.{text_problem}
use Rattle.desk_text.specs.declared.text.LineWhy.{LineWhy}
use Rattle.desk_verdict.specs.Verdict.{ExceedsAt, mate_line, no_mate_line}
use Rattle.desk_args.specs.declared.order.Order.{Order}
use Rattle.desk_args.specs.declared.order.Order.TheVariants as orders
use Rattle.desk_args.specs.declared.order.UsageWhy.{UsageWhy}
use Rattle.desk_text.specs.declared.problem.Problem.{Problem}
use Rattle.desk_report.specs.declared.status.Status.{Status}
use Rattle.desk_report.specs.declared.status.Status.TheVariants as is

-- The bytes that `decide` appended to `old`: one of the two lines, the first if and only if the winner mates within n
-- moves of his own, and the second if and only if he does not.
pub record WritesVerdict (n : ℕ) (p : Position) (winner : Side) (old new : List ℕ) : Type 0 where
  pub one : (new ≡ old ++ mate_line n) ⊎ (new ≡ old ++ no_mate_line n)
  pub mate : (new ≡ old ++ mate_line n) ↔ Value winner n p
  pub no_mate : (new ≡ old ++ no_mate_line n) ↔ (¬ Value winner n p)

-- The bytes that `least` appended to `old`: the least number of moves up to the limit within which the winner mates, or
-- that there is none.
pub record WritesLeast (limit : ℕ) (p : Position) (winner : Side) (old new : List ℕ) : Type 0 where
  pub found : Option ℕ
  pub least : Least winner p limit found
  pub written : new ≡ old ++ least_line limit found

-- A run that is done, with the text of the sound position and winner at the front of its source, and a sink that
-- exposes what was written.
pub record HasRun (words : List (List ℕ)) (order : Order) (p : Position) (winner : Side) (old new : Seen) (out : List ℕ) : Type 0 where
  pub behind : List ℕ
  pub ordered : Ordered words (Ok order)
  pub writable : IsWritable p
  pub sound : SoundWithKings p
  pub input : old.left ≡ Some (position_text p winner ++ behind)
  pub output : old.written ≡ Some out
  pub ends : RunEnds words is.Done old new

-- what a run of `decide` writes
abbrev pub DecideWrites : Type 0
DecideWrites =
    (words : List (List ℕ)) (n budget : ℕ) (p : Position) (winner : Side) (old new : Seen) (out : List ℕ)
    → HasRun words (orders.Decide n budget) p winner old new out
    → (all : List ℕ) × (new.written ≡ Some all) × WritesVerdict n p winner out all

-- what a run of `least` writes
abbrev pub LeastWrites : Type 0
LeastWrites =
    (words : List (List ℕ)) (limit budget : ℕ) (p : Position) (winner : Side) (old new : Seen) (out : List ℕ)
    → HasRun words (orders.Least limit budget) p winner old new out
    → (all : List ℕ) × (new.written ≡ Some all) × WritesLeast limit p winner out all

-- the status is that of a usage error if and only if the arguments are not a command
abbrev pub UsageExactly : Type 0
UsageExactly =
    (words : List (List ℕ)) (status : Status) (old new : Seen)
    → RunEnds words status old new
    → (status ≡ is.Usage) ↔ ((why : UsageWhy) × Ordered words (Err why))

-- The properties of a run whose memory ran out: its arguments and the bytes taken allow it; and if the source exposed
-- the text of a problem and the command reads a text, the problem's position is sound and the command allocates for it.
pub record LacksSome (words : List (List ℕ)) (old new : Seen) : Type 0 where
  pub taken : List ℕ
  pub consumed : Consumes old.left new.left taken
  pub lacks : MayLackMemory words taken
  pub of_text : (order : Order) (bytes : List ℕ) (problem : Problem) (rest : Lines) → Ordered words (Ok order)
      → IsOfText order → old.left ≡ Some bytes → TextAt bytes (whole problem rest)
      → SoundWithKings problem.position × TakesMemory order problem

-- memory runs out only then
abbrev pub MemoryLast : Type 0
MemoryLast = (words : List (List ℕ)) (old new : Seen) → RunEnds words is.Memory old new → LacksSome words old new

-- a run of a command that uses no file has no fault of the shelf
abbrev pub NoShelfFault : Type 0
NoShelfFault =
    (words : List (List ℕ)) (order : Order) (status : Status) (old new : Seen)
    → Ordered words (Ok order) → UsesNoShelf order → RunEnds words status old new → status ≢ is.ShelfFault

-- a status of a fault occurs only if the count of faults has risen
pub record FaultsAreCounted : Type 0 where
  pub read : (words : List (List ℕ)) (old new : Seen) → RunEnds words is.ReadFault old new
      → HasRisen old.read_faults new.read_faults
  pub write : (words : List (List ℕ)) (old new : Seen) → RunEnds words is.WriteFault old new → WriteFailed old new
  pub shelf : (words : List (List ℕ)) (old new : Seen) → RunEnds words is.ShelfFault old new
      → HasRisen old.shelf_faults new.shelf_faults

-- two reports of one input are equal
abbrev pub OneReport : Type 0
OneReport =
    (words : List (List ℕ)) (bytes : List ℕ) (files : Files) (one other : Report)
    → Reports words bytes files one
    → Reports words bytes files other
    → one ≡ other

-- each report of `decide` on the text of a sound position is exact
abbrev pub DecidesExactly : Type 0
DecidesExactly =
    (words : List (List ℕ)) (bytes : List ℕ) (files : Files) (n budget : ℕ) (problem : Problem) (rest : Lines)
    (report : Report)
    → Ordered words (Ok (orders.Decide n budget))
    → TextAt bytes (whole problem rest)
    → SoundWithKings problem.position
    → Reports words bytes files report
    → IsExact n budget problem report

-- What `crowd` reports of a sound crowd: the first step that exceeds the budget, or that the winner mates within n
-- moves of his own, if he does, or that he does not, if he does not.
abbrev pub DecidesCrowd : (n budget : ℕ) → Problem → Files → Report → Type 0
DecidesCrowd n budget problem files =
    FirstOver crowd_line (ExceedsPlan problem budget n)
    (λ report.
    (Value problem.winner n problem.position × (report ≡ done_with files (mate_line n)))
    ⊎ ((Value problem.winner n problem.position → ⊥) × (report ≡ done_with files (no_mate_line n)))) files

-- this is true of each report of `crowd` on the text of a sound crowd
abbrev pub CrowdDecides : Type 0
CrowdDecides =
    (words : List (List ℕ)) (bytes : List ℕ) (files : Files) (n budget : ℕ) (problem : Problem) (rest : Lines)
    (report : Report)
    → Ordered words (Ok (orders.Crowd n budget))
    → IsTextOf crowd_texts (lines_of bytes) (whole problem rest)
    → SoundWithKings problem.position
    → Reports words bytes files report
    → DecidesCrowd n budget problem files report

-- A run of `crowd` that is done, on bytes that begin with a crowd text, writes one of the two lines.
abbrev pub CrowdWrites : Type 0
CrowdWrites =
    (words : List (List ℕ)) (n budget : ℕ) (input : List ℕ) (problem : Problem) (rest : Lines) (old new : Seen) (out : List ℕ)
    → Ordered words (Ok (orders.Crowd n budget))
    → old.left ≡ Some input
    → IsTextOf crowd_texts (lines_of input) (whole problem rest)
    → old.written ≡ Some out
    → RunEnds words is.Done old new
    → (all : List ℕ) × (new.written ≡ Some all) × WritesVerdict n problem.position problem.winner out all

-- Two inputs begin with texts of the same position and winner: the first with a position text, the second with a crowd
-- text.
pub record AreOfOne (bytes input : List ℕ) : Type 0 where
  pub problem : Problem
  pub rest : Lines
  pub text : TextAt bytes (whole problem rest)
  pub crowd : Problem
  pub behind : Lines
  pub crowd_text : IsTextOf crowd_texts (lines_of input) (whole crowd behind)
  pub position : crowd.position ≡ problem.position
  pub winner : crowd.winner ≡ problem.winner

-- `decide` on the first input and `crowd` on the second have the same report, if both are done
abbrev pub CrowdAgrees : Type 0
CrowdAgrees =
    (words later : List (List ℕ)) (bytes input : List ℕ) (files : Files) (n budget other : ℕ) (one two : Report)
    → Ordered words (Ok (orders.Decide n budget))
    → Ordered later (Ok (orders.Crowd n other))
    → AreOfOne bytes input
    → Reports words bytes files one
    → Reports later input files two
    → one.status ≡ is.Done
    → two.status ≡ is.Done
    → one ≡ two

-- After the winner's move of this number, counted from 0, in a game from the problem: legal moves have led to the
-- position, the move is one of his n, and the loser is mated within the moves left.
pub record IsKeptGame (n : ℕ) (problem : Problem) (number : ℕ) (after : Match) : Type 0 where
  pub reached : Reach problem.position after.ply after.position
  pub few : number + 1 ≤ n
  pub lost : Lost problem.winner (n - (number + 1)) after.position

-- What `play` reports of a sound position: the first step that exceeds the budget; or that the winner does not mate
-- within n moves of his own; or, if he does, the game with the lines after the text, in which each of his moves is
-- legal and the loser is mated within the moves left after it.
abbrev pub PlaysGame : ℕ → ℕ → Problem → Lines → Files → Report → Type 0
PlaysGame n budget problem lines files =
    FirstOver budget_line (ExceedsAt problem budget n)
    (λ report.
    ((Value problem.winner n problem.position → ⊥) × (report ≡ done_with files (no_mate_line n)))
    ⊎ (Value problem.winner n problem.position
    × ((played : LineReport Match) × IsReport winner_rules problem.lines lines (first_match n problem) played
    × (report ≡ as_played files played)
    × ((number : ℕ) (after : Match) → slice_get played.games number ≡ Some after → IsKeptGame n problem number after))))
    files

-- this is true of each report of `play` on the text of a sound position
abbrev pub PlayKeeps : Type 0
PlayKeeps =
    (words : List (List ℕ)) (bytes : List ℕ) (files : Files) (n budget : ℕ) (problem : Problem) (rest : Lines)
    (report : Report)
    → Ordered words (Ok (orders.Play n budget))
    → TextAt bytes (whole problem rest)
    → SoundWithKings problem.position
    → Reports words bytes files report
    → PlaysGame n budget problem rest files report

-- What `defend` reports of a sound position: the first step that exceeds the budget; or that the winner mates within n
-- moves of his own; or, if he does not, the game with the lines after the text. After each move of the loser in it, and
-- at the end, the winner has made at most n moves and does not mate within the moves left, and the loser is not mated.
abbrev pub DefendsGame : ℕ → ℕ → Problem → Lines → Files → Report → Type 0
DefendsGame n budget problem lines files =
    FirstOver budget_line (ExceedsAt problem budget n)
    (λ report.
    (Value problem.winner n problem.position × (report ≡ done_with files (mate_line n)))
    ⊎ ((Value problem.winner n problem.position → ⊥)
    × ((played : LineReport DefenceMatch)
    × IsReport loser_rules problem.lines lines (first_defence n problem) played
    × (report ≡ as_played files played)
    × IsSavedReport (first_defence n problem) played)))
    files

-- this is true of each report of `defend` on the text of a sound position
abbrev pub Defends : Type 0
Defends =
    (words : List (List ℕ)) (bytes : List ℕ) (files : Files) (n budget : ℕ) (problem : Problem) (rest : Lines)
    (report : Report)
    → Ordered words (Ok (orders.Defend n budget))
    → TextAt bytes (whole problem rest)
    → SoundWithKings problem.position
    → Reports words bytes files report
    → DefendsGame n budget problem rest files report

-- After the winner's move of this number, counted from 0, in a game from the claim: legal moves have led to the
-- position, the move is one of the claim's, and the loser is mated within the moves left.
pub record IsLostGame (c : Claim) (number : ℕ) (after : Match) : Type 0 where
  pub reached : Reach c.position after.ply after.position
  pub few : number + 1 ≤ c.moves
  pub lost : Lost c.winner (c.moves - (number + 1)) after.position

-- What `resume` reports of the claim of a file that keeps all rules: its winner mates within its moves, and in the game
-- with the lines each of his moves is legal and the loser is mated within the moves left after it.
abbrev pub ResumesGame : Lines → Files → Claim → Report → Type 0
ResumesGame lines files c report =
    Value c.winner c.moves c.position
    × ((played : LineReport Match) × IsReport winner_rules 0 lines (claimed_match c) played × (report ≡ as_played files played)
    × ((number : ℕ) (after : Match) → slice_get played.games number ≡ Some after → IsLostGame c number after))

-- this is true of each report of `resume`, no matter who made the file
abbrev pub ResumeKeeps : Type 0
ResumeKeeps =
    (words : List (List ℕ)) (bytes : List ℕ) (files : Files) (budget : ℕ) (name : List ℕ) (report : Report)
    → Ordered words (Ok (orders.Resume budget))
    → name_in (orders.Resume budget) words ≡ Some name
    → Reports words bytes files report
    → OfChecked (ResumesGame (lines_of bytes) files) budget name files report

-- A run of `keep` is done and wrote that the winner mates within n moves of his own. Its sink and its shelf expose
-- their contents; these are the files after it.
pub record HasKept (words : List (List ℕ)) (n budget : ℕ) (name : List ℕ) (files : Files) (old new : Seen) : Type
    0 where
  pub ordered : Ordered words (Ok (orders.Keep n budget))
  pub named : name_in (orders.Keep n budget) words ≡ Some name
  pub ends : RunEnds words is.Done old new
  pub out : List ℕ
  pub written_before : old.written ≡ Some out
  pub written : new.written ≡ Some (out ++ mate_line n)
  pub before : Files
  pub files_before : old.files ≡ Some before
  pub files_after : new.files ≡ Some files

-- The file of the name has a claim of n moves, and the report names the first step that exceeds the budget in the plan
-- that checks it.
pub record NamesCheckStep (n budget : ℕ) (name : List ℕ) (files : Files) (report : Report) : Type 0 where
  pub charts : Charts
  pub read : IsReadAs name files (Ok charts)
  pub moves : charts.moves ≡ n
  pub step : StepName
  pub exceeds : IsSolveError (check_plan (claim_with charts)) n budget (solve_error.Over step)
  pub named : report ≡ over_budget files step

-- Afterwards, for a store whose file of the name is still the same, each report of `check` of the name is that the
-- claim mates within n moves, or the first step that exceeds its budget.
abbrev pub CheckedAfterKeep : Type 0
CheckedAfterKeep =
    (words later : List (List ℕ)) (n budget other : ℕ) (name : List ℕ) (kept files : Files) (old new : Seen)
    (bytes : List ℕ) (report : Report)
    → HasKept words n budget name kept old new
    → map.get files name ≡ map.get kept name
    → Ordered later (Ok (orders.Check other))
    → name_in (orders.Check other) later ≡ Some name
    → Reports later bytes files report
    → (report ≡ done_with files (mate_line n)) ⊎ NamesCheckStep n other name files report

-- A run of `migrate` between two names is done. Its shelf exposes the files before and after it.
pub record HasMigrated (words : List (List ℕ)) (from to : List ℕ) (before after : Files) (old new : Seen) : Type 0 where
  pub ordered : Ordered words (Ok orders.Migrate)
  pub from_named : slice_get words 1 ≡ Some from
  pub to_named : slice_get words 2 ≡ Some to
  pub ends : RunEnds words is.Done old new
  pub files_before : old.files ≡ Some before
  pub files_after : new.files ≡ Some after

-- The second file is read as a claim of the same sets as the first was, and each other file is unchanged.
pub record IsCarried (from to : List ℕ) (before after : Files) : Type 0 where
  pub charts : Charts
  pub read : IsReadAs from before (Ok charts)
  pub migrated : Charts
  pub read_again : IsReadAs to after (Ok migrated)
  pub same : IsSameClaim (claim_with charts) (claim_with migrated)
  pub others : (name : List ℕ) → name ≢ to → map.get after name ≡ map.get before name

-- this is true of each run of `migrate` that is done
abbrev pub MigrateCarries : Type 0
MigrateCarries =
    (words : List (List ℕ)) (from to : List ℕ) (before after : Files) (old new : Seen)
    → HasMigrated words from to before after old new → IsCarried from to before after

-- What `arith` reports of a formula: the first of its steps that exceeds the budget, or a line with the answer.
abbrev pub ReportsAnswer : (budget : ℕ) → Tree → Files → Report → Type 0
ReportsAnswer budget f files =
    FirstOver step_line (λ step. IsOver f budget (Over step))
    (λ report. (line : List ℕ) × Answers f line × (report ≡ done_with files line)) files

-- this is true of each report of `arith` on a line that is a formula, whatever follows it
abbrev pub AnswersExactly : Type 0
AnswersExactly =
    (words : List (List ℕ)) (bytes : List ℕ) (files : Files) (budget : ℕ) (line : List ℕ) (rest : Lines) (f : Tree)
    (report : Report)
    → Ordered words (Ok (orders.Arith budget))
    → lines_of bytes ≡ full line rest
    → IsFormulaLine line f
    → Reports words bytes files report
    → ReportsAnswer budget f files report

-- The arguments are the command, and the source exposes the text of the sound position and winner, and what follows it.
pub record IsTold (words : List (List ℕ)) (order : Order) (p : Position) (winner : Side) (old : Seen) : Type 0 where
  pub behind : List ℕ
  pub ordered : Ordered words (Ok order)
  pub writable : IsWritable p
  pub sound : SoundWithKings p
  pub input : old.left ≡ Some (position_text p winner ++ behind)

-- The bytes `out` are followed by this text and this fault line: the whole of them, unless the sink failed.
pub record IsWritten (text fault out all : List ℕ) (failed : Type 0) : Type 0 where
  pub missing : List ℕ
  pub front : all ++ missing ≡ out ++ (text ++ fault)
  pub whole : (missing ≡ []) ⊎ failed

-- What a run that plays a game wrote of a position and a winner, if these bytes follow their text: the report, in the
-- sense of `Plays`, of the game with the lines of these bytes.
pub record WritesGame (Plays : Problem → Lines → Files → Report → Type 0) (p : Position) (winner : Side)
    (behind : List ℕ) (old new : Seen) (out : List ℕ) : Type 0 where
  pub all : List ℕ
  pub told : new.written ≡ Some all
  pub files : Files
  pub report : Report
  pub plays : Plays (text_problem p winner) (lines_of behind) files report
  pub writes : IsWritten report.text report.fault out all (WriteFailed old new)

-- What such a run played if its source failed: the bytes taken are an incomplete text, and nothing is written of it; or
-- they are the text of the position and some lines, and the game is that with these lines.
abbrev pub PlaysTaken : (Plays : Problem → Lines → Files → Report → Type 0) → Problem → (taken : List ℕ) → Files → Report → Type 0
PlaysTaken Plays problem taken files report =
    ((number : ℕ) × (why : LineWhy) × TextAt taken (refused number why) × (report.text ≡ []))
    ⊎ ((lines : Lines) × TextAt taken (whole problem lines) × Plays problem lines files report)

-- What it wrote of such an input: the text of that game, and that the source failed.
pub record WritesTaken (Plays : Problem → Lines → Files → Report → Type 0) (p : Position) (winner : Side)
    (input : List ℕ) (old new : Seen) (out : List ℕ) : Type 0 where
  pub taken : List ℕ
  pub rest : List ℕ
  pub input_is : input ≡ taken ++ rest
  pub all : List ℕ
  pub told : new.written ≡ Some all
  pub files : Files
  pub report : Report
  pub plays : PlaysTaken Plays (text_problem p winner) taken files report
  pub writes : IsWritten report.text (codes "read fault\n") out all (WriteFailed old new)

-- This is true of each run of a command that plays a game and does not run out of memory.
pub record GameWrites (order : (n budget : ℕ) → Order)
    (Plays : (n budget : ℕ) → Problem → Lines → Files → Report → Type 0) : Type 0 where
  pub game : (words : List (List ℕ)) (n budget : ℕ) (p : Position) (winner : Side) (status : Status) (old new : Seen) (out : List ℕ)
      → (told : IsTold words (order n budget) p winner old)
      → old.written ≡ Some out → status ≢ is.ReadFault → status ≢ is.Memory
      → RunEnds words status old new
      → WritesGame (Plays n budget) p winner told.behind old new out
  pub taken : (words : List (List ℕ)) (n budget : ℕ) (p : Position) (winner : Side) (old new : Seen) (out : List ℕ)
      → (told : IsTold words (order n budget) p winner old)
      → old.written ≡ Some out
      → RunEnds words is.ReadFault old new
      → WritesTaken (Plays n budget) p winner (position_text p winner ++ told.behind) old new out

-- A run of `play` writes the game with the lines after the text, in which each move of the winner is legal and the
-- loser is mated within the moves left after it; or that the winner does not mate; or the first step that exceeds the
-- budget.
abbrev pub PlayWrites : Type 0
PlayWrites = GameWrites (λ n budget. orders.Play n budget) PlaysGame

-- A run of `defend` writes the game with the lines after the text, in which the loser is not mated; or that the winner
-- mates; or the first step that exceeds the budget.
abbrev pub DefendWrites : Type 0
DefendWrites = GameWrites (λ n budget. orders.Defend n budget) DefendsGame

-- why a run of `decide` ended so
abbrev pub Causes : (n budget : ℕ) → Problem → Status → Seen → Seen → Type 0
Causes n budget problem is.Done old new = Unit {0}
Causes n budget problem is.Budget old new = (step : StepName) × ExceedsAt problem budget n step
Causes n budget problem is.ReadFault old new = HasRisen old.read_faults new.read_faults
Causes n budget problem is.WriteFault old new = WriteFailed old new
Causes n budget problem is.Memory old new = TakesMemory (orders.Decide n budget) problem
Causes n budget problem status old new = ⊥

-- A run of `decide` on the text of a sound position is done; or over budget, if a step exceeds it; or its source or its
-- sink failed and counted it; or memory ran out, if it allocates. It does not end otherwise.
abbrev pub DecideEnds : Type 0
DecideEnds =
    (words : List (List ℕ)) (n budget : ℕ) (p : Position) (winner : Side) (status : Status) (old new : Seen)
    → IsTold words (orders.Decide n budget) p winner old
    → RunEnds words status old new
    → Causes n budget (text_problem p winner) status old new

-- The winner has a move left, it is his turn, the man has a legal move by this distance along his ray of this number,
-- and after it the winner mates within the moves left, whatever the replies on the whole board.
pub record MatesBy (winner : Side) (n : ℕ) (p : Position) (man ray distance : ℕ) : Type 0 where
  pub some : 1 ≤ n
  pub turn : p.turn ≡ winner
  pub first : Firsts winner n p man ray distance

-- the same, to a square whose coordinates are numbers of 64 bits
pub record MatesInside (winner : Side) (n : ℕ) (p : Position) (man ray distance : ℕ) : Type 0 where
  pub some : 1 ≤ n
  pub turn : p.turn ≡ winner
  pub first : FirstsInside all_squares winner n p man ray distance

-- no move along this ray mates in time
abbrev pub MatesNowhere : Side → ℕ → Position → (man ray : ℕ) → Type 0
MatesNowhere winner n p man ray = (distance : ℕ) → ¬ MatesBy winner n p man ray distance

-- the texts of all rays of each man, in order, and a last line
abbrev pub IsOfRays : (Of : (man ray : ℕ) → List ℕ → Type 0) → Position → List ℕ → Type 0
IsOfRays Of p all =
    (text : List ℕ) × Listed (λ before. Listed (Of (suc before)) (ray_total p (suc before))) (length p.men) text
    × (all ≡ text ++ codes "end\n")

-- if the description lists distances, these are the ones with the property
abbrev pub ListsOnly : (ℕ → Type 0) → Description → Type 0
ListsOnly Mates (Repeats periodic) = (distance : ℕ) → 1 ≤ distance → IsListed periodic distance ↔ Mates distance
ListsOnly Mates description = Unit {0}

-- The line of a ray in what `describe` writes. If it lists distances, they are those by which a move along the ray
-- mates in time.
pub record LineDescribes (budget : ℕ) (winner : Side) (n : ℕ) (p : Position) (man ray : ℕ) (text : List ℕ) : Type
    0 where
  pub step : Ray
  pub mover : IsMover p man ray step
  pub description : Description
  pub described : IsDescribed budget winner n p man ray description
  pub lists : ListsOnly (MatesBy winner n p man ray) description
  pub line : text ≡ ray_line man step description

-- what `describe` writes of a ray: nothing if no move along it mates in time, and otherwise its line
abbrev pub DescribesRay : (budget : ℕ) → Side → ℕ → Position → (man ray : ℕ) → List ℕ → Type 0
DescribesRay budget winner n p man ray text =
    (MatesNowhere winner n p man ray × (text ≡ []))
    ⊎ ((¬ MatesNowhere winner n p man ray) × LineDescribes budget winner n p man ray text)

-- What `describe` reports of a sound position: the first step that exceeds the budget, of the plan or, if none does
-- there, of the rays; or the lines of the rays.
abbrev pub DescribesMoves : (n budget : ℕ) → Problem → Files → Report → Type 0
DescribesMoves n budget problem files =
    FirstOver budget_line (ExceedsAt problem budget n)
    (FirstOver ray_step_line (λ step. MenTell budget problem.winner n problem.position (Err step))
    (λ report.
    (text : List ℕ) × IsOfRays (DescribesRay budget problem.winner n problem.position) problem.position text
    × (report ≡ done_with files text)) files) files

-- this is true of each report of `describe` on the text of a sound position
abbrev pub DescribesExactly : Type 0
DescribesExactly =
    (words : List (List ℕ)) (bytes : List ℕ) (files : Files) (n budget : ℕ) (problem : Problem) (rest : Lines)
    (report : Report)
    → Ordered words (Ok (orders.Describe n budget))
    → TextAt bytes (whole problem rest)
    → SoundWithKings problem.position
    → Reports words bytes files report
    → DescribesMoves n budget problem files report

-- The line of a ray in what `first` writes. The least distance in it is the least one by which a move along the ray, to
-- a square of 64 bits, mates in time, if there is one. The line ends in `only` if and only if exactly one move along
-- the ray does.
pub record LineSaysFirst (winner : Side) (n : ℕ) (p : Position) (man ray : ℕ) (line : FirstLine) : Type 0 where
  pub of_ray : IsFirstLine all_squares winner n p man ray line
  pub some : (distance : ℕ) × MatesBy winner n p man ray distance
  pub least : (distance : ℕ) → (line.least ≡ Some distance) ↔ IsLeastOf (MatesInside winner n p man ray) distance
  pub only :
      (line.few ≡ One)
      ↔ ((distance : ℕ) × MatesBy winner n p man ray distance
      × ((other : ℕ) → MatesBy winner n p man ray other → other ≡ distance))

-- what `first` writes of a ray: nothing if no move along it mates in time, and otherwise its line
abbrev pub WritesRay : Side → ℕ → Position → (man ray : ℕ) → List ℕ → Type 0
WritesRay winner n p man ray text =
    (MatesNowhere winner n p man ray × (text ≡ []))
    ⊎ ((line : FirstLine) × LineSaysFirst winner n p man ray line × (text ≡ line_of line))

-- The bytes that `first` appended to `old`: the lines of the rays.
pub record WritesFirst (n : ℕ) (p : Position) (winner : Side) (old new : List ℕ) : Type 0 where
  pub text : List ℕ
  pub rays : IsOfRays (WritesRay winner n p) p text
  pub written : new ≡ old ++ text

-- what a run of `first` writes
abbrev pub FirstWrites : Type 0
FirstWrites =
    (words : List (List ℕ)) (n budget : ℕ) (p : Position) (winner : Side) (old new : Seen) (out : List ℕ)
    → HasRun words (orders.First n budget) p winner old new out
    → (all : List ℕ) × (new.written ≡ Some all) × WritesFirst n p winner out all
