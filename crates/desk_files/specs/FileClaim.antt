-- The result of reading the file of a name: a claim that was checked within a budget, or the first reason why there is
-- none.
use Rattle.std.specs.Prelude.{◌≡◌, ◌⊎◌, ℕ, ◌<◌, ◌≤◌, List, [], Option, Some, None, Result, Ok, Err, IfSome, Vec, length, codes}
use Rattle.std.specs.FinMap as map
use Rattle.std.specs.declared.alloc.Global.{Global}
use Rattle.claim_check.specs.Check.{IsChecked}
use Rattle.claim_plan.specs.CheckPlan.{check_plan}
use Rattle.mate_plan.specs.SameClaim.{IsSameClaim}
use Rattle.claim_plan.specs.declared.names.RuleAt.{RuleAt}
use Rattle.desk_base.specs.Files.{Files}
use Rattle.mate_plan.specs.Claim.{Claim, IsClaim}
use Rattle.set_plan.specs.Outcome as plan
use Rattle.strategy_file.specs.Claims.{claim_with, claim_of as file_claim}
use Rattle.strategy_file.specs.Fitting.{HasFileOf}
use Rattle.strategy_file.specs.Layout.{Refusal}
use Rattle.strategy_file.specs.Layout as layout
use Rattle.strategy_file.specs.StrategyFile.{Charts, File, charts_of}
use Rattle.strategy_writer.specs.Written.{most_bytes}
use Rattle.strategy_file.specs.declared.claim.Claim.{Claim as ClaimHere}
use Rattle.winning_sets.specs.Claimed.{claim_of}
use Rattle.winning_sets.specs.Solve.{IsSolveError, Solution}
use Rattle.winning_sets.specs.declared.names.SolveError.TheVariants as solve_error
use Rattle.winning_sets.specs.declared.origin.Origin.TheVariants as origin
use Rattle.desk_report.specs.Outcome.{FirstOver, Report}
use Rattle.desk_verdict.specs.StepLines.{budget_line}
use Rattle.desk_files.specs.FileLines.{file_line, file_refused, not_kept_line}
use Rattle.desk_files.specs.declared.file_claim.NoClaim.{NoClaim}
use Rattle.desk_files.specs.declared.file_claim.NoClaim.TheVariants.{Fault, Missing, TooLong, Cut, Byte, Extra, NotKept, Over, Memory}
use Rattle.desk_report.specs.declared.status.Status.{Status}
use Rattle.desk_report.specs.declared.status.Status.TheVariants as is

-- the report of the contents of a file: why the bytes are not a file, or the report of their claim
abbrev pub OfOutcome : (Claim → Report → Type 0) → Files → Result Charts Refusal → Report → Type 0
OfOutcome reports files (Err refusal) report = report ≡ file_refused files (file_line refusal)
OfOutcome reports files (Ok charts) report = reports (claim_with charts) report

-- the report of the bytes of a file: they are too many, or the report of their contents
abbrev pub OfBytes : (Claim → Report → Type 0) → Files → List ℕ → Report → Type 0
OfBytes reports files bytes report =
    ((most_bytes < length bytes) × (report ≡ file_refused files (codes "file too long\n")))
    ⊎ ((length bytes ≤ most_bytes)
    × ((outcome : Result Charts Refusal) × File bytes outcome × OfOutcome reports files outcome report))

-- the report of a file: there is none, or the report of its bytes
abbrev pub OfFound : (Claim → Report → Type 0) → Files → Option (List ℕ) → Report → Type 0
OfFound reports files None report = report ≡ file_refused files (codes "file missing\n")
OfFound reports files (Some bytes) report = OfBytes reports files bytes report

-- the report of the file of a name
abbrev pub OfFile : (Claim → Report → Type 0) → (name : List ℕ) → Files → Report → Type 0
OfFile reports name files report = OfFound reports files (map.get files name) report

-- the report of a claim that is checked: the first rule that fails, or what `reports` says
abbrev pub OfRules : (Claim → Report → Type 0) → (budget : ℕ) → Files → Claim → Report → Type 0
OfRules reports budget files c report =
    ((failed : RuleAt) × plan.Ends (check_plan c) budget (Some failed)
    × (report ≡ file_refused files (not_kept_line failed)))
    ⊎ (plan.Ends (check_plan c) budget None × reports c report)

-- this, or the first step that exceeds the budget in the plan that checks the claim
abbrev pub OfClaim : (Claim → Report → Type 0) → (budget : ℕ) → Files → Claim → Report → Type 0
OfClaim reports budget files c =
    FirstOver budget_line (λ step. IsSolveError (check_plan c) c.moves budget (solve_error.Over step))
    (OfRules reports budget files c) files

-- the report of the file of a name whose claim is checked
abbrev pub OfChecked : (Claim → Report → Type 0) → (budget : ℕ) → (name : List ℕ) → Files → Report → Type 0
OfChecked reports budget name files = OfFile (OfClaim reports budget files) name files

-- the file of this name is not too long, and its bytes have this outcome
pub record IsReadAs (name : List ℕ) (files : Files) (outcome : Result Charts Refusal) : Type 0 where
  pub bytes : List ℕ
  pub found : map.get files name ≡ Some bytes
  pub short : length bytes ≤ most_bytes
  pub file : File bytes outcome

-- the solution has the sets of the file's claim, all rules are true of it, and no step that checks it exceeds the
-- budget
pub record HasFileClaim (budget : ℕ) (name : List ℕ) (files : Files) (s : Solution) : Type 0 where
  pub charts : Charts
  pub read : IsReadAs name files (Ok charts)
  pub is_claim : IsClaim (claim_with charts)
  pub keeps_rules : plan.Ends (check_plan (claim_with charts)) budget None
  pub origin : s.origin ≡ origin.Claim
  pub same : IsSameClaim (claim_with charts) (claim_of s)

-- why the file of the name gives no unchecked claim, given the files
abbrev pub LacksFile : (name : List ℕ) → Files → NoClaim → Type 0
LacksFile name files Fault = Unit {0}
LacksFile name files Memory = Unit {0}
LacksFile name files Missing = map.get files name ≡ None
LacksFile name files TooLong = (bytes : List ℕ) × (map.get files name ≡ Some bytes) × (most_bytes < length bytes)
LacksFile name files (Cut at) = IsReadAs name files (Err (layout.Cut at))
LacksFile name files (Byte at why) = IsReadAs name files (Err (layout.Byte at why))
LacksFile name files (Extra at) = IsReadAs name files (Err (layout.Extra at))
LacksFile name files (NotKept failed) = ⊥
LacksFile name files (Over step) = ⊥

-- the claim of the file of the name, or why there is none
abbrev pub ReadsFile : (name : List ℕ) → Files → Result ClaimHere NoClaim → Type 0
ReadsFile name files (Ok c) = IsReadAs name files (Ok (charts_of (file_claim c))) × HasFileOf (file_claim c)
ReadsFile name files (Err why) = LacksFile name files why

-- why the file of the name gives no checked claim
abbrev pub LacksClaim : (budget : ℕ) → (name : List ℕ) → Files → NoClaim → Type 0
LacksClaim budget name files (NotKept failed) =
    (charts : Charts) × IsReadAs name files (Ok charts)
    × plan.Ends (check_plan (claim_with charts)) budget (Some failed)
LacksClaim budget name files (Over step) =
    (charts : Charts) × IsReadAs name files (Ok charts)
    × IsSolveError (check_plan (claim_with charts)) charts.moves budget (solve_error.Over step)
LacksClaim budget name files why = LacksFile name files why

-- the bytes of the file of the name, or why there are none
abbrev pub IsFetched : (name : List ℕ) → Files → Result (Vec ℕ Global) NoClaim → Type 0
IsFetched name files (Ok bytes) = (map.get files name ≡ Some bytes.items) × (length bytes.items ≤ most_bytes)
IsFetched name files (Err Fault) = Unit {0}
IsFetched name files (Err Missing) = map.get files name ≡ None
IsFetched name files (Err TooLong) = (bytes : List ℕ) × (map.get files name ≡ Some bytes) × (most_bytes < length bytes)
IsFetched name files (Err Memory) = Unit {0}
IsFetched name files (Err _) = ⊥

-- the claim of the bytes, or why there is none
abbrev pub TellsRead : List ℕ → Result ClaimHere NoClaim → Type 0
TellsRead bytes (Ok c) = File bytes (Ok (charts_of (file_claim c))) × HasFileOf (file_claim c)
TellsRead bytes (Err (Cut at)) = File bytes (Err (layout.Cut at))
TellsRead bytes (Err (Byte at why)) = File bytes (Err (layout.Byte at why))
TellsRead bytes (Err (Extra at)) = File bytes (Err (layout.Extra at))
TellsRead bytes (Err Memory) = Unit {0}
TellsRead bytes (Err _) = ⊥

-- a solution with the sets of the claim, if all rules are true of it, or why there is none
abbrev pub TellsChecked : Claim → (budget : ℕ) → Result Solution NoClaim → Type 0
TellsChecked c budget (Ok s) = IsChecked c s × plan.Ends (check_plan c) budget None
TellsChecked c budget (Err (NotKept failed)) = plan.Ends (check_plan c) budget (Some failed)
TellsChecked c budget (Err (Over step)) = IsSolveError (check_plan c) c.moves budget (solve_error.Over step)
TellsChecked c budget (Err Memory) = Unit {0}
TellsChecked c budget (Err _) = ⊥

-- the checked claim of the file of the name, or why there is none
abbrev pub Fetches : (budget : ℕ) → (name : List ℕ) → Files → Result Solution NoClaim → Type 0
Fetches budget name files (Ok s) = HasFileClaim budget name files s
Fetches budget name files (Err why) = LacksClaim budget name files why

-- for some files, which are the shelf's if it exposes them
abbrev pub OnFiles : Option Files → (Files → Type 0) → Type 0
OnFiles told Of = (files : Files) × IfSome told (λ known. known ≡ files) × Of files

-- the fault line that says why there is no claim
abbrev pub no_claim_line : NoClaim → List ℕ
no_claim_line Fault = codes "shelf fault\n"
no_claim_line Missing = codes "file missing\n"
no_claim_line TooLong = codes "file too long\n"
no_claim_line (Cut at) = file_line (layout.Cut at)
no_claim_line (Byte at why) = file_line (layout.Byte at why)
no_claim_line (Extra at) = file_line (layout.Extra at)
no_claim_line (NotKept failed) = not_kept_line failed
no_claim_line (Over step) = budget_line step
no_claim_line Memory = codes "memory\n"

-- the status of a run without a claim, for this reason
abbrev pub no_claim_status : NoClaim → Status
no_claim_status Fault = is.ShelfFault
no_claim_status Missing = is.File
no_claim_status TooLong = is.File
no_claim_status (Cut at) = is.File
no_claim_status (Byte at why) = is.File
no_claim_status (Extra at) = is.File
no_claim_status (NotKept failed) = is.File
no_claim_status (Over step) = is.Budget
no_claim_status Memory = is.Memory

-- when the shelf may fail while it fetches a file: nothing has been read, and no file is being stored
pub record MissesFetch (taken : List ℕ) (keeping : Option (List ℕ)) : Type 0 where
  pub none : taken ≡ []
  pub fetching : keeping ≡ None
