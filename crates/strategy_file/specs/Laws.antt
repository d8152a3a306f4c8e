-- The laws of the strategy files that are read.
use Rattle.std.specs.Prelude.{◌≡◌, ℕ, List, Result}
use Rattle.strategy_file.specs.Layout.{Refusal}
use Rattle.strategy_file.specs.StrategyFile.{Charts, File, charts_of}
use Rattle.mate_plan.specs.Claim.{Claim, IsClaim}
use Rattle.mate_plan.specs.SameClaim.{IsSameClaim}
use Rattle.strategy_file.specs.Claims.{claim_with}
use Rattle.strategy_file.specs.Fitting.{HasFile}
use Rattle.strategy_file.specs.declared.version.Version.{Version}

-- no bytes have two outcomes
abbrev pub OneOutcome : Type 0
OneOutcome = (bytes : List ℕ) (a b : Result Charts Refusal) → File bytes a → File bytes b → a ≡ b

-- the contents of a file are a claim
abbrev pub FilesAreClaims : Type 0
FilesAreClaims = (version : Version) (c : Claim) → HasFile version c → IsClaim c

-- the claim of the tables of a claim has the same sets
abbrev pub ReadIsSame : Type 0
ReadIsSame = (c : Claim) → IsSameClaim c (claim_with (charts_of c))
