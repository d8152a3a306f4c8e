-- Claims in memory as data.
use Rattle.std.specs.Prelude.{List, Result, map}
use Rattle.mate_plan.specs.Claim.{Claim, ClaimedSet}
use Rattle.strategy_file.specs.declared.claim.Claim.{Claim as ClaimHere}
use Rattle.strategy_file.specs.declared.claim.ClaimedSet.{ClaimedSet as SetHere}
use Rattle.strategy_file.specs.declared.refusal.FileError.{FileError}
use Rattle.strategy_file.specs.ClaimedAutos.{automaton_in}
use Rattle.strategy_file.specs.Layout.{Refusal}
use Rattle.strategy_file.specs.Reading.{Tells}
use Rattle.strategy_file.specs.StrategyFile.{Chart, Charts, chart_of, charts_of}
use Rattle.strategy_file.specs.Tables.{automaton_of}

abbrev pub set_of : SetHere → ClaimedSet
set_of s = record { ply = s.ply; mask = s.mask; set = automaton_in s.set }

abbrev pub claim_of : ClaimHere → Claim
claim_of c = record { position = c.position; winner = c.winner; moves = c.moves; sets = map set_of c.sets.items }

-- unless memory runs out, the reader's result is the claim of the tables that the bytes have
abbrev pub TellsClaim : (Result Charts Refusal → Type 0) → Result ClaimHere FileError → Type 0
TellsClaim Comes result = Tells (λ c. charts_of (claim_of c)) Comes result

-- the tables of some sets
abbrev pub charts_in : List SetHere → List Chart
charts_in sets = map (λ s. chart_of (set_of s)) sets

-- the claimed set of a table
abbrev pub set_with : Chart → ClaimedSet
set_with c =
    record { ply = c.ply; mask = c.mask; set = automaton_of c.tracks c.table.first c.table.next c.table.accept }

-- the claim of these tables
abbrev pub claim_with : Charts → Claim
claim_with c = record { position = c.position; winner = c.winner; moves = c.moves; sets = map set_with c.sets }
