-- Tables that a row gives.
use Rattle.auto_core.specs.Rows.{AreTables}
use Rattle.automaton_trials.specs.declared.tables.Tables.{Tables}

-- they are valid tables of an automaton
abbrev pub AreOfAutomaton : Tables → Type 0
AreOfAutomaton tables = AreTables tables.tracks.items tables.first.items tables.next.items tables.accept.items
