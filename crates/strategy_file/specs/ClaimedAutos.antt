-- Automata as they are stored in a file.
use Rattle.auto_core.specs.Automaton.{Automaton}
use Rattle.strategy_file.specs.declared.claimed.ClaimedAuto.{ClaimedAuto}
use Rattle.strategy_file.specs.declared.claimed.ClaimedAuto.TheVariants.{Dense, Shared}

abbrev pub automaton_in : ClaimedAuto → Automaton
automaton_in (Dense set) = set
automaton_in (Shared set) = set
