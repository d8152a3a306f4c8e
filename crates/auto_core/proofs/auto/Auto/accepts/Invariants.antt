use Rattle.std.proofs.Common.{◌≡◌, ◌<◌, length, take, get_or}
use Rattle.std.specs.List.{All}
use Rattle.auto_core.specs.Automaton.{run, first_state, width}
use Rattle.auto_core.proofs.auto.Auto.accepts.Given as goal

abbrev pub invariant-loop-letter : goal.invariant-loop-letter
invariant-loop-letter l = record {
  so_far : l.state ≡ run l.self (first_state l.self (get_or l.word 0 0)) (take l.letter-index l.letter-items);
  within : l.state < length l.self.accept;
  letters : All (λ letter. letter < width l.self) l.letter-items;
}
