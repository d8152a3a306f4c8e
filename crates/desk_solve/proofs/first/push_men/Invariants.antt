use Rattle.std.proofs.Common.{◌≡◌, suc}
use Rattle.desk_solve.specs.First.{Adds, Listed, ManText}
use Rattle.desk_solve.proofs.first.push_men.Given as goal

abbrev pub invariant-loop-index : goal.invariant-loop-index
invariant-loop-index l = record {
  kept : l.search ≡ l.initial.search;
  adds : Adds (Listed (λ before. ManText l.solved.winner l.solved.moves l.solved.position (suc before)) l.index) l.initial.text.items l.text.items;
}
