use Rattle.std.proofs.Common.{◌≡◌}
use Rattle.desk_solve.specs.First.{Adds, Listed, RayText}
use Rattle.desk_solve.proofs.first.push_man.Given as goal

abbrev pub invariant-loop-ray : goal.invariant-loop-ray
invariant-loop-ray l = record {
  kept : l.search ≡ l.initial.search;
  adds : Adds (Listed (RayText l.solved.winner l.solved.moves l.solved.position l.man) l.ray) l.initial.text.items l.text.items;
}
