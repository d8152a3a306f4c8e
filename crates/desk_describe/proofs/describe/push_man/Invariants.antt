use Rattle.std.proofs.Common.{◌≡◌, Ok}
use Rattle.desk_solve.specs.First.{Adds}
use Rattle.desk_describe.specs.Describe.{AllTell, RayTells}
use Rattle.desk_describe.proofs.describe.push_man.Given as goal

abbrev pub invariant-loop-ray : goal.invariant-loop-ray
invariant-loop-ray l = record {
  kept : l.search ≡ l.initial.search;
  adds : Adds (λ added. AllTell (RayTells l.of.budget l.of.solved.now.winner l.of.solved.now.moves l.of.solved.now.position l.man) l.ray (Ok added)) l.initial.text.items l.text.items;
}
