use Rattle.std.proofs.Common.{◌≡◌, suc, Ok}
use Rattle.desk_solve.specs.First.{Adds}
use Rattle.desk_describe.specs.Describe.{AllTell, ManTells}
use Rattle.desk_describe.proofs.describe.push_men.Given as goal

abbrev pub invariant-loop-index : goal.invariant-loop-index
invariant-loop-index l = record {
  kept : l.search ≡ l.initial.search;
  adds : Adds (λ added. AllTell (λ before. ManTells l.of.budget l.of.solved.now.winner l.of.solved.now.moves l.of.solved.now.position (suc before)) l.index (Ok added)) l.initial.text.items l.text.items;
}
