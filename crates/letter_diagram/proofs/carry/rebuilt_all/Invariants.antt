use Rattle.std.proofs.Common.{take}
use Rattle.letter_diagram.specs.Diagram.{Grows}
use Rattle.letter_diagram.specs.Carried.{Carries, RemembersCarried}
use Rattle.letter_diagram.specs.Listed.{EachAnswers}
use Rattle.letter_diagram.proofs.carry.rebuilt_all.Given as goal

abbrev pub invariant-loop-node : goal.invariant-loop-node
invariant-loop-node g l = record {
  grows : Grows l.initial.to l.to;
  remembered : RemembersCarried (g.C.Rebuild.carrier l.carry) l.to (g.M.NodeCache.answers l.memo);
  answered : EachAnswers (Carries (g.C.Rebuild.carrier l.carry) l.to) (take l.node-index l.nodes) l.made.items;
}
