-- The nodes of an automaton's rows.
use Rattle.std.proofs.Common.{arith}
use Rattle.auto_core.specs.Automaton.{Automaton}
use Rattle.auto_core.specs.Rows.{IsOverNodes}
use Rattle.auto_core.proofs.NodeMaps.{row-map}
use Rattle.auto_predecessors.specs.RowNodes.{AreRowNodes}

pub AreRowNodes-own : {a : Automaton} → IsOverNodes a → AreRowNodes a a.row_nodes
AreRowNodes-own {a} over = record {
  size = over.nodes.rows_size;
  known = over.nodes.rows_known;
  narrow = over.nodes.rows_narrow;
  within = over.nodes.rows_within;
  leads = λ state letter known below. row-map a over state letter (omega (arith, known, over.nodes.rows_size)) below;
}
