use Rattle.std.proofs.Common.{ℕ, ◌+◌, ◌-◌, ◌*◌}
use Rattle.auto_merge.specs.Graph.{Graph}
use Rattle.auto_merge.proofs.visits.+key_of.Given as goal

-- how much a spot can cost where so many places may be visited yet: a spot looks at ascending tracks below 20
abbrev cost : {Spot : Type 0} → Graph Spot → ℕ → Spot → ℕ
cost g depth spot = 120 * depth + 5 * (20 - g.top spot)

abbrev pub decreases-key_of : goal.decreases-key_of
decreases-key_of g l = cost (g.R.RowSource.graph l.visit.now.rows.now) l.visit.now.depth l.spot + 8

abbrev pub decreases-made_key : goal.decreases-made_key
decreases-made_key g l = cost (g.R.RowSource.graph l.visit.now.rows.now) l.visit.now.depth l.spot + 7

abbrev pub decreases-fresh_key : goal.decreases-fresh_key
decreases-fresh_key g l = cost (g.R.RowSource.graph l.visit.now.rows.now) l.visit.now.depth l.spot + 6

abbrev pub decreases-place_key : goal.decreases-place_key
decreases-place_key g l = 120 * l.visit.now.depth + 2

abbrev pub decreases-visit_within : goal.decreases-visit_within
decreases-visit_within g l = 120 * l.visit.now.depth + 1

abbrev pub decreases-keep_row : goal.decreases-keep_row
decreases-keep_row g l = 120 * l.within.now.depth + 110
