use Rattle.std.proofs.Common.{◌≡◌}
use Rattle.track_word.specs.Tracks.{without_var}
use Rattle.auto_project.specs.SetMaps.{HasClosedRows}
use Rattle.auto_project.specs.Subsets.{set_walker}
use Rattle.auto_project.proofs.Walks.{tracks-if, words-if, within-if, over-from, many-from, walker-at}
use Rattle.auto_project.proofs.projection.projected.Goals as goal

-- the rows are those of the argument, over the tracks that are left
closed : (c : goal.After-explored)
    → HasClosedRows c.in_ok-subsets.subsets.merger.shapes c.in_ok-subsets.subsets.merger.sets c.args.a.now
    (without_var c.args.var c.args.a.now.tracks) c.in_ok-subsets.subsets.first c.in_ok-subsets.subsets.rows.nodes.items
closed c = rw (c.in_ok-subsets.ensures.automaton, c.in_ok-subsets.ensures.tracks) at c.in_ok-subsets.ensures.rows

-- the walk is one over sets of the argument's states
same : (c : goal.After-explored)
    → set_walker c.in_ok-subsets.subsets.rows.automaton.now c.in_ok-subsets.subsets.rows.tracks.items
    c.in_ok-subsets.subsets.merger.shapes c.in_ok-subsets.subsets.merger.sets c.in_ok-subsets.subsets.first
    ≡ set_walker c.args.a.now (without_var c.args.var c.args.a.now.tracks) c.in_ok-subsets.subsets.merger.shapes
    c.in_ok-subsets.subsets.merger.sets c.in_ok-subsets.subsets.first
same c = walker-at _ _ _ _ _ _ _ c.in_ok-subsets.ensures.automaton c.in_ok-subsets.ensures.tracks

pub returns-clause-tracks : goal.returns-clause-tracks
returns-clause-tracks c = tracks-if _ c.args.var _ _ _ _ (closed c) _ (same c) c.explored.result c.explored.ensures.ok

pub returns-clause-words : goal.returns-clause-words
returns-clause-words c = words-if _ c.args.var _ _ _ _ (closed c) _ (same c) c.explored.result c.explored.ensures.ok

pub returns-clause-within : goal.returns-clause-within
returns-clause-within c = within-if _ c.args.var _ _ _ _ (closed c) _ (same c) c.explored.result c.args.budget c.explored.ensures.within

pub returns-clause-over : goal.returns-clause-over
returns-clause-over c = λ reduced over. over-from _ c.args.var _ _ _ _ (closed c) reduced (same c) (c.explored.ensures.over over)

pub returns-clause-many : goal.returns-clause-many
returns-clause-many c = λ over. many-from _ c.args.var _ _ _ _ (closed c) (same c) (c.explored.ensures.over over)
