use Rattle.auto_project.proofs.Walks.{walker-kept}
use Rattle.auto_project.proofs.Places.{IsRow-union, rows-within, states-some}
use Rattle.auto_project.proofs.subsets.SubsetsWalk.next_row.Goals as goal

pub union_row-requires-clause-some : goal.union_row-requires-clause-some
union_row-requires-clause-some c = rw c.as_slice.ensures.value (states-some _ _ _ _ _ _ c.args.self.now.are_rows _ _ c.in_ok-set.ensures c.requires.numbered)

pub union_row-requires-clause-within : goal.union_row-requires-clause-within
union_row-requires-clause-within c = rw c.as_slice.ensures.value (rows-within _ c.args.self.now.are_rows c.in_ok-set.ensures c.requires.numbered)

pub returns-in_err-union-clause-walker : goal.returns-in_err-union-clause-walker
returns-in_err-union-clause-walker c =
    let first = c.args.self.now.are_rows.first_is in
    rw (c.union_row.ensures.rows, c.union_row.ensures.first)
    (walker-kept c.args.self.now.rows.automaton.now c.args.self.now.rows.tracks.items c.args.self.now.first c.union_row.ensures.grows
    c.union_row.ensures.kept first.known first.numbered)

pub returns-in_err-node-clause-walker : goal.returns-in_err-node-clause-walker
returns-in_err-node-clause-walker c =
    let first = c.args.self.now.are_rows.first_is in
    rw (c.numbered.ensures.rows, c.union_row.ensures.rows, c.numbered.ensures.first, c.union_row.ensures.first, c.numbered.ensures.merger)
    (walker-kept c.args.self.now.rows.automaton.now c.args.self.now.rows.tracks.items c.args.self.now.first c.union_row.ensures.grows
    c.union_row.ensures.kept first.known first.numbered)

pub returns-clause-walker : goal.returns-clause-walker
returns-clause-walker c =
    let first = c.args.self.now.are_rows.first_is in
    rw (c.numbered.ensures.rows, c.union_row.ensures.rows, c.numbered.ensures.first, c.union_row.ensures.first, c.numbered.ensures.merger)
    (walker-kept c.args.self.now.rows.automaton.now c.args.self.now.rows.tracks.items c.args.self.now.first c.union_row.ensures.grows
    c.union_row.ensures.kept first.known first.numbered)

pub returns-clause-row : goal.returns-clause-row
returns-clause-row c =
    let u = c.in_ok-union.ensures in
    let n = c.in_ok-node.ensures in
    let union = rw c.as_slice.ensures.value at u.union in
    record {
      place = c.in_ok-set.set.items;
      is = c.in_ok-set.ensures;
      row =
          IsRow-union c.args.self.now.are_rows u.grows u.kept
          (rows-within _ c.args.self.now.are_rows c.in_ok-set.ensures c.requires.numbered) union u.ascend n.placed
          (rw u.places at n.added) n.different;
    }
