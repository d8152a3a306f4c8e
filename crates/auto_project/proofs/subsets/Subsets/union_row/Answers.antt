use Rattle.auto_project.proofs.Placings.{RemembersPlaced-over}
use Rattle.auto_project.proofs.Places.{HasPlaceRows-kept, rows-have-sets}
use Rattle.auto_project.proofs.subsets.Subsets.union_row.Goals as goal

pub united_rows-requires-clause-rows : goal.united_rows-requires-clause-rows
united_rows-requires-clause-rows c = rw c.as_slice.ensures.value (rows-have-sets _ _ _ _ _ _ c.args.self.now.are_rows)

pub invariant_of-self : goal.invariant_of-self
invariant_of-self c = record {
  are_tracks = c.args.self.now.are_tracks;
  are_rows = HasPlaceRows-kept _ _ _ _ _ _ _ _ c.united_rows.ensures.grows c.united_rows.ensures.kept c.args.self.now.are_rows;
  remembered = RemembersPlaced-over c.united_rows.ensures.grows c.united_rows.ensures.kept c.args.self.now.remembered;
}
