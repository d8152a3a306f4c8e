use Rattle.auto_project.proofs.subsets.Subsets.numbered.Goals as goal

pub invariant_of-self : goal.invariant_of-self
invariant_of-self c = record {
  are_tracks = c.args.self.now.are_tracks;
  are_rows = c.args.self.now.are_rows;
  remembered = c.row.ensures.remembered;
}
