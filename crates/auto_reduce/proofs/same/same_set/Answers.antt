use Rattle.std.proofs.Common.{◌∙◌, sym}
use Rattle.auto_reduce.specs.Tables.{IsInOrder}
use Rattle.auto_reduce.proofs.SameTables.{equal_tables}
use Rattle.auto_reduce.proofs.SameWords.{AcceptSameWords-tables, AcceptSameWords-through}
use Rattle.auto_reduce.proofs.same.same_set.Goals as goal

pub have_equal_tables-requires-clause-tracks : goal.have_equal_tables-requires-clause-tracks
have_equal_tables-requires-clause-tracks c = c.in_ok-a.ensures.tracks ∙ c.requires ∙ sym c.in_ok-b.ensures.tracks

pub returns : goal.returns
returns c =
    let a = c.in_ok-a.ensures in
    let b = c.in_ok-b.ensures in
    let tracks = a.tracks ∙ c.requires ∙ sym b.tracks in
    let same = AcceptSameWords-through c.args.a.now c.args.b.now c.in_ok-a.a c.in_ok-b.b c.requires a.tracks a.words b.words in
    let a_in : IsInOrder c.in_ok-a.a = record { valid = a.valid; reduced = a.reduced; numbered = a.numbered } in
    let b_in : IsInOrder c.in_ok-b.b = record { valid = b.valid; reduced = b.reduced; numbered = b.numbered } in (
      λ said. same.0 (AcceptSameWords-tables c.in_ok-a.a c.in_ok-b.b tracks (c.in_ok-same.ensures.0 said)),
      λ h. c.in_ok-same.ensures.1 (equal_tables c.in_ok-a.a c.in_ok-b.b a_in b_in tracks (same.1 h)),
    )
