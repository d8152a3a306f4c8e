use Rattle.std.proofs.Common.{sym, subst}
use Rattle.lin_formula.specs.TreeOf.{tree_of}
use Rattle.line_engine.specs.Misses.{IsPlain}
use Rattle.line_engine.proofs.MissLemmas.{lead_plain, plain, apart_room, missed_if}
use Rattle.line_engine.proofs.work.EngineState.misses.Goals as goal

pub plain-requires : goal.plain-requires
plain-requires c = record {
  plain = subst IsPlain (sym c.lead_of.ensures) (lead_plain (tree_of c.args.f.now) (plain c.args.set.now (tree_of c.args.f.now) c.requires));
}

pub are_disjoint-requires : goal.are_disjoint-requires
are_disjoint-requires c = record {
  tracks = apart_room c.args.set.now (tree_of c.args.f.now) c.requires c.args.self.now.memo.budget c.in-Some.first
      (rw (c.in-Some.is, c.lead_of.ensures) at c.in_ok-first.ensures.made);
}

pub returns-clause-missed : goal.returns-clause-missed
returns-clause-missed c =
    missed_if c.args.set.now (tree_of c.args.f.now) c.requires c.args.self.now.memo.budget c.in-Some.first
    (rw (c.in-Some.is, c.lead_of.ensures) at c.in_ok-first.ensures.made) (c.in_ok-are_disjoint.ensures.apart c.if-not-branch.false) c.states.ensures.valid
    c.fits_with.result (rw (c.states.ensures.states, c.plain.ensures.same) at c.fits_with.ensures.fits)
