use Rattle.std.proofs.Common.{sym, ap, ◌∙◌}
use Rattle.std.specs.Prelude.{option_copied}
use Rattle.first_distances.proofs.TableLemmas.{kept_some}
use Rattle.first_distances.proofs.kept_table.kept_set.Goals as goal

pub unreachable-requires : goal.unreachable-requires
unreachable-requires c =
    kept_some c.args.solved.now c.set.ensures.valid c.requires.plan c.requires.ply c.args.mask c.requires.game c.set.result c.set.ensures.set c.in-None.is

pub returns : goal.returns
returns c = sym (ap option_copied c.in-Some.is) ∙ c.set.ensures.set
