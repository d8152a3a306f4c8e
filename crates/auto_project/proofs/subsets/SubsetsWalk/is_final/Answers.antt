use Rattle.std.proofs.Common.{◌<◌, length, sym, subst, ap}
use Rattle.std.specs.List.{All}
use Rattle.auto_project.proofs.Places.{states-within}
use Rattle.auto_project.proofs.subsets.SubsetsWalk.is_final.Goals as goal

pub some_final-requires : goal.some_final-requires
some_final-requires c =
    subst (λ n. All (λ state. state < n) c.in-Some.set.now) (sym (ap length c.flags.ensures))
    (states-within _ _ _ _ _ _ c.args.self.now.are_rows _ _ c.in-Some.ensures.set c.requires.numbered)
