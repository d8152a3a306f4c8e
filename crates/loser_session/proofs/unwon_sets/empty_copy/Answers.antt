use Rattle.std.proofs.Common.{◌≡◌, ℕ, None, sym, ap, ◌∙◌, subst, arith}
use Rattle.std.specs.Prelude.{option_copied}
use Rattle.winning_sets.specs.Solve.{end_of, kept_at}
use Rattle.winning_sets.proofs.ValidLemmas.{plan_valid}
use Rattle.loser_session.proofs.UnwonParts.{kept_found}
use Rattle.loser_session.proofs.unwon_sets.empty_copy.Goals as goal

pub unreachable-requires : goal.unreachable-requires
unreachable-requires c =
    let s = c.args.solved.now in
    let none : kept_at s (end_of s) c.args.mask ≡ None =
    subst (λ (n : ℕ). kept_at s n c.args.mask ≡ None) c.last_ply.ensures (sym c.set.ensures.set ∙ ap option_copied c.in-None.is) in
    kept_found s (plan_valid s c.set.ensures.valid c.requires.plan) (end_of s) c.args.mask c.requires.game (omega arith) none
