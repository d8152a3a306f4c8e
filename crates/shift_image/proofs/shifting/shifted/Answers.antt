use Rattle.std.proofs.Common.{w32, ℤ, SFits, sym, subst, inl, inr}
use Rattle.std.proofs.Math.Facts.{sfits_lit}
use Rattle.std.proofs.lemmas.Int.{to_z-of_z}
use Rattle.shift_image.specs.Laws.{negated}
use Rattle.shift_image.specs.Read.{IsNear}
use Rattle.shift_image.proofs.Lefts.{moved-same, integers-same}
use Rattle.shift_image.proofs.shifting.shifted.Goals as goal

fits : (by : ℤ) → IsNear by → SFits w32 (negated by)
fits by (inl (inl is)) = subst (λ z. SFits w32 (negated z)) (sym is) (sfits_lit tt)
fits by (inl (inr is)) = subst (λ z. SFits w32 (negated z)) (sym is) (sfits_lit tt)
fits by (inr (inl is)) = subst (λ z. SFits w32 (negated z)) (sym is) (sfits_lit tt)
fits by (inr (inr is)) = subst (λ z. SFits w32 (negated z)) (sym is) (sfits_lit tt)

pub returns-clause-moved : goal.returns-clause-moved
returns-clause-moved c =
    let by = c.args.shift.by in
    let moved = rw (c.back.ensures.is, to_z-of_z w32 (negated by) (fits by c.requires.near), c.place_of-track.ensures.place, c.tracks.ensures.tracks) at c.in_ok-pairs.ensures.moved in
    moved-same moved c.in_ok-merged.ensures.same

pub returns-clause-integers : goal.returns-clause-integers
returns-clause-integers c = integers-same c.in_ok-pairs.ensures.integers c.in_ok-merged.ensures.same

pub returns-clause-accessible : goal.returns-clause-accessible
returns-clause-accessible c =
    c.in_ok-merged.ensures.accessible c.args.each (record { reached = c.in_ok-pairs.ensures.reached; few = c.in_ok-pairs.ensures.few })
