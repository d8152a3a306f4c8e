use Rattle.std.proofs.Common.{◌≡◌, ℕ, ◌+◌, ◌<◌, ◌==◌, if◌then◌else◌, List, length, get_or, drop, refl, sym, ap, ◌∙◌, add-one, drop-cons}
use Rattle.std.proofs.lemmas.Bool.{eq-eqb, ne_eqb}
use Rattle.std.proofs.lemmas.List.{drop_all}
use Rattle.track_word.specs.declared.tracks.Var.{Var}
use Rattle.shift_image.specs.Image.{moved_var}
use Rattle.shift_image.specs.declared.shift.ValueShift.{ValueShift}
use Rattle.shift_image.proofs.Lefts.{nowhere}
use Rattle.shift_image.proofs.movable.moved_var.Goals as goal

-- the first of the shifts that are left decides, or else the others
from_here : (shifts : List ValueShift) (i : ℕ) (d : ValueShift) (x : Var) → i < length shifts
    → moved_var (drop i shifts) x ≡ (if x.0 == (get_or shifts i d).gone.0 then (get_or shifts i d).new else moved_var (drop (i + 1) shifts) x)
from_here shifts i d x within = rw (drop-cons shifts i d, add-one) refl

pub returns-then-var-shift : goal.returns-then-var-shift
returns-then-var-shift c =
    let here = from_here c.args.shifts.now c.loop-shift.shift-index nowhere c.args.var c.loop-shift-test.true in
    let same = eq-eqb _ _ c.if-var-shift.true in
    sym (rw same at here) ∙ c.loop-shift.invariant

pub loop-shift-preserved : goal.loop-shift-preserved
loop-shift-preserved c =
    let here = from_here c.args.shifts.now c.loop-shift.shift-index nowhere c.args.var c.loop-shift-test.true in
    let other = ne_eqb _ _ c.if-var-shift.false in
    sym (rw other at here) ∙ c.loop-shift.invariant

pub returns : goal.returns
returns c = ap (λ shifts. moved_var shifts c.args.var) (sym (drop_all c.loop-shift.shift-index c.args.shifts.now c.loop-shift-test.false)) ∙ c.loop-shift.invariant
