use Rattle.std.proofs.Common.{◌≡◌, length, subst}
use Rattle.std.proofs.lemmas.List.{length-map}
use Rattle.std.proofs.lemmas.Result.{IfOk-weaker}
use Rattle.formula_auto.specs.Nodes.{DecidesAmong}
use Rattle.formula_auto.proofs.Atoms.{Decides-Among}
use Rattle.formula_auto.proofs.Projections.{apart-ascending}
use Rattle.shift_image.specs.Image.{moved_vars}
use Rattle.shift_image.specs.Read.{image_of}
use Rattle.shift_image.proofs.Results.{new-places}
use Rattle.shift_image.proofs.compiling.moved_set.Goals as goal

pub renamed-requires : goal.renamed-requires
renamed-requires c = rw (c.as_slice.ensures.value, c.in_ok-vars.ensures, length-map) c.requires.arity

pub moved-requires-clause-integers : goal.moved-requires-clause-integers
moved-requires-clause-integers c = c.in_ok-renamed.ensures.integers c.requires.integers

pub moved-requires-clause-near : goal.moved-requires-clause-near
moved-requires-clause-near c = rw c.as_slice-shifts.ensures.value c.requires.movable.near

pub moved-requires-clause-there : goal.moved-requires-clause-there
moved-requires-clause-there c =
    let tracks = rw (c.as_slice.ensures.value, c.in_ok-vars.ensures, c.as_slice-shifts.ensures.value) at c.in_ok-renamed.ensures.tracks in
    rw c.as_slice-shifts.ensures.value
    (new-places c.requires.movable.shiftable c.in_ok-renamed.renamed.tracks tracks)

pub returns-clause-decides : goal.returns-clause-decides
returns-clause-decides c =
    let i = image_of c.args.image.now in
    let set = c.args.set.now in
    let vars = c.as_slice.result.now in
    let renamed = c.in_ok-renamed.renamed in
    let vars_are = rw (c.in_ok-vars.ensures, c.as_slice-shifts.ensures.value) at c.as_slice.ensures.value in
    let size : length vars ≡ length set.tracks = rw (vars_are, length-map) c.requires.arity in
    let among : DecidesAmong set vars renamed = λ e number is.
    Decides-Among e number vars renamed is c.requires.integers (apart-ascending set.tracks c.tracks.ensures.valid.ascending)
    size c.in_ok-renamed.ensures.tracks c.in_ok-renamed.ensures.words in
    let at_moved : DecidesAmong set (moved_vars i) renamed = subst (λ xs. DecidesAmong set xs renamed) vars_are among in
    let moved = rw c.as_slice-shifts.ensures.value at c.moved.ensures.moved in
    IfOk-weaker c.moved.result _ _
    (λ b by e is. c.moved_sets_are_decided.ensures i e set renamed b c.requires.movable.shiftable is at_moved by) moved

pub returns-clause-accessible : goal.returns-clause-accessible
returns-clause-accessible c =
    IfOk-weaker c.moved.result _ _ (λ b h. h (rw c.as_slice-shifts.ensures.value c.requires.movable.some)) c.moved.ensures.accessible
