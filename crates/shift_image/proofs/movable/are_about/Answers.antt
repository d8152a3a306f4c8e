use Rattle.std.proofs.Common.{List, Bor, subst}
use Rattle.std.proofs.lemmas.List.Elements.{All-more, All-map}
use Rattle.track_word.specs.declared.tracks.Var.{Var}
use Rattle.lin_formula.specs.Tree.{Tree, free_vars}
use Rattle.lin_formula.specs.TreeOf.{tree_of}
use Rattle.lin_formula.specs.Free.{IsOneOf}
use Rattle.lin_formula.specs.declared.formula.Formula.{Formula}
use Rattle.shift_image.proofs.Loops.{all-whole}
use Rattle.shift_image.proofs.movable.are_about.Goals as goal

-- it speaks of no other variables
abbrev IsAbout : List Var → Tree → Type 0
IsAbout vars g = (x : Var) → IsOneOf x (free_vars g) → IsOneOf x vars

pub loop-f-preserved : goal.loop-f-preserved
loop-f-preserved c =
    let At = λ (f : Bor Formula). IsAbout c.args.vars.now (tree_of f.now) in
    All-more At c.args.formulas.now c.loop-f.f-index c.f-item.result c.loop-f-test.true c.loop-f.invariant
    (subst At c.f-item.is (c.in_ok-is_about.ensures c.if-not-branch.false))

pub returns : goal.returns
returns c = λ is.
    let At = λ (f : Bor Formula). IsAbout c.args.vars.now (tree_of f.now) in
    All-map (IsAbout c.args.vars.now) (λ (f : Bor Formula). tree_of f.now) c.args.formulas.now
    (all-whole At c.args.formulas.now c.loop-f.f-index c.loop-f-test.false c.loop-f.invariant)
