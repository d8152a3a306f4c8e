use Rattle.std.proofs.Common.{◌≡◌, suc, length, sym, ap, ◌∙◌, arith}
use Rattle.lin_formula.specs.Tree.{Or}
use Rattle.lin_formula.specs.TreeOf.{tree_of}
use Rattle.first_distances.specs.RayFormula.{capture_masks}
use Rattle.first_distances.proofs.ChainLemmas.{line_next, lines_all}
use Rattle.first_distances.proofs.MoverLemmas.{formula_is}
use Rattle.first_distances.proofs.formulas.ray_formula.Goals as goal

pub loop-k-preserved : goal.loop-k-preserved
loop-k-preserved c =
    line_next c.args.p.now c.args.his.man c.args.his.ray c.args.masks.now c.loop-k.k (tree_of c.loop-k.chain) (tree_of c.in_ok-chain-2.chain) c.requires.masks c.loop-k.auto.k c.loop-k-test.true
    c.loop-k.invariant (c.in_ok-chain-2.ensures ∙ ap (λ t. Or (tree_of c.loop-k.chain) t) c.in_ok-line.ensures)

pub returns : goal.returns
returns c =
    let size : length c.args.masks.now ≡ suc (length (capture_masks c.args.p.now)) = ap length c.requires.masks in
    let most = c.loop-k.auto.k-end (omega (arith, size)) in
    let least = c.loop-k-test.false in
    let last : length c.args.masks.now ≡ c.loop-k.k = omega (arith, most, least) in
    c.loop-k.invariant ∙ lines_all c.args.p.now c.args.his.man c.args.his.ray c.args.masks.now c.loop-k.k c.requires.masks last ∙ sym (formula_is c.requires.mover)
