use Rattle.std.proofs.Common.{◌≡◌, ◌+◌, ℕ, suc, Bool, true, false, refl, sym, ap, ◌∙◌, subst, arith}
use Rattle.std.specs.Prelude.{if◌then◌else◌}
use Rattle.lin_formula.specs.Tree.{Tree, And, Not}
use Rattle.lin_formula.specs.TreeOf.{tree_of}
use Rattle.rule_formula.specs.Placed.{is_live}
use Rattle.rule_formula.specs.Trees.{clear, is_other, ray_at}
use Rattle.line_formula.specs.Places.{home}
use Rattle.line_formula.specs.Rules.{ahead, line, screens}
use Rattle.line_formula.proofs.rules.bear.Goals as goal
use Rattle.line_formula.proofs.rules.bear.Goals.{then-is_other+in_ok-chain-2, else-is_other}

-- one man more, who is looked at if he is another
clear_next : (f : Tree) (hit : ℕ → Tree) (live : ℕ → Bool) (i j n m : ℕ) (g h : Tree) (b : Bool) → m ≡ suc n → h ≡ clear f hit live i j n
    → is_other live i j m ≡ b → g ≡ (if b then And h (Not (hit m)) else h) → g ≡ clear f hit live i j m
clear_next f hit live i j n m g h b e before other step =
    step ∙ ap (λ c. if c then And h (Not (hit m)) else h) (sym other)
    ∙ ap (λ x. if is_other live i j m then And x (Not (hit m)) else x) before
    ∙ subst (λ k. (if is_other live i j k then And (clear f hit live i j n) (Not (hit k)) else clear f hit live i j n) ≡ clear f hit live i j k) (sym e) refl

pub loop-n-preserved : goal.loop-n-preserved
loop-n-preserved c =
    let men = c.args.scene.men.now in
    let legs = c.args.scene.legs.now in
    let b = c.args.bearing in
    let r = ray_at men b.man b.ray in
    let next = λ (g : Tree) (other : Bool).
    clear_next (And (line (home men) legs r b.man b.king) (ahead (home men) legs r b.man b.king)) (screens (home men) legs r b.man b.king)
    (is_live c.args.mask) b.man b.king c.loop-n.n (c.loop-n.n + 1) g (tree_of c.loop-n.chain) other (omega arith) c.loop-n.invariant
    in
    elim c.if-is_other.branch [
      | then-is_other+in_ok-chain-2 w ↦
          next (tree_of c.if-is_other.chain) true (sym c.is_other.ensures ∙ w.if-is_other.true) (ap tree_of w.chain-is ∙ w.in_ok-chain-2.ensures)
      | else-is_other w ↦ next (tree_of c.if-is_other.chain) false (sym c.is_other.ensures ∙ w.if-is_other.false) (ap tree_of w.chain-is)
    ]
