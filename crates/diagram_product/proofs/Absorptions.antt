-- Pairs with an absorbing value.
use Rattle.std.proofs.Common.{◌≡◌, ℕ, Bool, true, false, ◌||◌, if◌then◌else◌, Option, Some, None, IfSome, refl, ap, ◌∙◌, subst}
use Rattle.diagram_product.specs.declared.absorbing.Absorbing.{Absorbing}
use Rattle.diagram_product.specs.Absorbed.{absorbs, stand_in, absorbed}

or_true : (b : Bool) → (b || true) ≡ true
or_true true = refl
or_true false = refl

pub absorbed-left : (g : Absorbing) (x y : ℕ) → absorbs g.left x ≡ true → absorbed g x y ≡ stand_in g.left g.right
unfolding absorbed
absorbed-left g x y e = ap (λ b. if b || absorbs g.right y then stand_in g.left g.right else (x, y)) e

pub absorbed-right : (g : Absorbing) (x y : ℕ) → absorbs g.right y ≡ true → absorbed g x y ≡ stand_in g.left g.right
unfolding absorbed
absorbed-right g x y e = ap (λ b. if absorbs g.left x || b then stand_in g.left g.right else (x, y)) e ∙ ap (λ b. if b then stand_in g.left g.right else (x, y)) (or_true (absorbs g.left x))

pub absorbed-neither : (g : Absorbing) (x y : ℕ) → absorbs g.left x ≡ false → absorbs g.right y ≡ false → absorbed g x y ≡ (x, y)
unfolding absorbed
absorbed-neither g x y e f = ap (λ b. if b || absorbs g.right y then stand_in g.left g.right else (x, y)) e ∙ ap (λ b. if b then stand_in g.left g.right else (x, y)) f

-- where nothing absorbs, each pair is itself
pub absorbed-nothing : (g : Absorbing) (x y : ℕ) → g.left ≡ None → g.right ≡ None → absorbed g x y ≡ (x, y)
absorbed-nothing g x y e f = absorbed-neither g x y (ap (λ o. absorbs o x) e) (ap (λ o. absorbs o y) f)

-- a constant map of an absorbing value makes one pair with each other map
module _ (g : Absorbing) (left right : ℕ → ℕ) (value : ℕ) (constant : Option ℕ) where
  pub one_pair-left : IfSome constant (λ v. (letter : ℕ) → left letter ≡ v) → constant ≡ Some value → absorbs g.left value ≡ true → (letter : ℕ)
      → absorbed g (left letter) (right letter) ≡ stand_in g.left g.right
  one_pair-left all is absorbs_it letter =
      let same : (l : ℕ) → left l ≡ value = subst (λ p. IfSome p (λ v. (l : ℕ) → left l ≡ v)) is all in
      absorbed-left g _ _ (ap (absorbs g.left) (same letter) ∙ absorbs_it)

  pub one_pair-right : IfSome constant (λ v. (letter : ℕ) → right letter ≡ v) → constant ≡ Some value → absorbs g.right value ≡ true → (letter : ℕ)
      → absorbed g (left letter) (right letter) ≡ stand_in g.left g.right
  one_pair-right all is absorbs_it letter =
      let same : (l : ℕ) → right l ≡ value = subst (λ p. IfSome p (λ v. (l : ℕ) → right l ≡ v)) is all in
      absorbed-right g _ _ (ap (absorbs g.right) (same letter) ∙ absorbs_it)
