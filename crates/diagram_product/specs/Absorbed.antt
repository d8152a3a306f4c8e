-- Pairs with an absorbing value.
use Rattle.std.specs.Prelude.{◌≡◌, ◌<◌, ◌≤◌, ℕ, Bool, false, nat_eq, ◌||◌, if◌then◌else◌, Option, Some, None, List, length, slice_get}
use Rattle.diagram_product.specs.declared.absorbing.Absorbing.{Absorbing}

-- whether a value is the absorbing one
abbrev pub absorbs : Option ℕ → ℕ → Bool
absorbs None value = false
absorbs (Some absorbing) value = nat_eq value absorbing

-- the pair that represents all pairs with an absorbing value
abbrev pub stand_in : Option ℕ → Option ℕ → ℕ × ℕ
stand_in (Some left) right = (left, 0)
stand_in None (Some right) = (0, right)
stand_in None None = (0, 0)

-- all pairs with an absorbing value are represented by one pair, and each other pair by itself
unfoldable pub absorbed : Absorbing → ℕ → ℕ → ℕ × ℕ
absorbed absorbing left right =
    if absorbs absorbing.left left || absorbs absorbing.right right then stand_in absorbing.left absorbing.right
    else (left, right)

-- each pair from a number on is the absorbed pair of the values of two maps at some letter
pub record ArePairs (absorbing : Absorbing) (from : ℕ) (pairs : List (ℕ × ℕ)) (left right : ℕ → ℕ) : Type 0 where
  pub answer : (number : ℕ) → from ≤ number → number < length pairs
      → (letter : ℕ) × (slice_get pairs number ≡ Some (absorbed absorbing (left letter) (right letter)))
