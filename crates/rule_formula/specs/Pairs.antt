-- The pairs of live men of a mask, in order.
use Rattle.std.specs.Prelude.{◌≡◌, ℕ, zero, suc, ◌<◌, ◌≤◌, nat_lt, Bool, true, ◌&&◌, if◌then◌else◌, List, [], ◌∷◌, ◌++◌, length}
use Rattle.game_rules.specs.declared.men.Man.{Man}
use Rattle.rule_formula.specs.declared.opt.ManPair.{ManPair}
use Rattle.rule_formula.specs.Placed.{is_live}

abbrev pub pair : ℕ → ℕ → ManPair
pair a b = record { first = a; second = b }

-- man b is live and has a greater number than man a
abbrev pub is_later : ℕ → ℕ → ℕ → Bool
is_later mask a b = nat_lt a b && is_live mask b

-- the pairs of man a with each later live one among the first n
abbrev pub later_to : ℕ → ℕ → ℕ → List ManPair
later_to mask a zero = []
later_to mask a (suc n) =
    if is_later mask a (suc n) then later_to mask a n ++ pair a (suc n) ∷ [] else later_to mask a n

-- the pairs of man a, if he is live, among this many men
abbrev pub man_pairs : ℕ → ℕ → ℕ → List ManPair
man_pairs mask count a = if is_live mask a then later_to mask a count else []

-- the pairs of each of the first n men
abbrev pub pairs_to : ℕ → ℕ → ℕ → List ManPair
pairs_to mask count zero = []
pairs_to mask count (suc n) = pairs_to mask count n ++ man_pairs mask count (suc n)

-- each live man, ascending, with each later one, ascending
abbrev pub pairs_of : List Man → ℕ → List ManPair
pairs_of stock mask = pairs_to mask (length stock) (length stock)

-- two live men of the stock, the first with the lesser number
pub record IsPairOf (stock : List Man) (mask : ℕ) (w : ManPair) : Type 0 where
  pub order : w.first < w.second
  pub low : 1 ≤ w.first
  pub high : w.second ≤ length stock
  pub first_live : is_live mask w.first ≡ true
  pub second_live : is_live mask w.second ≡ true
