-- The stock of a position: its men by side and kind. Moves keep it.
use Rattle.std.proofs.Common.{◌≡◌, ℕ, zero, suc, ◌<◌, ◌≤◌, List, [], ◌∷◌, length, get_or, Some, refl, sym, ap, ◌∙◌, arith}
use Rattle.std.proofs.lemmas.Option.{same_Some, slice_get-get_or}
use Rattle.game_rules.specs.Game.{IsAfter, Position, man_at}
use Rattle.game_rules.specs.declared.men.Man.{Man}
use Rattle.game_rules.specs.declared.men.Square.{Square}
use Rattle.game_laws.specs.Stock.{HasStock, stock_man}
use Rattle.game_laws.proofs.SoundLemmas.{at_same, fate, fate_kind, fate_side}

-- a man of a position, by the position or by its men
pub stock_man-men : (p : Position) (k : ℕ) → stock_man p.men k ≡ man_at p k
stock_man-men p zero = refl
stock_man-men p (suc k) = refl

-- the stock has each man up to its length
pub stock_has : (stock : List Man) (k : ℕ) → 0 < k → k ≤ length stock → (m : Man) × (stock_man stock k ≡ Some m)
stock_has stock zero low high = absurd (omega (arith, low))
stock_has [] (suc k) low high = absurd (omega (arith, high))
stock_has (m ∷ ms) (suc k) low high = (get_or (m ∷ ms) k m, slice_get-get_or (m ∷ ms) k m (omega (arith, high)))

-- a position has the stock of its own men
pub own_stock : (p : Position) → HasStock p.men p
own_stock p =
    record {
      count = refl;
      men = λ k m n is_m is_n.
          let same : m ≡ n = same_Some m n (sym is_m ∙ (stock_man-men p k ∙ is_n)) in
          (ap (λ a. a.side) (sym same), ap (λ a. a.kind) (sym same));
    }

-- a step keeps the stock
pub step_stock : {stock : List Man} {p q : Position} {i : ℕ} {z : Square} → HasStock stock p → IsAfter p i z q → HasStock stock q
step_stock {p} {q} has after =
    record {
      count = after.same_count ∙ has.count;
      men = λ k m n is_m is_n.
          let w = at_same q p k n (sym after.same_count) is_n in
          let same = has.men k m w.0 is_m w.1 in
          let fated = fate after k w.0 n w.1 is_n in
          (sym (fate_side fated) ∙ same.0, sym (fate_kind fated) ∙ same.1);
    }

-- the stock of a position of the stock is the stock
pub stock_trans : {stock : List Man} {p q : Position} → HasStock stock p → HasStock p.men q → HasStock stock q
stock_trans {p} {q} one two =
    record {
      count = two.count ∙ one.count;
      men = λ k m n is_m is_n.
          let w = at_same q p k n (sym two.count) is_n in
          let a = one.men k m w.0 is_m w.1 in
          let b = two.men k w.0 n (stock_man-men p k ∙ w.1) is_n in
          (b.0 ∙ a.0, b.1 ∙ a.1);
    }
