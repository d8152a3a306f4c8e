-- The coordinates of a position of a stock.
use Rattle.std.proofs.Common.{◌≡◌, ℕ, zero, suc, ◌+◌, ◌%◌, ◌≤◌, Bool, List, length, Some, inl, inr, ◌⊎◌, refl, sym, ap, ◌∙◌, arith}
use Rattle.std.proofs.lemmas.Bool.{cases_lt}
use Rattle.std.proofs.lemmas.List.{length-map}
use Rattle.std.proofs.lemmas.Option.{slice_get_within}
use Rattle.track_word.specs.Tracks.{Values}
use Rattle.game_rules.specs.Game.{Position, man_at, other}
use Rattle.game_rules.specs.declared.men.Man.{Man}
use Rattle.game_rules.specs.declared.men.Side.{Side}
use Rattle.game_laws.proofs.SoundLemmas.{other_other}
use Rattle.mask_sets.specs.Stock.{mask_of}
use Rattle.game_laws.specs.Stock.{HasStock, stock_man}
use Rattle.rule_formula.specs.Placed.{is_live, placed}
use Rattle.mask_sets.specs.Tuple.{tuple_of}
use Rattle.rule_formula.specs.Seats.{squares}
use Rattle.rule_formula.specs.Trees.{tracks_of}
use Rattle.rule_formula.proofs.FitLemmas.{placed_values, tuple_placed, values_of}
use Rattle.rule_formula.proofs.LawTheorem.{squares_of}
use Rattle.mate_plan.specs.Plan.{turn_at}
use Rattle.rule_formula.proofs.StockLemmas.{stock_placed}
use Rattle.game_laws.proofs.StockLemmas.{stock_man-men}
use Rattle.set_plan.proofs.Takings.{same_some}

-- they are as many as its live men have variables
pub tuple_count : {stock : List Man} {q : Position} → HasStock stock q → length (tuple_of q) ≡ length (tracks_of stock (is_live (mask_of q)))
tuple_count {stock} {q} h =
    let live : ℕ → Bool = is_live (mask_of q) in
    let v : Values = values_of (squares_of q) in
    let is : placed stock live q.turn (squares v) ≡ q = placed_values stock live q.turn (squares_of q) ∙ stock_placed h in
    sym (ap (λ r. length (tuple_of r)) is) ∙ sym (ap length (tuple_placed stock live q.turn v)) ∙ length-map (tracks_of stock live) (λ x. v x.0)

-- whose turn it is goes by whether the number of moves is even
pub turn_by : (first : Side) (ply : ℕ) → ((ply % 2 ≡ 0) × (turn_at first ply ≡ first)) ⊎ ((ply % 2 ≡ 1) × (turn_at first ply ≡ other first))
turn_by first zero = inl (refl, refl)
turn_by first (suc ply) =
    elim (turn_by first ply) [
      | inl (even, is) ↦ inr (omega (arith, even), ap other is)
      | inr (odd, is) ↦ inl (omega (arith, odd), ap other is ∙ other_other first)
    ]

pub turn_even : (first : Side) (ply : ℕ) → ply % 2 ≡ 0 → turn_at first ply ≡ first
turn_even first ply even = elim (turn_by first ply) [ inl (e, is) ↦ is | inr (odd, is) ↦ absurd (omega (arith, even, odd)) ]

pub turn_odd : (first : Side) (ply : ℕ) → (ply % 2 ≡ 0 → ⊥) → turn_at first ply ≡ other first
turn_odd first ply odd = elim (turn_by first ply) [ inl (even, is) ↦ absurd (odd even) | inr (e, is) ↦ is ]

-- the first so many men have the sides and the kinds of the stock
abbrev pub AreAlikeTo : Position → Position → ℕ → Type 0
AreAlikeTo stock p count =
    (k : ℕ) (m n : Man) → k ≤ count → stock_man stock.men k ≡ Some m → man_at p k ≡ Some n → (n.side ≡ m.side) × (n.kind ≡ m.kind)

man_within : (men : List Man) (k : ℕ) (m : Man) → stock_man men k ≡ Some m → k ≤ length men
man_within men zero m is = omega arith
man_within men (suc k) m is = let less = slice_get_within men k m is in omega (arith, less)

-- and one more
pub alike_more : (stock p : Position) (i : ℕ) (m n : Man) → AreAlikeTo stock p i → man_at stock (i + 1) ≡ Some m → man_at p (i + 1) ≡ Some n
    → (n.side ≡ m.side) × (n.kind ≡ m.kind) → AreAlikeTo stock p (i + 1)
alike_more stock p i m n so_far is_m is_n same = λ k a b within is_a is_b.
    elim (cases_lt i k) [
      | inr before ↦ so_far k a b before is_a is_b
      | inl last ↦
          let at : k ≡ i + 1 = omega (arith, last, within) in
          let first : a ≡ m = same_some (sym is_a ∙ (stock_man-men stock k ∙ (ap (man_at stock) at ∙ is_m))) in
          let second : b ≡ n = same_some (sym is_b ∙ (ap (man_at p) at ∙ is_n)) in
          (ap (λ x. x.side) second ∙ same.0 ∙ ap (λ x. x.side) (sym first), ap (λ x. x.kind) second ∙ same.1 ∙ ap (λ x. x.kind) (sym first))
    ]

pub alike_all : (stock p : Position) (count : ℕ) → length p.men ≡ length stock.men → count ≡ length p.men → AreAlikeTo stock p count → HasStock stock.men p
alike_all stock p count same is alike = record {
  count = same;
  men = λ k m n is_m is_n. let within = man_within stock.men k m is_m in alike k m n (omega (arith, within, same, is)) is_m is_n;
}

pub stock_at : (stock : Position) {p : Position} (k : ℕ) (m n : Man) → HasStock stock.men p → man_at stock k ≡ Some m → man_at p k ≡ Some n → (n.side ≡ m.side) × (n.kind ≡ m.kind)
stock_at stock k m n h is_m is_n = h.men k m n (stock_man-men stock k ∙ is_m) is_n
