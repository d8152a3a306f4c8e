-- The formula twins says that two men stand on one square, in whatever positions have the mask.
use Rattle.std.proofs.Common.{◌≡◌, ◌⊎◌, ℕ, zero, suc, ◌+◌, ◌-◌, ◌^◌, ◌<◌, ◌≤◌, Bool, true, false, List, [], ◌∷◌, ◌++◌, length, Some, pos, negsuc, ◌+ℤ◌, ◌*ℤ◌, inl, inr, refl, subst, sym, ap, ◌∙◌, arith}
use Rattle.std.specs.Prelude.{◌==◌, if◌then◌else◌}
use Rattle.std.specs.Int.{bit_at}
use Rattle.std.proofs.lemmas.Int.{ints}
use Rattle.std.proofs.lemmas.Nat.Bits.{bit_at_above}
use Rattle.track_word.specs.declared.tracks.Var.{Var}
use Rattle.track_word.specs.declared.atoms.Rel.TheVariants.{Eq}
use Rattle.game_rules.specs.declared.men.Man.{Man}
use Rattle.game_rules.specs.declared.men.Square.{Square}
use Rattle.game_rules.specs.Game.{StandsOn}
use Rattle.game_laws.proofs.LineLemmas.{square_is}
use Rattle.lin_formula.specs.Tree.{Tree}
use Rattle.lin_formula.specs.Tree as tree
use Rattle.lin_formula.specs.Holds.{Holds, Sets}
use Rattle.rule_formula.specs.Placed.{IsLiveIn, is_live}
use Rattle.game_laws.specs.Stock.{stock_man}
use Rattle.rule_formula.specs.Seats.{own, squares, vars_to}
use Rattle.rule_formula.specs.Trees.{difference, twins_tree}
use Rattle.rule_formula.specs.Meaning.{TwinsHolds}
use Rattle.rule_formula.proofs.BearLemmas.{man_placed, stands_at}
use Rattle.game_laws.proofs.StockLemmas.{stock_has}
use Rattle.rule_formula.proofs.FormulaLemmas.{among_holds}
use Rattle.rule_formula.proofs.MoveLemmas.{same_man}
use Rattle.rule_formula.proofs.PlacedLemmas.{placed_man, stands_placed}

same_square_from : (a b : Square) → (pos 1 *ℤ a.x) +ℤ ((negsuc 0 *ℤ b.x) +ℤ pos 0) ≡ pos 0 → (pos 1 *ℤ a.y) +ℤ ((negsuc 0 *ℤ b.y) +ℤ pos 0) ≡ pos 0 → a ≡ b
same_square_from a b ex ey = square_is a b.x b.y (omega (arith, ints)) (omega (arith, ints))

-- nobody past the last man is live
gone_past : (mask n k : ℕ) → mask < 2 ^ n → n < k → is_live mask k ≡ false
gone_past mask n k small past =
    let none : bit_at mask (k - 1) ≡ 0 = bit_at_above mask n (k - 1) small (omega arith) in
    ap (λ (b : ℕ). b == 1) none

not_past : (mask n k : ℕ) → mask < 2 ^ n → is_live mask k ≡ true → k ≤ n
not_past mask n k small live =
    elim (up_to k n) [ inl within ↦ within | inr past ↦ let off : is_live mask k ≡ false = gone_past mask n k small past in absurd (cc) ]
  where
    up_to : (k n : ℕ) → (k ≤ n) ⊎ (n < k)
    up_to k n = grind arith

if_false : (b : Bool) (xs ys : List Var) → b ≡ false → (if b then xs else ys) ≡ ys
if_false true xs ys e = absurd (cc)
if_false false xs ys e = refl

-- the variables of the live men do not depend on how many more are counted
vars_past : (mask n m k : ℕ) → mask < 2 ^ n → k ≡ m + n → vars_to own (is_live mask) k ≡ vars_to own (is_live mask) n
vars_past mask n zero k small e = let same : k ≡ n = omega (arith, e) in ap (vars_to own (is_live mask)) same
vars_past mask n (suc m) k small e =
    let last : suc (m + n) ≡ k = omega (arith, e) in
    let off : is_live mask (suc (m + n)) ≡ false = gone_past mask n (suc (m + n)) small (omega arith) in
    subst (λ j. vars_to own (is_live mask) j ≡ vars_to own (is_live mask) n) last
    (if_false (is_live mask (suc (m + n))) (vars_to own (is_live mask) (m + n) ++ (own (suc (m + n))).x ∷ (own (suc (m + n))).y ∷ []) (vars_to own (is_live mask) (m + n)) off
    ∙ vars_past mask n m (m + n) small refl)

pub eight_vars : (mask n : ℕ) → n ≤ 8 → mask < 2 ^ n → vars_to own (is_live mask) 8 ≡ vars_to own (is_live mask) n
eight_vars mask n few small = vars_past mask n (8 - n) 8 small (omega (arith, few))

-- man k of the stock is live
record IsLiveMan (stock : List Man) (mask k : ℕ) : Type 0 where
  man : Man
  is_man : stock_man stock k ≡ Some man
  live : is_live mask k ≡ true

live_man : (stock : List Man) {mask k : ℕ} → mask < 2 ^ length stock → IsLiveIn mask k → IsLiveMan stock mask k
live_man stock {mask} {k} small h =
    let low : 0 < k = omega (arith, h.low) in
    let (m, is) = stock_has stock k low (not_past mask (length stock) k small h.live) in
    record { man = m; is_man = is; live = h.live }

pub twins_means : {mask a b : ℕ} (s : ℕ) (t : Tree) → IsLiveIn mask a → IsLiveIn mask b → t ≡ twins_tree 8 mask a b s → (e : Sets) → TwinsHolds e mask a b s t
twins_means {mask} {a} {b} s t first_in second_in told e stock turn v few small =
    let first : IsLiveMan stock mask a = live_man stock small first_in in
    let second : IsLiveMan stock mask b = live_man stock small second_in in
    let tree : t ≡ twins_tree (length stock) mask a b s =
    told
    ∙ ap (λ xs. tree.And (tree.And (tree.Among s xs) (difference (own a).x (own b).x Eq (pos 0))) (difference (own a).y (own b).y Eq (pos 0))) (eight_vars mask (length stock) few small) in
    let f : ℕ → Square = squares v in
    let among = among_holds stock (is_live mask) turn own s e v in (
      λ h.
          let w = subst (λ t. Holds t e v) tree h in
          let same : f a ≡ f b = same_square_from (f a) (f b) w.0.1 w.1 in (
            subst (λ (P : Type 0). P) among w.0.0,
            record {
              first = man_placed (is_live mask) f a first.man;
              second = man_placed (is_live mask) f b second.man;
              square = f b;
              is_first = placed_man stock (is_live mask) turn f a first.man first.is_man;
              is_second = placed_man stock (is_live mask) turn f b second.man second.is_man;
              first_stands = subst (StandsOn (man_placed (is_live mask) f a first.man)) same (stands_at (is_live mask a) (f a) first.live);
              second_stands = stands_at (is_live mask b) (f b) second.live;
            },
          ),
      λ (member, w).
          let here : w.first ≡ man_placed (is_live mask) f a first.man = same_man stock (is_live mask) turn f a first.man w.first first.is_man w.is_first in
          let there : w.second ≡ man_placed (is_live mask) f b second.man = same_man stock (is_live mask) turn f b second.man w.second second.is_man w.is_second in
          let at_a : f a ≡ w.square = (stands_placed (is_live mask a) (f a) w.square (subst (λ m. StandsOn m w.square) here w.first_stands)).1 in
          let at_b : f b ≡ w.square = (stands_placed (is_live mask b) (f b) w.square (subst (λ m. StandsOn m w.square) there w.second_stands)).1 in
          let ex : (f a).x ≡ (f b).x = ap (λ (z : Square). z.x) (at_a ∙ sym at_b) in
          let ey : (f a).y ≡ (f b).y = ap (λ (z : Square). z.y) (at_a ∙ sym at_b) in
          subst (λ t. Holds t e v) (sym tree) ((subst (λ (P : Type 0). P) (sym among) member, omega (arith, ints, ex)), omega (arith, ints, ey)),
    )
