-- The list of masks has each mask of the game, and nothing else.
use Rattle.std.proofs.Common.{◌≡◌, ◌≢◌, ◌⊎◌, ◌↔◌, ℕ, zero, suc, ◌+◌, ◌^◌, ◌<◌, ◌≤◌, Bool, true, false, ◌&&◌, ◌||◌, not, List, length, Some, None, inl, inr, refl, subst, sym, ap, ◌∙◌, arith}
use Rattle.std.specs.Prelude.{min, Contains}
use Rattle.std.specs.Int.{bit_at}
use Rattle.std.specs.Int.Bits.{bit_and}
use Rattle.std.proofs.Math.Nat.{zero-min}
use Rattle.std.proofs.lemmas.Bool.{eqb-true, eq-eqb}
use Rattle.std.proofs.lemmas.Nat.{and_le_l, and_le_r}
use Rattle.std.proofs.lemmas.Nat.Bits.{bit_at-lt, bit_at_and, same_from_bits_below}
use Rattle.game_rules.specs.declared.men.Kind.{Kind}
use Rattle.game_rules.specs.declared.men.Kind.TheVariants.{King, Queen, Rook, Bishop, Knight, Pawn, Chancellor, Archbishop, Amazon, Nightrider}
use Rattle.game_rules.specs.declared.men.Man.{Man}
use Rattle.game_rules.specs.declared.men.Place.TheVariants.{Gone}
use Rattle.game_rules.specs.Game.{Position, man_at}
use Rattle.rule_formula.specs.Fits.{IsGameMask, has_kings, is_king_at, is_part, masks_of, masks_to}
use Rattle.mask_sets.specs.Stock.{mask_of}
use Rattle.game_laws.specs.Stock.{stock_man}
use Rattle.rule_formula.specs.Options.{is_king}
use Rattle.rule_formula.specs.Placed.{is_live}
use Rattle.rule_formula.proofs.BearLemmas.{stock_number}
use Rattle.game_laws.proofs.StockLemmas.{stock_has, stock_man-men}
use Rattle.rule_formula.proofs.ChainLemmas.{last_or_before}
use Rattle.mask_sets.proofs.Masks.{mask_tells}
use Rattle.rule_formula.proofs.MaskLemmas.{live_bit_is}
use Rattle.rule_formula.proofs.ListTheorem.{both_true, nothing, pushed_if, some_or_none, true_both}
use Rattle.rule_formula.proofs.LawTheorem.{live_at}

least_one : (b : ℕ) → min 1 b ≡ 1 → b < 2 → b ≡ 1
least_one zero e small = absurd (omega (arith, e))
least_one (suc zero) e small = refl
least_one (suc (suc b)) e small = absurd (omega (arith, small))

least_is : (a b : ℕ) → a < 2 → b < 2 → (a ≡ 1 → b ≡ 1) → min a b ≡ a
least_is zero b low small h = zero-min b
least_is (suc zero) zero low small h = let e : 0 ≡ 1 = h refl in absurd (omega (arith, e))
least_is (suc zero) (suc zero) low small h = refl
least_is (suc zero) (suc (suc b)) low small h = absurd (omega (arith, small))
least_is (suc (suc a)) b low small h = absurd (omega (arith, low))

-- a part has no bit that the whole does not have
part_bits : (a b : ℕ) → is_part a b ≡ true → (i : ℕ) → bit_at a i ≡ 1 → bit_at b i ≡ 1
part_bits a b part i one =
    let same : bit_and a b ≡ a = eqb-true (bit_and a b) a part in
    let least : min (bit_at a i) (bit_at b i) ≡ bit_at a i = sym (bit_at_and a b i) ∙ ap (λ n. bit_at n i) same in
    let here : min 1 (bit_at b i) ≡ 1 = ap (λ n. min n (bit_at b i)) (sym one) ∙ least ∙ one in
    least_one (bit_at b i) here (bit_at-lt b i)

bits_part : (w a b : ℕ) → a < 2 ^ w → ((i : ℕ) → i < w → bit_at a i ≡ 1 → bit_at b i ≡ 1) → is_part a b ≡ true
bits_part w a b small h =
    let less = and_le_l a b in
    eq-eqb (bit_and a b) a
    (same_from_bits_below w (bit_and a b) a (omega (arith, less, small)) small
    (λ i low. bit_at_and a b i ∙ least_is (bit_at a i) (bit_at b i) (bit_at-lt a i) (bit_at-lt b i) (h i low)))

either_true : (a b : Bool) → (a || b) ≡ true → not a ≡ true → b ≡ true
either_true true b e off = absurd (cc)
either_true false b e off = e

true_either : (a b : Bool) → (not a ≡ true → b ≡ true) → (a || b) ≡ true
true_either true b h = refl
true_either false b h = h refl

king_test : (m : Man) → m.kind ≡ King → not (not (is_king m.kind)) ≡ true
king_test m e = ap (λ k. not (not (is_king k))) e

king_told : (k : Kind) → not (not (is_king k)) ≡ true → k ≡ King
king_told King e = refl
king_told Queen e = absurd (cc)
king_told Rook e = absurd (cc)
king_told Bishop e = absurd (cc)
king_told Knight e = absurd (cc)
king_told Chancellor e = absurd (cc)
king_told Archbishop e = absurd (cc)
king_told Amazon e = absurd (cc)
king_told Nightrider e = absurd (cc)
king_told Pawn e = absurd (cc)

-- each king up to n is in the mask
abbrev KingsTo : List Man → ℕ → ℕ → Type 0
KingsTo stock mask n = (k : ℕ) (m : Man) → stock_man stock k ≡ Some m → m.kind ≡ King → k ≤ n → is_live mask k ≡ true

kings_in : (stock : List Man) (mask n : ℕ) → has_kings stock mask n ≡ true → KingsTo stock mask n
kings_in stock mask zero h k m is king high = let at = stock_number stock k m is in absurd (omega (arith, at.low, high))
kings_in stock mask (suc n) h k m is king high =
    let parts = both_true (not (is_king_at (stock_man stock (suc n))) || is_live mask (suc n)) (has_kings stock mask n) h in
    elim (last_or_before k n high) [
      | inl earlier ↦ kings_in stock mask n parts.1 k m is king earlier
      | inr last ↦
          let there : stock_man stock (suc n) ≡ Some m = subst (λ j. stock_man stock j ≡ Some m) last is in
          let test : not (not (is_king_at (stock_man stock (suc n)))) ≡ true = ap (λ o. not (not (is_king_at o))) there ∙ king_test m king in
          subst (λ j. is_live mask j ≡ true) (sym last) (either_true (not (is_king_at (stock_man stock (suc n)))) (is_live mask (suc n)) parts.0 test)
    ]

king_there : (stock : List Man) (k : ℕ) → not (not (is_king_at (stock_man stock k))) ≡ true → (m : Man) × (stock_man stock k ≡ Some m) × (m.kind ≡ King)
king_there stock k h =
    elim (some_or_none (stock_man stock k)) [
      | inl found ↦ (found.0, found.1, king_told found.0.kind (subst (λ o. not (not (is_king_at o)) ≡ true) found.1 h))
      | inr none ↦ let told : not (not (is_king_at None)) ≡ true = subst (λ o. not (not (is_king_at o)) ≡ true) none h in absurd (cc)
    ]

in_kings : (stock : List Man) (mask n : ℕ) → KingsTo stock mask n → has_kings stock mask n ≡ true
in_kings stock mask zero h = refl
in_kings stock mask (suc n) h =
    true_both (not (is_king_at (stock_man stock (suc n))) || is_live mask (suc n)) (has_kings stock mask n)
    (true_either (not (is_king_at (stock_man stock (suc n)))) (is_live mask (suc n)) (λ test.
    let (m, is, king) = king_there stock (suc n) test in h (suc n) m is king (omega arith)))
    (in_kings stock mask n (λ k m is king high. h k m is king (omega (arith, high))))

record IsListed (p : Position) (n m : ℕ) : Type 0 where
  low : m < n
  part : is_part m (mask_of p) ≡ true
  kings : has_kings p.men m (length p.men) ≡ true

less_or_same : (m n : ℕ) → m < suc n → (m < n) ⊎ (m ≡ n)
less_or_same m n low = grind arith

masks_in : (p : Position) (n m : ℕ) → Contains (masks_to p n) m ↔ IsListed p n m
masks_in p zero m = (λ h. absurd (nothing m h), λ h. absurd (omega (arith, h.low)))
masks_in p (suc n) m =
    let step = pushed_if (is_part n (mask_of p) && has_kings p.men n (length p.men)) (masks_to p n) n m in
    let before = masks_in p n m in (
      λ h.
          elim (step.0 h) [
            | inl earlier ↦ let w = before.0 earlier in let less : m < n = w.low in record { low = omega arith; part = w.part; kings = w.kings }
            | inr e ↦
                let parts = both_true (is_part n (mask_of p)) (has_kings p.men n (length p.men)) e.0 in
                record { low = omega (arith, e.1); part = subst (λ k. is_part k (mask_of p) ≡ true) e.1 parts.0; kings = subst (λ k. has_kings p.men k (length p.men) ≡ true) e.1 parts.1 }
          ],
      λ h.
          elim (less_or_same m n h.low) [
            | inl earlier ↦ step.1 (inl (before.1 (record { low = earlier; part = h.part; kings = h.kings })))
            | inr same ↦
                step.1 (inr (
                  subst (λ k. (is_part k (mask_of p) && has_kings p.men k (length p.men)) ≡ true) same
                      (true_both (is_part m (mask_of p)) (has_kings p.men m (length p.men)) h.part h.kings),
                  sym same,
                ))
          ],
    )

live_of : (p : Position) (m : ℕ) → is_part m (mask_of p) ≡ true → (k : ℕ) (a : Man) → man_at p k ≡ Some a → is_live m k ≡ true → a.place ≢ Gone
live_of p m part zero a is on = absurd (cc)
live_of p m part (suc i) a is on = ((mask_tells p).live i a is).0 (part_bits m (mask_of p) part i (live_bit_is m i on))

mask_of_listed : {p : Position} {m : ℕ} → IsListed p (mask_of p + 1) m → IsGameMask p m
mask_of_listed {p} {m} h =
    let tells = mask_tells p in
    record {
      no_more = omega (arith, h.low, tells.no_more);
      live = live_of p m h.part;
      kings = λ k a is king.
          let in_stock : stock_man p.men k ≡ Some a = stock_man-men p k ∙ is in
          kings_in p.men m (length p.men) h.kings k a in_stock king (stock_number p.men k a in_stock).high;
    }

listed_of_mask : {p : Position} {m : ℕ} → IsGameMask p m → IsListed p (mask_of p + 1) m
listed_of_mask {p} {m} h =
    let tells = mask_tells p in
    let part : is_part m (mask_of p) ≡ true = bits_part (length p.men) m (mask_of p) h.no_more
    (λ i low one.
    let (a, is) = stock_has p.men (suc i) (omega arith) (omega (arith, low)) in (tells.live i a is).1 (h.live (suc i) a is (live_at m i (suc i) (omega arith) one)))
    in
    let less = and_le_r m (mask_of p) in
    let same : bit_and m (mask_of p) ≡ m = eqb-true (bit_and m (mask_of p)) m part in
    record { low = omega (arith, less, same); part = part; kings = in_kings p.men m (length p.men) (λ k a is king high. h.kings k a (sym (stock_man-men p k) ∙ is) king) }

-- the list has exactly the masks of the game
pub masks_are : (p : Position) (m : ℕ) → Contains (masks_of p) m ↔ IsGameMask p m
masks_are p m =
    let all = masks_in p (mask_of p + 1) m in (
      λ h. mask_of_listed (all.0 h),
      λ h. all.1 (listed_of_mask h),
    )
