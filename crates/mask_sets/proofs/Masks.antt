-- The mask of a position is that of its live men. Other crates cite mask_small, mask_tells and mask_one.
use Rattle.std.proofs.Common.{◌≡◌, ◌≢◌, ◌⊎◌, ◌↔◌, ℕ, zero, suc, ◌+◌, ◌*◌, ◌%◌, ◌/◌, ◌^◌, ◌<◌, List, [], ◌∷◌, length, Some, inl, inr, refl, sym, ap, ◌∙◌, arith}
use Rattle.std.specs.Prelude.{slice_get}
use Rattle.std.specs.Int.{bit_at}
use Rattle.std.proofs.Math.Nat.{pow-succ'}
use Rattle.std.proofs.lemmas.Nat.Bits.{bit_at-lt, bit_at-suc, bit_at_lowest, same_from_bits_below}
use Rattle.game_rules.specs.declared.men.Man.{Man}
use Rattle.game_rules.specs.declared.men.Place.{Place}
use Rattle.game_rules.specs.declared.men.Place.TheVariants.{Gone, At}
use Rattle.game_rules.specs.Game.{IsMaskOf, Position, place_square, square_of}
use Rattle.mask_sets.specs.Stock.{live_bit, mask_of, mask_of_men}
use Rattle.game_laws.proofs.StockLemmas.{stock_has}

place_bit_small : (x : Place) → live_bit (place_square x) < 2
place_bit_small Gone = omega arith
place_bit_small (At x y) = omega arith

bit_small : (m : Man) → live_bit (square_of m) < 2
bit_small m = place_bit_small m.place

mask_bits : (ms : List Man) (i : ℕ) (m : Man) → slice_get ms i ≡ Some m → bit_at (mask_of_men ms) i ≡ live_bit (square_of m)
mask_bits [] i m is = absurd (cc)
mask_bits (x ∷ xs) zero m is =
    let same : x ≡ m = cc in
    let small = bit_small x in
    let lowest = bit_at_lowest (mask_of_men (x ∷ xs)) in
    let rest : (live_bit (square_of x) + 2 * mask_of_men xs) % 2 ≡ live_bit (square_of x) = omega (arith, small) in
    lowest ∙ rest ∙ ap (λ (a : Man). live_bit (square_of a)) same
mask_bits (x ∷ xs) (suc i) m is =
    let small = bit_small x in
    let half : (live_bit (square_of x) + 2 * mask_of_men xs) / 2 ≡ mask_of_men xs = omega (arith, small) in
    bit_at-suc (mask_of_men (x ∷ xs)) i ∙ ap (λ n. bit_at n i) half ∙ mask_bits xs i m is

pub mask_small : (ms : List Man) → mask_of_men ms < 2 ^ length ms
mask_small [] = omega arith
mask_small (x ∷ xs) =
    let small = bit_small x in
    let rest = mask_small xs in
    let power : 2 ^ suc (length xs) ≡ 2 * 2 ^ length xs = pow-succ' 2 (length xs) in
    omega (arith, small, rest, power)

place_bit_live : (x : Place) → (live_bit (place_square x) ≡ 1) ↔ (x ≢ Gone)
place_bit_live Gone = (λ h. absurd (omega (arith, h)), λ h. absurd (h refl))
place_bit_live (At x y) = (λ h same. cc, λ h. refl)

bit_live : (m : Man) → (live_bit (square_of m) ≡ 1) ↔ (m.place ≢ Gone)
bit_live m = place_bit_live m.place

-- the mask is that of the live men
pub mask_tells : (q : Position) → IsMaskOf q (mask_of q)
mask_tells q =
    record {
      live = λ i m is.
          let bits = mask_bits q.men i m is in
          let alive = bit_live m in
          (λ h. alive.0 (sym bits ∙ h), λ h. bits ∙ alive.1 h);
      no_more = mask_small q.men;
    }

one_or_zero : (n : ℕ) → n < 2 → (n ≡ 1) ⊎ (n ≡ 0)
one_or_zero zero small = inr refl
one_or_zero (suc zero) small = inl refl
one_or_zero (suc (suc n)) small = absurd (omega (arith, small))

same_bit : (a b : ℕ) (P : Type 0) → a < 2 → b < 2 → (a ≡ 1) ↔ P → (b ≡ 1) ↔ P → a ≡ b
same_bit a b P low less h k =
    elim (one_or_zero a low) [
      | inl one ↦ one ∙ sym (k.1 (h.0 one))
      | inr none ↦ elim (one_or_zero b less) [
        | inl one ↦ let both : a ≡ 1 = h.1 (k.0 one) in absurd (omega (arith, both, none))
        | inr also ↦ none ∙ sym also
      ]
    ]

-- and no other number is
pub mask_one : {q : Position} {mask : ℕ} → IsMaskOf q mask → mask ≡ mask_of q
mask_one {q} {mask} h =
    let tells = mask_tells q in
    same_from_bits_below (length q.men) mask (mask_of q) h.no_more tells.no_more
    (λ i low.
    let (m, is) = stock_has q.men (suc i) (omega arith) (omega (arith, low)) in
    same_bit (bit_at mask i) (bit_at (mask_of q) i) (m.place ≢ Gone) (bit_at-lt mask i) (bit_at-lt (mask_of q) i) (h.live i m is) (tells.live i m is))
