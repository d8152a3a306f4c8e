-- Lemmas on masks.
use Rattle.std.proofs.Common.{◌≡◌, ◌≢◌, inl, inr, ℕ, ◌+◌, ◌*◌, ◌%◌, ◌^◌, ◌<◌, List, Some, sym, ap, subst, ◌∙◌, arith}
use Rattle.std.specs.Prelude.{slice_get}
use Rattle.std.specs.Int.{bit_at}
use Rattle.std.proofs.Math.Pow.{pow-lt}
use Rattle.std.proofs.lemmas.Nat.Bits.{bit_at_above}
use Rattle.game_rules.specs.declared.men.Man.{Man}
use Rattle.game_rules.specs.declared.men.Place.TheVariants.{Gone}
use Rattle.chess_game.specs.Mask.{IsMaskBelow}
use Rattle.chess_game.proofs.UnsoundnessLemmas.{number_cases}

-- a bit is below each power past its place
pub bit_below : (k n : ℕ) → k < 8 → k < n → 1 * 2 ^ k % 256 < 2 ^ n
bit_below k n low less = omega (arith, pow-lt {i = k} {j = n} less)

-- a captured man leaves the mask as it is
pub mask_skip : (ms : List Man) (n mask : ℕ) (d : Man) → slice_get ms n ≡ Some d → IsMaskBelow ms n mask → (d.place ≢ Gone → ⊥) → IsMaskBelow ms (n + 1) mask
mask_skip ms n mask d is h gone =
    record {
      live = λ k m low is_m.
          elim (number_cases k n) [
            | inl less ↦ h.live k m less is_m
            | inr rest ↦ elim rest [
              | inl same ↦
                  let zero_bit : bit_at mask k ≡ 0 = bit_at_above mask n k h.no_more (omega arith) in
                  let both : Some m ≡ Some d = sym is_m ∙ ap (slice_get ms) same ∙ is in
                  let who : m ≡ d = cc in
                  (λ one. absurd (omega arith), λ live. absurd (gone (subst (λ b. b.place ≢ Gone) who live)))
              | inr past ↦ absurd (omega arith)
            ]
          ];
      no_more =
          let wider : 2 ^ n < 2 ^ (n + 1) = pow-lt {i = n} {j = n + 1} (omega arith) in
          omega (arith, h.no_more);
    }
