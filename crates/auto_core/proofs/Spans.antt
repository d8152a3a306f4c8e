-- Sums and the states that stand for them.
use Rattle.std.proofs.Common.{◌≡◌, ◌↔◌, ℕ, suc, ℤ, pos, negsuc, neg_ℤ, ◌+ℤ◌, ◌*ℤ◌, ◌≤ℤ◌, ◌<ℤ◌, ◌+◌, ◌<◌, List, [], ◌∷◌, length, map, arith, inl, inr, ◌⊎◌, refl, sym, ap, ◌∙◌, subst}
use Rattle.std.specs.List.{sum_by}
use Rattle.std.specs.Int.{bit_at}
use Rattle.std.proofs.lemmas.Int.{ints, by_lt_z}
use Rattle.std.proofs.lemmas.List.Sums.{sum_by-cons}
use Rattle.track_word.proofs.LetterBits.{bit_cases}
use Rattle.track_word.specs.declared.atoms.Rel.{Rel}
use Rattle.track_word.specs.declared.atoms.Rel.TheVariants.{Le, Eq}
use Rattle.track_word.specs.Atom.{Compares}
use Rattle.auto_core.specs.declared.sums.ValueRange.{ValueRange}
use Rattle.auto_core.specs.Sums.{gain, loss, weight_from, IsSpan, IsSpanOf, StandsFor}

-- what a letter adds lies between what the weights can take away and what they can add
pub record IsBetween (down up : ℕ) (z : ℤ) : Type 0 where
  pub low : neg_ℤ (pos down) ≤ℤ z
  pub high : z ≤ℤ pos up

one-weight : (w : ℤ) (bit : ℕ) → (bit ≡ 0) ⊎ (bit ≡ 1) → IsBetween (loss w) (gain w) (w *ℤ pos bit)
one-weight (pos n) bit (inl z) = rw z (record { low = omega (arith, ints); high = omega (arith, ints) })
one-weight (pos n) bit (inr o) = rw o (record { low = omega (arith, ints); high = omega (arith, ints) })
one-weight (negsuc n) bit (inl z) = rw z (record { low = omega (arith, ints); high = omega (arith, ints) })
one-weight (negsuc n) bit (inr o) = rw o (record { low = omega (arith, ints); high = omega (arith, ints) })

both : (a b c d : ℕ) (x y : ℤ) → IsBetween a b x → IsBetween c d y → IsBetween (a + c) (b + d) (x +ℤ y)
both a b c d x y p q =
    let pl = p.low in
    let ph = p.high in
    let ql = q.low in
    let qh = q.high in
    record { low = omega (arith, ints, pl, ql); high = omega (arith, ints, ph, qh) }

pub weight-between : (weights : List ℤ) (track letter : ℕ) → IsBetween (sum_by loss weights) (sum_by gain weights) (weight_from track weights letter)
weight-between [] track letter = record { low = omega (arith, ints); high = omega (arith, ints) }
weight-between (w ∷ weights) track letter =
    rw (sum_by-cons loss w weights, sum_by-cons gain w weights)
    (both (loss w) (gain w) (sum_by loss weights) (sum_by gain weights) (w *ℤ pos (bit_at letter track)) (weight_from (suc track) weights letter)
    (one-weight w (bit_at letter track) (bit_cases letter track)) (weight-between weights (suc track) letter))

-- the weights of a sign letter
pub weight-neg : (weights : List ℤ) (track letter : ℕ) → weight_from track (map neg_ℤ weights) letter ≡ neg_ℤ (weight_from track weights letter)
weight-neg [] track letter = refl
weight-neg (w ∷ weights) track letter = rw (weight-neg weights (suc track) letter) (negated w (bit_at letter track) (weight_from (suc track) weights letter) (bit_cases letter track))
  where
    negated : (w : ℤ) (bit : ℕ) (rest : ℤ) → (bit ≡ 0) ⊎ (bit ≡ 1) → (neg_ℤ w *ℤ pos bit) +ℤ neg_ℤ rest ≡ neg_ℤ ((w *ℤ pos bit) +ℤ rest)
    negated w bit rest (inl z) = rw z (omega (arith, ints))
    negated w bit rest (inr o) = rw o (omega (arith, ints))

-- letters with equal bits on the weights' tracks
pub weight-same : (weights : List ℤ) (track a b : ℕ) → ((k : ℕ) → k < track + length weights → bit_at a k ≡ bit_at b k) → weight_from track weights a ≡ weight_from track weights b
weight-same [] track a b same = refl
weight-same (w ∷ weights) track a b same =
    ap (λ n. (w *ℤ pos n) +ℤ weight_from (suc track) weights a) (same track (omega arith))
    ∙ ap (λ z. (w *ℤ pos (bit_at b track)) +ℤ z) (weight-same weights (suc track) a b (λ k h. same k (omega (arith, h))))

-- a sum has one state
pub StandsFor-one : {span : ValueRange} (x : ℤ) (s t : ℕ) → IsSpan span → StandsFor span x s → StandsFor span x t → s ≡ t
StandsFor-one {span} x s t is a b =
    by_lt_z x span.low (λ h. let h' : x ≤ℤ span.low = omega (arith, ints, h) in a.below h' ∙ sym (b.below h'))
    (λ low. by_lt_z span.high x (λ h. let h' : span.high ≤ℤ x = omega (arith, ints, h) in let p = a.above h' in let q = b.above h' in omega (arith, ints, p, q))
    (λ high. let p = a.between low high in let q = b.between low high in omega (arith, ints, p, q)))

-- one more letter after a sum, from the value of its state
pub StandsFor-more : {weights : List ℤ} {bound : ℤ} {span : ValueRange} (x d : ℤ) (s t : ℕ) → IsSpanOf weights bound span
    → IsBetween (sum_by loss weights) (sum_by gain weights) d → StandsFor span x s
    → StandsFor span (((span.low +ℤ pos s) +ℤ (span.low +ℤ pos s)) +ℤ d) t → StandsFor span (x +ℤ x +ℤ d) t
StandsFor-more {span} x d s t is between here there =
    let gains = is.gains in
    let losses = is.losses in
    let some = is.is_span.some in
    let dl = between.low in
    let dh = between.high in
    by_lt_z x span.low
    (λ h.
    let h' : x ≤ℤ span.low = omega (arith, ints, h) in
    let zero_state = here.below h' in
    let end : t ≡ 0 = there.below (omega (arith, ints, zero_state, gains, dh)) in
    record {
      within = there.within;
      below = λ _. end;
      between = λ a b. absurd (let no : (x +ℤ x +ℤ d) <ℤ span.low = omega (arith, ints, h, gains, dh) in omega (arith, ints, no, a));
      above = λ a. absurd (let no : (x +ℤ x +ℤ d) <ℤ span.low = omega (arith, ints, h, gains, dh) in omega (arith, ints, no, a, some));
    })
    (λ low. by_lt_z span.high x
    (λ h.
    let top = here.above (let h' : span.high ≤ℤ x = omega (arith, ints, h) in h') in
    let far : span.high ≤ℤ (((span.low +ℤ pos s) +ℤ (span.low +ℤ pos s)) +ℤ d) = omega (arith, ints, top, losses, dl) in
    let end = there.above far in
    let no : span.high <ℤ (x +ℤ x +ℤ d) = omega (arith, ints, h, losses, dl) in
    record {
      within = there.within;
      below = λ a. absurd (omega (arith, ints, no, a, some));
      between = λ a b. absurd (omega (arith, ints, no, b));
      above = λ _. end;
    })
    (λ high.
    let same = here.between low high in
    subst (λ z. StandsFor span z t) (let e : ((span.low +ℤ pos s) +ℤ (span.low +ℤ pos s)) +ℤ d ≡ x +ℤ x +ℤ d = omega (arith, ints, same) in e) there))

-- the value of a sum's state compares with the bound as the sum does
pub Compares-state : (rel : Rel) {weights : List ℤ} {bound : ℤ} {span : ValueRange} {x : ℤ} {s : ℕ} → IsSpanOf weights bound span → StandsFor span x s
    → Compares rel (span.low +ℤ pos s) bound ↔ Compares rel x bound
Compares-state rel {bound} {span} {x} {s} is here =
    let lower = is.below in
    let upper = is.above in
    by_lt_z x span.low
    (λ h.
    let h' : x ≤ℤ span.low = omega (arith, ints, h) in
    let end = here.below h' in
    ends rel (span.low +ℤ pos s) x bound (inl (let p : (span.low +ℤ pos s) <ℤ bound = omega (arith, ints, end, lower) in let q : x <ℤ bound = omega (arith, ints, h, lower) in (p, q))))
    (λ low. by_lt_z span.high x
    (λ h.
    let end = here.above (let h' : span.high ≤ℤ x = omega (arith, ints, h) in h') in
    ends rel (span.low +ℤ pos s) x bound (inr (let p : bound <ℤ (span.low +ℤ pos s) = omega (arith, ints, end, upper) in let q : bound <ℤ x = omega (arith, ints, h, upper) in (p, q))))
    (λ high. let same = here.between low high in subst (λ z. Compares rel (span.low +ℤ pos s) bound ↔ Compares rel z bound) same (λ p. p, λ p. p)))
  where
    ends : (rel : Rel) (a b bound : ℤ) → ((a <ℤ bound) × (b <ℤ bound)) ⊎ ((bound <ℤ a) × (bound <ℤ b)) → Compares rel a bound ↔ Compares rel b bound
    ends Le a b bound (inl (p, q)) = (λ _. omega (arith, ints, q), λ _. omega (arith, ints, p))
    ends Le a b bound (inr (p, q)) = (λ e. absurd (omega (arith, ints, e, p)), λ e. absurd (omega (arith, ints, e, q)))
    ends Eq a b bound (inl (p, q)) = (λ e. absurd (omega (arith, ints, e, p)), λ e. absurd (omega (arith, ints, e, q)))
    ends Eq a b bound (inr (p, q)) = (λ e. absurd (omega (arith, ints, e, p)), λ e. absurd (omega (arith, ints, e, q)))
