-- Lemmas on what becomes of the men.
use Rattle.std.proofs.Common.{◌≡◌, ◌≢◌, ◌⊎◌, inl, inr, ℕ, suc, ◌<◌, true, false, length, get_or, Option, Some, None, refl, sym, ap, subst, ◌∙◌, arith, ℤ}
use Rattle.std.proofs.lemmas.List.{same_lists}
use Rattle.std.proofs.lemmas.Option.{get_or_from_slice_get, slice_get-get_or}
use Rattle.std.proofs.lemmas.Bool.Decides.{Decides-int_eq, eqb_tells}
use Rattle.std.specs.Ordering.{int_eq}
use Rattle.game_rules.specs.Game.{Position, IsLeftBy, IsAfter, StandsOn, man_at, square_of}
use Rattle.game_rules.specs.declared.men.Man.{Man}
use Rattle.game_rules.specs.declared.men.Place.TheVariants.{Gone, At}
use Rattle.game_rules.specs.declared.men.Square.{Square}

-- two integers are the same or not
pub same_or_not : (a b : ℤ) → (a ≡ b) ⊎ (a ≢ b)
same_or_not a b =
    elim (int_eq a b) as (λ r. int_eq a b ≡ r → (a ≡ b) ⊎ (a ≢ b)) [
      | true ↦ λ h. inl ((Decides-int_eq a b).0 h)
      | false ↦ λ h. inr (λ e. let t : int_eq a b ≡ true = (Decides-int_eq a b).1 e in cc)
    ] refl

pub square_or_not : (o : Option Square) (z : Square) → (o ≡ Some z) ⊎ (o ≡ Some z → ⊥)
square_or_not None z = inr (λ e. cc)
square_or_not (Some a) z =
    elim (same_or_not a.x z.x) [
      | inl x ↦
          elim (same_or_not a.y z.y) [
            | inl y ↦ inl (ap (λ b. Some (record { x = b; y = a.y })) x ∙ ap (λ b. Some (record { x = z.x; y = b })) y)
            | inr ne ↦
                inr (λ e. let same : a ≡ z = cc in ne (ap (λ s. s.y) same))
          ]
      | inr ne ↦ inr (λ e. let same : a ≡ z = cc in ne (ap (λ s. s.x) same))
    ]

pub stands_or_not : (m : Man) (z : Square) → StandsOn m z ⊎ (StandsOn m z → ⊥)
stands_or_not m z = square_or_not (square_of m) z

-- what a man is after a move
module _ (p : Position) (i : ℕ) (z : Square) (q : Position) (after : IsAfter p i z q) (k : ℕ) (d : Man) (within : k < length p.men) where
  after_mover : suc k ≡ i → get_or q.men k d ≡ record (get_or p.men k d) { place = At z.x z.y }
  after_mover e =
      let is : man_at p i ≡ Some (get_or p.men k d) = subst (λ n. man_at p n ≡ Some (get_or p.men k d)) e (slice_get-get_or p.men k d within) in
      get_or_from_slice_get q.men k (record (get_or p.men k d) { place = At z.x z.y }) d
      (subst (λ n. man_at q n ≡ Some (record (get_or p.men k d) { place = At z.x z.y })) (sym e) (after.mover (get_or p.men k d) is))

  after_other : suc k ≢ i → IsLeftBy z (get_or p.men k d) (get_or q.men k d)
  after_other ne =
      let there : k < length q.men = omega (arith, after.same_count) in
      after.others (suc k) (get_or p.men k d) (get_or q.men k d) ne (slice_get-get_or p.men k d within) (slice_get-get_or q.men k d there)

-- a property of each man after a move, by the three cases
pub after_each : {p : Position} {i : ℕ} {z : Square} {q : Position} → IsAfter p i z q → (k : ℕ) (d : Man) → k < length p.men → (P : Man → Type 0)
    → (suc k ≡ i → P (record (get_or p.men k d) { place = At z.x z.y }))
    → (suc k ≢ i → StandsOn (get_or p.men k d) z → P (record (get_or p.men k d) { place = Gone }))
    → (suc k ≢ i → (StandsOn (get_or p.men k d) z → ⊥) → P (get_or p.men k d)) → P (get_or q.men k d)
after_each {p} {i} {z} {q} after k d within P mover taken kept =
    elim (eqb_tells (suc k) i) [
      | inl e ↦ subst P (sym (after_mover p i z q after k d within e.1)) (mover e.1)
      | inr e ↦ elim (stands_or_not (get_or p.men k d) z) [
        | inl s ↦ subst P (sym ((after_other p i z q after k d within e.1).taken s)) (taken e.1 s)
        | inr n ↦ subst P (sym ((after_other p i z q after k d within e.1).kept n)) (kept e.1 n)
      ]
    ]

-- a move leads to one position
pub same_after : {p : Position} {i : ℕ} {z : Square} {q r : Position} → IsAfter p i z q → IsAfter p i z r → q ≡ r
same_after {p} {i} {z} {q} {r} to_q to_r =
    let men : q.men ≡ r.men = same_lists q.men r.men (to_q.same_count ∙ sym to_r.same_count) (λ k d h.
    let within : k < length p.men = omega (arith, to_q.same_count, h) in
    after_each to_q k d within (λ m. m ≡ get_or r.men k d)
    (λ e. sym (after_mover p i z r to_r k d within e))
    (λ ne s. sym ((after_other p i z r to_r k d within ne).taken s))
    (λ ne n. sym ((after_other p i z r to_r k d within ne).kept n))) in
    ap (λ ms. record { men = ms; turn = q.turn }) men ∙ ap (λ t. record { men = r.men; turn = t }) (to_q.turn ∙ sym to_r.turn)
