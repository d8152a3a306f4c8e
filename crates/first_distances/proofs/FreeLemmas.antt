-- The formula of a ray speaks of the distance alone.
use Rattle.std.proofs.Common.{◌≡◌, ◌≢◌, ◌⊎◌, ℕ, zero, suc, ◌<◌, ◌≤◌, ℤ, pos, negsuc, Bool, true, false, List, [], ◌∷◌, length, Option, Some, None, inl, inr, refl, sym, subst, ◌∙◌, arith}
use Rattle.std.specs.Prelude.{if◌then◌else◌, slice_get}
use Rattle.game_rules.specs.Game.{Position, man_at}
use Rattle.game_rules.specs.declared.men.Ray.{Ray}
use Rattle.game_rules.specs.declared.men.Square.{Square}
use Rattle.track_word.specs.declared.tracks.Var.{Var}
use Rattle.lin_formula.specs.Free.{IsFree, IsOneOf}
use Rattle.lin_formula.specs.Tree.{Tree, Or, Value, free_vars}
use Rattle.lin_formula.proofs.FreeVars.{free_vars-ascend, free_vars-free}
use Rattle.formula_auto.proofs.Variables.{same-ascending}
use Rattle.rule_formula.specs.Placed.{is_live, without}
use Rattle.rule_formula.specs.Seats.{own}
use Rattle.rule_formula.specs.Trees.{man_square, own_tree}
use Rattle.rule_formula.proofs.ChainLemmas.{last_or_before}
use Rattle.rule_formula.proofs.MoveLemmas.{kept_live, same_number}
use Rattle.first_distances.specs.RayFormula.{gone_along, from_x, from_y, gone_from, line, or_lines, others_standing, standing, t_var}
use Rattle.first_distances.proofs.LineLemmas.{AllStand}
use Rattle.first_distances.proofs.SeatLemmas.{seated_own}
use Rattle.first_distances.proofs.SizeLemmas.{differs}

-- a variable is free in the formula of the others only if it is free in the formula, and none of theirs
module _ (p : Position) (mask i : ℕ) (z : Var) where
  abbrev IsOthers : ℕ → Type 0
  IsOthers n = (k : ℕ) → 0 < k → k ≤ n → without (is_live mask) i k ≡ true → (s : Square) → man_square (man_at p k) ≡ Some s → (z ≢ (own k).x) × (z ≢ (own k).y)

  standing_free : (k : ℕ) (o : Option Square) (f : Tree) → IsFree z (standing k o f)
      → IsFree z f × ((s : Square) → o ≡ Some s → (z ≢ (own k).x) × (z ≢ (own k).y))
  standing_free k None f h = (h, λ s e. absurd (cc))
  standing_free k (Some s) f (y, (x, h)) = (
    elim h [ inl rest ↦ elim rest [ inl free ↦ free | inr e ↦ absurd (x e) ] | inr e ↦ absurd (y e) ],
    λ t e. (x, y),
  )

  others_free : (n : ℕ) (f : Tree) → IsFree z (others_standing p mask i f n) → IsFree z f × IsOthers n
  others_free zero f h = (h, λ k low high on s is. absurd (omega (arith, low, high)))
  others_free (suc n) f h = by (without (is_live mask) i (suc n)) refl h (λ k. others_free n f k)
    where
      by : (b : Bool) → without (is_live mask) i (suc n) ≡ b
          → IsFree z (if b then standing (suc n) (man_square (man_at p (suc n))) (others_standing p mask i f n) else others_standing p mask i f n)
          → (IsFree z (others_standing p mask i f n) → IsFree z f × IsOthers n) → IsFree z f × IsOthers (suc n)
      by true is h so_far =
          let (inner, his) = standing_free (suc n) (man_square (man_at p (suc n))) (others_standing p mask i f n) h in
          let (free, before) = so_far inner in (
            free,
            λ k low high on s at. elim (last_or_before k n high) [
              | inl less ↦ before k low less on s at
              | inr e ↦
                  let one = his s (subst (λ j. man_square (man_at p j) ≡ Some s) e at) in
                  subst (λ j. (z ≢ (own j).x) × (z ≢ (own j).y)) (sym e) one
            ],
          )
      by false is h so_far =
          let (free, before) = so_far h in (
            free,
            λ k low high on s at. elim (last_or_before k n high) [
              | inl less ↦ before k low less on s at
              | inr e ↦ let no : true ≡ false = sym (subst (λ j. without (is_live mask) i j ≡ true) e on) ∙ is in absurd (cc)
            ],
          )

  module _ (stand : AllStand p mask) (number : ℕ) where
    -- so it is one of man i
    own_free : IsFree z (others_standing p mask i (own_tree (length p.men) mask number) (length p.men)) → (z ≡ (own i).x) ⊎ (z ≡ (own i).y)
    own_free h =
        let (among, others) = others_free (length p.men) (own_tree (length p.men) mask number) h in
        let s = seated_own (is_live mask) (length p.men) z among in
        elim (same_number s.number i) [
          | inl e ↦ subst (λ k. (z ≡ (own k).x) ⊎ (z ≡ (own k).y)) e s.is
          | inr ne ↦
              let (square, at) = stand s.number s.on s.low s.high in
              let none = others s.number s.low s.high (kept_live (is_live mask s.number) s.number i s.on ne) square at in
              elim s.is [ inl e ↦ absurd (none.0 e) | inr e ↦ absurd (none.1 e) ]
        ]

gone_free : (z x u : Var) (d : ℤ) → IsFree z (gone_from x d u) → (z ≡ x) ⊎ ((z ≡ t_var) ⊎ (z ≡ u))
gone_free z x u (pos zero) (inl e) = inl e
gone_free z x u (pos zero) (inr (inl e)) = inr (inr e)
gone_free z x u (pos zero) (inr (inr none)) = absurd none
gone_free z x u (pos (suc d)) (inl e) = inl e
gone_free z x u (pos (suc d)) (inr (inl e)) = inr (inl e)
gone_free z x u (pos (suc d)) (inr (inr (inl e))) = inr (inr e)
gone_free z x u (pos (suc d)) (inr (inr (inr none))) = absurd none
gone_free z x u (negsuc d) (inl e) = inl e
gone_free z x u (negsuc d) (inr (inl e)) = inr (inl e)
gone_free z x u (negsuc d) (inr (inr (inl e))) = inr (inr e)
gone_free z x u (negsuc d) (inr (inr (inr none))) = absurd none

module _ (z : Var) (i : ℕ) (r : Ray) (a : Square) (f : Tree) (only : IsFree z f → (z ≡ (own i).x) ⊎ (z ≡ (own i).y)) where
  along_free : IsFree z (gone_along i r (Some a) f) → z ≡ t_var
  along_free (x, (y, (of_x, (of_y, h)))) =
      elim h [
        | inr e ↦ elim e [ inl is ↦ is | inr none ↦ absurd none ]
        | inl four ↦ elim four [
          | inr e ↦ absurd (of_y e)
          | inl three ↦ elim three [
            | inr gone ↦ elim (gone_free z (own i).y from_y r.dy gone) [ inl e ↦ absurd (y e) | inr k ↦ elim k [ inl e ↦ e | inr e ↦ absurd (of_y e) ] ]
            | inl two ↦ elim two [
              | inr e ↦ absurd (of_x e)
              | inl one ↦ elim one [
                | inr gone ↦ elim (gone_free z (own i).x from_x r.dx gone) [ inl e ↦ absurd (x e) | inr k ↦ elim k [ inl e ↦ e | inr e ↦ absurd (of_x e) ] ]
                | inl free ↦ elim (only free) [ inl e ↦ absurd (x e) | inr e ↦ absurd (y e) ]
              ]
            ]
          ]
        ]
      ]

t_free : (i : ℕ) → 0 < i → i ≤ 8 → (r : Ray) (a : Square) (f : Tree) → IsFree t_var (gone_along i r (Some a) f)
t_free i low high r a f = (
  differs t_var (own i).x (λ e. omega (arith, low, high, e)),
  (
    differs t_var (own i).y (λ e. omega (arith, low, high, e)),
    (differs t_var from_x (λ e. omega (arith, e)), (differs t_var from_y (λ e. omega (arith, e)), inr (inl refl))),
  ),
)

module _ (p : Position) (i : ℕ) (low : 0 < i) (high : i ≤ 8) (r : Ray) (a : Square) (is : man_square (man_at p i) ≡ Some a) where
  line_free : (z : Var) (mask number : ℕ) → AllStand p mask → IsFree z (line p i r mask number) → z ≡ t_var
  line_free z mask number stand h =
      let f : Tree = others_standing p mask i (own_tree (length p.men) mask number) (length p.men) in
      along_free z i r a f (own_free p mask i z stand number) (subst (λ o. IsFree z (gone_along i r o f)) is h)

  line_t : (mask number : ℕ) → IsFree t_var (line p i r mask number)
  line_t mask number =
      let f : Tree = others_standing p mask i (own_tree (length p.men) mask number) (length p.men) in
      subst (λ o. IsFree t_var (gone_along i r o f)) (sym is) (t_free i low high r a f)

  lines_free : (z : Var) (f : Tree) (number : ℕ) (masks : List ℕ) → (IsFree z f → z ≡ t_var) → ((j mask : ℕ) → slice_get masks j ≡ Some mask → AllStand p mask)
      → IsFree z (or_lines p i r f number masks) → z ≡ t_var
  lines_free z f number [] first stand h = first h
  lines_free z f number (m ∷ ms) first stand h =
      lines_free z (Or f (line p i r m number)) (suc number) ms
      (λ k. elim k [ inl l ↦ first l | inr l ↦ line_free z m number (stand zero m refl) l ]) (λ j mask at. stand (suc j) mask at) h

  lines_t : (f : Tree) (number : ℕ) (masks : List ℕ) → IsFree t_var f → IsFree t_var (or_lines p i r f number masks)
  lines_t f number [] h = h
  lines_t f number (m ∷ ms) h = lines_t (Or f (line p i r m number)) (suc number) ms (inl h)

  pub formula_free : (mask : ℕ) (masks : List ℕ) → ((j m : ℕ) → slice_get (mask ∷ masks) j ≡ Some m → AllStand p m)
      → free_vars (or_lines p i r (line p i r mask 0) 1 masks) ≡ t_var ∷ []
  formula_free mask masks stand =
      let f : Tree = or_lines p i r (line p i r mask 0) 1 masks in
      same-ascending (free_vars f) (t_var ∷ []) (free_vars-ascend f) (free_vars-ascend (Value t_var (pos 0)))
      (λ z one. inl (lines_free z (line p i r mask 0) 1 masks (line_free z mask 0 (stand zero mask refl)) (λ j m at. stand (suc j) m at) ((free_vars-free f z).0 one)))
      (λ z one. elim one [
        | inl e ↦ subst (λ x. IsOneOf x (free_vars f)) (sym e) ((free_vars-free f t_var).1 (lines_t (line p i r mask 0) 1 masks (line_t mask 0)))
        | inr none ↦ absurd none
      ])
