-- The formula of a ray holds of the distances of first moves.
use Rattle.std.proofs.Common.{◌≡◌, ℕ, zero, suc, ◌≤◌, pos, length, Option, Some, inl, inr, refl, sym, ap, subst, ◌∙◌, arith}
use Rattle.std.specs.Prelude.{IsSomeAnd, slice_get}
use Rattle.std.proofs.lemmas.List.Elements.{All-get_or}
use Rattle.std.proofs.lemmas.Option.{get_or_from_slice_get, slice_get_within}
use Rattle.game_rules.specs.Game.{Position, Sound, man_at}
use Rattle.game_rules.specs.declared.men.Ray.{Ray}
use Rattle.game_rules.specs.declared.men.Side.{Side}
use Rattle.mask_sets.specs.Stock.{mask_of}
use Rattle.game_laws.proofs.StockLemmas.{stock_has, stock_man-men}
use Rattle.track_word.specs.Tracks.{Values}
use Rattle.lin_formula.specs.Holds.{Holds}
use Rattle.lin_formula.specs.Tree.{Tree}
use Rattle.rule_formula.specs.Fits.{IsGameMask}
use Rattle.rule_formula.specs.Trees.{man_square}
use Rattle.rule_formula.proofs.PointTracks.{place_there}
use Rattle.winning_sets.specs.Kept.{Kept}
use Rattle.winning_sets.specs.Solve.{IsTupleOf}
use Rattle.move_choice.specs.Aims.{IsMover}
use Rattle.winner_session.specs.Firsts.{Firsts}
use Rattle.first_distances.specs.FirstSet.{kept_after}
use Rattle.first_distances.specs.RayFormula.{capture_masks, line, masks_after, or_lines, ray_formula}
use Rattle.first_distances.proofs.AfterLemmas.{first_kept, kept_first}
use Rattle.first_distances.proofs.LineLemmas.{AllStand, line_to, lines_hold, to_line, tuple_gone}
use Rattle.first_distances.proofs.MaskLemmas.{masks_game}
use Rattle.first_distances.proofs.MoverLemmas.{formula_is, his_dx, his_dy, his_high, his_low, his_square_is}

-- the men of a mask of the game stand in the position
all_stand : (p : Position) (mask : ℕ) → IsGameMask p mask → AllStand p mask
all_stand p mask game k on low high =
    let (m, in_stock) = stock_has p.men k low high in
    let is : man_at p k ≡ Some m = sym (stock_man-men p k) ∙ in_stock in
    let (z, stands) = place_there m (game.live k m is on) in
    (z, ap man_square is ∙ stands)

-- one of the masks is of the game
pub mask_game : (p : Position) → Sound p → (j mask : ℕ) → slice_get (masks_after p) j ≡ Some mask → IsGameMask p mask
mask_game p sound j mask at =
    subst (IsGameMask p) (get_or_from_slice_get (masks_after p) j mask mask at)
    (All-get_or (IsGameMask p) (masks_after p) j mask (slice_get_within (masks_after p) j mask at) (masks_game p sound))

pub masks_stand : (p : Position) → Sound p → (j mask : ℕ) → slice_get (masks_after p) j ≡ Some mask → AllStand p mask
masks_stand p sound j mask at = all_stand p mask (mask_game p sound j mask at)

module _ {p : Position} {i ray : ℕ} {r : Ray} (mover : IsMover p i ray r) where
  module _ (few : length p.men ≤ 8) (sound : Sound p) (w : Side) (turn : p.turn ≡ w) (n : ℕ) (v : Values) where
    within : i ≤ 8
    within = let high = his_high mover in omega (arith, high, few)

    -- the distance of a first move
    abbrev IsFirstAt : Type 0
    IsFirstAt = (t : ℕ) × (v 18 ≡ pos t) × Firsts w n p i ray t

    from_line : (j mask : ℕ) → slice_get (masks_after p) j ≡ Some mask → Holds (line p i r mask j) (kept_after w n p) v → IsFirstAt
    from_line j mask at h =
        let (t, some, is, kept) =
        line_to p few i (his_low mover) within r (his_dx mover) (his_dy mover) mover.square (his_square_is mover) mask (masks_stand p sound j mask at) j (kept_after w n p) v h in
        let here : IsTupleOf (Kept w p n 1) mask (tuple_gone p i r mover.square mask t) =
        subst (λ (o : Option ℕ). IsSomeAnd o (λ m. IsTupleOf (Kept w p n 1) m (tuple_gone p i r mover.square mask t))) at kept in
        (t, is, kept_first mover sound w turn n t mask some (mask_game p sound j mask at) here)

    to_its_line : (t : ℕ) → v 18 ≡ pos t → Firsts w n p i ray t → (j mask : ℕ) × (slice_get (masks_after p) j ≡ Some mask) × Holds (line p i r mask j) (kept_after w n p) v
    to_its_line t is first =
        let (j, mask, at, kept) = first_kept mover sound w turn n t first in
        let here : kept_after w n p j (tuple_gone p i r mover.square mask t) =
        subst (λ (o : Option ℕ). IsSomeAnd o (λ m. IsTupleOf (Kept w p n 1) m (tuple_gone p i r mover.square mask t))) (sym at) kept in
        let some = first.on.leads.begun in (
          j,
          mask,
          at,
          to_line p few i (his_low mover) within r (his_dx mover) (his_dy mover) mover.square (his_square_is mover) mask (masks_stand p sound j mask at) j (kept_after w n p) v t some is here,
        )

    abbrev Lines : Tree
    Lines = or_lines p i r (line p i r (mask_of p) 0) 1 (capture_masks p)

    lines_first : Holds Lines (kept_after w n p) v → IsFirstAt
    lines_first h =
        elim ((lines_hold p i r (line p i r (mask_of p) 0) 1 (capture_masks p) (kept_after w n p) v).0 h) [
          | inl first ↦ from_line 0 (mask_of p) refl first
          | inr (j, mask, at, later) ↦ from_line (suc j) mask at (subst (λ k. Holds (line p i r mask k) (kept_after w n p) v) (omega arith) later)
        ]

    one_line : (j mask : ℕ) → slice_get (masks_after p) j ≡ Some mask → Holds (line p i r mask j) (kept_after w n p) v → Holds Lines (kept_after w n p) v
    one_line zero mask at h =
        let same : mask_of p ≡ mask = cc in
        (lines_hold p i r (line p i r (mask_of p) 0) 1 (capture_masks p) (kept_after w n p) v).1
        (inl (subst (λ m. Holds (line p i r m 0) (kept_after w n p) v) (sym same) h))
    one_line (suc j) mask at h =
        (lines_hold p i r (line p i r (mask_of p) 0) 1 (capture_masks p) (kept_after w n p) v).1
        (inr (j, mask, at, subst (λ k. Holds (line p i r mask k) (kept_after w n p) v) (omega arith) h))

    first_lines : (t : ℕ) → v 18 ≡ pos t → Firsts w n p i ray t → Holds Lines (kept_after w n p) v
    first_lines t is first = let (j, mask, at, h) = to_its_line t is first in one_line j mask at h

    pub formula_first : Holds (ray_formula p i ray) (kept_after w n p) v → (t : ℕ) × (v 18 ≡ pos t) × Firsts w n p i ray t
    formula_first h = lines_first (subst (λ f. Holds f (kept_after w n p) v) (formula_is mover) h)

    pub first_formula : (t : ℕ) → v 18 ≡ pos t → Firsts w n p i ray t → Holds (ray_formula p i ray) (kept_after w n p) v
    first_formula t is first = subst (λ f. Holds f (kept_after w n p) v) (sym (formula_is mover)) (first_lines t is first)
