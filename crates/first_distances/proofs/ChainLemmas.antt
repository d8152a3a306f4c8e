-- The formula of a ray, line by line.
use Rattle.std.proofs.Common.{◌≡◌, ℕ, zero, suc, ◌+◌, ◌-◌, ◌<◌, ◌≤◌, List, [], ◌∷◌, ◌++◌, length, take, sym, ap, ◌∙◌, arith}
use Rattle.std.specs.Prelude.{slice_index}
use Rattle.std.proofs.Math.Seq.{take-length, take-suc}
use Rattle.std.proofs.lemmas.List.{length-take-le}
use Rattle.game_rules.specs.Game.{Position}
use Rattle.game_rules.specs.declared.men.Ray.{Ray}
use Rattle.lin_formula.specs.Tree.{Tree, Or}
use Rattle.mask_sets.specs.Stock.{mask_of}
use Rattle.first_distances.specs.RayFormula.{capture_masks, line, masks_after, or_lines}

module _ (p : Position) (i : ℕ) (r : Ray) where
  lines_more : (f : Tree) (number : ℕ) (masks : List ℕ) (m : ℕ)
      → or_lines p i r f number (masks ++ m ∷ []) ≡ Or (or_lines p i r f number masks) (line p i r m (number + length masks))
  lines_more f number [] m = ap (λ k. Or f (line p i r m k)) (omega arith)
  lines_more f number (n ∷ ms) m =
      lines_more (Or f (line p i r n number)) (suc number) ms m
      ∙ ap (λ k. Or (or_lines p i r (Or f (line p i r n number)) (suc number) ms) (line p i r m k)) (omega arith)

  -- the lines of the masks up to a place
  abbrev pub lines_to : ℕ → Tree
  lines_to k = or_lines p i r (line p i r (mask_of p) 0) 1 (take (k - 1) (capture_masks p))

  pub line_next : (masks : List ℕ) (k : ℕ) (chain new : Tree) → masks ≡ masks_after p → 1 ≤ k → k < length masks → chain ≡ lines_to k
      → new ≡ Or chain (line p i r (slice_index masks k) k) → new ≡ lines_to (k + 1)
  line_next masks zero chain new are some low is now = absurd (omega (arith, some))
  line_next masks (suc j) chain new are some low is now =
      let xs : List ℕ = capture_masks p in
      let size : length masks ≡ suc (length xs) = ap length are in
      let within : j < length xs = omega (arith, low, size) in
      let at : slice_index masks (suc j) ≡ slice_index xs j = ap (λ l. slice_index l (suc j)) are in
      let before : suc j - 1 ≡ j = omega arith in
      let after : suc j + 1 - 1 ≡ suc j = omega arith in
      let count : 1 + length (take j xs) ≡ suc j = let same = length-take-le j xs (omega (arith, within)) in omega (arith, same) in
      let first : Tree = line p i r (mask_of p) 0 in
      now ∙ ap (λ c. Or c (line p i r (slice_index masks (suc j)) (suc j))) (is ∙ ap (λ n. or_lines p i r first 1 (take n xs)) before)
      ∙ ap (λ m. Or (or_lines p i r first 1 (take j xs)) (line p i r m (suc j))) at
      ∙ ap (λ n. Or (or_lines p i r first 1 (take j xs)) (line p i r (slice_index xs j) n)) (sym count)
      ∙ sym (lines_more first 1 (take j xs) (slice_index xs j)) ∙ ap (or_lines p i r first 1) (sym (take-suc xs j 0 within))
      ∙ ap (λ n. or_lines p i r first 1 (take n xs)) (sym after)

  pub lines_all : (masks : List ℕ) (k : ℕ) → masks ≡ masks_after p → length masks ≡ k
      → lines_to k ≡ or_lines p i r (line p i r (mask_of p) 0) 1 (capture_masks p)
  lines_all masks k are count =
      let size : length masks ≡ suc (length (capture_masks p)) = ap length are in
      let last : k - 1 ≡ length (capture_masks p) = omega (arith, count, size) in
      ap (or_lines p i r (line p i r (mask_of p) 0) 1) (ap (λ n. take n (capture_masks p)) last ∙ take-length (capture_masks p))
