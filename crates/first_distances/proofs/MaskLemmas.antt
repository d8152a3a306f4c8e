-- The masks after a move are of the game, and each capture leads to one of them.
use Rattle.std.proofs.Common.{◌≡◌, ◌≢◌, ℕ, zero, suc, ◌+◌, ◌<◌, ◌≤◌, Bool, true, false, not, List, [], ◌∷◌, ◌++◌, length, Some, inl, inr, refl, sym, ap, subst, ◌∙◌, arith, length-append}
use Rattle.std.specs.Prelude.{if◌then◌else◌, slice_get}
use Rattle.std.specs.List.{All}
use Rattle.std.proofs.lemmas.List.Elements.{All-append, All-cons, All-nil}
use Rattle.game_rules.specs.Game.{Position, Sound, other}
use Rattle.game_rules.specs.declared.men.Kind.TheVariants.{King}
use Rattle.game_rules.specs.declared.men.Man.{Man}
use Rattle.game_rules.specs.declared.men.Side.{Side}
use Rattle.mask_sets.specs.Stock.{mask_of}
use Rattle.game_laws.specs.Stock.{stock_man}
use Rattle.game_laws.proofs.StockLemmas.{stock_man-men}
use Rattle.rule_formula.specs.Fits.{IsGameMask, mask_without}
use Rattle.rule_formula.specs.Meaning.{IsPrey}
use Rattle.rule_formula.specs.Options.{is_king, is_prey, is_prey_man, is_side}
use Rattle.rule_formula.specs.Placed.{is_live, without}
use Rattle.rule_formula.proofs.BearLemmas.{stock_number}
use Rattle.rule_formula.proofs.ChainLemmas.{last_or_before}
use Rattle.rule_formula.proofs.GameTheorem.{fits_mask, sound_fits}
use Rattle.rule_formula.proofs.ListTheorem.{both_true, is_enemy, no_king, not_king, true_both}
use Rattle.rule_formula.proofs.MaskLemmas.{without_is, without_less}
use Rattle.rule_formula.proofs.MoveLemmas.{kept_live, was_live}
use Rattle.first_distances.specs.RayFormula.{capture_masks, capture_masks_to, masks_after}

-- a man that can be captured is live, and not a king
module _ (p : Position) (t : ℕ) (prey : is_prey p.men (mask_of p) p.turn t ≡ true) where
  prey_live : is_live (mask_of p) t ≡ true
  prey_live = (both_true (is_live (mask_of p) t) (is_prey_man p.turn (stock_man p.men t)) prey).0

  prey_piece : (m : Man) → stock_man p.men t ≡ Some m → m.kind ≢ King
  prey_piece m is =
      let man : is_prey_man p.turn (Some m) ≡ true = subst (λ o. is_prey_man p.turn o ≡ true) is (both_true (is_live (mask_of p) t) (is_prey_man p.turn (stock_man p.men t)) prey).1 in
      no_king m.kind (both_true (not (is_side m.side p.turn)) (not (is_king m.kind)) man).1

  -- the mask without him is of the game
  capture_game : Sound p → IsGameMask p (mask_without (mask_of p) t)
  capture_game sound =
      let game : IsGameMask p (mask_of p) = fits_mask p.turn p (sound_fits sound) in
      let bits : (k : ℕ) → 0 < k → is_live (mask_without (mask_of p) t) k ≡ without (is_live (mask_of p)) t k = λ k low. without_is (mask_of p) t k low (λ some. prey_live) in
      let less = without_less (mask_of p) t in
      let small = game.no_more in
      record {
        no_more = omega (arith, less, small);
        live = λ k m is on. game.live k m is (was_live (is_live (mask_of p) k) k t (sym (bits k (stock_number p.men k m (stock_man-men p k ∙ is)).low) ∙ on)).0;
        kings = λ k m is king.
            bits k (stock_number p.men k m (stock_man-men p k ∙ is)).low
            ∙ kept_live (is_live (mask_of p) k) k t (game.kings k m is king) (λ e. prey_piece m (subst (λ j. stock_man p.men j ≡ Some m) e (stock_man-men p k ∙ is)) king);
      }

All-if : {A : Type 0} (P : A → Type 0) (b : Bool) (xs : List A) (x : A) → All P xs → (b ≡ true → P x) → All P (if b then xs ++ x ∷ [] else xs)
All-if P true xs x all one = All-append P xs (x ∷ []) all (All-cons P x [] (one refl) (All-nil P))
All-if P false xs x all one = all

captures_game : (p : Position) (n : ℕ) → Sound p → All (IsGameMask p) (capture_masks_to p n)
captures_game p zero sound = All-nil (IsGameMask p)
captures_game p (suc n) sound =
    All-if (IsGameMask p) (is_prey p.men (mask_of p) p.turn (suc n)) (capture_masks_to p n) (mask_without (mask_of p) (suc n))
    (captures_game p n sound) (λ prey. capture_game p (suc n) prey sound)

pub masks_game : (p : Position) → Sound p → All (IsGameMask p) (masks_after p)
masks_game p sound =
    All-cons (IsGameMask p) (mask_of p) (capture_masks p) (fits_mask p.turn p (sound_fits sound)) (captures_game p (length p.men) sound)

-- there are few
few_if : (b : Bool) (xs : List ℕ) (x n : ℕ) → length xs ≤ n → length (if b then xs ++ x ∷ [] else xs) ≤ suc n
few_if true xs x n h = let more = length-append xs (x ∷ []) in omega (arith, h, more)
few_if false xs x n h = omega (arith, h)

pub captures_few : (p : Position) (n : ℕ) → length (capture_masks_to p n) ≤ n
captures_few p zero = omega arith
captures_few p (suc n) = few_if (is_prey p.men (mask_of p) p.turn (suc n)) (capture_masks_to p n) (mask_without (mask_of p) (suc n)) n (captures_few p n)

-- a mask that stands among the first ones stands there
module _ (x : ℕ) where
  at_end : (xs : List ℕ) → (j : ℕ) × (slice_get (xs ++ x ∷ []) j ≡ Some x)
  at_end [] = (zero, refl)
  at_end (y ∷ ys) = let (j, is) = at_end ys in (suc j, is)

  get_more : (xs : List ℕ) (y j : ℕ) → slice_get xs j ≡ Some y → slice_get (xs ++ x ∷ []) j ≡ Some y
  get_more [] y j is = absurd (cc)
  get_more (z ∷ zs) y zero is = is
  get_more (z ∷ zs) y (suc j) is = get_more zs y j is

  get_if : (b : Bool) (xs : List ℕ) (y : ℕ) → (j : ℕ) × (slice_get xs j ≡ Some y) → (j : ℕ) × (slice_get (if b then xs ++ x ∷ [] else xs) j ≡ Some y)
  get_if true xs y (j, is) = (j, get_more xs y j is)
  get_if false xs y h = h

  last_if : (b : Bool) (xs : List ℕ) → b ≡ true → (j : ℕ) × (slice_get (if b then xs ++ x ∷ [] else xs) j ≡ Some x)
  last_if true xs e = at_end xs
  last_if false xs e = absurd (cc)

captured : (p : Position) (t n : ℕ) → t ≤ n → 0 < t → is_prey p.men (mask_of p) p.turn t ≡ true
    → (j : ℕ) × (slice_get (capture_masks_to p n) j ≡ Some (mask_without (mask_of p) t))
captured p t zero high low prey = absurd (omega (arith, high, low))
captured p t (suc n) high low prey =
    let b : Bool = is_prey p.men (mask_of p) p.turn (suc n) in
    let last : ℕ = mask_without (mask_of p) (suc n) in
    elim (last_or_before t n high) [
      | inl before ↦ get_if last b (capture_masks_to p n) (mask_without (mask_of p) t) (captured p t n before low prey)
      | inr e ↦
          subst (λ j. (i : ℕ) × (slice_get (capture_masks_to p (suc n)) i ≡ Some (mask_without (mask_of p) j))) (sym e)
          (last_if last b (capture_masks_to p n) (subst (λ j. is_prey p.men (mask_of p) p.turn j ≡ true) e prey))
    ]

-- the mask after the capture of a man, or of none, is one of them
pub after_prey : (p : Position) (side : Side) (t : ℕ) → side ≡ p.turn → IsPrey p.men (mask_of p) side t
    → (j : ℕ) × (slice_get (masks_after p) j ≡ Some (mask_without (mask_of p) t))
after_prey p side zero is prey = (zero, refl)
after_prey p side (suc t) is (m, man, live, his, piece) =
    let so : is_prey_man p.turn (Some m) ≡ true =
    true_both (not (is_side m.side p.turn)) (not (is_king m.kind)) (is_enemy m.side p.turn (his ∙ ap other is)) (not_king m.kind piece) in
    let prey : is_prey p.men (mask_of p) p.turn (suc t) ≡ true =
    true_both (is_live (mask_of p) (suc t)) (is_prey_man p.turn (stock_man p.men (suc t))) live (subst (λ o. is_prey_man p.turn o ≡ true) (sym man) so) in
    let within = (stock_number p.men (suc t) m man).high in
    let (j, at) = captured p (suc t) (length p.men) within (omega arith) prey in
    (suc j, at)

-- the list, man by man
if_more : (b : Bool) (h x : ℕ) (xs : List ℕ) → (if b then (h ∷ xs) ++ x ∷ [] else h ∷ xs) ≡ h ∷ (if b then xs ++ x ∷ [] else xs)
if_more true h x xs = refl
if_more false h x xs = refl

pub captures_next : (p : Position) (n : ℕ) (old new : List ℕ) → old ≡ mask_of p ∷ capture_masks_to p n
    → new ≡ (if is_prey p.men (mask_of p) p.turn (n + 1) then old ++ mask_without (mask_of p) (n + 1) ∷ [] else old)
    → new ≡ mask_of p ∷ capture_masks_to p (n + 1)
captures_next p n old new was is =
    let next : n + 1 ≡ suc n = omega arith in
    let k : ℕ = suc n in
    let b : Bool = is_prey p.men (mask_of p) p.turn (suc n) in
    let x : ℕ = mask_without (mask_of p) (suc n) in
    subst (λ j. new ≡ mask_of p ∷ capture_masks_to p j) (sym next)
    (subst (λ j. new ≡ (if is_prey p.men (mask_of p) p.turn j then old ++ mask_without (mask_of p) j ∷ [] else old)) next is
    ∙ ap (λ xs. if b then xs ++ x ∷ [] else xs) was ∙ if_more b (mask_of p) x (capture_masks_to p n))

pub few_masks : (p : Position) (n : ℕ) (all : List ℕ) → all ≡ mask_of p ∷ capture_masks_to p n → n ≤ 8 → length all ≤ 9
few_masks p n all is low =
    let count = captures_few p n in
    let same : length all ≡ suc (length (capture_masks_to p n)) = ap length is in
    omega (arith, count, same, low)
