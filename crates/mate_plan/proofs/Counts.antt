-- How many formulas a union has.
use Rattle.std.proofs.Common.{ℕ, zero, suc, ◌+◌, ◌*◌, ◌^◌, ◌<◌, ◌≤◌, Bool, true, false, List, [], ◌∷◌, ◌++◌, length, Option, Some, None, arith, length-append}
use Rattle.std.proofs.lemmas.List.{length-map}
use Rattle.std.specs.Prelude.{filter, nat_lt, if◌then◌else◌, ◌&&◌, ◌==◌}
use Rattle.std.specs.List.{flat_map}
use Rattle.std.proofs.Math.Pow.{pow_mono}
use Rattle.game_rules.specs.Game.{Position, other}
use Rattle.game_rules.specs.Rays.{rays_of, serves_captures}
use Rattle.game_rules.specs.declared.men.Kind.{Kind}
use Rattle.chess_game.proofs.AnswerBounds.{rays_few}
use Rattle.game_rules.specs.declared.men.Man.{Man}
use Rattle.game_rules.specs.declared.men.Side.{Side}
use Rattle.lin_formula.specs.declared.formula.SetId.{SetId}
use Rattle.rule_formula.specs.declared.opt.Opt.{Opt}
use Rattle.rule_formula.specs.Bearings.{along_rays, bearing, bearings_of, bearings_to, king_number, man_bearings}
use Rattle.rule_formula.specs.Fits.{is_game_mask, masks_of, masks_to, target_of}
use Rattle.mask_sets.specs.Stock.{mask_of}
use Rattle.game_laws.specs.Stock.{stock_man}
use Rattle.rule_formula.specs.Options.{is_side, options_of}
use Rattle.rule_formula.specs.Placed.{is_live}
use Rattle.rule_formula.specs.Trees.{bear_of, image_of}
use Rattle.mask_sets.proofs.Masks.{mask_small}
use Rattle.rule_formula.proofs.ListTheorem.{options_few}
use Rattle.mate_plan.specs.Formulas.{bear_trees, image_trees, images_from, name_of, pre_to, pre_trees}
use Rattle.mate_plan.specs.Plan.{choices_into}
use Rattle.mate_plan.specs.PlanOf.{rules_of}

pub if_few : {A : Type 0} (b : Bool) (xs : List A) (x : A) (n : ℕ) → length xs ≤ n → length (if b then xs ++ x ∷ [] else xs) ≤ n + 1
if_few true xs x n h = let e = length-append xs (x ∷ []) in omega (arith, e, h)
if_few false xs x n h = omega (arith, h)

masks_to_few : (p : Position) (n : ℕ) → length (masks_to p n) ≤ n
masks_to_few p zero = omega arith
masks_to_few p (suc n) = let rest = if_few (is_game_mask p n) (masks_to p n) n n (masks_to_few p n) in omega (arith, rest)

masks_few : (p : Position) → length p.men ≤ 8 → length (masks_of p) ≤ 256
masks_few p few =
    let count = masks_to_few p (mask_of p + 1) in
    let low = mask_small p.men in
    let high : 2 ^ length p.men ≤ 2 ^ 8 = pow_mono few in
    omega (arith, count, low, high)

one_few : {A : Type 0} (b : Bool) (x : A) (xs : List A) (n : ℕ) → length xs ≤ n → length (if b then x ∷ xs else xs) ≤ suc n
one_few true x xs n h = omega (arith, h)
one_few false x xs n h = omega (arith, h)

pub filter_few : {A : Type 0} (c : A → Bool) (xs : List A) → length (filter c xs) ≤ length xs
filter_few c [] = omega arith
filter_few c (x ∷ xs) = one_few (c x) x (filter c xs) (length xs) (filter_few c xs)

pub flat_few : {A B : Type 0} (f : A → List B) (n : ℕ) (xs : List A) → ((x : A) → length (f x) ≤ n) → length (flat_map f xs) ≤ length xs * n
flat_few f n [] h = omega arith
flat_few f n (x ∷ xs) h =
    let rest = flat_few f n xs h in
    let here = h x in
    let both = length-append (f x) (flat_map f xs) in
    omega (arith, rest, here, both)

images_from_few : (p : Position) (side : Side) (to mask : ℕ) (name : Option SetId) → length p.men ≤ 8 → length (images_from p side to mask name) ≤ 1000
images_from_few p side to mask None few = omega arith
images_from_few p side to mask (Some source) few =
    let all = options_few p.men mask side few in
    let some = filter_few (λ o. target_of mask o == to) (options_of p.men mask side) in
    let same = length-map (choices_into (rules_of p) side mask to) (λ o. image_of p.men mask o source.0) in
    omega (arith, all, some, same)

pub images_few : (p : Position) (side : Side) (to : ℕ) (level : List (Option SetId)) → length p.men ≤ 8 → length (image_trees p side to level) < 2 ^ 20
images_few p side to level few =
    let all = flat_few (λ mask. images_from p side to mask (name_of (masks_of p) level mask)) 1000 (masks_of p) (λ mask. images_from_few p side to mask (name_of (masks_of p) level mask) few) in
    let count = masks_few p few in
    omega (arith, all, count)

pre_to_few : (p : Position) (mask : ℕ) (source : SetId) (o : Opt) (target : Option SetId) → length (pre_to p (record { mask = mask; set = source }) o target) ≤ 1
pre_to_few p mask source o None = omega arith
pre_to_few p mask source o (Some target) = omega arith

pub pres_few : (p : Position) (side : Side) (mask : ℕ) (source : Option SetId) (targets : List (Option SetId)) → length p.men ≤ 8 → length (pre_trees p side mask source targets) < 2 ^ 20
pres_few p side mask None targets few = omega arith
pres_few p side mask (Some source) targets few =
    let all =
    flat_few (λ o. pre_to p (record { mask = mask; set = source }) o (name_of (masks_of p) targets (target_of mask o))) 1 (options_of p.men mask side)
    (λ o. pre_to_few p mask source o (name_of (masks_of p) targets (target_of mask o))) in
    let count = options_few p.men mask side few in
    omega (arith, all, count)

along_few : (kind : Kind) (k g n : ℕ) → length (along_rays kind k g n) ≤ n
along_few kind k g zero = omega arith
along_few kind k g (suc n) = let rest = if_few (serves_captures kind n) (along_rays kind k g n) (bearing k n g) n (along_few kind k g n) in omega (arith, rest)

some_few : {A : Type 0} (b : Bool) (xs : List A) (n : ℕ) → length xs ≤ n → length (if b then xs else []) ≤ n
some_few true xs n h = h
some_few false xs n h = omega arith

man_few : (mask : ℕ) (side : Side) (g k : ℕ) (m : Option Man) → length (man_bearings mask side g k m) ≤ 16
man_few mask side g k None = omega arith
man_few mask side g k (Some m) =
    let rays = rays_few m.kind m.side in
    let along = along_few m.kind k g (length (rays_of m.kind m.side)) in
    some_few (is_live mask k && is_side m.side side) (along_rays m.kind k g (length (rays_of m.kind m.side))) 16 (omega (arith, rays, along))

to_few : (stock : List Man) (mask : ℕ) (side : Side) (g n : ℕ) → length (bearings_to stock mask side g n) ≤ 16 * n
to_few stock mask side g zero = omega arith
to_few stock mask side g (suc n) =
    let rest = to_few stock mask side g n in
    let here = man_few mask side g (suc n) (stock_man stock (suc n)) in
    let both = length-append (bearings_to stock mask side g n) (man_bearings mask side g (suc n) (stock_man stock (suc n))) in
    omega (arith, rest, here, both)

pub bearings_few : (stock : List Man) (mask : ℕ) (side : Side) → length stock ≤ 8 → length (bearings_of stock mask side) ≤ 1000
bearings_few stock mask side few =
    let g = king_number stock (other side) in
    let all = to_few stock mask side g (length stock) in
    some_few (nat_lt 0 g) (bearings_to stock mask side g (length stock)) 1000 (omega (arith, all, few))

pub bears_few : (p : Position) (side : Side) (mask : ℕ) (source : Option SetId) → length p.men ≤ 8 → length (bear_trees p side mask source) < 2 ^ 20
bears_few p side mask None few = omega arith
bears_few p side mask (Some source) few =
    let all = bearings_few p.men mask side few in
    let same = length-map (bearings_of p.men mask side) (λ b. bear_of p.men mask b.man b.ray b.king source.0) in
    omega (arith, all, same)
