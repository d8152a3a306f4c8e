-- The options of a path: the men that move, the men that are captured, and the number of options.
use Rattle.std.proofs.Common.{◌≡◌, ℕ, zero, suc, ◌+◌, ◌*◌, ◌^◌, ◌<◌, ◌≤◌, Bool, true, false, ◌&&◌, List, [], ◌∷◌, ◌++◌, length, length-append, get_or, Option, Some, None, sym, ap, ◌∙◌, subst, arith}
use Rattle.std.proofs.lemmas.List.{get_or_default}
use Rattle.std.specs.Prelude.{Contains, if◌then◌else◌}
use Rattle.std.proofs.Math.Nat.{mul-le-mul_right}
use Rattle.game_rules.specs.Game.{Position, other}
use Rattle.game_rules.specs.declared.men.Kind.{Kind}
use Rattle.game_rules.specs.declared.men.Man.{Man}
use Rattle.game_rules.specs.declared.men.Side.{Side}
use Rattle.game_rules.specs.Rays.{rays_of, serves_captures, serves_moves}
use Rattle.chess_game.proofs.AnswerBounds.{rays_few as kind_rays_few}
use Rattle.game_laws.specs.Stock.{stock_man}
use Rattle.rule_formula.specs.declared.opt.Opt.{Opt}
use Rattle.rule_formula.specs.Meaning.{IsPrey}
use Rattle.rule_formula.specs.Options.{captures_to, is_prey, is_side, man_options, option, options_of, options_to, ray_options, rays_to}
use Rattle.rule_formula.specs.Placed.{is_live}
use Rattle.rule_formula.specs.Fits.{target_of}
use Rattle.line_formula.specs.declared.leg.Leg.{Leg}
use Rattle.line_formula.specs.declared.leg.TheConstants.{MOST_LEGS}
use Rattle.line_formula.specs.declared.scene.Force.{Force}
use Rattle.line_formula.specs.Paths.{leg_of, mask_at, options_at, turn_at}
use Rattle.line_engine.specs.Nodes.{IsAfterPath}
use Rattle.rule_formula.proofs.BearLemmas.{IsNumber, stock_number}
use Rattle.rule_formula.proofs.GameTheorem.{prey_live}
use Rattle.rule_formula.proofs.ListTheorem.{options_are}

-- the numbers of an option are those of men, and the captured man is live
pub record IsNumbered (men : List Man) (mask : ℕ) (o : Opt) : Type 0 where
  pub man : IsNumber men o.man
  pub taken : o.taken ≤ length men
  pub live : 0 < o.taken → is_live mask o.taken ≡ true

prey_number : (men : List Man) (mask : ℕ) (side : Side) (t : ℕ) → IsPrey men mask side t → t ≤ length men
prey_number men mask side zero prey = omega arith
prey_number men mask side (suc t) prey = let at = stock_number men (suc t) prey.0 prey.1 in omega (arith, at.high)

pub option_numbers : (men : List Man) (mask : ℕ) (side : Side) (o : Opt) → Contains (options_of men mask side) o → IsNumbered men mask o
option_numbers men mask side o listed =
    let (w, his) = (options_are men mask side o).0 listed in
    record {
      man = stock_number men o.man w.man w.is.is_man;
      taken = prey_number men mask w.man.side o.taken w.is.prey;
      live = prey_live men mask w.man.side o.taken w.is.prey;
    }

kept_if : (b : Bool) (xs : List Opt) (n : ℕ) → length xs ≤ n → length (if b then xs else []) ≤ n
kept_if true xs n h = h
kept_if false xs n h = omega arith

more_if : (b : Bool) (xs : List Opt) (y : Opt) (n : ℕ) → length xs ≤ n → length (if b then xs ++ y ∷ [] else xs) ≤ suc n
more_if true xs y n h = let e = length-append xs (y ∷ []) in omega (arith, e, h)
more_if false xs y n h = omega (arith, h)

module _ (men : List Man) (mask : ℕ) (s : Side) where
  captures_few : (i n k : ℕ) → length (captures_to men mask s i n k) ≤ k
  captures_few i n zero = omega arith
  captures_few i n (suc k) = more_if (is_prey men mask s (suc k)) (captures_to men mask s i n k) (option i n (suc k)) k (captures_few i n k)

  ray_few : (sort : Kind) (i n : ℕ) → length (ray_options men mask s sort i n) ≤ suc (length men)
  ray_few sort i n =
      let quiet : List Opt = if serves_moves sort n then option i n 0 ∷ [] else [] in
      let takes : List Opt = if serves_captures sort n then captures_to men mask s i n (length men) else [] in
      let both : length (quiet ++ takes) ≡ length quiet + length takes = length-append quiet takes in
      let first : length quiet ≤ 1 = kept_if (serves_moves sort n) (option i n 0 ∷ []) 1 (omega arith) in
      let second : length takes ≤ length men = kept_if (serves_captures sort n) (captures_to men mask s i n (length men)) (length men) (captures_few i n (length men)) in
      omega (arith, both, first, second)

  more_few : (n c a b d : ℕ) → d ≡ a + b → a ≤ n * c → b ≤ c → d ≤ suc n * c
  more_few n c a b d e h k = omega (arith, e, h, k)

  rays_few : (sort : Kind) (i n : ℕ) → length (rays_to men mask s sort i n) ≤ n * suc (length men)
  rays_few sort i zero = omega arith
  rays_few sort i (suc n) =
      more_few n (suc (length men)) (length (rays_to men mask s sort i n)) (length (ray_options men mask s sort i n)) (length (rays_to men mask s sort i (suc n)))
      (length-append (rays_to men mask s sort i n) (ray_options men mask s sort i n)) (rays_few sort i n) (ray_few sort i n)

  man_few : (i : ℕ) (x : Option Man) → length (man_options men mask s i x) ≤ 16 * suc (length men)
  man_few i None = omega arith
  man_few i (Some m) =
      let all : length (rays_to men mask s m.kind i (length (rays_of m.kind m.side))) ≤ length (rays_of m.kind m.side) * suc (length men) = rays_few m.kind i (length (rays_of m.kind m.side)) in
      let most : length (rays_of m.kind m.side) * suc (length men) ≤ 16 * suc (length men) = mul-le-mul_right (suc (length men)) (kind_rays_few m.kind m.side) in
      kept_if (is_live mask i && is_side m.side s) (rays_to men mask s m.kind i (length (rays_of m.kind m.side))) (16 * suc (length men)) (omega (arith, all, most))

  to_few : (n : ℕ) → length (options_to men mask s n) ≤ n * (16 * suc (length men))
  to_few zero = omega arith
  to_few (suc n) =
      more_few n (16 * suc (length men)) (length (options_to men mask s n)) (length (man_options men mask s (suc n) (stock_man men (suc n)))) (length (options_to men mask s (suc n)))
      (length-append (options_to men mask s n) (man_options men mask s (suc n) (stock_man men (suc n)))) (to_few n) (man_few (suc n) (stock_man men (suc n)))

-- there are at most 2^15 options of 32 men
pub options_few : (men : List Man) (mask : ℕ) (s : Side) → length men ≤ 32 → length (options_of men mask s) ≤ 2 ^ 15
options_few men mask s few =
    let all : length (options_of men mask s) ≤ length men * (16 * suc (length men)) = to_few men mask s (length men) in
    let most : length men * (16 * suc (length men)) ≤ 32 * (16 * suc (length men)) = mul-le-mul_right (16 * suc (length men)) few in
    omega (arith, all, most, few)

-- the option at a number of the list stands there, whatever stands for one past its end
pub option_there : (os : List Opt) (i : ℕ) (d : Opt) → i < length os → get_or os i d ≡ get_or os i (get_or os i d)
option_there os i d less = get_or_default os i d (get_or os i d) less

-- the options of a side of a mask are those of the path
pub options_whole : (p : Position) (path : List Opt) (mask : ℕ) (side : Side) (os : List Opt) → os ≡ options_of p.men mask side → mask ≡ mask_at p path → side ≡ turn_at p path → os ≡ options_at p path
options_whole p path mask side os all live turn = all ∙ ap (λ m. options_of p.men m side) live ∙ ap (λ s. options_of p.men (mask_at p path) s) turn

-- and each is one of them
pub option_listed : (p : Position) (path : List Opt) (os : List Opt) (i : ℕ) (d : Opt) → os ≡ options_at p path → i < length os → Contains (options_at p path) (get_or os i d)
option_listed p path os i d whole less =
    let within : i < length (options_at p path) = subst (λ (l : List Opt). i < length l) whole less in
    (i, within, subst (λ (l : List Opt). get_or l i (get_or os i d) ≡ get_or os i d) whole (sym (option_there os i d less)))

-- what stands after one more option
pub path_more : (p : Position) (path after_path : List Opt) (legs after_legs : List Leg) (before after : Force) (o : Opt) (leg : Leg) → IsAfterPath p path legs before → length path < MOST_LEGS
    → after_path ≡ o ∷ path → after_legs ≡ leg ∷ legs → leg ≡ leg_of p.men o → after.mask ≡ target_of before.mask o → after.side ≡ other before.side → IsAfterPath p after_path after_legs after
path_more p path after_path legs after_legs before after o leg is few path_is legs_are leg_is mask side =
    let here : IsAfterPath p (o ∷ path) (leg ∷ legs) after =
    record {
      few = omega (arith, few);
      legs_are = ap (λ l. l ∷ legs) leg_is ∙ ap (λ ls. leg_of p.men o ∷ ls) is.legs_are;
      mask = mask ∙ ap (λ m. target_of m o) is.mask;
      side = side ∙ ap other is.side;
    } in
    subst (λ s. IsAfterPath p s after_legs after) (sym path_is) (subst (λ ls. IsAfterPath p (o ∷ path) ls after) (sym legs_are) here)
