-- Of the rays along which a side's men may bear on the other king: whose they are, on whom they lead, and how many there are.
use Rattle.std.proofs.Common.{◌≡◌, ℕ, zero, suc, ◌+◌, ◌*◌, ◌<◌, ◌≤◌, Bool, true, false, List, [], ◌∷◌, ◌++◌, length, length-append, get_or, Option, Some, None, refl, sym, ◌∙◌, subst, arith}
use Rattle.std.specs.Prelude.{nat_lt, if◌then◌else◌, ◌&&◌}
use Rattle.std.specs.List.{All}
use Rattle.std.proofs.lemmas.List.Elements.{All-append, All-cons, All-nil}
use Rattle.chess_game.proofs.AnswerBounds.{rays_few}
use Rattle.game_rules.specs.Game.{Position, Sound, other}
use Rattle.game_rules.specs.Rays.{rays_of, serves_captures}
use Rattle.game_rules.specs.declared.men.Kind.{Kind}
use Rattle.game_rules.specs.declared.men.Man.{Man}
use Rattle.game_rules.specs.declared.men.Side.{Side}
use Rattle.game_laws.specs.Stock.{stock_man}
use Rattle.rule_formula.specs.declared.opt.Bearing.{Bearing}
use Rattle.rule_formula.specs.Bearings.{along_rays, bearing, bearings_of, bearings_to, king_number, man_bearings}
use Rattle.rule_formula.specs.Options.{is_side}
use Rattle.rule_formula.specs.Placed.{is_live}
use Rattle.rule_formula.proofs.BearLemmas.{IsNumber, stock_number}
use Rattle.rule_formula.proofs.BearingTheorem.{king_numbered}
use Rattle.line_formula.specs.Small.{AreTwo}

-- a man bears on the man of this number
pub record IsAimed (men : List Man) (g : ℕ) (b : Bearing) : Type 0 where
  pub man : IsNumber men b.man
  pub king : b.king ≡ g

module _ (men : List Man) (g : ℕ) where
  one_aimed : (k n : ℕ) → IsNumber men k → IsAimed men g (bearing k n g)
  one_aimed k n is = record { man = is; king = refl }

  along_aimed : (sort : Kind) (k n : ℕ) → IsNumber men k → All (IsAimed men g) (along_rays sort k g n)
  along_aimed sort k zero is = All-nil (IsAimed men g)
  along_aimed sort k (suc n) is = by (serves_captures sort n) (along_aimed sort k n is)
    where
      by : (b : Bool) → All (IsAimed men g) (along_rays sort k g n) → All (IsAimed men g) (if b then along_rays sort k g n ++ bearing k n g ∷ [] else along_rays sort k g n)
      by true before =
          All-append (IsAimed men g) (along_rays sort k g n) (bearing k n g ∷ []) before
          (All-cons (IsAimed men g) (bearing k n g) [] (one_aimed k n is) (All-nil (IsAimed men g)))
      by false before = before

  some_aimed : (b : Bool) (xs : List Bearing) → All (IsAimed men g) xs → All (IsAimed men g) (if b then xs else [])
  some_aimed true xs h = h
  some_aimed false xs h = All-nil (IsAimed men g)

  man_aimed : (mask : ℕ) (side : Side) (k : ℕ) (m : Option Man) → stock_man men k ≡ m → All (IsAimed men g) (man_bearings mask side g k m)
  man_aimed mask side k None is = All-nil (IsAimed men g)
  man_aimed mask side k (Some m) is =
      some_aimed (is_live mask k && is_side m.side side) (along_rays m.kind k g (length (rays_of m.kind m.side)))
      (along_aimed m.kind k (length (rays_of m.kind m.side)) (stock_number men k m is))

  to_aimed : (mask : ℕ) (side : Side) (n : ℕ) → All (IsAimed men g) (bearings_to men mask side g n)
  to_aimed mask side zero = All-nil (IsAimed men g)
  to_aimed mask side (suc n) =
      All-append (IsAimed men g) (bearings_to men mask side g n) (man_bearings mask side g (suc n) (stock_man men (suc n))) (to_aimed mask side n)
      (man_aimed mask side (suc n) (stock_man men (suc n)) refl)

-- both are men of the position
pub bearing_men : (p : Position) (mask : ℕ) (side : Side) → Sound p → All (λ b. AreTwo p.men b.man b.king) (bearings_of p.men mask side)
bearing_men p mask side sound =
    let g = king_number p.men (other side) in
    if_all (nat_lt 0 g) (bearings_to p.men mask side g (length p.men)) (λ e i d within.
    let low : 0 < g = grind (arith, e) in
    let aimed = to_aimed p.men g mask side (length p.men) i d within in
    let target : IsNumber p.men (get_or (bearings_to p.men mask side g (length p.men)) i d).king =
    subst (IsNumber p.men) (sym aimed.king) (king_numbered p.men (other side) low) in
    record { first = aimed.man.low; first_is = aimed.man.high; second = target.low; second_is = target.high })
  where
    if_all : (b : Bool) (xs : List Bearing) → (b ≡ true → All (λ b. AreTwo p.men b.man b.king) xs) → All (λ b. AreTwo p.men b.man b.king) (if b then xs else [])
    if_all true xs h = h refl
    if_all false xs h = All-nil (λ b. AreTwo p.men b.man b.king)

if_few : {A : Type 0} (b : Bool) (xs : List A) (x : A) (n : ℕ) → length xs ≤ n → length (if b then xs ++ x ∷ [] else xs) ≤ n + 1
if_few true xs x n h = let e = length-append xs (x ∷ []) in omega (arith, e, h)
if_few false xs x n h = omega (arith, h)

along_few : (sort : Kind) (k g n : ℕ) → length (along_rays sort k g n) ≤ n
along_few sort k g zero = omega arith
along_few sort k g (suc n) = let rest = if_few (serves_captures sort n) (along_rays sort k g n) (bearing k n g) n (along_few sort k g n) in omega (arith, rest)

some_few : {A : Type 0} (b : Bool) (xs : List A) (n : ℕ) → length xs ≤ n → length (if b then xs else []) ≤ n
some_few true xs n h = h
some_few false xs n h = omega arith

man_few : (mask : ℕ) (side : Side) (g k : ℕ) (m : Option Man) → length (man_bearings mask side g k m) ≤ 16
man_few mask side g k None = omega arith
man_few mask side g k (Some m) =
    let rays = rays_few m.kind m.side in
    let along = along_few m.kind k g (length (rays_of m.kind m.side)) in
    some_few (is_live mask k && is_side m.side side) (along_rays m.kind k g (length (rays_of m.kind m.side))) 16 (omega (arith, rays, along))

to_few : (men : List Man) (mask : ℕ) (side : Side) (g n : ℕ) → length (bearings_to men mask side g n) ≤ 16 * n
to_few men mask side g zero = omega arith
to_few men mask side g (suc n) =
    let rest = to_few men mask side g n in
    let here = man_few mask side g (suc n) (stock_man men (suc n)) in
    let both = length-append (bearings_to men mask side g n) (man_bearings mask side g (suc n) (stock_man men (suc n))) in
    omega (arith, rest, here, both)

pub bearings_few : (men : List Man) (mask : ℕ) (side : Side) → length men ≤ 32 → length (bearings_of men mask side) ≤ 512
bearings_few men mask side few =
    let g = king_number men (other side) in
    let all = to_few men mask side g (length men) in
    some_few (nat_lt 0 g) (bearings_to men mask side g (length men)) 512 (omega (arith, all, few))
