-- How many colours the equations of the changes have, in whichever order.
use Rattle.std.proofs.Common.{◌≡◌, ℕ, ◌+◌, ◌*◌, ◌≤◌, List, [], ◌∷◌, map, arith, refl, ◌∙◌}
use Rattle.std.proofs.lemmas.Nat.{mul-le}
use Rattle.shift_image.specs.Equations.{Equation, open_ways, colours}
use Rattle.shift_image.specs.declared.shift.ValueShift.{ValueShift}
use Rattle.shift_image.specs.Image.{equation_of}
use Rattle.shift_image.specs.Laws.{start_colours, change_colours}

-- the equations of the changes, the last one first, before others
abbrev pub turned : List ValueShift → List Equation → List Equation
turned [] qs = qs
turned (s ∷ shifts) qs = turned shifts (equation_of s ∷ qs)

some-colour : (qs : List Equation) → 1 ≤ colours qs
some-colour [] = omega arith
some-colour (q ∷ qs) = omega arith

ways-colours : (qs : List Equation) → open_ways qs ≤ colours qs
ways-colours [] = omega arith
ways-colours (q ∷ qs) = omega arith

-- one more equation has as many times as many colours as it has alone, at most
pub colours-cons : (q : Equation) (qs : List Equation) → colours (q ∷ qs) ≤ colours qs * colours (q ∷ [])
colours-cons q qs = product q.by (open_ways qs) (colours qs) (ways-colours qs) (some-colour qs)
  where
    product : (n w c : ℕ) → w ≤ c → 1 ≤ c → (n + 1) * w + 1 ≤ c * ((n + 1) * 1 + 1)
    product n w c few some =
        let l = mul-le (n + 1) w (n + 1) c (omega arith) few in
        let e : c * ((n + 1) * 1 + 1) ≡ (n + 1) * c + c = grind arith in
        omega (arith, l, e, some)

pub colours-fewer : (q : Equation) (qs : List Equation) → colours qs ≤ colours (q ∷ qs)
colours-fewer q [] = omega arith
colours-fewer q (r ∷ qs) = more q.by (open_ways (r ∷ qs))
  where
    more : (n w : ℕ) → w + 1 ≤ (n + 1) * w + 1
    more n w = let e : (n + 1) * w ≡ n * w + w = grind arith in omega (arith, e)

pub colours-later : (shifts : List ValueShift) (qs : List Equation) → colours qs ≤ colours (turned shifts qs)
colours-later [] qs = omega arith
colours-later (s ∷ shifts) qs =
    let first = colours-fewer (equation_of s) qs in
    let rest = colours-later shifts (equation_of s ∷ qs) in
    omega (arith, first, rest)

ways-turned : (shifts : List ValueShift) (qs : List Equation)
    → open_ways (turned shifts qs) ≡ open_ways (map equation_of shifts) * open_ways qs
ways-turned [] qs = omega arith
ways-turned (s ∷ shifts) qs =
    ways-turned shifts (equation_of s ∷ qs)
    ∙ regroup (open_ways (map equation_of shifts)) ((equation_of s).by + 1) (open_ways qs)
  where
    regroup : (a b c : ℕ) → a * (b * c) ≡ (b * a) * c
    regroup a b c = grind arith

some-turned : (shifts : List ValueShift) (q : Equation) (qs : List Equation)
    → colours (turned shifts (q ∷ qs)) ≡ open_ways (turned shifts (q ∷ qs)) + 1
some-turned [] q qs = refl
some-turned (s ∷ shifts) q qs = some-turned shifts (equation_of s) (q ∷ qs)

pub colours-turned : (shifts : List ValueShift) → colours (turned shifts []) ≡ change_colours shifts
colours-turned [] = refl
colours-turned (s ∷ shifts) =
    let ways = ways-turned (s ∷ shifts) [] in
    let more = some-turned shifts (equation_of s) [] in
    omega (arith, ways, more)

pub some-start : (shifts : List ValueShift) → 1 ≤ start_colours shifts
some-start [] = omega arith
some-start (s ∷ shifts) =
    let one = some-colour (equation_of s ∷ []) in
    mul-le 1 1 (colours (equation_of s ∷ [])) (start_colours shifts) one (some-start shifts)
