-- Tracks of two lists together, and letters over them.
use Rattle.std.proofs.Common.{◌≡◌, ◌≢◌, ℕ, zero, suc, ◌<◌, ◌≤◌, ◌+◌, ◌*◌, ◌/◌, ◌%◌, ◌^◌, List, [], ◌∷◌, length, map, get_or, arith, refl, sym, ap, ◌∙◌, subst, inl, inr, ◌⊎◌, eq-eqb}
use Rattle.std.specs.List.{All}
use Rattle.std.specs.List.Sorted.{IsStrictlyIncreasing}
use Rattle.std.proofs.lemmas.List.{length-map, get_or-map, get_or_default}
use Rattle.std.specs.Int.{bit_at}
use Rattle.std.proofs.lemmas.Nat.Bits.{bit_at-suc, bit_at_lowest}
use Rattle.std.proofs.lemmas.Grind.{common_steps}
use Rattle.std.proofs.lemmas.Bool.Decides.{nat_tests}
use Rattle.std.proofs.lemmas.List.Elements.{All-nil, All-cons, All-head, All-tail, All-map}
use Rattle.std.proofs.lemmas.Bool.{cases_order, cases_eq}
use Rattle.track_word.specs.declared.tracks.Var.{Var}
use Rattle.track_word.specs.Tracks.{IsAscending, with_var, with_vars, place, restrict, part_of}
use Rattle.auto_core.proofs.Orders.{same-var}
use Rattle.auto_bool.specs.Sides.{AreAmong}

-- the three ways of putting a track before, at or after the first of some
pub before-is : (x y : Var) (ys : List Var) → x.0 < y.0 → with_var x (y ∷ ys) ≡ x ∷ y ∷ ys
before-is x y ys h = grind (arith, common_steps, nat_tests)

at-is : (x y : Var) (ys : List Var) → x.0 ≡ y.0 → with_var x (y ∷ ys) ≡ y ∷ ys
at-is x y ys h = grind (arith, common_steps, nat_tests)

after-is : (x y : Var) (ys : List Var) → y.0 < x.0 → with_var x (y ∷ ys) ≡ y ∷ with_var x ys
after-is x y ys h = grind (arith, common_steps, nat_tests)

-- ascending tracks from a bound on
Rising : ℕ → List Var → Type 0
Rising bound [] = Unit {0}
Rising bound (y ∷ ys) = (bound ≤ y.0) × Rising (y.0 + 1) ys

rising-with_var : (x : Var) (bound : ℕ) (ys : List Var) → bound ≤ x.0 → Rising bound ys → Rising bound (with_var x ys)
unfolding Rising
rising-with_var x bound [] above all = (above, tt)
rising-with_var x bound (y ∷ ys) above all = elim (cases_order x.0 y.0) [
  | inl at ↦ subst (Rising bound) (sym (at-is x y ys at)) all
  | inr (inl before) ↦ subst (Rising bound) (sym (before-is x y ys before)) (above, (omega arith, all.1))
  | inr (inr after) ↦ subst (Rising bound) (sym (after-is x y ys after)) (all.0, rising-with_var x (y.0 + 1) ys (omega arith) all.1)
]

rising-with_vars : (xs ys : List Var) → Rising 0 ys → Rising 0 (with_vars xs ys)
rising-with_vars [] ys all = all
rising-with_vars (x ∷ xs) ys all = rising-with_var x 0 (with_vars xs ys) (omega arith) (rising-with_vars xs ys all)

one_more : (xs : List ℕ) (y k : ℕ) → get_or (y ∷ xs) (suc k + 1) 0 ≡ get_or xs (k + 1) 0
one_more xs y k = let e : suc k + 1 ≡ suc (k + 1) = omega arith in ap (λ i. get_or (y ∷ xs) i 0) e

ascending-rising : (bound : ℕ) (ys : List Var) → Rising bound ys → IsAscending ys
unfolding Rising
ascending-rising bound [] all k h = absurd (omega arith)
ascending-rising bound (y ∷ []) all k h = absurd (omega arith)
ascending-rising bound (y ∷ z ∷ zs) all zero h = let above = all.1.0 in omega arith
ascending-rising bound (y ∷ z ∷ zs) all (suc k) h =
    let rest = ascending-rising (y.0 + 1) (z ∷ zs) all.1 k (omega arith) in
    subst (λ n. get_or (map (λ (v : Var). v.0) (z ∷ zs)) k 0 < n) (sym (one_more (map (λ (v : Var). v.0) (z ∷ zs)) y.0 k)) rest

rising-ascending : (bound : ℕ) (ys : List Var) → (0 < length ys → bound ≤ get_or (map (λ (v : Var). v.0) ys) 0 0) → IsAscending ys → Rising bound ys
unfolding Rising
rising-ascending bound [] above all = tt
rising-ascending bound (y ∷ []) above all = (above (omega arith), tt)
rising-ascending bound (y ∷ z ∷ zs) above all =
    let next = all 0 (omega arith) in (
      above (omega arith),
      rising-ascending (y.0 + 1) (z ∷ zs) (λ h. omega arith) (λ k h.
          subst (λ n. get_or (map (λ (v : Var). v.0) (z ∷ zs)) k 0 < n) (one_more (map (λ (v : Var). v.0) (z ∷ zs)) y.0 k) (all (suc k) (omega arith))),
    )

pub ascending-with_vars : (xs ys : List Var) → IsAscending ys → IsAscending (with_vars xs ys)
ascending-with_vars xs ys all = ascending-rising 0 (with_vars xs ys) (rising-with_vars xs ys (rising-ascending 0 ys (λ h. omega arith) all))

-- a track of this name stands among others
Has : List Var → ℕ → Type 0
Has [] name = ⊥
Has (y ∷ ys) name = (y.0 ≡ name) ⊎ Has ys name

has-new : (x : Var) (ys : List Var) → Has (with_var x ys) x.0
unfolding Has
has-new x [] = inl refl
has-new x (y ∷ ys) = elim (cases_order x.0 y.0) [
  | inl at ↦ subst (λ l. Has l x.0) (sym (at-is x y ys at)) (inl (sym at))
  | inr (inl before) ↦ subst (λ l. Has l x.0) (sym (before-is x y ys before)) (inl refl)
  | inr (inr after) ↦ subst (λ l. Has l x.0) (sym (after-is x y ys after)) (inr (has-new x ys))
]

has-old : (x : Var) (ys : List Var) (name : ℕ) → Has ys name → Has (with_var x ys) name
unfolding Has
has-old x [] name h = absurd h
has-old x (y ∷ ys) name h = elim (cases_order x.0 y.0) [
  | inl at ↦ subst (λ l. Has l name) (sym (at-is x y ys at)) h
  | inr (inl before) ↦ subst (λ l. Has l name) (sym (before-is x y ys before)) (inr h)
  | inr (inr after) ↦ subst (λ l. Has l name) (sym (after-is x y ys after)) (elim h [ inl here ↦ inl here | inr later ↦ inr (has-old x ys name later) ])
]

has-right : (xs ys : List Var) (name : ℕ) → Has ys name → Has (with_vars xs ys) name
has-right [] ys name h = h
has-right (x ∷ xs) ys name h = has-old x (with_vars xs ys) name (has-right xs ys name h)

has-left : (xs ys : List Var) (name : ℕ) → Has xs name → Has (with_vars xs ys) name
unfolding Has
has-left [] ys name h = absurd h
has-left (x ∷ xs) ys name (inl here) = subst (Has (with_var x (with_vars xs ys))) here (has-new x (with_vars xs ys))
has-left (x ∷ xs) ys name (inr later) = has-old x (with_vars xs ys) name (has-left xs ys name later)

place-has : (ys : List Var) (z : Var) → Has ys z.0 → place ys z < length ys
unfolding Has
place-has [] z h = absurd h
place-has (y ∷ ys) z (inl here) = let e = eq-eqb y.0 z.0 here in grind (arith, common_steps, e)
place-has (y ∷ ys) z (inr later) = let less = place-has ys z later in grind (arith, common_steps, less)

all_within : (all some : List Var) → ((name : ℕ) → Has some name → Has all name) → All (λ v. place all v < length all) some
unfolding Has
all_within all [] has = All-nil (λ v. place all v < length all)
all_within all (v ∷ vs) has = All-cons (λ v. place all v < length all) v vs (place-has all v (has v.0 (inl refl))) (all_within all vs (λ name h. has name (inr h)))

pub AreAmong-left : (xs ys : List Var) → AreAmong (with_vars xs ys) xs
AreAmong-left xs ys = record { within = All-map (λ track. track < length (with_vars xs ys)) (place (with_vars xs ys)) xs (all_within (with_vars xs ys) xs (has-left xs ys)) }

pub AreAmong-right : (xs ys : List Var) → AreAmong (with_vars xs ys) ys
AreAmong-right xs ys = record { within = All-map (λ track. track < length (with_vars xs ys)) (place (with_vars xs ys)) ys (all_within (with_vars xs ys) ys (has-right xs ys)) }

-- letters that agree on all tracks agree on some
restrict-agree : (all some : List Var) (a b : ℕ) → All (λ track. track < length all) (map (place all) some) → ((k : ℕ) → k < length all → bit_at a k ≡ bit_at b k)
    → restrict all some a ≡ restrict all some b
restrict-agree all [] a b within agree = refl
restrict-agree all (v ∷ vs) a b within agree =
    let bit = agree (place all v) (All-head (λ track. track < length all) (place all v) (map (place all) vs) within) in
    let rest = restrict-agree all vs a b (All-tail (λ track. track < length all) (place all v) (map (place all) vs) within) agree in
    ap (λ n. n + 2 * restrict all vs a) bit ∙ ap (λ n. bit_at b (place all v) + 2 * n) rest

pub restrict-same : {all some : List Var} (a b : ℕ) → AreAmong all some → ((k : ℕ) → k < length all → bit_at a k ≡ bit_at b k) → restrict all some a ≡ restrict all some b
restrict-same {all} {some} a b among agree = restrict-agree all some a b among.within agree

-- the places of ascending tracks ascend
not_below : (bound : ℕ) (ys : List Var) (x : Var) → Rising bound ys → place ys x < length ys → bound ≤ x.0
unfolding Rising
not_below bound [] x rising within = absurd (omega (arith, within))
not_below bound (y ∷ ys) x rising within = elim (cases_eq y.0 x.0) [
  | inl here ↦ let above = rising.0 in omega (arith, here, above)
  | inr other ↦
      let above = rising.0 in
      let later = not_below (y.0 + 1) ys x rising.1 (grind (arith, common_steps, nat_tests, other, within)) in
      omega (arith, above, later)
]

place-rises : (bound : ℕ) (ys : List Var) (x z : Var) → Rising bound ys → x.0 < z.0 → place ys x < length ys → place ys x < place ys z
unfolding Rising
place-rises bound [] x z rising less within = absurd (omega (arith, within))
place-rises bound (y ∷ ys) x z rising less within = elim (cases_eq y.0 x.0) [
  | inl here ↦ let other : y.0 ≢ z.0 = omega (arith, here, less) in grind (arith, common_steps, nat_tests, here, other)
  | inr other ↦
      let inside : place ys x < length ys = grind (arith, common_steps, nat_tests, other, within) in
      let later = not_below (y.0 + 1) ys x rising.1 inside in
      let rest = place-rises (y.0 + 1) ys x z rising.1 less inside in
      let beyond : y.0 ≢ z.0 = omega (arith, later, less) in
      grind (arith, common_steps, nat_tests, other, beyond, rest)
]

pub places-ascend : {all some : List Var} → IsAscending all → IsAscending some → AreAmong all some → IsStrictlyIncreasing (map (place all) some)
places-ascend {all} {some} all_ascend some_ascend among k within =
    let size = length-map some (place all) in
    let names = length-map some (λ v. v.0) in
    let next : k + 1 < length some = omega (arith, size, within) in
    let d : Var = record { 0 = 0 } in
    let less : (get_or some k d).0 < (get_or some (k + 1) d).0 =
    rw (← get_or-map (λ v. v.0) some k d 0 (omega (arith, next)), ← get_or-map (λ v. v.0) some (k + 1) d 0 next) (some_ascend k (omega (arith, names, next))) in
    let inside = subst (λ n. n < length all) (get_or-map (place all) some k d 0 (omega (arith, next))) (among.within k 0 (omega (arith, within))) in
    rw (get_or-map (place all) some k d 0 (omega (arith, next)), get_or-map (place all) some (k + 1) d 0 next)
    (place-rises 0 all (get_or some k d) (get_or some (k + 1) d) (rising-ascending 0 all (λ h. omega arith) all_ascend) less inside)

pub places-low : {all some : List Var} → length all ≤ 20 → AreAmong all some → All (λ track. track < 20) (map (place all) some)
places-low few among = λ k d within. let low = among.within k d within in omega (arith, few, low)

-- tracks that stand among others already add nothing
with_var-there : (x : Var) (bound : ℕ) (ys : List Var) → Rising bound ys → place ys x < length ys → with_var x ys ≡ ys
unfolding Rising
with_var-there x bound [] rising within = absurd (omega (arith, within))
with_var-there x bound (y ∷ ys) rising within = elim (cases_order x.0 y.0) [
  | inl at ↦ at-is x y ys at
  | inr (inl before) ↦ let least = not_below y.0 (y ∷ ys) x (omega arith, rising.1) within in absurd (omega (arith, least, before))
  | inr (inr after) ↦
      let other : y.0 ≢ x.0 = omega (arith, after) in
      let inside : place ys x < length ys = grind (arith, common_steps, nat_tests, other, within) in
      after-is x y ys after ∙ ap (λ (l : List Var). y ∷ l) (with_var-there x (y.0 + 1) ys rising.1 inside)
]

with_vars-there : (xs ys : List Var) → Rising 0 ys → All (λ track. track < length ys) (map (place ys) xs) → with_vars xs ys ≡ ys
with_vars-there [] ys rising among = refl
with_vars-there (x ∷ xs) ys rising among =
    ap (with_var x) (with_vars-there xs ys rising (All-tail (λ track. track < length ys) (place ys x) (map (place ys) xs) among))
    ∙ with_var-there x 0 ys rising (All-head (λ track. track < length ys) (place ys x) (map (place ys) xs) among)

pub with_vars-right : {xs ys : List Var} → IsAscending ys → AreAmong ys xs → with_vars xs ys ≡ ys
with_vars-right {xs} {ys} ascending among = with_vars-there xs ys (rising-ascending 0 ys (λ h. omega arith) ascending) among.within

rising-lower : (bound least : ℕ) (ys : List Var) → least ≤ bound → Rising bound ys → Rising least ys
unfolding Rising
rising-lower bound least [] less rising = tt
rising-lower bound least (y ∷ ys) less rising = let above = rising.0 in (omega (arith, less, above), rising.1)

-- a track below others comes first
with_var-first : (x : Var) (xs : List Var) → Rising (x.0 + 1) xs → with_var x xs ≡ x ∷ xs
unfolding Rising
with_var-first x [] rising = refl
with_var-first x (y ∷ ys) rising = let above = rising.0 in before-is x y ys (omega (arith, above))

with_vars-first : (xs : List Var) (z : Var) (zs : List Var) → Rising (z.0 + 1) xs → with_vars xs (z ∷ zs) ≡ z ∷ with_vars xs zs
unfolding Rising
with_vars-first [] z zs rising = refl
with_vars-first (x ∷ xs) z zs rising =
    let above = rising.0 in
    ap (with_var x) (with_vars-first xs z zs (rising-lower (x.0 + 1) (z.0 + 1) xs (omega (arith, above)) rising.1)) ∙ after-is x z (with_vars xs zs) (omega (arith, above))

-- tracks behind the first one of others stand among the rest
among-later : (x : Var) (xs ys : List Var) → Rising (x.0 + 1) ys → All (λ track. track < length (x ∷ xs)) (map (place (x ∷ xs)) ys) → All (λ track. track < length xs) (map (place xs) ys)
unfolding Rising
among-later x xs [] rising among = All-nil (λ track. track < length xs)
among-later x xs (y ∷ ys) rising among =
    let above = rising.0 in
    let other : x.0 ≢ y.0 = omega (arith, above) in
    let here : place (x ∷ xs) y < length (x ∷ xs) = All-head (λ track. track < length (x ∷ xs)) (place (x ∷ xs) y) (map (place (x ∷ xs)) ys) among in
    All-cons (λ track. track < length xs) (place xs y) (map (place xs) ys) (grind (arith, common_steps, nat_tests, other, here))
    (among-later x xs ys (rising-lower (y.0 + 1) (x.0 + 1) ys (omega (arith, above)) rising.1) (All-tail (λ track. track < length (x ∷ xs)) (place (x ∷ xs) y) (map (place (x ∷ xs)) ys) among))

with_vars-own : (bound : ℕ) (xs ys : List Var) → Rising bound xs → Rising bound ys → All (λ track. track < length xs) (map (place xs) ys) → with_vars xs ys ≡ xs
unfolding Rising
with_vars-own bound [] [] rising up among = refl
with_vars-own bound [] (y ∷ ys) rising up among = let none : 0 < 0 = All-head (λ track. track < 0) 0 (map (place []) ys) among in absurd (omega (arith, none))
with_vars-own bound (x ∷ xs) [] rising up among =
    ap (with_var x) (with_vars-own (x.0 + 1) xs [] rising.1 tt (All-nil (λ track. track < length xs))) ∙ with_var-first x xs rising.1
with_vars-own bound (x ∷ xs) (y ∷ ys) rising up among = elim (cases_order x.0 y.0) [
  | inl at ↦
      let same = same-var x y at in
      let later = among-later x xs ys (subst (λ n. Rising (n + 1) ys) (sym at) up.1) (All-tail (λ track. track < length (x ∷ xs)) (place (x ∷ xs) y) (map (place (x ∷ xs)) ys) among) in
      ap (with_var x) (with_vars-first xs y ys (subst (λ n. Rising (n + 1) xs) at rising.1)) ∙ at-is x y (with_vars xs ys) at
      ∙ ap (λ (l : List Var). y ∷ l) (with_vars-own (x.0 + 1) xs ys rising.1 (subst (λ n. Rising (n + 1) ys) (sym at) up.1) later) ∙ ap (λ (v : Var). v ∷ xs) (sym same)
  | inr (inl before) ↦
      let rises : Rising (x.0 + 1) (y ∷ ys) = (omega (arith, before), up.1) in
      ap (with_var x) (with_vars-own (x.0 + 1) xs (y ∷ ys) rising.1 rises (among-later x xs (y ∷ ys) rises among)) ∙ with_var-first x xs rising.1
  | inr (inr after) ↦
      let here = All-head (λ track. track < length (x ∷ xs)) (place (x ∷ xs) y) (map (place (x ∷ xs)) ys) among in
      let least = not_below x.0 (x ∷ xs) y (omega arith, rising.1) here in
      absurd (omega (arith, least, after))
]

pub with_vars-left : {xs ys : List Var} → IsAscending xs → IsAscending ys → AreAmong xs ys → with_vars xs ys ≡ xs
with_vars-left {xs} {ys} ascending up among =
    with_vars-own 0 xs ys (rising-ascending 0 xs (λ h. omega arith) ascending) (rising-ascending 0 ys (λ h. omega arith) up) among.within

pub AreAmong-itself : (tracks : List Var) → AreAmong tracks tracks
AreAmong-itself tracks = record { within = All-map (λ track. track < length tracks) (place tracks) tracks (all_within tracks tracks (λ name h. h)) }

-- a word over all tracks, read on all of them
restrict-later : (y : Var) (all some : List Var) (letter : ℕ) → Rising (y.0 + 1) some → restrict (y ∷ all) some letter ≡ restrict all some (letter / 2)
unfolding Rising
restrict-later y all [] letter rising = refl
restrict-later y all (v ∷ vs) letter rising =
    let above = rising.0 in
    let other : y.0 ≢ v.0 = omega (arith, above) in
    let at : place (y ∷ all) v ≡ suc (place all v) = grind (arith, common_steps, nat_tests, other) in
    let bit : bit_at letter (place (y ∷ all) v) ≡ bit_at (letter / 2) (place all v) = ap (bit_at letter) at ∙ bit_at-suc letter (place all v) in
    let rest = restrict-later y all vs letter (rising-lower (v.0 + 1) (y.0 + 1) vs (omega (arith, above)) rising.1) in
    λ i. bit i + 2 * rest i

restrict-whole : (bound : ℕ) (tracks : List Var) (letter : ℕ) → Rising bound tracks → letter < 2 ^ length tracks → restrict tracks tracks letter ≡ letter
unfolding Rising
restrict-whole bound [] letter rising small = omega (arith, small)
restrict-whole bound (y ∷ ys) letter rising small =
    let at : place (y ∷ ys) y ≡ 0 = grind (arith, common_steps, nat_tests) in
    let bit : bit_at letter (place (y ∷ ys) y) ≡ letter % 2 = ap (bit_at letter) at ∙ bit_at_lowest letter in
    let two : 2 ^ suc (length ys) ≡ 2 * 2 ^ length ys = omega arith in
    let rest = restrict-later y ys ys letter rising.1 ∙ restrict-whole (y.0 + 1) ys (letter / 2) rising.1 (omega (arith, small, two)) in
    let whole : letter % 2 + 2 * (letter / 2) ≡ letter = omega arith in
    (λ i. bit i + 2 * rest i) ∙ whole

part_of-rising : (tracks : List Var) (word : List ℕ) → Rising 0 tracks → All (λ letter. letter < 2 ^ length tracks) word → part_of tracks tracks word ≡ word
part_of-rising tracks [] rising small = refl
part_of-rising tracks (letter ∷ letters) rising small =
    let here = restrict-whole 0 tracks letter rising (All-head (λ l. l < 2 ^ length tracks) letter letters small) in
    let rest = part_of-rising tracks letters rising (All-tail (λ l. l < 2 ^ length tracks) letter letters small) in
    λ i. here i ∷ rest i

pub part_of-whole : (tracks : List Var) (word : List ℕ) → IsAscending tracks → All (λ letter. letter < 2 ^ length tracks) word → part_of tracks tracks word ≡ word
part_of-whole tracks word ascending small = part_of-rising tracks word (rising-ascending 0 tracks (λ h. omega arith) ascending) small

-- being among others, track by track
pub AreAmong-each : (all some : List Var) → All (λ track. place all track < length all) some → AreAmong all some
AreAmong-each all some each = record { within = All-map (λ place. place < length all) (place all) some each }

pub each-AreAmong : {all some : List Var} → AreAmong all some → All (λ track. place all track < length all) some
each-AreAmong {all} {some} among = λ k d within.
    let size = length-map some (place all) in
    subst (λ n. n < length all) (get_or-map (place all) some k d 0 within) (among.within k 0 (omega (arith, size, within)))

-- one more track is among others, or is not
pub each-more : (all some : List Var) (i n : ℕ) (e : Var) → i < length some → n ≡ place all (get_or some i e) → n < length all
    → ((k : ℕ) (d : Var) → k < i → place all (get_or some k d) < length all) → (k : ℕ) (d : Var) → k < i + 1 → place all (get_or some k d) < length all
each-more all some i n e inside is within before k d less = elim (cases_eq k i) [
  | inl here ↦ subst (λ m. place all (get_or some m d) < length all) (sym here)
      (subst (λ (v : Var). place all v < length all) (get_or_default some i e d inside) (subst (λ m. m < length all) is within))
  | inr other ↦ before k d (omega (arith, less, other))
]

pub not_among : {all some : List Var} (i n : ℕ) (e : Var) → i < length some → n ≡ place all (get_or some i e) → length all ≤ n → AreAmong all some → ⊥
not_among i n e inside is past among = let below = each-AreAmong among i e inside in omega (arith, below, is, past)
