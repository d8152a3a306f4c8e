-- The list of options has each option, and nothing else.
use Rattle.std.proofs.Common.{◌≡◌, ◌≢◌, ◌⊎◌, ◌↔◌, ℕ, zero, suc, ◌<◌, ◌≤◌, Bool, true, false, ◌&&◌, not, List, [], ◌∷◌, ◌++◌, length, Option, Some, None, inl, inr, refl, subst, sym, ap, arith, length-append, ◌+◌, ◌*◌}
use Rattle.std.specs.Prelude.{if◌then◌else◌, slice_get}
use Rattle.std.specs.List.{Contains}
use Rattle.std.proofs.Math.Nat.{mul-le-mul_right}
use Rattle.std.proofs.lemmas.List.Elements.{Contains-append_left, Contains-append_right, Contains-append_cases, Contains-push, Contains-push_cases}
use Rattle.std.proofs.lemmas.Option.{slice_get_within}
use Rattle.game_rules.specs.declared.men.Kind.{Kind}
use Rattle.game_rules.specs.declared.men.Kind.TheVariants.{King, Queen, Rook, Bishop, Knight, Pawn, Chancellor, Archbishop, Amazon, Nightrider}
use Rattle.game_rules.specs.declared.men.Side.{Side}
use Rattle.game_rules.specs.declared.men.Side.TheVariants.{White, Black}
use Rattle.game_rules.specs.declared.men.Man.{Man}
use Rattle.game_rules.specs.Game.{other}
use Rattle.chess_game.proofs.AnswerBounds.{rays_few as kind_rays_few}
use Rattle.rule_formula.specs.declared.opt.Opt.{Opt}
use Rattle.game_rules.specs.declared.men.Ray.{Ray}
use Rattle.game_rules.specs.Rays.{rays_of, serves_captures, serves_moves}
use Rattle.rule_formula.specs.Placed.{is_live}
use Rattle.game_laws.specs.Stock.{stock_man}
use Rattle.rule_formula.specs.Options.{captures_to, is_king, is_prey, is_prey_man, is_side, man_options, option, options_of, options_to, ray_options, rays_to}
use Rattle.rule_formula.specs.Meaning.{IsOption, IsOptionOfSide, IsPrey, Serves}
use Rattle.rule_formula.proofs.BearLemmas.{stock_number}
use Rattle.rule_formula.proofs.ChainLemmas.{last_or_before}

pub nothing : {A : Type 0} (o : A) → Contains [] o → ⊥
nothing o (k, within, is) = omega (arith, within)

one : {A : Type 0} (y o : A) → Contains (y ∷ []) o ↔ (y ≡ o)
one y o = (
  λ h. elim (Contains-push_cases [] y o h) [ inl none ↦ absurd (nothing o none) | inr e ↦ e ],
  λ e. subst (Contains (y ∷ [])) e (Contains-push [] y),
)

pub pushed_if : {A : Type 0} (b : Bool) (xs : List A) (y o : A) → Contains (if b then xs ++ y ∷ [] else xs) o ↔ (Contains xs o ⊎ ((b ≡ true) × (y ≡ o)))
pushed_if true xs y o = (
  λ h. elim (Contains-push_cases xs y o h) [ inl before ↦ inl before | inr e ↦ inr (refl, e) ],
  λ h. elim h [ inl before ↦ Contains-append_left xs (y ∷ []) o before | inr e ↦ subst (Contains (xs ++ y ∷ [])) e.1 (Contains-push xs y) ],
)
pushed_if false xs y o = (λ h. inl h, λ h. elim h [ inl before ↦ before | inr e ↦ absurd (cc) ])

pub only_if : {A : Type 0} (b : Bool) (xs : List A) (o : A) → Contains (if b then xs else []) o ↔ ((b ≡ true) × Contains xs o)
only_if true xs o = (λ h. (refl, h), λ h. h.1)
only_if false xs o = (λ h. absurd (nothing o h), λ h. absurd (cc))

pub appended : {A : Type 0} (xs ys : List A) (o : A) → Contains (xs ++ ys) o ↔ (Contains xs o ⊎ Contains ys o)
appended xs ys o = (
  λ h. Contains-append_cases xs ys o h,
  λ h. elim h [ inl first ↦ Contains-append_left xs ys o first | inr second ↦ Contains-append_right xs ys o second ],
)

record IsCapture (stock : List Man) (mask : ℕ) (s : Side) (i n k : ℕ) (o : Opt) : Type 0 where
  is : option i n o.taken ≡ o
  low : 0 < o.taken
  high : o.taken ≤ k
  prey : is_prey stock mask s o.taken ≡ true

captures_are : (stock : List Man) (mask : ℕ) (s : Side) (i n k : ℕ) (o : Opt) → Contains (captures_to stock mask s i n k) o ↔ IsCapture stock mask s i n k o
captures_are stock mask s i n zero o = (λ h. absurd (nothing o h), λ h. absurd (omega (arith, h.low, h.high)))
captures_are stock mask s i n (suc k) o =
    let step = pushed_if (is_prey stock mask s (suc k)) (captures_to stock mask s i n k) (option i n (suc k)) o in
    let before = captures_are stock mask s i n k o in (
      λ h.
          elim (step.0 h) [
            | inl earlier ↦ let w = before.0 earlier in let last : o.taken ≤ k = w.high in record { is = w.is; low = w.low; high = omega arith; prey = w.prey }
            | inr e ↦
                let at : suc k ≡ o.taken = ap (λ (x : Opt). x.taken) e.1 in
                record { is = subst (λ t. option i n t ≡ o) at e.1; low = omega arith; high = omega arith; prey = subst (λ t. is_prey stock mask s t ≡ true) at e.0 }
          ],
      λ h.
          elim (last_or_before o.taken k h.high) [
            | inl earlier ↦ step.1 (inl (before.1 (record { is = h.is; low = h.low; high = earlier; prey = h.prey })))
            | inr at ↦ step.1 (inr (subst (λ t. is_prey stock mask s t ≡ true) at h.prey, subst (λ t. option i n t ≡ o) at h.is))
          ],
    )

-- the option goes along this ray
abbrev IsAlongRay : List Man → ℕ → Side → Kind → ℕ → ℕ → Opt → Type 0
IsAlongRay stock mask s sort i n o =
    ((serves_moves sort n ≡ true) × (option i n 0 ≡ o)) ⊎ ((serves_captures sort n ≡ true) × IsCapture stock mask s i n (length stock) o)

ray_options_are : (stock : List Man) (mask : ℕ) (s : Side) (sort : Kind) (i n : ℕ) (o : Opt) → Contains (ray_options stock mask s sort i n) o ↔ IsAlongRay stock mask s sort i n o
ray_options_are stock mask s sort i n o =
    let parts = appended (if serves_moves sort n then option i n 0 ∷ [] else []) (if serves_captures sort n then captures_to stock mask s i n (length stock) else []) o in
    let moves = only_if (serves_moves sort n) (option i n 0 ∷ []) o in
    let captures = only_if (serves_captures sort n) (captures_to stock mask s i n (length stock)) o in
    let single = one (option i n 0) o in
    let all = captures_are stock mask s i n (length stock) o in (
      λ h.
          elim (parts.0 h) [
            | inl first ↦ let w = moves.0 first in inl (w.0, single.0 w.1)
            | inr second ↦ let w = captures.0 second in inr (w.0, all.0 w.1)
          ],
      λ h.
          elim h [
            | inl first ↦ parts.1 (inl (moves.1 (first.0, single.1 first.1)))
            | inr second ↦ parts.1 (inr (captures.1 (second.0, all.1 second.1)))
          ],
    )

rays_are_in : (stock : List Man) (mask : ℕ) (s : Side) (sort : Kind) (i n : ℕ) (o : Opt) → Contains (rays_to stock mask s sort i n) o → (o.ray < n) × IsAlongRay stock mask s sort i o.ray o
rays_are_in stock mask s sort i zero o h = absurd (nothing o h)
rays_are_in stock mask s sort i (suc n) o h =
    elim ((appended (rays_to stock mask s sort i n) (ray_options stock mask s sort i n) o).0 h) [
      | inl earlier ↦ let w = rays_are_in stock mask s sort i n o earlier in let low : o.ray < n = w.0 in (omega arith, w.1)
      | inr last ↦
          let w = (ray_options_are stock mask s sort i n o).0 last in
          let at : n ≡ o.ray = elim w [ inl first ↦ ap (λ (x : Opt). x.ray) first.1 | inr second ↦ ap (λ (x : Opt). x.ray) second.1.is ] in
          (omega arith, subst (λ m. IsAlongRay stock mask s sort i m o) at w)
    ]

in_rays : (stock : List Man) (mask : ℕ) (s : Side) (sort : Kind) (i n m : ℕ) (o : Opt) → m < n → IsAlongRay stock mask s sort i m o → Contains (rays_to stock mask s sort i n) o
in_rays stock mask s sort i zero m o low h = absurd (omega arith)
in_rays stock mask s sort i (suc n) m o low h =
    let step = appended (rays_to stock mask s sort i n) (ray_options stock mask s sort i n) o in
    elim (last_or_before (suc m) n (omega arith)) [
      | inl earlier ↦ step.1 (inl (in_rays stock mask s sort i n m o (omega arith) h))
      | inr last ↦ let at : m ≡ n = omega arith in step.1 (inr ((ray_options_are stock mask s sort i n o).1 (subst (λ j. IsAlongRay stock mask s sort i j o) at h)))
    ]

pub some_or_none : (x : Option Man) → ((m : Man) × (x ≡ Some m)) ⊎ (x ≡ None)
some_or_none None = inr refl
some_or_none (Some m) = inl (m, refl)

pub both_true : (a b : Bool) → (a && b) ≡ true → (a ≡ true) × (b ≡ true)
both_true true b h = (refl, h)
both_true false b h = absurd (cc)

pub true_both : (a b : Bool) → a ≡ true → b ≡ true → (a && b) ≡ true
true_both true b e h = h
true_both false b e h = absurd (cc)

pub get_some : (xs : List Ray) (n : ℕ) → n < length xs → (r : Ray) × (slice_get xs n ≡ Some r)
get_some [] n low = absurd (omega (arith, low))
get_some (x ∷ xs) zero low = (x, refl)
get_some (x ∷ xs) (suc n) low = get_some xs n (omega (arith, low))

pub side_is : (a b : Side) → is_side a b ≡ true → a ≡ b
side_is White White e = refl
side_is White Black e = absurd (cc)
side_is Black White e = absurd (cc)
side_is Black Black e = refl

pub is_his_side : (a b : Side) → a ≡ b → is_side a b ≡ true
is_his_side White White e = refl
is_his_side White Black e = absurd (cc)
is_his_side Black White e = absurd (cc)
is_his_side Black Black e = refl

enemy_is : (a b : Side) → not (is_side a b) ≡ true → a ≡ other b
enemy_is White White e = absurd (cc)
enemy_is White Black e = refl
enemy_is Black White e = refl
enemy_is Black Black e = absurd (cc)

pub is_enemy : (a b : Side) → a ≡ other b → not (is_side a b) ≡ true
is_enemy White White e = absurd (cc)
is_enemy White Black e = refl
is_enemy Black White e = refl
is_enemy Black Black e = absurd (cc)

pub no_king : (k : Kind) → not (is_king k) ≡ true → k ≢ King
no_king King e = λ w. cc
no_king Queen e = λ w. cc
no_king Rook e = λ w. cc
no_king Bishop e = λ w. cc
no_king Knight e = λ w. cc
no_king Chancellor e = λ w. cc
no_king Archbishop e = λ w. cc
no_king Amazon e = λ w. cc
no_king Nightrider e = λ w. cc
no_king Pawn e = λ w. cc

pub not_king : (k : Kind) → k ≢ King → not (is_king k) ≡ true
not_king King e = absurd (e refl)
not_king Queen e = refl
not_king Rook e = refl
not_king Bishop e = refl
not_king Knight e = refl
not_king Chancellor e = refl
not_king Archbishop e = refl
not_king Amazon e = refl
not_king Nightrider e = refl
not_king Pawn e = refl

prey_from : (stock : List Man) (mask t : ℕ) (s : Side) → is_prey stock mask s t ≡ true → IsPrey stock mask s t
prey_from stock mask zero s h = tt
prey_from stock mask (suc t) s h =
    let w = both_true (is_live mask (suc t)) (is_prey_man s (stock_man stock (suc t))) h in
    elim (some_or_none (stock_man stock (suc t))) [
      | inl found ↦
          let prey : is_prey_man s (Some found.0) ≡ true = subst (λ x. is_prey_man s x ≡ true) found.1 w.1 in
          let parts = both_true (not (is_side found.0.side s)) (not (is_king found.0.kind)) prey in
          (found.0, found.1, w.0, enemy_is found.0.side s parts.0, no_king found.0.kind parts.1)
      | inr none ↦ let prey : is_prey_man s None ≡ true = subst (λ x. is_prey_man s x ≡ true) none w.1 in absurd (cc)
    ]

prey_to : (stock : List Man) (mask t : ℕ) (s : Side) → 0 < t → IsPrey stock mask s t → (is_prey stock mask s t ≡ true) × (t ≤ length stock)
prey_to stock mask zero s low h = absurd (omega (arith, low))
prey_to stock mask (suc t) s low (m, is, live, enemy, piece) =
    let man : is_prey_man s (stock_man stock (suc t)) ≡ true =
    subst (λ x. is_prey_man s x ≡ true) (sym is) (true_both (not (is_side m.side s)) (not (is_king m.kind)) (is_enemy m.side s enemy) (not_king m.kind piece)) in
    (true_both (is_live mask (suc t)) (is_prey_man s (stock_man stock (suc t))) live man, (stock_number stock (suc t) m is).high)

serves_from : (k : Kind) (n t : ℕ) → 0 < t → serves_captures k n ≡ true → Serves k n t
serves_from k n zero low h = absurd (omega (arith, low))
serves_from k n (suc t) low h = h

-- the options of man i in the list are his
option_from : (stock : List Man) (mask : ℕ) (s : Side) (i : ℕ) (m : Man) (o : Opt) → stock_man stock i ≡ Some m
    → Contains (man_options stock mask s i (Some m)) o → IsOptionOfSide stock mask s o
option_from stock mask s i m o is h =
    let w = (only_if (is_live mask i && is_side m.side s) (rays_to stock mask s m.kind i (length (rays_of m.kind m.side))) o).0 h in
    let alive = both_true (is_live mask i) (is_side m.side s) w.0 in
    let his : m.side ≡ s = side_is m.side s alive.1 in
    let along = rays_are_in stock mask s m.kind i (length (rays_of m.kind m.side)) o w.1 in
    let (r, ray) = get_some (rays_of m.kind m.side) o.ray along.0 in
    let at : i ≡ o.man = elim along.1 [ inl quiet ↦ ap (λ (x : Opt). x.man) quiet.1 | inr capture ↦ ap (λ (x : Opt). x.man) capture.1.is ] in
    let served : Serves m.kind o.ray o.taken = elim along.1 [
      | inl quiet ↦ subst (Serves m.kind o.ray) (ap (λ (x : Opt). x.taken) quiet.1) quiet.0
      | inr capture ↦ serves_from m.kind o.ray o.taken capture.1.low capture.0
    ]
    in
    let prey : IsPrey stock mask s o.taken = elim along.1 [
      | inl quiet ↦ subst (IsPrey stock mask s) (ap (λ (x : Opt). x.taken) quiet.1) tt
      | inr capture ↦ prey_from stock mask o.taken s capture.1.prey
    ]
    in (
      record {
        man = m;
        ray = r;
        is = record {
          is_man = subst (λ j. stock_man stock j ≡ Some m) at is;
          live = subst (λ j. is_live mask j ≡ true) at alive.0;
          ray = ray;
          serves = served;
          prey = subst (λ x. IsPrey stock mask x o.taken) (sym his) prey;
        };
      },
      his,
    )

listed : (stock : List Man) (mask : ℕ) (s : Side) (n : ℕ) (o : Opt) → Contains (options_to stock mask s n) o → IsOptionOfSide stock mask s o
listed stock mask s zero o h = absurd (nothing o h)
listed stock mask s (suc n) o h =
    elim ((appended (options_to stock mask s n) (man_options stock mask s (suc n) (stock_man stock (suc n))) o).0 h) [
      | inl earlier ↦ listed stock mask s n o earlier
      | inr last ↦ elim (some_or_none (stock_man stock (suc n))) [
        | inl found ↦ option_from stock mask s (suc n) found.0 o found.1 (subst (λ x. Contains (man_options stock mask s (suc n) x) o) found.1 last)
        | inr none ↦ absurd (nothing o (subst (λ x. Contains (man_options stock mask s (suc n) x) o) none last))
      ]
    ]

along_from : (stock : List Man) (mask : ℕ) (s : Side) (sort : Kind) (i n t : ℕ) → Serves sort n t → IsPrey stock mask s t → IsAlongRay stock mask s sort i n (option i n t)
along_from stock mask s sort i n zero serves prey = inl (serves, refl)
along_from stock mask s sort i n (suc t) serves prey =
    let w = prey_to stock mask (suc t) s (omega arith) prey in
    inr (serves, record { is = refl; low = omega arith; high = w.1; prey = w.0 })

man_lists : {stock : List Man} {mask : ℕ} (s : Side) (o : Opt) {m : Man} {r : Ray} → IsOption stock mask o.man o.ray o.taken m r → m.side ≡ s
    → Contains (man_options stock mask s o.man (stock_man stock o.man)) o
man_lists {stock} {mask} s o {m} {r} is his =
    let within : o.ray < length (rays_of m.kind m.side) = slice_get_within (rays_of m.kind m.side) o.ray r is.ray in
    let along : IsAlongRay stock mask s m.kind o.man o.ray o = along_from stock mask s m.kind o.man o.ray o.taken is.serves (subst (λ x. IsPrey stock mask x o.taken) his is.prey) in
    let inside : Contains (man_options stock mask s o.man (Some m)) o = (only_if (is_live mask o.man && is_side m.side s) (rays_to stock mask s m.kind o.man (length (rays_of m.kind m.side))) o).1
    (true_both (is_live mask o.man) (is_side m.side s) is.live (is_his_side m.side s his), in_rays stock mask s m.kind o.man (length (rays_of m.kind m.side)) o.ray o within along)
    in
    subst (λ x. Contains (man_options stock mask s o.man x) o) (sym is.is_man) inside

lists : {stock : List Man} {mask : ℕ} (s : Side) (n : ℕ) (o : Opt) {m : Man} {r : Ray}
    → IsOption stock mask o.man o.ray o.taken m r → m.side ≡ s → o.man ≤ n → Contains (options_to stock mask s n) o
lists {stock} s zero o {m} is his high =
    let at = stock_number stock o.man m is.is_man in absurd (omega (arith, at.low))
lists {stock} {mask} s (suc n) o is his high =
    let step = appended (options_to stock mask s n) (man_options stock mask s (suc n) (stock_man stock (suc n))) o in
    elim (last_or_before o.man n high) [
      | inl earlier ↦ step.1 (inl (lists s n o is his earlier))
      | inr last ↦ step.1 (inr (subst (λ j. Contains (man_options stock mask s j (stock_man stock j)) o) last (man_lists s o is his)))
    ]

-- the list has exactly the options of the men of the side
pub options_are : (stock : List Man) (mask : ℕ) (s : Side) (o : Opt) → Contains (options_of stock mask s) o ↔ IsOptionOfSide stock mask s o
options_are stock mask s o = (
  λ h. listed stock mask s (length stock) o h,
  λ (w, his).
      let at = stock_number stock o.man w.man w.is.is_man in
      lists s (length stock) o w.is his at.high,
)

keep_few : (b : Bool) (xs : List Opt) → length (if b then xs else []) ≤ length xs
keep_few true xs = omega arith
keep_few false xs = omega arith

-- how many of the first n numbers pass the test
count : (ℕ → Bool) → ℕ → ℕ
count f zero = 0
count f (suc n) = if f (suc n) then suc (count f n) else count f n

one_more : (b c : Bool) (m n k : ℕ) → (b ≡ true → c ≡ false) → m + n ≤ k → (if b then suc m else m) + (if c then suc n else n) ≤ suc k
one_more true true m n k apart h = absurd (let no = apart refl in cc)
one_more true false m n k apart h = omega (arith, h)
one_more false true m n k apart h = omega (arith, h)
one_more false false m n k apart h = omega (arith, h)

-- no number passes both tests
counts_apart : (f g : ℕ → Bool) → ((k : ℕ) → f k ≡ true → g k ≡ false) → (n : ℕ) → count f n + count g n ≤ n
unfolding count
counts_apart f g apart zero = omega arith
counts_apart f g apart (suc n) = one_more (f (suc n)) (g (suc n)) (count f n) (count g n) n (apart (suc n)) (counts_apart f g apart n)

abbrev is_his_man : Side → Option Man → Bool
is_his_man s None = false
is_his_man s (Some m) = is_side m.side s

-- man k is a live man of the side
abbrev is_his : List Man → ℕ → Side → ℕ → Bool
is_his stock mask s k = is_live mask k && is_his_man s (stock_man stock k)

no_prey_man : (s : Side) (x : Option Man) → is_his_man s x ≡ true → is_prey_man s x ≡ false
no_prey_man s None h = refl
no_prey_man s (Some m) h = his_own (is_side m.side s) (not (is_king m.kind)) h
  where
    his_own : (b c : Bool) → b ≡ true → (not b && c) ≡ false
    his_own true c h = refl
    his_own false c h = absurd (cc)

-- he is no prey of his own side
no_prey : (stock : List Man) (mask : ℕ) (s : Side) (k : ℕ) → is_his stock mask s k ≡ true → is_prey stock mask s k ≡ false
no_prey stock mask s k h = cases (is_live mask k) (is_his_man s (stock_man stock k)) (is_prey_man s (stock_man stock k)) h (no_prey_man s (stock_man stock k))
  where
    cases : (a b c : Bool) → (a && b) ≡ true → (b ≡ true → c ≡ false) → (a && c) ≡ false
    cases true b c h none = none h
    cases false b c h none = refl

push_count : (b : Bool) (xs : List Opt) (y : Opt) (n : ℕ) → length xs ≤ n → length (if b then xs ++ y ∷ [] else xs) ≤ (if b then suc n else n)
push_count true xs y n h = let e = length-append xs (y ∷ []) in omega (arith, e, h)
push_count false xs y n h = h

keep_count : (b : Bool) (xs : List Opt) (n : ℕ) → length xs ≤ n → length (if b then xs else []) ≤ (if b then n else 0)
keep_count true xs n h = h
keep_count false xs n h = omega arith

-- as many captures along a ray as there are preys
captures_few : (stock : List Man) (mask : ℕ) (s : Side) (i n k : ℕ) → length (captures_to stock mask s i n k) ≤ count (is_prey stock mask s) k
unfolding count
captures_few stock mask s i n zero = omega arith
captures_few stock mask s i n (suc k) =
    push_count (is_prey stock mask s (suc k)) (captures_to stock mask s i n k) (option i n (suc k)) (count (is_prey stock mask s) k) (captures_few stock mask s i n k)

abbrev preys : List Man → ℕ → Side → ℕ
preys stock mask s = count (is_prey stock mask s) (length stock)

ray_few : (stock : List Man) (mask : ℕ) (s : Side) (sort : Kind) (i n : ℕ) → length (ray_options stock mask s sort i n) ≤ suc (preys stock mask s)
ray_few stock mask s sort i n =
    let quiet : List Opt = if serves_moves sort n then option i n 0 ∷ [] else [] in
    let takes : List Opt = if serves_captures sort n then captures_to stock mask s i n (length stock) else [] in
    let both : length (quiet ++ takes) ≡ length quiet + length takes = length-append quiet takes in
    let first : length quiet ≤ 1 = keep_few (serves_moves sort n) (option i n 0 ∷ []) in
    let second : length takes ≤ length (captures_to stock mask s i n (length stock)) = keep_few (serves_captures sort n) (captures_to stock mask s i n (length stock)) in
    let third : length (captures_to stock mask s i n (length stock)) ≤ preys stock mask s = captures_few stock mask s i n (length stock) in omega (arith, both, first, second, third)

rays_few : (stock : List Man) (mask : ℕ) (s : Side) (sort : Kind) (i n : ℕ) → length (rays_to stock mask s sort i n) ≤ n * suc (preys stock mask s)
rays_few stock mask s sort i zero = omega arith
rays_few stock mask s sort i (suc n) =
    let both = length-append (rays_to stock mask s sort i n) (ray_options stock mask s sort i n) in
    let rest = rays_few stock mask s sort i n in
    let last = ray_few stock mask s sort i n in more n (suc (preys stock mask s)) _ _ _ both rest last
  where
    more : (n c a b d : ℕ) → d ≡ a + b → a ≤ n * c → b ≤ c → d ≤ suc n * c
    more n c a b d e h k = omega (arith, e, h, k)

no_more : (n c a : ℕ) → n ≤ 16 → a ≤ n * c → a ≤ 16 * c
no_more n c a few h = let most : n * c ≤ 16 * c = mul-le-mul_right c few in omega (arith, h, most)

man_few : (stock : List Man) (mask : ℕ) (s : Side) (i : ℕ) (x : Option Man)
    → length (man_options stock mask s i x) ≤ (if is_live mask i && is_his_man s x then 16 * suc (preys stock mask s) else 0)
man_few stock mask s i None = omega arith
man_few stock mask s i (Some m) =
    keep_count (is_live mask i && is_side m.side s) (rays_to stock mask s m.kind i (length (rays_of m.kind m.side))) (16 * suc (preys stock mask s))
    (no_more (length (rays_of m.kind m.side)) (suc (preys stock mask s)) _ (kind_rays_few m.kind m.side) (rays_few stock mask s m.kind i (length (rays_of m.kind m.side))))

to_few : (stock : List Man) (mask : ℕ) (s : Side) (n : ℕ) → length (options_to stock mask s n) ≤ count (is_his stock mask s) n * (16 * suc (preys stock mask s))
unfolding count
to_few stock mask s zero = omega arith
to_few stock mask s (suc n) =
    let both = length-append (options_to stock mask s n) (man_options stock mask s (suc n) (stock_man stock (suc n))) in
    let rest = to_few stock mask s n in
    let last = man_few stock mask s (suc n) (stock_man stock (suc n)) in
    more (is_his stock mask s (suc n)) (count (is_his stock mask s) n) (16 * suc (preys stock mask s)) _ _ _ both rest last
  where
    more : (b : Bool) (n c a d e : ℕ) → e ≡ a + d → a ≤ n * c → d ≤ (if b then c else 0) → e ≤ (if b then suc n else n) * c
    more true n c a d e is h k = omega (arith, is, h, k)
    more false n c a d e is h k = omega (arith, is, h, k)

product_few : (o f : ℕ) → o + f ≤ 8 → o * (16 * suc f) ≤ 1000
product_few zero f h = omega arith
product_few (suc zero) f h = omega (arith, h)
product_few (suc (suc zero)) f h = omega (arith, h)
product_few (suc (suc (suc zero))) f h = omega (arith, h)
product_few (suc (suc (suc (suc zero)))) f h = omega (arith, h)
product_few (suc (suc (suc (suc (suc zero))))) f h = omega (arith, h)
product_few (suc (suc (suc (suc (suc (suc zero)))))) f h = omega (arith, h)
product_few (suc (suc (suc (suc (suc (suc (suc zero))))))) f h = omega (arith, h)
product_few (suc (suc (suc (suc (suc (suc (suc (suc zero)))))))) f h = omega (arith, h)
product_few (suc (suc (suc (suc (suc (suc (suc (suc (suc o))))))))) f h = absurd (omega (arith, h))

-- there are at most a thousand options: who has many men has few to take
pub options_few : (stock : List Man) (mask : ℕ) (s : Side) → length stock ≤ 8 → length (options_of stock mask s) ≤ 1000
options_few stock mask s few =
    let all : length (options_of stock mask s) ≤ count (is_his stock mask s) (length stock) * (16 * suc (preys stock mask s)) = to_few stock mask s (length stock) in
    let apart : count (is_his stock mask s) (length stock) + preys stock mask s ≤ length stock = counts_apart (is_his stock mask s) (is_prey stock mask s) (no_prey stock mask s) (length stock) in
    let most : count (is_his stock mask s) (length stock) * (16 * suc (preys stock mask s)) ≤ 1000 =
    product_few (count (is_his stock mask s) (length stock)) (preys stock mask s) (omega (arith, apart, few)) in omega (arith, all, most)
