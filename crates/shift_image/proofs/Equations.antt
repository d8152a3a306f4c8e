-- What letters after a word can make of equations between the values of tracks.
use Rattle.std.proofs.Common.{◌≡◌, ◌≢◌, ◌↔◌, ℕ, zero, suc, ◌+◌, ◌-◌, ◌*◌, ◌^◌, ◌<◌, ◌≤◌, pos, ◌+ℤ◌, ◌-ℤ◌}
use Rattle.std.proofs.Common.{Bool, true, false, nat_lt, if◌then◌else◌, List, [], ◌∷◌, ◌++◌, length, length-append}
use Rattle.std.proofs.Common.{arith, refl, sym, ap, ◌∙◌, inl, inr}
use Rattle.std.specs.Int.{bit_at}
use Rattle.std.proofs.lemmas.Grind.{common_steps}
use Rattle.std.proofs.lemmas.Bool.{cases_lt}
use Rattle.std.proofs.lemmas.Int.{ints}
use Rattle.std.proofs.lemmas.Nat.{pow-add, mul-le}
use Rattle.track_word.specs.declared.tracks.Var.{Var}
use Rattle.track_word.specs.Word.{val, low_value}
use Rattle.track_word.specs.Tracks.{place, word_values}
use Rattle.track_word.proofs.Spelling.{low_value-lt}
use Rattle.shift_image.specs.Equations.{Equation, IsSolved, AreSolved, weight, greater_weight, less_weight}
use Rattle.shift_image.specs.Equations.{offset_of, offset, open_ways, joint, way}

spread : (b p q l r : ℕ) → b * (p * q) + (l * q + r) ≡ (b * p + l) * q + r
spread b p q l r = grind arith

-- the size of a word with letters after it
size-append : (v letters : List ℕ) → 2 ^ length (v ++ letters) ≡ 2 ^ length v * 2 ^ length letters
size-append v letters = ap (λ n. 2 ^ n) (length-append v letters) ∙ pow-add 2 (length v) (length letters)

low_value-append : (letters more : List ℕ) (t : ℕ)
    → low_value (letters ++ more) t ≡ low_value letters t * 2 ^ length more + low_value more t
low_value-append [] more t = omega arith
low_value-append (l ∷ letters) more t =
    let size = size-append letters more in
    let rest = low_value-append letters more t in
    (λ i. bit_at l t * size i + rest i)
    ∙ spread (bit_at l t) (2 ^ length letters) (2 ^ length more) (low_value letters t) (low_value more t)

shuffle : (l p q r b : ℕ) → l * q + r + b * (p * q) ≡ (l + b * p) * q + r
shuffle l p q r b = grind arith

weight-append : (v letters : List ℕ) (t o : ℕ) → v ≢ []
    → weight t o (v ++ letters) ≡ weight t o v * 2 ^ length letters + low_value letters t
weight-append [] letters t o some = absurd (some refl)
weight-append (sign ∷ v) letters t o some =
    let size = size-append v letters in
    let low = low_value-append v letters t in
    (λ i. low i + bit_at sign o * size i)
    ∙ shuffle (low_value v t) (2 ^ length v) (2 ^ length letters) (low_value letters t) (bit_at sign o)

-- an equation as one of numbers
sides : (a b c d n : ℕ) → (pos a -ℤ pos b ≡ (pos c -ℤ pos d) +ℤ pos n) ↔ (a + d ≡ c + b + n)
sides a b c d n = (λ e. omega (arith, ints, e), λ e. omega (arith, ints, e))

-- what a sign letter takes on a track, before so many letters
abbrev taken : ℕ → List ℕ → ℕ → ℕ
taken sign letters t = bit_at sign t * 2 ^ length letters

solved-weight : (all : List Var) (q : Equation) (w : List ℕ) → w ≢ []
    → IsSolved (word_values all w) q ↔ (greater_weight all q w ≡ less_weight all q w + q.by)
solved-weight all q [] some = absurd (some refl)
solved-weight all q (sign ∷ letters) some =
    sides (low_value letters (place all q.greater)) (taken sign letters (place all q.greater))
    (low_value letters (place all q.less)) (taken sign letters (place all q.less)) q.by

not_nil : (v letters : List ℕ) → v ≢ [] → v ++ letters ≢ []
not_nil [] letters h e = h refl
not_nil (x ∷ v) letters h e = cc

-- the letters bring both sides together
abbrev IsSolvedLater : List Var → Equation → List ℕ → List ℕ → Type 0
IsSolvedLater all q v letters =
    greater_weight all q v * 2 ^ length letters + low_value letters (place all q.greater)
    ≡ less_weight all q v * 2 ^ length letters + low_value letters (place all q.less) + q.by

solved-later : (all : List Var) (q : Equation) (v letters : List ℕ) → v ≢ []
    → IsSolved (word_values all (v ++ letters)) q ↔ IsSolvedLater all q v letters
solved-later all q v letters some =
    let here = solved-weight all q (v ++ letters) (not_nil v letters some) in
    let one = weight-append v letters (place all q.greater) (place all q.less) some in
    let two = weight-append v letters (place all q.less) (place all q.greater) some in
    (λ h. sym one ∙ here.0 h ∙ ap (λ n. n + q.by) two, λ h. here.1 (one ∙ h ∙ ap (λ n. n + q.by) (sym two)))

pub more-product : (k m j : ℕ) → suc k ≤ j → k * m + m ≤ j * m
more-product k m j h =
    let l = mul-le (suc k) m j m h (omega arith) in
    let e : suc k * m ≡ k * m + m = grind arith in
    omega (arith, l, e)

-- which of the cases of an offset
pub data Offset (a b n r : ℕ) : Type 0 where
  Before : a < b → r ≡ 0 → Offset a b n r
  Past : b + n < a → r ≡ 0 → Offset a b n r
  Within : b ≤ a → a ≤ b + n → r ≡ a - b + 1 → Offset a b n r

offset_cases : (a b n : ℕ) → Offset a b n (offset_of a b n)
offset_cases a b n = first (nat_lt a b) refl
  where
    second : (c : Bool) → nat_lt (b + n) a ≡ c → b ≤ a → Offset a b n (if c then 0 else a - b + 1)
    second true e h = Past (grind (arith, common_steps, e)) refl
    second false e h = Within h (grind (arith, common_steps, e)) refl

    first : (c : Bool) → nat_lt a b ≡ c → Offset a b n (if c then 0 else (if nat_lt (b + n) a then 0 else a - b + 1))
    first true e = Before (grind (arith, common_steps, e)) refl
    first false e = second (nat_lt (b + n) a) refl (grind (arith, common_steps, e))

-- what can still be solved has an offset
live-offset : (a b n p x y : ℕ) → x < p → y < p → a * p + x ≡ b * p + y + n → 0 < offset_of a b n
live-offset a b n p x y hx hy e = elim (offset_cases a b n) [
  | Before less z ↦ let m = more-product a p b (omega (arith, less)) in absurd (omega (arith, m, hx, e))
  | Past more z ↦
      let m = more-product (b + n) p a (omega (arith, more)) in
      let d : (b + n) * p ≡ b * p + n * p = grind arith in
      let l = mul-le n 1 n p (omega arith) (omega (arith, hx)) in
      absurd (omega (arith, m, d, l, hy, e))
  | Within low high is ↦ omega (arith, is)
]

-- words of one offset differ in nothing but what both tracks have more
same-offset : (a b c d n : ℕ) → 0 < offset_of a b n → offset_of a b n ≡ offset_of c d n → a + d ≡ c + b
same-offset a b c d n some e = elim (offset_cases a b n) [
  | Before less z ↦ absurd (omega (arith, z, some))
  | Past more z ↦ absurd (omega (arith, z, some))
  | Within low high is ↦ elim (offset_cases c d n) [
    | Before less z ↦ absurd (omega (arith, z, e, some))
    | Past more z ↦ absurd (omega (arith, z, e, some))
    | Within low' high' is' ↦ omega (arith, is, is', e, low, low')
  ]
]

carry-over : (a b c d n p x y : ℕ) → a + d ≡ c + b → a * p + x ≡ b * p + y + n → c * p + x ≡ d * p + y + n
carry-over a b c d n p x y e h =
    let one : (a + d) * p ≡ a * p + d * p = grind arith in
    let two : (c + b) * p ≡ c * p + b * p = grind arith in
    let product : a * p + d * p ≡ c * p + b * p = sym one ∙ ap (λ k. k * p) e ∙ two in
    omega (arith, product, h)

offset-below : (a b n : ℕ) → offset_of a b n ≤ n + 1
offset-below a b n = elim (offset_cases a b n) [
  | Before less z ↦ omega (arith, z)
  | Past more z ↦ omega (arith, z)
  | Within low high is ↦ omega (arith, is, high)
]

joint-below : (m a c n : ℕ) → a ≤ n + 1 → c ≤ m → joint m a c ≤ (n + 1) * m
joint-below m zero c n ha hc = omega arith
joint-below m (suc k) zero n ha hc = omega arith
joint-below m (suc k) (suc c) n ha hc = let l = more-product k m (n + 1) (omega (arith, ha)) in omega (arith, l, hc)

joint-some : (m a c : ℕ) → 0 < a → 0 < c → 0 < joint m a c
joint-some m zero c ha hc = absurd (omega (arith, ha))
joint-some m (suc k) zero ha hc = absurd (omega (arith, hc))
joint-some m (suc k) (suc c) ha hc = omega arith

pub unique : (k c j d m : ℕ) → c < m → d < m → k * m + c ≡ j * m + d → k ≡ j
unique k c j d m hc hd e = elim (cases_lt k j) [
  | inl less ↦ let l = more-product k m j (omega (arith, less)) in absurd (omega (arith, l, hc, e))
  | inr more ↦ elim (cases_lt j k) [
    | inl less ↦ let l = more-product j m k (omega (arith, less)) in absurd (omega (arith, l, hd, e))
    | inr same ↦ omega (arith, more, same)
  ]
]

joint-same : (m a c b d : ℕ) → 0 < a → 0 < c → c ≤ m → d ≤ m → joint m a c ≡ joint m b d → (a ≡ b) × (c ≡ d)
joint-same m zero c b d ha hc hm hd e = absurd (omega (arith, ha))
joint-same m (suc k) zero b d ha hc hm hd e = absurd (omega (arith, hc))
joint-same m (suc k) (suc c) zero d ha hc hm hd e = absurd (omega (arith, e))
joint-same m (suc k) (suc c) (suc j) zero ha hc hm hd e = absurd (omega (arith, e))
joint-same m (suc k) (suc c) (suc j) (suc d) ha hc hm hd e =
    let inner : k * m + c ≡ j * m + d = omega (arith, e) in
    let one = unique k c j d m (omega (arith, hm)) (omega (arith, hd)) inner in
    let product : k * m ≡ j * m = ap (λ n. n * m) one in
    (ap suc one, omega (arith, inner, product))

-- an offset is that of the difference
offset-same : (a b c d n : ℕ) → a + d ≡ c + b → offset_of a b n ≡ offset_of c d n
offset-same a b c d n e = elim (offset_cases a b n) [
  | Before less z ↦ elim (offset_cases c d n) [
    | Before l y ↦ z ∙ sym y
    | Past m y ↦ z ∙ sym y
    | Within l h y ↦ absurd (omega (arith, less, l, e))
  ]
  | Past more z ↦ elim (offset_cases c d n) [
    | Before l y ↦ z ∙ sym y
    | Past m y ↦ z ∙ sym y
    | Within l h y ↦ absurd (omega (arith, more, h, e))
  ]
  | Within low high z ↦ elim (offset_cases c d n) [
    | Before l y ↦ absurd (omega (arith, low, l, e))
    | Past m y ↦ absurd (omega (arith, high, m, e))
    | Within l h y ↦ omega (arith, z, y, low, l, e)
  ]
]

weights-apart : (a b c d a' b' c' d' : ℕ)
    → (pos a -ℤ pos b) -ℤ (pos c -ℤ pos d) ≡ (pos a' -ℤ pos b') -ℤ (pos c' -ℤ pos d')
    → (a + d) + (c' + b') ≡ (a' + d') + (c + b)
weights-apart a b c d a' b' c' d' e = omega (arith, ints, e)

-- words that have two tracks equally far apart, each over its own tracks, have one offset
offset-gaps : (all some : List Var) (q : Equation) (v w : List ℕ) → v ≢ [] → w ≢ []
    → val v (place all q.greater) -ℤ val v (place all q.less)
    ≡ val w (place some q.greater) -ℤ val w (place some q.less) → offset all q v ≡ offset some q w
offset-gaps all some q [] w v_some w_some e = absurd (v_some refl)
offset-gaps all some q (s ∷ v) [] v_some w_some e = absurd (w_some refl)
offset-gaps all some q (s ∷ v) (t ∷ w) v_some w_some e =
    let weights = weights-apart (low_value v (place all q.greater)) (taken s v (place all q.greater))
    (low_value v (place all q.less)) (taken s v (place all q.less)) (low_value w (place some q.greater))
    (taken t w (place some q.greater)) (low_value w (place some q.less)) (taken t w (place some q.less)) e in
    offset-same _ _ _ _ q.by weights

pub offset-apart : (all : List Var) (q : Equation) (v w : List ℕ) → v ≢ [] → w ≢ []
    → val v (place all q.greater) -ℤ val v (place all q.less) ≡ val w (place all q.greater) -ℤ val w (place all q.less)
    → offset all q v ≡ offset all q w
offset-apart all q v w v_some w_some e = offset-gaps all all q v w v_some w_some e

pub offset-vals : (all some : List Var) (q : Equation) (v w : List ℕ) → v ≢ [] → w ≢ []
    → val v (place all q.greater) ≡ val w (place some q.greater) → val v (place all q.less) ≡ val w (place some q.less)
    → offset all q v ≡ offset some q w
offset-vals all some q v w v_some w_some e f = offset-gaps all some q v w v_some w_some (λ i. e i -ℤ f i)

module _ (all : List Var) where
  pub way-below : (qs : List Equation) (w : List ℕ) → way all qs w ≤ open_ways qs
  way-below [] w = omega arith
  way-below (q ∷ qs) w =
      joint-below (open_ways qs) (offset all q w) (way all qs w) q.by (offset-below _ _ q.by) (way-below qs w)

  -- what letters can solve has an offset
  open-offset : (q : Equation) (v letters : List ℕ) → IsSolvedLater all q v letters → 0 < offset all q v
  open-offset q v letters h =
      let greater = low_value-lt letters (place all q.greater) in
      let less = low_value-lt letters (place all q.less) in
      live-offset (greater_weight all q v) (less_weight all q v) q.by (2 ^ length letters) _ _ greater less h

  -- where letters can solve the equations, there is a way
  live-way : (qs : List Equation) (v letters : List ℕ) → v ≢ [] → AreSolved qs (word_values all (v ++ letters))
      → 0 < way all qs v
  live-way [] v letters some h = omega arith
  live-way (q ∷ qs) v letters some h =
      let first = open-offset q v letters ((solved-later all q v letters some).0 h.0) in
      joint-some (open_ways qs) (offset all q v) (way all qs v) first (live-way qs v letters some h.1)

  -- after words of one way the same letters solve the equations
  pub way-same : (qs : List Equation) (v w letters : List ℕ) → v ≢ [] → w ≢ [] → way all qs v ≡ way all qs w
      → AreSolved qs (word_values all (v ++ letters)) → AreSolved qs (word_values all (w ++ letters))
  way-same [] v w letters v_some w_some e h = tt
  way-same (q ∷ qs) v w letters v_some w_some e h =
      let here = (solved-later all q v letters v_some).0 h.0 in
      let some = open-offset q v letters here in
      let rest = live-way qs v letters v_some h.1 in
      let both = joint-same (open_ways qs) (offset all q v) (way all qs v) (offset all q w) (way all qs w)
      some rest (way-below qs v) (way-below qs w) e in
      let balance = same-offset _ _ (greater_weight all q w) (less_weight all q w) q.by some both.0 in
      let there : IsSolvedLater all q w letters =
      carry-over (greater_weight all q v) (less_weight all q v) (greater_weight all q w) (less_weight all q w) q.by
      (2 ^ length letters) (low_value letters (place all q.greater)) (low_value letters (place all q.less)) balance
      here in
      ((solved-later all q w letters w_some).1 there, way-same qs v w letters v_some w_some both.1 h.1)
