-- The values that words spell, read from the sign letter on.
use Rattle.std.proofs.Common.{◌≡◌, ℕ, suc, ℤ, pos, neg_ℤ, ◌+ℤ◌, ◌-ℤ◌, ◌*ℤ◌, ◌+◌, ◌*◌, ◌^◌, ◌<◌, ◌≤◌, List, [], ◌∷◌, length, All, fold, refl, ap, ◌∙◌, arith}
use Rattle.std.specs.Int.{bit_at}
use Rattle.std.proofs.lemmas.Int.{ints}
use borrow.Author.Differences.{neg_is}
use Rattle.track_word.specs.declared.tracks.Var.{Var}
use Rattle.track_word.specs.Word.{val, low_value, IsWord}
use Rattle.track_word.specs.Tracks.{place, word_values}
use Rattle.track_word.specs.Atom.{sum_of}
use Rattle.auto_core.specs.Sums.{step, total}
use Rattle.auto_core.specs.Automaton.{Automaton, IsAutomaton, width, run, state_of, first_state, next_state}
use Rattle.auto_core.proofs.Products.{mul-neg, double-scaled, double-power}

-- the weight of a letter on a track
abbrev pub bit_weight : ℕ → ℕ → ℤ
bit_weight track letter = pos (bit_at letter track)

-- the weight of a letter in a sum
abbrev pub sum_weight : List Var → List (ℤ × Var) → ℕ → ℤ
sum_weight tracks terms letter = sum_of terms (λ x. bit_weight (place tracks (record { 0 = x })) letter)

fold-bits : (track : ℕ) (letters : List ℕ) (x : ℤ) → fold (step (bit_weight track)) x letters ≡ (x *ℤ pos (2 ^ length letters)) +ℤ pos (low_value letters track)
fold-bits track [] x = omega (arith, ints)
fold-bits track (letter ∷ letters) x =
    let power : 2 ^ suc (length letters) ≡ 2 * 2 ^ length letters = omega arith in
    fold-bits track letters (step (bit_weight track) x letter) ∙ rw power (double-power x (bit_at letter track) (2 ^ length letters) (low_value letters track))

first-bits : (bit power low : ℕ) → (neg_ℤ (pos bit) *ℤ pos power) +ℤ pos low ≡ pos low -ℤ pos (bit * power)
first-bits bit power low =
    let n = neg_is (pos bit) in
    let a = ap (λ k. k * power) n.0 in
    let b = ap (λ k. k * power) n.1 in
    omega (arith, ints, a, b)

pub total-bits : (track : ℕ) (word : List ℕ) → total (bit_weight track) word ≡ val word track
total-bits track [] = refl
total-bits track (sign ∷ letters) = fold-bits track letters (neg_ℤ (pos (bit_at sign track))) ∙ first-bits (bit_at sign track) (2 ^ length letters) (low_value letters track)

fold-none : (letters : List ℕ) → fold (step (λ letter. pos 0)) (pos 0) letters ≡ pos 0
fold-none [] = refl
fold-none (letter ∷ letters) = fold-none letters

-- a sum of two weights, the one scaled
fold-scaled : (c : ℤ) (f g : ℕ → ℤ) (letters : List ℕ) (x y : ℤ)
    → fold (step (λ letter. (c *ℤ f letter) +ℤ g letter)) ((c *ℤ x) +ℤ y) letters ≡ (c *ℤ fold (step f) x letters) +ℤ fold (step g) y letters
fold-scaled c f g [] x y = refl
fold-scaled c f g (letter ∷ letters) x y =
    ap (λ z. fold (step (λ letter. (c *ℤ f letter) +ℤ g letter)) z letters) (double-scaled c x y (f letter) (g letter)) ∙ fold-scaled c f g letters (step f x letter) (step g y letter)

scaled-first : (c f g : ℤ) → neg_ℤ ((c *ℤ f) +ℤ g) ≡ (c *ℤ neg_ℤ f) +ℤ neg_ℤ g
scaled-first c f g = let e = mul-neg c f in rw e (negated (c *ℤ f) g)
  where
    negated : (a b : ℤ) → neg_ℤ (a +ℤ b) ≡ neg_ℤ a +ℤ neg_ℤ b
    negated a b = omega (arith, ints)

-- the letters' weights in a sum come to the sum of the values
pub total-sum : (tracks : List Var) (terms : List (ℤ × Var)) (word : List ℕ) → total (sum_weight tracks terms) word ≡ sum_of terms (word_values tracks word)
total-sum tracks [] [] = refl
total-sum tracks [] (sign ∷ letters) = fold-none letters
total-sum tracks (t ∷ terms) [] = let e = total-sum tracks terms [] in rw (← e) (none t.0)
  where
    none : (c : ℤ) → pos 0 ≡ (c *ℤ pos 0) +ℤ pos 0
    none c = omega (arith, ints)
total-sum tracks (t ∷ terms) (sign ∷ letters) =
    ap (λ z. fold (step (sum_weight tracks (t ∷ terms))) z letters) (scaled-first t.0 (bit_weight (place tracks t.1) sign) (sum_weight tracks terms sign))
    ∙ fold-scaled t.0 (bit_weight (place tracks t.1)) (sum_weight tracks terms) letters (neg_ℤ (bit_weight (place tracks t.1) sign)) (neg_ℤ (sum_weight tracks terms sign))
    ∙ ap (λ z. (t.0 *ℤ z) +ℤ fold (step (sum_weight tracks terms)) (neg_ℤ (sum_weight tracks terms sign)) letters) (total-bits (place tracks t.1) (sign ∷ letters))
    ∙ ap (λ z. (t.0 *ℤ val (sign ∷ letters) (place tracks t.1)) +ℤ z) (total-sum tracks terms (sign ∷ letters))

-- an automaton whose states stand for what the letters so far come to
pub record ReadsTotals (a : Automaton) (weight : ℕ → ℤ) (Stands : ℤ → ℕ → Type 0) : Type 0 where
  pub first : (letter : ℕ) → letter < width a → Stands (neg_ℤ (weight letter)) (first_state a letter)
  pub next : (x : ℤ) (state letter : ℕ) → state < length a.accept → letter < width a → Stands x state → Stands (step weight x letter) (next_state a state letter)

next_within : {a : Automaton} (state letter : ℕ) → IsAutomaton a → state < length a.accept → letter < width a → next_state a state letter < length a.accept
next_within {a} state letter is known below =
    is.next_within (state * width a + letter) 0
    (let size = is.next_size in place_within state (length a.accept) (width a) letter (length a.next) known below size)
  where
    place_within : (state states width letter size : ℕ) → state < states → letter < width → size ≡ states * width → state * width + letter < size
    place_within state states width letter size known below is = let p = mul-below state states width known in omega (arith, p, is, below)
      where
        mul-below : (state states width : ℕ) → state < states → state * width + width ≤ states * width
        mul-below state states width h = grind (arith, h)

stands-run : {a : Automaton} {weight : ℕ → ℤ} {Stands : ℤ → ℕ → Type 0} → IsAutomaton a → ReadsTotals a weight Stands
    → (letters : List ℕ) (x : ℤ) (state : ℕ) → state < length a.accept
    → All (λ letter. letter < width a) letters → Stands x state → Stands (fold (step weight) x letters) (run a state letters) × (run a state letters < length a.accept)
stands-run {Stands = Stands} is reads [] x state known all here = (here, known)
stands-run {a} {weight} {Stands = Stands} is reads (letter ∷ letters) x state known all here =
    let below = all 0 0 (omega arith) in
    stands-run is reads letters (step weight x letter) (next_state a state letter) (next_within state letter is known below)
    (λ i d h. all (suc i) d (omega arith)) (reads.next x state letter known below here)

pub stands-state_of : {a : Automaton} {weight : ℕ → ℤ} {Stands : ℤ → ℕ → Type 0} → IsAutomaton a → ReadsTotals a weight Stands → {word : List ℕ} → IsWord (length a.tracks) word
    → Stands (total weight word) (state_of a word) × (state_of a word < length a.accept)
stands-state_of {Stands = Stands} is reads {word = []} word = absurd (word.nonempty refl)
stands-state_of {a} {weight} {Stands = Stands} is reads {word = sign ∷ letters} word =
    let below = word.letters 0 0 (omega arith) in
    let size = is.first_size in
    stands-run is reads letters (neg_ℤ (weight sign)) (first_state a sign) (is.first_within sign 0 (omega (arith, size, below)))
    (λ i d h. word.letters (suc i) d (omega arith)) (reads.first sign below)
