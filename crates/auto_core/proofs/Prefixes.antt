-- Rows of states that stand for a value without some of its last bits.
use Rattle.std.proofs.Common.{◌≡◌, ℕ, zero, suc, ℤ, pos, negsuc, neg_ℤ, ◌+ℤ◌, ◌+◌, ◌*◌, ◌/◌, ◌^◌, ◌<◌, List, [], ◌∷◌, ◌++◌, length, get_or, slice_index, arith, inl, inr, ◌⊎◌, refl, sym, ap, ◌∙◌, subst}
use Rattle.std.specs.Int.{int_shr}
use Rattle.std.proofs.lemmas.Grind.{common_steps}
use Rattle.std.proofs.lemmas.Bool.{cases_lt, false≢true}
use Rattle.std.proofs.lemmas.Int.{ints}
use Rattle.std.proofs.lemmas.List.{get_or_append_left, get_or_push, length-append}
use Rattle.std.specs.Int.{bit_at, w64}
use mir.Val.{SFits}
use Rattle.std.proofs.Common.{true, false, ◌↔◌}
use Rattle.std.proofs.lemmas.Nat.{pow-add}
use Rattle.std.proofs.Math.Nat.{div-div-eq-div-mul, div-eq_of_lt, div-one}
use Rattle.track_word.specs.Word.{val, IsWord}
use Rattle.auto_core.specs.Automaton.{Automaton, IsAutomaton, width, first_state, next_state, state_of, is_final, Accepts}
use Rattle.auto_core.proofs.Totals.{ReadsTotals, bit_weight, stands-state_of, total-bits}
use Rattle.std.proofs.Common.{Bool, All, ◌%◌}
use Rattle.std.proofs.lemmas.List.{get_or_default}
use Rattle.track_word.specs.declared.tracks.Var.{Var}
use Rattle.track_word.specs.Tracks.{place, IsAscending}
use Rattle.track_word.specs.Atom.{ValueHolds}
use Rattle.auto_core.specs.Words.{AcceptsWhere}
use Rattle.auto_core.specs.Rows.{AreTables}
use Rattle.auto_core.specs.Prefix.{IsPrefixState, ArePrefixRows, AreAllPrefixRows, IsFirstFlag}

bit_cases : (letter : ℕ) → letter < 2 → (letter ≡ 0) ⊎ (letter ≡ 1)
bit_cases letter h = grind (arith, h)

at_pair : (rows : List ℕ) (a b n i : ℕ) → length rows ≡ n → i < n → get_or ((rows ++ a ∷ []) ++ b ∷ []) i 0 ≡ get_or rows i 0
at_pair rows a b n i size h =
    let l = length-append rows (a ∷ []) in
    get_or_append_left (rows ++ a ∷ []) (b ∷ []) 0 i (omega (arith, l, size, h)) ∙ get_or_append_left rows (a ∷ []) 0 i (omega (arith, size, h))

at_first : (rows : List ℕ) (a b n : ℕ) → length rows ≡ n → get_or ((rows ++ a ∷ []) ++ b ∷ []) n 0 ≡ a
at_first rows a b n size =
    let l = length-append rows (a ∷ []) in
    get_or_append_left (rows ++ a ∷ []) (b ∷ []) 0 n (omega (arith, l, size)) ∙ get_or_push rows a 0 n size

at_second : (rows : List ℕ) (a b n : ℕ) → length rows ≡ n → get_or ((rows ++ a ∷ []) ++ b ∷ []) (n + 1) 0 ≡ b
at_second rows a b n size = get_or_push (rows ++ a ∷ []) b 0 (n + 1) (let l = length-append rows (a ∷ []) in omega (arith, l, size))

-- a row for one more state
pub ArePrefixRows-push : {value : ℤ} {left : ℕ} {rows : List ℕ} {a b : ℕ} → length rows ≡ left * 2 → ArePrefixRows value left rows
    → IsPrefixState value (int_shr value left +ℤ int_shr value left +ℤ pos 0) a → IsPrefixState value (int_shr value left +ℤ int_shr value left +ℤ pos 1) b
    → ArePrefixRows value (left + 1) ((rows ++ a ∷ []) ++ b ∷ [])
ArePrefixRows-push {left} {rows} {a} {b} size are low high = record {
  after = λ state letter known bit. elim (cases_lt state left) [
    | inl below ↦ rw (at_pair rows a b (left * 2) (state * 2 + letter) size (omega (arith, below, bit))) (are.after state letter below bit)
    | inr past ↦
        let same : state ≡ left = omega (arith, past, known) in
        elim (bit_cases letter bit) [
          | inl z ↦ rw (same, z) (rw ((let e : left * 2 + 0 ≡ left * 2 = omega arith in e), at_first rows a b (left * 2) size) low)
          | inr o ↦ rw (same, o) (rw (at_second rows a b (left * 2) size) high)
        ]
  ];
}

pub AreAllPrefixRows-push : {value : ℤ} {rows : List ℕ} → length rows ≡ 128 → ArePrefixRows value 64 rows → AreAllPrefixRows value ((rows ++ 64 ∷ []) ++ 64 ∷ [])
AreAllPrefixRows-push {rows} size are = record {
  size = let l = length-append rows (64 ∷ []) in let m = length-append (rows ++ 64 ∷ []) (64 ∷ []) in omega (arith, l, m, size);
  prefixes = record { after = λ state letter known bit. rw (at_pair rows 64 64 128 (state * 2 + letter) size (omega (arith, known, bit))) (are.after state letter known bit) };
  stays = λ letter bit. elim (bit_cases letter bit) [
    | inl z ↦ ap (λ k. get_or ((rows ++ 64 ∷ []) ++ 64 ∷ []) (128 + k) 0) z ∙ at_first rows 64 64 128 size
    | inr o ↦ ap (λ k. get_or ((rows ++ 64 ∷ []) ++ 64 ∷ []) (128 + k) 0) o ∙ at_second rows 64 64 128 size
  ];
}

halved : (n power m bit : ℕ) → bit < 2 → n / power ≡ 2 * m + bit → n / (power * 2) ≡ m
halved n power m bit below e = sym (div-div-eq-div-mul n power 2) ∙ ap (λ q. q / 2) e ∙ (let h : (2 * m + bit) / 2 ≡ m = omega (arith, below) in h)

power-more : (k : ℕ) → 2 ^ (k + 1) ≡ 2 ^ k * 2
power-more k = pow-add 2 k 1

-- what comes before a last bit
pub int_shr-before : (value x : ℤ) (bit k : ℕ) → bit < 2 → int_shr value k ≡ x +ℤ x +ℤ pos bit → int_shr value (k + 1) ≡ x
int_shr-before (pos n) (pos m) bit k below e = ap (λ p. pos (n / p)) (power-more k) ∙ ap pos (halved n (2 ^ k) m bit below (let h = e in omega (arith, ints, h)))
int_shr-before (pos n) (negsuc m) bit k below e = absurd (omega (arith, ints, e, below))
int_shr-before (negsuc n) (pos m) bit k below e = absurd (omega (arith, ints, e, below))
int_shr-before (negsuc n) (negsuc m) bit k below e = elim (bit_cases bit below) [
  | inl z ↦ ap (λ p. negsuc (n / p)) (power-more k) ∙ ap negsuc (halved n (2 ^ k) m 1 (omega arith) (omega (arith, ints, e, z)))
  | inr o ↦ ap (λ p. negsuc (n / p)) (power-more k) ∙ ap negsuc (halved n (2 ^ k) m 0 (omega arith) (omega (arith, ints, e, o)))
]

-- all bits from the sign on are the sign
pub int_shr-sign : (value : ℤ) → SFits w64 value → int_shr value 64 ≡ int_shr value 63
int_shr-sign (pos n) fits = ap pos (div-eq_of_lt (let f = fits.sfits in omega (arith, f)) ∙ sym (div-eq_of_lt fits.sfits))
int_shr-sign (negsuc n) fits = ap negsuc (div-eq_of_lt (let f = fits.sfits in omega (arith, f)) ∙ sym (div-eq_of_lt fits.sfits))

pub int_shr-none : (value : ℤ) → int_shr value 0 ≡ value
int_shr-none (pos n) = ap pos (div-one n)
int_shr-none (negsuc n) = ap negsuc (div-one n)

-- what has been read stays no beginning of the value
pub IsPrefixState-stays : {value x : ℤ} (bit : ℕ) → SFits w64 value → bit < 2 → IsPrefixState value x 64 → IsPrefixState value (x +ℤ x +ℤ pos bit) 64
IsPrefixState-stays {value} {x} bit fits below is = record {
  small = omega arith;
  found = λ h. absurd (omega (arith, h));
  least = λ k known e.
      let before = int_shr-before value x bit k below e in
      elim (cases_lt (k + 1) 64) [
        | inl inside ↦ is.least (k + 1) inside before
        | inr past ↦
            let last : k ≡ 63 = omega (arith, past, known) in
            is.least 63 (omega arith) (sym (int_shr-sign value fits) ∙ ap (int_shr value) (let e : 64 ≡ k + 1 = omega (arith, last) in e) ∙ before)
      ];
}

weight-below : (letter : ℕ) → letter < 2 → bit_at letter 0 ≡ letter
weight-below letter below = elim (bit_cases letter below) [ inl z ↦ rw z refl | inr o ↦ rw o refl ]

module _ (a : Automaton) (value : ℤ) (fits : SFits w64 value) (one : width a ≡ 2) (states : length a.accept ≡ 65)
    (sign : (letter : ℕ) → letter < 2 → IsPrefixState value (neg_ℤ (pos letter)) (first_state a letter)) (rows : AreAllPrefixRows value a.next)
    (yes : is_final a 0 ≡ true) (others : (state : ℕ) → 0 < state → state < 65 → is_final a state ≡ false) where
  -- the states stand for what has been read
  prefix_reads : ReadsTotals a (bit_weight 0) (IsPrefixState value)
  prefix_reads = record {
    first = λ letter below.
        let small = rw one at below in
        rw (weight-below letter small) (sign letter small);
    next = λ x state letter known below here.
        let small = rw one at below in
        let inside = rw states at known in
        let place = λ (s : ℕ). ap (λ w. s * w + letter) one in
        rw (weight-below letter small) (
        elim (cases_lt state 64) [
          | inl left ↦ subst (λ r. IsPrefixState value (r +ℤ r +ℤ pos letter) (next_state a state letter)) (here.found left)
              (subst (λ k. IsPrefixState value (int_shr value state +ℤ int_shr value state +ℤ pos letter) (slice_index a.next k))
              (sym (place state)) (rows.prefixes.after state letter left small))
          | inr past ↦
              let end : state ≡ 64 = omega (arith, past, inside) in
              let there : next_state a state letter ≡ 64 =
              ap (λ k. slice_index a.next k) (place state ∙ (let e : state * 2 + letter ≡ 128 + letter = omega (arith, end) in e))
              ∙ rows.stays letter small in
              subst (IsPrefixState value (x +ℤ x +ℤ pos letter)) (sym there) (IsPrefixState-stays letter fits small (subst (IsPrefixState value x) end here))
        ]);
  }

  -- it accepts the words that spell the value
  pub prefix_words : IsAutomaton a → (word : List ℕ) → IsWord (length a.tracks) word → Accepts a word ↔ (val word 0 ≡ value)
  prefix_words is word are =
      let reads = stands-state_of is prefix_reads are in
      let stands = subst (λ r. IsPrefixState value r (state_of a word)) (total-bits 0 word) reads.0 in
      let inside = rw states at reads.1 in
      elim (cases_lt 0 (state_of a word)) [
        | inl past ↦
            let no = others (state_of a word) past inside in
            (λ accepts. absurd (false≢true (rw no at accepts)), λ is_value. absurd (stands.least 0 past (int_shr-none value ∙ sym is_value)))
        | inr none ↦
            let zero_state : state_of a word ≡ 0 = omega (arith, none) in
            let here : int_shr value 0 ≡ val word 0 = subst (λ s. int_shr value s ≡ val word 0) zero_state (stands.found (omega (arith, zero_state))) in
            (λ accepts. sym here ∙ int_shr-none value, λ is_value. rw (zero_state, yes) refl)
      ]

pub alone : (var : Var) → place (var ∷ []) (record { 0 = var.0 }) ≡ 0
alone var = grind (arith, common_steps)

pub IsAscending-one : (var : Var) → IsAscending (var ∷ [])
IsAscending-one var = λ k h. absurd (omega (arith, h))

rows_within : {value : ℤ} {rows : List ℕ} → AreAllPrefixRows value rows → All (λ state. state < 65) rows
rows_within {rows} are i d h =
    let whole : i ≡ i / 2 * 2 + i % 2 = omega arith in
    let bit : i % 2 < 2 = omega arith in
    let size = are.size in
    subst (λ k. get_or rows k d < 65) (sym whole) (rw (get_or_default rows (i / 2 * 2 + i % 2) d 0 (rw (← whole) h)) (elim (cases_lt (i / 2) 64) [
      | inl left ↦ let small = (are.prefixes.after (i / 2) (i % 2) left bit).small in omega (arith, small)
      | inr past ↦
          let half : i / 2 ≡ 64 = omega (arith, past, h, size) in
          let stays = are.stays (i % 2) bit in
          rw half (let e : 64 * 2 + i % 2 ≡ 128 + i % 2 = omega arith in rw e (rw stays (omega arith)))
    ]))

pub AreTables-prefix : (var : Var) {value : ℤ} {s t : ℕ} {rows : List ℕ} {flags : List Bool} → IsPrefixState value (pos 0) s → IsPrefixState value (negsuc 0) t
    → AreAllPrefixRows value rows → IsFirstFlag flags
    → AreTables (var ∷ []) (s ∷ t ∷ []) rows flags
AreTables-prefix var {s} {t} {flags} zero_read sign_read are flag =
    let size = flag.size in
    let rows_size = are.size in
    let s_small = zero_read.small in
    let t_small = sign_read.small in
    record {
      ascending = IsAscending-one var;
      few_tracks = omega arith;
      some_state = omega (arith, size);
      few_states = omega (arith, size);
      first_size = refl;
      next_size = omega (arith, size, rows_size);
      first_within = λ i d h. two s t (length flags) (omega (arith, size, s_small)) (omega (arith, size, t_small)) i d h;
      next_within = rw size (rows_within are);
    }
  where
    two : (s t n : ℕ) → s < n → t < n → (i d : ℕ) → i < 2 → get_or (s ∷ t ∷ []) i d < n
    two s t n hs ht zero d h = hs
    two s t n hs ht (suc zero) d h = ht
    two s t n hs ht (suc (suc i)) d h = absurd (omega (arith, h))

-- the automaton of these tables decides whether the variable has the value
pub value_words : {a : Automaton} (var : Var) {value : ℤ} (s t : ℕ) → SFits w64 value → IsAutomaton a
    → a.tracks ≡ var ∷ [] → a.first ≡ s ∷ t ∷ [] → AreAllPrefixRows value a.next
    → IsFirstFlag a.accept → IsPrefixState value (pos 0) s → IsPrefixState value (negsuc 0) t → AcceptsWhere (var ∷ []) (ValueHolds var value) a
value_words {a} var {value} s t fits is tracks first rows flag zero_read sign_read word are =
    let one : length a.tracks ≡ 1 = ap length tracks in
    let words = prefix_words a value fits (ap (λ n. 2 ^ n) one) flag.size
    (λ letter below. elim (bit_cases letter below) [ inl z ↦ rw (z, first) zero_read | inr o ↦ rw (o, first) sign_read ]) rows flag.first flag.others is word (rw one are) in
    rw (alone var) words

-- the same, where the tables were made for a number that is the value
pub value_words-same : {a : Automaton} (var : Var) (value : ℤ) {made : ℤ} {s t : ℕ} → made ≡ value → SFits w64 value → IsAutomaton a → a.tracks ≡ var ∷ [] → a.first ≡ s ∷ t ∷ []
    → AreAllPrefixRows made a.next → IsFirstFlag a.accept → IsPrefixState made (pos 0) s → IsPrefixState made (negsuc 0) t
    → AcceptsWhere (var ∷ []) (ValueHolds var value) a
value_words-same {a} var value {s} {t} same fits is tracks first rows flag zero_read sign_read =
    value_words var s t fits is tracks first (subst (λ v. AreAllPrefixRows v a.next) same rows) flag
    (subst (λ v. IsPrefixState v (pos 0) s) same zero_read) (subst (λ v. IsPrefixState v (negsuc 0) t) same sign_read)
