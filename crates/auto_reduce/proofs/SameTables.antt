-- Where reduced automata that are numbered in breadth-first order accept the same words, each word leads to one state in both.
use Rattle.std.proofs.Common.{◌≡◌, ◌≢◌, ℕ, zero, suc, ◌<◌, ◌≤◌, ◌+◌, ◌-◌, ◌*◌, ◌/◌, ◌%◌, ◌^◌, List, [], ◌∷◌, ◌++◌, length, get_or, All, arith, refl, sym, ap, ◌∙◌, subst, inl, inr, ◌⊎◌, ◌↔◌, false}
use Rattle.std.proofs.lemmas.Bool.{cases_lt, cases_eq, cases_order}
use Rattle.std.proofs.lemmas.Nat.{mod_below, pow_pos, mul-le, mul-add-lt, div-add-mod'}
use Rattle.std.proofs.lemmas.List.{get_or_append_left, get_or-append_right, length-append, ext_get_or}
use Rattle.std.proofs.lemmas.List.Elements.{All-nil, All-cons, All-head, All-tail}
use Rattle.track_word.specs.Word.{IsWord}
use Rattle.auto_core.specs.Automaton.{Automaton, IsAutomaton, width, first_state, next_state, run, state_of, is_final, Accepts}
use Rattle.auto_reduce.specs.Numbering.{mentions}
use Rattle.auto_reduce.specs.Tables.{AcceptSameWords, IsInOrder, HaveEqualTables}
use Rattle.auto_core.proofs.States.{state_of-append, state_within, same_flag}
use Rattle.auto_reduce.proofs.Leads.{IsWord-one, IsWord-append}

-- a place of a list where it has a value, or none below a bound has it
found_or_none : (xs : List ℕ) (s n : ℕ) → ((x : ℕ) × (x < n) × (get_or xs x 0 ≡ s)) ⊎ ((x : ℕ) → x < n → get_or xs x 0 ≢ s)
found_or_none xs s zero = inr (λ x less e. omega (arith, less))
found_or_none xs s (suc n) =
    elim (found_or_none xs s n) [
      | inl found ↦ let l = found.1 in inl (found.0, omega (arith, l), found.2)
      | inr none ↦ elim (cases_eq (get_or xs n 0) s) [
        | inl e ↦ inl (n, omega arith, e)
        | inr other ↦ inr (λ x less e. elim (cases_eq x n) [
          | inl same ↦ other (subst (λ k. get_or xs k 0 ≡ s) same e)
          | inr differ ↦ none x (omega (arith, less, differ)) e
        ])
      ]
    ]

-- a row whose places stand among those of so many rows is one of these
row_below : (width row rows letter : ℕ) → row * width + letter < rows * width → row < rows
row_below width row rows letter less =
    elim (cases_lt row rows) [
      | inl low ↦ low
      | inr past ↦ let m = mul-le rows width row width past (omega arith) in absurd (omega (arith, m, less))
    ]

-- rows that lead to the same states are equal
pub next_ext : {a b : Automaton} → IsAutomaton a → IsAutomaton b → width a ≡ width b → length a.accept ≡ length b.accept
    → ((state letter : ℕ) → state < length a.accept → letter < width a → next_state a state letter ≡ next_state b state letter) → a.next ≡ b.next
next_ext {a} {b} is_a is_b w states at =
    let sizes : length a.next ≡ length b.next = is_a.next_size ∙ ap (λ n. n * width a) states ∙ ap (λ n. length b.accept * n) w ∙ sym is_b.next_size in
    ext_get_or 0 a.next b.next sizes (λ place within.
    let whole = div-add-mod' place (width a) in
    let below = mod_below place (width a) (pow_pos (length a.tracks)) in
    let size = is_a.next_size in
    let inside : place / width a * width a + place % width a < length a.accept * width a = omega (arith, whole, size, within) in
    let state = row_below (width a) (place / width a) (length a.accept) (place % width a) inside in
    subst (λ n. get_or a.next n 0 ≡ get_or b.next n 0) whole
    (at (place / width a) (place % width a) state below ∙ ap (λ v. get_or b.next (place / width a * v + place % width a) 0) (sym w)))

-- ---- one automaton
module _ (a : Automaton) (o : IsInOrder a) where
  mentions_size : length (mentions a) ≡ suc (length a.accept) * width a
  mentions_size =
      let size = length-append a.first a.next in
      let first = o.valid.first_size in
      let next = o.valid.next_size in
      omega (arith, size, first, next)

  place_in_rows : (row letter rows : ℕ) → row < rows → letter < width a → row * width a + letter < rows * width a
  place_in_rows row letter rows less below = let h = mul-add-lt row (width a) letter rows less below in omega (arith, h)

  rows_within : (rows place : ℕ) → rows ≤ suc (length a.accept) → place < rows * width a → place < length (mentions a)
  rows_within rows place few less = let m = mul-le rows (width a) (suc (length a.accept)) (width a) few (omega arith) in omega (arith, m, less, mentions_size)

  mention-first : (letter : ℕ) → letter < width a → get_or (mentions a) (zero * width a + letter) 0 ≡ first_state a letter
  mention-first letter below =
      get_or_append_left a.first a.next 0 (zero * width a + letter) (let s = o.valid.first_size in omega (arith, s, below))
      ∙ ap (λ k. get_or a.first k 0) (let z : zero * width a + letter ≡ letter = omega arith in z)

  mention-next : (state letter : ℕ) → letter < width a → get_or (mentions a) (suc state * width a + letter) 0 ≡ next_state a state letter
  mention-next state letter below =
      get_or-append_right a.first a.next (width a) (suc state * width a + letter) 0 o.valid.first_size (omega arith)
      ∙ ap (λ k. get_or a.next k 0) (let z : suc state * width a + letter - width a ≡ state * width a + letter = omega arith in z)

  -- before a mention of a state stand mentions of all states below
  earlier : (more place state : ℕ) → place < length (mentions a) → get_or (mentions a) place 0 ≡ state + suc more
      → (p : ℕ) × (p < place) × (get_or (mentions a) p 0 ≡ state)
  earlier zero place state within e = o.numbered.before place state within (e ∙ (let z : state + suc zero ≡ state + 1 = omega arith in z))
  earlier (suc more) place state within e =
      let b = o.numbered.before place (state + suc more) within (e ∙ (let z : state + suc (suc more) ≡ state + suc more + 1 = omega arith in z)) in
      let less = b.1 in
      let rest = earlier more b.0 state (omega (arith, less, within)) b.2 in
      let first = rest.1 in
      (rest.0, omega (arith, less, first), rest.2)

  pub earlier_below : (place state : ℕ) → place < length (mentions a) → state < get_or (mentions a) place 0 → (p : ℕ) × (p < place) × (get_or (mentions a) p 0 ≡ state)
  earlier_below place state within above =
      earlier (get_or (mentions a) place 0 - suc state) place state within
      (let z : get_or (mentions a) place 0 ≡ state + suc (get_or (mentions a) place 0 - suc state) = omega (arith, above) in z)

  -- where no row up to a state mentions it, no word leads to it
  module _ (state : ℕ) (known : state < length a.accept) (none : (p : ℕ) → p < suc state * width a → get_or (mentions a) p 0 ≢ state) where
    below_state : (p : ℕ) → p < suc state * width a → get_or (mentions a) p 0 < state
    below_state p less =
        elim (cases_order (get_or (mentions a) p 0) state) [
          | inl same ↦ absurd (none p less same)
          | inr rest ↦ elim rest [
            | inl low ↦ low
            | inr above ↦
                let e = earlier_below p state (rows_within (suc state) p (omega (arith, known)) less) above in
                let l = e.1 in
                absurd (none e.0 (omega (arith, l, less)) e.2)
          ]
        ]

    step_below : (from letter : ℕ) → from < state → letter < width a → next_state a from letter < state
    step_below from letter low below =
        subst (λ s. s < state) (mention-next from letter below) (below_state (suc from * width a + letter) (place_in_rows (suc from) letter (suc state) (omega (arith, low)) below))

    run_below : (letters : List ℕ) (from : ℕ) → from < state → All (λ l. l < width a) letters → run a from letters < state
    run_below [] from low all = low
    run_below (letter ∷ letters) from low all =
        run_below letters (next_state a from letter) (step_below from letter low (All-head (λ l. l < width a) letter letters all)) (All-tail (λ l. l < width a) letter letters all)

    word_below : {word : List ℕ} → IsWord (length a.tracks) word → state_of a word < state
    word_below {word = []} is = absurd (is.nonempty refl)
    word_below {word = sign ∷ letters} is =
        let below = All-head (λ l. l < width a) sign letters is.letters in
        let low = subst (λ s. s < state) (mention-first sign below) (below_state (zero * width a + sign) (place_in_rows zero sign (suc state) (omega arith) below)) in
        run_below letters (first_state a sign) low (All-tail (λ l. l < width a) sign letters is.letters)

    pub unmentioned : ⊥
    unmentioned =
        let r = o.reduced.reached state known in
        let low = word_below r.is_word in
        let leads = r.leads in
        omega (arith, low, leads)

  pub mentioned : (state : ℕ) → state < length a.accept → (p : ℕ) × (p < suc state * width a) × (get_or (mentions a) p 0 ≡ state)
  mentioned state known =
      elim (found_or_none (mentions a) state (suc state * width a)) [
        | inl found ↦ found
        | inr none ↦ absurd (unmentioned state known none)
      ]

-- ---- two automata
record AreAlike (a b : Automaton) : Type 0 where
  left : IsInOrder a
  right : IsInOrder b
  tracks : length a.tracks ≡ length b.tracks
  same : (word : List ℕ) → IsWord (length a.tracks) word → Accepts a word ↔ Accepts b word

flip : {a b : Automaton} → AreAlike a b → AreAlike b a
flip h = record {
  left = h.right;
  right = h.left;
  tracks = sym h.tracks;
  same = λ word is. let s = h.same word (subst (λ n. IsWord n word) (sym h.tracks) is) in (s.1, s.0);
}

-- a word leads to one state in the one and to the other in the other
record Meet (a b : Automaton) (j k : ℕ) : Type 0 where
  word : List ℕ
  is_word : IsWord (length a.tracks) word
  leads : state_of a word ≡ j
  leads_too : state_of b word ≡ k

module _ (a b : Automaton) (h : AreAlike a b) where
  same_width : width a ≡ width b
  same_width = ap (λ n. 2 ^ n) h.tracks

  Meet-flip : {j k : ℕ} → Meet a b j k → Meet b a k j
  Meet-flip m = record { word = m.word; is_word = subst (λ n. IsWord n m.word) h.tracks m.is_word; leads = m.leads_too; leads_too = m.leads }

  left_in : {j k : ℕ} → Meet a b j k → j < length a.accept
  left_in m = subst (λ s. s < length a.accept) m.leads (state_within h.left.valid m.word)

  right_in : {j k : ℕ} → Meet a b j k → k < length b.accept
  right_in m = subst (λ s. s < length b.accept) m.leads_too (state_within h.right.valid m.word)

  -- from states that meet, the same letters lead to states of one flag
  one_flag : {j k : ℕ} → Meet a b j k → (letters : List ℕ) → All (λ l. l < width b) letters → is_final a (run a j letters) ≡ is_final b (run b k letters)
  one_flag m letters all =
      let long = IsWord-append letters m.is_word (subst (λ n. All (λ l. l < 2 ^ n) letters) (sym h.tracks) all) in
      let some = m.is_word.nonempty in
      let to_a = state_of-append a m.word letters some ∙ ap (λ s. run a s letters) m.leads in
      let to_b = state_of-append b m.word letters some ∙ ap (λ s. run b s letters) m.leads_too in
      ap (is_final a) (sym to_a) ∙ same_flag _ _ (h.same (m.word ++ letters) long) ∙ ap (is_final b) to_b

  one_right : {j k l : ℕ} → Meet a b j k → Meet a b j l → k ≡ l
  one_right {k} {l} m n =
      elim (cases_eq k l) [
        | inl e ↦ e
        | inr other ↦
            let t = h.right.reduced.apart k l (right_in m) (right_in n) other in
            absurd (t.differ (sym (one_flag m t.letters t.are_letters) ∙ one_flag n t.letters t.are_letters))
      ]

  Meet-first : (letter : ℕ) → letter < width a → Meet a b (first_state a letter) (first_state b letter)
  Meet-first letter below = record { word = letter ∷ []; is_word = IsWord-one (length a.tracks) letter below; leads = refl; leads_too = refl }

  Meet-next : {j k : ℕ} (letter : ℕ) → Meet a b j k → letter < width a → Meet a b (next_state a j letter) (next_state b k letter)
  Meet-next letter m below =
      let some = m.is_word.nonempty in
      record {
        word = m.word ++ letter ∷ [];
        is_word = IsWord-append (letter ∷ []) m.is_word (All-cons (λ l. l < width a) letter [] below (All-nil (λ l. l < width a)));
        leads = state_of-append a m.word (letter ∷ []) some ∙ ap (λ s. next_state a s letter) m.leads;
        leads_too = state_of-append b m.word (letter ∷ []) some ∙ ap (λ s. next_state b s letter) m.leads_too;
      }

-- the other way round
one_left : {a b : Automaton} (h : AreAlike a b) {i j k : ℕ} → Meet a b i k → Meet a b j k → i ≡ j
one_left {a} {b} h m n = one_right b a (flip h) (Meet-flip a b h m) (Meet-flip a b h n)

module _ (a b : Automaton) (h : AreAlike a b) where
  -- where the states below one meet themselves, what is mentioned in the rows up to it meets
  module _ (state : ℕ) (known : (s : ℕ) → s < state → Meet a b s s) where
    mention_in_row : (row letter : ℕ) → row < suc state → letter < width a → Meet a b (get_or (mentions a) (row * width a + letter) 0) (get_or (mentions b) (row * width a + letter) 0)
    mention_in_row zero letter below_row below =
        let low = subst (λ w. letter < w) (same_width a b h) below in
        let there : get_or (mentions b) (zero * width a + letter) 0 ≡ first_state b letter =
        ap (λ w. get_or (mentions b) (zero * w + letter) 0) (same_width a b h) ∙ mention-first b h.right letter low in
        subst (λ s. Meet a b s (get_or (mentions b) (zero * width a + letter) 0)) (sym (mention-first a h.left letter below))
        (subst (Meet a b (first_state a letter)) (sym there) (Meet-first a b h letter below))
    mention_in_row (suc s) letter below_row below =
        let low = subst (λ w. letter < w) (same_width a b h) below in
        let there : get_or (mentions b) (suc s * width a + letter) 0 ≡ next_state b s letter =
        ap (λ w. get_or (mentions b) (suc s * w + letter) 0) (same_width a b h) ∙ mention-next b h.right s letter low in
        subst (λ t. Meet a b t (get_or (mentions b) (suc s * width a + letter) 0)) (sym (mention-next a h.left s letter below))
        (subst (Meet a b (next_state a s letter)) (sym there) (Meet-next a b h letter (known s (omega (arith, below_row))) below))

    mentions_meet : (p : ℕ) → p < suc state * width a → Meet a b (get_or (mentions a) p 0) (get_or (mentions b) p 0)
    mentions_meet p less =
        let whole = div-add-mod' p (width a) in
        let below = mod_below p (width a) (pow_pos (length a.tracks)) in
        let row = row_below (width a) (p / width a) (suc state) (p % width a) (subst (λ n. n < suc state * width a) (sym whole) less) in
        subst (λ n. Meet a b (get_or (mentions a) n 0) (get_or (mentions b) n 0)) whole (mention_in_row (p / width a) (p % width a) row below)

    -- a state that meets a later one has no first mention
    no_first : (fuel p : ℕ) {later : ℕ} → p < fuel → p < suc state * width a → get_or (mentions a) p 0 ≡ state → Meet a b state later → state < later → ⊥
    no_first zero p less within is m above = omega (arith, less)
    no_first (suc fuel) p less within is m above =
        let here = subst (λ s. Meet a b s (get_or (mentions b) p 0)) is (mentions_meet p within) in
        let later_is = one_right a b h here m in
        let later_in = right_in a b h m in
        let p_in = rows_within b h.right (suc state) p (omega (arith, above, later_in)) (subst (λ w. p < suc state * w) (same_width a b h) within) in
        let q = earlier_below b h.right p state p_in (omega (arith, above, later_is)) in
        let q_less = q.1 in
        let q_within : q.0 < suc state * width a = omega (arith, q_less, within) in
        let there = subst (Meet a b (get_or (mentions a) q.0 0)) q.2 (mentions_meet q.0 q_within) in
        elim (cases_order (get_or (mentions a) q.0 0) state) [
          | inl same ↦
              let e = one_right a b h (subst (λ s. Meet a b s state) same there) m in
              omega (arith, e, above)
          | inr rest ↦ elim rest [
            | inl low ↦
                let e = one_right a b h (known (get_or (mentions a) q.0 0) low) there in
                omega (arith, e, low)
            | inr high ↦
                let state_in = left_in a b h m in
                let r = earlier_below a h.left q.0 state (rows_within a h.left (suc state) q.0 (omega (arith, state_in)) q_within) high in
                let r_less = r.1 in
                no_first fuel r.0 (omega (arith, r_less, q_less, less)) (omega (arith, r_less, q_within)) r.2 m above
          ]
        ]

  meets_itself : (bound state : ℕ) → state < bound → state < length a.accept → Meet a b state state
  meets_itself zero state less within = absurd (omega (arith, less))
  meets_itself (suc bound) state less within =
      let known = λ (s : ℕ) (low : s < state). meets_itself bound s (omega (arith, low, less)) (omega (arith, low, within)) in
      let r = h.left.reduced.reached state within in
      let k = state_of b r.word in
      let m : Meet a b state (state_of b r.word) = record { word = r.word; is_word = r.is_word; leads = r.leads; leads_too = refl } in
      elim (cases_order state (state_of b r.word)) [
        | inl same ↦ subst (Meet a b state) (sym same) m
        | inr rest ↦ elim rest [
          | inl above ↦
              let p = mentioned a h.left state within in
              absurd (no_first state known (suc p.0) p.0 (omega arith) p.1 p.2 m above)
          | inr low ↦
              let e = one_left h m (known (state_of b r.word) low) in
              absurd (omega (arith, e, low))
        ]
      ]

  itself : (state : ℕ) → state < length a.accept → Meet a b state state
  itself state within = meets_itself (suc state) state (omega arith) within

  one_state : {j k : ℕ} → Meet a b j k → j ≡ k
  one_state {j} m = one_right a b h (itself j (left_in a b h m)) m

  few_states : length a.accept ≤ length b.accept
  few_states =
      let some = h.left.valid.some_state in
      let last = itself (length a.accept - 1) (omega (arith, some)) in
      let within = right_in a b h last in
      omega (arith, within)

module _ (a b : Automaton) (h : AreAlike a b) where
  same_states : length a.accept ≡ length b.accept
  same_states = let l = few_states a b h in let r = few_states b a (flip h) in omega (arith, l, r)

  same_first : a.first ≡ b.first
  same_first =
      let size_a = h.left.valid.first_size in
      let size_b = h.right.valid.first_size in
      let w = same_width a b h in
      ext_get_or 0 a.first b.first (omega (arith, size_a, size_b, w))
      (λ letter within. one_state a b h (Meet-first a b h letter (omega (arith, within, size_a))))

  next_at : (state letter : ℕ) → state < length a.accept → letter < width a → next_state a state letter ≡ next_state b state letter
  next_at state letter within below = one_state a b h (Meet-next a b h letter (itself a b h state within) below)

  same_next : a.next ≡ b.next
  same_next = next_ext h.left.valid h.right.valid (same_width a b h) same_states next_at

  same_accept : a.accept ≡ b.accept
  same_accept =
      ext_get_or false a.accept b.accept same_states
      (λ state within. one_flag a b h (itself a b h state within) [] (All-nil (λ l. l < width b)))

pub equal_tables : (a b : Automaton) → IsInOrder a → IsInOrder b → a.tracks ≡ b.tracks → AcceptSameWords a b → HaveEqualTables a b
equal_tables a b oa ob tracks words =
    let h : AreAlike a b = record { left = oa; right = ob; tracks = ap length tracks; same = words.same } in
    record { first = same_first a b h; next = same_next a b h; accept = same_accept a b h }
