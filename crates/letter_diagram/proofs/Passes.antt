-- A pass over the nodes below a node: what it keeps true from node to node.
use Rattle.std.proofs.Common.{◌≡◌, ℕ, ◌+◌, ◌-◌, ◌*◌, ◌%◌, ◌^◌, ◌<◌, ◌≤◌, max, List, [], ◌∷◌, ◌++◌, length, get_or, Option, Some, None, All, IsSome, true, false, arith, refl, sym, ap, ◌∙◌, subst, inl, inr, ◌⊎◌, suc}
use Rattle.std.specs.Int.{bit_at}
use Rattle.std.specs.Ordering.{nat_cmp}
use Rattle.std.specs.declared.cmp.Ordering.TheVariants.{Less}
use Rattle.std.specs.BTreeMap.Range.{IsLtBy}
use Rattle.std.specs.BTreeMap.{BTreeMap, get, Updates, IsUpperBound, insert_entry}
use Rattle.std.specs.Map.{keys_of}
use Rattle.std.proofs.lemmas.Grind.{common_steps}
use Rattle.std.proofs.lemmas.Bool.{cases_eq}
use Rattle.std.proofs.lemmas.Nat.{mod-pow-add, pow-add, pow_pos, mod_below}
use Rattle.std.proofs.lemmas.Map.Keys.{ge_from_not_lt}
use Rattle.std.proofs.lemmas.Map.Views.{All-keys-insert_entry}
use Rattle.std.proofs.Math.Pow.{pow_mono, mod-mod-pow}
use Rattle.std.proofs.Math.Nat.{mod-le, mod-eq_of_lt}
use Rattle.track_word.proofs.LetterBits.{bit_cases}
use Rattle.letter_diagram.specs.declared.diagrams.Shape.{Shape}
use Rattle.letter_diagram.specs.declared.diagrams.Shape.TheVariants.{Leaf, Test}
use Rattle.letter_diagram.specs.Diagram.{map_at, top_track, IsDiagram, IsTest, IsAt}
use Rattle.letter_diagram.specs.Least.{AreFirsts, IsMet, Meets, IsFound, IsPassed, IsPass}
use Rattle.letter_diagram.proofs.Canonical.{low_is, high_is}

-- ---- maps of numbers

-- a bound that is above each key
pub above : List (ℕ × ℕ) → ℕ
above [] = 0
above (e ∷ es) = max (e.0 + 1) (above es)

pub above-le : (es : List (ℕ × ℕ)) (bound : ℕ) → All (λ key. key < bound) (keys_of es) → above es ≤ bound
unfolding above
above-le [] bound all = omega arith
above-le (e ∷ es) bound all =
    let first : e.0 < bound = all 0 0 (omega arith) in
    let others = above-le es bound (λ k d within. all (suc k) d (omega arith)) in
    omega arith

pub above-last : (es : List (ℕ × ℕ)) (e : ℕ × ℕ) → e.0 < above (es ++ e ∷ [])
unfolding above
above-last [] e = omega arith
above-last (x ∷ es) e = let later = above-last es e in omega arith

lt-from_Less : (a b : ℕ) → nat_cmp a b ≡ Less → a < b
lt-from_Less a b e = grind (arith, common_steps, e)

under : (es : List (ℕ × ℕ)) (node : ℕ) → All (λ key. IsLtBy nat_cmp key node) (keys_of es) → All (λ key. key < node) (keys_of es)
under es node all = λ k d within. lt-from_Less (get_or (keys_of es) k d) node (all k d within)

get-same : (old new : BTreeMap ℕ ℕ) (key : ℕ) (value : Option ℕ) → Updates nat_cmp old new key value → get nat_cmp new key ≡ value
get-same old new key value updates = updates.1

get-other : (old new : BTreeMap ℕ ℕ) (key other : ℕ) (value : Option ℕ) → Updates nat_cmp old new key value → (key ≡ other → ⊥) → get nat_cmp new other ≡ get nat_cmp old other
get-other old new key other value updates ne = grind (arith, common_steps, updates.0 other, ne)

get-none : (m : BTreeMap ℕ ℕ) (key : ℕ) → m.entries ≡ [] → get nat_cmp m key ≡ None
get-none m key e = grind (arith, common_steps, e)

some-same : (o : Option ℕ) (a b : ℕ) → o ≡ Some a → o ≡ Some b → a ≡ b
some-same o a b p q = cc

not-none : (o : Option ℕ) (a : ℕ) → o ≡ None → o ≡ Some a → ⊥
not-none o a p q = cc

is-some : (o : Option ℕ) (a : ℕ) → o ≡ Some a → IsSome o
is-some o a e = rw e refl

-- what is left after the last node is taken out
pub record IsPopped (old new : BTreeMap ℕ ℕ) (node letter : ℕ) : Type 0 where
  pub at : get nat_cmp old node ≡ Some letter
  pub kept : (n l : ℕ) → get nat_cmp new n ≡ Some l → get nat_cmp old n ≡ Some l
  pub others : (n l : ℕ) → (node ≡ n → ⊥) → get nat_cmp old n ≡ Some l → get nat_cmp new n ≡ Some l
  pub before : (n l : ℕ) → get nat_cmp new n ≡ Some l → n < node

pub popped : (old new : BTreeMap ℕ ℕ) (node letter : ℕ) → get nat_cmp old node ≡ Some letter
    → Updates nat_cmp old new node None → IsUpperBound nat_cmp old node → IsPopped old new node letter
popped old new node letter at updates last = record {
  at = at;
  kept = kept;
  others = λ n l ne e. get-other old new node n None updates ne ∙ e;
  before = λ n l e. elim (cases_eq node n) [
    | inl same ↦ absurd (not-none _ l (get-same old new node None updates) (ap (get nat_cmp new) same ∙ e))
    | inr ne ↦ let le = ge_from_not_lt node n (last n (is-some _ l (kept n l e))) in omega (arith, le, ne)
  ];
}
  where
    kept : (n l : ℕ) → get nat_cmp new n ≡ Some l → get nat_cmp old n ≡ Some l
    kept n l e = elim (cases_eq node n) [
      | inl same ↦ absurd (not-none _ l (get-same old new node None updates) (ap (get nat_cmp new) same ∙ e))
      | inr ne ↦ sym (get-other old new node n None updates ne) ∙ e
    ]

-- ---- a node that is met

pub Meets-insert : (old new : BTreeMap ℕ ℕ) (node letter : ℕ) → ((l : ℕ) → get nat_cmp old node ≡ Some l → letter ≤ l) → Updates nat_cmp old new node (Some letter)
    → new.entries ≡ insert_entry nat_cmp old.entries node letter → Meets old new node letter
Meets-insert old new node letter least updates entries = record {
  here = (letter, get-same old new node (Some letter) updates, omega arith);
  kept = λ n l e. elim (cases_eq node n) [
    | inl same ↦ (letter, ap (get nat_cmp new) (sym same) ∙ get-same old new node (Some letter) updates, least l (ap (get nat_cmp old) same ∙ e))
    | inr ne ↦ (l, get-other old new node n (Some letter) updates ne ∙ e, omega arith)
  ];
  only = λ n l e. elim (cases_eq node n) [
    | inl same ↦ inr (sym same, some-same _ l letter e (ap (get nat_cmp new) (sym same) ∙ get-same old new node (Some letter) updates))
    | inr ne ↦ inl (sym (get-other old new node n (Some letter) updates ne) ∙ e)
  ];
  below = λ bound under all. subst (λ es. All (λ key. key < bound) (keys_of es)) (sym entries) (All-keys-insert_entry nat_cmp node letter (λ key. key < bound) old.entries all under);
}

-- ---- bits

-- the bits up to a track, by those before it
by-bit : (l track : ℕ) → l % 2 ^ (1 + track) ≡ bit_at l track * 2 ^ track + l % 2 ^ track
by-bit l track = mod-pow-add l 1 track

double : (track : ℕ) → 2 ^ (1 + track) ≡ 2 ^ track + 2 ^ track
double track = pow-add 2 1 track ∙ omega arith

-- more bits are no less
mod-grows : (l low high : ℕ) → low ≤ high → l % 2 ^ low ≤ l % 2 ^ high
mod-grows l low high le =
    let split = mod-pow-add l (high - low) low in
    let e : high - low + low ≡ high = omega arith in
    subst (λ n. l % 2 ^ low ≤ l % 2 ^ n) e (omega (arith, split))

-- fewer bits of some of a number's bits
cut : (l low high : ℕ) → low ≤ high → l % 2 ^ high % 2 ^ low ≡ l % 2 ^ low
cut l low high le =
    let e : high - low + low ≡ high = omega arith in
    subst (λ n. l % 2 ^ n % 2 ^ low ≡ l % 2 ^ low) e (mod-mod-pow l (high - low) low)

-- letters with these bits and the bit 0 after them
low-bits : (l track top letter : ℕ) → track < top → letter < 2 ^ track → l % 2 ^ top ≡ letter → (l % 2 ^ track ≡ letter) × (bit_at l track ≡ 0)
low-bits l track top letter before small e =
    let twice = double track in
    let fewer = sym (cut l (1 + track) top (omega arith)) ∙ ap (λ n. n % 2 ^ (1 + track)) e ∙ mod-eq_of_lt {n = letter} {m = 2 ^ (1 + track)} (omega arith) in
    let whole = sym (by-bit l track) ∙ fewer in
    elim (bit_cases l track) [
      | inl zero_bit ↦ let w = sym (ap (λ bit. bit * 2 ^ track + l % 2 ^ track) zero_bit) ∙ whole in (omega (arith, w), zero_bit)
      | inr one_bit ↦ let w = sym (ap (λ bit. bit * 2 ^ track + l % 2 ^ track) one_bit) ∙ whole in absurd (omega (arith, w, small))
    ]

-- letters with these bits and the bit 1 after them
high-bits : (l track top letter : ℕ) → track < top → letter < 2 ^ track → l % 2 ^ top ≡ letter + 2 ^ track → (l % 2 ^ track ≡ letter) × (bit_at l track ≡ 1)
high-bits l track top letter before small e =
    let twice = double track in
    let fewer = sym (cut l (1 + track) top (omega arith)) ∙ ap (λ n. n % 2 ^ (1 + track)) e ∙ mod-eq_of_lt {n = letter + 2 ^ track} {m = 2 ^ (1 + track)} (omega arith) in
    let whole = sym (by-bit l track) ∙ fewer in
    elim (bit_cases l track) [
      | inl zero_bit ↦ let w = sym (ap (λ bit. bit * 2 ^ track + l % 2 ^ track) zero_bit) ∙ whole in let m = mod_below l (2 ^ track) (pow_pos track) in absurd (omega (arith, w, m))
      | inr one_bit ↦ let w = sym (ap (λ bit. bit * 2 ^ track + l % 2 ^ track) one_bit) ∙ whole in (omega (arith, w), one_bit)
    ]

-- ---- the pass

pub IsPass-start : (shapes : List Shape) (root : ℕ) (empty met firsts : BTreeMap ℕ ℕ) → root < length shapes → empty.entries ≡ [] → firsts.entries ≡ []
    → Updates nat_cmp empty met root (Some 0) → IsPass shapes root met firsts
IsPass-start shapes root empty met firsts known none none_first updates = record {
  met_at = λ node letter at. elim (cases_eq root node) [
    | inl same ↦
        let zero_letter = some-same _ letter 0 at (ap (get nat_cmp met) (sym same) ∙ get-same empty met root (Some 0) updates) in
        let P : ℕ → ℕ → Type 0 = λ n l. IsMet shapes root n l in
        subst (λ l. P node l) (sym zero_letter) (subst (λ n. P n 0) same (record { known = known; below = pow_pos (top_track shapes root); same = λ l e. refl }))
    | inr ne ↦ absurd (not-none _ letter (get-other empty met root node (Some 0) updates ne ∙ get-none empty node none) at)
  ];
  value_at = λ letter value at. absurd (not-none _ value (get-none firsts letter none_first) at);
  passed = λ letter value at. absurd (not-none _ value (get-none firsts letter none_first) at);
  once = λ a b value at_a at_b. absurd (not-none _ value (get-none firsts a none_first) at_a);
  each = λ letter. inl (record { node = root; first = 0; at = get-same empty met root (Some 0) updates; early = omega arith; gives = refl });
}

module _ (shapes : List Shape) (is : IsDiagram shapes) (root node letter : ℕ) (before met firsts : BTreeMap ℕ ℕ)
    (pass : IsPass shapes root before firsts) (out : IsPopped before met node letter) where
  here : IsMet shapes root node letter
  here = pass.met_at node letter out.at

  -- a leaf is passed
  module _ (value : ℕ) (at : IsAt shapes node (Leaf value)) (found : BTreeMap ℕ ℕ) (updates : Updates nat_cmp firsts found letter (Some value)) where
    -- its value was not found before
    fresh : (first : ℕ) → get nat_cmp firsts first ≡ Some value → ⊥
    fresh first e =
        let was = pass.passed first value e in
        let same = is.distinct was.leaf node (Leaf value) was.at.is at.is in
        let lt = was.after node letter out.at in
        omega (arith, same, lt)

    -- each value that is found now is this one at this letter, or was found before
    now : (first other : ℕ) → get nat_cmp found first ≡ Some other → ((letter ≡ first) × (other ≡ value)) ⊎ (get nat_cmp firsts first ≡ Some other)
    now first other e = elim (cases_eq letter first) [
      | inl same ↦ inl (same, some-same _ other value e (ap (get nat_cmp found) (sym same) ∙ get-same firsts found letter (Some value) updates))
      | inr ne ↦ inr (sym (get-other firsts found letter first (Some value) updates ne) ∙ e)
    ]

    root-here : map_at shapes root letter ≡ value
    root-here = here.same letter (mod-eq_of_lt {n = letter} {m = 2 ^ top_track shapes node} here.below) ∙ at.map letter

    pub IsPass-leaf : IsPass shapes root met found
    IsPass-leaf = record {
      met_at = λ n l e. pass.met_at n l (out.kept n l e);
      value_at = λ first other e. elim (now first other e) [
        | inl w ↦ ap (map_at shapes root) (sym w.0) ∙ root-here ∙ sym w.1
        | inr old ↦ pass.value_at first other old
      ];
      passed = λ first other e. elim (now first other e) [
        | inl w ↦ subst (IsPassed shapes met) (sym w.1) (record { leaf = node; at = at; after = out.before })
        | inr old ↦ let was = pass.passed first other old in record { leaf = was.leaf; at = was.at; after = λ n l there. was.after n l (out.kept n l there) }
      ];
      once = λ a b other at_a at_b. elim (now a other at_a) [
        | inl p ↦ elim (now b other at_b) [ inl q ↦ sym p.0 ∙ q.0 | inr old ↦ absurd (fresh b (old ∙ ap Some p.1)) ]
        | inr older ↦ elim (now b other at_b) [ inl q ↦ absurd (fresh a (older ∙ ap Some q.1)) | inr old ↦ pass.once a b other older old ]
      ];
      each = λ l. elim (pass.each l) [
        | inl w ↦ elim (cases_eq node w.node) [
          | inl same ↦
              let first_is = some-same _ w.first letter w.at (ap (get nat_cmp before) (sym same) ∙ out.at) in
              let early : w.first ≤ l = (let e = w.early in let m = mod-le l (2 ^ top_track shapes w.node) in omega (arith, e, m)) in
              inr (record {
                first = letter;
                at = get-same firsts found letter (Some value) updates ∙ ap Some (sym (at.map l) ∙ ap (λ n. map_at shapes n l) same ∙ w.gives);
                early = omega (arith, first_is, early);
              })
          | inr ne ↦ inl (record { node = w.node; first = w.first; at = out.others w.node w.first ne w.at; early = w.early; gives = w.gives })
        ]
        | inr w ↦ inr (record {
          first = w.first;
          at = elim (cases_eq letter w.first) [
            | inl same ↦
                ap (get nat_cmp found) (sym same) ∙ get-same firsts found letter (Some value) updates
                ∙ ap Some (sym root-here ∙ ap (map_at shapes root) same ∙ pass.value_at w.first (map_at shapes root l) w.at)
            | inr ne ↦ get-other firsts found letter w.first (Some value) updates ne ∙ w.at
          ];
          early = w.early;
        })
      ];
    }

  -- a test is passed
  module _ (track low high : ℕ) (at : IsAt shapes node (Test track low high)) (fits : IsTest shapes node track low high) (half new : BTreeMap ℕ ℕ)
      (first : Meets met half low letter) (second : Meets half new high (letter + 2 ^ track)) where
    small : letter < 2 ^ track
    small = let below = here.below in subst (λ t. letter < 2 ^ t) at.top below

    low-is-met : IsMet shapes root low letter
    low-is-met =
        let above_track = fits.low_above in
        let known = here.known in
        let before_node = fits.low_before in
        let pow = pow_mono {i = track} {j = top_track shapes low} (omega arith) in
        let lt = small in
        record {
          known = omega arith;
          below = omega arith;
          same = λ l e. let bits = low-bits l track (top_track shapes low) letter above_track lt e in
              here.same l (ap (λ t. l % 2 ^ t) at.top ∙ bits.0) ∙ low_is shapes is node track low high l at bits.1;
        }

    high-is-met : IsMet shapes root high (letter + 2 ^ track)
    high-is-met =
        let above_track = fits.high_above in
        let known = here.known in
        let before_node = fits.high_before in
        let pow = pow_mono {i = 1 + track} {j = top_track shapes high} (omega arith) in
        let twice = double track in
        let lt = small in
        record {
          known = omega arith;
          below = omega arith;
          same = λ l e. let bits = high-bits l track (top_track shapes high) letter above_track lt e in
              here.same l (ap (λ t. l % 2 ^ t) at.top ∙ bits.0) ∙ high_is shapes is node track low high l at bits.1;
        }

    -- a node that is met now is a side, or was met before
    origin : (n l : ℕ) → get nat_cmp new n ≡ Some l → ((n ≡ high) × (l ≡ letter + 2 ^ track)) ⊎ (((n ≡ low) × (l ≡ letter)) ⊎ (get nat_cmp met n ≡ Some l))
    origin n l e = elim (second.only n l e) [
      | inr w ↦ inl w
      | inl older ↦ elim (first.only n l older) [ inr w ↦ inr (inl w) | inl old ↦ inr (inr old) ]
    ]

    still : (n l : ℕ) → get nat_cmp met n ≡ Some l → (least : ℕ) × (get nat_cmp new n ≡ Some least) × (least ≤ l)
    still n l e =
        let a = first.kept n l e in
        let b = second.kept n a.0 a.1 in
        let le_a = a.2 in
        let le_b = b.2 in
        (b.0, b.1, omega arith)

    moved : (n : ℕ) {m : ℕ} (x : ℕ) {y : ℕ} → n ≡ m → x ≡ y → IsMet shapes root m y → IsMet shapes root n x
    moved n {m} x p q met_there = let P : ℕ → ℕ → Type 0 = λ a b. IsMet shapes root a b in subst (λ a. P a x) (sym p) (subst (P m) (sym q) met_there)

    pub IsPass-test : IsPass shapes root new firsts
    IsPass-test = record {
      met_at = λ n l e. elim (origin n l e) [
        | inl w ↦ moved n l w.0 w.1 high-is-met
        | inr (inl w) ↦ moved n l w.0 w.1 low-is-met
        | inr (inr old) ↦ pass.met_at n l (out.kept n l old)
      ];
      value_at = pass.value_at;
      passed = λ a value e.
          let was = pass.passed a value e in
          let far = was.after node letter out.at in
          let low_before = fits.low_before in
          let high_before = fits.high_before in
          record {
            leaf = was.leaf;
            at = was.at;
            after = λ n l there. elim (origin n l there) [
              | inl w ↦ let same = w.0 in omega (arith, same, far, high_before)
              | inr (inl w) ↦ let same = w.0 in omega (arith, same, far, low_before)
              | inr (inr old) ↦ was.after n l (out.kept n l old)
            ];
          };
      once = pass.once;
      each = λ l. elim (pass.each l) [
        | inl w ↦ elim (cases_eq node w.node) [
          | inl same ↦
              let first_is = some-same _ w.first letter w.at (ap (get nat_cmp before) (sym same) ∙ out.at) in
              let top = ap (top_track shapes) (sym same) ∙ at.top in
              let early : letter ≤ l % 2 ^ track = subst (λ t. letter ≤ l % 2 ^ t) top (subst (λ f. f ≤ l % 2 ^ top_track shapes w.node) first_is w.early) in
              let gives : map_at shapes node l ≡ map_at shapes root l = ap (λ n. map_at shapes n l) same ∙ w.gives in
              elim (bit_cases l track) [
                | inl zero_bit ↦
                    let a = first.here in
                    let b = second.kept low a.0 a.1 in
                    let le_a = a.2 in
                    let le_b = b.2 in
                    let above_track = fits.low_above in
                    let more = mod-grows l track (top_track shapes low) (omega arith) in
                    inl (record {
                      node = low;
                      first = b.0;
                      at = b.1;
                      early = omega (arith, le_a, le_b, early, more);
                      gives = sym (low_is shapes is node track low high l at zero_bit) ∙ gives;
                    })
                | inr one_bit ↦
                    let a = second.here in
                    let le_a = a.2 in
                    let above_track = fits.high_above in
                    let more = mod-grows l (1 + track) (top_track shapes high) (omega arith) in
                    let whole_bits = by-bit l track ∙ ap (λ bit. bit * 2 ^ track + l % 2 ^ track) one_bit in
                    inl (record {
                      node = high;
                      first = a.0;
                      at = a.1;
                      early = omega (arith, le_a, early, more, whole_bits);
                      gives = sym (high_is shapes is node track low high l at one_bit) ∙ gives;
                    })
              ]
          | inr ne ↦
              let a = still w.node w.first (out.others w.node w.first ne w.at) in
              let le = a.2 in
              let early = w.early in
              inl (record { node = w.node; first = a.0; at = a.1; early = omega (arith, le, early); gives = w.gives })
        ]
        | inr w ↦ inr w
      ];
    }

-- all nodes are passed
pub AreFirsts-passed : {shapes : List Shape} {root : ℕ} {met firsts : BTreeMap ℕ ℕ} → IsPass shapes root met firsts → met.entries ≡ [] → AreFirsts shapes root firsts
AreFirsts-passed {shapes} {root} {met} {firsts} pass none = record {
  first = λ letter value at. record {
    map = pass.value_at letter value at;
    least = λ l e. let w = found l in let same = pass.once letter w.first value at (w.at ∙ ap Some e) in let early = w.early in omega (arith, same, early);
  };
  has = λ letter. let w = found letter in (w.first, w.at);
}
  where
    found : (letter : ℕ) → IsFound shapes root firsts letter
    found letter = elim (pass.each letter) [ inl w ↦ absurd (not-none _ w.first (get-none met w.node none) w.at) | inr w ↦ w ]

-- ---- the pass ends

-- the nodes that are left are fewer, by a bound
pub smaller-leaf : (old new : BTreeMap ℕ ℕ) (node letter : ℕ) → old.entries ≡ new.entries ++ (node, letter) ∷ [] → All (λ key. IsLtBy nat_cmp key node) (keys_of new.entries)
    → above new.entries < above old.entries
smaller-leaf old new node letter removal all =
    let le = above-le new.entries node (under new.entries node all) in
    let lt = above-last new.entries (node, letter) in
    subst (λ es. above new.entries < above es) (sym removal) (omega (arith, le, lt))

pub smaller-test : (old met half new : BTreeMap ℕ ℕ) (node letter : ℕ) {low high first second : ℕ} → old.entries ≡ met.entries ++ (node, letter) ∷ []
    → All (λ key. IsLtBy nat_cmp key node) (keys_of met.entries) → low < node → high < node → Meets met half low first → Meets half new high second
    → above new.entries < above old.entries
smaller-test old met half new node letter removal all low_before high_before a b =
    let le = above-le new.entries node (b.below node high_before (a.below node low_before (under met.entries node all))) in
    let lt = above-last met.entries (node, letter) in
    subst (λ es. above new.entries < above es) (sym removal) (omega (arith, le, lt))

pub none-left : (es : List (ℕ × ℕ)) → (0 < length es → false ≡ true) → es ≡ []
none-left [] none = refl
none-left (e ∷ es) none = let impossible = none (omega arith) in cc
