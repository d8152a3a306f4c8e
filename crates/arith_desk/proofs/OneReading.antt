-- Fields begin with one formula, or stop at one place.
use Rattle.std.proofs.Common.{◌≡◌, ℕ, ◌<◌, ◌^◌, List, [], ◌∷◌, ◌++◌, length, ℤ, pos, negsuc, ◌≤ℤ◌, ◌==◌, if◌then◌else◌, refl, sym, ap, ◌∙◌, subst, append_assoc, arith}
use Rattle.std.specs.List.{All}
use Rattle.std.specs.Fmt.{signed_decimal}
use Rattle.std.specs.Int.Signed.{mag}
use Rattle.std.proofs.lemmas.Int.{ints}
use Rattle.std.proofs.lemmas.Fmt.{signed_decimal_injective}
use Rattle.std.proofs.lemmas.List.Elements.{All-head, All-tail}
use Rattle.track_word.specs.declared.tracks.Var.{Var}
use Rattle.track_word.specs.declared.atoms.Rel.TheVariants.{Le, Eq}
use Rattle.track_word.specs.Atom.{IsAtom, IsBound, IsCoefficient}
use Rattle.arith_desk.specs.declared.words.BinaryOp.TheVariants.{And, Or}
use Rattle.arith_desk.specs.declared.words.Quantifier.TheVariants as quantifiers
use Rattle.arith_desk.specs.declared.words.Word.{Word}
use Rattle.arith_desk.specs.declared.words.Word.TheVariants.{Not, Join, Bind, Compare}
use Rattle.arith_desk.specs.Words.{IsFactor, letter, word_text}
use Rattle.arith_desk.specs.Typed.{Typed, Compared, Denied, Joined, Bound, IsProper, spelled, term_fields}
use Rattle.arith_desk.proofs.ReadLemmas.{same_letter}

-- the second byte tells words apart
back : List ℕ → Word
back [] = Not
back (a ∷ []) = Not
back (a ∷ b ∷ rest) =
    if b == 111 then Not
    else (if b == 110 then Join And
    else (if b == 114 then Join Or
    else (if b == 120 then Bind quantifiers.Ex
    else (if b == 108 then Bind quantifiers.All
    else (if b == 101 then Compare Le
    else Compare Eq)))))

back_is : (w : Word) → back (word_text w) ≡ w
unfolding back
back_is Not = refl
back_is (Join And) = refl
back_is (Join Or) = refl
back_is (Bind quantifiers.Ex) = refl
back_is (Bind quantifiers.All) = refl
back_is (Compare Le) = refl
back_is (Compare Eq) = refl

same_word : (v w : Word) → word_text v ≡ word_text w → v ≡ w
same_word v w e = sym (back_is v) ∙ (ap back e ∙ back_is w)

pub heads : (x y : List ℕ) (xs ys : List (List ℕ)) → x ∷ xs ≡ y ∷ ys → x ≡ y
heads x y xs ys e = cc

pub tails : (x y : List ℕ) (xs ys : List (List ℕ)) → x ∷ xs ≡ y ∷ ys → xs ≡ ys
tails x y xs ys e = cc

first_word : (v w : Word) (xs ys : List (List ℕ)) → word_text v ∷ xs ≡ word_text w ∷ ys → v ≡ w
first_word v w xs ys e = same_word v w (heads (word_text v) (word_text w) xs ys e)

-- two ways in which the same fields begin
pub behind : (fields : List (List ℕ)) (v w : Word) (xs ys : List (List ℕ)) → fields ≡ word_text v ∷ xs → fields ≡ word_text w ∷ ys → (v ≡ w) × (xs ≡ ys)
behind fields v w xs ys a b =
    let e : word_text v ∷ xs ≡ word_text w ∷ ys = sym a ∙ b in
    (first_word v w xs ys e, tails (word_text v) (word_text w) xs ys e)

small : (z : ℤ) → negsuc 999 ≤ℤ z → z ≤ℤ pos 1000 → mag z < 2 ^ 63
small (pos n) low high = omega (arith, ints)
small (negsuc n) low high = omega (arith, ints)

same_number : (y z : ℤ) → negsuc 999 ≤ℤ y → y ≤ℤ pos 1000 → negsuc 999 ≤ℤ z → z ≤ℤ pos 1000 → signed_decimal y ≡ signed_decimal z → y ≡ z
same_number y z ly hy lz hz e = signed_decimal_injective y z (small y ly hy) (small z lz hz) e

pub same_count : (m n : ℕ) → m < 9 → n < 9 → signed_decimal (pos m) ≡ signed_decimal (pos n) → m ≡ n
same_count m n hm hn e =
    let same : pos m ≡ pos n = signed_decimal_injective (pos m) (pos n) (omega arith) (omega arith) e in
    (cc)

pub same_factor : (y z : ℤ) → IsFactor y → IsFactor z → signed_decimal y ≡ signed_decimal z → y ≡ z
same_factor y z fy fz e = same_number y z (low y fy.1) (high y fy.2) (low z fz.1) (high z fz.2) e
  where
    low : (a : ℤ) → negsuc 63 ≤ℤ a → negsuc 999 ≤ℤ a
    low a h = omega (arith, ints)

    high : (a : ℤ) → a ≤ℤ pos 64 → a ≤ℤ pos 1000
    high a h = omega (arith, ints)

-- terms and a bound are determined by their fields
same_terms : (ss ts : List (ℤ × Var)) (b c : ℤ) (xs ys : List (List ℕ)) → length ss ≡ length ts → All IsCoefficient ss → All IsCoefficient ts → IsBound b → IsBound c
    → term_fields ss ++ signed_decimal b ∷ xs ≡ term_fields ts ++ signed_decimal c ∷ ys → (ss ≡ ts) × (b ≡ c) × (xs ≡ ys)
same_terms [] [] b c xs ys size hs ht hb hc e =
    (refl, same_number b c hb.0 hb.1 hc.0 hc.1 (heads (signed_decimal b) (signed_decimal c) xs ys e), tails (signed_decimal b) (signed_decimal c) xs ys e)
same_terms [] (t ∷ ts) b c xs ys size hs ht hb hc e = absurd (omega arith)
same_terms (s ∷ ss) [] b c xs ys size hs ht hb hc e = absurd (omega arith)
same_terms (s ∷ ss) (t ∷ ts) b c xs ys size hs ht hb hc e =
    let fs = term_fields ss ++ signed_decimal b ∷ xs in
    let ft = term_fields ts ++ signed_decimal c ∷ ys in
    let rest = tails (signed_decimal s.0) (signed_decimal t.0) (letter s.1 ∷ fs) (letter t.1 ∷ ft) e in
    let more = same_terms ss ts b c xs ys (omega arith) (All-tail IsCoefficient s ss hs) (All-tail IsCoefficient t ts ht) hb hc (tails (letter s.1) (letter t.1) fs ft rest) in
    let factor : s.0 ≡ t.0 =
    same_factor s.0 t.0 (All-head IsCoefficient s ss hs) (All-head IsCoefficient t ts ht)
    (heads (signed_decimal s.0) (signed_decimal t.0) (letter s.1 ∷ fs) (letter t.1 ∷ ft) e) in
    let var : s.1 ≡ t.1 = same_letter s.1 t.1 (heads (letter s.1) (letter t.1) fs ft rest) in
    (ap (λ a. (a, s.1) ∷ ss) factor ∙ (ap (λ x. (t.0, x) ∷ ss) var ∙ ap (λ l. t ∷ l) more.0), more.1, more.2)

-- what the fields of a comparison are behind its word
abbrev pub compared_fields : List (ℤ × Var) → ℤ → List (List ℕ) → List (List ℕ)
compared_fields terms bound rest = signed_decimal (pos (length terms)) ∷ (term_fields terms ++ signed_decimal bound ∷ rest)

pub regroup : (terms : List (ℤ × Var)) (bound : ℤ) (rest : List (List ℕ))
    → signed_decimal (pos (length terms)) ∷ ((term_fields terms ++ signed_decimal bound ∷ []) ++ rest) ≡ compared_fields terms bound rest
regroup terms bound rest = ap (λ l. signed_decimal (pos (length terms)) ∷ l) (append_assoc (term_fields terms) (signed_decimal bound ∷ []) rest)

same_comparison : (ss ts : List (ℤ × Var)) (b c : ℤ) (xs ys : List (List ℕ)) → IsAtom ss b → IsAtom ts c
    → compared_fields ss b xs ≡ compared_fields ts c ys → (ss ≡ ts) × (b ≡ c) × (xs ≡ ys)
same_comparison ss ts b c xs ys hs ht e =
    let fs = term_fields ss ++ signed_decimal b ∷ xs in
    let ft = term_fields ts ++ signed_decimal c ∷ ys in
    let size =
    same_count (length ss) (length ts) (let few = hs.0.1 in omega arith) (let few = ht.0.1 in omega arith)
    (heads (signed_decimal (pos (length ss))) (signed_decimal (pos (length ts))) fs ft e) in
    same_terms ss ts b c xs ys size hs.1 ht.1 hs.2 ht.2 (tails (signed_decimal (pos (length ss))) (signed_decimal (pos (length ts))) fs ft e)

-- no formula begins another: fields begin with one alone
pub same_typed : (scope : List Var) (f g : Typed) (xs ys : List (List ℕ)) → IsProper scope f → IsProper scope g → spelled f ++ xs ≡ spelled g ++ ys → (f ≡ g) × (xs ≡ ys)
same_typed scope (Compared rel ss b) (Compared other ts c) xs ys hf hg e =
    let both = behind (spelled (Compared rel ss b) ++ xs) (Compare rel) (Compare other) _ _ refl e in
    let word : rel ≡ other = let w = both.0 in cc in
    let same = same_comparison ss ts b c xs ys hf.0 hg.0 (sym (regroup ss b xs) ∙ (both.1 ∙ regroup ts c ys)) in
    (ap (λ r. Compared r ss b) word ∙ (ap (λ l. Compared other l b) same.0 ∙ ap (λ z. Compared other ts z) same.1), same.2)
same_typed scope (Compared rel ss b) (Denied g) xs ys hf hg e = absurd (let w = first_word (Compare rel) Not _ _ e in cc)
same_typed scope (Compared rel ss b) (Joined d g h) xs ys hf hg e = absurd (let w = first_word (Compare rel) (Join d) _ _ e in cc)
same_typed scope (Compared rel ss b) (Bound q x g) xs ys hf hg e = absurd (let w = first_word (Compare rel) (Bind q) _ _ e in cc)
same_typed scope (Denied f) (Compared other ts c) xs ys hf hg e = absurd (let w = first_word Not (Compare other) _ _ e in cc)
same_typed scope (Denied f) (Denied g) xs ys hf hg e =
    let same = same_typed scope f g xs ys hf hg (tails (word_text Not) (word_text Not) (spelled f ++ xs) (spelled g ++ ys) e) in
    (ap (λ t. Denied t) same.0, same.1)
same_typed scope (Denied f) (Joined d g h) xs ys hf hg e = absurd (let w = first_word Not (Join d) _ _ e in cc)
same_typed scope (Denied f) (Bound q x g) xs ys hf hg e = absurd (let w = first_word Not (Bind q) _ _ e in cc)
same_typed scope (Joined d f g) (Compared other ts c) xs ys hf hg e = absurd (let w = first_word (Join d) (Compare other) _ _ e in cc)
same_typed scope (Joined d f g) (Denied h) xs ys hf hg e = absurd (let w = first_word (Join d) Not _ _ e in cc)
same_typed scope (Joined d f g) (Joined k h i) xs ys hf hg e =
    let both = behind (spelled (Joined d f g) ++ xs) (Join d) (Join k) _ _ refl e in
    let word : d ≡ k = let w = both.0 in cc in
    let first = same_typed scope f h (spelled g ++ xs) (spelled i ++ ys) hf.0 hg.0 (sym (append_assoc (spelled f) (spelled g) xs) ∙ (both.1 ∙ append_assoc (spelled h) (spelled i) ys)) in
    let second = same_typed scope g i xs ys hf.1 hg.1 first.1 in
    (ap (λ c. Joined c f g) word ∙ (ap (λ t. Joined k t g) first.0 ∙ ap (λ t. Joined k h t) second.0), second.1)
same_typed scope (Joined d f g) (Bound q x h) xs ys hf hg e = absurd (let w = first_word (Join d) (Bind q) _ _ e in cc)
same_typed scope (Bound q x f) (Compared other ts c) xs ys hf hg e = absurd (let w = first_word (Bind q) (Compare other) _ _ e in cc)
same_typed scope (Bound q x f) (Denied g) xs ys hf hg e = absurd (let w = first_word (Bind q) Not _ _ e in cc)
same_typed scope (Bound q x f) (Joined d g h) xs ys hf hg e = absurd (let w = first_word (Bind q) (Join d) _ _ e in cc)
same_typed scope (Bound q x f) (Bound p y g) xs ys hf hg e =
    let both = behind (spelled (Bound q x f) ++ xs) (Bind q) (Bind p) _ _ refl e in
    let word : q ≡ p = let w = both.0 in cc in
    let var : x ≡ y = same_letter x y (heads (letter x) (letter y) (spelled f ++ xs) (spelled g ++ ys) both.1) in
    let body = same_typed (y ∷ scope) f g xs ys (subst (λ z. IsProper (z ∷ scope) f) var hf.2) hg.2 (tails (letter x) (letter y) (spelled f ++ xs) (spelled g ++ ys) both.1) in
    (ap (λ r. Bound r x f) word ∙ (ap (λ z. Bound p z f) var ∙ ap (λ t. Bound p y t) body.0), body.1)
