-- Facts on lists of sets.
use Rattle.std.proofs.Common.{◌≡◌, ◌≢◌, ℕ, ◌<◌, ◌≤◌, Bool, true, false, true≢false, nat_eq, List, length, slice_get, Some, Contains, AllPairs, All, map, arith, refl, sym, ap, ◌∙◌, subst, get_or, [], ◌∷◌, ◌++◌, inl, inr, ◌⊎◌}
use Rattle.std.specs.Bool.{Decides}
use Rattle.std.specs.Cmp.Lexicographic.{pointwise}
use Rattle.std.specs.List.Sorted.{IsStrictlyIncreasing}
use Rattle.std.proofs.lemmas.Bool.Decides.{Decides-eqb}
use Rattle.std.proofs.lemmas.Slice.Eq.{slice_eq-Decides}
use Rattle.std.proofs.lemmas.List.{length_push, length-append, get_or_append_left, get_or_push}
use Rattle.std.proofs.lemmas.List.Elements.{All-push, Contains-get_or}
use Rattle.std.proofs.lemmas.List.Quantifiers.{all_pairs_push}
use Rattle.std.proofs.lemmas.Option.{slice_get-get_or, slice_get_within, get_or_from_slice_get, slice_get-map, slice_get_read}
use Rattle.std.specs.Option.{option_map}
use Rattle.letter_diagram.specs.Sets.{NumbersSet, SetsKept, IsUnion, set_at}

-- whether two lists of numbers are equal
abbrev pub set_eq : List ℕ → List ℕ → Bool
set_eq = pointwise nat_eq

pub set_eq-Decides : (a b : List ℕ) → Decides (set_eq a b) (a ≡ b)
set_eq-Decides a b = slice_eq-Decides (λ x y. Decides-eqb x y) a b (set_eq a b) refl

-- a set that is read and is the one that is looked for has this number
pub set_there : {X : Type 0} (items : X → List ℕ) (sets : List X) (number : ℕ) (k : X) (set : List ℕ) → number < length sets → k ≡ get_or sets number k
    → set_eq (items k) set ≡ true → slice_get (map items sets) number ≡ Some set
set_there items sets number k set below is same =
    slice_get-map items sets number
    ∙ ap (option_map items) (slice_get_read sets (length sets) number k refl below is)
    ∙ ap Some ((set_eq-Decides (items k) set).0 same)

-- a set that is read and is another one is not the one of this number
pub set_differs : {X : Type 0} (items : X → List ℕ) (sets : List X) (number : ℕ) (k : X) (set : List ℕ) → number < length sets → k ≡ get_or sets number k
    → set_eq (items k) set ≡ false → slice_get (map items sets) number ≡ Some set → ⊥
set_differs items sets number k set below is other at =
    let read : slice_get (map items sets) number ≡ Some (items k) = slice_get-map items sets number ∙ ap (option_map items) (slice_get_read sets (length sets) number k refl below is) in
    let same : items k ≡ set = cc in
    true≢false (sym ((set_eq-Decides (items k) set).1 same) ∙ other)

pub SetsKept-refl : (xs : List (List ℕ)) → SetsKept xs xs
SetsKept-refl xs = record { longer = omega arith; at = λ n s h. h }

pub SetsKept-trans : {xs ys zs : List (List ℕ)} → SetsKept xs ys → SetsKept ys zs → SetsKept xs zs
SetsKept-trans f g = record { longer = let a = f.longer in let b = g.longer in omega arith; at = λ n s h. g.at n s (f.at n s h) }

SetsKept-append : (xs ys : List (List ℕ)) → SetsKept xs (xs ++ ys)
SetsKept-append xs ys = record {
  longer = let l = length-append xs ys in omega (arith, l);
  at = λ n s h.
      let within = slice_get_within xs n s h in
      let l = length-append xs ys in
      slice_get-get_or (xs ++ ys) n s (omega (arith, l, within)) ∙ ap Some (get_or_append_left xs ys s n within ∙ get_or_from_slice_get xs n s s h);
}

pub SetsKept-numbers : (old new : List (List ℕ)) (set : List ℕ) → NumbersSet old new set → SetsKept old new
SetsKept-numbers old new set (inl e) = subst (SetsKept old) (sym e) (SetsKept-refl old)
SetsKept-numbers old new set (inr (e, absent)) = subst (SetsKept old) (sym e) (SetsKept-append old (set ∷ []))

-- numbering a set keeps what holds of the list
pub ascend_still : (old new : List (List ℕ)) (set : List ℕ) → NumbersSet old new set → IsStrictlyIncreasing set → All IsStrictlyIncreasing old → All IsStrictlyIncreasing new
ascend_still old new set (inl e) ascends all = subst (All IsStrictlyIncreasing) (sym e) all
ascend_still old new set (inr (e, absent)) ascends all = subst (All IsStrictlyIncreasing) (sym e) (All-push IsStrictlyIncreasing old set all ascends)

pub unrepeated_still : (old new : List (List ℕ)) (set : List ℕ) → NumbersSet old new set → AllPairs (λ x y. x ≢ y) old → AllPairs (λ x y. x ≢ y) new
unrepeated_still old new set (inl e) all = subst (AllPairs (λ x y. x ≢ y)) (sym e) all
unrepeated_still old new set (inr (e, absent)) all =
    subst (AllPairs (λ x y. x ≢ y)) (sym e) (all_pairs_push (λ x y. x ≢ y) old set all (λ k d below same. absent (subst (Contains old) same (Contains-get_or old k d below))))

-- the sets of known numbers stay
pub set_at-kept : {old new : List (List ℕ)} (n : ℕ) → SetsKept old new → n < length old → set_at new n ≡ set_at old n
set_at-kept {old} {new} n kept below = get_or_from_slice_get new n (get_or old n []) [] (kept.at n (get_or old n []) (slice_get-get_or old n [] below))

pub IsUnion-kept : {old new : List (List ℕ)} {x y n : ℕ} → SetsKept old new → x < length old → y < length old → IsUnion old x y n → IsUnion new x y n
IsUnion-kept {old} {new} {x} {y} {n} kept kx ky is =
    let known = is.known in
    let longer = kept.longer in
    let en = set_at-kept n kept is.known in
    let ex = set_at-kept x kept kx in
    let ey = set_at-kept y kept ky in
    record { known = omega arith; members = λ element. rw (en, ex, ey) (is.members element) }

pub IsUnion-same : (sets : List (List ℕ)) (x : ℕ) → x < length sets → IsUnion sets x x x
IsUnion-same sets x known = record { known = known; members = λ element. (λ h. inl h, λ e. elim e [ inl h ↦ h | inr h ↦ h ]) }

-- the number of a set that has what two sets had
pub IsUnion-numbered : {old new : List (List ℕ)} {x y n : ℕ} {both xs ys : List ℕ} → SetsKept old new → x < length old → y < length old → slice_get new n ≡ Some both
    → set_at old x ≡ xs → set_at old y ≡ ys
    → ((element : ℕ) → (Contains both element → Contains xs element ⊎ Contains ys element) × (Contains xs element ⊎ Contains ys element → Contains both element)) → IsUnion new x y n
IsUnion-numbered {old} {new} {x} {y} {n} {both} kept kx ky at ex ey members =
    let en = get_or_from_slice_get new n both [] at in
    let fx = set_at-kept x kept kx ∙ ex in
    let fy = set_at-kept y kept ky ∙ ey in
    record { known = slice_get_within new n both at; members = λ element. rw (en, fx, fy) (members element) }

pub Contains-at : {X : Type 0} (xs : List X) (i : ℕ) (x : X) → slice_get xs i ≡ Some x → Contains xs x
Contains-at xs i x at = subst (Contains xs) (get_or_from_slice_get xs i x x at) (Contains-get_or xs i x (slice_get_within xs i x at))

-- the set that is read at a place
pub set_read : {X : Type 0} (items : X → List ℕ) (keys : List X) (i : ℕ) (k : X) → i < length keys → k ≡ get_or keys i k → set_at (map items keys) i ≡ items k
set_read items keys i k below is =
    get_or_from_slice_get (map items keys) i (items k) [] (slice_get-map items keys i ∙ ap (option_map items) (slice_get_read keys (length keys) i k refl below is))

-- the same, as an item of the list
pub set_read_at : {X : Type 0} (items : X → List ℕ) (keys : List X) (i : ℕ) (k : X) → i < length keys → k ≡ get_or keys i k → items k ≡ get_or (map items keys) i (items k)
set_read_at items keys i k below is =
    sym (get_or_from_slice_get (map items keys) i (items k) (items k) (slice_get-map items keys i ∙ ap (option_map items) (slice_get_read keys (length keys) i k refl below is)))

-- a set that is new is the one that was numbered
pub slice_get-last : (old new : List (List ℕ)) (set : List ℕ) (n : ℕ) → NumbersSet old new set → length old ≤ n → n < length new → slice_get new n ≡ Some set
slice_get-last old new set n (inl e) from below = let l = ap length e in absurd (omega (arith, l, from, below))
slice_get-last old new set n (inr (e, absent)) from below =
    let l = ap length e ∙ length_push old set in
    slice_get-get_or new n set below ∙ ap Some (ap (λ k. get_or k n set) e ∙ get_or_push old set set n (omega (arith, l, from, below)))

pub IsUnion-at : {sets : List (List ℕ)} {x x' y y' n n' : ℕ} → x ≡ x' → y ≡ y' → n ≡ n' → IsUnion sets x y n → IsUnion sets x' y' n'
IsUnion-at {sets} {x} {y} {y'} {n'} ex ey en is = subst (λ k. IsUnion sets k y' n') ex (subst (λ k. IsUnion sets x k n') ey (subst (IsUnion sets x y) en is))
