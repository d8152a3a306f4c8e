-- Sets of one state each, and unions of rows.
use Rattle.std.proofs.Common.{◌≡◌, ◌≢◌, ℕ, ◌<◌, ◌+◌, List, [], ◌∷◌, ◌++◌, length, map, get_or, slice_get, slice_index, Some, Contains, arith, refl, sym, ap, ◌∙◌, subst, inl, inr}
use Rattle.std.specs.List.{All}
use Rattle.std.proofs.Math.ListN.{set}
use Rattle.std.proofs.lemmas.Bool.{cases_lt}
use Rattle.std.proofs.lemmas.Option.{slice_get_within, same_Some}
use Rattle.std.proofs.lemmas.List.{length_push}
use Rattle.std.proofs.lemmas.List.Elements.{All-from_get_or, All-contains, Contains-get_or, Contains-append_left, Contains-append_right, Contains-append_cases}
use Rattle.letter_diagram.specs.declared.diagrams.Shape.{Shape}
use Rattle.letter_diagram.specs.Diagram.{Grows}
use Rattle.letter_diagram.specs.Sets.{SetsKept, NumbersSet}
use Rattle.letter_diagram.specs.Merged.{HasSets, IsUnited}
use Rattle.letter_diagram.proofs.SetNumbers.{SetsKept-trans, SetsKept-numbers, slice_get-last}
use Rattle.letter_diagram.proofs.Mergings.{HasSets-grows}
use Rattle.auto_project.specs.SetMaps.{set_of, AreSingletons, IsUnionOf, IsUnionRow}
use Rattle.letter_diagram.proofs.Maps.{Grows-trans}
use Rattle.auto_project.proofs.Lists.{Contains-head, Contains-cases, Contains-cons}
use Rattle.auto_project.proofs.SetMapLemmas.{has-kept, had}

-- the sets of the states below a count, in order
pub record AreSingletonsSoFar (sets : List (List ℕ)) (count : ℕ) : Type 0 where
  pub size : length sets ≡ count
  pub single : (number : ℕ) → number < count → slice_get sets number ≡ Some (number ∷ [])

same_single : (m n : ℕ) → m ∷ [] ≡ n ∷ [] → m ≡ n
same_single m n e = cc

pub AreSingletonsSoFar-push : {old : List (List ℕ)} (new : List (List ℕ)) {count : ℕ} (number : ℕ) → NumbersSet old new (count ∷ []) → slice_get new number ≡ Some (count ∷ [])
    → AreSingletonsSoFar old count → AreSingletonsSoFar new (count + 1)
AreSingletonsSoFar-push {old} new {count} number (inl e) at are =
    let at' : slice_get old number ≡ Some (count ∷ []) = ap (λ l. slice_get l number) (sym e) ∙ at in
    let within = slice_get_within old number (count ∷ []) at' in
    let size = are.size in
    let single = are.single number (omega (arith, within, size)) in
    let same = same_single number count (same_Some _ _ (sym single ∙ at')) in
    absurd (omega (arith, within, size, same))
AreSingletonsSoFar-push {old} new {count} number (inr (e, absent)) at are = record {
  size = let l = ap length e ∙ length_push old (count ∷ []) in let s = are.size in omega (arith, l, s);
  single = λ k h. elim (cases_lt k count) [
    | inl less ↦ (SetsKept-numbers old new (count ∷ []) (inr (e, absent))).at k (k ∷ []) (are.single k less)
    | inr more ↦
        let here : k ≡ count = omega arith in
        let l = ap length e ∙ length_push old (count ∷ []) in
        let s = are.size in
        slice_get-last old new (count ∷ []) k (inr (e, absent)) (omega (arith, s, more)) (omega (arith, l, s, h)) ∙ ap (λ n. Some (n ∷ [])) (sym here)
  ];
}

pub AreSingletons-all : {sets : List (List ℕ)} {count : ℕ} → AreSingletonsSoFar sets count → AreSingletons sets count
AreSingletons-all are = record { enough = let s = are.size in omega (arith, s); single = are.single }

pub AreSingletonsSoFar-none : (sets : List (List ℕ)) → sets ≡ [] → AreSingletonsSoFar sets 0
AreSingletonsSoFar-none sets e = record { size = ap length e; single = λ number h. absurd (omega arith) }

-- the union of two unions
pub IsUnionOf-both : {s1 s2 s3 : List Shape} {t1 t2 t3 : List (List ℕ)} (s0 : List Shape) (t0 : List (List ℕ)) (nodes : List ℕ) {front back : List ℕ} {a b node : ℕ} → nodes ≡ front ++ back
    → All (HasSets s0 t0) front → All (HasSets s0 t0) back
    → Grows s0 s1 → SetsKept t0 t1 → Grows s1 s2 → SetsKept t1 t2 → Grows s2 s3 → SetsKept t2 t3 → IsUnionOf s1 t1 front a → IsUnionOf s2 t2 back b → IsUnited s3 t3 a b node
    → IsUnionOf s3 t3 nodes node
IsUnionOf-both {s1} {s2} {s3} {t1} {t2} {t3} s0 t0 nodes {front} {back} {node} same front_sets back_sets g1 k1 g2 k2 g3 k3 of_front of_back both =
    subst (λ l. IsUnionOf s3 t3 l node) (sym same) (record {
      is = record { known = both.known; numbered = λ letter. (both.map letter).known };
      members = λ letter state. (to letter state, from letter state);
    })
  where
    front_at : (one : ℕ) → Contains front one → HasSets s1 t1 one
    front_at one c = HasSets-grows g1 k1 (All-contains (HasSets s0 t0) front one front_sets c)

    back_at : (one : ℕ) → Contains back one → HasSets s2 t2 one
    back_at one c = HasSets-grows g2 k2 (HasSets-grows g1 k1 (All-contains (HasSets s0 t0) back one back_sets c))

    far : Grows s1 s3
    far = Grows-trans g2 g3

    far_kept : SetsKept t1 t3
    far_kept = SetsKept-trans k2 k3

    to : (letter state : ℕ) → Contains (set_of s3 t3 node letter) state → (one : ℕ) × Contains (front ++ back) one × Contains (set_of s3 t3 one letter) state
    to letter state c = elim (((both.map letter).members state).0 c) [
      | inl l ↦
          let o = (of_front.members letter state).0 (had s1 s3 t1 t3 far far_kept letter state of_front.is l) in
          (o.0, Contains-append_left front back o.0 o.1, has-kept s1 s3 t1 t3 far far_kept letter state (front_at o.0 o.1) o.2)
      | inr r ↦
          let o = (of_back.members letter state).0 (had s2 s3 t2 t3 g3 k3 letter state of_back.is r) in
          (o.0, Contains-append_right front back o.0 o.1, has-kept s2 s3 t2 t3 g3 k3 letter state (back_at o.0 o.1) o.2)
    ]

    from : (letter state : ℕ) → ((one : ℕ) × Contains (front ++ back) one × Contains (set_of s3 t3 one letter) state) → Contains (set_of s3 t3 node letter) state
    from letter state (one, c, d) = elim (Contains-append_cases front back one c) [
      | inl l ↦
          ((both.map letter).members state).1
          (inl
          (has-kept s1 s3 t1 t3 far far_kept letter state of_front.is
          ((of_front.members letter state).1 (one, l, had s1 s3 t1 t3 far far_kept letter state (front_at one l) d))))
      | inr r ↦
          ((both.map letter).members state).1
          (inr
          (has-kept s2 s3 t2 t3 g3 k3 letter state of_back.is
          ((of_back.members letter state).1 (one, r, had s2 s3 t2 t3 g3 k3 letter state (back_at one r) d))))
    ]

-- a part of nodes with sets
pub front-sets : (shapes : List Shape) (sets : List (List ℕ)) (nodes front back : List ℕ) → nodes ≡ front ++ back → All (HasSets shapes sets) nodes → All (HasSets shapes sets) front
front-sets shapes sets nodes front back same all =
    All-from_get_or (HasSets shapes sets) front 0
    (λ i h. All-contains (HasSets shapes sets) nodes (get_or front i 0) all
    (subst (λ l. Contains l (get_or front i 0)) (sym same)
    (Contains-append_left front back (get_or front i 0) (Contains-get_or front i 0 h))))

pub back-sets : (shapes : List Shape) (sets : List (List ℕ)) (nodes front back : List ℕ) → nodes ≡ front ++ back → All (HasSets shapes sets) nodes → All (HasSets shapes sets) back
back-sets shapes sets nodes front back same all =
    All-from_get_or (HasSets shapes sets) back 0
    (λ i h. All-contains (HasSets shapes sets) nodes (get_or back i 0) all
    (subst (λ l. Contains l (get_or back i 0)) (sym same) (Contains-append_right front back (get_or back i 0) (Contains-get_or back i 0 h))))

-- the rows of some states
Contains-map : (f : ℕ → ℕ) (xs : List ℕ) (y : ℕ) → Contains (map f xs) y → (x : ℕ) × Contains xs x × (f x ≡ y)
Contains-map f [] y c = let h = c.1 in absurd (omega arith)
Contains-map f (x ∷ xs) y c = elim (Contains-cases (f x) (map f xs) y c) [
  | inl e ↦ (x, Contains-head x xs, e)
  | inr later ↦ let o = Contains-map f xs y later in (o.0, Contains-cons x xs o.0 o.1, o.2)
]

map-contains : (f : ℕ → ℕ) (xs : List ℕ) (x : ℕ) → Contains xs x → Contains (map f xs) (f x)
map-contains f [] x c = let h = c.1 in absurd (omega arith)
map-contains f (y ∷ ys) x c = elim (Contains-cases y ys x c) [
  | inl e ↦ subst (λ n. Contains (map f (y ∷ ys)) (f n)) e (Contains-head (f y) (map f ys))
  | inr later ↦ Contains-cons (f y) (map f ys) (f x) (map-contains f ys x later)
]

pub IsUnionRow-from : {shapes : List Shape} {sets : List (List ℕ)} (rows set : List ℕ) {nodes : List ℕ} {node : ℕ} → nodes ≡ map (slice_index rows) set → IsUnionOf shapes sets nodes node
    → IsUnionRow shapes sets rows set node
IsUnionRow-from {shapes} {sets} rows set same union = record {
  is = union.is;
  members = λ letter state. (
    λ c.
        let o = (union.members letter state).0 c in
        let p = Contains-map (slice_index rows) set o.0 (subst (λ l. Contains l o.0) same o.1) in
        (p.0, p.1, subst (λ n. Contains (set_of shapes sets n letter) state) (sym p.2) o.2),
    λ o. (union.members letter state).1 (slice_index rows o.0, subst (λ l. Contains l (slice_index rows o.0)) (sym same) (map-contains (slice_index rows) set o.0 o.1), o.2),
  );
}

pub picked-some : (rows set nodes : List ℕ) → nodes ≡ map (slice_index rows) set → set ≢ [] → nodes ≢ []
picked-some rows [] nodes same some none = some refl
picked-some rows (state ∷ set) nodes same some none = let e = ap length (sym same ∙ none) in omega (arith, e)

pub picked-sets : (shapes : List Shape) (sets : List (List ℕ)) (rows set nodes : List ℕ) → nodes ≡ map (slice_index rows) set → All (λ state. state < length rows) set
    → All (HasSets shapes sets) rows → All (HasSets shapes sets) nodes
picked-sets shapes sets rows set nodes same within all =
    All-from_get_or (HasSets shapes sets) nodes 0 (λ i h.
    let p = Contains-map (slice_index rows) set (get_or nodes i 0) (subst (λ l. Contains l (get_or nodes i 0)) same (Contains-get_or nodes i 0 h)) in
    subst (HasSets shapes sets) p.2 (all p.0 0 (All-contains (λ state. state < length rows) set p.0 within p.1)))
