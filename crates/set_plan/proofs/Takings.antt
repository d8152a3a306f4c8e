-- Which tuples the programs of unions and differences give.
use Rattle.std.proofs.Common.{◌≡◌, ◌↔◌, ℕ, ◌+◌, ◌⊎◌, if◌then◌else◌, Bool, true, false, List, [], ◌∷◌, ◌++◌, length, map, Some, inl, inr, ℤ, refl, sym, ap, ◌∙◌, subst, arith}
use Rattle.std.specs.Prelude.{filter, Contains}
use Rattle.std.specs.List.{flat_map}
use Rattle.track_word.specs.declared.tracks.Var.{Var}
use Rattle.track_word.specs.Tracks.{Values, values_at}
pub use Rattle.auto_project.proofs.Lists.{Contains-head as contains_head, Contains-cons as contains_rest, Contains-cases as contains_cases}
use Rattle.lin_formula.specs.Tree.{Tree, Lin, Value, Among, Not, And, Or, Ex, free_vars, steps}
use Rattle.lin_formula.specs.Holds.{Holds, with_value}
use Rattle.lin_formula.specs.SetOf.{SetOf, Nothing, Where, Member, members, SomeEmpty, HoldsAt}
use Rattle.set_plan.specs.Program.{Item, Entry, IsSetOf, Give, each, Takes}
use Rattle.set_plan.proofs.Composition.{Takes-split, none_some}
use Rattle.set_plan.specs.Unite.{positives, Made, make, either, join, unite, with_item, two, difference, without, union, difference_set, union_of_two}

pub same_some : {A : Type 0} {a b : A} → Some a ≡ Some b → a ≡ b
same_some e = cc

pub Takes-give : {P A : Type 0} (a b : A) (xs : List (Entry P)) → Takes (Give a) xs (Some b) → b ≡ a
Takes-give a b xs (e, inl is) = same_some is
Takes-give a b xs (e, inr is) = none_some is

some_both : (e : ℕ → SetOf) (xs ys : List ℕ) (P : Type 0) → (SomeEmpty (map e xs) → P) → (SomeEmpty (map e ys) → P) → SomeEmpty (map e (xs ++ ys)) → P
some_both e [] ys P f g h = g h
some_both e (x ∷ xs) ys P f g (inl is) = f (inl is)
some_both e (x ∷ xs) ys P f g (inr rest) = some_both e xs ys P (λ k. f (inr k)) g rest

-- where a formula holds, no set that stands outside of any Not is empty
pub holds_positive : (e : ℕ → SetOf) (f : Tree) (v : Values) → Holds f (members e) v → SomeEmpty (map e (positives f)) → ⊥
holds_positive e (Lin terms rel bound) v h s = s
holds_positive e (Value x n) v h s = s
holds_positive e (Among set vars) v h (inl is) = is (values_at vars v) h
holds_positive e (Among set vars) v h (inr never) = never
holds_positive e (Not f) v h s = s
holds_positive e (And f g) v h s = some_both e (positives f) (positives g) ⊥ (holds_positive e f v h.0) (holds_positive e g v h.1) s
holds_positive e (Or f g) v h s = s
holds_positive e (Ex x f) v (n, h) s = holds_positive e f (with_value v x n) h s

-- each tuple of the set is a tuple of values of the tracks
abbrev pub IsOver : List Var → SetOf → Type 0
IsOver tracks s = (tuple : List ℤ) → Member s tuple → (v : Values) × (values_at tracks v ≡ tuple)

-- each item's formula has these tracks
abbrev pub HaveTracks : List Var → List Item → Type 0
HaveTracks tracks [] = Unit {0}
HaveTracks tracks (item ∷ items) = (free_vars item.formula ≡ tracks) × HaveTracks tracks items

-- the tuple is one at which the item's formula holds
abbrev pub IsOf : Item → List ℤ → Type 0
IsOf item tuple = Member (Where item.formula item.sets) tuple

-- the tuple is one of some item's
abbrev pub AnyItem : List Item → List ℤ → Type 0
AnyItem [] tuple = ⊥
AnyItem (item ∷ items) tuple = IsOf item tuple ⊎ AnyItem items tuple

module _ {P : Type 0} where
  -- an item's set has the tuples at which its formula holds, also where it is left out
  pub make-members : (part : P) (at : ℕ) (item : Item) (xs : List (Entry P)) (made : Made) → Takes (make part at item) xs (Some made) → IsSetOf item made.0
  make-members part at item xs made (inl (e, o)) = none_some o
  make-members part at item xs made (inr (inl (is, t))) =
      let nothing : made.0 ≡ Nothing = ap (λ (m : Made). m.0) (Takes-give (Nothing, at) made xs t) in
      rw nothing (record { same = λ tuple. (λ h. absurd h, λ h. absurd (holds_positive item.sets item.formula h.values h.holds is)) })
  make-members part at item xs made (inr (inr (none, inl (e, o)))) = none_some o
  make-members part at item xs made (inr (inr (none, inr (rest, s, e, is, t)))) =
      let same : made.0 ≡ s = ap (λ (m : Made). m.0) (Takes-give (s, at + length (steps item.formula)) made rest t) in
      rw same is

module _ {P : Type 0} (tracks : List Var) (part : P) (free : free_vars (Or (Among 0 tracks) (Among 1 tracks)) ≡ tracks) where
  either-members : (s t : SetOf) → IsOver tracks s → IsOver tracks t → (tuple : List ℤ) → IsOf (either tracks s t) tuple ↔ (Member s tuple ⊎ Member t tuple)
  either-members s t over_s over_t tuple =
      let At : List ℤ → Type 0 = λ u. Member s u ⊎ Member t u in
      let made = λ (v : Values) (is : values_at tracks v ≡ tuple) (h : At tuple).
      let k : HoldsAt tracks (Holds (Or (Among 0 tracks) (Among 1 tracks)) (members (two s t))) tuple = record { values = v; is_tuple = is; holds = subst At (sym is) h } in
      let Over : List Var → Type 0 = λ vars. HoldsAt vars (Holds (Or (Among 0 tracks) (Among 1 tracks)) (members (two s t))) tuple in
      subst Over (sym free) k in (
        λ h. subst At (ap (λ vars. values_at vars h.values) (sym free) ∙ h.is_tuple) h.holds,
        λ h. elim h [
          | inl a ↦ let (v, is) = over_s tuple a in made v is (inl a)
          | inr b ↦ let (v, is) = over_t tuple b in made v is (inr b)
        ],
      )

  -- a set joined to another has the tuples of both
  pub join-members : (s : SetOf) (next : Made) (xs : List (Entry P)) (made : Made) → IsOver tracks s → IsOver tracks next.0
      → Takes (join tracks part s next) xs (Some made) → (tuple : List ℤ) → Member made.0 tuple ↔ (Member s tuple ⊎ Member next.0 tuple)
  join-members s next xs made over_s over_n (inl (e, o)) tuple = none_some o
  join-members s next xs made over_s over_n (inr (inl (inl empty, t))) tuple =
      let same : made.0 ≡ s = ap (λ (m : Made). m.0) (Takes-give (s, next.1) made xs t) in
      rw same (λ h. inl h, λ h. elim h [ inl a ↦ a | inr b ↦ absurd (empty tuple b) ])
  join-members s next xs made over_s over_n (inr (inl (inr never, t))) tuple = absurd never
  join-members s next xs made over_s over_n (inr (inr (some, inl (e, o)))) tuple = none_some o
  join-members s next xs made over_s over_n (inr (inr (some, inr (inl (inl empty, t))))) tuple =
      let same : made.0 ≡ next.0 = ap (λ (m : Made). m.0) (Takes-give next made xs t) in
      rw same (λ h. inr h, λ h. elim h [ inl a ↦ absurd (empty tuple a) | inr b ↦ b ])
  join-members s next xs made over_s over_n (inr (inr (some, inr (inl (inr never, t))))) tuple = absurd never
  join-members s next xs made over_s over_n (inr (inr (some, inr (inr (some_s, inl (e, o)))))) tuple = none_some o
  join-members s next xs made over_s over_n (inr (inr (some, inr (inr (some_s, inr (rest, u, e, is, t)))))) tuple =
      let same : made.0 ≡ u = ap (λ (m : Made). m.0) (Takes-give (u, next.1 + 1) made rest t) in
      let both = either-members s next.0 over_s over_n tuple in
      rw same (λ h. both.0 ((is.same tuple).0 h), λ h. (is.same tuple).1 (both.1 h))

  is_over : {item : Item} {s : SetOf} → free_vars item.formula ≡ tracks → IsSetOf item s → IsOver tracks s
  is_over e is tuple h =
      let k = (is.same tuple).0 h in
      (k.values, ap (λ vars. values_at vars k.values) (sym e) ∙ k.is_tuple)

  join_over : (s : SetOf) (next made : Made)
      → IsOver tracks s → IsOver tracks next.0
      → ((tuple : List ℤ) → Member made.0 tuple ↔ (Member s tuple ⊎ Member next.0 tuple)) → IsOver tracks made.0
  join_over s next made over_s over_n same tuple h = elim ((same tuple).0 h) [ inl a ↦ over_s tuple a | inr b ↦ over_n tuple b ]

  -- the union has the tuples of what was there before and those of each item
  unite-members : (items : List Item) (so_far : Made) (xs : List (Entry P)) (made : Made) → IsOver tracks so_far.0 → HaveTracks tracks items
      → Takes (unite tracks part so_far items) xs (Some made) → (tuple : List ℤ) → Member made.0 tuple ↔ (Member so_far.0 tuple ⊎ AnyItem items tuple)
  unite-members [] so_far xs made over have t tuple =
      let same : made.0 ≡ so_far.0 = ap (λ (m : Made). m.0) (Takes-give so_far made xs t) in
      rw same (λ h. inl h, λ h. elim h [ inl a ↦ a | inr b ↦ absurd b ])
  unite-members (item ∷ items) so_far xs made over (have, haves) t tuple =
      let (us, vs, more, order, one, last) = Takes-split (with_item tracks part item so_far) (each items (with_item tracks part)) xs made t in
      let (ws, zs, next, order, first, second) = Takes-split (make part so_far.1 item) (join tracks part so_far.0) us more one in
      let is = make-members part so_far.1 item ws next first in
      let over_n = is_over have is in
      let joined = join-members so_far.0 next zs more over over_n second in
      let whole = unite-members items more vs made (join_over so_far.0 next more over over_n joined) haves last tuple in (
        λ h. elim (whole.0 h) [
          | inl a ↦ elim ((joined tuple).0 a) [ inl b ↦ inl b | inr b ↦ inr (inl ((is.same tuple).0 b)) ]
          | inr b ↦ inr (inr b)
        ],
        λ h. elim h [
          | inl a ↦ whole.1 (inl ((joined tuple).1 (inl a)))
          | inr (inl b) ↦ whole.1 (inl ((joined tuple).1 (inr ((is.same tuple).1 b))))
          | inr (inr c) ↦ whole.1 (inr c)
        ],
      )

  -- the union of items has the tuples of each
  pub union-members : (items : List Item) (xs : List (Entry P)) (s : SetOf) → HaveTracks tracks items → Takes (union tracks part items) xs (Some s)
      → (tuple : List ℤ) → Member s tuple ↔ AnyItem items tuple
  union-members items xs s have t tuple =
      let (us, vs, made, order, first, rest) = Takes-split (unite tracks part (Nothing, 1) items) (λ made. Give made.0) xs s t in
      let is : s ≡ made.0 = Takes-give made.0 s vs rest in
      let whole = unite-members items (Nothing, 1) us made (λ u h. absurd h) have first tuple in
      rw is (λ h. elim (whole.0 h) [ inl never ↦ absurd never | inr some ↦ some ], λ h. whole.1 (inr h))

  any_over : (items : List Item) → HaveTracks tracks items → (tuple : List ℤ) → AnyItem items tuple → (v : Values) × (values_at tracks v ≡ tuple)
  any_over [] have tuple h = absurd h
  any_over (item ∷ items) (have, haves) tuple (inl h) = (h.values, ap (λ vars. values_at vars h.values) (sym have) ∙ h.is_tuple)
  any_over (item ∷ items) (have, haves) tuple (inr h) = any_over items haves tuple h

  pub union_over : (items : List Item) (xs : List (Entry P)) (s : SetOf) → HaveTracks tracks items → Takes (union tracks part items) xs (Some s) → IsOver tracks s
  union_over items xs s have t tuple h = any_over items have tuple ((union-members items xs s have t tuple).0 h)

  difference-members : (s t : SetOf) → IsOver tracks s → (tuple : List ℤ) → IsOf (difference tracks s t) tuple ↔ (Member s tuple × (Member t tuple → ⊥))
  difference-members s t over_s tuple =
      let At : List ℤ → Type 0 = λ u. Member s u × (Member t u → ⊥) in
      let Over : List Var → Type 0 = λ vars. HoldsAt vars (Holds (And (Among 0 tracks) (Not (Among 1 tracks))) (members (two s t))) tuple in (
        λ h. subst At (ap (λ vars. values_at vars h.values) (sym free) ∙ h.is_tuple) h.holds,
        λ h.
            let (v, is) = over_s tuple h.0 in
            let k : HoldsAt tracks (Holds (And (Among 0 tracks) (Not (Among 1 tracks))) (members (two s t))) tuple = record { values = v; is_tuple = is; holds = subst At (sym is) h } in
            subst Over (sym free) k,
      )

  without-members : (s t : SetOf) (xs : List (Entry P)) (made : Made) → IsOver tracks s → Takes (without tracks part s t) xs (Some made)
      → (tuple : List ℤ) → Member made.0 tuple ↔ (Member s tuple × (Member t tuple → ⊥))
  without-members s t xs made over_s (inl (e, o)) tuple = none_some o
  without-members s t xs made over_s (inr (inl (inl empty, take))) tuple =
      let same : made.0 ≡ s = ap (λ (m : Made). m.0) (Takes-give (s, 1) made xs take) in
      rw same (λ h. (h, empty tuple), λ h. h.0)
  without-members s t xs made over_s (inr (inl (inr never, take))) tuple = absurd never
  without-members s t xs made over_s (inr (inr (some, take))) tuple =
      let is = make-members part 1 (difference tracks s t) xs made take in
      let both = difference-members s t over_s tuple in
      (λ h. both.0 ((is.same tuple).0 h), λ h. (is.same tuple).1 (both.1 h))

  -- one set without another has the tuples of the one that the other has not
  pub difference_set-members : (s t : SetOf) (xs : List (Entry P)) (u : SetOf) → IsOver tracks s → Takes (difference_set tracks part s t) xs (Some u)
      → (tuple : List ℤ) → Member u tuple ↔ (Member s tuple × (Member t tuple → ⊥))
  difference_set-members s t xs u over_s takes tuple =
      let (us, vs, made, order, first, rest) = Takes-split (without tracks part s t) (λ made. Give made.0) xs u takes in
      let is : u ≡ made.0 = Takes-give made.0 u vs rest in
      let whole = without-members s t us made over_s first tuple in
      rw is whole

  pub remainder_over : (s t : SetOf) (xs : List (Entry P)) (u : SetOf) → IsOver tracks s → Takes (difference_set tracks part s t) xs (Some u) → IsOver tracks u
  remainder_over s t xs u over_s takes tuple h = over_s tuple ((difference_set-members s t xs u over_s takes tuple).0 h).0

  -- two sets together have the tuples of both
  pub union_of_two-members : (s t : SetOf) (xs : List (Entry P)) (u : SetOf) → IsOver tracks s → IsOver tracks t
      → Takes (union_of_two tracks part s t) xs (Some u) → (tuple : List ℤ) → Member u tuple ↔ (Member s tuple ⊎ Member t tuple)
  union_of_two-members s t xs u over_s over_t takes tuple =
      let (us, vs, made, order, first, rest) = Takes-split (join tracks part s (t, 1)) (λ made. Give made.0) xs u takes in
      let is : u ≡ made.0 = Takes-give made.0 u vs rest in
      let whole = join-members s (t, 1) us made over_s over_t first tuple in
      rw is whole

-- nothing is in the empty list
pub contains_none : {X : Type 0} (y : X) → Contains [] y → ⊥
contains_none y h = omega (arith, h.1)

-- what a test keeps of a list
filter_step : {X : Type 0} (p : X → Bool) (c : X) (xs : List X) (o : X) (b : Bool) → p c ≡ b
    → Contains (filter p xs) o ↔ (Contains xs o × (p o ≡ true))
    → Contains (if b then c ∷ filter p xs else filter p xs) o ↔ (Contains (c ∷ xs) o × (p o ≡ true))
filter_step p c xs o true e rest = (
  λ h. elim (contains_cases c (filter p xs) o h) [
    | inl same ↦ (subst (λ y. Contains (c ∷ xs) y) same (contains_head c xs), ap p (sym same) ∙ e)
    | inr i ↦ let (a, b) = rest.0 i in (contains_rest c xs o a, b)
  ],
  λ (i, t). elim (contains_cases c xs o i) [
    | inl same ↦ subst (λ y. Contains (c ∷ filter p xs) y) same (contains_head c (filter p xs))
    | inr a ↦ contains_rest c (filter p xs) o (rest.1 (a, t))
  ],
)
filter_step p c xs o false e rest = (
  λ h. let (a, b) = rest.0 h in (contains_rest c xs o a, b),
  λ (i, t). elim (contains_cases c xs o i) [ inl same ↦ let f : p o ≡ false = ap p (sym same) ∙ e in cc | inr a ↦ rest.1 (a, t) ],
)

pub contains_filter : {X : Type 0} (p : X → Bool) (xs : List X) (o : X) → Contains (filter p xs) o ↔ (Contains xs o × (p o ≡ true))
contains_filter p [] o = (λ h. absurd (contains_none o h), λ h. absurd (contains_none o h.0))
contains_filter p (c ∷ xs) o = filter_step p c xs o (p c) refl (contains_filter p xs o)

-- a tuple of some item of a list that is made from another
pub contains_map : {X Y : Type 0} (g : X → Y) (xs : List X) (y : Y) → Contains (map g xs) y ↔ ((x : X) × Contains xs x × (g x ≡ y))
contains_map g [] y = (λ h. absurd (contains_none y h), λ h. absurd (contains_none h.0 h.1))
contains_map {X} {Y} g (z ∷ xs) y =
    let rest = contains_map g xs y in (
      λ h. elim (contains_cases (g z) (map g xs) y h) [
        | inl same ↦ (z, contains_head z xs, same)
        | inr i ↦ let (x, j, e) = rest.0 i in (x, contains_rest z xs x j, e)
      ],
      λ (x, i, e). elim (contains_cases z xs x i) [
        | inl same ↦ (let P : Y → Type 0 = λ u. Contains (g z ∷ map g xs) u in subst P (ap g same ∙ e) (contains_head (g z) (map g xs)))
        | inr j ↦ contains_rest (g z) (map g xs) y (rest.1 (x, j, e))
      ],
    )

pub any-map : {X : Type 0} (f : X → Item) (xs : List X) (tuple : List ℤ) → AnyItem (map f xs) tuple ↔ ((x : X) × Contains xs x × IsOf (f x) tuple)
any-map f [] tuple = (λ h. absurd h, λ h. absurd (contains_none h.0 h.1))
any-map {X} f (x ∷ xs) tuple =
    let rest = any-map f xs tuple in
    let Is : X → Type 0 = λ y. IsOf (f y) tuple in (
      λ h. elim h [
        | inl a ↦ (x, contains_head x xs, a)
        | inr b ↦ let (y, i, k) = rest.0 b in (y, contains_rest x xs y i, k)
      ],
      λ h. elim (contains_cases x xs h.0 h.1) [
        | inl same ↦ inl (subst Is (sym same) h.2)
        | inr i ↦ inr (rest.1 (h.0, i, h.2))
      ],
    )

pub have-map : {X : Type 0} (tracks : List Var) (f : X → Item) (xs : List X) → ((x : X) → Contains xs x → free_vars (f x).formula ≡ tracks) → HaveTracks tracks (map f xs)
have-map tracks f [] h = tt
have-map tracks f (x ∷ xs) h = (h x (contains_head x xs), have-map tracks f xs (λ y i. h y (contains_rest x xs y i)))

any-append : (xs ys : List Item) (tuple : List ℤ) → AnyItem (xs ++ ys) tuple ↔ (AnyItem xs tuple ⊎ AnyItem ys tuple)
any-append [] ys tuple = (λ h. inr h, λ h. elim h [ inl a ↦ absurd a | inr b ↦ b ])
any-append (x ∷ xs) ys tuple =
    let rest = any-append xs ys tuple in (
      λ h. elim h [ inl a ↦ inl (inl a) | inr b ↦ elim (rest.0 b) [ inl c ↦ inl (inr c) | inr d ↦ inr d ] ],
      λ h. elim h [ inl (inl a) ↦ inl a | inl (inr c) ↦ inr (rest.1 (inl c)) | inr d ↦ inr (rest.1 (inr d)) ],
    )

have-append : (tracks : List Var) (xs ys : List Item) → HaveTracks tracks xs → HaveTracks tracks ys → HaveTracks tracks (xs ++ ys)
have-append tracks [] ys h k = k
have-append tracks (x ∷ xs) ys h k = (h.0, have-append tracks xs ys h.1 k)

-- the same for lists that are put together
pub any-flat_map : {X : Type 0} (f : X → List Item) (xs : List X) (tuple : List ℤ) → AnyItem (flat_map f xs) tuple ↔ ((x : X) × Contains xs x × AnyItem (f x) tuple)
any-flat_map f [] tuple = (λ h. absurd h, λ h. absurd (contains_none h.0 h.1))
any-flat_map {X} f (x ∷ xs) tuple =
    let rest = any-flat_map f xs tuple in
    let both = any-append (f x) (flat_map f xs) tuple in
    let Is : X → Type 0 = λ y. AnyItem (f y) tuple in (
      λ h.
          let cases : AnyItem (f x) tuple ⊎ AnyItem (flat_map f xs) tuple = both.0 h in
          elim cases [
            | inl a ↦ (x, contains_head x xs, a)
            | inr b ↦ let (y, i, k) = rest.0 b in (y, contains_rest x xs y i, k)
          ],
      λ h. elim (contains_cases x xs h.0 h.1) [
        | inl same ↦ both.1 (inl (subst Is (sym same) h.2))
        | inr i ↦ both.1 (inr (rest.1 (h.0, i, h.2)))
      ],
    )

pub have-flat_map : {X : Type 0} (tracks : List Var) (f : X → List Item) (xs : List X) → ((x : X) → Contains xs x → HaveTracks tracks (f x)) → HaveTracks tracks (flat_map f xs)
have-flat_map tracks f [] h = tt
have-flat_map tracks f (x ∷ xs) h = have-append tracks (f x) (flat_map f xs) (h x (contains_head x xs)) (have-flat_map tracks f xs (λ y i. h y (contains_rest x xs y i)))
