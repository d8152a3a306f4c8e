-- Items over a table of sets, and the same items over sets of their own.
use Rattle.std.proofs.Common.{◌≡◌, ℕ, zero, suc, List, [], ◌∷◌, ◌++◌, map, refl, sym, ap, subst, inl, inr}
use Rattle.std.specs.List.{flat_map}
use Rattle.auto_core.specs.Automaton.{Automaton}
use Rattle.lin_formula.specs.Tree.{Tree}
use Rattle.lin_formula.specs.SetOf.{SetOf, Nothing, IsEmpty, SomeEmpty, tables}
use Rattle.set_plan.specs.Program.{Item}
use Rattle.set_plan.specs.Relabel.{relabel}
use Rattle.set_plan.specs.Same.{IsLacking, SameItem, Thinned}
use Rattle.set_plan.specs.Sets.{item_of}
use Rattle.set_plan.specs.Unite.{positives, two}
use Rattle.set_plan.proofs.SameSets.{SameItem-relabel}

-- a formula over one set
pub same_one : (sets : List Automaton) (f : ℕ → Tree) → ((name : ℕ → ℕ) (k : ℕ) → relabel name (f k) ≡ f (name k)) → (source : ℕ)
    → SameItem (item_of sets (f source)) (record { formula = f 0; sets = λ _. tables sets source })
same_one sets f relabels source =
    let named : relabel (λ _. source) (f 0) ≡ f source = relabels (λ _. source) 0 in
    let Is : Tree → Type 0 = λ t. SameItem (item_of sets t) (record { formula = f 0; sets = λ _. tables sets source }) in
    subst Is named (SameItem-relabel (λ _. source) (tables sets) (f 0))

-- two numbers
abbrev pick : ℕ → ℕ → ℕ → ℕ
pick a b zero = a
pick a b (suc k) = b

picked : (sets : List Automaton) (a b k : ℕ) → tables sets (pick a b k) ≡ two (tables sets a) (tables sets b) k
picked sets a b zero = refl
picked sets a b (suc k) = refl

-- a formula over two sets
pub same_two : (sets : List Automaton) (f : ℕ → ℕ → Tree) → ((name : ℕ → ℕ) (k l : ℕ) → relabel name (f k l) ≡ f (name k) (name l))
    → (source target : ℕ)
    → SameItem (item_of sets (f source target)) (record { formula = f 0 1; sets = two (tables sets source) (tables sets target) })
same_two sets f relabels source target =
    let named : relabel (pick source target) (f 0 1) ≡ f source target = relabels (pick source target) 0 1 in
    let Is : Tree → Type 0 = λ t. SameItem (item_of sets t) (record { formula = f 0 1; sets = λ k. tables sets (pick source target k) }) in
    let there : SameItem (item_of sets (f source target)) (record { formula = f 0 1; sets = λ k. tables sets (pick source target k) }) =
    subst Is named (SameItem-relabel (pick source target) (tables sets) (f 0 1)) in
    let both : (λ k. tables sets (pick source target k)) ≡ two (tables sets source) (tables sets target) = λ i k. picked sets source target k i in
    let Over : (ℕ → SetOf) → Type 0 = λ e. SameItem (item_of sets (f source target)) (record { formula = f 0 1; sets = e }) in
    subst Over both there

-- an item that lacks its set, or one of its two sets
pub lacks_one : (f : Tree) (s : SetOf) (k : ℕ) → positives f ≡ k ∷ [] → IsEmpty s → IsLacking (record { formula = f; sets = λ _. s })
lacks_one f s k e empty =
    let Is : List ℕ → Type 0 = λ l. SomeEmpty (map (λ _. s) l) in
    subst Is (sym e) (inl empty)

pub lacks_first : (f : Tree) (s t : SetOf) → positives f ≡ 0 ∷ 1 ∷ [] → IsEmpty s → IsLacking (record { formula = f; sets = two s t })
lacks_first f s t e empty =
    let Is : List ℕ → Type 0 = λ l. SomeEmpty (map (two s t) l) in
    subst Is (sym e) (inl empty)

pub lacks_second : (f : Tree) (s t : SetOf) → positives f ≡ 0 ∷ 1 ∷ [] → IsEmpty t → IsLacking (record { formula = f; sets = two s t })
lacks_second f s t e empty =
    let Is : List ℕ → Type 0 = λ l. SomeEmpty (map (two s t) l) in
    subst Is (sym e) (inr (inl empty))

pub nothing_empty : IsEmpty Nothing
nothing_empty tuple h = h

-- lists of which some items may be missing
pub thinned-append : (is js ks ls : List Item) → Thinned is js → Thinned ks ls → Thinned (is ++ ks) (js ++ ls)
thinned-append is [] ks ls e more =
    let Is : List Item → Type 0 = λ l. Thinned (l ++ ks) ls in
    subst Is (sym e) more
thinned-append is (j ∷ js) ks ls (inl (lacks, thin)) more = inl (lacks, thinned-append is js ks ls thin more)
thinned-append is (j ∷ js) ks ls (inr (i, rest, e, same, thin)) more = inr (i, rest ++ ks, ap (λ (l : List Item). l ++ ks) e, same, thinned-append rest js ks ls thin more)

items-append : (sets : List Automaton) (fs gs : List Tree) → map (item_of sets) (fs ++ gs) ≡ map (item_of sets) fs ++ map (item_of sets) gs
items-append sets [] gs = refl
items-append sets (f ∷ fs) gs = ap (λ (l : List Item). item_of sets f ∷ l) (items-append sets fs gs)

module _ {X : Type 0} (sets : List Automaton) where
  pub thinned-map : (g : X → Tree) (h : X → Item) (xs : List X) → ((x : X) → SameItem (item_of sets (g x)) (h x)) → Thinned (map (item_of sets) (map g xs)) (map h xs)
  thinned-map g h [] same = refl
  thinned-map g h (x ∷ xs) same = inr (item_of sets (g x), map (item_of sets) (map g xs), refl, same x, thinned-map g h xs same)

  pub thinned-none : (h : X → Item) (xs : List X) → ((x : X) → IsLacking (h x)) → Thinned [] (map h xs)
  thinned-none h [] lacks = refl
  thinned-none h (x ∷ xs) lacks = inl (lacks x, thinned-none h xs lacks)

  pub thinned-flat_map : (g : X → List Tree) (h : X → List Item) (xs : List X)
      → ((x : X) → Thinned (map (item_of sets) (g x)) (h x))
      → Thinned (map (item_of sets) (flat_map g xs)) (flat_map h xs)
  thinned-flat_map g h [] thin = refl
  thinned-flat_map g h (x ∷ xs) thin =
      let Is : List Item → Type 0 = λ l. Thinned l (h x ++ flat_map h xs) in
      subst Is (sym (items-append sets (g x) (flat_map g xs)))
      (thinned-append (map (item_of sets) (g x)) (h x) (map (item_of sets) (flat_map g xs)) (flat_map h xs) (thin x) (thinned-flat_map g h xs thin))

  -- one item or none for each of a list
  pub thinned-each : (g : X → List Tree) (h : X → Item) (xs : List X) → ((x : X) → Thinned (map (item_of sets) (g x)) (h x ∷ [])) → Thinned (map (item_of sets) (flat_map g xs)) (map h xs)
  thinned-each g h [] thin = refl
  thinned-each g h (x ∷ xs) thin =
      let Is : List Item → Type 0 = λ l. Thinned l (h x ∷ map h xs) in
      subst Is (sym (items-append sets (g x) (flat_map g xs)))
      (thinned-append (map (item_of sets) (g x)) (h x ∷ []) (map (item_of sets) (flat_map g xs)) (map h xs) (thin x) (thinned-each g h xs thin))
