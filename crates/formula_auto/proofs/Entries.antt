-- Entries of formulas as contracts see them.
use Rattle.std.proofs.Common.{◌≡◌, ◌≢◌, ℕ, ◌<◌, ◌≤◌, ◌++◌, List, [], ◌∷◌, map, take, get_or, length, Some, refl, sym, ap, ◌∙◌, subst, arith, length-append}
use Rattle.std.specs.List.{Contains, All, slice_get}
use Rattle.std.specs.Option.{option_map}
use Rattle.std.proofs.lemmas.Option.{slice_get-map, slice_get_within, slice_get-get_or, get_or_from_slice_get, slice_get_read}
use Rattle.std.proofs.lemmas.List.{map-append, take_all}
use Rattle.std.proofs.lemmas.List.Elements.{All-append, All-cons, All-map, All-contains}
use Rattle.std.proofs.Math.Seq.{get_or-append_seam}
use Rattle.auto_core.specs.Automaton.{Automaton}
use Rattle.lin_formula.specs.Tree.{Tree}
use Rattle.lin_formula.specs.TreeOf.{tree_of}
use Rattle.lin_formula.specs.declared.formula.Formula.{Formula}
use Rattle.formula_auto.specs.declared.entry.MemoEntry.{MemoEntry}
use Rattle.formula_auto.specs.EntryOf.{entry_of, IsPlaceOf}

abbrev pub tree_in : Formula × Automaton → Tree
tree_in entry = tree_of entry.0

-- no entry before a place has the formula
abbrev pub None_of : Tree → List MemoEntry → Type 0
None_of f entries = All (λ entry. tree_of entry.formula ≢ f) entries

pub none_at_end : (entries : List MemoEntry) (f : Tree) (place : ℕ) → length entries ≤ place → None_of f (take place entries) → None_of f entries
none_at_end entries f place past none = subst (None_of f) (take_all place entries past) none

pub found_at : (entries : List MemoEntry) (f : Tree) (place : ℕ) (entry : MemoEntry) → place < length entries
    → entry ≡ get_or entries place entry → tree_of entry.formula ≡ f → IsPlaceOf entries f place
found_at entries f place entry within is same = record {
  entry = entry;
  there = slice_get_read entries (length entries) place entry refl within is;
  same = same;
}

-- where no entry has the formula, it is not known
pub not_known : (items : List MemoEntry) (f : Tree) → None_of f items → Contains (map tree_in (map entry_of items)) f → ⊥
not_known items f none there =
    let trees : All (λ t. t ≢ f) (map tree_in (map entry_of items)) =
    All-map (λ t. t ≢ f) tree_in (map entry_of items) (All-map (λ (en : Formula × Automaton). tree_in en ≢ f) entry_of items none) in
    All-contains (λ t. t ≢ f) (map tree_in (map entry_of items)) f trees there refl

module _ {items : List MemoEntry} {f : Tree} {place : ℕ} (at : IsPlaceOf items f place) where
  pub mapped_there : slice_get (map entry_of items) place ≡ Some (entry_of at.entry)
  mapped_there = slice_get-map entry_of items place ∙ ap (option_map entry_of) at.there

  -- what is true of all entries is true of that one
  pub mapped_all : (P : Formula × Automaton → Type 0) → All P (map entry_of items) → P (entry_of at.entry)
  mapped_all P all =
      let within : place < length (map entry_of items) = slice_get_within (map entry_of items) place (entry_of at.entry) mapped_there in
      subst P (get_or_from_slice_get (map entry_of items) place (entry_of at.entry) (entry_of at.entry) mapped_there) (all place (entry_of at.entry) within)

pub get-last : {X : Type 0} (xs : List X) (x : X) (place : ℕ) → length xs ≡ place → slice_get (xs ++ x ∷ []) place ≡ Some x
get-last {X = X} xs x place size =
    slice_get-get_or (xs ++ x ∷ []) place x (let longer = length-append xs (x ∷ []) in omega (arith, size, longer))
    ∙ ap (λ (y : X). Some y) (subst (λ k. get_or (xs ++ x ∷ []) k x ≡ x) size (get_or-append_seam xs x [] x))

-- one more entry
module _ (items longer : List MemoEntry) (en : MemoEntry) (pushed : longer ≡ items ++ en ∷ []) where
  pub entries_is : map entry_of longer ≡ map entry_of items ++ entry_of en ∷ []
  entries_is = ap (map entry_of) pushed ∙ map-append entry_of items (en ∷ [])

  pub all_pushed : (P : Formula × Automaton → Type 0) → All P (map entry_of items) → P (entry_of en) → All P (map entry_of longer)
  all_pushed P all one =
      subst (All P) (sym entries_is) (All-append P (map entry_of items) (entry_of en ∷ []) all (All-cons P (entry_of en) [] one (λ k d within. absurd (omega arith))))

  pub last_pushed : (place : ℕ) → length (map entry_of items) ≡ place → (f : Formula) × (slice_get (map entry_of longer) place ≡ Some (f, en.auto))
  last_pushed place here =
      (en.formula, subst (λ es. slice_get es place ≡ Some (entry_of en)) (sym entries_is) (get-last (map entry_of items) (entry_of en) place here))
