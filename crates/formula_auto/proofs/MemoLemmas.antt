-- What compiling does to a memo.
use Rattle.std.proofs.Common.{◌≡◌, ℕ, ◌+◌, ◌-◌, ◌≤◌, ◌<◌, ◌^◌, Bool, true, false, ◌&&◌, nat_eq, nat_lt, if◌then◌else◌, List, [], ◌∷◌, ◌++◌, map, get_or, length, None, Some, refl, sym, ap, ◌∙◌, subst, inl, inr, arith, length-append, append-nil}
use Rattle.std.specs.List.{Contains, slice_get}
use Rattle.std.specs.Prelude.{Option, IfNone, IfSome, MatchOption}
use Rattle.std.proofs.lemmas.Option.{slice_get_within, get_or_from_slice_get}
use Rattle.lin_formula.specs.TreeOf.{tree_of}
use Rattle.formula_auto.specs.declared.entry.MemoEntry.{MemoEntry}
use Rattle.formula_auto.specs.EntryOf.{entry_of, IsPlaceOf}
use Rattle.std.proofs.lemmas.List.{map-append, length-map}
use Rattle.std.proofs.Math.ListN.{get_or-map}
use Rattle.auto_core.specs.Automaton.{Automaton}
use Rattle.auto_core.specs.Reduced.{IsReduced}
use Rattle.lin_formula.specs.Tree.{Tree, Lin, Value, Among, Not, And, Or, Ex, symbols, steps}
use Rattle.lin_formula.specs.declared.formula.Formula.{Formula}
use Rattle.lin_formula.specs.SetOf.{SetOf, members}
use Rattle.formula_auto.specs.Compiled.{IsMade, IsCompileError}
use Rattle.formula_auto.specs.PlainParts.{is_plain, plain_within, plain_parts}
use Rattle.formula_auto.specs.Recalled.{is_recalled, recalled_within, recalled_parts}
use Rattle.formula_auto.specs.MemoState.{MemoState, IsEntry, IsMemo, IsEntryAt, known, counted, with_entry, IsMemoAfter}
use Rattle.formula_auto.specs.Remembered.{IsStopped}
use Rattle.formula_auto.specs.declared.standing.PartPosition.{PartPosition}
use Rattle.formula_auto.specs.declared.standing.Recall.{Recall}
use Rattle.formula_auto.specs.declared.standing.Recall.TheVariants.{Plain, Nothing}
use Rattle.formula_auto.specs.declared.errors.CompileError.{CompileError}
use Rattle.formula_auto.specs.declared.errors.CompileError.TheVariants.{Over, Memory}
use Rattle.formula_auto.proofs.NoSets.{Decides-no_set, steps-no_set, FirstOver-no_set, FirstOver-number}
use Rattle.formula_auto.proofs.Entries.{tree_in, None_of, not_known, mapped_there, mapped_all, entries_is, all_pushed, last_pushed}
use Rattle.formula_auto.proofs.PlainLemmas.{plain_later, plain_whole, within-zero, within-all, recalled-zero}

and_left : (a b : Bool) → (a && b) ≡ true → a ≡ true
and_left true b h = refl
and_left false b h = cc

pub no_member : (xs : List ℕ) → nat_eq (length xs) 0 ≡ true → xs ≡ []
no_member [] h = refl
no_member (x ∷ xs) h = absurd (grind arith)

pub plain-no_set : (f : Tree) → is_plain f ≡ true → symbols f ≡ []
plain-no_set f h = no_member (symbols f) (and_left (nat_eq (length (symbols f)) 0) (nat_lt 0 (length (steps f))) h)

pub plain-later : (f : Tree) (n : ℕ) → is_plain f ≡ true → n < length (steps f) → plain_within f n ≡ []
plain-later (Lin terms rel bound) n h less = refl
plain-later (Value x k) n h less = refl
plain-later (Among set vars) n h less = refl
plain-later (Not f) n h less = plain_later (Not f) n _ h less
plain-later (And f g) n h less = plain_later (And f g) n _ h less
plain-later (Or f g) n h less = plain_later (Or f g) n _ h less
plain-later (Ex x f) n h less = plain_later (Ex x f) n _ h less

pub plain-itself : (f : Tree) → is_plain f ≡ true → plain_parts f ≡ f ∷ []
plain-itself (Lin terms rel bound) h = cc
plain-itself (Value x k) h = cc
plain-itself (Among set vars) h = cc
plain-itself (Not f) h = plain_whole (Not f) (length (steps (Not f))) _ h (omega arith)
plain-itself (And f g) h = plain_whole (And f g) (length (steps (And f g))) _ h (omega arith)
plain-itself (Or f g) h = plain_whole (Or f g) (length (steps (Or f g))) _ h (omega arith)
plain-itself (Ex x f) h = plain_whole (Ex x f) (length (steps (Ex x f))) _ h (omega arith)

-- without a step there is no plain part
pub stepless : (f : Tree) (n : ℕ) → steps f ≡ [] → plain_within f n ≡ []
stepless f n none =
    let size : length (steps f) ≡ 0 = ap length none in
    within-all f n 0 (omega arith) (omega arith) ∙ within-zero f

module _ (f : Tree) (e : ℕ → SetOf) (before budget : ℕ) (a : Automaton) where
  -- what is made of a plain formula may be entered, once it is reduced
  pub entry_of-made : is_plain f ≡ true → IsReduced a → length a.accept ≤ budget → IsMade f e before budget a → IsEntry budget f a
  entry_of-made plain reduced few made = record {
    plain = plain;
    reduced = reduced;
    few = few;
    decides = λ d. Decides-no_set (members d) (plain-no_set f plain) made.decides;
    within = λ d. FirstOver-no_set (steps f) (members e) (members d) budget (before + 1) 1 (steps-no_set f (plain-no_set f plain)) made.within;
  }

  -- and what was entered serves again
  pub made-of_entry : IsEntry budget f a → IsMade f e before budget a
  made-of_entry entry = record {
    decides = entry.decides e;
    within = FirstOver-no_set (steps f) (members e) (members e) budget 1 (before + 1) (steps-no_set f (plain-no_set f entry.plain)) (entry.within e);
  }

-- what is looked up of a formula that is looked up itself
pub recalled-itself : (r : Recall) (f : Tree) → is_recalled r f ≡ true → recalled_parts r f ≡ f ∷ []
recalled-itself Plain f h = plain-itself f h
recalled-itself Nothing f h = absurd (cc)

pub recalled-later : (r : Recall) (f : Tree) (n : ℕ) → is_recalled r f ≡ true → n < length (steps f) → recalled_within r f n ≡ []
recalled-later Plain f n h less = plain-later f n h less
recalled-later Nothing f n h less = refl

pub recalled-plain : (r : Recall) (f : Tree) → is_recalled r f ≡ true → is_plain f ≡ true
recalled-plain Plain f h = h
recalled-plain Nothing f h = absurd (cc)

-- without a step there is nothing to look up
pub recalled-stepless : (r : Recall) (f : Tree) (n : ℕ) → steps f ≡ [] → recalled_within r f n ≡ []
recalled-stepless Plain f n none = stepless f n none
recalled-stepless Nothing f n none = refl

module _ {standing : PartPosition} {f : Tree} {old new : MemoState} where
  -- memory ran out before a step of the formula
  pub stopped-memory : IsMemoAfter old new [] → IsStopped f standing old new Memory
  stopped-memory after = record {
    done = 0;
    few = omega arith;
    number = λ step over. cc;
    after = subst (IsMemoAfter old new) (sym (recalled-zero standing.recall f)) after;
  }

  -- it was to be entered, and nothing of its parts was looked up
  pub stopped-inside : (e : ℕ → SetOf) {why : CompileError} → is_recalled standing.recall f ≡ true → IsCompileError f e standing.before old.budget why
      → IsStopped f (record standing { recall = Nothing }) old new why → IsStopped f standing old new why
  stopped-inside e {why = Over step} recalled error h =
      let number = FirstOver-number (steps f) (members e) old.budget (standing.before + 1) step error in
      let at = h.number step refl in
      record {
        done = h.done;
        few = h.few;
        number = h.number;
        after = subst (IsMemoAfter old new) (sym (recalled-later standing.recall f h.done recalled (omega (arith, number, at)))) h.after;
      }
  stopped-inside e {why = Memory} recalled error h = stopped-memory h.after

-- a formula that is known
pub after-known : (m : MemoState) (f : Tree) → Contains (known m) f → IsMemoAfter m (record m { found = counted m.found }) (f ∷ [])
after-known m f there = record {
  budget = refl;
  added = [];
  entries = sym (append-nil m.entries);
  passes = inl (there, (refl, refl));
}

map-chosen : (b : Bool) (entries : List (Formula × Automaton)) (entry : Formula × Automaton)
    → map tree_in (if b then entries ++ entry ∷ [] else entries) ≡ (if b then map tree_in entries ++ tree_in entry ∷ [] else map tree_in entries)
map-chosen true entries entry = map-append tree_in entries (entry ∷ [])
map-chosen false entries entry = refl

map-with_entry : (entries : List (Formula × Automaton)) (entry : Formula × Automaton) → map tree_in (with_entry entries entry) ≡ with_entry (map tree_in entries) (tree_in entry)
map-with_entry entries entry =
    let size : length (map tree_in entries) ≡ length entries = length-map entries tree_in in
    rw size (map-chosen (nat_lt (length entries) (2 ^ 32 - 1)) entries entry)

added_one : (b : Bool) (entries : List (Formula × Automaton)) (entry : Formula × Automaton) → (if b then entries ++ entry ∷ [] else entries) ≡ entries ++ (if b then entry ∷ [] else [])
added_one true entries entry = refl
added_one false entries entry = sym (append-nil entries)

-- a formula that was entered
after-with_entry : (m : MemoState) (f : Formula) (a : Automaton) → (Contains (known m) (tree_of f) → ⊥) → IsMemoAfter m (record m { entries = with_entry m.entries (f, a) }) (tree_of f ∷ [])
after-with_entry m f a unknown = record {
  budget = refl;
  added = if nat_lt (length m.entries) (2 ^ 32 - 1) then (f, a) ∷ [] else [];
  entries = added_one (nat_lt (length m.entries) (2 ^ 32 - 1)) m.entries (f, a);
  passes = inr (unknown, (map-with_entry m.entries (f, a), refl));
}

-- a formula is known where it has an entry
pub known-at : (m : MemoState) (f : Tree) (place : ℕ) → IsEntryAt m f place → Contains (known m) f
known-at m f place at =
    let entry : Formula × Automaton = (at.formula, at.auto) in
    let within : place < length m.entries = slice_get_within m.entries place entry at.there in
    let size : length (known m) ≡ length m.entries = length-map m.entries tree_in in
    let tree : get_or (known m) place (tree_in entry) ≡ tree_in entry = get_or-map tree_in m.entries place entry ∙ ap tree_in (get_or_from_slice_get m.entries place entry entry at.there) in
    subst (Contains (known m)) at.same (place, omega (arith, size, within), tree)

-- the fields of a memo as contracts see them
abbrev pub state_of : ℕ → List MemoEntry → ℕ → MemoState
state_of budget items found = record { budget = budget; entries = map entry_of items; found = found }

module _ (budget found : ℕ) (items fields : List MemoEntry) (m : MemoState) (same_items : items ≡ fields) (view_is : state_of budget fields found ≡ m) where
  view : state_of budget items found ≡ m
  view = subst (λ l. state_of budget l found ≡ m) (sym same_items) view_is

  one_found : {f : Tree} {k : ℕ} → IsMemo (state_of budget fields found) → IsPlaceOf items f k → IsEntryAt m f k
  one_found {k} memo_fields at =
      let memo : IsMemo (state_of budget items found) = subst (λ l. IsMemo (state_of budget l found)) (sym same_items) memo_fields in
      let here : IsEntryAt (state_of budget items found) (tree_of at.entry.formula) k = record {
        formula = at.entry.formula;
        auto = at.entry.auto;
        there = mapped_there at;
        same = refl;
        entry = mapped_all at (λ entry. IsEntry budget (tree_of entry.0) entry.1) memo.entries;
      } in
      subst (λ t. IsEntryAt m t k) at.same (subst (λ n. IsEntryAt n (tree_of at.entry.formula) k) view here)

  pub found_or_not : (f : Tree) (place : Option ℕ) → IsMemo (state_of budget fields found) → IfNone place (None_of f items) → IfSome place (IsPlaceOf items f)
      → MatchOption place (Contains (known m) f → ⊥) (IsEntryAt m f)
  found_or_not f None memo none some = λ there. not_known items f none (subst (λ n. Contains (known n) f) (sym view) there)
  found_or_not f (Some k) memo none some = one_found memo some

module _ (budget found : ℕ) (items longer : List MemoEntry) (m : MemoState) (en : MemoEntry) (f : Tree) (view : state_of budget items found ≡ m) (pushed : longer ≡ items ++ en ∷ [])
    (some_room : length m.entries < 2 ^ 32 - 1) (tree : tree_of en.formula ≡ f) where
  entries_are : map entry_of longer ≡ map entry_of items ++ entry_of en ∷ []
  entries_are = entries_is items longer en pushed

  room : length (map entry_of items) < 2 ^ 32 - 1
  room = subst (λ n. length n.entries < 2 ^ 32 - 1) (sym view) some_room

  -- with one more entry it is a memo still
  pub memo-entered : IsMemo (state_of budget items found) → IsEntry m.budget f en.auto → IsMemo (state_of budget longer found)
  memo-entered memo entry =
      let P : Formula × Automaton → Type 0 = λ e. IsEntry budget (tree_of e.0) e.1 in
      let here : IsEntry budget f en.auto = subst (λ n. IsEntry n.budget f en.auto) (sym view) entry in
      let there : P (entry_of en) = subst (λ t. IsEntry budget t en.auto) (sym tree) here in
      let size : length (map entry_of longer) ≡ length (map entry_of items) + 1 = ap length entries_are ∙ length-append (map entry_of items) (entry_of en ∷ []) in
      record {
        least = memo.least;
        most = memo.most;
        few = omega (arith, size, room);
        entries = all_pushed items longer en pushed P memo.entries there;
      }

  -- at its end is the new entry
  pub last-entered : (place : ℕ) → place ≡ length m.entries → (f : Formula) × (slice_get (map entry_of longer) place ≡ Some (f, en.auto))
  last-entered place here =
      let size : length (map entry_of items) ≡ place = ap (λ n. length n.entries) view ∙ sym here in
      last_pushed items longer en pushed place size

  -- and the formula has passed
  pub after-entered : (Contains (known m) f → ⊥) → IsMemoAfter m (state_of budget longer found) (f ∷ [])
  after-entered unknown =
      let old : MemoState = state_of budget items found in
      let new_to : Contains (known old) (tree_of en.formula) → ⊥ = subst (λ t. Contains (known old) t → ⊥) (sym tree) (subst (λ n. Contains (known n) f → ⊥) (sym view) unknown) in
      let yes : nat_lt (length (map entry_of items)) (2 ^ 32 - 1) ≡ true = (let fits = room in grind (arith, fits)) in
      let entered : with_entry (map entry_of items) (entry_of en) ≡ map entry_of longer =
      ap (λ b. if b then map entry_of items ++ entry_of en ∷ [] else map entry_of items) yes ∙ sym entries_are in
      let after : IsMemoAfter old (record { budget = budget; entries = with_entry (map entry_of items) (entry_of en); found = found }) (tree_of en.formula ∷ []) =
      after-with_entry old en.formula en.auto new_to in
      let whole : IsMemoAfter old (state_of budget longer found) (tree_of en.formula ∷ []) =
      subst (λ es. IsMemoAfter old (record { budget = budget; entries = es; found = found }) (tree_of en.formula ∷ [])) entered after in
      subst (λ t. IsMemoAfter m (state_of budget longer found) (t ∷ [])) tree (subst (λ n. IsMemoAfter n (state_of budget longer found) (tree_of en.formula ∷ [])) view whole)

-- a full memo takes no entry
pub after-full : (m : MemoState) (f : Tree) → length m.entries ≡ 2 ^ 32 - 1 → (Contains (known m) f → ⊥) → IsMemoAfter m m (f ∷ [])
after-full m f full unknown =
    let size : length (known m) ≡ length m.entries = length-map m.entries tree_in in
    let no : nat_lt (length (known m)) (2 ^ 32 - 1) ≡ false = grind (arith, size, full) in
    record {
      budget = refl;
      added = [];
      entries = sym (append-nil m.entries);
      passes = inr (unknown, (ap (λ b. if b then known m ++ f ∷ [] else known m) (sym no), refl));
    }
