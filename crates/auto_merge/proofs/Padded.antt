-- Sums of marks over lists, past whose ends there is none.
use Rattle.std.proofs.Common.{◌≡◌, ◌≢◌, ℕ, zero, suc, ◌<◌, ◌≤◌, ◌+◌, Bool, true, false, List, [], ◌∷◌, length, set, get_or, nat_eq, arith, refl, ap, ◌∙◌, inl, inr, if◌then◌else◌}
use Rattle.std.specs.List.{sum_by}
use Rattle.std.proofs.lemmas.Bool.{cases_eq, cases_lt}
use Rattle.std.proofs.lemmas.List.{get_or_past, get_or-set_same, get_or-set_other, length-set}
use Rattle.std.proofs.lemmas.List.Sums.{sum_by-cons, sum_by-set, get_or-le-sum_by, sum_by-le}
use Rattle.std.proofs.lemmas.Grind.{common_steps}
use Rattle.auto_merge.specs.declared.keys.TheConstants.{NO_CLASS}
use Rattle.auto_merge.specs.Keys.{class_in}
use Rattle.auto_merge.specs.Merging.{classed_count, IsRoomMade, IsClassGiven}
use Rattle.auto_merge.specs.Walk.{number_in, entered_count, IsEntered}
use Rattle.auto_merge.specs.Walk.{IsRoomMade as IsEnteredRoom}

-- ---- sums of marks that grow

module _ {X : Type 0} (f : X → ℕ) (d : X) (none : f d ≡ 0) where
  pub sum_by-le-each : (xs ys : List X) → ((k : ℕ) → f (get_or xs k d) ≤ f (get_or ys k d)) → sum_by f xs ≤ sum_by f ys
  sum_by-le-each [] ys each = omega arith
  sum_by-le-each (x ∷ xs) [] each =
      let head = each 0 in
      let rest = sum_by-le-each xs [] (λ k. each (suc k)) in
      let both = sum_by-cons f x xs in
      omega (arith, head, rest, both, none)
  sum_by-le-each (x ∷ xs) (y ∷ ys) each =
      let head = each 0 in
      let rest = sum_by-le-each xs ys (λ k. each (suc k)) in
      let both = sum_by-cons f x xs in
      let both' = sum_by-cons f y ys in
      omega (arith, head, rest, both, both')

  pub sum_by-lt-each : (xs ys : List X) (n : ℕ) → ((k : ℕ) → f (get_or xs k d) ≤ f (get_or ys k d)) → f (get_or xs n d) < f (get_or ys n d) → sum_by f xs < sum_by f ys
  sum_by-lt-each xs [] n each more = absurd (let m : f (get_or xs n d) < f d = more in omega (arith, m, none))
  sum_by-lt-each [] (y ∷ ys) n each more = elim (cases_lt n (length (y ∷ ys))) [
    | inl within ↦ let there = get_or-le-sum_by f (y ∷ ys) n d within in let m : f d < f (get_or (y ∷ ys) n d) = more in omega (arith, there, m)
    | inr past ↦ let m : f d < f (get_or (y ∷ ys) n d) = more in let e = ap f (get_or_past (y ∷ ys) n d past) in absurd (omega (arith, m, e))
  ]
  sum_by-lt-each (x ∷ xs) (y ∷ ys) zero each more =
      let head : f x < f y = more in
      let rest = sum_by-le-each xs ys (λ k. each (suc k)) in
      let both = sum_by-cons f x xs in
      let both' = sum_by-cons f y ys in
      omega (arith, head, rest, both, both')
  sum_by-lt-each (x ∷ xs) (y ∷ ys) (suc n) each more =
      let head : f x ≤ f y = each 0 in
      let rest = sum_by-lt-each xs ys n (λ k. each (suc k)) more in
      let both = sum_by-cons f x xs in
      let both' = sum_by-cons f y ys in
      omega (arith, head, rest, both, both')

-- ---- classes

-- 1 for a class
abbrev mark : ℕ → ℕ
mark class = if nat_eq class NO_CLASS then 0 else 1

mark_some : (class : ℕ) → class ≢ NO_CLASS → mark class ≡ 1
mark_some class some = by (nat_eq class NO_CLASS) refl
  where
    by : (b : Bool) → nat_eq class NO_CLASS ≡ b → mark class ≡ 1
    by true e = absurd (some (grind (arith, common_steps, e)))
    by false e = let number : Bool → ℕ = λ b. if b then 0 else 1 in ap number e

mark_none : mark NO_CLASS ≡ 0
mark_none = refl

mark_few : (class : ℕ) → mark class ≤ 1
mark_few class = by (nat_eq class NO_CLASS)
  where
    by : (b : Bool) → (if b then 0 else 1) ≤ 1
    by true = omega arith
    by false = omega arith

-- a class that is given where none was is one more
pub classed_grown : (old new : List ℕ) (number : ℕ) → ((k : ℕ) → class_in old k ≢ NO_CLASS → class_in new k ≢ NO_CLASS) → class_in old number ≡ NO_CLASS → class_in new number ≢ NO_CLASS
    → classed_count old < classed_count new
classed_grown old new number keeps none some = sum_by-lt-each mark NO_CLASS mark_none old new number each (let e = ap mark none in let one = mark_some (class_in new number) some in omega (arith, e, one, mark_none))
  where
    each : (k : ℕ) → mark (class_in old k) ≤ mark (class_in new k)
    each k = elim (cases_eq (class_in old k) NO_CLASS) [
      | inl is ↦ let e = ap mark is in omega (arith, e, mark_none)
      | inr other ↦ let one = mark_some (class_in new k) (keeps k other) in let few = mark_few (class_in old k) in omega (arith, one, few)
    ]

pub classed_count_few : (table : List ℕ) → classed_count table ≤ length table
classed_count_few table = let le = sum_by-le mark 1 table (λ k d h. mark_few (get_or table k d)) in omega (arith, le)

-- a class is written where there is room
pub IsClassGiven-set : (old room : List ℕ) (number class : ℕ) → IsRoomMade old room (number + 1) → ((k : ℕ) → class_in room k ≡ class_in old k) → class_in old number ≡ NO_CLASS → class ≢ NO_CLASS
    → IsClassGiven old (set room number class) number class
IsClassGiven-set old room number class made same none some =
    let enough = made.room in
    let within : number < length room = omega (arith, enough) in
    let written = sum_by-set mark room number class NO_CLASS within in
    let before = ap mark (same number ∙ none) in
    let after = mark_some class some in
    let counted = made.counted in
    record {
      few = λ bound first below. let few = made.few bound first (omega (arith, below)) in let size = length-set room number class in omega (arith, few, size);
      here = get_or-set_same room number class NO_CLASS within;
      others = λ other ne. get_or-set_other room number other class NO_CLASS ne ∙ same other;
      more = omega (arith, written, before, after, counted, mark_none);
    }

-- ---- numbers that were entered

pub entered_few : (entered : List Bool) → entered_count entered ≤ length entered
entered_few entered = let le = sum_by-le number_in 1 entered (λ k d h. one (get_or entered k d)) in omega (arith, le)
  where
    one : (b : Bool) → number_in b ≤ 1
    one true = omega arith
    one false = omega arith

-- a number is entered where there is room
pub IsEntered-set : (old room : List Bool) (number : ℕ) (was : Bool) → IsEnteredRoom old room (number + 1) → get_or room number false ≡ was → (is_new : Bool) → (is_new ≡ true → was ≡ false) → (is_new ≡ false → was ≡ true)
    → IsEntered old (set room number true) number is_new
IsEntered-set old room number was made at is_new is_true is_false =
    let enough = made.room in
    let within : number < length room = omega (arith, enough) in
    let written = sum_by-set number_in room number true false within in
    let counted = made.counted in
    record {
      few = λ bound first below. let few = made.few bound first (omega (arith, below)) in let size = length-set room number true in omega (arith, few, size);
      new_counted = λ e. let m : number_in (get_or room number false) ≡ 0 = ap number_in (at ∙ is_true e) in omega (arith, written, counted, m);
      old_counted = λ e. let m : number_in (get_or room number false) ≡ 1 = ap number_in (at ∙ is_false e) in omega (arith, written, counted, m);
    }
