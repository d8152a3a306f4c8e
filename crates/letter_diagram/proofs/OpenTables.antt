-- What an open table finds, and how items are added to it.
use Rattle.std.proofs.Common.{◌≡◌, ℕ, ◌<◌, ◌≤◌, ◌+◌, ◌^◌, take, refl, List, [], ◌∷◌, ◌++◌, length, get_or, slice_get, Some, arith, sym, ap, ◌∙◌, subst, inl, inr, ◌⊎◌, Contains}
use Rattle.std.proofs.Math.ListN.{set, replicate, length-set}
use Rattle.std.proofs.Math.Seq.{take-length}
use Rattle.std.proofs.lemmas.List.{take-append-le, length-append, length_push, length-replicate, length-take-le, get_or-set_same, get_or-set_other, get_or-replicate, get_or_push, take_more}
use Rattle.std.proofs.lemmas.Bool.{cases_eq, cases_lt}
use Rattle.std.proofs.lemmas.Option.{slice_get-get_or}
use Rattle.letter_diagram.specs.Probing.{place_of}
use Rattle.letter_diagram.specs.OpenTable.{free, number_at, IsMet, IsHashed, IsFirstFree}
use Rattle.letter_diagram.proofs.Added.{get-push}

-- a number that is put into a slot is met where that slot was met, and nowhere else
number_at-set : (slots : List ℕ) (place number start step : ℕ) → place < length slots
    → ((number_at (set slots place number) start step ≡ number) × (number_at slots start step ≡ get_or slots place 0))
    ⊎ (number_at (set slots place number) start step ≡ number_at slots start step)
number_at-set slots place number start step within =
    let size : number_at (set slots place number) start step ≡ get_or (set slots place number) (place_of (length slots) start step) 0 =
    ap (λ n. get_or (set slots place number) (place_of n start step) 0) (length-set slots place number) in
    elim (cases_eq (place_of (length slots) start step) place) [
      | inl e ↦
          inl (size ∙ ap (λ p. get_or (set slots place number) p 0) e ∙ get_or-set_same slots place number 0 within, ap (λ p. get_or slots p 0) e)
      | inr ne ↦ inr (size ∙ get_or-set_other slots place (place_of (length slots) start step) number 0 ne)
    ]

-- where all slots are free, no item is known
pub IsHashed-nothing : {Item : Type 0} (start_of : Item → ℕ) (slots : List ℕ) → ((place : ℕ) → place < length slots → get_or slots place 0 ≡ free) → IsHashed start_of slots []
IsHashed-nothing start_of slots all = record {
  few = omega arith;
  known = λ place within taken. absurd (taken (all place within));
  met = λ number item at. cc;
}

-- an item that is not met up to a free slot is not known
pub not_known : {Item : Type 0} {start_of : Item → ℕ} {slots : List ℕ} {items : List Item} (item : Item) (step : ℕ) → IsHashed start_of slots items → number_at slots (start_of item) step ≡ free
    → ((k : ℕ) → k < step → slice_get items (number_at slots (start_of item) k) ≡ Some item → ⊥) → Contains items item → ⊥
not_known {Item} {start_of} {slots} {items} item step hashed is_free passed there =
    let at : slice_get items there.0 ≡ Some item = slice_get-get_or items there.0 item there.1 ∙ ap Some there.2 in
    let few = hashed.few in
    let known : there.0 < length items = there.1 in
    let met : IsMet slots (start_of item) there.0 = hashed.met there.0 item at in
    elim (cases_lt met.step step) [
      | inl earlier ↦ passed met.step earlier (ap (slice_get items) met.at ∙ at)
      | inr not_earlier ↦ elim (cases_lt step met.step) [
        | inl later ↦ met.before step later is_free
        | inr not_later ↦
            let same : met.step ≡ step = omega arith in
            let last : there.0 ≡ free = sym met.at ∙ ap (number_at slots (start_of item)) same ∙ is_free in
            omega arith
      ]
    ]

-- an item that is met nowhere is not known
pub not_met : {Item : Type 0} {start_of : Item → ℕ} {slots : List ℕ} {items : List Item} (item : Item) (steps : ℕ) → IsHashed start_of slots items → length slots ≤ steps
    → ((k : ℕ) → k < steps → slice_get items (number_at slots (start_of item) k) ≡ Some item → ⊥) → Contains items item → ⊥
not_met {Item} {start_of} {slots} {items} item steps hashed all passed there =
    let at : slice_get items there.0 ≡ Some item = slice_get-get_or items there.0 item there.1 ∙ ap Some there.2 in
    let met : IsMet slots (start_of item) there.0 = hashed.met there.0 item at in
    let within = met.within in
    passed met.step (omega (arith, all, within)) (ap (slice_get items) met.at ∙ at)

-- what is met is still met where a number is put into a free slot
IsMet-set : {slots : List ℕ} {start number : ℕ} (place new : ℕ) → IsMet slots start number → place < length slots → get_or slots place 0 ≡ free
    → number < free → new < free → IsMet (set slots place new) start number
IsMet-set {slots} {start} {number} place new met within is_free below new_below =
    let size : length (set slots place new) ≡ length slots = length-set slots place new in record {
      step = met.step;
      within = let w = met.within in omega (arith, w, size);
      at = elim (number_at-set slots place new start met.step within) [
        | inl put ↦ let same : number ≡ free = sym met.at ∙ put.1 ∙ is_free in absurd (omega (arith, same, below))
        | inr kept ↦ kept ∙ met.at
      ];
      before = λ k earlier there. elim (number_at-set slots place new start k within) [
        | inl put ↦ let same : new ≡ free = sym put.0 ∙ there in omega (arith, same, new_below)
        | inr kept ↦ met.before k earlier (sym kept ∙ there)
      ];
    }

-- a number that is put into the first free slot is met
IsMet-put : {slots : List ℕ} {start place : ℕ} (new : ℕ) → IsFirstFree slots start place → new < free → IsMet (set slots place new) start new
IsMet-put {slots} {start} {place} new first below =
    let size : length (set slots place new) ≡ length slots = length-set slots place new in record {
      step = first.step;
      within = let w = first.early in omega (arith, w, size);
      at = ap (λ n. get_or (set slots place new) (place_of n start first.step) 0) size
          ∙ ap (λ p. get_or (set slots place new) p 0) (sym first.at) ∙ get_or-set_same slots place new 0 first.within;
      before = λ k earlier there. elim (number_at-set slots place new start k first.within) [
        | inl put ↦ let same : new ≡ free = sym put.0 ∙ there in omega (arith, same, below)
        | inr kept ↦ first.before k earlier (sym kept ∙ there)
      ];
    }

-- a new item's number is put into the first free slot that is met where the item is looked for
pub IsHashed-push : {Item : Type 0} {start_of : Item → ℕ} {slots : List ℕ} {items : List Item} (item : Item) (place : ℕ) → IsHashed start_of slots items
    → IsFirstFree slots (start_of item) place → length items < free → IsHashed start_of (set slots place (length items)) (items ++ item ∷ [])
IsHashed-push {Item} {start_of} {slots} {items} item place hashed first room =
    let one : length (items ++ item ∷ []) ≡ length items + 1 = length-append items (item ∷ []) in
    let size : length (set slots place (length items)) ≡ length slots = length-set slots place (length items) in record {
      few = omega arith;
      known = λ other within taken. elim (cases_eq other place) [
        | inl e ↦
            let new : get_or (set slots place (length items)) other 0 ≡ length items =
            ap (λ p. get_or (set slots place (length items)) p 0) e ∙ get_or-set_same slots place (length items) 0 first.within in
            omega arith
        | inr ne ↦
            let kept : get_or (set slots place (length items)) other 0 ≡ get_or slots other 0 = get_or-set_other slots place other (length items) 0 ne in
            let old : get_or slots other 0 < length items = hashed.known other (omega arith) (λ e. taken (kept ∙ e)) in
            omega arith
      ];
      met = λ number other at. elim (get-push items item number other at) [
        | inl old ↦ IsMet-set place (length items) (hashed.met number other old.1) first.within first.is_free (omega (arith, old.0, room)) room
        | inr new ↦ subst (λ (i : Item). IsMet (set slots place (length items)) (start_of i) number) new.1
            (subst (IsMet (set slots place (length items)) (start_of item)) (sym new.0) (IsMet-put (length items) first room))
      ];
    }

-- what a table has at the place that is looked at after so many steps
pub number_at-read : (slots : List ℕ) (start from place step : ℕ) → from ≡ start → place ≡ place_of (length slots) from step
    → number_at slots start step ≡ get_or slots place 0
number_at-read slots start from place step same at = ap (λ n. get_or slots n 0) (ap (λ n. place_of (length slots) n step) (sym same) ∙ sym at)

-- where each slot was made free, no item is known
pub IsHashed-new : {Item : Type 0} (start_of : Item → ℕ) (slots : List ℕ) (count : ℕ) → slots ≡ replicate count free → IsHashed start_of slots []
IsHashed-new start_of slots count same =
    IsHashed-nothing start_of slots (λ place within.
    let size : length slots ≡ count = ap length same ∙ length-replicate count free in
    ap (λ s. get_or s place 0) same ∙ get_or-replicate count place free 0 (omega arith))

-- one more of the items has its number in the first free slot
pub IsHashed-more : {Item : Type 0} {start_of : Item → ℕ} {slots : List ℕ} (items : List Item) (number : ℕ) (item : Item) (place : ℕ) → IsHashed start_of slots (take number items)
    → number < length items → length items < 2 ^ 32 → item ≡ get_or items number item → IsFirstFree slots (start_of item) place
    → IsHashed start_of (set slots place number) (take (number + 1) items)
IsHashed-more {Item} {start_of} {slots} items number item place hashed within few is first =
    let size : length (take number items) ≡ number = length-take-le number items (omega arith) in
    let more : take (number + 1) items ≡ take number items ++ item ∷ [] = take_more items number item within ∙ ap (λ s. take number items ++ s ∷ []) (sym is) in
    let room : length (take number items) < free = omega arith in
    let after : IsHashed start_of (set slots place (length (take number items))) (take number items ++ item ∷ []) = IsHashed-push item place hashed first room in
    subst (IsHashed start_of (set slots place number)) (sym more) (subst (λ n. IsHashed start_of (set slots place n) (take number items ++ item ∷ [])) size after)

-- the last item's number
pub last-number : {Item : Type 0} (items : List Item) (item : Item) → slice_get (items ++ item ∷ []) (length items) ≡ Some item
last-number items item =
    let one : length (items ++ item ∷ []) ≡ length items + 1 = length_push items item in
    slice_get-get_or (items ++ item ∷ []) (length items) item (omega arith) ∙ ap Some (get_or_push items item item (length items) refl)

-- a list comes back whole from a place that it fills
pub take_all : (count : ℕ) (numbers rest : List ℕ) → length numbers ≡ count → take count (numbers ++ rest) ≡ numbers
take_all count numbers rest size = take-append-le count numbers rest (omega arith) ∙ ap (λ n. take n numbers) (sym size) ∙ take-length numbers
