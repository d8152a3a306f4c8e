-- Levels that are made of names.
use Rattle.std.proofs.Common.{◌≡◌, ℕ, zero, suc, ◌+◌, ◌<◌, ◌==◌, if◌then◌else◌, Bool, true, false, List, [], ◌∷◌, ◌++◌, length, drop, take, get_or, min, ◌≤◌, inl, inr, Option, Some, None, slice_get, refl, sym, ap, ◌∙◌, subst, arith}
use Rattle.std.specs.Prelude.{IfSome}
use Rattle.std.proofs.lemmas.Bool.{cases_lt, eqb-true, ne_eqb}
use Rattle.std.proofs.lemmas.List.{drop_all}
use Rattle.track_word.specs.declared.tracks.Var.{Var}
use Rattle.auto_core.specs.Automaton.{Automaton}
use Rattle.game_rules.specs.declared.men.Man.{Man}
use Rattle.lin_formula.specs.SetOf.{SetOf, Table, as_set}
use Rattle.lin_formula.specs.declared.formula.SetId.{SetId}
use Rattle.rule_formula.specs.Placed.{is_live}
use Rattle.rule_formula.specs.Trees.{tracks_of}
use Rattle.set_plan.specs.Sets.{Grows, IsNameOn, IsSetOn, set_at}
use Rattle.set_plan.proofs.Items.{drop_front}
use Rattle.mate_plan.specs.Formulas.{name_from, name_of}
use Rattle.mate_plan.specs.Levels.{AreNames, HaveNames, level_from, level_of}
use Rattle.mate_plan.specs.Plan.{Level, level_with, no_sets}

abbrev Names : Type 0
Names = List (Option SetId)

-- the set of the name for a mask is the level's
at_mask : (sets : List Automaton) (b : Bool) (id found : Option SetId) (s : SetOf) → s ≡ set_at sets found → (if b then set_at sets id else s) ≡ set_at sets (if b then id else found)
at_mask sets true id found s e = refl
at_mask sets false id found s e = e

set_from : (sets : List Automaton) (mask : ℕ) (masks : List ℕ) (names : Names) (level : Level) (found : Option SetId) → level mask ≡ set_at sets found
    → level_from sets level masks names mask ≡ set_at sets (name_from found masks names mask)
set_from sets mask [] names level found e = e
set_from sets mask (m ∷ masks) [] level found e = e
set_from sets mask (m ∷ masks) (id ∷ names) level found e =
    set_from sets mask masks names (level_with level m (set_at sets id)) (if mask == m then id else found) (at_mask sets (mask == m) id found (level mask) e)

pub set_of_name : (sets : List Automaton) (masks : List ℕ) (names : Names) (mask : ℕ) → level_of sets masks names mask ≡ set_at sets (name_of masks names mask)
set_of_name sets masks names mask = set_from sets mask masks names no_sets None refl

pub have_from_are : (stock : List Man) (sets : List Automaton) (masks : List ℕ) (names : Names) → AreNames stock sets masks names → HaveNames stock sets masks names
have_from_are stock sets [] [] are = tt
have_from_are stock sets [] (id ∷ ids) are = are
have_from_are stock sets (mask ∷ masks) [] are = tt
have_from_are stock sets (mask ∷ masks) (id ∷ ids) are = (are.0, have_from_are stock sets masks ids are.1)

-- the name for a mask is that of a set over its tracks
name_here : (stock : List Man) (sets : List Automaton) (mask m : ℕ) (b : Bool) (id found : Option SetId) → mask == m ≡ b
    → IsNameOn (tracks_of stock (is_live m)) sets id → IsNameOn (tracks_of stock (is_live mask)) sets found
    → IsNameOn (tracks_of stock (is_live mask)) sets (if b then id else found)
name_here stock sets mask m true id found e here before =
    let same : mask ≡ m = eqb-true mask m e in
    subst (λ (k : ℕ). IsNameOn (tracks_of stock (is_live k)) sets id) (sym same) here
name_here stock sets mask m false id found e here before = before

named_from : (stock : List Man) (sets : List Automaton) (mask : ℕ) (masks : List ℕ) (names : Names) (found : Option SetId)
    → IsNameOn (tracks_of stock (is_live mask)) sets found → HaveNames stock sets masks names
    → IsNameOn (tracks_of stock (is_live mask)) sets (name_from found masks names mask)
named_from stock sets mask [] [] found before have = before
named_from stock sets mask [] (id ∷ ids) found before have = before
named_from stock sets mask (m ∷ masks) [] found before have = before
named_from stock sets mask (m ∷ masks) (id ∷ ids) found before have =
    named_from stock sets mask masks ids (if mask == m then id else found) (name_here stock sets mask m (mask == m) id found refl have.0 before) have.1

pub name_is_on : (stock : List Man) (sets : List Automaton) (masks : List ℕ) (names : Names) (mask : ℕ) → AreNames stock sets masks names
    → IsNameOn (tracks_of stock (is_live mask)) sets (name_of masks names mask)
name_is_on stock sets masks names mask are = named_from stock sets mask masks names None tt (have_from_are stock sets masks names are)

-- names stay what they are while the table grows
pub on-grows : (tracks : List Var) (old new : List Automaton) (id : Option SetId) → Grows old new → IsNameOn tracks old id → IsNameOn tracks new id
on-grows tracks old new None grows on = tt
on-grows tracks old new (Some id) grows (a, found, is) = (a, grows id.0 a found, is)

pub set_at-grows : (tracks : List Var) (old new : List Automaton) (id : Option SetId) → Grows old new → IsNameOn tracks old id → set_at new id ≡ set_at old id
set_at-grows tracks old new None grows on = refl
set_at-grows tracks old new (Some id) grows (a, found, is) = ap as_set (grows id.0 a found ∙ sym found)

pub have-grows : (stock : List Man) (old new : List Automaton) (masks : List ℕ) (names : Names) → Grows old new → HaveNames stock old masks names → HaveNames stock new masks names
have-grows stock old new [] [] grows have = tt
have-grows stock old new [] (id ∷ ids) grows have = have
have-grows stock old new (mask ∷ masks) [] grows have = tt
have-grows stock old new (mask ∷ masks) (id ∷ ids) grows have = (on-grows (tracks_of stock (is_live mask)) old new id grows have.0, have-grows stock old new masks ids grows have.1)

from-grows : (stock : List Man) (old new : List Automaton) (masks : List ℕ) (names : Names) (level : Level) → Grows old new
    → HaveNames stock old masks names → level_from new level masks names ≡ level_from old level masks names
from-grows stock old new [] [] level grows have = refl
from-grows stock old new [] (id ∷ ids) level grows have = refl
from-grows stock old new (mask ∷ masks) [] level grows have = refl
from-grows stock old new (mask ∷ masks) (id ∷ ids) level grows have =
    let same : set_at new id ≡ set_at old id = set_at-grows (tracks_of stock (is_live mask)) old new id grows have.0 in
    ap (λ (s : SetOf). level_from new (level_with level mask s) masks ids) same ∙ from-grows stock old new masks ids (level_with level mask (set_at old id)) grows have.1

pub have_level-grows : (stock : List Man) (old new : List Automaton) (masks : List ℕ) (names : Names) → Grows old new
    → HaveNames stock old masks names → level_of new masks names ≡ level_of old masks names
have_level-grows stock old new masks names grows have = from-grows stock old new masks names no_sets grows have

pub level-grows : (stock : List Man) (old new : List Automaton) (masks : List ℕ) (names : Names)
    → Grows old new → AreNames stock old masks names → level_of new masks names ≡ level_of old masks names
level-grows stock old new masks names grows are = have_level-grows stock old new masks names grows (have_from_are stock old masks names are)

pub names-grow : (stock : List Man) (old new : List Automaton) (masks : List ℕ) (names : Names) → Grows old new → AreNames stock old masks names → AreNames stock new masks names
names-grow stock old new [] [] grows are = tt
names-grow stock old new [] (id ∷ ids) grows are = are
names-grow stock old new (mask ∷ masks) [] grows are = are
names-grow stock old new (mask ∷ masks) (id ∷ ids) grows are = (on-grows (tracks_of stock (is_live mask)) old new id grows are.0, names-grow stock old new masks ids grows are.1)

pub grows_self : (sets : List Automaton) → Grows sets sets
grows_self sets k a e = e

pub grows-grows : (old middle new : List Automaton) → Grows old middle → Grows middle new → Grows old new
grows-grows old middle new first second k a e = second k a (first k a e)

-- one more name
pub from_none : (sets : List Automaton) (level : Level) (masks : List ℕ) → level_from sets level masks [] ≡ level
from_none sets level [] = refl
from_none sets level (mask ∷ masks) = refl

from_push : (sets : List Automaton) (level : Level) (masks : List ℕ) (names : Names) (mask : ℕ) (rest : List ℕ) (id : Option SetId)
    → drop (length names) masks ≡ mask ∷ rest
    → level_from sets level masks (names ++ id ∷ []) ≡ level_with (level_from sets level masks names) mask (set_at sets id)
from_push sets level [] [] mask rest id e = absurd (cc)
from_push sets level [] (n ∷ names) mask rest id e = absurd (cc)
from_push sets level (m ∷ masks) [] mask rest id e =
    let same : m ≡ mask = cc in
    from_none sets (level_with level m (set_at sets id)) masks ∙ ap (λ (k : ℕ). level_with level k (set_at sets id)) same
from_push sets level (m ∷ masks) (n ∷ names) mask rest id e = from_push sets (level_with level m (set_at sets n)) masks names mask rest id e

pub level_push : (sets : List Automaton) (masks : List ℕ) (names : Names) (mask : ℕ) (rest : List ℕ) (id : Option SetId)
    → drop (length names) masks ≡ mask ∷ rest → level_of sets masks (names ++ id ∷ []) ≡ level_with (level_of sets masks names) mask (set_at sets id)
level_push sets masks names mask rest id e = from_push sets no_sets masks names mask rest id e

pub have_push : (stock : List Man) (sets : List Automaton) (masks : List ℕ) (names : Names) (mask : ℕ) (rest : List ℕ) (id : Option SetId)
    → drop (length names) masks ≡ mask ∷ rest → HaveNames stock sets masks names → IsNameOn (tracks_of stock (is_live mask)) sets id
    → HaveNames stock sets masks (names ++ id ∷ [])
have_push stock sets [] [] mask rest id e have on = absurd (cc)
have_push stock sets [] (n ∷ names) mask rest id e have on = have
have_push stock sets (m ∷ masks) [] mask rest id e have on =
    let same : m ≡ mask = cc in
    (subst (λ (k : ℕ). IsNameOn (tracks_of stock (is_live k)) sets id) (sym same) on, tt)
have_push stock sets (m ∷ masks) (n ∷ names) mask rest id e have on = (have.0, have_push stock sets masks names mask rest id e have.1 on)

-- a set that is nothing, or that of an automaton over these tracks
abbrev pub IsTableOn : List Var → SetOf → Type 0
IsTableOn tracks s = (set : Option Automaton) × (as_set set ≡ s) × IfSome set (IsSetOn tracks)

table_is : (tracks : List Var) (sets : List Automaton) (k : ℕ) (a : Automaton) (set : Option Automaton) → slice_get sets k ≡ Some a
    → as_set set ≡ Table a → IfSome set (IsSetOn tracks) → (b : Automaton) × (slice_get sets k ≡ Some b) × IsSetOn tracks b
table_is tracks sets k a None found e on = absurd (cc)
table_is tracks sets k a (Some b) found e on =
    let same : b ≡ a = cc in
    (a, found, subst (IsSetOn tracks) same on)

there : (sets : List Automaton) (k : ℕ) → k < length sets → (a : Automaton) × (slice_get sets k ≡ Some a)
there [] k within = absurd (omega (arith, within))
there (a ∷ sets) zero within = (a, refl)
there (a ∷ sets) (suc k) within = there sets k (omega (arith, within))

-- the name of such a set
pub on_from_table : (tracks : List Var) (sets : List Automaton) (id : Option SetId) (s : SetOf)
    → IsTableOn tracks s → set_at sets id ≡ s → IfSome id (λ k. k.0 < length sets) → IsNameOn tracks sets id
on_from_table tracks sets None s table e within = tt
on_from_table tracks sets (Some id) s (set, is, on) e within =
    let (a, found) = there sets id.0 within in
    let same : as_set set ≡ Table a = is ∙ sym e ∙ ap as_set found in
    table_is tracks sets id.0 a set found same on

-- the first sets stay where later ones are let go
get-take : (sets : List Automaton) (n k : ℕ) (a : Automaton) → k < n → slice_get sets k ≡ Some a → slice_get (take n sets) k ≡ Some a
get-take sets zero k a less e = absurd (omega (arith, less))
get-take [] (suc n) k a less e = e
get-take (b ∷ sets) (suc n) zero a less e = e
get-take (b ∷ sets) (suc n) (suc k) a less e = get-take sets n k a (omega (arith, less)) e

get-within : (sets : List Automaton) (k : ℕ) (a : Automaton) → slice_get sets k ≡ Some a → k < length sets
get-within [] k a e = absurd (cc)
get-within (b ∷ sets) zero a e = omega arith
get-within (b ∷ sets) (suc k) a e = let rest = get-within sets k a e in omega (arith, rest)

pub grows_cut : (old new : List Automaton) (n : ℕ) → n ≡ length old → Grows old new → Grows old (take n new)
grows_cut old new n count grows k a e =
    let within : k < length old = get-within old k a e in
    get-take new n k a (omega (arith, within, count)) (grows k a e)

-- one more of the masks is looked at
name_more : (masks : List ℕ) (names : Names) (mask : ℕ) (found : Option SetId) (n m : ℕ) (id whole : Option SetId) → n < length masks
    → n < length names → m ≡ get_or masks n m → id ≡ get_or names n id → name_from found (drop n masks) (drop n names) mask ≡ whole
    → name_from (if mask == m then id else found) (drop (n + 1) masks) (drop (n + 1) names) mask ≡ whole
name_more masks names mask found n m id whole less less_names is is_name e =
    let front : drop n masks ≡ m ∷ drop (n + 1) masks = drop_front masks n m less is in
    let front_names : drop n names ≡ id ∷ drop (n + 1) names = drop_front names n id less_names is_name in
    let One : List ℕ → Type 0 = λ l. name_from found l (drop n names) mask ≡ whole in
    let Two : Names → Type 0 = λ l. name_from found (m ∷ drop (n + 1) masks) l mask ≡ whole in
    subst Two front_names (subst One front e)

pub name_passed : (masks : List ℕ) (names : Names) (mask : ℕ) (found : Option SetId) (n k m : ℕ) (id whole : Option SetId) → k ≡ n + 1
    → n < length masks → n < length names → m ≡ get_or masks n m → id ≡ get_or names n id → (m ≡ mask → ⊥)
    → name_from found (drop n masks) (drop n names) mask ≡ whole → name_from found (drop k masks) (drop k names) mask ≡ whole
name_passed masks names mask found n k m id whole next less less_names is is_name other e =
    let f : mask == m ≡ false = ne_eqb mask m (λ same. other (sym same)) in
    let Is : Bool → Type 0 = λ b. name_from (if b then id else found) (drop (n + 1) masks) (drop (n + 1) names) mask ≡ whole in
    let At : ℕ → Type 0 = λ j. name_from found (drop j masks) (drop j names) mask ≡ whole in
    subst At (sym next) (subst Is f (name_more masks names mask found n m id whole less less_names is is_name e))

pub name_all : (masks : List ℕ) (names : Names) (mask : ℕ) (found : Option SetId) (n : ℕ) (whole : Option SetId)
    → n ≡ min (length masks) (length names) → name_from found (drop n masks) (drop n names) mask ≡ whole → found ≡ whole
name_all masks names mask found n whole all e =
    elim (cases_lt (length masks) (length names)) [
      | inl less ↦
          let none : drop n masks ≡ [] = drop_all n masks (omega (arith, all, less)) in
          subst (λ (l : List ℕ). name_from found l (drop n names) mask ≡ whole) none e
      | inr less ↦
          let none : drop n names ≡ [] = drop_all n names (omega (arith, all, less)) in
          ending (drop n masks) (subst (λ (l : Names). name_from found (drop n masks) l mask ≡ whole) none e)
    ]
  where
    ending : (l : List ℕ) → name_from found l [] mask ≡ whole → found ≡ whole
    ending [] e = e
    ending (m ∷ l) e = e

-- a table that has grown is no shorter
pub length-grows : (old new : List Automaton) → Grows old new → length old ≤ length new
length-grows old new grows =
    elim (cases_lt (length new) (length old)) [
      | inl less ↦
          let (a, found) = there old (length new) less in
          let within : length new < length new = get-within new (length new) a (grows (length new) a found) in
          absurd (omega (arith, within))
      | inr most ↦ most
    ]

-- the name of a set that is kept
pub on_from_kept : (tracks : List Var) (sets : List Automaton) (set : Option Automaton) (id : Option SetId) → IfSome set (IsSetOn tracks)
    → set_at sets id ≡ as_set set → IfSome id (λ k. k.0 < length sets) → IsNameOn tracks sets id
on_from_kept tracks sets set id on is within = on_from_table tracks sets id (as_set set) (set, refl, on) is within

-- a function of equal levels
pub at_two : {A : Type 0} (f : Level → Level → A) (a b c d : Level) → a ≡ b → c ≡ d → f a c ≡ f b d
at_two f a b c d e h = λ i. f (e i) (h i)

pub at_three : {A : Type 0} (f : Level → Level → Level → A) (a b c d k l : Level) → a ≡ b → c ≡ d → k ≡ l → f a c k ≡ f b d l
at_three f a b c d k l e h j = λ i. f (e i) (h i) (j i)

-- the name that is found for a mask, among masks that are the position's
pub set_is_found : (sets : List Automaton) (masks all : List ℕ) (names : Names) (mask : ℕ) (found : Option SetId) → masks ≡ all
    → found ≡ name_of masks names mask → set_at sets found ≡ level_of sets all names mask
set_is_found sets masks all names mask found same is =
    let At : List ℕ → Type 0 = λ ms. found ≡ name_of ms names mask in
    ap (set_at sets) (subst At same is) ∙ sym (set_of_name sets all names mask)

pub name_is_found : (stock : List Man) (sets : List Automaton) (masks all : List ℕ) (names : Names) (mask : ℕ) (found : Option SetId) → masks ≡ all
    → found ≡ name_of masks names mask → AreNames stock sets all names → IsNameOn (tracks_of stock (is_live mask)) sets found
name_is_found stock sets masks all names mask found same is are =
    let At : List ℕ → Type 0 = λ ms. found ≡ name_of ms names mask in
    let On : Option SetId → Type 0 = λ id. IsNameOn (tracks_of stock (is_live mask)) sets id in
    subst On (sym (subst At same is)) (name_is_on stock sets all names mask are)
