-- The sets that are lent for the names of levels are those of the levels.
use Rattle.std.proofs.Common.{◌≡◌, ℕ, zero, suc, ◌+◌, ◌<◌, ◌≤◌, ◌==◌, if◌then◌else◌, Bool, true, false, List, [], ◌∷◌, ◌++◌, length, get_or, take, map, Option, Some, None, inl, inr, refl, sym, ap, ◌∙◌, subst, arith}
use Rattle.std.specs.Prelude.{Contains, IfSome, IsSomeAnd, replicate, slice_get, option_and_then}
use Rattle.std.specs.List.{All}
use Rattle.std.proofs.lemmas.Bool.{eqb-true, eq-eqb}
use Rattle.std.proofs.lemmas.List.{length-map, take_all, take_more}
use Rattle.std.proofs.lemmas.List.Elements.{All-cons, All-get_or, All-nil, All-weaker, Contains-push_cases}
use Rattle.std.proofs.lemmas.Option.{get_or_from_slice_get, option_and_then_some, slice_get_within}
use Rattle.auto_core.specs.Automaton.{Automaton}
use Rattle.game_rules.specs.Game.{Position}
use Rattle.game_rules.specs.declared.men.Man.{Man}
use Rattle.lin_formula.specs.SetOf.{Member, Nothing, SetOf, Table, as_set}
use Rattle.lin_formula.specs.declared.formula.SetId.{SetId}
use Rattle.rule_formula.specs.Fits.{IsGameMask, is_game_mask, masks_of, masks_to}
use Rattle.mask_sets.specs.Stock.{mask_of}
use Rattle.rule_formula.specs.Mean.{GameMeans}
use Rattle.rule_formula.specs.Placed.{is_live}
use Rattle.rule_formula.specs.Trees.{tracks_of}
use Rattle.lin_formula.proofs.FreeVars.{if_cases}
use Rattle.set_plan.specs.Same.{SameSets}
use Rattle.set_plan.specs.Sets.{IsNameOn, IsSetOn, set_at}
use Rattle.mate_plan.specs.Levels.{AreNames, level_from, level_of}
use Rattle.mate_plan.specs.Plan.{Level, level_with, no_sets}
use Rattle.set_plan.proofs.Composition.{none_some}
use Rattle.winning_sets.specs.Lent.{AreEmpties, AreWithin, IsEmptyOn, set_or, sets_or}
use Rattle.winning_sets.specs.PlanMeans.{AreLevelsOf, IsLevelOf}
use Rattle.mask_sets.specs.Sets.{set_of}
use Rattle.winning_sets.specs.Solve.{AreSets, HasTuplesOf, IsSetAt, sets_at}
use Rattle.winning_sets.proofs.KeptLevels.{same_has}
use Rattle.set_plan.proofs.Takings.{contains_cases, contains_head, contains_none, contains_rest, same_some}

abbrev pub Names : Type 0
Names = List (Option SetId)

-- no number is twice in the list
abbrev pub Apart : List ℕ → Type 0
Apart [] = Unit {0}
Apart (m ∷ ms) = (Contains ms m → ⊥) × Apart ms

apart_push : (ms : List ℕ) (n : ℕ) → Apart ms → (Contains ms n → ⊥) → Apart (ms ++ n ∷ [])
apart_push [] n h new = (contains_none n, tt)
apart_push (m ∷ ms) n (first, rest) new =
    let here : Contains (ms ++ n ∷ []) m → ⊥ = λ i. elim (Contains-push_cases ms n m i) [
      | inl before ↦ first before
      | inr same ↦ new (subst (λ k. Contains (m ∷ ms) k) (sym same) (contains_head m ms))
    ] in
    (here, apart_push ms n rest (λ i. new (contains_rest m ms n i)))

masks_below : (p : Position) (n m : ℕ) → Contains (masks_to p n) m → m < n
masks_below p zero m i = absurd (contains_none m i)
masks_below p (suc n) m i =
    if_cases (is_game_mask p n) (masks_to p n ++ n ∷ []) (masks_to p n) (λ (l : List ℕ). Contains l m → m < suc n)
    (λ e j. elim (Contains-push_cases (masks_to p n) n m j) [
      | inl before ↦ let less = masks_below p n m before in omega (arith, less)
      | inr same ↦ omega (arith, same)
    ])
    (λ e j. let less = masks_below p n m j in omega (arith, less)) i

masks_apart : (p : Position) (n : ℕ) → Apart (masks_to p n)
masks_apart p zero = tt
masks_apart p (suc n) =
    let so_far = masks_apart p n in
    if_cases (is_game_mask p n) (masks_to p n ++ n ∷ []) (masks_to p n) Apart
    (λ e. apart_push (masks_to p n) n so_far (λ i. let less = masks_below p n n i in absurd (omega (arith, less))))
    (λ e. so_far)

pub masks_of_apart : (p : Position) → Apart (masks_of p)
masks_of_apart p = masks_apart p (mask_of p + 1)

if_true : {A : Type 0} (b : Bool) (x y : A) → b ≡ true → (if b then x else y) ≡ x
if_true true x y e = refl
if_true false x y e = cc

module _ (table : List Automaton) where
  -- a mask that is not one of the masks has what it had
  level_from-other : (masks : List ℕ) (ids : Names) (level : Level) (m : ℕ) → (Contains masks m → ⊥) → level_from table level masks ids m ≡ level m
  level_from-other [] ids level m off = refl
  level_from-other (mask ∷ masks) [] level m off = refl
  level_from-other (mask ∷ masks) (id ∷ ids) level m off =
      let later = level_from-other masks ids (level_with level mask (set_at table id)) m (λ i. off (contains_rest mask masks m i)) in
      if_cases (m == mask) (set_at table id) (level m)
      (λ (s : SetOf). level_from table (level_with level mask (set_at table id)) masks ids m ≡ s
      → level_from table (level_with level mask (set_at table id)) masks ids m ≡ level m)
      (λ e h. let same : m ≡ mask = eqb-true m mask e in absurd (off (subst (λ k. Contains (mask ∷ masks) k) (sym same) (contains_head mask masks))))
      (λ e h. h) later

  -- a name's set, and the one that is lent for it
  module _ (stock : List Man) (mask : ℕ) (other : Automaton) (empty : IsEmptyOn (tracks_of stock (is_live mask)) other) where
    set_same : (id : Option SetId) → IsNameOn (tracks_of stock (is_live mask)) table id → SameSets (set_at table id) (Table (set_or table other id))
    set_same None is tuple = (λ h. absurd h, λ h. empty.none tuple h)
    set_same (Some id) (a, found, on) tuple =
        let there : get_or table id.0 other ≡ a = get_or_from_slice_get table id.0 a other found in
        let Named : SetOf → Type 0 = λ s. Member s tuple in
        let same : as_set (slice_get table id.0) ≡ Table (get_or table id.0 other) = ap as_set found ∙ ap Table (sym there) in
        (λ h. subst Named same h, λ h. subst Named (sym same) h)

    set_on : (id : Option SetId) → IsNameOn (tracks_of stock (is_live mask)) table id → IsSetOn (tracks_of stock (is_live mask)) (set_or table other id)
    set_on None is = empty.set
    set_on (Some id) (a, found, on) =
        let there : get_or table id.0 other ≡ a = get_or_from_slice_get table id.0 a other found in
        subst (IsSetOn (tracks_of stock (is_live mask))) (sym there) on

-- the automaton has the tuples of the level at the mask, and is formed as a set of the mask
pub record IsLentAt (stock : List Man) (masks : List ℕ) (level : Level) (m : ℕ) (a : Automaton) : Type 0 where
  pub among : Contains masks m
  pub same : SameSets (level m) (Table a)
  pub formed : IsSetAt stock m a

module _ (table : List Automaton) (stock : List Man) where
  formed_of : (m : ℕ) {a : Automaton} → IsSetOn (tracks_of stock (is_live m)) a → IsSetAt stock m a
  formed_of m on = record { reduced = on.reduced; integers = on.decides.integers; tracks = on.decides.tracks_are; few = on.few }

  lent_here : (mask : ℕ) (masks : List ℕ) {other : Automaton} (id : Option SetId) (ids : Names) (level : Level) → (Contains masks mask → ⊥)
      → IsEmptyOn (tracks_of stock (is_live mask)) other → IsNameOn (tracks_of stock (is_live mask)) table id
      → IsLentAt stock (mask ∷ masks) (level_from table (level_with level mask (set_at table id)) masks ids) mask (set_or table other id)
  lent_here mask masks {other} id ids level off empty name =
      let with_it : Level = level_with level mask (set_at table id) in
      let self : with_it mask ≡ set_at table id = if_true (mask == mask) (set_at table id) (level mask) (eq-eqb mask mask refl) in
      let whole : level_from table with_it masks ids mask ≡ set_at table id = level_from-other table masks ids with_it mask off ∙ self in
      record {
        among = contains_head mask masks;
        same = subst (λ (s : SetOf). SameSets s (Table (set_or table other id))) (sym whole) (set_same table stock mask other empty id name);
        formed = formed_of mask (set_on table stock mask other empty id name);
      }

  lent_from : (masks : List ℕ) (others : List Automaton) (ids : Names) (level : Level) → Apart masks → AreEmpties stock masks others
      → AreNames stock table masks ids → (m : ℕ) (a : Automaton) → set_of masks (sets_or table others ids) m ≡ Some a
      → IsLentAt stock masks (level_from table level masks ids) m a
  lent_from [] others ids level apart empties names m a e = none_some (sym e)
  lent_from (mask ∷ masks) [] ids level apart empties names m a e = absurd empties
  lent_from (mask ∷ masks) (other ∷ others) [] level apart empties names m a e = absurd names
  lent_from (mask ∷ masks) (other ∷ others) (id ∷ ids) level (first, rest) (empty, empties) (name, names) m a e =
      by (mask == m) refl (lent_from masks others ids (level_with level mask (set_at table id)) rest empties names m a) e
    where
      by : (b : Bool) → mask == m ≡ b
          → (set_of masks (sets_or table others ids) m ≡ Some a
          → IsLentAt stock masks (level_from table (level_with level mask (set_at table id)) masks ids) m a)
          → (if b then Some (set_or table other id) else set_of masks (sets_or table others ids) m) ≡ Some a
          → IsLentAt stock (mask ∷ masks) (level_from table (level_with level mask (set_at table id)) masks ids) m a
      by true q later h =
          let here = lent_here mask masks id ids level first empty name in
          let there = subst (λ (k : ℕ). IsLentAt stock (mask ∷ masks) (level_from table (level_with level mask (set_at table id)) masks ids) k (set_or table other id)) (eqb-true mask m q) here in
          subst (λ (s : Automaton). IsLentAt stock (mask ∷ masks) (level_from table (level_with level mask (set_at table id)) masks ids) m s) (same_some h) there
      by false q later h = let is = later h in record { among = contains_rest mask masks m is.among; same = is.same; formed = is.formed }

  lent_found : (masks : List ℕ) (others : List Automaton) (ids : Names) → AreEmpties stock masks others → AreNames stock table masks ids → (m : ℕ)
      → Contains masks m → (a : Automaton) × (set_of masks (sets_or table others ids) m ≡ Some a)
  lent_found [] others ids empties names m i = absurd (contains_none m i)
  lent_found (mask ∷ masks) [] ids empties names m i = absurd empties
  lent_found (mask ∷ masks) (other ∷ others) [] empties names m i = absurd names
  lent_found (mask ∷ masks) (other ∷ others) (id ∷ ids) (empty, empties) (name, names) m i =
      by (mask == m) refl (lent_found masks others ids empties names m)
    where
      by : (b : Bool) → mask == m ≡ b → (Contains masks m → (a : Automaton) × (set_of masks (sets_or table others ids) m ≡ Some a))
          → (a : Automaton) × ((if b then Some (set_or table other id) else set_of masks (sets_or table others ids) m) ≡ Some a)
      by true q later = (set_or table other id, refl)
      by false q later =
          elim (contains_cases mask masks m i) [
            | inl same ↦ let t : mask == m ≡ true = eq-eqb mask m same in cc
            | inr rest ↦ later rest
          ]

-- where there is no name at all
nothing_with : (mask : ℕ) → level_with no_sets mask Nothing ≡ no_sets
nothing_with mask = λ i k. if_cases (k == mask) Nothing Nothing (λ (s : SetOf). s ≡ Nothing) (λ e. refl) (λ e. refl) i

none-level : (table : List Automaton) (masks : List ℕ) → level_of table masks (replicate (length masks) None) ≡ no_sets
none-level table [] = refl
none-level table (mask ∷ masks) =
    ap (λ (l : Level). level_from table l masks (replicate (length masks) None)) (nothing_with mask) ∙ none-level table masks

none-names : (stock : List Man) (table : List Automaton) (masks : List ℕ) → AreNames stock table masks (replicate (length masks) None)
none-names stock table [] = tt
none-names stock table (mask ∷ masks) = (tt, none-names stock table masks)

none-sets : (stock : List Man) (table : List Automaton) (masks : List ℕ) (others : List Automaton)
    → AreEmpties stock masks others → sets_or table others (replicate (length masks) None) ≡ others
none-sets stock table [] [] empties = refl
none-sets stock table [] (other ∷ others) empties = absurd empties
none-sets stock table (mask ∷ masks) [] empties = absurd empties
none-sets stock table (mask ∷ masks) (other ∷ others) (empty, empties) =
    ap (λ (l : List Automaton). other ∷ l) (none-sets stock table masks others empties)

there : (names : List Names) (k : ℕ) → k < length names → (ids : Names) × (slice_get names k ≡ Some ids)
there [] k within = absurd (omega (arith, within))
there (ids ∷ names) zero within = (ids, refl)
there (ids ∷ names) (suc k) within = there names k (omega (arith, within))

-- what a list of names becomes
names_at : {X : Type 0} (f : Names → X) (names : List Names) (k : ℕ) (x : X) → slice_get (map f names) k ≡ Some x → (ids : Names) × (slice_get names k ≡ Some ids) × (f ids ≡ x)
names_at f [] k x e = none_some (sym e)
names_at f (ids ∷ names) zero x e = (ids, refl, same_some e)
names_at f (ids ∷ names) (suc k) x e = names_at f names k x e

mapped_at : {X : Type 0} (f : Names → X) (names : List Names) (k : ℕ) (ids : Names) → slice_get names k ≡ Some ids → slice_get (map f names) k ≡ Some (f ids)
mapped_at f [] k ids e = none_some (sym e)
mapped_at f (first ∷ names) zero ids e = ap (λ (n : Names). Some (f n)) (same_some e)
mapped_at f (first ∷ names) (suc k) ids e = mapped_at f names k ids e

module _ (Set : ℕ → Position → Type 0) (p : Position) (game : GameMeans p) (last : ℕ) (table others : List Automaton) (names : List Names)
    (empties : AreEmpties p.men (masks_of p) others) (named : All (AreNames p.men table (masks_of p)) names)
    (levels : AreLevelsOf Set last (map (level_of table (masks_of p)) names)) where
  abbrev lent_at : ℕ → ℕ → Option Automaton
  lent_at = sets_at (masks_of p) (map (sets_or table others) names)

  count : length names ≡ suc last
  count = sym (length-map names (level_of table (masks_of p))) ∙ levels.count

  names_there : (ply : ℕ) (ids : Names) → slice_get names ply ≡ Some ids → AreNames p.men table (masks_of p) ids
  names_there ply ids e =
      let at = All-get_or (AreNames p.men table (masks_of p)) names ply ids (slice_get_within names ply ids e) named in
      subst (AreNames p.men table (masks_of p)) (get_or_from_slice_get names ply ids ids e) at

  record IsHanded (ply mask : ℕ) (a : Automaton) : Type 0 where
    within : ply ≤ last
    game_mask : IsGameMask p mask
    tuples : HasTuplesOf (Set ply) mask a
    formed : IsSetAt p.men mask a

  handed : (ply mask : ℕ) (a : Automaton) (ids : Names) → slice_get names ply ≡ Some ids → set_of (masks_of p) (sets_or table others ids) mask ≡ Some a → IsHanded ply mask a
  handed ply mask a ids at e =
      let is = lent_from table p.men (masks_of p) others ids no_sets (masks_of_apart p) empties (names_there ply ids at) mask a e in
      let level = levels.each ply (level_of table (masks_of p) ids) (mapped_at (level_of table (masks_of p)) names ply ids at) in
      let less = slice_get_within names ply ids at in
      record {
        within = omega (arith, less, count);
        game_mask = (game.masks mask).0 is.among;
        tuples = same_has mask a level is.same;
        formed = is.formed;
      }

  handed_at : (ply mask : ℕ) (a : Automaton) → lent_at ply mask ≡ Some a → IsHanded ply mask a
  handed_at ply mask a e =
      option_and_then_some (λ sets. set_of (masks_of p) sets mask) (slice_get (map (sets_or table others) names) ply) a e
      (λ sets at is.
      let (ids, found, same) = names_at (sets_or table others) names ply sets at in
      handed ply mask a ids found (ap (λ s. set_of (masks_of p) s mask) same ∙ is))

  found_at : (ply : ℕ) {mask : ℕ} → ply ≤ last → IsGameMask p mask → (a : Automaton) × (lent_at ply mask ≡ Some a)
  found_at ply {mask} within is =
      let (ids, at) = there names ply (omega (arith, within, count)) in
      let (a, e) = lent_found table p.men (masks_of p) others ids empties (names_there ply ids at) mask ((game.masks mask).1 is) in
      (a, ap (option_and_then (λ sets. set_of (masks_of p) sets mask)) (mapped_at (sets_or table others) names ply ids at) ∙ e)

  pub lent_sets_are : AreSets Set p last (sets_at (masks_of p) (map (sets_or table others) names))
  lent_sets_are = record {
    found = λ ply mask within is.
        let (a, e) = found_at ply within is in
        subst (λ o. IsSomeAnd o (HasTuplesOf (Set ply) mask)) (sym e) (handed_at ply mask a e).tuples;
    only = λ ply mask a e. let h = handed_at ply mask a e in (h.within, h.game_mask);
    formed = λ ply mask a e. (handed_at ply mask a e).formed;
  }

-- where the set has no position, the sets of one ply without a tuple
pub empty_sets_are : (Set : ℕ → Position → Type 0) {p : Position} → GameMeans p → (others : List Automaton) → AreEmpties p.men (masks_of p) others
    → ((q : Position) → Set 0 q → ⊥) → AreSets Set p 0 (sets_at (masks_of p) (others ∷ []))
empty_sets_are Set {p} game others empties none =
    let ids : Names = replicate (length (masks_of p)) None in
    let AreNamed : Names → Type 0 = AreNames p.men [] (masks_of p) in
    let level : AreLevelsOf Set 0 (level_of [] (masks_of p) ids ∷ []) = record {
      count = refl;
      each = λ number l at. one number l at;
    } in
    let named : All AreNamed (ids ∷ []) = All-cons AreNamed ids [] (none-names p.men [] (masks_of p)) (All-nil AreNamed) in
    let are = lent_sets_are Set p game 0 [] others (ids ∷ []) empties named level in
    subst (λ (sets : List Automaton). AreSets Set p 0 (sets_at (masks_of p) (sets ∷ []))) (none-sets p.men [] (masks_of p) others empties) are
  where
    nothing : IsLevelOf (Set 0) (level_of [] (masks_of p) (replicate (length (masks_of p)) None))
    nothing = subst (IsLevelOf (Set 0)) (sym (none-level [] (masks_of p))) (record { same = λ mask tuple. (λ h. absurd h, λ h. none h.position h.is_in) })

    one : (number : ℕ) (l : Level) → slice_get (level_of [] (masks_of p) (replicate (length (masks_of p)) None) ∷ []) number ≡ Some l → IsLevelOf (Set number) l
    one zero l at = subst (IsLevelOf (Set 0)) (same_some at) nothing
    one (suc number) l at = none_some (sym at)

pub names_within : (stock : List Man) (table : List Automaton) (masks : List ℕ) (others : List Automaton) (ids : Names)
    → AreEmpties stock masks others → AreNames stock table masks ids → AreWithin (length table) (length others) ids
names_within stock table [] [] [] empties names = record { names = All-nil (λ id. IfSome id (λ k. k.0 < length table)); count = omega arith }
names_within stock table [] [] (id ∷ ids) empties names = absurd names
names_within stock table [] (other ∷ others) ids empties names = absurd empties
names_within stock table (mask ∷ masks) [] ids empties names = absurd empties
names_within stock table (mask ∷ masks) (other ∷ others) [] empties names = absurd names
names_within stock table (mask ∷ masks) (other ∷ others) (id ∷ ids) (empty, empties) (name, names) =
    let rest = names_within stock table masks others ids empties names in
    record {
      names = All-cons (λ i. IfSome i (λ k. k.0 < length table)) id ids (within id name) rest.names;
      count = omega (arith, rest.count);
    }
  where
    within : (i : Option SetId) → IsNameOn (tracks_of stock (is_live mask)) table i → IfSome i (λ k. k.0 < length table)
    within None is = tt
    within (Some i) (a, found, on) = slice_get_within table i.0 a found

-- what is copied is there
pub all_within : (stock : List Man) (table : List Automaton) (masks : List ℕ) (others : List Automaton) (levels : List Names)
    → AreEmpties stock masks others → All (AreNames stock table masks) levels → All (AreWithin (length table) (length others)) levels
all_within stock table masks others levels empties named =
    All-weaker (AreNames stock table masks) (AreWithin (length table) (length others)) (λ ids is. names_within stock table masks others ids empties is) levels named

zip_push : (stock : List Man) (masks : List ℕ) (sets : List Automaton) (mask : ℕ) {a : Automaton} → AreEmpties stock masks sets
    → IsEmptyOn (tracks_of stock (is_live mask)) a → AreEmpties stock (masks ++ mask ∷ []) (sets ++ a ∷ [])
zip_push stock [] [] mask are is = (is, tt)
zip_push stock [] (b ∷ sets) mask are is = absurd are
zip_push stock (m ∷ masks) [] mask are is = absurd are
zip_push stock (m ∷ masks) (b ∷ sets) mask (first, are) is = (first, zip_push stock masks sets mask are is)

-- an empty set for one more of the masks
pub empties_more : (stock : List Man) (masks : List ℕ) (sets : List Automaton) (i d : ℕ) {a : Automaton} → i < length masks
    → AreEmpties stock (take i masks) sets → IsEmptyOn (tracks_of stock (is_live (get_or masks i d))) a
    → AreEmpties stock (take (i + 1) masks) (sets ++ a ∷ [])
empties_more stock masks sets i d {a} within are is =
    subst (λ (ms : List ℕ). AreEmpties stock ms (sets ++ a ∷ [])) (sym (take_more masks i d within)) (zip_push stock (take i masks) sets (get_or masks i d) are is)

pub lent_count : (table others : List Automaton) (ids : Names) → length ids ≤ length others → length (sets_or table others ids) ≡ length ids
lent_count table [] [] few = refl
lent_count table [] (id ∷ ids) few = absurd (omega (arith, few))
lent_count table (other ∷ others) [] few = refl
lent_count table (other ∷ others) (id ∷ ids) few = ap suc (lent_count table others ids (omega (arith, few)))

pub lent_at_place : (table others : List Automaton) (ids : Names) (k : ℕ) (a d : Automaton) (id : Option SetId) → k < length ids → k < length others
    → get_or (sets_or table others ids) k d ≡ set_or table (get_or others k a) (get_or ids k id)
lent_at_place table [] ids k a d id in_ids in_others = absurd (omega (arith, in_others))
lent_at_place table (other ∷ others) [] k a d id in_ids in_others = absurd (omega (arith, in_ids))
lent_at_place table (other ∷ others) (i ∷ ids) zero a d id in_ids in_others = refl
lent_at_place table (other ∷ others) (i ∷ ids) (suc k) a d id in_ids in_others = lent_at_place table others ids k a d id (omega (arith, in_ids)) (omega (arith, in_others))

-- one more of the sets that are lent
pub lent_more : (table others : List Automaton) (ids : Names) (k : ℕ) (a : Automaton) (id : Option SetId) (sets : List Automaton) → k < length ids
    → length ids ≤ length others → sets ≡ take k (sets_or table others ids)
    → sets ++ set_or table (get_or others k a) (get_or ids k id) ∷ [] ≡ take (k + 1) (sets_or table others ids)
lent_more table others ids k a id sets within few are =
    let here = lent_at_place table others ids k a a id within (omega (arith, within, few)) in
    ap (λ l. l ++ set_or table (get_or others k a) (get_or ids k id) ∷ []) are
    ∙ ap (λ x. take k (sets_or table others ids) ++ x ∷ []) (sym here)
    ∙ sym (take_more (sets_or table others ids) k a (omega (arith, lent_count table others ids few, within)))

pub lent_all : (table others : List Automaton) (ids : Names) (k : ℕ) → k ≡ length ids → length ids ≤ length others → take k (sets_or table others ids) ≡ sets_or table others ids
lent_all table others ids k is few = take_all k (sets_or table others ids) (omega (arith, is, lent_count table others ids few))
