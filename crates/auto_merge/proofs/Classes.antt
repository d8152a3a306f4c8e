-- Classes that are given one by one.
use Rattle.std.proofs.Common.{◌≡◌, ◌≢◌, ◌⊎◌, ℕ, ◌<◌, ◌≤◌, Bool, true, false, List, [], ◌∷◌, ◌++◌, length, get_or, slice_get, Some, None, arith, refl, sym, ap, ◌∙◌, subst, inl, inr}
use Rattle.std.proofs.lemmas.Bool.{cases_eq, cases_lt}
use Rattle.std.proofs.lemmas.List.{length_push, get_or_push, get_or_append_left}
use Rattle.std.proofs.lemmas.Option.{slice_get_within, slice_get-get_or, get_or_from_slice_get, same_Some}
use Rattle.letter_diagram.specs.declared.diagrams.Shape.{Shape}
use Rattle.letter_diagram.specs.Diagram.{map_at, Grows}
use Rattle.letter_diagram.proofs.Maps.{Grows-refl}
use Rattle.auto_walk.specs.Walker.{Walker}
use Rattle.auto_walk.specs.Rows.{Extends}
use Rattle.auto_walk.proofs.RowLemmas.{Extends-refl, length_le-Extends}
use Rattle.auto_merge.specs.declared.keys.TheConstants.{NO_CLASS}
use Rattle.auto_merge.specs.Graph.{Graph}
use Rattle.auto_merge.specs.Keys.{class_in, HasClass, IsValueOf}
use Rattle.auto_merge.specs.Merging.{HasOwner, HaveOneClass, IsSettled, IsClassed, OwnsClass, AreClasses, IsKeyOf, IsKeyed, by_flag, AreKeyed, IsRowKey, CanJoin, IsClassGiven, IsClassOfKey, AgreesWith}
use Rattle.auto_merge.proofs.Leads.{HaveMore, HaveMore-extends, HaveMore-table, IsValueOf-more, classed_within}

pub flags_differ : (f flag : Bool) → (f ≡ flag) ⊎ (f ≢ flag)
flags_differ true true = inl refl
flags_differ false false = inl refl
flags_differ true false = inr (λ e. absurd (let f = e in cc))
flags_differ false true = inr (λ e. absurd (let f = e in cc))

-- ---- owners

-- each class that had an owner keeps it
pub record KeepsOwners (owners more : List ℕ) : Type 0 where
  pub kept : (class number : ℕ) → slice_get owners class ≡ Some number → slice_get more class ≡ Some number

pub KeepsOwners-refl : (owners : List ℕ) → KeepsOwners owners owners
KeepsOwners-refl owners = record { kept = λ class number is. is }

pub KeepsOwners-longer : {owners more : List ℕ} → KeepsOwners owners more → length owners ≤ length more
KeepsOwners-longer {owners = []} keeps = omega arith
KeepsOwners-longer {owners = n ∷ owners} {more} keeps =
    let at = keeps.kept (length owners) (get_or (n ∷ owners) (length owners) 0) (slice_get-get_or (n ∷ owners) (length owners) 0 (omega arith)) in
    let within = slice_get_within more (length owners) (get_or (n ∷ owners) (length owners) 0) at in
    omega (arith, within)

pub KeepsOwners-push : (owners : List ℕ) (number : ℕ) → KeepsOwners owners (owners ++ number ∷ [])
KeepsOwners-push owners number = record {
  kept = λ class first is.
      let within = slice_get_within owners class first is in
      let size = length_push owners number in
      slice_get-get_or (owners ++ number ∷ []) class first (omega (arith, within, size))
      ∙ ap Some (get_or_append_left owners (number ∷ []) first class within ∙ get_or_from_slice_get owners class first first is);
}

pub KeepsOwners-key : {keyed more owners after : List ℕ} {key number class : ℕ} → IsClassOfKey keyed more owners after key number class → KeepsOwners owners after
KeepsOwners-key {owners = owners} {number = number} is = elim is [
  | inl had ↦ subst (KeepsOwners owners) (sym had.owners_same) (KeepsOwners-refl owners)
  | inr new ↦ subst (KeepsOwners owners) (sym new.owners_more) (KeepsOwners-push owners number)
]

-- the last owner
pub owner-last : (owners : List ℕ) (number class : ℕ) → class ≡ length owners → slice_get (owners ++ number ∷ []) class ≡ Some number
owner-last owners number class is =
    slice_get-get_or (owners ++ number ∷ []) class 0 (let size = length_push owners number in omega (arith, size, is))
    ∙ ap Some (get_or_push owners number 0 class (sym is))

pub HasOwner-more : {old new : List (List ℕ)} {owners more : List ℕ} → Extends old new → KeepsOwners owners more → {class : ℕ} {place : List ℕ} → HasOwner old owners class place → HasOwner new more class place
HasOwner-more extends keeps {class} {place} has = record {
  number = has.number;
  at = keeps.kept class has.number has.at;
  is = extends.kept has.number place has.is;
}

-- a class has one owner
pub one_owner : {places : List (List ℕ)} {owners : List ℕ} (class : ℕ) (p q : List ℕ) → HasOwner places owners class p → HasOwner places owners class q → p ≡ q
one_owner {places} class p q h k =
    let same = same_Some h.number k.number (sym h.at ∙ k.at) in
    same_Some p q (sym h.is ∙ ap (slice_get places) same ∙ k.is)

-- ---- what is more

pub HaveOneClass-more : {old new : List (List ℕ)} {table more : List ℕ} {p q : List ℕ} → HaveMore old table new more → HaveOneClass old table p q → HaveOneClass new more p q
HaveOneClass-more {p = p} {q = q} have one = record { class = one.class; first = have.kept p one.class one.first; second = have.kept q one.class one.second }

pub IsSettled-more : {w : Walker} {old new : List (List ℕ)} {table more : List ℕ} {p q : List ℕ} → HaveMore old table new more → IsSettled w old table p q → IsSettled w new more p q
IsSettled-more have settled = record { same = λ letter below. HaveOneClass-more have (settled.same letter below) }

pub IsKeyOf-more : {w : Walker} {old new : List (List ℕ)} {table more : List ℕ} {shapes after : List Shape} {number node : ℕ} {place : List ℕ} → Extends old new → HaveMore old table new more
    → Grows shapes after → IsKeyOf w old table shapes number place node → IsKeyOf w new more after number place node
IsKeyOf-more {w} {old} {new} {table} {more} {shapes} {after} {number} {node} {place} extends have grows key =
    let known = key.known in
    let longer = grows.longer in
    record {
      is = extends.kept number place key.is;
      known = omega (arith, known, longer);
      values = λ letter below.
          subst (IsValueOf new more (Some number) (w.next place letter)) (sym (grows.map node letter key.known)) (IsValueOf-more (Some number) extends have _ _ (key.values letter below));
    }

module _ {old new : List (List ℕ)} {table more owners after_owners : List ℕ} (extends : Extends old new) (have : HaveMore old table new more) (keeps : KeepsOwners owners after_owners) where
  pub OwnsClass-more : {class : ℕ} → OwnsClass old table owners class → OwnsClass new more after_owners class
  OwnsClass-more {class} own = record { owner = own.owner; has = HasOwner-more extends keeps own.has; class_is = have.kept own.owner class own.class_is }

  module _ {w : Walker} where
    pub IsClassed-more : {place : List ℕ} {class : ℕ} → IsClassed w old table owners place class → IsClassed w new more after_owners place class
    IsClassed-more is = record {
      owner = is.owner;
      has = HasOwner-more extends keeps is.has;
      flag = is.flag;
      rows = elim is.rows [ inl same ↦ inl same | inr settled ↦ inr (IsSettled-more have settled) ];
    }

    module _ {shapes after : List Shape} (grows : Grows shapes after) where
      pub IsKeyed-more : {flag : Bool} {node class : ℕ} → IsKeyed w old table owners shapes flag node class → IsKeyed w new more after_owners after flag node class
      IsKeyed-more {class = class} is = record {
        number = is.number;
        at = keeps.kept class is.number is.at;
        place = is.place;
        flag_is = is.flag_is;
        key = IsKeyOf-more extends have grows is.key;
      }

      pub AreKeyed-more : {keyed : Bool → List ℕ} → AreKeyed w old table owners shapes keyed → AreKeyed w new more after_owners after keyed
      AreKeyed-more all = record { at = λ flag node class at some. IsKeyed-more (all.at flag node class at some) }

-- ---- places that are numbered

-- the places that have a class were numbered before
HasClass-before : {old new : List (List ℕ)} {table : List ℕ} → Extends old new → length table ≤ length old → (place : List ℕ) (class : ℕ) → HasClass new table place class → HasClass old table place class
HasClass-before {old} {new} {table} extends room place class has =
    let within = classed_within table has.number (λ e. has.is_class (sym has.class_is ∙ e)) in
    let there : has.number < length old = omega (arith, within, room) in
    let at = slice_get-get_or old has.number [] there in
    let same = same_Some _ place (sym (extends.kept has.number _ at) ∙ has.is) in
    record { number = has.number; is = at ∙ ap Some same; class_is = has.class_is; is_class = has.is_class }

pub AreClasses-extends : {w : Walker} {old new : List (List ℕ)} {table owners : List ℕ} → Extends old new → AreClasses w old table owners → AreClasses w new table owners
AreClasses-extends {w} {old} {new} {table} {owners} extends all =
    let have = HaveMore-extends table extends in
    let keeps = KeepsOwners-refl owners in
    record {
      room = let room = all.room in let longer = length_le-Extends old new extends in omega (arith, room, longer);
      classed = λ place class has. IsClassed-more extends have keeps (all.classed place class (HasClass-before extends all.room place class has));
      own = λ class below. OwnsClass-more extends have keeps (all.own class below);
      few = all.few;
    }

-- ---- a class that is given

module _ {places : List (List ℕ)} {old new : List ℕ} {number class : ℕ} {place : List ℕ} (given : IsClassGiven old new number class) (none : class_in old number ≡ NO_CLASS)
    (there : slice_get places number ≡ Some place) where
  pub HaveMore-give : HaveMore places old places new
  HaveMore-give = HaveMore-table places (λ other some. given.others other (λ e. some (ap (class_in old) e ∙ none)))

  -- the place has the class now
  pub HasClass-given : class ≢ NO_CLASS → HasClass places new place class
  HasClass-given some = record { number = number; is = there; class_is = given.here; is_class = some }

  -- no other place got one
  HasClass-either : (p : List ℕ) (c : ℕ) → HasClass places new p c → (place ≡ p) × (class ≡ c) ⊎ HasClass places old p c
  HasClass-either p c has = elim (cases_eq has.number number) [
    | inl e ↦ inl (same_Some place p (sym there ∙ ap (slice_get places) (sym e) ∙ has.is), sym given.here ∙ ap (class_in new) (sym e) ∙ has.class_is)
    | inr ne ↦ inr (record { number = has.number; is = has.is; class_is = sym (given.others has.number ne) ∙ has.class_is; is_class = has.is_class })
  ]

  module _ (w : Walker) where
    -- the place gets a class of its own
    pub AreClasses-own : {owners : List ℕ} → class ≡ length owners → class ≢ NO_CLASS → AreClasses w places old owners → AreClasses w places new (owners ++ number ∷ [])
    AreClasses-own {owners} is some all =
        let keeps = KeepsOwners-push owners number in
        let size = length_push owners number in
        let owner : HasOwner places (owners ++ number ∷ []) class place = record { number = number; at = owner-last owners number class is; is = there } in
        record {
          room = given.few (length places) all.room (slice_get_within places number place there);
          classed = λ p c has. elim (HasClass-either p c has) [
            | inl here ↦ subst (IsClassed w places new (owners ++ number ∷ []) p) here.1 (record {
              owner = place;
              has = owner;
              flag = ap w.final here.0;
              rows = inl here.0;
            })
            | inr before ↦ IsClassed-more (Extends-refl places) HaveMore-give keeps (all.classed p c before)
          ];
          own = λ c below. elim (cases_lt c (length owners)) [
            | inl before ↦ OwnsClass-more (Extends-refl places) HaveMore-give keeps (all.own c before)
            | inr past ↦
                let e : class ≡ c = omega (arith, size, below, past, is) in
                subst (OwnsClass places new (owners ++ number ∷ [])) e (record { owner = place; has = owner; class_is = HasClass-given some })
          ];
          few = let few = all.few in let more = given.more in omega (arith, size, few, more);
        }

    -- the place gets the class of another, whose row leads to the same classes
    pub AreClasses-shared : {owners : List ℕ} (owner : List ℕ) → HasOwner places owners class owner → w.final owner ≡ w.final place → IsSettled w places new place owner
        → AreClasses w places old owners → AreClasses w places new owners
    AreClasses-shared {owners} owner has_owner flag settled all =
        let keeps = KeepsOwners-refl owners in
        record {
          room = given.few (length places) all.room (slice_get_within places number place there);
          classed = λ p c has. elim (HasClass-either p c has) [
            | inl here ↦ subst (IsClassed w places new owners p) here.1 (subst (λ q. IsClassed w places new owners q class) here.0 (record {
              owner = owner;
              has = has_owner;
              flag = flag;
              rows = inr settled;
            }))
            | inr before ↦ IsClassed-more (Extends-refl places) HaveMore-give keeps (all.classed p c before)
          ];
          own = λ c below. OwnsClass-more (Extends-refl places) HaveMore-give keeps (all.own c below);
          few = let few = all.few in let more = given.more in omega (arith, few, more);
        }

    -- a place with the key of a class leads to the same classes as its owner
    pub IsSettled-key : {shapes : List Shape} {node other : ℕ} (owner : List ℕ) → HasClass places old owner class → class ≢ NO_CLASS
        → IsKeyOf w places old shapes other owner node → IsKeyOf w places old shapes number place node → IsSettled w places new place owner
    IsSettled-key {shapes} {node} owner has some theirs mine = record {
      same = λ letter below. elim (mine.values letter below) [
        | inl led ↦ elim (theirs.values letter below) [
          | inl their ↦ record { class = map_at shapes node letter; first = HaveMore-give.kept _ _ led; second = HaveMore-give.kept _ _ their }
          | inr self ↦ absurd (led.is_class self.1)
        ]
        | inr here ↦ elim (theirs.values letter below) [
          | inl their ↦ absurd (their.is_class here.1)
          | inr self ↦
              let mine_is = same_Some place (w.next place letter) (sym there ∙ here.0) in
              let their_is = same_Some owner (w.next owner letter) (sym theirs.is ∙ self.0) in
              record {
                class = class;
                first = subst (λ p. HasClass places new p class) mine_is (HasClass-given some);
                second = subst (λ p. HasClass places new p class) their_is (HaveMore-give.kept owner class has);
              }
        ]
      ];
    }

    pub IsSettled-join : {owners : List ℕ} (can : CanJoin w places old owners number class) → class ≢ NO_CLASS → IsSettled w places new place can.owner
    IsSettled-join can some =
        let same_place = same_Some can.place place (sym can.is ∙ there) in
        subst (λ p. IsSettled w places new p can.owner) same_place (record {
          same = λ letter below. elim (can.rows letter below) [
            | inl self ↦ record {
              class = class;
              first = subst (λ p. HasClass places new p class) (same_Some place (w.next can.place letter) (sym there ∙ self.0)) (HasClass-given some);
              second = HaveMore-give.kept _ class self.1;
            }
            | inr one ↦ HaveOneClass-more HaveMore-give one
          ];
        })

    -- the key of a place that gets a class of its own is its class's
    pub AreKeyed-own : (owners : List ℕ) {shapes : List Shape} (flag : Bool) {node : ℕ} {keyed more : Bool → List ℕ}
        → class ≡ length owners → w.final place ≡ flag → IsKeyOf w places old shapes number place node
        → IsClassGiven (keyed flag) (more flag) node class → ((f : Bool) → f ≢ flag → more f ≡ keyed f) → AreKeyed w places old owners shapes keyed
        → AreKeyed w places new (owners ++ number ∷ []) shapes more
    AreKeyed-own owners {shapes} flag {node} {keyed} {more} is flag_is key given_key others all = record {
      at = λ f n c at some. by f n c (flags_differ f flag) at some;
    }
      where
        own : IsKeyed w places new (owners ++ number ∷ []) shapes flag node class
        own = record {
          number = number;
          at = owner-last owners number class is;
          place = place;
          flag_is = flag_is;
          key = IsKeyOf-more (Extends-refl places) HaveMore-give (Grows-refl shapes) key;
        }

        before : (f : Bool) (n c : ℕ) → class_in (keyed f) n ≡ c → c ≢ NO_CLASS → IsKeyed w places new (owners ++ number ∷ []) shapes f n c
        before f n c at some = IsKeyed-more (Extends-refl places) HaveMore-give (KeepsOwners-push owners number) (Grows-refl shapes) (all.at f n c at some)

        by : (f : Bool) (n c : ℕ) → (f ≡ flag) ⊎ (f ≢ flag) → class_in (more f) n ≡ c → c ≢ NO_CLASS → IsKeyed w places new (owners ++ number ∷ []) shapes f n c
        by f n c (inr differ) at some = before f n c (sym (ap (λ l. class_in l n) (others f differ)) ∙ at) some
        by f n c (inl same) at some =
            let there : class_in (more flag) n ≡ c = sym (ap (λ b. class_in (more b) n) same) ∙ at in
            subst (λ b. IsKeyed w places new (owners ++ number ∷ []) shapes b n c) (sym same) (elim (cases_eq n node) [
              | inl here ↦
                  let first : class ≡ c = sym given_key.here ∙ ap (class_in (more flag)) (sym here) ∙ there in
                  let at_node : IsKeyed w places new (owners ++ number ∷ []) shapes flag node c = subst (IsKeyed w places new (owners ++ number ∷ []) shapes flag node) first own in
                  subst (λ k. IsKeyed w places new (owners ++ number ∷ []) shapes flag k c) (sym here) at_node
              | inr other ↦ before flag n c (sym (given_key.others n other) ∙ there) some
            ])

-- the classes of keys by the other flag
pub by_flag-finals : (finals more others : List ℕ) (flag : Bool) → flag ≢ true → by_flag more others flag ≡ by_flag finals others flag
by_flag-finals finals more others true differ = absurd (differ refl)
by_flag-finals finals more others false differ = refl

pub by_flag-others : (finals others more : List ℕ) (flag : Bool) → flag ≢ false → by_flag finals more flag ≡ by_flag finals others flag
by_flag-others finals others more true differ = refl
by_flag-others finals others more false differ = absurd (differ refl)

-- the same classes of keys
pub AreKeyed-same : {w : Walker} {places : List (List ℕ)} {table owners : List ℕ} {shapes : List Shape} {keyed more : Bool → List ℕ} → ((f : Bool) → more f ≡ keyed f)
    → AreKeyed w places table owners shapes keyed → AreKeyed w places table owners shapes more
AreKeyed-same same all = record { at = λ flag node class at some. all.at flag node class (sym (ap (λ l. class_in l node) (same flag)) ∙ at) some }

-- ---- keys of rows

-- the key of the row of a number, as it may become the key of a class
pub IsKeyOf-row : {Spot : Type 0} {g : Graph Spot} {places : List (List ℕ)} {table : List ℕ} {shapes : List Shape} {number node : ℕ} (key : IsRowKey g places table shapes (Some number) number node)
    → IsKeyOf g.walker places table shapes number key.row.place node
IsKeyOf-row {Spot} {g} {places} {table} {shapes} {number} {node} key = record {
  is = key.row.is;
  known = key.led.known;
  values = λ letter below.
      subst (λ p. IsValueOf places table (Some number) p (map_at shapes node letter)) (key.row.row.leads letter below) (key.led.values letter);
}

-- a place whose key agrees with the row of a class may have the class
pub CanJoin-agrees : {Spot : Type 0} {g : Graph Spot} {places : List (List ℕ)} {table owners : List ℕ} {shapes : List Shape} {number class owner key row : ℕ}
    → slice_get owners class ≡ Some owner → IsRowKey g places table shapes (Some number) number key → IsRowKey g places table shapes None owner row
    → ((p q : List ℕ) → slice_get places number ≡ Some p → slice_get places owner ≡ Some q → g.walker.final q ≡ g.walker.final p) → AgreesWith shapes key row class
    → CanJoin g.walker places table owners number class
CanJoin-agrees {Spot} {g} {places} {table} {owners} {shapes} {number} {class} {owner} {key} {row} at mine theirs flags agrees =
    let w = g.walker in
    let p = mine.row.place in
    let q = theirs.row.place in
    record {
      place = p;
      is = mine.row.is;
      owner = q;
      has = record { number = owner; at = at; is = theirs.row.is };
      flag = flags p q mine.row.is theirs.row.is;
      rows = λ letter below.
          let led : HasClass places table (g.leads theirs.spot letter) (map_at shapes row letter) = elim (theirs.led.values letter) [ inl has ↦ has | inr self ↦ absurd self.0 ] in
          let their = subst (λ n. HasClass places table n (map_at shapes row letter)) (theirs.row.row.leads letter below) led in
          let is = subst (λ n. IsValueOf places table (Some number) n (map_at shapes key letter)) (mine.row.row.leads letter below) (mine.led.values letter) in
          elim is [
            | inl has ↦ elim (agrees.at letter) [
              | inl same ↦ inr (record { class = map_at shapes key letter; first = has; second = subst (HasClass places table (w.next q letter)) (sym same) their })
              | inr none ↦ absurd (has.is_class none.0)
            ]
            | inr self ↦ elim (agrees.at letter) [
              | inl same ↦ absurd (their.is_class (sym same ∙ self.1))
              | inr none ↦ inl (self.0, subst (HasClass places table (w.next q letter)) none.1 their)
            ]
          ];
    }
