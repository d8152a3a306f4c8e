-- Classes of places that are assigned one by one. A place gets a class if its row leads to places with classes, or to itself: the
-- class of another such place with the same row, or a new one.
use Rattle.std.specs.Prelude.{◌≡◌, ◌≢◌, ◌⊎◌, ℕ, ◌<◌, ◌≤◌, ◌+◌, ◌++◌, ◌∷◌, [], ◌^◌, Bool, true, false, List, Option, length, slice_get, Some, None, sum_by, nat_eq, if◌then◌else◌}
use Rattle.letter_diagram.specs.declared.diagrams.Shape.{Shape}
use Rattle.letter_diagram.specs.Diagram.{map_at, Grows}
use Rattle.auto_walk.specs.Walker.{Walker}
use Rattle.auto_walk.specs.Rows.{Extends}
use Rattle.auto_merge.specs.declared.keys.TheConstants.{NO_CLASS}
use Rattle.auto_merge.specs.declared.keys.NoKey.{NoKey}
use Rattle.auto_merge.specs.declared.rows.Key.{Key}
use Rattle.auto_merge.specs.declared.merging.Merging.{Merging}
use Rattle.auto_merge.specs.Graph.{Graph, AreSeen, IsRowAt, mark_of}
use Rattle.auto_merge.specs.Keys.{class_in, HasClass, IsOwn, IsValueOf, IsLedBy, IsUnclassed, IsNoKey, Remembers}

-- the number of numbers with a class
abbrev pub classed_count : List ℕ → ℕ
classed_count table = sum_by (λ class. if nat_eq class NO_CLASS then 0 else 1) table

-- the first place of a class
pub record HasOwner (places : List (List ℕ)) (owners : List ℕ) (class : ℕ) (place : List ℕ) : Type 0 where
  pub number : ℕ
  pub at : slice_get owners class ≡ Some number
  pub is : slice_get places number ≡ Some place

-- two places of one class
pub record HaveOneClass (places : List (List ℕ)) (table : List ℕ) (p q : List ℕ) : Type 0 where
  pub class : ℕ
  pub first : HasClass places table p class
  pub second : HasClass places table q class

-- each letter leads from two places to places of one class
pub record IsSettled (w : Walker) (places : List (List ℕ)) (table : List ℕ) (p q : List ℕ) : Type 0 where
  pub same : (letter : ℕ) → letter < 2 ^ length w.tracks → HaveOneClass places table (w.next p letter) (w.next q letter)

-- the class of a place is that of a place with the same flag, which is this place or leads to the same classes
pub record IsClassed (w : Walker) (places : List (List ℕ)) (table owners : List ℕ) (place : List ℕ) (class : ℕ) : Type 0 where
  pub owner : List ℕ
  pub has : HasOwner places owners class owner
  pub flag : w.final owner ≡ w.final place
  pub rows : (owner ≡ place) ⊎ IsSettled w places table place owner

-- the first place of a class is in the class
pub record OwnsClass (places : List (List ℕ)) (table owners : List ℕ) (class : ℕ) : Type 0 where
  pub owner : List ℕ
  pub has : HasOwner places owners class owner
  pub class_is : HasClass places table owner class

-- the class of each number that has one, and for each class the number of its first place
pub record AreClasses (w : Walker) (places : List (List ℕ)) (table owners : List ℕ) : Type 0 where
  pub room : length table ≤ length places
  pub classed : (place : List ℕ) (class : ℕ) → HasClass places table place class
      → IsClassed w places table owners place class
  pub own : (class : ℕ) → class < length owners → OwnsClass places table owners class
  pub few : length owners ≤ classed_count table

-- a node gives for each letter the value of the place that follows the place with a number
pub record IsKeyOf (w : Walker) (places : List (List ℕ)) (table : List ℕ) (shapes : List Shape) (number : ℕ) (place : List ℕ)
    (node : ℕ) : Type 0 where
  pub is : slice_get places number ≡ Some place
  pub known : node < length shapes
  pub values : (letter : ℕ) → letter < 2 ^ length w.tracks
      → IsValueOf places table (Some number) (w.next place letter) (map_at shapes node letter)

-- a flag and a node that are those of the row of a class's first number
pub record IsKeyed (w : Walker) (places : List (List ℕ)) (table owners : List ℕ) (shapes : List Shape) (flag : Bool)
    (node class : ℕ) : Type 0 where
  pub number : ℕ
  pub at : slice_get owners class ≡ Some number
  pub place : List ℕ
  pub flag_is : w.final place ≡ flag
  pub key : IsKeyOf w places table shapes number place node

-- the classes of keys by flag: those of accepting places, or the others
abbrev pub by_flag : List ℕ → List ℕ → Bool → List ℕ
by_flag finals others true = finals
by_flag finals others false = others

-- each key's class is that of a number with the flag and this row
pub record AreKeyed (w : Walker) (places : List (List ℕ)) (table owners : List ℕ) (shapes : List Shape) (keyed : Bool → List ℕ) : Type
    0 where
  pub at : (flag : Bool) (node class : ℕ) → class_in (keyed flag) node ≡ class → class ≢ NO_CLASS
      → IsKeyed w places table owners shapes flag node class

-- the row of a number mapped to classes, except where it leads to the place of a number that may have none
pub record IsRowKey {Spot : Type 0} (g : Graph Spot) (places : List (List ℕ)) (table : List ℕ) (shapes : List Shape)
    (own : Option ℕ) (number node : ℕ) : Type 0 where
  pub spot : Spot
  pub row : IsRowAt g places number spot
  pub led : IsLedBy g places table shapes own spot node

-- a letter leads from two places to places of one class, if the place of a number is assumed to be in the class
abbrev pub IsJoinedAt : List (List ℕ) → List ℕ → ℕ → ℕ → List ℕ → List ℕ → Type 0
IsJoinedAt places table number class p q =
    (IsOwn places (Some number) p × HasClass places table q class) ⊎ HaveOneClass places table p q

-- a number without a class whose row is that of the class, if the number's place is assumed to be in the class
pub record CanJoin (w : Walker) (places : List (List ℕ)) (table owners : List ℕ) (number class : ℕ) : Type 0 where
  pub place : List ℕ
  pub is : slice_get places number ≡ Some place
  pub owner : List ℕ
  pub has : HasOwner places owners class owner
  pub flag : w.final owner ≡ w.final place
  pub rows : (letter : ℕ) → letter < 2 ^ length w.tracks
      → IsJoinedAt places table number class (w.next place letter) (w.next owner letter)

-- the table is extended to this many numbers; the new ones have no class
pub record IsRoomMade (old new : List ℕ) (count : ℕ) : Type 0 where
  pub room : count ≤ length new
  pub few : (bound : ℕ) → length old ≤ bound → count ≤ bound → length new ≤ bound
  pub counted : classed_count new ≡ classed_count old

-- one number without a class gets one
pub record IsClassGiven (old new : List ℕ) (number class : ℕ) : Type 0 where
  pub few : (bound : ℕ) → length old ≤ bound → number < bound → length new ≤ bound
  pub here : class_in new number ≡ class
  pub others : (other : ℕ) → other ≢ number → class_in new other ≡ class_in old other
  pub more : classed_count new ≡ classed_count old + 1

-- the class that a key had
pub record HadClass (keyed more owners after : List ℕ) (key class : ℕ) : Type 0 where
  pub class_is : class_in keyed key ≡ class
  pub is_class : class ≢ NO_CLASS
  pub keyed_same : more ≡ keyed
  pub owners_same : after ≡ owners

-- a key gets a new class, whose first number is given
pub record GetsNewClass (keyed more owners after : List ℕ) (key number class : ℕ) : Type 0 where
  pub class_is : class ≡ length owners
  pub given : IsClassGiven keyed more key class
  pub owners_more : after ≡ owners ++ number ∷ []

-- the class of a key: its previous one, or a new one
abbrev pub IsClassOfKey : List ℕ → List ℕ → List ℕ → List ℕ → ℕ → ℕ → ℕ → Type 0
IsClassOfKey keyed more owners after key number class =
    HadClass keyed more owners after key class ⊎ GetsNewClass keyed more owners after key number class

-- a letter at which a node's value is a class
pub record LeadsToClass (shapes : List Shape) (key class : ℕ) : Type 0 where
  pub letter : ℕ
  pub leads : map_at shapes key letter ≡ class
  pub is_class : class ≢ NO_CLASS

-- a map that equals another one, except that it is NO_CLASS at some letters at which the other is a class
pub record AgreesWith (shapes : List Shape) (key row class : ℕ) : Type 0 where
  pub at : (letter : ℕ)
      → (map_at shapes key letter ≡ map_at shapes row letter)
      ⊎ ((map_at shapes key letter ≡ NO_CLASS) × (map_at shapes row letter ≡ class))

-- the numbered places, their classes, the keys with a class, and the cached keys
pub record IsMerging {R Spot Seen Memo : Type 0} (g : Graph Spot) (places : Seen → List (List ℕ))
    (answers : Memo → Option ℕ → Spot → ℕ → Type 0) (m : Merging R Spot Seen Memo) : Type 0 where
  pub seen : AreSeen g (places m.led.seen)
  pub classes : AreClasses g.walker (places m.led.seen) m.table.items m.owners.items
  pub keys : AreKeyed g.walker (places m.led.seen) m.table.items m.owners.items m.led.to (by_flag m.keyed_final.items m.keyed.items)
  pub remembered : Remembers g (places m.led.seen) m.table.items m.led.to (answers m.led.memo)

-- numbers, classes and keys stay as they were
pub record Keeps {R Spot Seen Memo : Type 0} (places : Seen → List (List ℕ)) (old new : Merging R Spot Seen Memo) : Type
    0 where
  pub numbers : Extends (places old.led.seen) (places new.led.seen)
  pub classes : (place : List ℕ) (class : ℕ) → HasClass (places old.led.seen) old.table.items place class
      → HasClass (places new.led.seen) new.table.items place class
  pub owners : (class number : ℕ) → slice_get old.owners.items class ≡ Some number
      → slice_get new.owners.items class ≡ Some number
  pub nodes : Grows old.led.to new.led.to
  pub counted : classed_count old.table.items ≤ classed_count new.table.items

abbrev pub IsUnclassedIn : {R Spot Seen Memo : Type 0} → (Seen → List (List ℕ)) → Merging R Spot Seen Memo → ℕ → Type 0
IsUnclassedIn places m number = IsUnclassed (places m.led.seen) m.table.items number

abbrev pub IsClassedIn : {R Spot Seen Memo : Type 0} → Merging R Spot Seen Memo → ℕ → Type 0
IsClassedIn m number = class_in m.table.items number ≢ NO_CLASS

abbrev pub IsKnownClassIn : {R Spot Seen Memo : Type 0} → Merging R Spot Seen Memo → ℕ → Type 0
IsKnownClassIn m class = class < length m.owners.items

-- the key of a spot
abbrev pub IsSpotKeyIn : {R Spot Seen Memo : Type 0} → Graph Spot → (Seen → List (List ℕ))
    → Merging R Spot Seen Memo → Option ℕ → Spot → Key → Type 0
IsSpotKeyIn g places m own spot key =
    IsLedBy g (places m.led.seen) m.table.items m.led.to (mark_of key.whole own) spot key.node

-- why a spot has no key
abbrev pub IsNoSpotKeyIn : {R Spot Seen Memo : Type 0} → Graph Spot → (Seen → List (List ℕ))
    → Merging R Spot Seen Memo → NoKey → Type 0
IsNoSpotKeyIn g places m why = IsNoKey g (places m.led.seen) m.table.items why

-- the key of the row of a number whose place may have no class
abbrev pub IsRowKeyIn : {R Spot Seen Memo : Type 0} → Graph Spot → (Seen → List (List ℕ))
    → Merging R Spot Seen Memo → ℕ → ℕ → Type 0
IsRowKeyIn g places m number node = IsRowKey g (places m.led.seen) m.table.items m.led.to (Some number) number node

-- the row of a number, each of whose places has a class
abbrev pub IsOwnerRowIn : {R Spot Seen Memo : Type 0} → Graph Spot → (Seen → List (List ℕ))
    → Merging R Spot Seen Memo → ℕ → ℕ → Type 0
IsOwnerRowIn g places m number node = IsRowKey g (places m.led.seen) m.table.items m.led.to None number node

-- a number may get a class that another number was the first to get
abbrev pub MayShareIn : {R Spot Seen Memo : Type 0} → Graph Spot → (Seen → List (List ℕ))
    → Merging R Spot Seen Memo → ℕ → ℕ → Type 0
MayShareIn g places m number class = CanJoin g.walker (places m.led.seen) m.table.items m.owners.items number class
