-- RowSource that are led to classes, where places get one on the way.
use Rattle.std.proofs.Common.{◌≡◌, ◌≢◌, ℕ, ◌<◌, Bool, true, false, List, Vec, Global, length, Option, Some, slice_get, Result, Ok, Err, IfOk, IfErr, arith, refl, sym, ap, ◌∙◌, subst, inl, inr}
use Rattle.letter_diagram.specs.declared.diagrams.Shape.{Shape}
use Rattle.letter_diagram.specs.Diagram.{Grows}
use Rattle.letter_diagram.proofs.Maps.{Grows-refl}
use Rattle.auto_walk.specs.Rows.{Extends}
use Rattle.auto_walk.proofs.RowLemmas.{Extends-refl}
use Rattle.auto_merge.specs.declared.keys.TheConstants.{NO_CLASS}
use Rattle.auto_merge.specs.declared.keys.NoKey.{NoKey}
use Rattle.auto_merge.specs.declared.keys.NoKey.TheVariants.{Unclassed, Over, Memory}
use Rattle.auto_merge.specs.declared.rows.Key.{Key}
use Rattle.auto_merge.specs.declared.merging.Merging.{Merging}
use Rattle.auto_merge.specs.Graph.{Graph, LeadsToOne, mark_of}
use Rattle.auto_merge.specs.Keys.{class_in, IsOwn, IsValueOf, IsLedBy, IsNoKey, IsLeafKey, IsLeafRefused}
use Rattle.auto_merge.specs.Merging.{Keeps}
use Rattle.auto_merge.specs.Visits.{OnLed}
use Rattle.auto_merge.proofs.Mergings.{Keeps-of, KeepsOf-led}

-- ---- how far a row was led

pub OnLed-all : {T P : Type 0} (result : Result T NoKey) → P → OnLed result P
OnLed-all (Ok made) p = p
OnLed-all (Err (Unclassed number)) p = p
OnLed-all (Err Over) p = tt
OnLed-all (Err Memory) p = tt

pub OnLed-more : {T P Q : Type 0} (result : Result T NoKey) → (P → Q) → OnLed result P → OnLed result Q
OnLed-more (Ok made) f h = f h
OnLed-more (Err (Unclassed number)) f h = f h
OnLed-more (Err Over) f h = tt
OnLed-more (Err Memory) f h = tt

-- what is known of a key, by what holds where there is one
pub IfOk-led : {K : Type 0} {P Q : Key → Type 0} (result : Result Key NoKey) → ((key : Key) → K → P key → Q key) → OnLed result K → IfOk result P → IfOk result Q
IfOk-led (Ok key) f k h = f key k h
IfOk-led (Err why) f k h = tt

-- ---- what is kept

module _ {R Spot Seen Memo : Type 0} {places : Seen → List (List ℕ)} where
  -- places are numbered
  pub Keeps-looked : (m : Merging R Spot Seen Memo) (seen : Seen) → Extends (places m.led.seen) (places seen) → Keeps places m (record m { led = record m.led { seen = seen } })
  Keeps-looked m seen extends = Keeps-of _ _ (KeepsOf-led m.table.items m.owners.items extends (Grows-refl m.led.to))

  -- nodes are added
  pub Keeps-nodes : (m : Merging R Spot Seen Memo) (after : List Shape) → Grows m.led.to after → Keeps places m (record m { led = record m.led { to = after } })
  Keeps-nodes m after grows = Keeps-of _ _ (KeepsOf-led m.table.items m.owners.items (Extends-refl (places m.led.seen)) grows)

  pub Keeps-refl : (m : Merging R Spot Seen Memo) → Keeps places m m
  Keeps-refl m = Keeps-of _ _ (KeepsOf-led m.table.items m.owners.items (Extends-refl (places m.led.seen)) (Grows-refl m.led.to))

  -- it is said of a place whether it is visited
  pub Keeps-marked : {m n : Merging R Spot Seen Memo} {visited : Vec Bool Global} → Keeps places (record m { visited = visited }) n → Keeps places m n
  Keeps-marked keeps = record { numbers = keeps.numbers; classes = keeps.classes; owners = keeps.owners; nodes = keeps.nodes; counted = keeps.counted }

-- ---- places that a spot leads to

-- why there is no key of a place's spot
pub IfErr-leaf : {Spot : Type 0} (g : Graph Spot) (places : List (List ℕ)) (table : List ℕ) (number : ℕ) (result : Result Key NoKey) → number < length places → IfErr result (IsLeafRefused table number) → IfErr result (IsNoKey g places table)
IfErr-leaf g places table number (Ok key) within h = tt
IfErr-leaf g places table number (Err (Unclassed named)) within h = record {
  within = subst (λ n. n < length places) (sym h.0) within;
  none = ap (class_in table) h.0 ∙ h.1;
}
IfErr-leaf g places table number (Err Over) within h = absurd h
IfErr-leaf g places table number (Err Memory) within h = tt

-- the value for a place, by whether it has a class
value_of_place : {places : List (List ℕ)} {table : List ℕ} {number : ℕ} {own : Option ℕ} (whole : Bool) (place : List ℕ) → slice_get places number ≡ Some place → (whole ≡ true → class_in table number ≢ NO_CLASS)
    → (whole ≡ false → (own ≡ Some number) × (class_in table number ≡ NO_CLASS)) → IsValueOf places table (mark_of whole own) place (class_in table number)
value_of_place {number = number} true place is given unclassed = inl (record { number = number; is = is; class_is = refl; is_class = given refl })
value_of_place {places} false place is given unclassed =
    let none = unclassed refl in
    inr (subst (λ o. IsOwn places o place) (sym none.0) is, none.1)

pub IsLedBy-leaf : {Spot : Type 0} {g : Graph Spot} {places : List (List ℕ)} {table : List ℕ} {shapes : List Shape} {own : Option ℕ} {spot : Spot} {number : ℕ} (key : Key) → LeadsToOne g places spot number
    → IsLeafKey shapes table number own key → IsLedBy g places table shapes (mark_of key.whole own) spot key.node
IsLedBy-leaf {Spot} {g} {places} {table} {shapes} {own} {spot} {number} key one leaf = record {
  known = leaf.known;
  values = λ letter.
      let here = value_of_place key.whole one.place one.is leaf.given leaf.unclassed in
      let there : IsValueOf places table (mark_of key.whole own) (g.leads spot letter) (class_in table number) = subst (λ p. IsValueOf places table (mark_of key.whole own) p (class_in table number)) (sym (one.leads letter)) here in
      subst (IsValueOf places table (mark_of key.whole own) (g.leads spot letter)) (sym (leaf.map letter)) there;
  top = let spot_top = one.top in let node_top = leaf.top in omega (arith, spot_top, node_top);
}

-- the same after more places were numbered
pub LeadsToOne-more : {Spot : Type 0} {g : Graph Spot} {old new : List (List ℕ)} {spot : Spot} {number : ℕ} → Extends old new → LeadsToOne g old spot number → LeadsToOne g new spot number
LeadsToOne-more {number = number} extends one = record { place = one.place; is = extends.kept number one.place one.is; leads = one.leads; top = one.top }
