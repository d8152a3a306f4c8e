-- What rounds of refinement leave, and what is true when no state moves.
use Rattle.std.proofs.Common.{◌≡◌, ℕ, ◌<◌, ◌≤◌, ◌+◌, ◌-◌, min, List, [], length, get_or, Contains, arith, sym, ap, ◌∙◌, subst, inl, inr}
use Rattle.std.proofs.lemmas.Bool.{cases_eq, cases_lt}
use Rattle.std.proofs.lemmas.Bool.Decides.{Decides-eqb}
use Rattle.std.proofs.lemmas.Map.Made.{is_member-Decides}
use Rattle.letter_diagram.specs.declared.diagrams.Shape.{Shape}
use Rattle.letter_diagram.specs.Diagram.{map_at, Grows}
use Rattle.letter_diagram.proofs.Narrow.{LooksBelow-grows}
use Rattle.auto_core.specs.Automaton.{Automaton, IsAutomaton, width, next_state}
use Rattle.auto_refine.proofs.States.{next_within}
use Rattle.auto_refine.specs.declared.classes.Partition.{Partition}
use Rattle.auto_refine.specs.declared.partition.Refining.{Refining}
use Rattle.auto_refine.specs.Coarsest.{IsCoarsest}
use Rattle.auto_refine.specs.Moves.{IsFiner, KeepsOthers}
use Rattle.auto_refine.specs.Led.{IsLed, IsShared, AreLedRows, AreLedAgain, AreStale}
use Rattle.auto_refine.specs.Refining.{LeadsInto, IsRefined}
use Rattle.auto_refine.proofs.Counting.{decided}
use Rattle.auto_refine.proofs.Splits.{none}

-- what leads to classes leads to those of a finer partition where no next state moved
pub led_to_finer : {a : Automaton} → IsAutomaton a → {shapes : List Shape} {old new : Partition} {moved led : List ℕ}
    → AreLedRows a shapes old.classes.items led → length new.classes.items ≡ length a.accept
    → IsFiner old.classes.items new.classes.items → KeepsOthers old new moved
    → (state : ℕ) → state < length a.accept → IsShared new.classes.items state → ¬ LeadsInto a moved state
    → IsLed a new.classes.items shapes (get_or led state 0) (next_state a state)
led_to_finer {a} is {old} {new} l size finer others state within shared apart =
    let in_new : state < length new.classes.items = omega (arith, within, size) in
    let other_in : shared.other < length old.classes.items = let w = shared.within in let c = l.classes_size in omega (arith, w, c, size) in
    let before = l.at state within (record {
      other = shared.other;
      within = other_in;
      differ = shared.differ;
      same = finer.same state shared.other in_new shared.within shared.same;
    }) in
    record {
      known = before.known;
      narrow = before.narrow;
      leads = λ letter below.
          let next = next_within is state letter in
          let stays = others.kept (next_state a state letter) (let c = l.classes_size in omega (arith, next, c)) (λ there. apart (letter, below, there)) in
          before.leads letter below ∙ sym stays;
    }

-- rows that lead to the classes, where the others are led again
pub AreLedRows-again : {a : Automaton} {shapes more : List Shape} {classes stale led next : List ℕ} → length classes ≡ length a.accept → length led ≡ length a.accept
    → ((state : ℕ) → state < length a.accept → IsShared classes state → ¬ Contains stale state → IsLed a classes shapes (get_or led state 0) (next_state a state))
    → Grows shapes more → AreLedAgain a more stale classes led next → AreLedRows a more classes next
AreLedRows-again {a} {more} {classes} {stale} {led} classes_size size led_before grows again = record {
  classes_size = classes_size;
  size = again.size ∙ size;
  at = λ state within shared. elim (decided _ (is_member-Decides Decides-eqb stale state)) [
    | inl there ↦ again.led state within there
    | inr absent ↦
        let before = led_before state within shared absent in
        subst (λ node. IsLed a classes more node (next_state a state)) (sym (again.kept state within absent)) (record {
          known = let k = before.known in let g = grows.longer in omega (arith, k, g);
          narrow = LooksBelow-grows before.known grows before.narrow;
          leads = λ letter below. grows.map (get_or led state 0) letter before.known ∙ before.leads letter below;
        })
  ];
}

-- fewer rows may lead elsewhere where only those of states that share their class count
pub IsRefined-fewer : {a : Automaton} {r : Refining} {but : ℕ → Type 0} (other : ℕ → Type 0) → IsRefined a r but
    → ((state : ℕ) → state < length a.accept → IsShared r.partition.classes.items state → but state → other state) → IsRefined a r other
IsRefined-fewer other f within = record {
  sound = f.sound;
  listing = f.listing;
  settled = f.settled;
  size = f.size;
  led = λ state known shared apart. f.led state known shared (λ h. apart (within state known shared h));
}

pub IsRefined-stale : {a : Automaton} {r : Refining} (moved stale : List ℕ) → IsRefined a r (LeadsInto a moved)
    → AreStale a r.partition.classes.items moved stale → IsRefined a r (Contains stale)
IsRefined-stale moved stale f s =
    IsRefined-fewer (Contains stale) f (λ state known shared h. s.rest state h.0 known shared h.1 h.2)

-- where no state moved, states of one class lead to one class
rows_respected : {a : Automaton} {r : Refining} → IsRefined a r (LeadsInto a []) → (j k letter : ℕ) → j < length a.accept → k < length a.accept → letter < width a
    → get_or r.partition.classes.items j 0 ≡ get_or r.partition.classes.items k 0 → get_or r.partition.classes.items (next_state a j letter)
    0 ≡ get_or r.partition.classes.items (next_state a k letter) 0
rows_respected {a} {r} f j k letter jw kw below same = elim (cases_eq j k) [
  | inl e ↦ ap (λ n. get_or r.partition.classes.items (next_state a n letter) 0) e
  | inr other ↦
      let classes = r.partition.classes.items in
      let stands = r.listing.representatives.items in
      let states = f.sound.partition.states in
      let jin : j < length classes = omega (arith, jw, states) in
      let kin : k < length classes = omega (arith, kw, states) in
      let j_led = f.led j jw (record { other = k; within = kin; differ = other; same = same }) (λ h. none _ h.2) in
      let k_led = f.led k kw (record { other = j; within = jin; differ = λ (e : k ≡ j). other (sym e); same = sym same }) (λ h. none _ h.2) in
      let j_node = f.settled.at j jin (λ h. none _ h) (λ h. none _ h) in
      let k_node = f.settled.at k kin (λ h. none _ h) (λ h. none _ h) in
      let node : get_or r.led.items j 0 ≡ get_or r.led.items k 0 = j_node ∙ ap (λ c. get_or r.led.items (get_or stands c 0) 0) same ∙ sym k_node in
      sym (j_led.leads letter below) ∙ ap (λ n. map_at r.diagrams n letter) node ∙ k_led.leads letter below
]

pub IsCoarsest-refined : {a : Automaton} {r : Refining} → IsRefined a r (LeadsInto a []) → IsCoarsest a r.partition.classes.items r.partition.count
IsCoarsest-refined f = record {
  partition = f.sound.partition;
  respects = record { flags = f.sound.flags; rows = rows_respected f };
  apart = f.sound.apart;
}

-- there are fewer classes to come, or no state moved where some did before
pub fewer_left : (size old new last moved : ℕ) → 0 < last → old ≤ new → new ≤ size → (0 < moved → old < new) → size - new + min 1 moved < size - old + min 1 last
fewer_left size old new last moved some kept most grown = elim (cases_lt 0 moved) [
  | inl more ↦ let grew = grown more in omega (arith, grew, most, some)
  | inr none ↦ omega (arith, none, kept, most, some)
]
