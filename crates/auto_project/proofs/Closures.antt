-- Rounds of the closure of a row over repeated letters.
use Rattle.std.proofs.Common.{◌≡◌, ◌≢◌, ◌⊎◌, ℕ, ◌<◌, ◌≤◌, ◌+◌, ◌%◌, ◌^◌, List, [], ◌∷◌, length, get_or, slice_index, Contains, arith, sym, ap, ◌∙◌, subst, inl, inr}
use Rattle.std.specs.List.{All, range_with_len}
use Rattle.std.specs.List.Sorted.{IsStrictlyIncreasing}
use Rattle.std.proofs.Math.ListN.{set}
use Rattle.std.proofs.lemmas.Bool.{cases_lt, cases_eq}
use Rattle.std.proofs.lemmas.Nat.{mod_below, pow_pos}
use Rattle.std.proofs.lemmas.Option.{slice_get-get_or, get_or_from_slice_get}
use Rattle.std.proofs.lemmas.List.{get_or_default, get_or-set_same, get_or-set_other}
use Rattle.std.proofs.lemmas.List.Elements.{All-get_or, All-set, All-from_get_or, All-contains, Contains-get_or}
use Rattle.std.proofs.lemmas.List.FromFn.{length-range_with_len}
use Rattle.track_word.specs.declared.tracks.Var.{Var}
use Rattle.track_word.proofs.LetterBits.{low_bits}
use Rattle.letter_diagram.specs.declared.diagrams.Shape.{Shape}
use Rattle.letter_diagram.specs.Diagram.{map_at, Grows}
use Rattle.letter_diagram.specs.Sets.{set_at, SetsKept}
use Rattle.letter_diagram.specs.Leaves.{AreLeaves}
use Rattle.letter_diagram.specs.Composed.{IsComposed}
use Rattle.letter_diagram.specs.Merged.{HasSets, IsUnited}
use Rattle.letter_diagram.proofs.SetNumbers.{SetsKept-refl, SetsKept-trans, set_at-kept}
use Rattle.letter_diagram.proofs.Compositions.{rows-grow, IsComposed-grows}
use Rattle.letter_diagram.proofs.Maps.{Grows-trans}
use Rattle.letter_diagram.proofs.Mergings.{HasSets-grows}
use Rattle.auto_core.specs.Automaton.{Automaton, IsAutomaton}
use Rattle.auto_core.proofs.States.{state_within}
use Rattle.auto_project.specs.Lifted.{Begins, Follows, LiftLeads}
use Rattle.auto_project.specs.SetMaps.{set_of, HasSomeStates, HasStates, HasUnionRows, IsSetRow, AreSetRows, IsLedRow, IsUnionRow, IsSwept}
use Rattle.auto_project.proofs.Lists.{length-wider, all_in_or_one_not, in_or_not, no-element, some-element, Contains-range}
use Rattle.auto_project.proofs.Lifts.{LiftLeads-begins, LiftLeads-follows, LiftLeads-in}
use Rattle.auto_project.proofs.SetMapLemmas.{stays, has-kept, had, AreSetRows-kept, IsLedRow-kept, IsUnionRow-kept, HasStates-kept, HasUnionRows-kept, rows-sets}

-- each of the sets that the node gives has some states, which are states of the automaton
pub HasStates-led : {shapes : List Shape} {sets : List (List ℕ)} {a : Automaton} {some : List Var} {rows : List ℕ} {node : ℕ} → IsAutomaton a → AreSetRows shapes sets a some rows
    → IsLedRow shapes sets a some node → HasStates shapes sets (length rows) node
HasStates-led {shapes} {sets} {a} {some} {rows} {node} valid are led = record {
  is = led.is;
  nonempty = λ letter none.
      let one = some-element (set_of shapes sets node (low letter)) (led.nonempty (low letter) (below letter)) in
      no-element (set_of shapes sets node letter) one.0 none (led.narrow.same (low letter) letter one.0 (λ k h. sym (low_bits letter (length some) k h)) one.1);
  within = λ letter state c.
      let l = led.led (low letter) state (below letter) (led.narrow.same letter (low letter) state (λ k h. low_bits letter (length some) k h) c) in
      subst (λ n. state < n) (sym are.size) (subst (λ n. n < length a.accept) l.leads (state_within valid l.lift));
}
  where
    low : ℕ → ℕ
    low letter = letter % 2 ^ length some

    below : (letter : ℕ) → letter % 2 ^ length some < 2 ^ length some
    below letter = mod_below letter (2 ^ length some) (pow_pos (length some))

-- the rows of the first sets in a table
pub record HasRowsSoFar (shapes : List Shape) (sets : List (List ℕ)) (rows numbers table : List ℕ) (count : ℕ) : Type 0 where
  pub known : All (λ row. row < length shapes) table
  pub union : (k : ℕ) → k < count → IsUnionRow shapes sets rows (set_at sets (slice_index numbers k)) (slice_index table (slice_index numbers k))

-- the set of a number that the node gives
pub record HasNumber (sets : List (List ℕ)) (count number : ℕ) : Type 0 where
  pub known : number < length sets
  pub nonempty : set_at sets number ≢ []
  pub within : All (λ state. state < count) (set_at sets number)

pub HasNumber-leaf : {shapes more : List Shape} {sets sets' : List (List ℕ)} {count node : ℕ} {numbers : List ℕ} → Grows shapes more → SetsKept sets sets'
    → HasStates shapes sets count node → AreLeaves shapes node numbers → (i : ℕ) → i < length numbers → HasNumber sets' count (slice_index numbers i)
HasNumber-leaf {shapes} {more} {sets} {sets'} {count} {node} {numbers} grows kept has are i h =
    let one = are.given i h in
    let now = HasStates-kept shapes more sets sets' grows kept has in
    subst (HasNumber sets' count) (grows.map node one.0 has.is.known ∙ one.1) (record {
      known = now.is.numbered one.0;
      nonempty = now.nonempty one.0;
      within = All-from_get_or (λ state. state < count) (set_of more sets' node one.0) 0
          (λ k inside. now.within one.0 (get_or (set_of more sets' node one.0) k 0) (Contains-get_or (set_of more sets' node one.0) k 0 inside));
    })

-- one more row
pub HasRowsSoFar-step : {shapes more : List Shape} {sets sets' : List (List ℕ)} {rows numbers table : List ℕ} {count : ℕ} (row : ℕ) → Grows shapes more → SetsKept sets sets'
    → All (HasSets shapes sets) rows → ((k : ℕ) → k < length numbers → HasNumber sets (length rows) (slice_index numbers k)) → count < length numbers
    → slice_index numbers count < length table → HasRowsSoFar shapes sets rows numbers table count
    → IsUnionRow more sets' rows (set_at sets (slice_index numbers count)) row
    → HasRowsSoFar more sets' rows numbers (set table (slice_index numbers count) row) (count + 1)
HasRowsSoFar-step {shapes} {more} {sets} {sets'} {rows} {numbers} {table} {count} row grows kept all has inside below so_far union = record {
  known = All-set (λ r. r < length more) table (slice_index numbers count) row union.is.known (rows-grow table grows so_far.known);
  union = λ k h. elim (cases_eq (slice_index numbers k) (slice_index numbers count)) [
    | inl same ↦
        subst (λ n. IsUnionRow more sets' rows (set_at sets' n) (get_or (set table (slice_index numbers count) row) n 0)) (sym same)
        (subst (λ r. IsUnionRow more sets' rows (set_at sets' (slice_index numbers count)) r) (sym (get_or-set_same table (slice_index numbers count) row 0 below))
        (subst (λ s. IsUnionRow more sets' rows s row) (sym (set_at-kept (slice_index numbers count) kept (has count inside).known)) union))
    | inr other ↦
        let earlier : k < count = before k h other in
        let number = has k (omega (arith, earlier, inside)) in
        subst (λ r. IsUnionRow more sets' rows (set_at sets' (slice_index numbers k)) r)
        (sym (get_or-set_other table (slice_index numbers count) (slice_index numbers k) row 0 other))
        (subst (λ s. IsUnionRow more sets' rows s (slice_index table (slice_index numbers k))) (sym (set_at-kept (slice_index numbers k) kept number.known))
        (IsUnionRow-kept shapes more sets sets' grows kept
        (λ from c. all from 0 (All-contains (λ state. state < length rows) (set_at sets (slice_index numbers k)) from number.within c)) (so_far.union k earlier)))
  ];
}
  where
    before : (k : ℕ) → k < count + 1 → slice_index numbers k ≢ slice_index numbers count → k < count
    before k h other = elim (cases_lt k count) [
      | inl less ↦ less
      | inr past ↦ let same : k ≡ count = omega arith in absurd (other (ap (slice_index numbers) same))
    ]

-- the rows of all numbers that the node gives
pub HasUnionRows-all : {old shapes : List Shape} {before sets : List (List ℕ)} {rows numbers table : List ℕ} {node count : ℕ} → Grows old shapes
    → HasStates old before (length rows) node → AreLeaves old node numbers → length numbers ≤ count → length table ≡ length before
    → HasRowsSoFar shapes sets rows numbers table count → HasUnionRows shapes sets rows node table
HasUnionRows-all {old} {shapes} {before} {sets} {rows} {numbers} {table} {node} {count} grows has are enough size so_far = record {
  known = so_far.known;
  within = λ letter. let e = grows.map node letter has.is.known in let h = has.is.numbered letter in omega (arith, e, h, size);
  union = λ letter.
      let there = are.all letter in
      let h = there.1 in
      let e : slice_index numbers there.0 ≡ map_at shapes node letter =
      get_or_default numbers there.0 0 (map_at old node letter) there.1 ∙ there.2 ∙ sym (grows.map node letter has.is.known) in
      subst (λ n. IsUnionRow shapes sets rows (set_at sets n) (slice_index table n)) e (so_far.union there.0 (omega (arith, h, enough)));
}

-- a node over the rows of its sets
pub HasSets-ahead : {shapes : List Shape} {sets : List (List ℕ)} {rows table : List ℕ} {node ahead : ℕ} → HasUnionRows shapes sets rows node table → IsComposed shapes table node ahead
    → HasSets shapes sets ahead
HasSets-ahead {sets} has composed = record {
  known = composed.known;
  numbered = λ letter. subst (λ n. n < length sets) (sym (composed.map letter)) ((has.union letter).is.numbered letter);
}

module _ {shapes : List Shape} {sets : List (List ℕ)} {a : Automaton} {some : List Var} {rows table : List ℕ} {node ahead next : ℕ} (valid : IsAutomaton a)
    (are : AreSetRows shapes sets a some rows) (led : IsLedRow shapes sets a some node) (has : HasUnionRows shapes sets rows node table)
    (composed : IsComposed shapes table node ahead) (united : IsUnited shapes sets node ahead next) where
  -- a state that the row of a state of the node's set gives
  abbrev IsAhead : ℕ → ℕ → Type 0
  IsAhead letter state = (from : ℕ) × Contains (set_of shapes sets node letter) from × Contains (set_of shapes sets (slice_index rows from) letter) state

  either : (letter state : ℕ) → Contains (set_of shapes sets next letter) state → Contains (set_of shapes sets node letter) state ⊎ IsAhead letter state
  either letter state c = elim (((united.map letter).members state).0 c) [
    | inl own ↦ inl own
    | inr other ↦ inr (((has.union letter).members letter state).0 (subst (λ set. Contains set state) (ap (set_at sets) (composed.map letter)) other))
  ]

  own-in : (letter state : ℕ) → Contains (set_of shapes sets node letter) state → Contains (set_of shapes sets next letter) state
  own-in letter state c = ((united.map letter).members state).1 (inl c)

  ahead-in : (letter state : ℕ) → IsAhead letter state → Contains (set_of shapes sets next letter) state
  ahead-in letter state one =
      ((united.map letter).members state).1
      (inr (subst (λ set. Contains set state) (sym (ap (set_at sets) (composed.map letter))) (((has.union letter).members letter state).1 one)))

  row-at : (letter from : ℕ) → Contains (set_of shapes sets node letter) from → IsSetRow shapes sets (length some) (slice_index rows from) (Follows a some from)
  row-at letter from c = are.each from (slice_index rows from) (slice_get-get_or rows from 0 ((HasStates-led valid are led).within letter from c))

  pub IsLedRow-swept : IsLedRow shapes sets a some next
  IsLedRow-swept = record {
    is = record { known = united.known; numbered = λ letter. (united.map letter).known };
    narrow = record {
      same = λ x y state agree c. elim (either x state c) [
        | inl own ↦ own-in y state (led.narrow.same x y state agree own)
        | inr (from, there, given) ↦ ahead-in y state (from, led.narrow.same x y from agree there, (row-at x from there).narrow.same x y state agree given)
      ];
    };
    nonempty = λ letter below none.
        let one = some-element (set_of shapes sets node letter) (led.nonempty letter below) in
        no-element (set_of shapes sets next letter) one.0 none (own-in letter one.0 one.1);
    led = λ letter state below c. elim (either letter state c) [
      | inl own ↦ led.led letter state below own
      | inr (from, there, given) ↦ LiftLeads-follows a some (led.led letter from below there) (((row-at letter from there).members letter state below).0 given)
    ];
  }

  pub IsSwept-swept : IsSwept shapes sets rows node next
  IsSwept-swept = record {
    is = led.is;
    wider = own-in;
    has = λ from row letter state at there given.
        ahead-in letter state (from, there, subst (λ r. Contains (set_of shapes sets r letter) state) (sym (get_or_from_slice_get rows from row 0 at)) given);
  }

-- a round: a table is made, a node composed of it, and this one united with the node
module _ {begun tabled shapes : List Shape} {before sets after : List (List ℕ)} {a : Automaton} {some : List Var} {rows table : List ℕ} {node ahead : ℕ} (valid : IsAutomaton a)
    (are : AreSetRows begun before a some rows) (led : IsLedRow begun before a some node) (grows : Grows begun tabled) (kept : SetsKept before sets)
    (has : HasUnionRows tabled sets rows node table) (more : Grows tabled shapes) (same : after ≡ sets) (composed : IsComposed shapes table node ahead) where
  still : SetsKept sets after
  still = subst (SetsKept sets) (sym same) (SetsKept-refl sets)

  rows_tabled : AreSetRows tabled sets a some rows
  rows_tabled = AreSetRows-kept begun tabled before sets grows kept are

  led_tabled : IsLedRow tabled sets a some node
  led_tabled = IsLedRow-kept begun tabled before sets grows kept led

  has_composed : HasUnionRows shapes after rows node table
  has_composed = HasUnionRows-kept tabled shapes sets after more still (rows-sets rows_tabled) (HasStates-led valid rows_tabled led_tabled) has

  pub node-sets : HasSets shapes after node
  node-sets = HasSets-grows more still led_tabled.is

  pub ahead-sets : HasSets shapes after ahead
  ahead-sets = HasSets-ahead has_composed composed

  module _ {now : List Shape} {final : List (List ℕ)} {next : ℕ} (further : Grows shapes now) (kept' : SetsKept after final) (united : IsUnited now final node ahead next) where
    rows_now : AreSetRows now final a some rows
    rows_now = AreSetRows-kept tabled now sets final (Grows-trans more further) (SetsKept-trans still kept') rows_tabled

    led_now : IsLedRow now final a some node
    led_now = IsLedRow-kept tabled now sets final (Grows-trans more further) (SetsKept-trans still kept') led_tabled

    has_now : HasUnionRows now final rows node table
    has_now =
        HasUnionRows-kept shapes now after final further kept' (rows-sets (AreSetRows-kept tabled shapes sets after more still rows_tabled))
        (HasStates-kept tabled shapes sets after more still (HasStates-led valid rows_tabled led_tabled)) has_composed

    pub IsLedRow-round : IsLedRow now final a some next
    IsLedRow-round = IsLedRow-swept valid rows_now led_now has_now (IsComposed-grows further composed) united

    pub IsSwept-round : IsSwept now final rows node next
    IsSwept-round = IsSwept-swept valid rows_now led_now has_now (IsComposed-grows further composed) united

-- after so many rounds: each set is closed or has at least so many states
pub record IsClosing (shapes : List Shape) (sets : List (List ℕ)) (a : Automaton) (some : List Var) (rows : List ℕ) (node round : ℕ) : Type 0 where
  pub are_rows : AreSetRows shapes sets a some rows
  pub ascend : All IsStrictlyIncreasing sets
  pub led : IsLedRow shapes sets a some node
  pub begins : (letter state : ℕ) → letter < 2 ^ length some → Begins a some letter state → Contains (set_of shapes sets node letter) state
  pub progress : (letter : ℕ) → letter < 2 ^ length some
      → ((state : ℕ) → LiftLeads a some (letter ∷ []) state → Contains (set_of shapes sets node letter) state)
      ⊎ (round ≤ length (set_of shapes sets node letter))

set-ascends : (sets : List (List ℕ)) (number : ℕ) → number < length sets → All IsStrictlyIncreasing sets → IsStrictlyIncreasing (set_at sets number)
set-ascends sets number h all = All-get_or IsStrictlyIncreasing sets number [] h all

pub IsClosing-first : {shapes : List Shape} {sets : List (List ℕ)} {a : Automaton} {some : List Var} {rows : List ℕ} {node : ℕ}
    → AreSetRows shapes sets a some rows → All IsStrictlyIncreasing sets
    → HasSomeStates shapes sets (length some) node → IsSetRow shapes sets (length some) node (Begins a some) → IsClosing shapes sets a some rows node 0
IsClosing-first {a} {some} are ascend nonempty first = record {
  are_rows = are;
  ascend = ascend;
  led = record { is = first.is; narrow = first.narrow; nonempty = nonempty; led = λ letter state below c. LiftLeads-begins a some ((first.members letter state below).0 c) };
  begins = λ letter state below b. (first.members letter state below).1 b;
  progress = λ letter below. inr (omega arith);
}

module _ (shapes more : List Shape) (sets sets' : List (List ℕ)) (a : Automaton) (some : List Var) (rows : List ℕ) (node next round : ℕ) (grows : Grows shapes more) (kept : SetsKept sets sets')
    (so_far : IsClosing shapes sets a some rows node round) (led : IsLedRow more sets' a some next) (swept : IsSwept more sets' rows node next)
    (ascend : All IsStrictlyIncreasing sets') (valid : IsAutomaton a) where
  -- a set that sweeping leaves as it is is closed
  closed-at : (letter : ℕ) → letter < 2 ^ length some → ((state : ℕ) → Contains (set_of more sets' next letter) state → Contains (set_of more sets' node letter) state)
      → (state : ℕ) → LiftLeads a some (letter ∷ []) state → Contains (set_of more sets' node letter) state
  closed-at letter below back =
      LiftLeads-in a some letter (set_of more sets' node letter)
      (λ state b. has-kept shapes more sets sets' grows kept letter state so_far.led.is (so_far.begins letter state below b))
      (λ from state c f.
      let inside = led_within from c in
      let size = so_far.are_rows.size in
      let at = slice_get-get_or rows from 0 (omega (arith, size, inside)) in
      let row = (AreSetRows-kept shapes more sets sets' grows kept so_far.are_rows).each from (get_or rows from 0) at in
      back state (swept.has from (get_or rows from 0) letter state at c ((row.members letter state below).1 f)))
    where
      led_within : (from : ℕ) → Contains (set_of more sets' node letter) from → from < length a.accept
      led_within from c =
          let l = so_far.led.led letter from below (had shapes more sets sets' grows kept letter from so_far.led.is c) in
          subst (λ n. n < length a.accept) l.leads (state_within valid l.lift)

  pub IsClosing-step : IsClosing more sets' a some rows next (round + 1)
  IsClosing-step = record {
    are_rows = AreSetRows-kept shapes more sets sets' grows kept so_far.are_rows;
    ascend = ascend;
    led = led;
    begins = λ letter state below b. swept.wider letter state (has-kept shapes more sets sets' grows kept letter state so_far.led.is (so_far.begins letter state below b));
    progress = λ letter below. elim (so_far.progress letter below) [
      | inl done ↦ inl (λ state l. swept.wider letter state (has-kept shapes more sets sets' grows kept letter state so_far.led.is (done state l)))
      | inr many ↦ elim (all_in_or_one_not (set_of more sets' next letter) (set_of more sets' node letter)) [
        | inl back ↦ inl (λ state l. swept.wider letter state (closed-at letter below back state l))
        | inr new ↦ inr (
            let numbered = swept.is.numbered letter in
            let longer =
            length-wider (set_of more sets' node letter) (set_of more sets' next letter) new.0
            (set-ascends sets' (map_at more node letter) numbered ascend) (λ s c. swept.wider letter s c) new.1 new.2 in
            let same = ap length (stays shapes more sets sets' grows kept letter so_far.led.is) in
            omega (arith, many, longer, same))
      ]
    ];
  }

  -- where sweeping changes nothing, each set is closed
  pub IsSetRow-same : next ≡ node → IsSetRow more sets' (length some) node (λ letter state. LiftLeads a some (letter ∷ []) state)
  IsSetRow-same e =
      let now = IsLedRow-kept shapes more sets sets' grows kept so_far.led in
      record {
        is = now.is;
        narrow = now.narrow;
        members = λ letter state below. (now.led letter state below, closed-at letter below (λ t c. subst (λ n. Contains (set_of more sets' n letter) t) e c) state);
      }

-- after as many rounds as states each set is closed, since none has more states
pub IsSetRow-last : {shapes : List Shape} {sets : List (List ℕ)} {a : Automaton} {some : List Var} {rows : List ℕ} {node : ℕ} (round : ℕ) → IsAutomaton a → length rows ≤ round
    → IsClosing shapes sets a some rows node round
    → IsSetRow shapes sets (length some) node (λ letter state. LiftLeads a some (letter ∷ []) state)
IsSetRow-last {shapes} {sets} {a} {node} round valid enough so_far = record {
  is = so_far.led.is;
  narrow = so_far.led.narrow;
  members = λ letter state below. (
    so_far.led.led letter state below,
    elim (so_far.progress letter below) [
      | inl done ↦ done state
      | inr many ↦ λ l. elim (in_or_not (set_of shapes sets node letter) state) [
        | inl c ↦ c
        | inr new ↦
            let size = so_far.are_rows.size in
            let numbered = so_far.led.is.numbered letter in
            let within = subst (λ n. n < length a.accept) l.leads (state_within valid l.lift) in
            let fewer = length-wider (set_of shapes sets node letter) (range_with_len 0 (length a.accept)) state (set-ascends sets (map_at shapes node letter) numbered so_far.ascend)
            (λ t c. Contains-range (length a.accept) t
            (let k = so_far.led.led letter t below c in subst (λ n. n < length a.accept) k.leads (state_within valid k.lift)))
            (Contains-range (length a.accept) state within) new in
            let count = length-range_with_len 0 (length a.accept) in
            absurd (omega (arith, many, fewer, size, enough, count))
      ]
    ],
  );
}
