-- Classes that are split, of which one part each keeps the number.
use Rattle.std.proofs.Common.{◌≡◌, ◌≢◌, ◌↔◌, ℕ, ◌<◌, ◌≤◌, ◌+◌, ◌-◌, List, [], ◌∷◌, ◌++◌, length, slice_get, get_or, Some, All, AllPairs, Contains, replicate, arith, refl, sym, ap, ◌∙◌, subst, inl, inr}
use Rattle.std.proofs.lemmas.Bool.{cases_lt, cases_eq}
use Rattle.std.proofs.lemmas.List.{length_push, length-append, get_or_push, get_or_append_left, get_or-append_right, get_or_default, get_or-replicate, get_or_past, length-replicate}
use Rattle.std.proofs.lemmas.List.Elements.{All-get_or, All-from_get_or, All-append, All-weaker, All-contains}
use Rattle.std.proofs.lemmas.Option.{slice_get_within, slice_get-get_or, same_Some}
use Rattle.std.proofs.lemmas.Bool.Decides.{Decides-eqb}
use Rattle.std.proofs.lemmas.Map.Made.{is_member-Decides}
use Rattle.letter_diagram.specs.Numbering.{Numbers, PairsKept}
use Rattle.letter_diagram.proofs.Lists.{one_place}
use Rattle.auto_refine.specs.declared.classes.Partition.{Partition}
use Rattle.auto_refine.specs.Coarsest.{AreMembers, IsAttained, IsPartition}
use Rattle.auto_refine.specs.Listing.{IsListing, AreListed}
use Rattle.auto_refine.specs.Moves.{IsSplit, AreSettled, AreCandidates, IsOther, IsMove, AreMoves, chosen_node}
use Rattle.auto_refine.specs.Put.{IsPut}
use Rattle.auto_refine.proofs.Counting.{decided, length_le-below}

-- the last of a list
slice_get-last : {A : Type 0} (xs : List A) (x : A) (place : ℕ) → length xs ≡ place → slice_get (xs ++ x ∷ []) place ≡ Some x
slice_get-last xs x place here = slice_get-get_or (xs ++ x ∷ []) place x (let l = length_push xs x in omega (arith, l, here)) ∙ ap Some (get_or_push xs x x place here)

-- a state of each signature: so there are at most as many as states
pub signatures_few : {classes representatives nodes : List ℕ} {count : ℕ} {signatures : List (ℕ × ℕ)} {states numbers firsts : List ℕ}
    → AreMoves classes representatives nodes count signatures states numbers firsts → length signatures ≤ length classes
signatures_few {classes} {nodes = nodes} {signatures = signatures} {firsts = firsts} m =
    let size = m.firsts_size in
    let most = length_le-below firsts (length classes) distinct (All-from_get_or (λ state. state < length classes) firsts 0 (λ place inside. (m.first place (omega (arith, inside, size))).within)) in
    omega (arith, most, size)
  where
    distinct : AllPairs (λ x y. x ≢ y) firsts
    distinct i j e less within same =
        let size = m.firsts_size in
        let one = m.first i (omega (arith, less, within, size)) in
        let two = m.first j (omega (arith, within, size)) in
        let alike : get_or firsts i 0 ≡ get_or firsts j 0 = get_or_default firsts i 0 e (omega (arith, less, within)) ∙ same ∙ get_or_default firsts j e 0 within in
        let place = one_place signatures m.unrepeated _ _ _ one.is (two.is ∙ ap (λ s. Some (get_or classes s 0, get_or nodes s 0)) (sym alike)) in
        omega (arith, place, less)

-- a state that moves has a signature
pub signatures_some : {classes representatives nodes : List ℕ} {count : ℕ} {signatures : List (ℕ × ℕ)} {states numbers firsts : List ℕ}
    → AreMoves classes representatives nodes count signatures states numbers firsts
    → 0 < length states → 0 < length signatures
signatures_some {signatures = signatures} m some =
    let inside = slice_get_within signatures _ _ (m.each 0 some).is in
    omega (arith, inside)

module _ (classes representatives nodes : List ℕ) (count : ℕ) (old new : List (ℕ × ℕ)) (states numbers firsts : List ℕ)
    (m : AreMoves classes representatives nodes count old states numbers firsts)
    (kept : PairsKept old new) (unrepeated : AllPairs (λ p q. p ≢ q) new) (state place class node own : ℕ) (within : state < length classes)
    (class_is : class ≡ get_or classes state 0) (node_is : node ≡ get_or nodes state 0) (own_is : own ≡ chosen_node classes representatives nodes state) (other : node ≢ own)
    (at : slice_get new place ≡ Some (class, node)) where
  move_kept : {s number : ℕ} → IsMove classes representatives nodes count old s number → IsMove classes representatives nodes count new s number
  move_kept h = record { within = h.within; other = h.other; least = h.least; is = kept.at _ _ h.is }

  move_new : (number : ℕ) → number ≡ count + place → IsMove classes representatives nodes count new state number
  move_new number is = record {
    within = within;
    other = λ e. other (node_is ∙ e ∙ sym own_is);
    least = omega (arith, is);
    is = ap (slice_get new) (let less : number - count ≡ place = omega (arith, is) in less) ∙ at ∙ ap (λ c. Some (c, node)) class_is ∙ ap (λ n. Some (get_or classes state 0, n)) node_is;
  }

  each_new : (number : ℕ) → number ≡ count + place → (turn : ℕ) → turn < length (states ++ state ∷ [])
      → IsMove classes representatives nodes count new (get_or (states ++ state ∷ []) turn 0) (get_or (numbers ++ number ∷ []) turn 0)
  each_new number is turn less =
      let more = length_push states state in
      let size = m.size in
      elim (cases_lt turn (length states)) [
        | inl before ↦
            let number_stays = get_or_append_left numbers (number ∷ []) 0 turn (omega (arith, before, size)) in
            rw (get_or_append_left states (state ∷ []) 0 turn before, number_stays) (move_kept (m.each turn before))
        | inr past ↦
            let here : length states ≡ turn = omega (arith, more, less, past) in
            rw (get_or_push states state 0 turn here, get_or_push numbers number 0 turn (omega (arith, here, size))) (move_new number is)
      ]

  -- of a signature that was seen
  pub AreMoves-again : (number : ℕ) → number ≡ count + place → length new ≤ length firsts
      → AreMoves classes representatives nodes count new (states ++ state ∷ []) (numbers ++ number ∷ []) firsts
  AreMoves-again number is full =
      let longer = kept.longer in
      let size = m.firsts_size in
      record {
        unrepeated = unrepeated;
        size = length_push numbers number ∙ ap (λ n. n + 1) m.size ∙ sym (length_push states state);
        each = each_new number is;
        firsts_size = omega (arith, full, longer, size);
        first = λ p less. move_kept (m.first p (omega (arith, less, full, size)));
      }

  -- of a new signature
  pub AreMoves-first : (number : ℕ) → number ≡ count + place → Numbers old new (class, node) → length firsts < length new
      → AreMoves classes representatives nodes count new (states ++ state ∷ []) (numbers ++ number ∷ []) (firsts ++ state ∷ [])
  AreMoves-first number is changed fresh = elim changed [
    | inl unchanged ↦ let l = ap length unchanged in let size = m.firsts_size in absurd (omega (arith, l, fresh, size))
    | inr more ↦
        let p : ℕ × ℕ = (class, node) in
        let l = ap length more.0 ∙ length_push old p in
        let size = m.firsts_size in
        let last = ap (λ all. slice_get all (length old)) more.0 ∙ slice_get-last old p (length old) refl in
        let here = one_place new unrepeated _ _ _ at last in
        record {
          unrepeated = unrepeated;
          size = length_push numbers number ∙ ap (λ n. n + 1) m.size ∙ sym (length_push states state);
          each = each_new number is;
          firsts_size = length_push firsts state ∙ omega (arith, l, size);
          first = λ q less. elim (cases_lt q (length firsts)) [
            | inl before ↦ rw (get_or_append_left firsts (state ∷ []) 0 q before) (move_kept (m.first q (omega (arith, before, size))))
            | inr past ↦ rw (get_or_push firsts state 0 q (omega (arith, less, past, l, size))) (move_new (count + q) (omega (arith, less, past, l, size, here)))
          ];
        }
  ]

-- each candidate that is to move is among the states: so all are, where the rest is settled
pub all_moved : (p : Partition) (representatives nodes stale candidates states : List ℕ)
    → AreSettled p.classes.items representatives nodes stale → AreCandidates p representatives stale candidates
    → ((state : ℕ) → Contains candidates state → IsOther p.classes.items representatives nodes state → Contains states state)
    → (state : ℕ) → state < length p.classes.items → IsOther p.classes.items representatives nodes state → Contains states state
all_moved p representatives nodes stale candidates states s c moved state within other =
    elim (decided _ (is_member-Decides Decides-eqb stale state)) [
      | inl there ↦ moved state (c.each state there) other
      | inr fresh ↦ elim (decided _ (is_member-Decides Decides-eqb stale (get_or representatives (get_or p.classes.items state 0) 0))) [
        | inl led ↦ moved state (c.led state within led) other
        | inr too ↦ absurd (other (s.at state within fresh too))
      ]
    ]

module _ {classes representatives nodes : List ℕ} {count : ℕ} {signatures : List (ℕ × ℕ)} {states numbers firsts : List ℕ}
    (m : AreMoves classes representatives nodes count signatures states numbers firsts) where
  pub moved_within : All (λ state. state < length classes) states
  moved_within = All-from_get_or (λ state. state < length classes) states 0 (λ turn inside. (m.each turn inside).within)

  pub numbers_within : All (λ number. number < count + length firsts) numbers
  numbers_within = All-from_get_or (λ number. number < count + length firsts) numbers 0 (λ turn inside.
      let size = m.size in
      let firsts_size = m.firsts_size in
      let o = m.each turn (omega (arith, inside, size)) in
      let less = slice_get_within signatures _ _ o.is in
      let least = o.least in
      omega (arith, less, least, firsts_size))

-- ---- states that have moved
pub none : (state : ℕ) → Contains [] state → ⊥
none state h = absurd (omega (arith, h.1))

-- empty lists, and none past them
pub empty : (nil : List ℕ) (n i : ℕ) → get_or (replicate n nil) i nil ≡ nil
empty nil n i = elim (cases_lt i n) [
  | inl inside ↦ get_or-replicate n i nil nil inside
  | inr past ↦ get_or_past (replicate n nil) i nil (let l = length-replicate n nil in omega (arith, l, past))
]

module _ (size : ℕ) (current nodes own : List ℕ) (count : ℕ) (signatures : List (ℕ × ℕ)) (states numbers firsts classes : List ℕ)
    (was : IsPartition size current count) (members : AreMembers current count own) (m : AreMoves current own nodes count signatures states numbers firsts) (put : IsPut current states numbers classes)
    (all : (state : ℕ) → state < length current → get_or nodes state 0 ≢ chosen_node current own nodes state → Contains states state) where
  known : (j : ℕ) → j < length current → get_or current j 0 < count
  known j within = All-get_or (λ class. class < count) current j 0 within was.within

  abbrev IsOwn : ℕ → Type 0
  IsOwn j = get_or nodes j 0 ≡ chosen_node current own nodes j

  -- a state that is among those that move, with its number
  turned : (j : ℕ) → j < length current → Contains states j → IsMove current own nodes count signatures j (get_or classes j 0)
  turned j within there =
      let w = put.put j within there in
      subst (λ n. IsMove current own nodes count signatures j n) (sym (w.value_is 0))
      (subst (λ s. IsMove current own nodes count signatures s (get_or numbers w.turn 0)) w.place_is (m.each w.turn w.within))

  stays : (j : ℕ) → j < length current → IsOwn j → get_or classes j 0 ≡ get_or current j 0
  stays j within is = elim (decided _ (is_member-Decides Decides-eqb states j)) [
    | inl there ↦ absurd ((turned j within there).other is)
    | inr absent ↦ put.kept j within absent 0
  ]

  moves : (j : ℕ) → j < length current → (IsOwn j → ⊥) → IsMove current own nodes count signatures j (get_or classes j 0)
  moves j within not = turned j within (all j within not)

  below : (j : ℕ) → j < length current → get_or classes j 0 < count + length signatures
  below j within = elim (cases_eq (get_or nodes j 0) (chosen_node current own nodes j)) [
    | inl is ↦ let class = known j within in let number = stays j within is in omega (arith, class, number)
    | inr not ↦ let o = moves j within not in let inside = slice_get_within signatures _ _ o.is in let least = o.least in omega (arith, inside, least)
  ]

  -- a state that stands for an old class does for what is left of it
  keeps_own : (class : ℕ) → class < count → get_or classes (get_or own class 0) 0 ≡ class
  keeps_own class less =
      let within = All-get_or (λ state. state < length current) own class 0 (let s = members.size in omega (arith, s, less)) members.within in
      let has = members.has class less in
      stays (get_or own class 0) within (ap (λ c. get_or nodes (get_or own c 0) 0) (sym has)) ∙ has

  first_has : (place : ℕ) → place < length signatures → get_or classes (get_or firsts place 0) 0 ≡ count + place
  first_has place less =
      let f = m.first place less in
      let o = moves (get_or firsts place 0) f.within f.other in
      let at = one_place signatures m.unrepeated _ _ _ o.is f.is in
      let least = o.least in
      omega (arith, at, least)

  pub AreMembers-moved : AreMembers classes (count + length signatures) (own ++ firsts)
  AreMembers-moved =
      let own_size = members.size in
      let firsts_size = m.firsts_size in
      let same_size = put.size in
      record {
        size = length-append own firsts ∙ omega (arith, own_size, firsts_size);
        within = All-append (λ state. state < length classes) own firsts (All-weaker (λ state. state < length current)
            (λ state. state < length classes) (λ state less. omega (arith, less, same_size)) own members.within)
            (All-from_get_or (λ state. state < length classes) firsts 0 (λ place inside.
            let within = (m.first place (omega (arith, inside, firsts_size))).within in
            omega (arith, within, same_size)));
        has = λ class within. elim (cases_lt class count) [
          | inl old ↦ rw (get_or_append_left own firsts 0 class (omega (arith, old, own_size))) (keeps_own class old)
          | inr new ↦ rw (get_or-append_right own firsts count class 0 own_size new) (first_has (class - count) (omega (arith, within, new)) ∙ omega (arith, new))
        ];
      }

  attained : (class : ℕ) → class < count + length signatures → IsAttained classes class
  attained class within =
      let all = AreMembers-moved in
      record {
        state = get_or (own ++ firsts) class 0;
        within = All-get_or (λ state. state < length classes) (own ++ firsts) class 0
            (let s = all.size in omega (arith, s, within)) all.within;
        has = all.has class within;
      }

  -- a state with the chosen node is not in the class of one with another node
  never : (j k : ℕ) → j < length current → k < length current → IsOwn j → (IsOwn k → ⊥) → get_or classes j 0 ≡ get_or classes k 0 → ⊥
  never j k jw kw is not same =
      let class = known j jw in
      let number = stays j jw is in
      let least = (moves k kw not).least in
      omega (arith, class, number, least, same)

  alike : (j k : ℕ) → get_or current j 0 ≡ get_or current k 0 → get_or nodes j 0 ≡ get_or nodes k 0 → IsOwn j → IsOwn k
  alike j k class node is = sym node ∙ is ∙ ap (λ c. get_or nodes (get_or own c 0) 0) class

  same_part : (j k : ℕ) → j < length current → k < length current
      → (get_or classes j 0 ≡ get_or classes k 0) ↔ ((get_or current j 0 ≡ get_or current k 0) × (get_or nodes j 0 ≡ get_or nodes k 0))
  same_part j k jw kw = elim (cases_eq (get_or nodes j 0) (chosen_node current own nodes j)) [
    | inl is ↦ elim (cases_eq (get_or nodes k 0) (chosen_node current own nodes k)) [
      | inl too ↦
          let jn = stays j jw is in
          let kn = stays k kw too in (
            λ e. let class = sym jn ∙ e ∙ kn in (class, is ∙ ap (λ c. get_or nodes (get_or own c 0) 0) class ∙ sym too),
            λ e. jn ∙ e.0 ∙ sym kn,
          )
      | inr not ↦ (λ e. absurd (never j k jw kw is not e), λ e. absurd (not (alike j k e.0 e.1 is)))
    ]
    | inr not ↦ elim (cases_eq (get_or nodes k 0) (chosen_node current own nodes k)) [
      | inl is ↦ (λ e. absurd (never k j kw jw is not (sym e)), λ e. absurd (not (alike k j (sym e.0) (sym e.1) is)))
      | inr too ↦
          let jo = moves j jw not in
          let ko = moves k kw too in (
            λ e. let both = same_Some _ _ (sym jo.is ∙ ap (λ n. slice_get signatures (n - count)) e ∙ ko.is) in (ap (λ p. p.0) both, ap (λ p. p.1) both),
            λ e.
                let place = one_place signatures m.unrepeated _ _ _ jo.is (ko.is ∙ ap Some (λ i. (sym e.0 i, sym e.1 i))) in
                let j_least = jo.least in
                let k_least = ko.least in
                omega (arith, place, j_least, k_least),
          )
    ]
  ]

  pub IsSplit-moved : IsSplit current nodes classes (count + length signatures)
  IsSplit-moved = let same_size = put.size in record {
    partition = record {
      states = same_size;
      within = All-from_get_or (λ c. c < count + length signatures) classes 0 (λ i inside. below i (omega (arith, inside, same_size)));
      attained = attained;
    };
    same = same_part;
  }

  pub AreSettled-moved : AreSettled classes (own ++ firsts) nodes []
  AreSettled-moved = record {
    at = λ state within _ _.
        let same_size = put.size in
        let members = AreMembers-moved in
        let inside : state < length current = omega (arith, within, same_size) in
        let class = below state inside in
        let stands = All-get_or (λ s. s < length classes) (own ++ firsts) (get_or classes state 0) 0 (let s = members.size in omega (arith, s, class)) members.within in
        ((same_part state (get_or (own ++ firsts) (get_or classes state 0) 0) inside (omega (arith, stands, same_size))).0 (sym (members.has (get_or classes state 0) class))).1;
  }

  module _ (lists more : List (List ℕ)) (l : IsListing current count own lists) (added : AreListed (lists ++ replicate (length firsts) []) states numbers more) where
    -- a list that was there already
    was_list : (class state : ℕ) → Contains (get_or (lists ++ replicate (length firsts) []) class []) state → Contains (get_or lists class []) state
    was_list class state there = elim (cases_lt class (length lists)) [
      | inl old ↦ subst (λ list. Contains list state) (get_or_append_left lists (replicate (length firsts) []) [] class old) there
      | inr new ↦ absurd (none state (subst (λ list. Contains list state) (get_or-append_right lists (replicate (length firsts) []) (length lists)
          class [] refl new ∙ empty [] (length firsts) (class - length lists)) there))
    ]

    pub IsListing-moved : IsListing classes (count + length signatures) (own ++ firsts) more
    IsListing-moved =
        let same_size = put.size in
        let firsts_size = m.firsts_size in
        let lists_size = l.size in
        record {
          members = AreMembers-moved;
          size = added.size ∙ length-append lists (replicate (length firsts) []) ∙ ap (λ n. length lists + n) (length-replicate (length firsts) []) ∙ omega (arith, lists_size, firsts_size);
          within = λ class state there. elim (added.only class state there) [
            | inl old ↦ let less = l.within class state (was_list class state old) in omega (arith, less, same_size)
            | inr new ↦
                let less = All-contains (λ s. s < length current) states state (moved_within m) new in
                omega (arith, less, same_size)
          ];
          listed = λ state inside.
              let within : state < length current = omega (arith, inside, same_size) in
              elim (decided _ (is_member-Decides Decides-eqb states state)) [
                | inl there ↦
                    let w = put.put state within there in
                    subst (λ class. Contains (get_or more class []) state) (sym (w.value_is 0))
                    (subst (λ s. Contains (get_or more (get_or numbers w.turn 0) []) s) w.place_is (added.added w.turn w.within))
                | inr absent ↦
                    let old = put.kept state within absent 0 in
                    let class : get_or current state 0 < length lists = let k = known state within in omega (arith, k, lists_size) in
                    let listed = subst (λ list. Contains list state) (sym (get_or_append_left lists (replicate (length firsts) []) [] (get_or current state 0) class)) (l.listed state within) in
                    subst (λ c. Contains (get_or more c []) state) (sym old) (added.kept (get_or current state 0) state listed)
              ];
        }
