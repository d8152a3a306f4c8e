-- What a move onto an empty square makes of the coordinates.
use Rattle.std.proofs.Common.{◌≡◌, ◌≢◌, ◌↔◌, inl, inr, ℕ, ℤ, pos, ◌+ℤ◌, ◌*ℤ◌, zero, suc, ◌+◌, ◌^◌, ◌<◌, ◌≤◌, List, [], ◌∷◌, ◌++◌, length, get_or, set, Option, Some, None, refl, sym, ap, ◌∙◌, subst, arith, length-append}
use Rattle.std.specs.Prelude.{slice_get, IsSomeAnd}
use Rattle.std.specs.Int.{bit_at}
use Rattle.std.proofs.lemmas.Bool.{cases_lt}
use Rattle.std.proofs.lemmas.List.{set-append_left, length-set, get_or-append-add}
use Rattle.std.proofs.lemmas.Option.{slice_get_within, slice_get-get_or, same_Some}
use Rattle.std.proofs.Math.Seq.{get_or-append_seam}
use Rattle.std.proofs.Math.ListN.{get_or-append}
use Rattle.game_rules.specs.Game.{Position, IsAfter, IsEmptySquare, StandsOn, after_steps, man_at, square_of, place_square}
use Rattle.game_rules.specs.declared.men.Man.{Man}
use Rattle.game_rules.specs.declared.men.Place.{Place}
use Rattle.game_rules.specs.declared.men.Place.TheVariants.{At, Gone}
use Rattle.game_rules.specs.declared.men.Ray.{Ray}
use Rattle.game_rules.specs.declared.men.Square.{Square}
use Rattle.auto_search.specs.TupleRay.{value_after}
use Rattle.move_choice.specs.Aims.{tuple_along}
use Rattle.mask_sets.specs.Places.{coordinates_before}
use Rattle.game_laws.proofs.SoundLemmas.{at_same}
use Rattle.mask_sets.specs.Stock.{mask_of}
use Rattle.mask_sets.specs.Tuple.{man_coordinates, coordinates_of, tuple_of, tuple_to}
use Rattle.mask_sets.proofs.Masks.{mask_one, mask_tells}
use Rattle.mask_sets.proofs.Men.{all_men}

-- two numbers in the middle of a list
put_at : (xs : List ℤ) (i : ℕ) (a b c d : ℤ) → i ≡ suc (length xs) → set (set (xs ++ a ∷ b ∷ []) (length xs) c) i d ≡ xs ++ c ∷ d ∷ []
put_at [] zero a b c d e = absurd (omega (arith, e))
put_at [] (suc zero) a b c d e = refl
put_at [] (suc (suc i)) a b c d e = absurd (omega (arith, e))
put_at (x ∷ xs) zero a b c d e = absurd (omega (arith, e))
put_at (x ∷ xs) (suc i) a b c d e = ap (λ ys. x ∷ ys) (put_at xs i a b c d (omega (arith, e)))

put_two : (xs : List ℤ) (a b c d : ℤ) → set (set (xs ++ a ∷ b ∷ []) (length xs) c) (length xs + 1) d ≡ xs ++ c ∷ d ∷ []
put_two xs a b c d = put_at xs (length xs + 1) a b c d (omega arith)

-- two numbers in the front of a list
put_front : (xs ys : List ℤ) (i : ℕ) (c d : ℤ) → i + 1 < length xs → set (set (xs ++ ys) i c) (i + 1) d ≡ set (set xs i c) (i + 1) d ++ ys
put_front xs ys i c d low =
    let first : i < length xs = omega (arith, low) in
    let same : length (set xs i c) ≡ length xs = length-set xs i c in
    let second : i + 1 < length (set xs i c) = omega (arith, low, same) in
    ap (λ l. set l (i + 1) d) (set-append_left xs ys i c first) ∙ set-append_left (set xs i c) ys (i + 1) d second

-- the coordinates of one more man
tuple_one : (p : Position) (n : ℕ) (m : Man) → man_at p (suc n) ≡ Some m → tuple_to p (suc n) ≡ tuple_to p n ++ coordinates_of (square_of m)
tuple_one p n m is = ap (λ o. tuple_to p n ++ man_coordinates o) is

pub stands_live : (m : Man) (a : Square) → StandsOn m a → m.place ≢ Gone
stands_live m a s gone = let same : place_square Gone ≡ Some a = sym (ap place_square gone) ∙ s in cc

module _ (p : Position) (j : ℕ) (a : Square) (m : Man) (is : man_at p (suc j) ≡ Some m) (stands : StandsOn m a) where
  there : (n : ℕ) → n < length p.men → (b : Man) × (man_at p (suc n) ≡ Some b)
  there n low = (get_or p.men n m, slice_get-get_or p.men n m low)

  his_place : tuple_to p (suc j) ≡ tuple_to p j ++ a.x ∷ a.y ∷ []
  his_place = tuple_one p j m is ∙ ap (λ o. tuple_to p j ++ coordinates_of o) stands

  his_two : length (tuple_to p j) + 1 < length (tuple_to p (suc j))
  his_two = let two = ap length his_place ∙ length-append (tuple_to p j) (a.x ∷ a.y ∷ []) in omega (arith, two)

  -- what comes after him changes nothing before
  his_room : (n : ℕ) → suc j ≤ n → n ≤ length p.men
      → (length (tuple_to p j) + 1 < length (tuple_to p n))
      × ((i : ℕ) → i ≤ length (tuple_to p j) + 1 → get_or (tuple_to p n) i (pos 0) ≡ get_or (tuple_to p (suc j)) i (pos 0))
  his_room zero low within = absurd (omega (arith, low))
  his_room (suc n) low within =
      elim (cases_lt j n) [
        | inl past ↦
            let w = there n (omega (arith, within)) in
            let so_far = his_room n (omega (arith, past)) (omega (arith, within)) in
            let room = so_far.0 in
            let more = ap length (tuple_one p n w.0 w.1) ∙ length-append (tuple_to p n) (coordinates_of (square_of w.0)) in (
              omega (arith, room, more),
              λ i low.
                  let before : i < length (tuple_to p n) = omega (arith, room, low) in
                  ap (λ xs. get_or xs i (pos 0)) (tuple_one p n w.0 w.1) ∙ get_or-append (tuple_to p n) (coordinates_of (square_of w.0)) (pos 0) i before ∙ so_far.1 i low,
            )
        | inr here ↦
            let e : n ≡ j = omega (arith, here, low) in
            subst
            (λ k. (length (tuple_to p j) + 1 < length (tuple_to p (suc k)))
            × ((i : ℕ) → i ≤ length (tuple_to p j) + 1 → get_or (tuple_to p (suc k)) i (pos 0) ≡ get_or (tuple_to p (suc j)) i (pos 0)))
            (sym e) (his_two, λ i low. refl)
      ]

  in_all : (length (tuple_to p j) + 1 < length (tuple_of p)) × ((i : ℕ) → i ≤ length (tuple_to p j) + 1 → get_or (tuple_of p) i (pos 0) ≡ get_or (tuple_to p (suc j)) i (pos 0))
  in_all = let within : j < length p.men = slice_get_within p.men j m is in his_room (length p.men) (omega (arith, within)) (omega arith)

  pub room_for_him : coordinates_before p (suc j) + 1 < length (tuple_of p)
  room_for_him = in_all.0

  pub his_x : get_or (tuple_of p) (coordinates_before p (suc j)) (pos 0) ≡ a.x
  his_x =
      in_all.1 (length (tuple_to p j)) (omega arith) ∙ ap (λ xs. get_or xs (length (tuple_to p j)) (pos 0)) his_place
      ∙ get_or-append_seam (tuple_to p j) a.x (a.y ∷ []) (pos 0)

  pub his_y : get_or (tuple_of p) (coordinates_before p (suc j) + 1) (pos 0) ≡ a.y
  his_y =
      in_all.1 (length (tuple_to p j) + 1) (omega arith) ∙ ap (λ xs. get_or xs (length (tuple_to p j) + 1) (pos 0)) his_place
      ∙ get_or-append-add (tuple_to p j) (a.x ∷ a.y ∷ []) 1 (pos 0)

-- the room for a live man
pub live_room : (p : Position) (i : ℕ) → IsSomeAnd (man_at p i) (λ m. m.place ≢ Gone) → coordinates_before p i + 1 < length (tuple_of p)
live_room p i h = by i (man_at p i) refl h
  where
    on_square : (j : ℕ) (m : Man) → man_at p (suc j) ≡ Some m → (x : Place) → m.place ≡ x → m.place ≢ Gone → coordinates_before p (suc j) + 1 < length (tuple_of p)
    on_square j m is Gone e live = absurd (live e)
    on_square j m is (At x y) e live = room_for_him p j (record { x = x; y = y }) m is (ap place_square e)

    by : (i : ℕ) (o : Option Man) → man_at p i ≡ o → IsSomeAnd o (λ m. m.place ≢ Gone) → coordinates_before p i + 1 < length (tuple_of p)
    by i None e h = absurd h
    by zero (Some m) e h = absurd (cc)
    by (suc j) (Some m) e h = on_square j m e m.place refl h

module _ (p q : Position) (j : ℕ) (z a : Square) (m : Man) (is : man_at p (suc j) ≡ Some m) (stands : StandsOn m a) (after : IsAfter p (suc j) z q) (none : IsEmptySquare p z) where
  -- the others stay
  other_stays : (k : ℕ) (b : Man) → k ≢ suc j → man_at p k ≡ Some b → man_at q k ≡ Some b
  other_stays k b ne at =
      let w = at_same p q k b after.same_count at in
      let left = after.others k b w.0 ne at w.1 in
      w.1 ∙ ap (λ n. Some n) (left.kept ((all_men p (λ n. StandsOn n z → ⊥)).0 none k b at))

  abbrev Moved : List ℤ → List ℤ
  Moved xs = set (set xs (length (tuple_to p j)) z.x) (length (tuple_to p j) + 1) z.y

  before_him : (n : ℕ) → n ≤ j → n ≤ length p.men → tuple_to q n ≡ tuple_to p n
  before_him zero low within = refl
  before_him (suc n) low within =
      let w = there p j a m is stands n (omega (arith, within)) in
      let ne : suc n ≢ suc j = λ e. omega (arith, e, low) in
      tuple_one q n w.0 (other_stays (suc n) w.0 ne w.1)
      ∙ (ap (λ xs. xs ++ coordinates_of (square_of w.0)) (before_him n (omega (arith, low)) (omega (arith, within))) ∙ sym (tuple_one p n w.0 w.1))

  him : tuple_to q (suc j) ≡ Moved (tuple_to p (suc j))
  him =
      let within : j < length p.men = slice_get_within p.men j m is in
      tuple_one q j (record m { place = At z.x z.y }) (after.mover m is)
      ∙ (ap (λ xs. xs ++ z.x ∷ z.y ∷ []) (before_him j (omega arith) (omega (arith, within)))
      ∙ (sym (put_two (tuple_to p j) a.x a.y z.x z.y) ∙ sym (ap Moved (his_place p j a m is stands))))

  from_him : (n : ℕ) → suc j ≤ n → n ≤ length p.men → tuple_to q n ≡ Moved (tuple_to p n)
  from_him zero low within = absurd (omega (arith, low))
  from_him (suc n) low within =
      elim (cases_lt j n) [
        | inl past ↦
            let w = there p j a m is stands n (omega (arith, within)) in
            let ne : suc n ≢ suc j = λ e. omega (arith, e, past) in
            tuple_one q n w.0 (other_stays (suc n) w.0 ne w.1)
            ∙ (ap (λ xs. xs ++ coordinates_of (square_of w.0)) (from_him n (omega (arith, past)) (omega (arith, within)))
            ∙ (sym (put_front (tuple_to p n) (coordinates_of (square_of w.0)) (length (tuple_to p j)) z.x z.y (his_room p j a m is stands n (omega (arith, past)) (omega (arith, within))).0)
            ∙ sym (ap Moved (tuple_one p n w.0 w.1))))
        | inr here ↦
            let e : n ≡ j = omega (arith, here, low) in
            subst (λ k. tuple_to q (suc k) ≡ Moved (tuple_to p (suc k))) (sym e) him
      ]

  pub tuple_moved : tuple_of q ≡ Moved (tuple_of p)
  tuple_moved =
      let within : j < length p.men = slice_get_within p.men j m is in
      ap (tuple_to q) after.same_count ∙ from_him (length p.men) (omega (arith, within)) (omega arith)

  -- and all men that were live still are
  live_same : (i : ℕ) (c : Man) → slice_get q.men i ≡ Some c → (bit_at (mask_of p) i ≡ 1) ↔ (c.place ≢ Gone)
  live_same i c at =
      let w = at_same q p (suc i) c (sym after.same_count) at in
      let tells = (mask_tells p).live i w.0 w.1 in
      elim (cases_lt i j) [
        | inl low ↦
            let same : Some c ≡ Some w.0 = sym at ∙ other_stays (suc i) w.0 (λ e. omega (arith, e, low)) w.1 in
            subst (λ d. (bit_at (mask_of p) i ≡ 1) ↔ (d.place ≢ Gone)) (sym (same_Some c w.0 same)) tells
        | inr rest ↦ elim (cases_lt j i) [
          | inl high ↦
              let same : Some c ≡ Some w.0 = sym at ∙ other_stays (suc i) w.0 (λ e. omega (arith, e, high)) w.1 in
              subst (λ d. (bit_at (mask_of p) i ≡ 1) ↔ (d.place ≢ Gone)) (sym (same_Some c w.0 same)) tells
          | inr more ↦
              let e : i ≡ j = omega (arith, rest, more) in
              let his : man_at p (suc i) ≡ Some m = subst (λ k. man_at p (suc k) ≡ Some m) (sym e) is in
              let same_was : w.0 ≡ m = same_Some w.0 m (sym w.1 ∙ his) in
              let now : man_at q (suc i) ≡ Some (record m { place = At z.x z.y }) = subst (λ k. man_at q (suc k) ≡ Some (record m { place = At z.x z.y })) (sym e) (after.mover m is) in
              let same_now : c ≡ record m { place = At z.x z.y } = same_Some c (record m { place = At z.x z.y }) (sym at ∙ now) in
              let moved : c.place ≡ At z.x z.y = ap (λ d. d.place) same_now in (
                λ h gone. let no : At z.x z.y ≡ Gone = sym moved ∙ gone in cc,
                λ h. tells.1 (subst (λ d. d.place ≢ Gone) (sym same_was) (stands_live m a stands)),
              )
        ]
      ]

  mask_moved : mask_of q ≡ mask_of p
  mask_moved = sym (mask_one {q = q} {mask = mask_of p} (record { live = live_same; no_more = subst (λ n. mask_of p < 2 ^ n) (sym after.same_count) (mask_tells p).no_more }))

-- the mask and the coordinates after a move along a ray to an empty square: man 0 is none
pub mask_after : {p q : Position} (i : ℕ) {z : Square} (a : Square) (m : Man) → man_at p i ≡ Some m → StandsOn m a → IsAfter p i z q → IsEmptySquare p z
    → mask_of q ≡ mask_of p
mask_after zero a m is stands after none = absurd (cc)
mask_after {p} {q} (suc j) {z} a m is stands after none = mask_moved p q j z a m is stands after none

pub tuple_hit : {p q : Position} (i : ℕ) {z : Square} (a : Square) (m : Man) (r : Ray) (t : ℕ) → man_at p i ≡ Some m → StandsOn m a → IsAfter p i z q
    → IsEmptySquare p z → z ≡ after_steps a t r.dx r.dy → tuple_of q ≡ tuple_along p i r t
tuple_hit zero a m r t is stands after none leads = absurd (cc)
tuple_hit {p} {q} (suc j) {z} a m r t is stands after none leads =
    let x : value_after (tuple_of p) (coordinates_before p (suc j)) r.dx t ≡ z.x = ap (λ b. b +ℤ (pos t *ℤ r.dx)) (his_x p j a m is stands) ∙ sym (ap (λ s. s.x) leads) in
    let y : value_after (tuple_of p) (coordinates_before p (suc j) + 1) r.dy t ≡ z.y = ap (λ b. b +ℤ (pos t *ℤ r.dy)) (his_y p j a m is stands) ∙ sym (ap (λ s. s.y) leads) in
    tuple_moved p q j z a m is stands after none
    ∙ sym (ap (λ b. set (set (tuple_of p) (coordinates_before p (suc j)) b) (coordinates_before p (suc j) + 1) (value_after (tuple_of p) (coordinates_before p (suc j) + 1) r.dy t)) x
    ∙ ap (λ b. set (set (tuple_of p) (coordinates_before p (suc j)) z.x) (coordinates_before p (suc j) + 1) b) y)
