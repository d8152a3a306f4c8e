-- A map of the board that keeps reach, lines and the pawns' way, and can be undone by another such map, keeps the game.
use Rattle.std.proofs.Common.{◌≡◌, ◌≢◌, inl, inr, ℕ, zero, suc, ◌-ℤ◌, List, [], ◌∷◌, get_or, map, Some, refl, sym, ap, subst, ◌∙◌}
use Rattle.std.specs.Prelude.{IsSomeAnd}
use Rattle.std.specs.List.{All, Any, slice_get}
use Rattle.std.proofs.lemmas.List.{length-map}
use Rattle.std.proofs.lemmas.Option.{get_or_from_slice_get, same_Some, slice_get-get_or, slice_get_within}
use Rattle.game_rules.specs.Game.{Position, Attacked, Bears, GoesAs, HasMove, HasOneKingAtMost, InCheck, IsAfter, IsApart, IsBetween, IsEmptySquare, IsOccupiedBy, IsLeftBy, IsLiveAnd, IsOpen, Legal, Lost, LostInto, Mate, Sound, StandsOn, Step, Value, Win, forward, man_at, other, place_square}
use Rattle.game_rules.specs.declared.men.Kind.{Kind}
use Rattle.game_rules.specs.declared.men.Kind.TheVariants.{King, Queen, Rook, Bishop, Knight, Pawn, Chancellor, Archbishop, Amazon, Nightrider}
use Rattle.game_rules.specs.declared.men.Man.{Man}
use Rattle.game_rules.specs.declared.men.Place.{Place}
use Rattle.game_rules.specs.declared.men.Place.TheVariants.{At, Gone}
use Rattle.game_rules.specs.declared.men.Side.{Side}
use Rattle.game_rules.specs.declared.men.Square.{Square}
use Rattle.game_laws.specs.Symmetry.{BoardMap, KeepsGame, mapped, mapped_man, mapped_place, place_on}
use Rattle.game_laws.specs.Reach.{HasReach}
use Rattle.game_laws.proofs.CheckLemmas.{any_is}
use Rattle.game_laws.proofs.OpenLemmas.{bears_openly, openly_bears}
use Rattle.game_laws.proofs.SoundLemmas.{any_at}

-- men go on the mapped board as they go here
pub record IsCarrier (f : BoardMap) : Type 0 where
  pub opponent : (s : Side) → f.side (other s) ≡ other (f.side s)
  pub reach : (s : Side) (k : Kind) (a z : Square)
      → HasReach s k (z.x -ℤ a.x) (z.y -ℤ a.y)
      → HasReach (f.side s) k ((f.square z).x -ℤ (f.square a).x) ((f.square z).y -ℤ (f.square a).y)
  pub between : (a b z : Square) → IsBetween a b z → IsBetween (f.square a) (f.square b) (f.square z)
  pub behind : (s : Side) (z : Square)
      → f.square (record { x = z.x; y = z.y -ℤ forward s })
      ≡ record { x = (f.square z).x; y = (f.square z).y -ℤ forward (f.side s) }

-- the second map undoes the first
pub record IsUndone (f g : BoardMap) : Type 0 where
  pub carrier : IsCarrier f
  pub back : IsCarrier g
  pub square : (z : Square) → g.square (f.square z) ≡ z
  pub square_back : (z : Square) → f.square (g.square z) ≡ z
  pub side : (s : Side) → g.side (f.side s) ≡ s
  pub side_back : (s : Side) → f.side (g.side s) ≡ s

pub undone_back : {f g : BoardMap} → IsUndone f g → IsUndone g f
undone_back u =
    record { carrier = u.back; back = u.carrier; square = u.square_back; square_back = u.square; side = u.side_back; side_back = u.side }

-- the men of the mapped position
module _ (f : BoardMap) where
  place_to : (a : Place) (z : Square) → place_square a ≡ Some z → place_square (mapped_place f a) ≡ Some (f.square z)
  place_to Gone z s = cc
  place_to (At x y) z s = ap (λ w. Some (f.square w)) (same_Some (record { x = x; y = y }) z s)

  place_from : (a : Place) (w : Square) → place_square (mapped_place f a) ≡ Some w → (z : Square) × (place_square a ≡ Some z) × (f.square z ≡ w)
  place_from Gone w s = cc
  place_from (At x y) w s = (record { x = x; y = y }, refl, same_Some (f.square (record { x = x; y = y })) w s)

  place_live : (a : Place) → a ≢ Gone → mapped_place f a ≢ Gone
  place_live Gone live gone = live refl
  place_live (At x y) live gone = cc

  some_to : (a : Place) (P Q : Square → Type 0) → ((z : Square) → P z → Q (f.square z)) → IsSomeAnd (place_square a) P → IsSomeAnd (place_square (mapped_place f a)) Q
  some_to Gone P Q k h = h
  some_to (At x y) P Q k h = k (record { x = x; y = y }) h

  some_from : (a : Place) (P Q : Square → Type 0) → ((z : Square) → Q (f.square z) → P z) → IsSomeAnd (place_square (mapped_place f a)) Q → IsSomeAnd (place_square a) P
  some_from Gone P Q k h = h
  some_from (At x y) P Q k h = k (record { x = x; y = y }) h

  stands_to : (m : Man) (z : Square) → StandsOn m z → StandsOn (mapped_man f m) (f.square z)
  stands_to m z s = place_to m.place z s

  live_to : (m : Man) (P Q : Square → Type 0) → ((z : Square) → P z → Q (f.square z)) → IsLiveAnd m P → IsLiveAnd (mapped_man f m) Q
  live_to m P Q k h = some_to m.place P Q k h

  live_from : (m : Man) (P Q : Square → Type 0) → ((z : Square) → Q (f.square z) → P z) → IsLiveAnd (mapped_man f m) Q → IsLiveAnd m P
  live_from m P Q k h = some_from m.place P Q k h

  get_to : (ms : List Man) (i : ℕ) (m : Man) → slice_get ms i ≡ Some m → slice_get (map (mapped_man f) ms) i ≡ Some (mapped_man f m)
  get_to [] i m is = cc
  get_to (a ∷ ms) zero m is = ap (λ n. Some (mapped_man f n)) (same_Some a m is)
  get_to (a ∷ ms) (suc i) m is = get_to ms i m is

  get_from : (ms : List Man) (i : ℕ) (n : Man) → slice_get (map (mapped_man f) ms) i ≡ Some n → (m : Man) × (slice_get ms i ≡ Some m) × (mapped_man f m ≡ n)
  get_from [] i n is = cc
  get_from (a ∷ ms) zero n is = (a, refl, same_Some (mapped_man f a) n is)
  get_from (a ∷ ms) (suc i) n is = get_from ms i n is

  pub man_to : (p : Position) (i : ℕ) (m : Man) → man_at p i ≡ Some m → man_at (mapped f p) i ≡ Some (mapped_man f m)
  man_to p zero m is = cc
  man_to p (suc i) m is = get_to p.men i m is

  pub man_from : (p : Position) (i : ℕ) (n : Man) → man_at (mapped f p) i ≡ Some n → (m : Man) × (man_at p i ≡ Some m) × (mapped_man f m ≡ n)
  man_from p zero n is = cc
  man_from p (suc i) n is = get_from p.men i n is

  any_to : (p : Position) (P Q : Man → Type 0) → ((m : Man) → P m → Q (mapped_man f m)) → Any P p.men → Any Q (mapped f p).men
  any_to p P Q k h =
      let w = any_is p P h in any_at (mapped f p) Q w.0 (mapped_man f w.1) (man_to p w.0 w.1 w.2) (k w.1 w.3)

  any_from : (p : Position) (P Q : Man → Type 0) → ((m : Man) → Q (mapped_man f m) → P m) → Any Q (mapped f p).men → Any P p.men
  any_from p P Q k h =
      let w = any_is (mapped f p) Q h in
      let v = man_from p w.0 w.1 w.2 in
      any_at p P w.0 v.0 v.1 (k v.0 (subst Q (sym v.2) w.3))

  all_to : (ms : List Man) (P Q : Man → Type 0) → ((m : Man) → P m → Q (mapped_man f m)) → All P ms → All Q (map (mapped_man f) ms)
  all_to ms P Q k h =
      λ j d within.
      let w = get_from ms j (get_or (map (mapped_man f) ms) j d) (slice_get-get_or (map (mapped_man f) ms) j d within) in
      let here : get_or ms j w.0 ≡ w.0 = get_or_from_slice_get ms j w.0 w.0 w.1 in
      subst Q w.2 (k w.0 (subst P here (h j w.0 (slice_get_within ms j w.0 w.1))))

-- a map and one that undoes it
module _ (f g : BoardMap) (u : IsUndone f g) where
  place_again : (a : Place) → mapped_place g (mapped_place f a) ≡ a
  place_again Gone = refl
  place_again (At x y) = ap place_on (u.square (record { x = x; y = y }))

  man_again : (m : Man) → mapped_man g (mapped_man f m) ≡ m
  man_again m =
      ap (λ s. record { side = s; kind = m.kind; place = mapped_place g (mapped_place f m.place) }) (u.side m.side)
      ∙ ap (λ a. record { side = m.side; kind = m.kind; place = a }) (place_again m.place)

  men_again : (ms : List Man) → map (mapped_man g) (map (mapped_man f) ms) ≡ ms
  men_again [] = refl
  men_again (m ∷ ms) = ap (λ n. n ∷ map (mapped_man g) (map (mapped_man f) ms)) (man_again m) ∙ ap (λ ns. m ∷ ns) (men_again ms)

  pub again : (p : Position) → mapped g (mapped f p) ≡ p
  again p =
      ap (λ ms. record { men = ms; turn = g.side (f.side p.turn) }) (men_again p.men)
      ∙ ap (λ s. record { men = p.men; turn = s }) (u.side p.turn)

  side_one : (s t : Side) → f.side s ≡ f.side t → s ≡ t
  side_one s t e = sym (u.side s) ∙ ap g.side e ∙ u.side t

  square_one : (a b : Square) → f.square a ≡ f.square b → a ≡ b
  square_one a b e = sym (u.square a) ∙ ap g.square e ∙ u.square b

  stands_from : (m : Man) (z : Square) → StandsOn (mapped_man f m) (f.square z) → StandsOn m z
  stands_from m z s =
      let w = place_from f m.place (f.square z) s in w.1 ∙ ap (λ a. Some a) (square_one w.0 z w.2)

  between_from : (a b z : Square) → IsBetween (f.square a) (f.square b) (f.square z) → IsBetween a b z
  between_from a b z h =
      subst (λ c. IsBetween c b z) (u.square a)
      (subst (λ c. IsBetween (g.square (f.square a)) c z) (u.square b)
      (subst (λ c. IsBetween (g.square (f.square a)) (g.square (f.square b)) c) (u.square z) (u.back.between (f.square a) (f.square b) (f.square z) h)))

  open_to : (p : Position) (a b : Square) → IsOpen p a b → IsOpen (mapped f p) (f.square a) (f.square b)
  open_to p a b clear =
      all_to f p.men (λ m. IsLiveAnd m (IsBetween a b) → ⊥) (λ m. IsLiveAnd m (IsBetween (f.square a) (f.square b)) → ⊥)
      (λ m none h. none (live_from f m (IsBetween a b) (IsBetween (f.square a) (f.square b)) (between_from a b) h)) clear

  bears_to : (p : Position) (m : Man) (z : Square) → Bears p m z → Bears (mapped f p) (mapped_man f m) (f.square z)
  bears_to p m z h =
      openly_bears (mapped f p) (mapped_man f m) (f.square z)
      (live_to f m (λ a. HasReach m.side m.kind (z.x -ℤ a.x) (z.y -ℤ a.y) × IsOpen p a z)
      (λ a. HasReach (f.side m.side) m.kind ((f.square z).x -ℤ a.x) ((f.square z).y -ℤ a.y) × IsOpen (mapped f p) a (f.square z))
      (λ a h. (u.carrier.reach m.side m.kind a z h.0, open_to p a z h.1)) (bears_openly p m z h))

  attacked_to : (p : Position) (s : Side) (z : Square) → Attacked p s z → Attacked (mapped f p) (f.side s) (f.square z)
  attacked_to p s z h =
      any_to f p (λ m. (m.side ≡ s) × Bears p m z) (λ m. (m.side ≡ f.side s) × Bears (mapped f p) m (f.square z))
      (λ m h. (ap f.side h.0, bears_to p m z h.1)) h

  held_to : (p : Position) (s : Side) (z : Square) → IsOccupiedBy p s z → IsOccupiedBy (mapped f p) (f.side s) (f.square z)
  held_to p s z h =
      any_to f p (λ m. (m.side ≡ s) × StandsOn m z) (λ m. (m.side ≡ f.side s) × StandsOn m (f.square z))
      (λ m h. (ap f.side h.0, stands_to f m z h.1)) h

  held_from : (p : Position) (s : Side) (z : Square) → IsOccupiedBy (mapped f p) (f.side s) (f.square z) → IsOccupiedBy p s z
  held_from p s z h =
      any_from f p (λ m. (m.side ≡ s) × StandsOn m z) (λ m. (m.side ≡ f.side s) × StandsOn m (f.square z))
      (λ m h. (side_one m.side s h.0, stands_from m z h.1)) h

  empty_to : (p : Position) (z : Square) → IsEmptySquare p z → IsEmptySquare (mapped f p) (f.square z)
  empty_to p z none =
      all_to f p.men (λ m. StandsOn m z → ⊥) (λ m. StandsOn m (f.square z) → ⊥) (λ m off s. off (stands_from m z s)) none

  goes_to : (k : Kind) (p : Position) (m : Man) (z : Square) → GoesAs k p m z → GoesAs k (mapped f p) (mapped_man f m) (f.square z)
  goes_to King p m z h = bears_to p m z h
  goes_to Queen p m z h = bears_to p m z h
  goes_to Rook p m z h = bears_to p m z h
  goes_to Bishop p m z h = bears_to p m z h
  goes_to Knight p m z h = bears_to p m z h
  goes_to Chancellor p m z h = bears_to p m z h
  goes_to Archbishop p m z h = bears_to p m z h
  goes_to Amazon p m z h = bears_to p m z h
  goes_to Nightrider p m z h = bears_to p m z h
  goes_to Pawn p m z (inl h) =
      inl (bears_to p m z h.0, subst (λ s. IsOccupiedBy (mapped f p) s (f.square z)) (u.carrier.opponent m.side) (held_to p (other m.side) z h.1))
  goes_to Pawn p m z (inr h) =
      inr (subst (StandsOn (mapped_man f m)) (u.carrier.behind m.side z) (stands_to f m (record { x = z.x; y = z.y -ℤ forward m.side }) h.0), empty_to p z h.1)

  left_to : {z : Square} {m n : Man} → IsLeftBy z m n → IsLeftBy (f.square z) (mapped_man f m) (mapped_man f n)
  left_to {z} {m} left =
      record {
        taken = λ s. ap (mapped_man f) (left.taken (stands_from m z s));
        kept = λ off. ap (mapped_man f) (left.kept (λ s. off (stands_to f m z s)));
      }

  module _ (p : Position) (i : ℕ) (z : Square) (q : Position) (after : IsAfter p i z q) where
    mover_to : (n : Man) → man_at (mapped f p) i ≡ Some n → man_at (mapped f q) i ≡ Some (record n { place = At (f.square z).x (f.square z).y })
    mover_to n is =
        let w = man_from f p i n is in
        subst (λ a. man_at (mapped f q) i ≡ Some (record a { place = At (f.square z).x (f.square z).y })) w.2
        (man_to f q i (record w.0 { place = At z.x z.y }) (after.mover w.0 w.1))

    others_to : (k : ℕ) (m n : Man) → k ≢ i → man_at (mapped f p) k ≡ Some m → man_at (mapped f q) k ≡ Some n → IsLeftBy (f.square z) m n
    others_to k m n ne was is =
        let a = man_from f p k m was in
        let b = man_from f q k n is in
        subst (λ c. IsLeftBy (f.square z) c n) a.2
        (subst (IsLeftBy (f.square z) (mapped_man f a.0)) b.2 (left_to (after.others k a.0 b.0 ne a.1 b.1)))

    after_to : IsAfter (mapped f p) i (f.square z) (mapped f q)
    after_to =
        record {
          same_count = length-map q.men (mapped_man f) ∙ after.same_count ∙ sym (length-map p.men (mapped_man f));
          mover = mover_to;
          others = others_to;
          turn = ap f.side after.turn ∙ u.carrier.opponent p.turn;
        }

  pub step_to : {p : Position} {i : ℕ} {z : Square} {q : Position} → Step p i z q → Step (mapped f p) i (f.square z) (mapped f q)
  step_to {p} {i} {z} {q} step =
      record {
        man = mapped_man f step.man;
        is_man = man_to f p i step.man step.is_man;
        his_turn = ap f.side step.his_turn;
        not_own = λ h. step.not_own (held_from p p.turn z h);
        goes = goes_to step.man.kind p step.man z step.goes;
        after = after_to p i z q step.after;
      }

  pub check_to : (p : Position) (s : Side) → InCheck p s → InCheck (mapped f p) (f.side s)
  check_to p s h =
      any_to f p (λ m. (m.side ≡ s) × (m.kind ≡ King) × IsLiveAnd m (Attacked p (other s)))
      (λ m. (m.side ≡ f.side s) × (m.kind ≡ King) × IsLiveAnd m (Attacked (mapped f p) (other (f.side s))))
      (λ m h. (
        ap f.side h.0,
        h.1,
        live_to f m (Attacked p (other s)) (Attacked (mapped f p) (other (f.side s)))
            (λ a t. subst (λ w. Attacked (mapped f p) w (f.square a)) (u.carrier.opponent s) (attacked_to p (other s) a t)) h.2,
      )) h

-- the same, and back
module _ (f g : BoardMap) (u : IsUndone f g) where
  pub check_from : (p : Position) (s : Side) → InCheck (mapped f p) (f.side s) → InCheck p s
  check_from p s h =
      subst (λ r. InCheck r s) (again f g u p)
      (subst (InCheck (mapped g (mapped f p))) (u.side s) (check_to g f (undone_back u) (mapped f p) (f.side s) h))

  pub legal_to : {p : Position} {i : ℕ} {z : Square} {q : Position} → Legal p i z q → Legal (mapped f p) i (f.square z) (mapped f q)
  legal_to {p} {q} l = record { step = step_to f g u l.step; safe = λ h. l.safe (check_from q p.turn h) }

module _ (f g : BoardMap) (u : IsUndone f g) where
  pub legal_from : (p : Position) {i : ℕ} {z : Square} {r : Position} → Legal (mapped f p) i z r → Legal p i (g.square z) (mapped g r)
  legal_from p {i} {z} {r} l =
      subst (λ a. Legal a i (g.square z) (mapped g r)) (again f g u p) (legal_to g f (undone_back u) l)

  legal_same : (p : Position) (i : ℕ) (z : Square) (q : Position) → Legal (mapped f p) i (f.square z) (mapped f q) → Legal p i z q
  legal_same p i z q l =
      subst (λ w. Legal p i w q) (u.square z)
      (subst (Legal p i (g.square (f.square z))) (again f g u q) (legal_from p l))

  step_same : (p : Position) (i : ℕ) (z : Square) (q : Position) → Step (mapped f p) i (f.square z) (mapped f q) → Step p i z q
  step_same p i z q step =
      subst (λ w. Step p i w q) (u.square z)
      (subst (Step p i (g.square (f.square z))) (again f g u q)
      (subst (λ a. Step a i (g.square (f.square z)) (mapped g (mapped f q))) (again f g u p) (step_to g f (undone_back u) step)))

  has_move_to : {p : Position} → HasMove p → HasMove (mapped f p)
  has_move_to (i, z, q, l) = (i, f.square z, mapped f q, legal_to f g u l)

  mate_to : {p : Position} → Mate p → Mate (mapped f p)
  mate_to {p} mate =
      record {
        check = check_to f g u p p.turn mate.check;
        stuck = λ i z q l. mate.stuck i (g.square z) (mapped g q) (legal_from p l);
      }

  -- the kings of a side are those of the side that becomes it
  kings_to : {p : Position} (s : Side) {t : Side} → f.side t ≡ s → HasOneKingAtMost p t → HasOneKingAtMost (mapped f p) s
  kings_to {p} s {t} e had =
      let his : (m n : Man) → mapped_man f m ≡ n → n.side ≡ s → m.side ≡ t =
      λ m n is side. side_one f g u m.side t (ap (λ a. a.side) is ∙ side ∙ sym e) in
      record {
        live = λ k n is side kind gone.
            let w = man_from f p k n is in
            place_live f w.0.place (had.live k w.0 w.1 (his w.0 n w.2 side) (ap (λ a. a.kind) w.2 ∙ kind)) (ap (λ a. a.place) w.2 ∙ gone);
        only = λ j k m n is_m is_n side_m side_n kind_m kind_n.
            let a = man_from f p j m is_m in
            let b = man_from f p k n is_n in
            had.only j k a.0 b.0 a.1 b.1 (his a.0 m a.2 side_m) (his b.0 n b.2 side_n) (ap (λ a. a.kind) a.2 ∙ kind_m) (ap (λ a. a.kind) b.2 ∙ kind_n);
      }

  apart_to : (p : Position) → IsApart p → IsApart (mapped f p)
  apart_to p apart i j m n z is_m is_n s t =
      let a = man_from f p i m is_m in
      let b = man_from f p j n is_n in
      let at_a = place_from f a.0.place z (subst (λ c. StandsOn c z) (sym a.2) s) in
      let at_b = place_from f b.0.place z (subst (λ c. StandsOn c z) (sym b.2) t) in
      apart i j a.0 b.0 at_a.0 a.1 b.1 at_a.1
      (at_b.1 ∙ ap (λ c. Some c) (square_one f g u at_b.0 at_a.0 (at_b.2 ∙ sym at_a.2)))

  sound_to : (p : Position) → Sound p → Sound (mapped f p)
  sound_to p sound =
      record {
        kings = record {
          few = λ s. kings_to s (u.side_back s) (sound.kings.few (g.side s));
          some = λ none. sound.kings.some (λ k m is kind. none k (mapped_man f m) (man_to f p k m is) kind);
        };
        apart = apart_to p sound.apart;
        other_safe = λ h. sound.other_safe (check_from f g u p (other p.turn) (subst (InCheck (mapped f p)) (sym (u.carrier.opponent p.turn)) h));
      }

  lost_into_to : (winner : Side) (W V : Position → Type 0) → ((r : Position) → W r → V (mapped f r)) → (q : Position) → LostInto winner W q → LostInto (f.side winner) V (mapped f q)
  lost_into_to winner W V to q (turn, inl mate) = (ap f.side turn ∙ u.carrier.opponent winner, inl (mate_to mate))
  lost_into_to winner W V to q (turn, inr (move, each)) = (
    ap f.side turn ∙ u.carrier.opponent winner,
    inr (
      (move.0, f.square move.1, mapped f move.2, legal_to f g u move.3),
      λ i z r l. subst V (again g f (undone_back u) r) (to (mapped g r) (each i (g.square z) (mapped g r) (legal_from q l))),
    ),
  )

  win_to : (winner : Side) (n : ℕ) (p : Position) → Win winner n p → Win (f.side winner) n (mapped f p)
  win_to winner zero p h = h
  win_to winner (suc n) p (turn, (i, z, q, l, lost)) = (
    ap f.side turn,
    (
      i,
      f.square z,
      mapped f q,
      legal_to f g u l,
      lost_into_to winner (Win winner n) (Win (f.side winner) n) (λ r. win_to winner n r) q lost,
    ),
  )

  lost_to : (winner : Side) (n : ℕ) (q : Position) → Lost winner n q → Lost (f.side winner) n (mapped f q)
  lost_to winner n q h = lost_into_to winner (Win winner n) (Win (f.side winner) n) (λ r. win_to winner n r) q h

  value_to : (winner : Side) (n : ℕ) (p : Position) → Value winner n p → Value (f.side winner) n (mapped f p)
  value_to winner n p (inl h) = inl (win_to winner n p h)
  value_to winner n p (inr h) = inr (lost_to winner n p h)

-- a value of the mapped position, for the side that the winner becomes, is one of the position
pub from_mapped : {f g : BoardMap} (u : IsUndone f g) (V : Side → Position → Type 0)
    → ((s : Side) (q : Position) → V s q → V (g.side s) (mapped g q))
    → (winner : Side) (p : Position) → V (f.side winner) (mapped f p) → V winner p
from_mapped {f} {g} u V back winner p h =
    subst (λ s. V s p) (u.side winner)
    (subst (V (g.side (f.side winner))) (again f g u p) (back (f.side winner) (mapped f p) h))

-- a map that another undoes keeps the game, since each of the two keeps it in one direction
pub keeps_game : {f g : BoardMap} → IsUndone f g → KeepsGame f
keeps_game {f} {g} u =
    let back : IsUndone g f = undone_back u in
    record {
      step = λ p i z q. (step_to f g u {p = p} {i = i} {z = z} {q = q}, step_same f g u p i z q);
      check = λ p s. (check_to f g u p s, check_from f g u p s);
      legal = λ p i z q. (legal_to f g u {p = p} {i = i} {z = z} {q = q}, legal_same f g u p i z q);
      sound = λ p. (sound_to f g u p, λ h. subst Sound (again f g u p) (sound_to g f back (mapped f p) h));
      mate = λ p. (mate_to f g u {p = p}, λ h. subst Mate (again f g u p) (mate_to g f back h));
      has_move = λ p. (has_move_to f g u {p = p}, λ h. subst HasMove (again f g u p) (has_move_to g f back h));
      win = λ winner n p. (win_to f g u winner n p, from_mapped u (λ s. Win s n) (λ s. win_to g f back s n) winner p);
      lost = λ winner n p. (lost_to f g u winner n p, from_mapped u (λ s. Lost s n) (λ s. lost_to g f back s n) winner p);
      value = λ winner n p. (value_to f g u winner n p, from_mapped u (λ s. Value s n) (λ s. value_to g f back s n) winner p);
    }
