-- Positions with the same live men have the same games.
use Rattle.std.proofs.Common.{◌≡◌, ◌≢◌, ◌⊎◌, ◌↔◌, inl, inr, ℕ, zero, suc, ◌<◌, length, List, [], ◌∷◌, Option, Some, None, IsSomeAnd, get_or, refl, sym, ap, subst, ◌∙◌, ◌-ℤ◌}
use Rattle.std.specs.List.{All, Any}
use Rattle.std.proofs.lemmas.Option.{get_or_from_slice_get, slice_get-get_or, slice_get_within}
use Rattle.game_rules.specs.Game.{Attacked, Bears, Goes, GoesAs, HasMove, HasOneKing, InCheck, IsBetween, IsEmptySquare, IsLiveAnd, IsOccupiedBy, IsOpen, Legal, Lost, LostInto, Mate, Position, Sound, StandsOn, Step, Value, Win, forward, man_at, other, place_square, square_of}
use Rattle.game_rules.specs.declared.men.Kind.{Kind}
use Rattle.game_rules.specs.declared.men.Kind.TheVariants.{King, Queen, Rook, Bishop, Knight, Pawn, Chancellor, Archbishop, Amazon, Nightrider}
use Rattle.game_rules.specs.declared.men.Man.{Man}
use Rattle.game_rules.specs.declared.men.Place.{Place}
use Rattle.game_rules.specs.declared.men.Place.TheVariants.{Gone, At}
use Rattle.game_rules.specs.declared.men.Side.{Side}
use Rattle.game_rules.specs.declared.men.Square.{Square}
use Rattle.game_laws.specs.Reach.{HasReach}
use Rattle.game_laws.proofs.CheckLemmas.{any_is}
use Rattle.game_laws.proofs.DecideLemmas.{is_after, position_after}
use Rattle.game_laws.proofs.OpenLemmas.{bears_openly, openly_bears}
use Rattle.game_laws.proofs.SoundLemmas.{any_at}
use Rattle.stock_position.specs.Live.{live_men, live_of, with_live}
use Rattle.stock_position.specs.Soundness.{IsSoundFor}
use Rattle.stock_laws.specs.Laws.{CapturedKeepsValue, LiveKeepsSound, LiveKeepsValue}
use Rattle.stock_laws.proofs.AfterMoves.{live_after, moved_live}
use Rattle.stock_laws.proofs.LiveLists.{AreAlike, alike_back, from_live, partner, rank, to_live}

stands_live : (m : Man) (z : Square) → StandsOn m z → m.place ≢ Gone
stands_live m z s e = let none : None ≡ Some z = sym (ap place_square e) ∙ s in cc

live_and : (m : Man) (P : Square → Type 0) → IsLiveAnd m P → m.place ≢ Gone
live_and m P h e = let none : IsSomeAnd None P = subst (λ a. IsSomeAnd (place_square a) P) e h in none

some_map : (o : Option Square) (P Q : Square → Type 0) → ((a : Square) → P a → Q a) → IsSomeAnd o P → IsSomeAnd o Q
some_map None P Q f h = h
some_map (Some a) P Q f h = f a h

bears_live : (p : Position) (m : Man) (z : Square) → Bears p m z → m.place ≢ Gone
bears_live p m z h = live_and m (λ a. HasReach m.side m.kind (z.x -ℤ a.x) (z.y -ℤ a.y) × IsOpen p a z) (bears_openly p m z h)

module _ {p q : Position} (alike : AreAlike p q) where
  any_alike : (P Q : Man → Type 0) → ((m : Man) → P m → m.place ≢ Gone) → ((m : Man) → P m → Q m) → Any P p.men → Any Q q.men
  any_alike P Q live to h = let w = any_is p P h in by_number w.0 w.1 w.2 w.3
    where
      by_number : (k : ℕ) (m : Man) → man_at p k ≡ Some m → P m → Any Q q.men
      by_number zero m is holds = absurd (let e : None ≡ Some m = is in cc)
      by_number (suc i) m is holds = let r = partner alike i m is (live m holds) in any_at q Q (suc r.number) m r.is (to m holds)

  none_alike : (P : Man → Type 0) → ((m : Man) → P m → m.place ≢ Gone) → All (λ m. P m → ⊥) p.men → All (λ m. P m → ⊥) q.men
  none_alike P live none k d within h =
      let m = get_or q.men k d in
      let r = partner (alike_back alike) k m (slice_get-get_or q.men k d within) (live m h) in
      subst (λ n. P n → ⊥) (get_or_from_slice_get p.men r.number m m r.is) (none r.number m (slice_get_within p.men r.number m r.is)) h

  open_alike : (a b : Square) → IsOpen p a b → IsOpen q a b
  open_alike a b clear = none_alike (λ m. IsLiveAnd m (IsBetween a b)) (λ m h. live_and m (IsBetween a b) h) clear

  bears_alike : (m : Man) (z : Square) → Bears p m z → Bears q m z
  bears_alike m z h =
      openly_bears q m z
      (some_map (square_of m) (λ a. HasReach m.side m.kind (z.x -ℤ a.x) (z.y -ℤ a.y) × IsOpen p a z)
      (λ a. HasReach m.side m.kind (z.x -ℤ a.x) (z.y -ℤ a.y) × IsOpen q a z) (λ a h. (h.0, open_alike a z h.1)) (bears_openly p m z h))

  attacked_alike : (s : Side) (z : Square) → Attacked p s z → Attacked q s z
  attacked_alike s z h =
      any_alike (λ m. (m.side ≡ s) × Bears p m z) (λ m. (m.side ≡ s) × Bears q m z) (λ m b. bears_live p m z b.1) (λ m b. (b.0, bears_alike m z b.1)) h

  held_alike : (s : Side) (z : Square) → IsOccupiedBy p s z → IsOccupiedBy q s z
  held_alike s z h =
      any_alike (λ m. (m.side ≡ s) × StandsOn m z) (λ m. (m.side ≡ s) × StandsOn m z) (λ m b. stands_live m z b.1) (λ m b. b) h

  empty_alike : (z : Square) → IsEmptySquare p z → IsEmptySquare q z
  empty_alike z none = none_alike (λ m. StandsOn m z) (λ m s. stands_live m z s) none

  check_alike : (s : Side) → InCheck p s → InCheck q s
  check_alike s h =
      any_alike (λ m. (m.side ≡ s) × (m.kind ≡ King) × IsLiveAnd m (Attacked p (other s)))
      (λ m. (m.side ≡ s) × (m.kind ≡ King) × IsLiveAnd m (Attacked q (other s))) (λ m b. live_and m (Attacked p (other s)) b.2)
      (λ m b. (b.0, b.1, some_map (square_of m) (Attacked p (other s)) (Attacked q (other s)) (λ a t. attacked_alike (other s) a t) b.2)) h

  goes_alike : (k : Kind) (m : Man) (z : Square) → GoesAs k p m z → GoesAs k q m z
  goes_alike King m z h = bears_alike m z h
  goes_alike Queen m z h = bears_alike m z h
  goes_alike Rook m z h = bears_alike m z h
  goes_alike Bishop m z h = bears_alike m z h
  goes_alike Knight m z h = bears_alike m z h
  goes_alike Chancellor m z h = bears_alike m z h
  goes_alike Archbishop m z h = bears_alike m z h
  goes_alike Amazon m z h = bears_alike m z h
  goes_alike Nightrider m z h = bears_alike m z h
  goes_alike Pawn m z (inl h) = inl (bears_alike m z h.0, held_alike (other m.side) z h.1)
  goes_alike Pawn m z (inr h) = inr (h.0, empty_alike z h.1)

goes_live : (k : Kind) (p : Position) (m : Man) (z : Square) → GoesAs k p m z → m.place ≢ Gone
goes_live King p m z h = bears_live p m z h
goes_live Queen p m z h = bears_live p m z h
goes_live Rook p m z h = bears_live p m z h
goes_live Bishop p m z h = bears_live p m z h
goes_live Knight p m z h = bears_live p m z h
goes_live Chancellor p m z h = bears_live p m z h
goes_live Archbishop p m z h = bears_live p m z h
goes_live Amazon p m z h = bears_live p m z h
goes_live Nightrider p m z h = bears_live p m z h
goes_live Pawn p m z (inl h) = bears_live p m z h.0
goes_live Pawn p m z (inr h) = stands_live m (record { x = z.x; y = z.y -ℤ forward m.side }) h.0

-- a legal move of one is a legal move of the other, to positions with the same live men
record Follows (q : Position) (z : Square) (r : Position) : Type 0 where
  number : ℕ
  next : Position
  legal : Legal q number z next
  alike : AreAlike r next

follows_at : {p q : Position} → AreAlike p q → (i : ℕ) (z : Square) (r : Position) → Legal p (suc i) z r → Follows q z r
follows_at {p} {q} alike i z r l =
    let m = l.step.man in
    let live = goes_live m.kind p m z l.step.goes in
    let w = partner alike i m l.step.is_man live in
    let next = position_after q w.number z in
    let after = is_after q w.number z in
    let back = alike_back alike in
    let ahead : live_men r.men ≡ moved_live (live_men p.men) (rank p.men i) z = live_after i m l.step.after l.step.is_man live in
    let there : live_men next.men ≡ moved_live (live_men q.men) (rank q.men w.number) z = live_after w.number m after w.is live in
    let men : live_men r.men ≡ live_men next.men =
    ahead ∙ ap (λ l. moved_live l (rank p.men i) z) alike.men ∙ ap (λ k. moved_live (live_men q.men) k z) (sym w.ranked) ∙ sym there in
    let ends : AreAlike r next = record { men = men; turn = l.step.after.turn ∙ ap other alike.turn ∙ sym after.turn } in
    record {
      number = suc w.number;
      next = next;
      legal = record {
        step = record {
          man = m;
          is_man = w.is;
          his_turn = l.step.his_turn ∙ alike.turn;
          not_own = λ h. l.step.not_own (subst (λ t. IsOccupiedBy p t z) (sym alike.turn) (held_alike back q.turn z h));
          goes = goes_alike alike m.kind m z l.step.goes;
          after = after;
        };
        safe = λ h. l.safe (subst (InCheck r) (sym alike.turn) (check_alike (alike_back ends) q.turn h));
      };
      alike = ends;
    }

follows : {p q : Position} → AreAlike p q → (i : ℕ) (z : Square) (r : Position) → Legal p i z r → Follows q z r
follows {p} alike zero z r l = absurd (let e : None ≡ Some l.step.man = l.step.is_man in cc)
follows alike (suc i) z r l = follows_at alike i z r l

mate_alike : {p q : Position} → AreAlike p q → Mate p → Mate q
mate_alike {p} {q} alike mate =
    record {
      check = subst (InCheck q) alike.turn (check_alike alike p.turn mate.check);
      stuck = λ i z r l. let w = follows (alike_back alike) i z r l in mate.stuck w.number z w.next w.legal;
    }

has_move_alike : {p q : Position} → AreAlike p q → HasMove p → HasMove q
has_move_alike alike (i, z, r, l) = let w = follows alike i z r l in (w.number, z, w.next, w.legal)

lost_alike : (winner : Side) (W : Position → Type 0) → ((r s : Position) → AreAlike r s → W r → W s) → {p q : Position} → AreAlike p q
    → LostInto winner W p → LostInto winner W q
lost_alike winner W to alike (turn, inl mate) = (sym alike.turn ∙ turn, inl (mate_alike alike mate))
lost_alike winner W to alike (turn, inr (move, each)) = (
  sym alike.turn ∙ turn,
  inr (
    has_move_alike alike move,
    λ i z r l. let w = follows (alike_back alike) i z r l in to w.next r (alike_back w.alike) (each w.number z w.next w.legal),
  ),
)

win_alike : (winner : Side) (n : ℕ) (p q : Position) → AreAlike p q → Win winner n p → Win winner n q
win_alike winner zero p q alike h = h
win_alike winner (suc n) p q alike (turn, (i, z, r, l, lost)) =
    let w = follows alike i z r l in
    (sym alike.turn ∙ turn, (w.number, z, w.next, w.legal, lost_alike winner (Win winner n) (λ a b same. win_alike winner n a b same) w.alike lost))

value_alike : (winner : Side) (n : ℕ) (p q : Position) → AreAlike p q → Value winner n p → Value winner n q
value_alike winner n p q alike (inl win) = inl (win_alike winner n p q alike win)
value_alike winner n p q alike (inr lost) = inr (lost_alike winner (Win winner n) (λ a b same. win_alike winner n a b same) alike lost)

pub captured_keeps : CapturedKeepsValue
captured_keeps winner n p q e =
    let alike : AreAlike p q = record { men = ap (λ (a : Position). a.men) e; turn = ap (λ (a : Position). a.turn) e } in
    (value_alike winner n p q alike, value_alike winner n q p (alike_back alike))

-- the live men of the live men
again_at : (a : Place) (m : Man) (l : List Man) → m.place ≡ a → live_men l ≡ l → live_men (with_live a m l) ≡ with_live a m l
again_at Gone m l is e = e
again_at (At x y) m l is e = ap (λ a. with_live a m (live_men l)) is ∙ ap (λ rest. m ∷ rest) e

live_again : (ms : List Man) → live_men (live_men ms) ≡ live_men ms
live_again [] = refl
live_again (m ∷ ms) = again_at m.place m (live_men ms) refl (live_again ms)

alike_live : (p : Position) → AreAlike p (live_of p)
alike_live p = record { men = sym (live_again p.men); turn = refl }

pub live_keeps : LiveKeepsValue
live_keeps winner n p =
    let alike = alike_live p in
    (value_alike winner n p (live_of p) alike, value_alike winner n (live_of p) p (alike_back alike))

abbrev before : ℕ → ℕ
before zero = zero
before (suc k) = k

-- one of the live men, among all men of the position
record Original (p : Position) (k : ℕ) (m : Man) : Type 0 where
  number : ℕ
  is : man_at p (suc number) ≡ Some m
  ranked : suc (rank p.men number) ≡ k

original : (p : Position) (k : ℕ) (m : Man) → man_at (live_of p) k ≡ Some m → Original p k m
original p zero m is = absurd (let e : None ≡ Some m = is in cc)
original p (suc k) m is = let f = from_live p.men k m is in record { number = f.number; is = f.is; ranked = ap suc f.ranked }

-- men of one number among all men have one number among the live ones
same_number : (p : Position) {j k : ℕ} {m n : Man} (a : Original p j m) (b : Original p k n) → suc a.number ≡ suc b.number → j ≡ k
same_number p a b e = sym a.ranked ∙ ap (λ i. suc (rank p.men (before i))) e ∙ b.ranked

live_number : (p : Position) (k : ℕ) (m : Man) → man_at p k ≡ Some m → m.place ≢ Gone → man_at (live_of p) (suc (rank p.men (before k))) ≡ Some m
live_number p zero m is live = absurd (let e : None ≡ Some m = is in cc)
live_number p (suc k) m is live = to_live p.men k m is live

pub live_sound : LiveKeepsSound
live_sound winner p h =
    let alike = alike_live p in
    let sound = h.sound in
    let king = h.king in
    record {
      sound = record {
        kings = record {
          few = λ s. record {
            live = λ k m is side kind. let o = original p k m is in (sound.kings.few s).live (suc o.number) m o.is side kind;
            only = λ j k m n is_m is_n side_m side_n kind_m kind_n.
                let a = original p j m is_m in
                let b = original p k n is_n in
                same_number p a b ((sound.kings.few s).only (suc a.number) (suc b.number) m n a.is b.is side_m side_n kind_m kind_n);
          };
          some = λ none. sound.kings.some (λ k m is kind.
              none (suc (rank p.men (before k))) m (live_number p k m is ((sound.kings.few m.side).live k m is refl kind)) kind);
        };
        apart = λ i j m n z is_m is_n s t.
            let a = original p i m is_m in
            let b = original p j n is_n in
            same_number p a b (sound.apart (suc a.number) (suc b.number) m n z a.is b.is s t);
        other_safe = λ check. sound.other_safe (check_alike (alike_back alike) (other p.turn) check);
      };
      king = record {
        number = suc (rank p.men (before king.number));
        king = king.king;
        is_man = live_number p king.number king.king king.is_man king.live;
        is_king = king.is_king;
        live = king.live;
        only = λ k m is side kind.
            let o = original p k m is in
            sym o.ranked ∙ ap (λ i. suc (rank p.men (before i))) (king.only (suc o.number) m o.is side kind);
      };
    }
