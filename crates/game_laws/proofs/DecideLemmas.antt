-- Each statement on one move of a position is true or false.
use Rattle.std.proofs.Common.{◌≡◌, ◌≢◌, ◌⊎◌, inl, inr, ℕ, zero, suc, ◌+◌, ◌<◌, max, ℤ, pos, ◌-ℤ◌, unsigned_abs, List, [], ◌∷◌, length, get_or, map, Option, Some, None, sym, ap, subst, ◌∙◌, arith, refl}
use Rattle.std.specs.Prelude.{IsSomeAnd}
use Rattle.std.proofs.lemmas.Option.{slice_get-get_or, get_or_from_slice_get, same_Some}
use Rattle.std.proofs.lemmas.Bool.Decides.{eqb_tells}
use Rattle.std.specs.List.{All, Any, slice_get}
use Rattle.game_rules.specs.Game.{Position, Attacked, Bears, Goes, GoesAs, IsOccupiedBy, InCheck, IsAfter, IsBetween, IsDiagonal, IsEmptySquare, IsLeap, IsLeftBy, IsLiveAnd, IsOpen, IsStraight, Legal, StandsOn, forward, man_at, other, square_of}
use Rattle.game_rules.specs.declared.men.Kind.{Kind}
use Rattle.game_rules.specs.declared.men.Kind.TheVariants.{King, Queen, Rook, Bishop, Knight, Pawn, Chancellor, Archbishop, Amazon, Nightrider}
use Rattle.game_rules.specs.declared.men.Man.{Man}
use Rattle.game_rules.specs.declared.men.Place.TheVariants.{At, Gone}
use Rattle.game_rules.specs.declared.men.Side.{Side}
use Rattle.game_rules.specs.declared.men.Side.TheVariants.{White, Black}
use Rattle.game_rules.specs.declared.men.Square.{Square}
use Rattle.game_laws.specs.Answer.{CanGo, distance}
use Rattle.game_laws.specs.Reach.{HasReach, ReachesOpenly}
use Rattle.game_laws.proofs.OpenLemmas.{bears_openly, openly_bears}
use Rattle.game_laws.proofs.LineLemmas.{IsAligned, IsOnWay, aligned, on_way, toward, way_between}
use Rattle.game_laws.proofs.MoveLemmas.{same_after, same_or_not, square_or_not, stands_or_not}

abbrev pub Decided : Type 0 → Type 0
Decided P = P ⊎ (P → ⊥)

pub map_decided : (P Q : Type 0) → (P → Q) → (Q → P) → Decided P → Decided Q
map_decided P Q f g (inl h) = inl (f h)
map_decided P Q f g (inr n) = inr (λ h. n (g h))

pub not_decided : (P : Type 0) → Decided P → Decided (P → ⊥)
not_decided P (inl h) = inr (λ n. n h)
not_decided P (inr n) = inl n

pub both : (P Q : Type 0) → Decided P → Decided Q → Decided (P × Q)
both P Q (inl h) (inl k) = inl (h, k)
both P Q (inr n) d = inr (λ h. n h.0)
both P Q (inl h) (inr n) = inr (λ k. n k.1)

pub either : (P Q : Type 0) → Decided P → Decided Q → Decided (P ⊎ Q)
either P Q (inl h) d = inl (inl h)
either P Q (inr n) (inl h) = inl (inr h)
either P Q (inr n) (inr m) = inr (λ s. elim s [ inl h ↦ n h | inr h ↦ m h ])

pub implied : (P Q : Type 0) → Decided P → Decided Q → Decided (P → Q)
implied P Q d (inl h) = inl (λ p. h)
implied P Q (inl h) (inr n) = inr (λ f. n (f h))
implied P Q (inr m) (inr n) = inl (λ p. absurd (m p))

pub number_same : (a b : ℕ) → Decided (a ≡ b)
number_same a b = elim (eqb_tells a b) [ inl e ↦ inl e.1 | inr e ↦ inr e.1 ]

pub less : (a b : ℕ) → Decided (a < b)
less a zero = inr (λ h. omega (arith, h))
less zero (suc b) = inl (omega arith)
less (suc a) (suc b) = map_decided (a < b) (suc a < suc b) (λ h. omega (arith, h)) (λ h. omega (arith, h)) (less a b)

pub side_same : (s t : Side) → Decided (s ≡ t)
side_same White White = inl refl
side_same Black Black = inl refl
side_same White Black = inr (λ e. cc)
side_same Black White = inr (λ e. cc)

pub is_king : (k : Kind) → Decided (k ≡ King)
is_king King = inl refl
is_king Queen = inr (λ e. cc)
is_king Rook = inr (λ e. cc)
is_king Bishop = inr (λ e. cc)
is_king Knight = inr (λ e. cc)
is_king Pawn = inr (λ e. cc)
is_king Chancellor = inr (λ e. cc)
is_king Archbishop = inr (λ e. cc)
is_king Amazon = inr (λ e. cc)
is_king Nightrider = inr (λ e. cc)

pub some_decided : (o : Option Square) (P : Square → Type 0) → ((a : Square) → Decided (P a)) → Decided (IsSomeAnd o P)
some_decided None P d = inr (λ h. h)
some_decided (Some a) P d = d a

below_more : (P : ℕ → Type 0) (n : ℕ) → Decided ((j : ℕ) × (j < n) × P j) → Decided (P n) → Decided ((j : ℕ) × (j < suc n) × P j)
below_more P n (inl h) d = inl (h.0, omega (arith, h.1), h.2)
below_more P n (inr none) (inl h) = inl (n, omega arith, h)
below_more P n (inr none) (inr off) =
    inr (λ h. elim (number_same h.0 n) [ inl e ↦ off (subst P e h.2) | inr ne ↦ none (h.0, omega (arith, ne, h.1), h.2) ])

-- a bounded search
pub below : (P : ℕ → Type 0) → ((j : ℕ) → Decided (P j)) → (n : ℕ) → Decided ((j : ℕ) × (j < n) × P j)
below P d zero = inr (λ h. omega (arith, h.1))
below P d (suc n) = below_more P n (below P d n) (d n)

any_tail : {X : Type 0} (P : X → Type 0) (x : X) (xs : List X) → Any P (x ∷ xs) → P x ⊎ Any P xs
any_tail P x xs (zero, y, within, is, h) = inl (subst P (sym is) h)
any_tail P x xs (suc k, y, within, is, h) = inr (k, y, omega (arith, within), is, h)

any_more : {X : Type 0} (P : X → Type 0) (x : X) (xs : List X) → Decided (P x) → Decided (Any P xs) → Decided (Any P (x ∷ xs))
any_more P x xs (inl h) d = inl (zero, x, omega arith, refl, h)
any_more P x xs (inr n) (inl h) = inl (suc h.0, h.1, omega (arith, h.2), h.3, h.4)
any_more P x xs (inr n) (inr none) = inr (λ h. elim (any_tail P x xs h) [ inl k ↦ n k | inr k ↦ none k ])

pub any_decided : {X : Type 0} (P : X → Type 0) → ((m : X) → Decided (P m)) → (xs : List X) → Decided (Any P xs)
any_decided P d [] = inr (λ h. omega (arith, h.2))
any_decided P d (x ∷ xs) = any_more P x xs (d x) (any_decided P d xs)

all_from : (P : Man → Type 0) → ((m : Man) → Decided (P m)) → (xs : List Man) → Decided (Any (λ m. P m → ⊥) xs) → Decided (All P xs)
all_from P d xs (inl h) = inr (λ all. h.4 (subst P h.3 (all h.0 h.1 h.2)))
all_from P d xs (inr none) =
    inl (λ k e within.
    elim (d (get_or xs k e)) [
      | inl h ↦ h
      | inr n ↦ absurd (none (k, get_or xs k e, within, get_or_from_slice_get xs k (get_or xs k e) (get_or xs k e) (slice_get-get_or xs k e within), n))
    ])

pub all_decided : (P : Man → Type 0) → ((m : Man) → Decided (P m)) → (xs : List Man) → Decided (All P xs)
all_decided P d xs = all_from P d xs (any_decided (λ m. P m → ⊥) (λ m. not_decided (P m) (d m)) xs)

straight : (dx dy : ℤ) → Decided (IsStraight dx dy)
straight dx dy =
    either _ _
    (both _ _ (same_or_not dx (pos 0)) (not_decided _ (same_or_not dy (pos 0))))
    (both _ _ (not_decided _ (same_or_not dx (pos 0))) (same_or_not dy (pos 0)))

diagonal : (dx dy : ℤ) → Decided (IsDiagonal dx dy)
diagonal dx dy = both _ _ (number_same (unsigned_abs dx) (unsigned_abs dy)) (less 0 (unsigned_abs dx))

leaps : (dx dy : ℤ) → Decided (IsLeap dx dy)
leaps dx dy =
    either _ _
    (both _ _ (number_same (unsigned_abs dx) 1) (number_same (unsigned_abs dy) 2))
    (both _ _ (number_same (unsigned_abs dx) 2) (number_same (unsigned_abs dy) 1))

pub reaches : (s : Side) (k : Kind) (dx dy : ℤ) → Decided (HasReach s k dx dy)
reaches s King dx dy = number_same (max (unsigned_abs dx) (unsigned_abs dy)) 1
reaches s Queen dx dy = either _ _ (straight dx dy) (diagonal dx dy)
reaches s Rook dx dy = straight dx dy
reaches s Bishop dx dy = diagonal dx dy
reaches s Knight dx dy = leaps dx dy
reaches s Pawn dx dy = both _ _ (number_same (unsigned_abs dx) 1) (same_or_not dy (forward s))
reaches s Chancellor dx dy = either _ _ (straight dx dy) (leaps dx dy)
reaches s Archbishop dx dy = either _ _ (diagonal dx dy) (leaps dx dy)
reaches s Amazon dx dy = either _ _ (either _ _ (straight dx dy) (diagonal dx dy)) (leaps dx dy)
reaches s Nightrider dx dy =
    either _ _
    (both _ _ (less 0 (unsigned_abs dx)) (number_same (unsigned_abs dy) (unsigned_abs dx + unsigned_abs dx)))
    (both _ _ (less 0 (unsigned_abs dy)) (number_same (unsigned_abs dx) (unsigned_abs dy + unsigned_abs dy)))

pub square_same : (a z : Square) → Decided (a ≡ z)
square_same a z = map_decided (Some a ≡ Some z) (a ≡ z) (same_Some a z) (ap (λ b. Some b)) (square_or_not (Some a) z)

is_on_way : (a b z : Square) → Decided (IsOnWay a b z)
is_on_way a b z =
    let P : ℕ → Type 0 = λ j. (0 < j) × (z ≡ toward a b j) in
    map_decided ((j : ℕ) × (j < distance a b) × P j) (IsOnWay a b z)
    (λ h. record { part = h.0; begun = h.2.0; fewer = h.1; is = h.2.1 })
    (λ h. (h.part, h.fewer, (h.begun, h.is)))
    (below P (λ j. both _ _ (less 0 j) (square_same z (toward a b j))) (distance a b))

pub between : (a b z : Square) → Decided (IsBetween a b z)
between a b z =
    map_decided (IsAligned a b × IsOnWay a b z) (IsBetween a b z)
    (λ h. way_between h.0 h.1) (λ h. (aligned h, on_way h))
    (both _ _ (square_same b (toward a b (distance a b))) (is_on_way a b z))

pub is_open : (p : Position) (a b : Square) → Decided (IsOpen p a b)
is_open p a b =
    all_decided (λ m. IsLiveAnd m (IsBetween a b) → ⊥) (λ m. not_decided _ (some_decided (square_of m) (IsBetween a b) (between a b))) p.men

pub bears : (p : Position) (m : Man) (z : Square) → Decided (Bears p m z)
bears p m z =
    map_decided (ReachesOpenly p m z) (Bears p m z) (openly_bears p m z) (bears_openly p m z)
    (some_decided (square_of m) _ (λ a. both _ _ (reaches m.side m.kind (z.x -ℤ a.x) (z.y -ℤ a.y)) (is_open p a z)))

pub attacked : (p : Position) (s : Side) (z : Square) → Decided (Attacked p s z)
attacked p s z = any_decided (λ m. (m.side ≡ s) × Bears p m z) (λ m. both _ _ (side_same m.side s) (bears p m z)) p.men

pub holds : (p : Position) (s : Side) (z : Square) → Decided (IsOccupiedBy p s z)
holds p s z = any_decided (λ m. (m.side ≡ s) × StandsOn m z) (λ m. both _ _ (side_same m.side s) (stands_or_not m z)) p.men

pub is_empty : (p : Position) (z : Square) → Decided (IsEmptySquare p z)
is_empty p z = all_decided (λ m. StandsOn m z → ⊥) (λ m. not_decided _ (stands_or_not m z)) p.men

pub goes : (k : Kind) (p : Position) (m : Man) (z : Square) → Decided (GoesAs k p m z)
goes King p m z = bears p m z
goes Queen p m z = bears p m z
goes Rook p m z = bears p m z
goes Bishop p m z = bears p m z
goes Knight p m z = bears p m z
goes Chancellor p m z = bears p m z
goes Archbishop p m z = bears p m z
goes Amazon p m z = bears p m z
goes Nightrider p m z = bears p m z
goes Pawn p m z =
    either _ _
    (both _ _ (bears p m z) (holds p (other m.side) z))
    (both _ _ (stands_or_not m (record { x = z.x; y = z.y -ℤ forward m.side })) (is_empty p z))

and_third : (P Q R : Type 0) → Decided P → Decided Q → Decided R → Decided (P × Q × R)
and_third P Q R d e (inr n) = inr (λ h. n h.2)
and_third P Q R d (inr n) (inl h) = inr (λ k. n k.1)
and_third P Q R (inr n) (inl k) (inl h) = inr (λ k. n k.0)
and_third P Q R (inl j) (inl k) (inl h) = inl (j, k, h)

pub in_check : (p : Position) (s : Side) → Decided (InCheck p s)
in_check p s =
    any_decided (λ m. (m.side ≡ s) × (m.kind ≡ King) × IsLiveAnd m (Attacked p (other s)))
    (λ m. and_third _ _ _ (side_same m.side s) (is_king m.kind) (some_decided (square_of m) (Attacked p (other s)) (attacked p (other s)))) p.men

-- what a man becomes when another goes to z
left_with : (z : Square) (m : Man) → StandsOn m z ⊎ (StandsOn m z → ⊥) → Man
left_with z m (inl h) = record m { place = Gone }
left_with z m (inr n) = m

is_left_with : (z : Square) (m : Man) (d : StandsOn m z ⊎ (StandsOn m z → ⊥)) → IsLeftBy z m (left_with z m d)
unfolding left_with
is_left_with z m (inl h) = record { taken = λ s. refl; kept = λ n. absurd (n h) }
is_left_with z m (inr n) = record { taken = λ s. absurd (n s); kept = λ s. refl }

left : Square → Man → Man
left z m = left_with z m (stands_or_not m z)

is_left : (z : Square) (m : Man) → IsLeftBy z m (left z m)
unfolding left
is_left z m = is_left_with z m (stands_or_not m z)

-- the men after number j from 0 has gone to z
gone : List Man → ℕ → Square → List Man
gone [] j z = []
gone (m ∷ ms) zero z = record m { place = At z.x z.y } ∷ map (left z) ms
gone (m ∷ ms) (suc j) z = left z m ∷ gone ms j z

length-map_left : (z : Square) (ms : List Man) → length (map (left z) ms) ≡ length ms
length-map_left z [] = refl
length-map_left z (m ∷ ms) = ap suc (length-map_left z ms)

length-gone : (ms : List Man) (j : ℕ) (z : Square) → length (gone ms j z) ≡ length ms
unfolding gone
length-gone [] j z = refl
length-gone (m ∷ ms) zero z = ap suc (length-map_left z ms)
length-gone (m ∷ ms) (suc j) z = ap suc (length-gone ms j z)

gone_mover : (ms : List Man) (j : ℕ) (z : Square) (m : Man) → slice_get ms j ≡ Some m → slice_get (gone ms j z) j ≡ Some (record m { place = At z.x z.y })
unfolding gone
gone_mover [] j z m is = cc
gone_mover (n ∷ ms) zero z m is = ap {A = Man} (λ a. Some (record a { place = At z.x z.y })) (same_Some n m is)
gone_mover (n ∷ ms) (suc j) z m is = gone_mover ms j z m is

left_one : (z : Square) (a b c : Man) → Some a ≡ Some b → Some (left z a) ≡ Some c → IsLeftBy z b c
left_one z a b c e f =
    subst (λ m. IsLeftBy z m c) (same_Some a b e) (subst (IsLeftBy z a) (same_Some (left z a) c f) (is_left z a))

left_map : (z : Square) (ms : List Man) (k : ℕ) (b c : Man) → slice_get ms k ≡ Some b → slice_get (map (left z) ms) k ≡ Some c → IsLeftBy z b c
left_map z [] k b c e f = cc
left_map z (a ∷ ms) zero b c e f = left_one z a b c e f
left_map z (a ∷ ms) (suc k) b c e f = left_map z ms k b c e f

gone_other : (ms : List Man) (j : ℕ) (z : Square) (k : ℕ) (b c : Man) → k ≢ j → slice_get ms k ≡ Some b → slice_get (gone ms j z) k ≡ Some c → IsLeftBy z b c
unfolding gone
gone_other [] j z k b c ne e f = cc
gone_other (a ∷ ms) zero z zero b c ne e f = absurd (ne refl)
gone_other (a ∷ ms) zero z (suc k) b c ne e f = left_map z ms k b c e f
gone_other (a ∷ ms) (suc j) z zero b c ne e f = left_one z a b c e f
gone_other (a ∷ ms) (suc j) z (suc k) b c ne e f = gone_other ms j z k b c (λ h. ne (ap suc h)) e f

pub position_after : Position → ℕ → Square → Position
position_after p j z = record { men = gone p.men j z; turn = other p.turn }

others_after : (p : Position) (j : ℕ) (z : Square) (k : ℕ) (b c : Man) → k ≢ suc j → man_at p k ≡ Some b → man_at (position_after p j z) k ≡ Some c → IsLeftBy z b c
unfolding position_after
others_after p j z zero b c ne e f = cc
others_after p j z (suc k) b c ne e f = gone_other p.men j z k b c (λ h. ne (ap suc h)) e f

pub is_after : (p : Position) (j : ℕ) (z : Square) → IsAfter p (suc j) z (position_after p j z)
unfolding position_after
is_after p j z =
    record {
      same_count = length-gone p.men j z;
      mover = gone_mover p.men j z;
      others = others_after p j z;
      turn = refl;
    }

-- a legal move of this man to z leads to the position after
module _ (p : Position) (j : ℕ) (z : Square) (m : Man) (is : slice_get p.men j ≡ Some m) where
  his_man : {q : Position} (l : Legal p (suc j) z q) → l.step.man ≡ m
  his_man l = same_Some l.step.man m (sym l.step.is_man ∙ is)

  abbrev Parts : Type 0
  Parts = (m.side ≡ p.turn) × (IsOccupiedBy p p.turn z → ⊥) × Goes p m z × (InCheck (position_after p j z) p.turn → ⊥)

  parts_of : CanGo p (suc j) z → Parts
  parts_of (q, l) = (
    subst (λ n. n.side ≡ p.turn) (his_man l) l.step.his_turn,
    l.step.not_own,
    subst (λ n. Goes p n z) (his_man l) l.step.goes,
    subst (λ r. InCheck r p.turn → ⊥) (same_after l.step.after (is_after p j z)) l.safe,
  )

  of_parts : Parts → CanGo p (suc j) z
  of_parts h =
      (position_after p j z, record { step = record { man = m; is_man = is; his_turn = h.0; not_own = h.1; goes = h.2; after = is_after p j z }; safe = h.3 })

  parts_decided : Decided Parts
  parts_decided =
      map_decided (((m.side ≡ p.turn) × (IsOccupiedBy p p.turn z → ⊥)) × (Goes p m z × (InCheck (position_after p j z) p.turn → ⊥))) Parts
      (λ h. (h.0.0, h.0.1, h.1.0, h.1.1)) (λ h. ((h.0, h.1), (h.2, h.3)))
      (both _ _ (both _ _ (side_same m.side p.turn) (not_decided _ (holds p p.turn z))) (both _ _ (goes m.kind p m z) (not_decided _ (in_check (position_after p j z) p.turn))))

  man_goes : Decided (CanGo p (suc j) z)
  man_goes = map_decided Parts (CanGo p (suc j) z) of_parts parts_of parts_decided

number_goes : (p : Position) (j : ℕ) (z : Square) (o : Option Man) → slice_get p.men j ≡ o → Decided (CanGo p (suc j) z)
number_goes p j z None is = inr (λ h. let e : None ≡ Some h.1.step.man = sym is ∙ h.1.step.is_man in cc)
number_goes p j z (Some m) is = man_goes p j z m is

pub can_go : (p : Position) (i : ℕ) (z : Square) → Decided (CanGo p i z)
can_go p zero z = inr (λ h. let e : None ≡ Some h.1.step.man = h.1.step.is_man in cc)
can_go p (suc j) z = number_goes p j z (slice_get p.men j) refl
