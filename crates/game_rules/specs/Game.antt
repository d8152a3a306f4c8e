-- Chess on the unbounded board: the rules of the game (FIDE Laws of Chess, Articles 3 and 5), over all squares.
use Rattle.std.specs.Prelude.{◌≡◌, ◌≢◌, ◌↔◌, ℕ, zero, suc, ◌<◌, ◌+◌, ◌^◌, max, ℤ, pos, negsuc, ◌+ℤ◌, ◌-ℤ◌, ◌*ℤ◌, unsigned_abs, ◌⊎◌, List, length, Option, Some, None, IsSomeAnd, slice_get, ◌≤◌}
use Rattle.std.specs.Int.{bit_at}
use Rattle.std.specs.List.{All, Any}
use Rattle.game_rules.specs.declared.men.Side.{Side}
use Rattle.game_rules.specs.declared.men.Side.TheVariants.{White, Black}
use Rattle.game_rules.specs.declared.men.Kind.{Kind}
use Rattle.game_rules.specs.declared.men.Kind.TheVariants.{King, Queen, Rook, Bishop, Knight, Pawn, Chancellor, Archbishop, Amazon, Nightrider}
use Rattle.game_rules.specs.declared.men.Place.{Place}
use Rattle.game_rules.specs.declared.men.Place.TheVariants.{Gone, At}
use Rattle.game_rules.specs.declared.men.Man.{Man}
use Rattle.game_rules.specs.declared.men.Square.{Square}

-- the men, numbered from 1, and the side to move
pub record Position : Type 0 where
  pub men : List Man
  pub turn : Side

-- the man of this number
abbrev pub man_at : Position → ℕ → Option Man
man_at p zero = None
man_at p (suc i) = slice_get p.men i

abbrev pub other : Side → Side
other White = Black
other Black = White

abbrev pub place_square : Place → Option Square
place_square Gone = None
place_square (At x y) = Some (record { x = x; y = y })

-- the square of a live man
abbrev pub square_of : Man → Option Square
square_of m = place_square m.place

-- the man is live and stands on this square
abbrev pub StandsOn : Man → Square → Type 0
StandsOn m z = square_of m ≡ Some z

-- the man is live and his square has this property
abbrev pub IsLiveAnd : Man → (Square → Type 0) → Type 0
IsLiveAnd m P = IsSomeAnd (square_of m) P

-- bit i - 1 of the mask is 1 if and only if man i is live; no higher bit is 1
pub record IsMaskOf (p : Position) (mask : ℕ) : Type 0 where
  pub live : (i : ℕ) (m : Man) → slice_get p.men i ≡ Some m → (bit_at mask i ≡ 1) ↔ (m.place ≢ Gone)
  pub no_more : mask < 2 ^ length p.men

-- one step up the board for White, and down for Black (Article 3.7.1)
abbrev pub forward : Side → ℤ
forward White = pos 1
forward Black = negsuc 0

-- one step along a row, a column or a diagonal, or one leap of a knight: one coordinate is 1 or -1, and the other is at
-- most 2 in absolute value
abbrev pub IsDirection : ℤ → ℤ → Type 0
IsDirection dx dy =
    ((unsigned_abs dx ≡ 1) × (unsigned_abs dy ≤ 2)) ⊎ ((unsigned_abs dy ≡ 1) × (unsigned_abs dx ≤ 2))

-- the square after k equal steps from a
abbrev pub after_steps : Square → ℕ → ℤ → ℤ → Square
after_steps a k dx dy = record { x = a.x +ℤ (pos k *ℤ dx); y = a.y +ℤ (pos k *ℤ dy) }

-- z is strictly between a and b: equal steps in one direction lead from a to b, and fewer of them to z
pub record IsBetween (a b z : Square) : Type 0 where
  pub dx : ℤ
  pub dy : ℤ
  pub direction : IsDirection dx dy
  pub whole : ℕ
  pub part : ℕ
  pub begun : 0 < part
  pub fewer : part < whole
  pub to_b : b ≡ after_steps a whole dx dy
  pub to_z : z ≡ after_steps a part dx dy

-- exactly one of the two is 0
abbrev pub IsStraight : ℤ → ℤ → Type 0
IsStraight dx dy = ((dx ≡ pos 0) × (dy ≢ pos 0)) ⊎ ((dx ≢ pos 0) × (dy ≡ pos 0))

abbrev pub IsDiagonal : ℤ → ℤ → Type 0
IsDiagonal dx dy = (unsigned_abs dx ≡ unsigned_abs dy) × (0 < unsigned_abs dx)

abbrev pub IsLeap : ℤ → ℤ → Type 0
IsLeap dx dy =
    ((unsigned_abs dx ≡ 1) × (unsigned_abs dy ≡ 2)) ⊎ ((unsigned_abs dx ≡ 2) × (unsigned_abs dy ≡ 1))

-- one of the two is twice the other, which is not 0
abbrev pub IsLeaps : ℤ → ℤ → Type 0
IsLeaps dx dy =
    ((0 < unsigned_abs dx) × (unsigned_abs dy ≡ unsigned_abs dx + unsigned_abs dx))
    ⊎ ((0 < unsigned_abs dy) × (unsigned_abs dx ≡ unsigned_abs dy + unsigned_abs dy))

-- no live man is strictly between
abbrev pub IsOpen : Position → Square → Square → Type 0
IsOpen p a b = All (λ m. IsLiveAnd m (IsBetween a b) → ⊥) p.men

-- a rook on a bears on z (Articles 3.3 and 3.5)
abbrev pub BearsAsRook : Position → Square → Square → Type 0
BearsAsRook p a z = IsStraight (z.x -ℤ a.x) (z.y -ℤ a.y) × IsOpen p a z

-- a bishop on a bears on z (Articles 3.2 and 3.5)
abbrev pub BearsAsBishop : Position → Square → Square → Type 0
BearsAsBishop p a z = IsDiagonal (z.x -ℤ a.x) (z.y -ℤ a.y) × IsOpen p a z

-- a queen on a bears on z, as a rook or as a bishop (Article 3.4)
abbrev pub BearsAsQueen : Position → Square → Square → Type 0
BearsAsQueen p a z = BearsAsRook p a z ⊎ BearsAsBishop p a z

-- a knight on a bears on z (Article 3.6)
abbrev pub BearsAsKnight : Square → Square → Type 0
BearsAsKnight a z = IsLeap (z.x -ℤ a.x) (z.y -ℤ a.y)

-- a man of this side and kind on a bears on z (Articles 3.2 to 3.6, 3.7.3 and 3.8.1)
abbrev pub BearsAs : Position → Side → Kind → Square → Square → Type 0
BearsAs p s King a z = max (unsigned_abs (z.x -ℤ a.x)) (unsigned_abs (z.y -ℤ a.y)) ≡ 1
BearsAs p s Queen a z = BearsAsQueen p a z
BearsAs p s Rook a z = BearsAsRook p a z
BearsAs p s Bishop a z = BearsAsBishop p a z
BearsAs p s Knight a z = BearsAsKnight a z
BearsAs p s Pawn a z = (unsigned_abs (z.x -ℤ a.x) ≡ 1) × (z.y -ℤ a.y ≡ forward s)
BearsAs p s Chancellor a z = BearsAsRook p a z ⊎ BearsAsKnight a z
BearsAs p s Archbishop a z = BearsAsBishop p a z ⊎ BearsAsKnight a z
BearsAs p s Amazon a z = BearsAsQueen p a z ⊎ BearsAsKnight a z
BearsAs p s Nightrider a z = IsLeaps (z.x -ℤ a.x) (z.y -ℤ a.y) × IsOpen p a z

-- the man is live and bears on the square
abbrev pub Bears : Position → Man → Square → Type 0
Bears p m z = IsLiveAnd m (λ a. BearsAs p m.side m.kind a z)

-- some live man of the side bears on the square (Article 3.1.2)
abbrev pub Attacked : Position → Side → Square → Type 0
Attacked p s z = Any (λ m. (m.side ≡ s) × Bears p m z) p.men

-- a live man of the side stands on the square
abbrev pub IsOccupiedBy : Position → Side → Square → Type 0
IsOccupiedBy p s z = Any (λ m. (m.side ≡ s) × StandsOn m z) p.men

abbrev pub IsEmptySquare : Position → Square → Type 0
IsEmptySquare p z = All (λ m. StandsOn m z → ⊥) p.men

-- how a man of this kind may go to a square on which none of his side stands (Articles 3.1, 3.7.1 and 3.7.3)
abbrev pub GoesAs : Kind → Position → Man → Square → Type 0
GoesAs Pawn p m z =
    (Bears p m z × IsOccupiedBy p (other m.side) z)
    ⊎ (StandsOn m (record { x = z.x; y = z.y -ℤ forward m.side }) × IsEmptySquare p z)
GoesAs _ p m z = Bears p m z

abbrev pub Goes : Position → Man → Square → Type 0
Goes p m z = GoesAs m.kind p m z

-- the change of a man when another one has gone to z: he is captured if he stood there (Article 3.1.1)
pub record IsLeftBy (z : Square) (before after : Man) : Type 0 where
  pub taken : StandsOn before z → after ≡ record before { place = Gone }
  pub kept : (StandsOn before z → ⊥) → after ≡ before

-- q is the position p after man i has gone to z
pub record IsAfter (p : Position) (i : ℕ) (z : Square) (q : Position) : Type 0 where
  pub same_count : length q.men ≡ length p.men
  pub mover : (m : Man) → man_at p i ≡ Some m → man_at q i ≡ Some (record m { place = At z.x z.y })
  pub others : (k : ℕ) (m n : Man) → k ≢ i → man_at p k ≡ Some m → man_at q k ≡ Some n → IsLeftBy z m n
  pub turn : q.turn ≡ other p.turn

-- man i may go to z, apart from the safety of his king, and q is the position after that
pub record Step (p : Position) (i : ℕ) (z : Square) (q : Position) : Type 0 where
  pub man : Man
  pub is_man : man_at p i ≡ Some man
  pub his_turn : man.side ≡ p.turn
  pub not_own : IsOccupiedBy p p.turn z → ⊥
  pub goes : Goes p man z
  pub after : IsAfter p i z q

-- the king of this side is attacked by the other (Article 3.9.1)
abbrev pub InCheck : Position → Side → Type 0
InCheck p s = Any (λ m. (m.side ≡ s) × (m.kind ≡ King) × IsLiveAnd m (Attacked p (other s))) p.men

-- a step that leaves the mover's king unattacked (Articles 3.9.2 and 3.10.1)
pub record Legal (p : Position) (i : ℕ) (z : Square) (q : Position) : Type 0 where
  pub step : Step p i z q
  pub safe : InCheck q p.turn → ⊥

-- some legal move leads from p to q
abbrev pub Moves : Position → Position → Type 0
Moves p q = (i : ℕ) × (z : Square) × Legal p i z q

-- the only king of the side is live
pub record HasOneKing (p : Position) (s : Side) : Type 0 where
  pub number : ℕ
  pub king : Man
  pub is_man : man_at p number ≡ Some king
  pub is_king : (king.side ≡ s) × (king.kind ≡ King)
  pub live : king.place ≢ Gone
  pub only : (k : ℕ) (m : Man) → man_at p k ≡ Some m → m.side ≡ s → m.kind ≡ King → k ≡ number

-- the side has no king, or exactly one man of it is a king and he is live
pub record HasOneKingAtMost (p : Position) (s : Side) : Type 0 where
  pub live : (k : ℕ) (m : Man) → man_at p k ≡ Some m → m.side ≡ s → m.kind ≡ King → m.place ≢ Gone
  pub only : (j k : ℕ) (m n : Man) → man_at p j ≡ Some m → man_at p k ≡ Some n → m.side ≡ s → n.side ≡ s → m.kind ≡ King
      → n.kind ≡ King → j ≡ k

-- at least one man is a king, and no side has two kings or a captured one
pub record HasKings (p : Position) : Type 0 where
  pub few : (s : Side) → HasOneKingAtMost p s
  pub some : ((k : ℕ) (m : Man) → man_at p k ≡ Some m → m.kind ≡ King → ⊥) → ⊥

-- each side has exactly one king, and he is live
abbrev pub HasBothKings : Position → Type 0
HasBothKings p = (s : Side) → HasOneKing p s

-- live men stand on distinct squares
abbrev pub IsApart : Position → Type 0
IsApart p =
    (i j : ℕ) (m n : Man) (z : Square)
    → man_at p i ≡ Some m
    → man_at p j ≡ Some n
    → StandsOn m z
    → StandsOn n z
    → i ≡ j

-- each side has at most one king, who is live, and at least one side has a king; live men stand on distinct squares;
-- the side that is not to move is not in check
pub record Sound (p : Position) : Type 0 where
  pub kings : HasKings p
  pub apart : IsApart p
  pub other_safe : InCheck p (other p.turn) → ⊥

-- a sound position with a king on each side
pub record SoundWithKings (p : Position) : Type 0 where
  pub sound : Sound p
  pub kings : HasBothKings p

-- the king of the side to move is attacked, and no move is legal (Article 5.1.1)
pub record Mate (p : Position) : Type 0 where
  pub check : InCheck p p.turn
  pub stuck : (i : ℕ) (z : Square) (q : Position) → Legal p i z q → ⊥

-- some move is legal
abbrev pub HasMove : Position → Type 0
HasMove p = (i : ℕ) × (z : Square) × (q : Position) × Legal p i z q

-- it is the loser's turn, and he is mate, or has a legal move and each legal move leads to a position with the property
abbrev pub LostInto : Side → (Position → Type 0) → Position → Type 0
LostInto winner W q =
    (q.turn ≡ other winner)
    × (Mate q ⊎ (HasMove q × ((i : ℕ) (z : Square) (r : Position) → Legal q i z r → W r)))

-- it is the winner's turn, and he can force mate within n moves of his own
abbrev pub Win : Side → ℕ → Position → Type 0
Win winner zero p = ⊥
Win winner (suc n) p =
    (p.turn ≡ winner)
    × ((i : ℕ) × (z : Square) × (q : Position) × Legal p i z q × LostInto winner (Win winner n) q)

-- it is the loser's turn, and he is mated within n moves of the winner, whatever he plays
abbrev pub Lost : Side → ℕ → Position → Type 0
Lost winner n = LostInto winner (Win winner n)

-- the winner can force mate within n moves of his own, whoever is to move
abbrev pub Value : Side → ℕ → Position → Type 0
Value winner n p = Win winner n p ⊎ Lost winner n p

-- the least n up to the limit for which the position has the value, or none
abbrev pub Least : Side → Position → ℕ → Option ℕ → Type 0
Least winner p limit (Some n) = (n ≤ limit) × Value winner n p × ((k : ℕ) → k < n → Value winner k p → ⊥)
Least winner p limit None = (k : ℕ) → k ≤ limit → Value winner k p → ⊥
