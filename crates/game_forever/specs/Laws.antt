-- The laws by which sets of positions decide for every number of moves, stated.
use Rattle.std.specs.Prelude.{◌≡◌, ◌↔◌, ◌⊎◌, ℕ, suc, ◌+◌, ◌*◌, ℤ, List}
use Rattle.game_rules.specs.Game.{HasMove, InCheck, Lost, Position, Sound, Win, other}
use Rattle.game_rules.specs.declared.men.Man.{Man}
use Rattle.game_rules.specs.declared.men.Side.{Side}
use Rattle.game_laws.specs.Sets.{LeadsInto}
use Rattle.game_laws.specs.Symmetry.{BoardMap, colour_exchange, mapped, reflection, shift}
use Rattle.game_forever.specs.AtLast.{ForcesMate, IsMatedAtLast}
use Rattle.game_forever.specs.Centre.{HasKing, IsCentred, IsMovable, IsMovedInto}
use Rattle.game_forever.specs.Forces.{Forces, ForcesLower, RanksFall, RanksFallTo}
use Rattle.game_forever.specs.Growth.{StopsAt}
use Rattle.game_forever.specs.Refuge.{Escapes, IsRefuge, LeavesEscapes}
use Rattle.game_forever.specs.Sets.{IsClosed, IsOfStock}
use Rattle.game_forever.specs.Tables.{IsLostInto, IsTable}

-- the winner forces mate if and only if the side that he becomes forces mate on the mapped board
abbrev pub KeepsForcedMate : BoardMap → Type 0
KeepsForcedMate f = (winner : Side) (p : Position) → ForcesMate winner p ↔ ForcesMate (f.side winner) (mapped f p)

abbrev pub ShiftKeepsForcedMate : Type 0
ShiftKeepsForcedMate = (dx dy : ℤ) → KeepsForcedMate (shift dx dy)

abbrev pub ReflectionKeepsForcedMate : Type 0
ReflectionKeepsForcedMate = KeepsForcedMate reflection

abbrev pub ExchangeKeepsForcedMate : Type 0
ExchangeKeepsForcedMate = KeepsForcedMate colour_exchange

-- the sound positions of a stock are closed under legal moves
abbrev pub StockIsClosed : Type 0
StockIsClosed = (stock : List Man) → IsClosed (IsOfStock stock)

-- if one more move than n wins nothing more in a closed set, then what is won there within any number of moves is won
-- within n
abbrev pub WinsStop : (Position → Type 0) → Type 0
WinsStop A =
    (winner : Side) (n : ℕ) → IsClosed A → StopsAt winner A n
    → (k : ℕ) (p : Position) → A p → Win winner k p → Win winner n p

-- and what is lost there within any number of moves is lost within n
abbrev pub LossesStop : (Position → Type 0) → Type 0
LossesStop A =
    (winner : Side) (n : ℕ) → IsClosed A → StopsAt winner A n
    → (k : ℕ) (q : Position) → A q → Lost winner k q → Lost winner n q

-- the positions of a table are lost within their numbers of moves
abbrev pub TableIsLost : (ℕ → Position → Type 0) → Type 0
TableIsLost L = (winner : Side) → IsTable winner L → (n : ℕ) (q : Position) → L n q → Lost winner n q

-- a position with a legal move into the table is won within one move more
abbrev pub TableIsWon : (ℕ → Position → Type 0) → Type 0
TableIsWon L =
    (winner : Side) → IsTable winner L
    → (n : ℕ) (p : Position) → p.turn ≡ winner → LeadsInto (L n) p → Win winner (suc n) p

-- the sound positions that are lost within n moves, for each n, are a table: the rules of a table refuse nothing that is true
abbrev pub LostIsTable : Type 0
LostIsTable = (winner : Side) → IsTable winner (λ n q. Sound q × Lost winner n q)

-- from no position of a refuge the winner forces mate, however long it takes
abbrev pub RefugeIsNeverMate : (Position → Type 0) → Type 0
RefugeIsNeverMate X = (winner : Side) → IsRefuge winner X → (p : Position) → X p → ForcesMate winner p → ⊥

-- so no position of a refuge is won within any number of moves
abbrev pub RefugeIsNeverWon : (Position → Type 0) → Type 0
RefugeIsNeverWon X = (winner : Side) → IsRefuge winner X → (n : ℕ) (p : Position) → X p → Win winner n p → ⊥

-- and no position from which the loser escapes into it is lost within any number of moves
abbrev pub EscapeIsNeverLost : (Position → Type 0) → Type 0
EscapeIsNeverLost X =
    (winner : Side) → IsRefuge winner X → (n : ℕ) (q : Position) → Escapes X q → Lost winner n q → ⊥

-- to win within n moves is to force, within n moves, a position of the empty set
abbrev pub WinIsForced : Type 0
WinIsForced = (winner : Side) (n : ℕ) (p : Position) → Win winner n p ↔ Forces winner (λ q. ⊥) n p

-- if the winner forces, within n moves, a position of a set in which he wins within b moves, he wins within n + b
abbrev pub ForcedIsWon : (Position → Type 0) → Type 0
ForcedIsWon T =
    (winner : Side) (b : ℕ) → ((q : Position) → T q → q.turn ≡ winner → Win winner b q)
    → (n : ℕ) (p : Position) → Forces winner T n p → Win winner (n + b) p

-- if ranks fall within n moves, each position is won within n moves for its rank and n for each smaller one
abbrev pub RankedIsWon : (Position → Type 0) → Type 0
RankedIsWon A =
    (winner : Side) (rank : Position → ℕ) (n : ℕ) → RanksFall winner A rank n
    → (p : Position) → A p → p.turn ≡ winner → Win winner (n * suc (rank p)) p

-- and within b moves more if the ranks fall to positions that are won within b moves
abbrev pub RankedIsWonTo : (Position → Type 0) → Type 0
RankedIsWonTo A =
    (winner : Side) (rank : Position → ℕ) (b n : ℕ) → RanksFallTo winner A rank b n
    → (p : Position) → A p → p.turn ≡ winner → Win winner (n * suc (rank p) + b) p

-- if each position of a closed set with the winner to move is won within n moves, then each with the loser to move is lost
-- within n, unless it is stalemate
abbrev pub CoverIsLost : (Position → Type 0) → Type 0
CoverIsLost A =
    (winner : Side) (n : ℕ) → IsClosed A → ((p : Position) → A p → p.turn ≡ winner → Win winner n p)
    → (q : Position) → A q → Sound q → q.turn ≡ other winner → InCheck q q.turn ⊎ HasMove q → Lost winner n q

-- a side that wins within some number of moves forces mate
abbrev pub WinForcesMate : Type 0
WinForcesMate = (winner : Side) (n : ℕ) (p : Position) → Win winner n p → ForcesMate winner p

-- to force mate is to have a legal move after which the loser is mated at last
abbrev pub MateIsForced : Type 0
MateIsForced =
    (winner : Side) (p : Position)
    → ForcesMate winner p ↔ ((p.turn ≡ winner) × LeadsInto (IsMatedAtLast winner) p)

-- if one more move than n wins nothing more in a closed set, then to force mate there, however long it takes, is to win
-- within n
abbrev pub StoppedIsDecided : (Position → Type 0) → Type 0
StoppedIsDecided A =
    (winner : Side) (n : ℕ) → IsClosed A → StopsAt winner A n
    → (p : Position) → A p → ForcesMate winner p ↔ Win winner n p

-- and to be mated at last there is to be lost within n
abbrev pub StoppedIsLost : (Position → Type 0) → Type 0
StoppedIsLost A =
    (winner : Side) (n : ℕ) → IsClosed A → StopsAt winner A n
    → (q : Position) → A q → IsMatedAtLast winner q ↔ Lost winner n q

-- if each position of A with the winner to move is in W, in which he forces mate, or in the refuge X, then W has exactly
-- the positions of A from which he forces mate
abbrev pub CoverIsDecided : (A W X : Position → Type 0) → Type 0
CoverIsDecided A W X =
    (winner : Side)
    → ((p : Position) → A p → p.turn ≡ winner → W p ⊎ X p)
    → ((p : Position) → W p → ForcesMate winner p)
    → IsRefuge winner X
    → (p : Position) → A p → p.turn ≡ winner → ForcesMate winner p ↔ W p

-- if one more move than n wins nothing more, and each position with the loser to move is known to be lost within n moves or
-- to escape to what is not won within n, then what is not won within n is a refuge: the rule of a refuge refuses nothing that
-- a table leaves
abbrev pub UnwonIsRefuge : (Position → Type 0) → Type 0
UnwonIsRefuge A =
    (winner : Side) (n : ℕ) → IsClosed A → StopsAt winner A n
    → ((q : Position) → A q → Lost winner n q ⊎ Escapes (λ p. A p × (Win winner n p → ⊥)) q)
    → IsRefuge winner (λ p. A p × (Win winner n p → ⊥))

-- a property that translations keep, and that the positions of a stock with the king of one side on 0 0 have, all positions
-- of the stock have, if that side has a king
abbrev pub CentreIsEnough : (Position → Type 0) → Type 0
CentreIsEnough P =
    (stock : List Man) (s : Side) → HasKing s stock → IsMovable P
    → ((p : Position) → IsOfStock stock p → IsCentred s p → P p)
    → (p : Position) → IsOfStock stock p → P p

-- if one more move than n wins nothing more from the positions with that king on 0 0, it wins nothing more from any
abbrev pub CentreStops : Type 0
CentreStops =
    (stock : List Man) (s winner : Side) (n : ℕ) → HasKing s stock
    → StopsAt winner (λ p. IsOfStock stock p × IsCentred s p) n
    → StopsAt winner (IsOfStock stock) n

-- each position of the stock has a translation with that king on 0 0
abbrev pub CanBeCentred : Type 0
CanBeCentred =
    (stock : List Man) (s : Side) (p : Position) → HasKing s stock
    → IsOfStock stock p → IsMovedInto (λ q. IsOfStock stock q × IsCentred s q) p

-- if each position with that king on 0 0 and the winner to move is in one of two sets, each position has a translation in one
-- of them
abbrev pub CentreCovers : (W X : Position → Type 0) → Type 0
CentreCovers W X =
    (stock : List Man) (s winner : Side) → HasKing s stock
    → ((p : Position) → IsOfStock stock p → IsCentred s p → p.turn ≡ winner → W p ⊎ X p)
    → (p : Position) → IsOfStock stock p → p.turn ≡ winner → IsMovedInto W p ⊎ IsMovedInto X p

-- the positions with a translation in a set are kept by translations
abbrev pub MovedIsMovable : (Position → Type 0) → Type 0
MovedIsMovable X = IsMovable (IsMovedInto X)

-- they are a refuge if the loser escapes to one of them after each move of the winner from a position of the set itself
abbrev pub MovedIsRefuge : (Position → Type 0) → Type 0
MovedIsRefuge X =
    (winner : Side)
    → ((p : Position) → X p → p.turn ≡ winner → LeavesEscapes (IsMovedInto X) p)
    → IsRefuge winner (IsMovedInto X)

-- the positions with translations in the sets of a table are a table if the positions of the sets themselves satisfy its rules
abbrev pub MovedIsTable : (ℕ → Position → Type 0) → Type 0
MovedIsTable L =
    (winner : Side)
    → ((n : ℕ) (q : Position) → L n q → IsLostInto winner (λ k. IsMovedInto (L k)) n q)
    → IsTable winner (λ n. IsMovedInto (L n))

-- a rank that translations keep falls on the positions with a translation in a set if it falls from those of the set itself
abbrev pub MovedFalls : (Position → Type 0) → Type 0
MovedFalls A =
    (winner : Side) (rank : Position → ℕ) (b n : ℕ)
    → ((dx dy : ℤ) (p : Position) → rank (mapped (shift dx dy) p) ≡ rank p)
    → ((p : Position) → A p → p.turn ≡ winner → ForcesLower winner (IsMovedInto A) rank b n p)
    → RanksFallTo winner (IsMovedInto A) rank b n
