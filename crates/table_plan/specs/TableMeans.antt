-- What the sets of a table are.
use Rattle.std.specs.Prelude.{◌≡◌, ◌≢◌, ◌↔◌, ℕ, suc, ◌-◌, ◌≤◌, List, ◌∷◌, length, Some, All, ℤ, pos, ◌-ℤ◌, slice_get}
use Rattle.game_laws.specs.Symmetry.{mapped, shift}
use Rattle.game_laws.specs.Stock.{HasStock}
use Rattle.game_forever.specs.AtLast.{ForcesMate}
use Rattle.game_rules.specs.Game.{HasOneKing, Lost, Position, Sound, StandsOn, Win, man_at, other}
use Rattle.game_rules.specs.declared.men.Kind.TheVariants.{King}
use Rattle.game_rules.specs.declared.men.Man.{Man}
use Rattle.game_rules.specs.declared.men.Place.TheVariants.{Gone}
use Rattle.game_rules.specs.declared.men.Ray.{Ray}
use Rattle.game_rules.specs.declared.men.Side.{Side}
use Rattle.game_rules.specs.declared.men.Square.{Square}
use Rattle.lin_formula.specs.SetOf.{Member, SetOf}
use Rattle.mask_sets.specs.Stock.{mask_of}
use Rattle.mask_sets.specs.Tuple.{tuple_of}
use Rattle.rule_formula.specs.Mean.{IsGame}
use Rattle.set_plan.specs.Program.{Entry, Takes}
use Rattle.set_plan.specs.Unite.{Made}
use Rattle.mate_plan.specs.Plan.{Level}
use Rattle.mate_plan.specs.PlanOf.{rules_of}
use Rattle.mate_plan.specs.declared.names.PartName.{PartName}
use Rattle.winning_sets.specs.PlanMeans.{IsDecided, IsLevelOf}
use Rattle.winning_sets.specs.Solve.{IsTupleOf}
use Rattle.table_plan.specs.Table.{Row, all_level, moved_set, table}

-- a position that stands for its stock: at most eight men, all live, with one king of the loser and at most one of the
-- winner; the squares of the men do not matter, and need not differ
pub record IsStock (winner : Side) (p : Position) : Type 0 where
  pub game : IsGame p
  pub king : HasOneKing p (other winner)
  pub live : (k : ℕ) (m : Man) → man_at p k ≡ Some m → m.place ≢ Gone

-- a sound position of at most eight men, all live, in which the loser has a king, stands for its stock
abbrev pub SoundStandsForStock : Type 0
SoundStandsForStock =
    (winner : Side) (p : Position) → Sound p → HasOneKing p (other winner) → length p.men ≤ 8
    → ((k : ℕ) (m : Man) → man_at p k ≡ Some m → m.place ≢ Gone) → IsStock winner p

-- each king of the side stands on the square
abbrev pub KingStandsOn : Side → Square → Position → Type 0
KingStandsOn side z q = (k : ℕ) (m : Man) → man_at q k ≡ Some m → m.side ≡ side → m.kind ≡ King → StandsOn m z

abbrev pub origin : Square
origin = record { x = pos 0; y = pos 0 }

-- a sound position of some men of the stock, with this side to move
pub record IsOfStock (p : Position) (side : Side) (q : Position) : Type 0 where
  pub stock : HasStock p.men q
  pub turn : q.turn ≡ side
  pub sound : Sound q

-- and with the loser's king on 0 0
pub record AllAt0 (winner : Side) (p : Position) (side : Side) (q : Position) : Type 0 where
  pub of : IsOfStock p side q
  pub king : KingStandsOn (other winner) origin q

-- such a position with the winner to move, from which he mates within k moves
pub record WonAt0 (winner : Side) (p : Position) (k : ℕ) (q : Position) : Type 0 where
  pub all : AllAt0 winner p winner q
  pub win : Win winner k q

-- such a position with the loser to move, who is mated within k moves of the winner
pub record LostAt0 (winner : Side) (p : Position) (k : ℕ) (q : Position) : Type 0 where
  pub all : AllAt0 winner p (other winner) q
  pub lost : Lost winner k q

-- the levels of the row are those of k moves
pub record IsRowOf (winner : Side) (p : Position) (k : ℕ) (row : Row) : Type 0 where
  pub won : IsLevelOf (WonAt0 winner p k) row.won
  pub lost : IsLevelOf (LostAt0 winner p k) row.lost

-- for each tuple it is known whether it is won
abbrev pub AreKnown : List Row → Type 0
AreKnown rows = All (λ row. (mask : ℕ) → IsDecided (row.won mask)) rows

-- the level of all positions has, mask by mask, all positions with the king on 0 0
abbrev pub UniverseIsAll : Type 0
UniverseIsAll =
    (winner : Side) (p : Position) (side : Side) (ply : ℕ) (entries : List (Entry PartName)) (level : Level)
    → IsStock winner p → Takes (all_level winner p side ply) entries (Some level) → IsLevelOf (AllAt0 winner p side) level

-- all men moved by one offset
abbrev pub moved_by : ℤ → ℤ → Position → Position
moved_by dx dy p = mapped (shift dx dy) p

-- the position moved so that the square comes to 0 0
abbrev pub moved_from : Square → Position → Position
moved_from z p = moved_by (pos 0 -ℤ z.x) (pos 0 -ℤ z.y) p

-- a position of the set, moved by one step along the ray
pub record MovedFrom (Set : Position → Type 0) (r : Ray) (q : Position) : Type 0 where
  pub from : Position
  pub is_in : Set from
  pub is : q ≡ moved_by r.dx r.dy from

-- a position of the stock with this mask, whose coordinates are in the set
pub record IsInSet (p : Position) (mask : ℕ) (s : SetOf) (q : Position) : Type 0 where
  pub stock : HasStock p.men q
  pub mask_is : mask_of q ≡ mask
  pub member : Member s (tuple_of q)

-- a moved set has the tuples of the moved positions, if the set has tuples of such positions alone
abbrev pub MovedIsMoved : Type 0
MovedIsMoved =
    (p : Position) (r : Ray) (ply mask at : ℕ) (s : SetOf) (made : Made) (entries : List (Entry PartName)) → length p.men ≤ 8
    → ((tuple : List ℤ) → Member s tuple → IsTupleOf (IsInSet p mask s) mask tuple)
    → Takes (moved_set (rules_of p) ply mask r at s) entries (Some made)
    → (tuple : List ℤ) → Member made.0 tuple ↔ IsTupleOf (MovedFrom (IsInSet p mask s) r) mask tuple

-- a table that comes to its end has in each row what is won and what is lost, the last row first
abbrev pub TableIsWon : Type 0
TableIsWon =
    (winner : Side) (p : Position) (last : ℕ) (entries : List (Entry PartName))
    (rows : List Row) → IsStock winner p → AreKnown rows → Takes (table winner p last) entries (Some rows)
    → (length rows ≡ suc last)
    × ((j : ℕ) (row : Row) → slice_get rows j ≡ Some row → IsRowOf winner p (last - j) row)

-- the coordinates of the position, moved so that the square comes to 0 0, are in the set of its mask
abbrev pub IsInLevel : Level → Square → Position → Type 0
IsInLevel level z q = Member (level (mask_of q)) (tuple_of (moved_from z q))

-- for each sound position of the stock, on any squares, a row of a table decides whether the winner mates within its number
-- of moves
abbrev pub TableDecides : Type 0
TableDecides =
    (winner : Side) (p : Position) (last : ℕ) (entries : List (Entry PartName)) (rows : List Row) → IsStock winner p
    → AreKnown rows → Takes (table winner p last) entries (Some rows) → (j : ℕ) (row : Row)
    → slice_get rows j ≡ Some row → (q : Position) (z : Square) → KingStandsOn (other winner) z q
    → (IsOfStock p winner q → Win winner (last - j) q ↔ IsInLevel row.won z q)
    × (IsOfStock p (other winner) q → Lost winner (last - j) q ↔ IsInLevel row.lost z q)

-- each set of the first level is contained in that of the second
abbrev pub IsNoMore : Level → Level → Type 0
IsNoMore level other = (mask : ℕ) (tuple : List ℤ) → Member (level mask) tuple → Member (other mask) tuple

-- if the last row of a table wins no more than the row before it, then to force mate, however long it takes, is to win within
-- the number of moves of that row
abbrev pub TableIsForEver : Type 0
TableIsForEver =
    (winner : Side) (p : Position) (last : ℕ) (entries : List (Entry PartName))
    (next before : Row) (rows : List Row) → IsStock winner p → AreKnown (next ∷ before ∷ rows)
    → Takes (table winner p (suc last)) entries (Some (next ∷ before ∷ rows)) → IsNoMore next.won before.won
    → (q : Position) → IsOfStock p winner q → ForcesMate winner q ↔ Win winner last q

-- if a row wins all positions, the winner mates within its number of moves from each position with him to move
abbrev pub TableWinsAll : Type 0
TableWinsAll =
    (winner : Side) (p : Position) (ply last : ℕ) (others entries : List (Entry PartName)) (all : Level) (rows : List Row)
    → IsStock winner p → Takes (all_level winner p winner ply) others (Some all) → AreKnown rows
    → Takes (table winner p last) entries (Some rows) → (j : ℕ) (row : Row) → slice_get rows j ≡ Some row
    → IsNoMore all row.won → (q : Position) → IsOfStock p winner q → Win winner (last - j) q
