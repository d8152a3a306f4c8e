-- Maps of the board that keep the game.
use Rattle.std.specs.Prelude.{◌↔◌, ℕ, ℤ, pos, ◌+ℤ◌, ◌-ℤ◌, map}
use Rattle.game_rules.specs.Game.{Position, HasMove, InCheck, Legal, Lost, Mate, Sound, Step, Value, Win, other}
use Rattle.game_rules.specs.declared.men.Man.{Man}
use Rattle.game_rules.specs.declared.men.Place.{Place}
use Rattle.game_rules.specs.declared.men.Place.TheVariants.{Gone, At}
use Rattle.game_rules.specs.declared.men.Side.{Side}
use Rattle.game_rules.specs.declared.men.Square.{Square}

-- a map of squares and of sides
pub record BoardMap : Type 0 where
  pub square : Square → Square
  pub side : Side → Side

-- every square goes dx to the right and dy up
abbrev pub shift : ℤ → ℤ → BoardMap
shift dx dy = record { square = λ z. record { x = z.x +ℤ dx; y = z.y +ℤ dy }; side = λ s. s }

-- right and left are exchanged
abbrev pub reflection : BoardMap
reflection = record { square = λ z. record { x = pos 0 -ℤ z.x; y = z.y }; side = λ s. s }

-- the colours are exchanged, and up and down with them
abbrev pub colour_exchange : BoardMap
colour_exchange = record { square = λ z. record { x = z.x; y = pos 0 -ℤ z.y }; side = other }

-- the place of a man on this square
abbrev pub place_on : Square → Place
place_on z = At z.x z.y

abbrev pub mapped_place : BoardMap → Place → Place
mapped_place f Gone = Gone
mapped_place f (At x y) = place_on (f.square (record { x = x; y = y }))

-- the man of the same kind on the image of his square, of the side to which his side is mapped
abbrev pub mapped_man : BoardMap → Man → Man
mapped_man f m = record { side = f.side m.side; kind = m.kind; place = mapped_place f m.place }

-- all men and the side to move mapped
abbrev pub mapped : BoardMap → Position → Position
mapped f p = record { men = map (mapped_man f) p.men; turn = f.side p.turn }

-- steps, checks, legal moves, soundness, mate, wins and losses of a position and of its image correspond
pub record KeepsGame (f : BoardMap) : Type 0 where
  pub step : (p : Position) (i : ℕ) (z : Square) (q : Position)
      → Step p i z q ↔ Step (mapped f p) i (f.square z) (mapped f q)
  pub check : (p : Position) (s : Side) → InCheck p s ↔ InCheck (mapped f p) (f.side s)
  pub legal : (p : Position) (i : ℕ) (z : Square) (q : Position)
      → Legal p i z q ↔ Legal (mapped f p) i (f.square z) (mapped f q)
  pub sound : (p : Position) → Sound p ↔ Sound (mapped f p)
  pub mate : (p : Position) → Mate p ↔ Mate (mapped f p)
  pub has_move : (p : Position) → HasMove p ↔ HasMove (mapped f p)
  pub win : (winner : Side) (n : ℕ) (p : Position) → Win winner n p ↔ Win (f.side winner) n (mapped f p)
  pub lost : (winner : Side) (n : ℕ) (p : Position) → Lost winner n p ↔ Lost (f.side winner) n (mapped f p)
  pub value : (winner : Side) (n : ℕ) (p : Position) → Value winner n p ↔ Value (f.side winner) n (mapped f p)
