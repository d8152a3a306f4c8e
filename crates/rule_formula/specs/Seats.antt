-- The variables of the men's squares.
use Rattle.std.specs.Prelude.{ℕ, zero, suc, ◌*◌, ◌-◌, ◌%◌, ◌≡◌, Bool, ◌==◌, if◌then◌else◌, List, [], ◌∷◌, ◌++◌, ℤ, pos}
use Rattle.game_rules.specs.declared.men.Square.{Square}
use Rattle.track_word.specs.declared.tracks.Var.{Var}
use Rattle.track_word.specs.Tracks.{Values}
use Rattle.rule_formula.specs.declared.seats.Seat.{Seat}
use Rattle.rule_formula.specs.declared.seats.Seats.{Seats}
use Rattle.game_rules.specs.declared.men.Ray.{Ray}

abbrev pub var : ℕ → Var
var n = record { 0 = n }

-- the variables of man k
abbrev pub own : ℕ → Seat
own k = record { x = var (2 * k - 2); y = var (2 * k - 1) }

-- a variable of each kind: an even one for x, an odd one for y
pub record IsSeat (s : Seat) : Type 0 where
  pub even : s.x.0 % 2 ≡ 0
  pub odd : s.y.0 % 2 ≡ 1

-- the square given by the seat's variables
abbrev pub at : Values → Seat → Square
at v s = record { x = v s.x.0; y = v s.y.0 }

-- the squares given by the men's own variables
abbrev pub squares : Values → ℕ → Square
squares v k = at v (own k)

-- the variables of a square that belongs to no man: the mover's square before or after the move
abbrev pub elsewhere : Seat
elsewhere = record { x = var 16; y = var 17 }

-- the variable that is bound, or the kept one if the ray does not change it
abbrev pub swept : ℤ → Var → Var → Var
swept (pos zero) kept spare = kept
swept _ kept spare = spare

-- the seat before or after a move of a man, who keeps the variable that the ray does not change
abbrev pub spare : Ray → ℕ → Seat
spare r i = record { x = swept r.dx (own i).x elsewhere.x; y = swept r.dy (own i).y elsewhere.y }

-- man i in the seat a, man j in the seat b, and the others in their own
abbrev pub seats_with : ℕ → Seat → ℕ → Seat → ℕ → Seat
seats_with i a j b k = if k == i then a else if k == j then b else own k

-- the seat of each man
abbrev pub seat_of : Seats → ℕ → Seat
seat_of s k = seats_with s.first s.first_seat s.second s.second_seat k

-- the seats before a move: man i in his old seat, the captured man on the square that man i has after it
abbrev pub old_seats : Ray → ℕ → ℕ → ℕ → Seat
old_seats r i t = seats_with i (spare r i) t (own i)

abbrev pub new_seat : Ray → ℕ → ℕ → Seat
new_seat r i zero = spare r i
new_seat r i (suc t) = own (suc t)

-- the seats after a move: man i in his new seat, which is that of the captured man
abbrev pub new_seats : Ray → ℕ → ℕ → ℕ → Seat
new_seats r i t = seats_with i (new_seat r i t) t (new_seat r i t)

-- the variables of the live men among the first n
abbrev pub vars_to : (ℕ → Seat) → (ℕ → Bool) → ℕ → List Var
vars_to seats live zero = []
vars_to seats live (suc n) =
    if live (suc n) then vars_to seats live n ++ (seats (suc n)).x ∷ (seats (suc n)).y ∷ [] else vars_to seats live n
