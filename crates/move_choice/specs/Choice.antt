-- Moves in the order of the rays, and the first of them that leads into a set.
use Rattle.std.specs.Prelude.{◌≡◌, ◌⊎◌, ℕ, ◌<◌, true, false, Option, Some, None, IsSomeAnd}
use Rattle.game_rules.specs.Game.{Position, IsEmptySquare, IsOccupiedBy, IsLiveAnd, Legal, StandsOn, after_steps, man_at, other}
use Rattle.game_rules.specs.declared.men.Man.{Man}
use Rattle.game_rules.specs.declared.men.Ray.{Ray}
use Rattle.game_rules.specs.declared.men.Square.{Square}
use Rattle.game_laws.specs.Answer.{distance as squares_apart}
use Rattle.game_laws.specs.OnRay.{IsOnRay}
use Rattle.chess_game.specs.Way.{IsInside}
use Rattle.chess_game.specs.declared.moves.Move.{Move}
use Rattle.chess_game.specs.declared.way.Frame.{Frame}
use Rattle.move_choice.specs.declared.aim.Aim.{Aim}
use Rattle.move_choice.specs.declared.choice.Choice.{Choice}
use Rattle.mask_sets.specs.Sets.{IsIn, Table}

-- the target square of a move
abbrev pub target : Move → Square
target mv = record { x = mv.x; y = mv.y }

-- n steps of the ray lead man i to the square
abbrev pub LeadsTo : Position → ℕ → Ray → ℕ → Square → Type 0
LeadsTo p i r distance z = IsSomeAnd (man_at p i) (λ m. IsLiveAnd m (λ a. z ≡ after_steps a distance r.dx r.dy))

-- the number of steps from the first square to the second: their distance for a far ray, and 1 for a near one
abbrev pub AreSteps : Ray → Square → Square → ℕ → Type 0
AreSteps r a z steps = (r.far ≡ true → steps ≡ squares_apart a z) × (r.far ≡ false → steps ≡ 1)

-- the number of steps from the square of man i
abbrev pub AreHisSteps : Position → ℕ → Ray → Square → ℕ → Type 0
AreHisSteps p i r z steps = IsSomeAnd (man_at p i) (λ m. IsLiveAnd m (λ a. AreSteps r a z steps))

-- the move goes this distance along that ray of its man, to a square of the frame; it is legal and leads to q, a
-- position of the set
pub record Leads (Set : Position → Type 0) (f : Frame) (p : Position) (c : Choice) (q : Position) : Type 0 where
  pub man : Man
  pub from : Square
  pub is_man : man_at p c.mv.man ≡ Some man
  pub stands : StandsOn man from
  pub on : IsOnRay man from (target c.mv) c.ray c.distance
  pub inside : IsInside f (target c.mv)
  pub legal : Legal p c.mv.man (target c.mv) q
  pub is_in : Set q

-- moves are ordered by man, then by ray, then by distance
abbrev pub IsBefore : Choice → Choice → Type 0
IsBefore d c =
    (d.mv.man < c.mv.man) ⊎ ((d.mv.man ≡ c.mv.man) × ((d.ray < c.ray) ⊎ ((d.ray ≡ c.ray) × (d.distance < c.distance))))

-- this is the first of the moves with a property that leads into the set
pub record IsFirst (Has : Choice → Type 0) (Set : Position → Type 0) (f : Frame) (p : Position) (c : Choice) : Type
    0 where
  pub has : Has c
  pub position : Position
  pub leads : Leads Set f p c position
  pub first : (d : Choice) (q : Position) → Has d → Leads Set f p d q → IsBefore d c → ⊥

-- the first such move, or that there is none
abbrev pub FirstOf : (Choice → Type 0) → (Position → Type 0) → Frame → Position → Option Choice → Type 0
FirstOf Has Set f p None = (d : Choice) (q : Position) → Has d → Leads Set f p d q → ⊥
FirstOf Has Set f p (Some c) = IsFirst Has Set f p c

-- the first such move as the aim says: to a square of its frame, and into its sets
abbrev pub FirstAsAimed : Aim → (Choice → Type 0) → Option Choice → Type 0
FirstAsAimed aim Has found = FirstOf Has (IsIn aim.sets.now) aim.frame aim.position.now found

-- the first legal move to a square of the frame that leads into the set, or that there is none
abbrev pub Pick : (Position → Type 0) → Frame → Position → Option Choice → Type 0
Pick Set f p None = (i : ℕ) (z : Square) (q : Position) → Legal p i z q → IsInside f z → Set q → ⊥
Pick Set f p (Some c) = IsFirst (λ d. Unit {0}) Set f p c

-- the moves of one man, of one of his rays, those of them to an empty square, and the captures among them
abbrev pub IsOf : ℕ → Choice → Type 0
IsOf man c = c.mv.man ≡ man

abbrev pub IsAlongRay : ℕ → ℕ → Choice → Type 0
IsAlongRay man ray c = (c.mv.man ≡ man) × (c.ray ≡ ray)

abbrev pub IsQuiet : Position → ℕ → ℕ → Choice → Type 0
IsQuiet p man ray c = (c.mv.man ≡ man) × (c.ray ≡ ray) × IsEmptySquare p (target c.mv)

abbrev pub IsCapture : Position → ℕ → ℕ → Choice → Type 0
IsCapture p man ray c = (c.mv.man ≡ man) × (c.ray ≡ ray) × IsOccupiedBy p (other p.turn) (target c.mv)

-- there is at most one first move, and not both a first move and none
abbrev pub OnePick : (Position → Type 0) → Frame → Position → Type 0
OnePick Set f p = (o r : Option Choice) → Pick Set f p o → Pick Set f p r → o ≡ r

-- this is true for each table of sets
abbrev pub PickIsOne : Type 0
PickIsOne = (sets : Table) (f : Frame) (p : Position) → OnePick (IsIn sets) f p
