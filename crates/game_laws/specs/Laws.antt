-- The statements of the laws of the game.
use Rattle.std.specs.Prelude.{◌≡◌, ◌↔◌, ℕ, ℤ, ◌≤◌, ◌⊎◌, Some}
use Rattle.game_rules.specs.Game.{Position, Bears, HasMove, InCheck, IsLiveAnd, Legal, Lost, Mate, Sound, StandsOn, Step, Value, Win, man_at, other}
use Rattle.game_rules.specs.declared.men.Kind.TheVariants.{King}
use Rattle.game_rules.specs.declared.men.Man.{Man}
use Rattle.game_rules.specs.declared.men.Side.{Side}
use Rattle.game_rules.specs.declared.men.Square.{Square}
use Rattle.game_laws.specs.Answer.{HasAnswer, IsCheckFrom}
use Rattle.game_laws.specs.Lost.{FlatLost}
use Rattle.game_laws.specs.OnRay.{IsBorneAlong, IsOnOneRay}
use Rattle.game_laws.specs.Reach.{ReachesOpenly}
use Rattle.game_laws.specs.Symmetry.{KeepsGame, colour_exchange, mapped, reflection, shift}

-- no step from a sound position goes to the square of a king
abbrev pub SparesKings : Type 0
SparesKings =
    (p : Position) (i : ℕ) (z : Square) (q : Position)
    → Sound p
    → Step p i z q
    → (k : ℕ) (m : Man)
    → man_at p k ≡ Some m
    → m.kind ≡ King
    → StandsOn m z
    → ⊥

-- a legal move from a sound position leads to a sound one
abbrev pub KeepsSound : Type 0
KeepsSound = (p : Position) (i : ℕ) (z : Square) (q : Position) → Sound p → Legal p i z q → Sound q

-- a win within k moves is a win within any n ≥ k
abbrev pub WinsMonotonically : Type 0
WinsMonotonically = (winner : Side) (k n : ℕ) (p : Position) → k ≤ n → Win winner k p → Win winner n p

-- a loss within k moves is a loss within any n ≥ k
abbrev pub LosesMonotonically : Type 0
LosesMonotonically = (winner : Side) (k n : ℕ) (p : Position) → k ≤ n → Lost winner k p → Lost winner n p

-- a step of a man lies on exactly one ray of the table, at exactly one distance
abbrev pub StepsOnOneRay : Type 0
StepsOnOneRay =
    (p : Position) (i : ℕ) (z : Square) (q : Position) (s : Step p i z q)
    → IsLiveAnd s.man (λ a. IsOnOneRay p s.man a z)

-- a man bears on a square if and only if he reaches it and no man is in between; a single step passes over no square
abbrev pub BearsOpenly : Type 0
BearsOpenly = (p : Position) (m : Man) (z : Square) → Bears p m z ↔ ReachesOpenly p m z

-- a man bears on a square if and only if he is borne there along a ray of the table
abbrev pub BearsAlongRays : Type 0
BearsAlongRays = (p : Position) (m : Man) (z : Square) → Bears p m z ↔ IsLiveAnd m (λ a. IsBorneAlong p m a z)

-- a sound position in check is mate or has a legal move
abbrev pub MateOrMove : Type 0
MateOrMove = (p : Position) → Sound p → InCheck p p.turn → Mate p ⊎ HasMove p

-- at a sound position both forms of Lost are equivalent
abbrev pub LostIsFlat : Type 0
LostIsFlat = (winner : Side) (n : ℕ) (q : Position) → Sound q → Lost winner n q ↔ FlatLost winner n q

-- if a man at a gives check, it is mate if and only if no man has a legal move to the one square on each of his rays
abbrev pub MateByRays : Type 0
MateByRays =
    (p : Position) (a k : Square) → Sound p → IsCheckFrom p a k → Mate p ↔ ((i : ℕ) → HasAnswer p a k i → ⊥)

-- a position is lost within 0 moves if and only if the loser is to move and is mate
abbrev pub LostAtOnceIsMate : Type 0
LostAtOnceIsMate = (winner : Side) (q : Position) → Lost winner 0 q ↔ ((q.turn ≡ other winner) × Mate q)

-- the value does not change if all men are moved by dx to the right and dy up
abbrev pub ShiftKeepsValue : Type 0
ShiftKeepsValue =
    (dx dy : ℤ) (winner : Side) (n : ℕ) (p : Position) → Value winner n p ↔ Value winner n (mapped (shift dx dy) p)

-- the value does not change if right and left are exchanged
abbrev pub ReflectionKeepsValue : Type 0
ReflectionKeepsValue = (winner : Side) (n : ℕ) (p : Position) → Value winner n p ↔ Value winner n (mapped reflection p)

-- if the colours are exchanged, and up and down with them, the other side has the value that the winner had
abbrev pub ExchangeKeepsValue : Type 0
ExchangeKeepsValue =
    (winner : Side) (n : ℕ) (p : Position) → Value winner n p ↔ Value (other winner) n (mapped colour_exchange p)

-- moving the board keeps the game
abbrev pub ShiftKeepsGame : Type 0
ShiftKeepsGame = (dx dy : ℤ) → KeepsGame (shift dx dy)
