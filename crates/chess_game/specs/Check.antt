-- A check, and the rays along which it may be answered.
use Rattle.std.specs.Prelude.{◌≡◌, ◌≤◌, ◌^◌, ℕ, unsigned_abs, IsSomeAnd}
use Rattle.std.specs.List.{Any}
use Rattle.game_rules.specs.Game.{Position, Attacked, Bears, IsLiveAnd, StandsOn, other}
use Rattle.game_rules.specs.declared.men.Kind.TheVariants.{King}
use Rattle.game_rules.specs.declared.men.Man.{Man}
use Rattle.game_rules.specs.declared.men.Ray.{Ray}
use Rattle.game_rules.specs.declared.men.Side.{Side}
use Rattle.game_rules.specs.declared.men.Square.{Square}
use Rattle.game_rules.specs.Rays.{ray_of}
use Rattle.game_laws.specs.Answer.{CanGo, HasAnswer, IsCheckFrom, answer_square}
use Rattle.chess_game.specs.declared.answers.Check.{Check}
use Rattle.chess_game.specs.declared.answers.PlacedMan.{PlacedMan}

-- a square with coordinates up to 2 ^ 63 in absolute value
pub record IsClose (z : Square) : Type 0 where
  pub x : unsigned_abs z.x ≤ 2 ^ 63
  pub y : unsigned_abs z.y ≤ 2 ^ 63

-- both squares of the check are close
pub record IsCloseCheck (check : Check) : Type 0 where
  pub from : IsClose check.from
  pub king : IsClose check.king

-- this is the check in which the side to move stands
abbrev pub IsCheckOf : Position → Check → Type 0
IsCheckOf p check = IsCloseCheck check × IsCheckFrom p check.from check.king

-- the man on that square can answer the check along the ray
abbrev pub AnswersAlong : Position → Check → PlacedMan → Ray → Type 0
AnswersAlong p check man r = CanGo p man.number (answer_square check.from check.king man.square r)

-- the man on that square has a ray of this number and can answer the check along it
abbrev pub AnswersAlongNth : Position → Check → Man → PlacedMan → ℕ → Type 0
AnswersAlongNth p check m man n = IsSomeAnd (ray_of m.kind m.side n) (AnswersAlong p check man)

-- no man can answer the check from a of the king at k
abbrev pub IsUnanswered : Position → Square → Square → Type 0
IsUnanswered p a k = (i : ℕ) → HasAnswer p a k i → ⊥

-- no man of the side is a king
abbrev pub HasNoKing : Position → Side → Type 0
HasNoKing p s = Any (λ m. (m.side ≡ s) × (m.kind ≡ King)) p.men → ⊥

-- the man is the side's king and stands on this square
abbrev pub IsKingOn : Side → Square → Man → Type 0
IsKingOn s k m = (m.side ≡ s) × (m.kind ≡ King) × StandsOn m k

-- the man belongs to the side that is not to move, stands on the square a, and bears on the square k
abbrev pub IsCheckerOn : Position → Square → Square → Man → Type 0
IsCheckerOn p k a m = (m.side ≡ other p.turn) × StandsOn m a × Bears p m k

-- a man of the side that is not to move stands on the square a and bears on the square k
abbrev pub IsCheckedFrom : Position → Square → Square → Type 0
IsCheckedFrom p k a = Any (IsCheckerOn p k a) p.men

-- the man is the side's king and is attacked by the other side
abbrev pub IsAttackedKing : Position → Side → Man → Type 0
IsAttackedKing p s m = (m.side ≡ s) × (m.kind ≡ King) × IsLiveAnd m (Attacked p (other s))
