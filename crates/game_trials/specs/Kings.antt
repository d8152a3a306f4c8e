-- Men that can be in one sound position, in which a side may have no king.
use Rattle.std.specs.Prelude.{◌≡◌, ◌≢◌, ◌<◌, ℕ, Some}
use Rattle.game_rules.specs.Game.{Attacked, Position, StandsOn, man_at, other}
use Rattle.game_rules.specs.declared.men.Kind.TheVariants.{King}
use Rattle.game_rules.specs.declared.men.Man.{Man}
use Rattle.game_rules.specs.declared.men.Place.TheVariants.{Gone}
use Rattle.game_rules.specs.declared.men.Square.{Square}

-- not two kings of one side, and not on one square
pub record AreCompatible (m n : Man) : Type 0 where
  pub kings : m.side ≡ n.side → m.kind ≡ King → n.kind ≡ King → ⊥
  pub squares : (z : Square) → StandsOn m z → StandsOn n z → ⊥

-- this is true of the men of two numbers
abbrev pub AreCompatibleAt : Position → ℕ → ℕ → Type 0
AreCompatibleAt p i k = (m n : Man) → man_at p i ≡ Some m → man_at p k ≡ Some n → AreCompatible m n

-- a king is live, and not attacked unless it is his turn
pub record IsSafe (p : Position) (m : Man) : Type 0 where
  pub live : m.kind ≡ King → m.place ≢ Gone
  pub unattacked : m.kind ≡ King → m.side ≢ p.turn → (z : Square) → StandsOn m z → Attacked p p.turn z → ⊥

-- the man of the number is safe, and compatible with each man of a greater number
pub record IsFineAt (p : Position) (i : ℕ) : Type 0 where
  pub safe : (m : Man) → man_at p i ≡ Some m → IsSafe p m
  pub compatible : (k : ℕ) → i < k → AreCompatibleAt p i k

abbrev pub IsKingAt : Position → ℕ → Type 0
IsKingAt p k = (m : Man) × (man_at p k ≡ Some m) × (m.kind ≡ King)
