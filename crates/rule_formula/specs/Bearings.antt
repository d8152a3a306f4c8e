-- The attack directions of the men of a side against the other side's king, in order.
use Rattle.std.specs.Prelude.{◌≡◌, ℕ, zero, suc, Bool, false, ◌&&◌, nat_lt, if◌then◌else◌, List, [], ◌∷◌, ◌++◌, length, Option, Some, None}
use Rattle.game_rules.specs.declared.men.Kind.{Kind}
use Rattle.game_rules.specs.declared.men.Kind.TheVariants.{King}
use Rattle.game_rules.specs.declared.men.Side.{Side}
use Rattle.game_rules.specs.declared.men.Man.{Man}
use Rattle.game_rules.specs.Game.{other}
use Rattle.game_rules.specs.Rays.{rays_of, serves_captures}
use Rattle.rule_formula.specs.declared.opt.Bearing.{Bearing}
use Rattle.rule_formula.specs.Meaning.{IsBearer}
use Rattle.rule_formula.specs.Options.{is_king, is_side}
use Rattle.rule_formula.specs.Placed.{is_live}
use Rattle.game_laws.specs.Stock.{stock_man}

abbrev pub is_king_man : Side → Option Man → Bool
is_king_man s None = false
is_king_man s (Some m) = is_side m.side s && is_king m.kind

-- the last king of the side among the first n men, or 0
abbrev pub king_to : List Man → Side → ℕ → ℕ
king_to stock s zero = 0
king_to stock s (suc n) = if is_king_man s (stock_man stock (suc n)) then suc n else king_to stock s n

-- the king of the side, or 0
abbrev pub king_number : List Man → Side → ℕ
king_number stock s = king_to stock s (length stock)

abbrev pub bearing : ℕ → ℕ → ℕ → Bearing
bearing k n g = record { man = k; ray = n; king = g }

-- the attacks of man k along his first n rays
abbrev pub along_rays : Kind → ℕ → ℕ → ℕ → List Bearing
along_rays sort k g zero = []
along_rays sort k g (suc n) =
    if serves_captures sort n then along_rays sort k g n ++ bearing k n g ∷ [] else along_rays sort k g n

-- the attacks of man k, if he is live and of the side
abbrev pub man_bearings : ℕ → Side → ℕ → ℕ → Option Man → List Bearing
man_bearings mask s g k None = []
man_bearings mask s g k (Some m) =
    if is_live mask k && is_side m.side s then along_rays m.kind k g (length (rays_of m.kind m.side)) else []

-- the attacks of the first n men
abbrev pub bearings_to : List Man → ℕ → Side → ℕ → ℕ → List Bearing
bearings_to stock mask s g zero = []
bearings_to stock mask s g (suc n) =
    bearings_to stock mask s g n ++ man_bearings mask s g (suc n) (stock_man stock (suc n))

-- empty if the other side has no king
abbrev pub bearings_of : List Man → ℕ → Side → List Bearing
bearings_of stock mask s =
    if nat_lt 0 (king_number stock (other s)) then bearings_to stock mask s (king_number stock (other s)) (length stock) else []

-- a live man of the side, a ray along which he attacks, and the other side's king
pub record IsBearingOf (stock : List Man) (mask : ℕ) (s : Side) (b : Bearing) : Type 0 where
  pub bearer : IsBearer stock mask b.man b.ray b.king
  pub side : bearer.man.side ≡ s
  pub other_side : bearer.target.side ≡ other s
  pub king : bearer.target.kind ≡ King
