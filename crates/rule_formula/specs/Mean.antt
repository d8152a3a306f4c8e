-- The meaning of the formulas of the rules at the positions of one game.
use Rattle.std.specs.Prelude.{◌≡◌, ◌↔◌, ℕ, ◌<◌, ◌≤◌, List, length, ℤ, Contains, Some}
use Rattle.game_rules.specs.declared.men.Side.{Side}
use Rattle.game_rules.specs.Game.{HasKings, InCheck, Position, Sound, other}
use Rattle.track_word.specs.declared.tracks.Var.{Var}
use Rattle.lin_formula.specs.Tree.{Tree, Among, Or, free_vars}
use Rattle.lin_formula.specs.SetOf.{Member, SetOf, Where}
use Rattle.rule_formula.specs.declared.opt.Bearing.{Bearing}
use Rattle.rule_formula.specs.declared.opt.Opt.{Opt}
use Rattle.rule_formula.specs.declared.opt.ManPair.{ManPair}
use Rattle.rule_formula.specs.Bearings.{IsBearingOf, bearings_of}
use Rattle.rule_formula.specs.Fits.{Fits, IsGameMask, masks_of, target_of}
use Rattle.mask_sets.specs.Stock.{mask_of}
use Rattle.game_laws.specs.Stock.{HasStock}
use Rattle.rule_formula.specs.Laws.{StepsTo}
use Rattle.rule_formula.specs.Meaning.{AreTwins, BearsBy, IsOptionOf, TakesOption}
use Rattle.rule_formula.specs.Options.{options_of}
use Rattle.rule_formula.specs.Pairs.{IsPairOf, pairs_of}
use Rattle.rule_formula.specs.Placed.{IsLiveIn, is_live}
use Rattle.mask_sets.specs.Tuple.{tuple_of}
use Rattle.rule_formula.specs.Trees.{bear_of, image_of, point_of, pre_of, safe_of, tracks_of, twins_tree}

-- the variables of the live men of a mask
abbrev pub mask_tracks : Position → ℕ → List Var
mask_tracks p m = tracks_of p.men (is_live m)

-- each tuple of the set is that of a position of the game with this mask
abbrev pub HoldsFitting : Position → Side → ℕ → SetOf → Type 0
HoldsFitting p side m s =
    (tuple : List ℤ) → Member s tuple → (q : Position) × Fits p side q × (mask_of q ≡ m) × (tuple_of q ≡ tuple)

-- a step by the option leads from a position with this mask in the set to one with the tuple
abbrev pub IsImageOf : Position → Side → ℕ → Opt → SetOf → List ℤ → Type 0
IsImageOf p side m o s tuple =
    (q : Position) × (r : Position) × Fits p side q × (mask_of q ≡ m) × TakesOption o q r × Member s (tuple_of q)
    × (tuple_of r ≡ tuple)

-- the position is in the first set, and a step by the option leads from it into the second
abbrev pub IsBefore : Opt → SetOf → SetOf → Position → Type 0
IsBefore o s t q = Member s (tuple_of q) × ((r : Position) × TakesOption o q r × Member t (tuple_of r))

-- the attack's man attacks the king along the ray
abbrev pub BearsOnKing : Bearing → Position → Type 0
BearsOnKing b q = BearsBy b.man b.ray b.king q

-- the game and its positions: masks, tuples, steps and checks
pub record GameMeans (p : Position) : Type 0 where
  pub begins : Sound p → Fits p p.turn p
  pub masks : (m : ℕ) → Contains (masks_of p) m ↔ IsGameMask p m
  pub mask_is : (side : Side) (q : Position) → Fits p side q → IsGameMask p (mask_of q)
  pub unique : (side : Side) (q r : Position) → Fits p side q → Fits p side r → mask_of q ≡ mask_of r
      → tuple_of q ≡ tuple_of r → q ≡ r
  pub tracks : (m s t : ℕ) → free_vars (Or (Among s (mask_tracks p m)) (Among t (mask_tracks p m))) ≡ mask_tracks p m
  pub steps : (side : Side) (q r : Position) → Fits p side q → Sound q
      → StepsTo q r ↔ ((o : Opt) × Contains (options_of p.men (mask_of q) side) o × TakesOption o q r)
  pub target : (side : Side) (o : Opt) (q r : Position) → Fits p side q → Contains (options_of p.men (mask_of q) side) o
      → TakesOption o q r → (mask_of r ≡ target_of (mask_of q) o) × Fits p (other side) r
  pub taken : (m : ℕ) (o : Opt) → IsOptionOf p.men m o → 0 < o.taken → IsLiveIn m o.taken
  pub targets : (side : Side) (m : ℕ) (o : Opt) → IsGameMask p m → Contains (options_of p.men m side) o
      → IsGameMask p (target_of m o)
  pub bearings : (m : ℕ) (s : Side) (b : Bearing) → IsGameMask p m
      → Contains (bearings_of p.men m s) b ↔ IsBearingOf p.men m s b
  pub pairs : (m : ℕ) (w : ManPair) → Contains (pairs_of p.men m) w ↔ IsPairOf p.men m w
  pub checks : (side s : Side) (q : Position) → Fits p side q
      → InCheck q (other s) ↔ ((b : Bearing) × Contains (bearings_of p.men (mask_of q) s) b × BearsOnKing b q)

-- the formula of the one position that the game begins at
pub record PointMeans (p : Position) : Type 0 where
  pub tracks : (t : Tree) → point_of p.men ≡ Some t → free_vars t ≡ mask_tracks p (mask_of p)
  pub point : (t : Tree) (e : ℕ → SetOf) (tuple : List ℤ) → point_of p.men ≡ Some t
      → Member (Where t e) tuple ↔ (tuple ≡ tuple_of p)

-- the formulas of an option
pub record OptionsMean (p : Position) (side : Side) (m : ℕ) (o : Opt) : Type 0 where
  pub image_tracks : (a : ℕ) → free_vars (image_of p.men m o a) ≡ mask_tracks p (target_of m o)
  pub image : (a : ℕ) (e : ℕ → SetOf) (tuple : List ℤ) → HoldsFitting p side m (e a)
      → Member (Where (image_of p.men m o a) e) tuple ↔ IsImageOf p side m o (e a) tuple
  pub pre_tracks : (a b : ℕ) → free_vars (pre_of p.men m o a b) ≡ mask_tracks p m
  pub pre : (a b : ℕ) (e : ℕ → SetOf) (q : Position) → Fits p side q → mask_of q ≡ m
      → Member (Where (pre_of p.men m o a b) e) (tuple_of q) ↔ IsBefore o (e a) (e b) q

-- the formulas of a bearing
pub record BearingsMean (p : Position) (m : ℕ) (b : Bearing) : Type 0 where
  pub bear_tracks : (a : ℕ) → free_vars (bear_of p.men m b.man b.ray b.king a) ≡ mask_tracks p m
  pub bear : (a : ℕ) (e : ℕ → SetOf) (side : Side) (q : Position) → Fits p side q → mask_of q ≡ m
      → Member (Where (bear_of p.men m b.man b.ray b.king a) e) (tuple_of q)
      ↔ (Member (e a) (tuple_of q) × BearsOnKing b q)
  pub safe_tracks : (a : ℕ) → free_vars (safe_of p.men m b.man b.ray b.king a) ≡ mask_tracks p m
  pub safe : (a : ℕ) (e : ℕ → SetOf) (side : Side) (q : Position) → Fits p side q → mask_of q ≡ m
      → Member (Where (safe_of p.men m b.man b.ray b.king a) e) (tuple_of q)
      ↔ (Member (e a) (tuple_of q) × (¬ BearsOnKing b q))
  pub safe_within : (a : ℕ) (e : ℕ → SetOf) (tuple : List ℤ)
      → Member (Where (safe_of p.men m b.man b.ray b.king a) e) tuple → Member (e a) tuple

-- the formula of two men, at all positions of the stock with the mask, including those with men on one square
pub record PairsMean (p : Position) (m : ℕ) (w : ManPair) : Type 0 where
  pub tracks : (a : ℕ) → free_vars (twins_tree 8 m w.first w.second a) ≡ mask_tracks p m
  pub twins : (a : ℕ) (e : ℕ → SetOf) (q : Position) → HasStock p.men q → mask_of q ≡ m
      → Member (Where (twins_tree 8 m w.first w.second a) e) (tuple_of q)
      ↔ (Member (e a) (tuple_of q) × AreTwins w.first w.second q)
  pub within : (a : ℕ) (e : ℕ → SetOf) (tuple : List ℤ) → Member (Where (twins_tree 8 m w.first w.second a) e) tuple
      → Member (e a) tuple

-- at most eight men, with a king, and at most one of each side, which is live
pub record IsGame (p : Position) : Type 0 where
  pub few : length p.men ≤ 8
  pub kings : HasKings p

-- what the formulas mean in the game that begins at p
pub record RulesMean (p : Position) : Type 0 where
  pub game : GameMeans p
  pub point : PointMeans p
  pub options : (side : Side) (m : ℕ) (o : Opt) → IsGameMask p m → Contains (options_of p.men m side) o
      → OptionsMean p side m o
  pub bearings : (m : ℕ) (s : Side) (b : Bearing) → IsGameMask p m → Contains (bearings_of p.men m s) b
      → BearingsMean p m b
  pub pairs : (m : ℕ) (w : ManPair) → IsGameMask p m → Contains (pairs_of p.men m) w → PairsMean p m w

-- in each game the formulas mean what the rules say
abbrev pub FormulasMeanTheRules : Type 0
FormulasMeanTheRules = (p : Position) → IsGame p → RulesMean p
