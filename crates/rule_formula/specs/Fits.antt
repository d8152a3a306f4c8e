-- The positions of one game, and its masks.
use Rattle.std.specs.Prelude.{◌≡◌, ◌≢◌, ℕ, zero, suc, ◌+◌, ◌-◌, ◌^◌, ◌<◌, Bool, true, false, ◌==◌, ◌&&◌, ◌||◌, not, if◌then◌else◌, List, [], ◌∷◌, ◌++◌, length, Option, Some, None}
use Rattle.std.specs.Int.Bits.{bit_and}
use Rattle.game_rules.specs.declared.men.Kind.TheVariants.{King}
use Rattle.game_rules.specs.declared.men.Side.{Side}
use Rattle.game_rules.specs.declared.men.Man.{Man}
use Rattle.game_rules.specs.declared.men.Place.TheVariants.{Gone}
use Rattle.game_rules.specs.Game.{HasKings, IsApart, Position, man_at}
use Rattle.rule_formula.specs.declared.opt.Opt.{Opt}
use Rattle.rule_formula.specs.Options.{is_king}
use Rattle.rule_formula.specs.Placed.{is_live}
use Rattle.mask_sets.specs.Stock.{mask_of}
use Rattle.game_laws.specs.Stock.{HasStock, stock_man}

-- q can occur in a game from p with this side to move: the same men, of whom no captured one is live again, live men on distinct
-- squares, at most one king of each side, which is live, and at least one king
pub record Fits (p : Position) (side : Side) (q : Position) : Type 0 where
  pub stock : HasStock p.men q
  pub none_back : (k : ℕ) (m n : Man) → man_at p k ≡ Some m → man_at q k ≡ Some n → m.place ≡ Gone → n.place ≡ Gone
  pub turn : q.turn ≡ side
  pub apart : IsApart q
  pub kings : HasKings q

-- the mask without a man, or the mask itself for man 0
abbrev pub mask_without : ℕ → ℕ → ℕ
mask_without mask zero = mask
mask_without mask (suc t) = mask - 2 ^ t

-- the mask after a step by the option
abbrev pub target_of : ℕ → Opt → ℕ
target_of mask o = mask_without mask o.taken

-- a mask of some of the live men that contains each king
pub record IsGameMask (p : Position) (mask : ℕ) : Type 0 where
  pub no_more : mask < 2 ^ length p.men
  pub live : (k : ℕ) (m : Man) → man_at p k ≡ Some m → is_live mask k ≡ true → m.place ≢ Gone
  pub kings : (k : ℕ) (m : Man) → man_at p k ≡ Some m → m.kind ≡ King → is_live mask k ≡ true

-- all bits of the first are bits of the second
abbrev pub is_part : ℕ → ℕ → Bool
is_part a b = bit_and a b == a

abbrev pub is_king_at : Option Man → Bool
is_king_at None = false
is_king_at (Some m) = is_king m.kind

-- each king among the first n men is in the mask
abbrev pub has_kings : List Man → ℕ → ℕ → Bool
has_kings stock mask zero = true
has_kings stock mask (suc n) =
    (not (is_king_at (stock_man stock (suc n))) || is_live mask (suc n)) && has_kings stock mask n

-- it contains only live men, and each king
abbrev pub is_game_mask : Position → ℕ → Bool
is_game_mask p mask = is_part mask (mask_of p) && has_kings p.men mask (length p.men)

-- the masks among the first n numbers
abbrev pub masks_to : Position → ℕ → List ℕ
masks_to p zero = []
masks_to p (suc n) = if is_game_mask p n then masks_to p n ++ n ∷ [] else masks_to p n

-- the masks of the position in ascending order
abbrev pub masks_of : Position → List ℕ
masks_of p = masks_to p (mask_of p + 1)
