-- Counting kings, and the first reason against those of a stock.
use Rattle.std.proofs.Common.{◌≡◌, ℕ, zero, suc, ◌+◌, ◌<◌, ◌≤◌, List, [], ◌∷◌, Some, None, take, slice_get, refl, sym, ap, subst, ◌∙◌, arith, add-one}
use Rattle.game_rules.specs.Game.{other}
use Rattle.game_rules.specs.declared.men.Side.{Side}
use Rattle.game_rules.specs.declared.men.Side.TheVariants.{White, Black}
use Rattle.stock_text.specs.Kings.{HasKings, IsFault, IsFirstFault, is_king_of, king_count, one_if, rank}
use Rattle.stock_text.specs.Stock.{Stock}
use Rattle.stock_text.specs.declared.kings.KingFault.{KingFault}
use Rattle.stock_text.specs.declared.kings.KingFault.TheVariants.{NoKing, ManyKings}
use Rattle.stock_text.specs.declared.stock.StockMan.{StockMan}

-- the count with one man more
king_count-suc : (side : Side) (men : List StockMan) (i : ℕ) (m : StockMan) → slice_get men i ≡ Some m
    → king_count side (take (suc i) men) ≡ king_count side (take i men) + one_if (is_king_of side m)
king_count-suc side [] i m h = absurd (let e : None ≡ Some m = h in cc)
king_count-suc side (x ∷ men) zero m h =
    let same : x ≡ m = cc in
    let one : one_if (is_king_of side x) ≡ one_if (is_king_of side m) = ap (λ y. one_if (is_king_of side y)) same in
    omega (arith, one)
king_count-suc side (x ∷ men) (suc i) m h =
    let more = king_count-suc side men i m h in
    omega (arith, more)

pub king_count_more : (side : Side) (men : List StockMan) (i : ℕ) (m : StockMan) → slice_get men i ≡ Some m
    → king_count side (take (i + 1) men) ≡ king_count side (take i men) + one_if (is_king_of side m)
king_count_more side men i m h = rw add-one (king_count-suc side men i m h)

-- if each side has at most one king, so has any side
few_of : (men : List StockMan) → king_count White men ≤ 1 → king_count Black men ≤ 1 → (side : Side) → king_count side men ≤ 1
few_of men w b White = w
few_of men w b Black = b

pub kings_fine : (s : Stock) → 1 ≤ king_count (other s.winner) s.men → king_count White s.men ≤ 1 → king_count Black s.men ≤ 1 → HasKings s
kings_fine s some w b =
    let few = few_of s.men w b (other s.winner) in
    record { loser = omega (arith, some, few); winner = few_of s.men w b s.winner }

-- with the right kings each side has at most one
few_kings : (winner side : Side) (men : List StockMan) → king_count (other winner) men ≡ 1 → king_count winner men ≤ 1 → king_count side men ≤ 1
few_kings White White men loser few = few
few_kings White Black men loser few = omega (arith, loser)
few_kings Black White men loser few = omega (arith, loser)
few_kings Black Black men loser few = few

pub fault_refuted : (f : KingFault) (s : Stock) → IsFirstFault s f → HasKings s → ⊥
fault_refuted (NoKing side) s h kings =
    let none : king_count (other s.winner) s.men ≡ 0 = subst (λ t. king_count t s.men ≡ 0) h.holds.0 h.holds.1 in
    let loser = kings.loser in
    omega (arith, none, loser)
fault_refuted (ManyKings side) s h kings =
    let few = few_kings s.winner side s.men kings.loser kings.winner in
    let many = h.holds in
    omega (arith, few, many)

pub no_king : (s : Stock) → king_count (other s.winner) s.men ≡ 0 → IsFirstFault s (NoKing (other s.winner))
no_king s h = record { holds = (refl, h); first = λ f lt there. absurd (omega (arith, lt)) }

some_king : (s : Stock) (side : Side) → 1 ≤ king_count (other s.winner) s.men → side ≡ other s.winner → king_count side s.men ≡ 0 → ⊥
some_king s side some is none =
    let none' : king_count (other s.winner) s.men ≡ 0 = subst (λ t. king_count t s.men ≡ 0) is none in
    omega (arith, some, none')

pub many_white : (s : Stock) → 1 ≤ king_count (other s.winner) s.men → 2 ≤ king_count White s.men → IsFirstFault s (ManyKings White)
many_white s some many = record { holds = many; first = first }
  where
    first : (f : KingFault) → rank f < 1 → IsFault s f → ⊥
    first (NoKing side) lt there = some_king s side some there.0 there.1
    first (ManyKings White) lt there = omega (arith, lt)
    first (ManyKings Black) lt there = omega (arith, lt)

pub many_black : (s : Stock) → 1 ≤ king_count (other s.winner) s.men → king_count White s.men ≤ 1 → 2 ≤ king_count Black s.men
    → IsFirstFault s (ManyKings Black)
many_black s some few many = record { holds = many; first = first }
  where
    first : (f : KingFault) → rank f < 2 → IsFault s f → ⊥
    first (NoKing side) lt there = some_king s side some there.0 there.1
    first (ManyKings White) lt there = omega (arith, few, there)
    first (ManyKings Black) lt there = omega (arith, lt)
