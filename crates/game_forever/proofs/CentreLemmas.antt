-- A position of a stock with a king has a translation with this king on 0 0, and a property that translations keep need be
-- shown of such positions only.
use Rattle.std.proofs.Common.{◌≡◌, ◌⊎◌, inl, inr, ◌≢◌, ℕ, suc, ℤ, pos, ◌+ℤ◌, ◌-ℤ◌, List, Some, refl, sym, ap, subst, ◌∙◌, arith}
use Rattle.std.proofs.lemmas.Int.{ints}
use Rattle.std.proofs.lemmas.List.{length-map}
use Rattle.game_rules.specs.Game.{Position, Win, man_at, place_square}
use Rattle.game_rules.specs.declared.men.Kind.TheVariants.{King}
use Rattle.game_rules.specs.declared.men.Man.{Man}
use Rattle.game_rules.specs.declared.men.Place.{Place}
use Rattle.game_rules.specs.declared.men.Place.TheVariants.{At, Gone}
use Rattle.game_rules.specs.declared.men.Side.{Side}
use Rattle.game_laws.specs.Symmetry.{mapped, mapped_man, mapped_place, shift}
use Rattle.game_laws.specs.Stock.{HasStock}
use Rattle.game_laws.proofs.BoardMaps.{negated, shift_keeps}
use Rattle.game_laws.proofs.CheckLemmas.{any_is}
use Rattle.game_laws.proofs.SoundLemmas.{any_at, at_same}
use Rattle.game_laws.proofs.StockLemmas.{stock_man-men}
use Rattle.game_laws.proofs.SymmetryLemmas.{man_from, man_to}
use Rattle.game_forever.specs.Centre.{HasKing, IsCentred, IsMovable, IsMovedInto}
use Rattle.game_forever.specs.Growth.{StopsAt}
use Rattle.game_forever.specs.Sets.{IsOfStock}
use Rattle.game_forever.proofs.MovedLemmas.{shifted_back, shifted_twice}

-- a translation keeps the stock
stock_moved : {stock : List Man} (dx dy : ℤ) (p : Position) → HasStock stock p → HasStock stock (mapped (shift dx dy) p)
stock_moved dx dy p has =
    record {
      count = length-map p.men (mapped_man (shift dx dy)) ∙ has.count;
      men = λ k m n is_m is_n.
          let w = man_from (shift dx dy) p k n is_n in
          let same = has.men k m w.0 is_m w.1 in
          (sym (ap (λ a. a.side) w.2) ∙ same.0, sym (ap (λ a. a.kind) w.2) ∙ same.1);
    }

pub of_stock_moved : (stock : List Man) → IsMovable (IsOfStock stock)
of_stock_moved stock dx dy p (sound, has) = (((shift_keeps dx dy).sound p).0 sound, stock_moved dx dy p has)

-- the square of a live man
live_square : (a : Place) → a ≢ Gone → (x : ℤ) × (y : ℤ) × (a ≡ At x y)
live_square Gone live = absurd (live refl)
live_square (At x y) live = (x, y, refl)

king_centred : (s : Side) (p : Position) (k : ℕ) (m : Man) (x y : ℤ) → man_at p k ≡ Some m → m.side ≡ s → m.kind ≡ King → m.place ≡ At x y → IsCentred s (mapped (shift (negated x) (negated y)) p)
king_centred s p k m x y is side kind there =
    let across : x +ℤ negated x ≡ pos 0 = omega (arith, ints) in
    let up : y +ℤ negated y ≡ pos 0 = omega (arith, ints) in
    let here : mapped_place (shift (negated x) (negated y)) m.place ≡ At (pos 0) (pos 0) =
    ap (mapped_place (shift (negated x) (negated y))) there
    ∙ (ap (λ u. At u (y +ℤ negated y)) across ∙ ap (λ v. At (pos 0) v) up) in
    any_at (mapped (shift (negated x) (negated y)) p) _ k (mapped_man (shift (negated x) (negated y)) m) (man_to (shift (negated x) (negated y)) p k m is)
    (side, kind, ap place_square here)

-- a king of the stock among the men of a position of the stock
record IsKing (s : Side) (p : Position) : Type 0 where
  number : ℕ
  king : Man
  is_man : man_at p number ≡ Some king
  side : king.side ≡ s
  kind : king.kind ≡ King

king_of : (s : Side) (stock : List Man) (p : Position) → HasKing s stock → HasStock stock p → IsKing s p
king_of s stock p king has =
    let men : Position = record { men = stock; turn = s } in
    let (k, m, is_m, his) = any_is men (λ m. (m.side ≡ s) × (m.kind ≡ King)) king in
    let (n, is_n) = at_same men p k m has.count is_m in
    let same = has.men k m n (stock_man-men men k ∙ is_m) is_n in
    record { number = k; king = n; is_man = is_n; side = same.0 ∙ his.0; kind = same.1 ∙ his.1 }

-- a translation of a position of the stock has the king of this side on 0 0
pub centred : (s : Side) (stock : List Man) (p : Position) → HasKing s stock → IsOfStock stock p → IsMovedInto (IsCentred s) p
centred s stock p king is =
    let one = king_of s stock p king is.1 in
    let there = live_square one.king.place ((is.0.kings.few s).live one.number one.king one.is_man one.side one.kind) in
    (negated there.0, negated there.1, king_centred s p one.number one.king there.0 there.1 one.is_man one.side one.kind there.2)

pub centre_is_enough : (P : Position → Type 0) (stock : List Man) (s : Side) → HasKing s stock → IsMovable P
    → ((p : Position) → IsOfStock stock p → IsCentred s p → P p)
    → (p : Position) → IsOfStock stock p → P p
centre_is_enough P stock s king movable holds p is =
    let to = centred s stock p king is in
    subst P (shifted_back to.0 to.1 p)
    (movable (negated to.0) (negated to.1) (mapped (shift to.0 to.1) p)
    (holds (mapped (shift to.0 to.1) p) (of_stock_moved stock to.0 to.1 p is) to.2))

pub centre_stops : (stock : List Man) (s winner : Side) (n : ℕ) → HasKing s stock → StopsAt winner (λ p. IsOfStock stock p × IsCentred s p) n → StopsAt winner (IsOfStock stock) n
centre_stops stock s winner n king stops =
    centre_is_enough (λ p. Win winner (suc n) p → Win winner n p) stock s king
    (λ dx dy p h won. ((shift_keeps dx dy).win winner n p).0 (h (((shift_keeps dx dy).win winner (suc n) p).1 won)))
    (λ p is centre. stops p (is, centre))

pub moved_movable : (X : Position → Type 0) → IsMovable (IsMovedInto X)
moved_movable X dx dy p (ex, ey, is) = (
  ex -ℤ dx,
  ey -ℤ dy,
  subst X (sym (shifted_twice dx dy (ex -ℤ dx) (ey -ℤ dy) ex ey (omega (arith, ints)) (omega (arith, ints)) p)) is,
)

pub can_be_centred : (stock : List Man) (s : Side) (p : Position) → HasKing s stock → IsOfStock stock p → IsMovedInto (λ q. IsOfStock stock q × IsCentred s q) p
can_be_centred stock s p king is = let to = centred s stock p king is in (to.0, to.1, (of_stock_moved stock to.0 to.1 p is, to.2))

pub centre_covers : (W X : Position → Type 0) (stock : List Man) (s winner : Side) → HasKing s stock
    → ((p : Position) → IsOfStock stock p → IsCentred s p → p.turn ≡ winner → W p ⊎ X p)
    → (p : Position) → IsOfStock stock p → p.turn ≡ winner → IsMovedInto W p ⊎ IsMovedInto X p
centre_covers W X stock s winner king covers p is turn =
    let to = can_be_centred stock s p king is in
    elim (covers (mapped (shift to.0 to.1) p) to.2.0 to.2.1 turn) [ inl w ↦ inl (to.0, to.1, w) | inr x ↦ inr (to.0, to.1, x) ]
