-- Kings counted, and kings by number.
use Rattle.std.proofs.Common.{◌≡◌, ◌≢◌, ℕ, zero, suc, ◌+◌, ◌≤◌, ◌&&◌, Bool, true, false, List, [], ◌∷◌, Some, None, length, map, slice_get, refl, sym, ap, ◌∙◌, arith, pos}
use Rattle.std.proofs.lemmas.List.{length-map}
use Rattle.std.proofs.lemmas.Option.{same_Some}
use Rattle.game_rules.specs.Game.{HasKings, HasOneKing, HasOneKingAtMost, Position, man_at, other}
use Rattle.game_rules.specs.declared.men.Kind.{Kind}
use Rattle.game_rules.specs.declared.men.Kind.TheVariants.{King, Queen, Rook, Bishop, Knight, Pawn, Chancellor, Archbishop, Amazon, Nightrider}
use Rattle.game_rules.specs.declared.men.Man.{Man}
use Rattle.game_rules.specs.declared.men.Place.TheVariants.{Gone, At}
use Rattle.game_rules.specs.declared.men.Side.{Side}
use Rattle.game_rules.specs.declared.men.Side.TheVariants.{White, Black}
use Rattle.stock_text.specs.Kings.{is_king, is_king_of, king_count, one_if, same_side}
use Rattle.stock_text.specs.Kings as counts
use Rattle.stock_text.specs.Stock.{Stock}
use Rattle.stock_text.specs.StockText.{IsWritable}
use Rattle.stock_text.specs.declared.stock.StockMan.{StockMan}
use Rattle.stock_start.specs.Start.{StandsForStock, StartStands, placed_man, start_of}

self : (side : Side) → (same_side side side && true) ≡ true
self White = refl
self Black = refl

king_yes : (side : Side) (m : StockMan) → m.side ≡ side → m.kind ≡ King → is_king_of side m ≡ true
king_yes side m hs hk = ap (λ k. same_side side m.side && is_king k) hk ∙ ap (λ s. same_side side s && true) hs ∙ self side

king_kind : (k : Kind) → is_king k ≡ true → k ≡ King
king_kind King h = refl
king_kind Queen h = absurd (cc)
king_kind Rook h = absurd (cc)
king_kind Bishop h = absurd (cc)
king_kind Knight h = absurd (cc)
king_kind Pawn h = absurd (cc)
king_kind Chancellor h = absurd (cc)
king_kind Archbishop h = absurd (cc)
king_kind Amazon h = absurd (cc)
king_kind Nightrider h = absurd (cc)

king_back : (s t : Side) (k : Kind) → (same_side s t && is_king k) ≡ true → (t ≡ s) × (k ≡ King)
king_back White White k h = (refl, king_kind k h)
king_back White Black k h = absurd (cc)
king_back Black White k h = absurd (cc)
king_back Black Black k h = (refl, king_kind k h)

none_at : (side : Side) (men : List StockMan) → king_count side men ≡ 0 → (i : ℕ) (m : StockMan) → slice_get men i ≡ Some m → is_king_of side m ≡ true → ⊥
none_at side [] e i m is h = let no : None ≡ Some m = is in cc
none_at side (x ∷ men) e zero m is h =
    let one : one_if (is_king_of side x) ≡ 1 = ap one_if (ap (λ y. is_king_of side y) (same_Some x m is) ∙ h) in
    omega (arith, e, one)
none_at side (x ∷ men) e (suc i) m is h = none_at side men (omega (arith, e)) i m is h

one_at : (side : Side) (men : List StockMan) → king_count side men ≤ 1 → (i j : ℕ) (m n : StockMan) → slice_get men i ≡ Some m → slice_get men j ≡ Some n
    → is_king_of side m ≡ true → is_king_of side n ≡ true → i ≡ j
one_at side [] few i j m n is_m is_n hm hn = absurd (let no : None ≡ Some m = is_m in cc)
one_at side (x ∷ men) few zero zero m n is_m is_n hm hn = refl
one_at side (x ∷ men) few zero (suc j) m n is_m is_n hm hn =
    let one : one_if (is_king_of side x) ≡ 1 = ap one_if (ap (λ y. is_king_of side y) (same_Some x m is_m) ∙ hm) in
    absurd (none_at side men (omega (arith, few, one)) j n is_n hn)
one_at side (x ∷ men) few (suc i) zero m n is_m is_n hm hn =
    let one : one_if (is_king_of side x) ≡ 1 = ap one_if (ap (λ y. is_king_of side y) (same_Some x n is_n) ∙ hn) in
    absurd (none_at side men (omega (arith, few, one)) i m is_m hm)
one_at side (x ∷ men) few (suc i) (suc j) m n is_m is_n hm hn = ap suc (one_at side men (omega (arith, few)) i j m n is_m is_n hm hn)

record KingAt (side : Side) (men : List StockMan) : Type 0 where
  number : ℕ
  man : StockMan
  is : slice_get men number ≡ Some man
  king : is_king_of side man ≡ true

some_at : (side : Side) (men : List StockMan) → 1 ≤ king_count side men → KingAt side men
some_at side [] h = absurd (omega (arith, h))
some_at side (x ∷ men) h =
    elim (is_king_of side x) as (λ b. is_king_of side x ≡ b → 1 ≤ one_if b + king_count side men → KingAt side (x ∷ men)) [
      | true ↦ λ e some. record { number = zero; man = x; is = refl; king = e }
      | false ↦ λ e some.
          let r = some_at side men (omega (arith, some)) in
          record { number = suc r.number; man = r.man; is = r.is; king = r.king }
    ] refl h

-- the men on the board
get_to : (men : List StockMan) (i : ℕ) (m : StockMan) → slice_get men i ≡ Some m → slice_get (map placed_man men) i ≡ Some (placed_man m)
get_to [] i m is = absurd (let no : None ≡ Some m = is in cc)
get_to (x ∷ men) zero m is = ap (λ y. Some (placed_man y)) (same_Some x m is)
get_to (x ∷ men) (suc i) m is = get_to men i m is

record PlacedAt (men : List StockMan) (i : ℕ) (n : Man) : Type 0 where
  man : StockMan
  is : slice_get men i ≡ Some man
  placed : placed_man man ≡ n

get_from : (men : List StockMan) (i : ℕ) (n : Man) → slice_get (map placed_man men) i ≡ Some n → PlacedAt men i n
get_from [] i n is = absurd (let no : None ≡ Some n = is in cc)
get_from (x ∷ men) zero n is = record { man = x; is = refl; placed = same_Some (placed_man x) n is }
get_from (x ∷ men) (suc i) n is = let r = get_from men i n is in record { man = r.man; is = r.is; placed = r.placed }

-- a king of the position is one of the stock
king_of : (side : Side) (men : List StockMan) (i : ℕ) (n : Man) (at : PlacedAt men i n) → n.side ≡ side → n.kind ≡ King → is_king_of side at.man ≡ true
king_of side men i n at hs hk =
    king_yes side at.man (ap (λ (a : Man). a.side) at.placed ∙ hs) (ap (λ (a : Man). a.kind) at.placed ∙ hk)

few_kings : (winner side : Side) (men : List StockMan) → king_count (other winner) men ≡ 1 → king_count winner men ≤ 1 → king_count side men ≤ 1
few_kings White White men loser few = few
few_kings White Black men loser few = omega (arith, loser)
few_kings Black White men loser few = omega (arith, loser)
few_kings Black Black men loser few = few

module _ (s : Stock) (turn : Side) where
  same_king : (side : Side) → king_count side s.men ≤ 1 → (j k : ℕ) (m n : Man) → man_at (start_of s turn) j ≡ Some m → man_at (start_of s turn) k ≡ Some n
      → m.side ≡ side → n.side ≡ side → m.kind ≡ King → n.kind ≡ King → j ≡ k
  same_king side few zero k m n is_m is_n sm sn km kn = absurd (let no : None ≡ Some m = is_m in cc)
  same_king side few (suc j) zero m n is_m is_n sm sn km kn = absurd (let no : None ≡ Some n = is_n in cc)
  same_king side few (suc j) (suc k) m n is_m is_n sm sn km kn =
      let a = get_from s.men j m is_m in
      let b = get_from s.men k n is_n in
      ap suc (one_at side s.men few j k a.man b.man a.is b.is (king_of side s.men j m a sm km) (king_of side s.men k n b sn kn))

  all_live : (k : ℕ) (m : Man) → man_at (start_of s turn) k ≡ Some m → m.place ≢ Gone
  all_live zero m is = absurd (let no : None ≡ Some m = is in cc)
  all_live (suc k) m is = λ e.
      let a = get_from s.men k m is in
      let gone : At (pos 0) (pos 0) ≡ Gone = ap (λ (n : Man). n.place) a.placed ∙ e in
      cc

  few_at : counts.HasKings s → (side : Side) → HasOneKingAtMost (start_of s turn) side
  few_at kings side =
      let few = few_kings s.winner side s.men kings.loser kings.winner in
      record {
        live = λ k m is hs hk. all_live k m is;
        only = λ j k m n is_m is_n sm sn km kn. same_king side few j k m n is_m is_n sm sn km kn;
      }

  one_king : counts.HasKings s → HasOneKing (start_of s turn) (other s.winner)
  one_king kings =
      let side = other s.winner in
      let loser = kings.loser in
      let r = some_at side s.men (omega (arith, loser)) in
      let is : man_at (start_of s turn) (suc r.number) ≡ Some (placed_man r.man) = get_to s.men r.number r.man r.is in
      let both = king_back side r.man.side r.man.kind r.king in
      record {
        number = suc r.number;
        king = placed_man r.man;
        is_man = is;
        is_king = both;
        live = all_live (suc r.number) (placed_man r.man) is;
        only = λ k m is_m hs hk. same_king side (omega (arith, loser)) k (suc r.number) m (placed_man r.man) is_m is hs both.0 hk both.1;
      }

pub start_stands : StartStands
start_stands s turn writable kings =
    let one = one_king s turn kings in
    let high = writable.high in
    record {
      few = omega (arith, high, length-map s.men placed_man);
      kings = record {
        few = few_at s turn kings;
        some = λ none. none one.number one.king one.is_man one.is_king.1;
      };
      king = one;
      live = all_live s turn;
    }
