-- The formula point says where the live men stand.
use Rattle.std.proofs.Common.{◌≡◌, ◌≢◌, ◌↔◌, ℕ, zero, suc, List, length, Option, Some, None, refl, subst, sym, ap, ◌∙◌, arith}
use Rattle.game_rules.specs.declared.men.Man.{Man}
use Rattle.game_rules.specs.declared.men.Square.{Square}
use Rattle.game_rules.specs.declared.men.Place.{Place}
use Rattle.game_rules.specs.declared.men.Place.TheVariants.{Gone, At}
use Rattle.game_rules.specs.Game.{Position, StandsOn, place_square}
use Rattle.game_laws.proofs.LineLemmas.{square_is}
use Rattle.game_laws.proofs.CheckLemmas.{any_is}
use Rattle.lin_formula.specs.Tree.{Tree}
use Rattle.lin_formula.specs.Holds.{Holds, Sets}
use Rattle.track_word.specs.Tracks.{Values}
use Rattle.rule_formula.specs.declared.seats.Seat.{Seat}
use Rattle.game_laws.specs.Stock.{stock_man}
use Rattle.rule_formula.specs.Seats.{at, own, squares}
use Rattle.rule_formula.specs.Trees.{and_maybe, man_square, point_of, point_to, with_square}
use Rattle.rule_formula.specs.Meaning.{HasLiveMan, PointHolds}
use Rattle.rule_formula.proofs.BearLemmas.{stock_number}
use Rattle.rule_formula.proofs.ChainLemmas.{Each, each_more}
use Rattle.game_laws.proofs.StockLemmas.{stock_man-men}
use Rattle.lin_formula.specs.Tree as tree

abbrev pub MaybeHolds : Option Tree → Sets → Values → Type 0
MaybeHolds None e v = Unit {0}
MaybeHolds (Some f) e v = Holds f e v

and_maybe_holds : (o : Option Tree) (g : Tree) (e : Sets) (v : Values) → Holds (and_maybe o g) e v ↔ (MaybeHolds o e v × Holds g e v)
and_maybe_holds None g e v = (λ h. (tt, h), λ h. h.1)
and_maybe_holds (Some f) g e v = (λ h. (h.0, h.1), λ h. (h.0, h.1))

with_square_holds : (o : Option Tree) (s : Seat) (x : Option Square) (e : Sets) (v : Values)
    → MaybeHolds (with_square o s x) e v ↔ (MaybeHolds o e v × ((z : Square) → x ≡ Some z → at v s ≡ z))
with_square_holds o s None e v = (λ h. (h, λ z is. absurd (cc)), λ h. h.0)
with_square_holds o s (Some y) e v =
    let first = and_maybe_holds o (tree.Value s.x y.x) e v in (
      λ h.
          let w = first.0 h.0 in
          (w.0, λ z is. let same : y ≡ z = cc in square_is (at v s) y.x y.y w.1 h.1 ∙ same),
      λ h.
          let here : at v s ≡ y = h.1 y refl in
          (first.1 (h.0, ap (λ (z : Square). z.x) here), ap (λ (z : Square). z.y) here),
    )

point_to_holds : (men : List Man) (n : ℕ) (e : Sets) (v : Values)
    → MaybeHolds (point_to men n) e v ↔ Each (λ k. (z : Square) → man_square (stock_man men k) ≡ Some z → squares v k ≡ z) n
point_to_holds men zero e v = (λ h k low high. absurd (omega arith), λ h. tt)
point_to_holds men (suc n) e v =
    let before = point_to_holds men n e v in
    let step = with_square_holds (point_to men n) (own (suc n)) (man_square (stock_man men (suc n))) e v in
    let more = each_more (λ k. (z : Square) → man_square (stock_man men k) ≡ Some z → squares v k ≡ z) n in (
      λ h. let w = step.0 h in more.1 (before.0 w.0, w.1),
      λ h. let w = more.0 h in step.1 (before.1 w.0, w.1),
    )

pub from_square : (x : Option Man) (z : Square) → man_square x ≡ Some z → (m : Man) × (x ≡ Some m) × StandsOn m z
from_square None z h = absurd (cc)
from_square (Some m) z h = (m, refl, h)

-- the formula is that of the places
pub point_means : (men : List Man) (t : Tree) → point_to men (length men) ≡ Some t → (e : Sets) → PointHolds e men t
point_means men t is e v =
    let all = point_to_holds men (length men) e v in (
      λ h k m z is_m stands.
          let at = stock_number men k m is_m in
          all.0 (subst (λ o. MaybeHolds o e v) (sym is) h) k at.low at.high z (ap man_square is_m ∙ stands),
      λ h.
          subst (λ o. MaybeHolds o e v) is
          (all.1 (λ k low high z there. let (m, is_m, stands) = from_square (stock_man men k) z there in h k m z is_m stands)),
    )

place_some : (q : Place) → q ≢ Gone → place_square q ≡ None → ⊥
place_some Gone live e = live refl
place_some (At x y) live e = cc

none_with : (o : Option Tree) (s : Seat) (x : Option Square) → with_square o s x ≡ None → (o ≡ None) × (x ≡ None)
none_with o s None e = (e, refl)
none_with o s (Some z) e = absurd (cc)

none_before : (men : List Man) (n : ℕ) → point_to men n ≡ None → Each (λ k. man_square (stock_man men k) ≡ None) n
none_before men zero e k low high = absurd (omega (arith, low, high))
none_before men (suc n) e k low high =
    let w = none_with (point_to men n) (own (suc n)) (man_square (stock_man men (suc n))) e in
    (each_more (λ k. man_square (stock_man men k) ≡ None) n).1 (none_before men n w.0, w.1) k low high

-- where a man is live there is a formula
pub point_made : (p : Position) → HasLiveMan p → point_of p.men ≡ None → ⊥
point_made p h none =
    let (k, m, is, live) = any_is p (λ m. m.place ≢ Gone) h in
    let in_stock : stock_man p.men k ≡ Some m = stock_man-men p k ∙ is in
    let at = stock_number p.men k m in_stock in
    let gone : man_square (stock_man p.men k) ≡ None = none_before p.men (length p.men) none k at.low at.high in
    place_some m.place live (sym (ap man_square in_stock) ∙ gone)
