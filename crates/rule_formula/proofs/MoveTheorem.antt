-- The formulas image and pre say that a step by an option leads from one position to another.
use Rattle.std.proofs.Common.{◌≡◌, ◌≢◌, ◌↔◌, ℕ, zero, suc, ◌<◌, ◌≤◌, pos, Bool, true, List, length, Some, inl, inr, refl, subst, sym, ap, ◌∙◌, arith}
use Rattle.std.specs.Prelude.{◌==◌, if◌then◌else◌}
use Rattle.std.proofs.lemmas.Bool.Decides.{nat_tests}
use Rattle.game_rules.specs.declared.men.Man.{Man}
use Rattle.game_rules.specs.declared.men.Square.{Square}
use Rattle.game_rules.specs.Game.{IsApart, other}
use Rattle.lin_formula.specs.Tree.{Tree}
use Rattle.lin_formula.specs.Holds.{Holds, Sets}
use Rattle.track_word.specs.Tracks.{Values}
use Rattle.game_rules.specs.declared.men.Ray.{Ray}
use Rattle.rule_formula.specs.Placed.{HoldsApart, IsMember, is_live, placed, without}
use Rattle.game_laws.specs.Stock.{stock_man}
use Rattle.rule_formula.specs.Seats.{at, elsewhere, new_seat, new_seats, old_seats, own, spare, squares, vars_to}
use Rattle.rule_formula.specs.Trees.{ex_swept, image_body, image_tree, pre_body, pre_tree}
use Rattle.rule_formula.specs.Meaning.{IsOption, StepsBy}
use Rattle.rule_formula.proofs.BearLemmas.{IsNumber, stock_number}
use Rattle.game_laws.proofs.StockLemmas.{stock_has}
use Rattle.rule_formula.proofs.FormulaLemmas.{GoesClear, among_holds, move_chain_holds}
use Rattle.rule_formula.proofs.KindLemmas.{IsRayOf, ray_is}
use Rattle.rule_formula.proofs.MoveLemmas.{EachOther, IsMove, move_of, option_untaken, same_number, steps_by, was_live}
use Rattle.rule_formula.proofs.RayLemmas.{IsWithin}
use Rattle.rule_formula.proofs.SweptLemmas.{along_x, along_y, ex_swept_holds, from_spare, new_suits, own_kept, placed_same, spare_is, swept_value, swept_values}
use Rattle.lin_formula.specs.Tree as tree

pub if_same : {A : Type 0} (k i : ℕ) (a b : A) → k ≡ i → (if k == i then a else b) ≡ a
if_same k i a b e = grind (arith, nat_tests)

pub if_other : {A : Type 0} (k i : ℕ) (a b : A) → k ≢ i → (if k == i then a else b) ≡ b
if_other k i a b ne = grind (arith, nat_tests)

old_mover : (r : Ray) (i t : ℕ) → old_seats r i t i ≡ spare r i
old_mover r i t = if_same i i (spare r i) (if i == t then own i else own i) refl

old_taken : (r : Ray) (i t : ℕ) → t ≢ i → old_seats r i t t ≡ own i
old_taken r i t ne = if_other t i (spare r i) (if t == t then own i else own t) ne ∙ if_same t t (own i) (own t) refl

old_other : (r : Ray) (i t k : ℕ) → k ≢ i → k ≢ t → old_seats r i t k ≡ own k
old_other r i t k first second = if_other k i (spare r i) (if k == t then own i else own k) first ∙ if_other k t (own i) (own k) second

new_other : (r : Ray) (i t k : ℕ) → k ≢ i → k ≢ t → new_seats r i t k ≡ own k
new_other r i t k first second = if_other k i (new_seat r i t) (if k == t then new_seat r i t else own k) first ∙ if_other k t (new_seat r i t) (own k) second

old_squares : (r : Ray) (i t k : ℕ) (w : Values) (z : Square) → (k ≡ i → z ≡ at w (spare r i))
    → (k ≢ i → k ≡ t → z ≡ at w (own i)) → (k ≢ i → k ≢ t → z ≡ at w (own k)) → z ≡ at w (old_seats r i t k)
old_squares r i t k w z mover taken others =
    elim (same_number k i) [
      | inl e ↦ mover e ∙ ap (at w) (sym (if_same k i (spare r i) (if k == t then own i else own k) e))
      | inr first ↦ elim (same_number k t) [
        | inl e ↦ taken first e ∙ ap (at w) (sym (if_other k i (spare r i) (if k == t then own i else own k) first ∙ if_same k t (own i) (own k) e))
        | inr second ↦ others first second ∙ ap (at w) (sym (old_other r i t k first second))
      ]
    ]

new_squares : (r : Ray) (i t k : ℕ) (w : Values) (z : Square) → (k ≡ i → z ≡ at w (new_seat r i t))
    → (k ≢ i → k ≢ t → z ≡ at w (own k)) → k ≢ t → z ≡ at w (new_seats r i t k)
new_squares r i t k w z mover others second =
    elim (same_number k i) [
      | inl e ↦ mover e ∙ ap (at w) (sym (if_same k i (new_seat r i t) (if k == t then new_seat r i t else own k) e))
      | inr first ↦ others first second ∙ ap (at w) (sym (new_other r i t k first second))
    ]

-- a move from the parts of the formula
move_from : (stock : List Man) (live : ℕ → Bool) (i : ℕ) (r : Ray) (t : ℕ) (f g h : ℕ → Square) (a b : Square) → f i ≡ a → g i ≡ b
    → GoesClear stock live i t r h a b → EachOther stock live i t (λ k. f k ≡ h k) → EachOther stock live i t (λ k. g k ≡ h k) → (0 < t → f t ≡ g i)
    → IsMove stock live i r t f g
move_from stock live i r t f g h a b from to goes before after taken =
    let there : GoesClear stock live i t r h (f i) (g i) = subst (λ y. GoesClear stock live i t r h y (g i)) (sym from) (subst (GoesClear stock live i t r h a) (sym to) goes) in
    record {
      along = there.0;
      clear = λ k m is on first second within. there.1 k m is on first second (subst (λ z. IsWithin r (f i) z (suc there.0.distance)) (before k m is on first second) within);
      stay = λ k m is on first second. before k m is on first second ∙ sym (after k m is on first second);
      taken = taken;
    }

-- and back
parts_of : (stock : List Man) (live : ℕ → Bool) (i : ℕ) (r : Ray) (t : ℕ) (f g h : ℕ → Square) (a b : Square) → f i ≡ a → g i ≡ b
    → EachOther stock live i t (λ k. f k ≡ h k) → IsMove stock live i r t f g → GoesClear stock live i t r h a b
parts_of stock live i r t f g h a b from to before w =
    subst (λ y. GoesClear stock live i t r h y b) from
    (subst (GoesClear stock live i t r h (f i)) to (
      w.along,
      λ k m is on first second within. w.clear k m is on first second (subst (λ z. IsWithin r (f i) z (suc w.along.distance)) (sym (before k m is on first second)) within),
    ))

ray_of_option : {stock : List Man} {mask i n t : ℕ} {man : Man} {r : Ray} → IsOption stock mask i n t man r → IsRayOf man.side man.kind n r
ray_of_option {n} {man} {r} o = ray_is man.side man.kind n r o.ray

-- image holds of the positions to which a step by the option leads from a position of the set
pub image_holds : {stock : List Man} {mask i n t : ℕ} {man : Man} {r : Ray} → length stock ≤ 8 → IsOption stock mask i n t man r
    → (s : ℕ) (e : Sets) (v : Values) → HoldsApart e s stock (is_live mask) man.side
    → Holds (image_tree (length stock) mask i r t s) e v
    ↔ ((f : ℕ → Square) × IsMember e s (placed stock (is_live mask) man.side f)
    × StepsBy i r t (placed stock (is_live mask) man.side f) (placed stock (without (is_live mask) t) (other man.side) (squares v)))
image_holds {stock} {mask} {i} {n} {t} {man} {r} short o s e v apart =
    let live : ℕ → Bool = is_live mask in
    let ray : IsRayOf man.side man.kind n r = ray_of_option o in
    let number : IsNumber stock i = stock_number stock i man o.is_man in
    let low : 0 < i = number.low in
    let high : i ≤ 8 = omega (arith, number.high) in
    let untaken : i ≢ t = option_untaken o in
    let chain = λ (w : Values). move_chain_holds stock man live i t ray.fair (tree.Among s (vars_to (old_seats r i t) live (length stock))) (from_spare r i low high) e w in
    let among = λ (w : Values). among_holds stock live man.side (old_seats r i t) s e w in
    let outer = ex_swept_holds r.dx elsewhere.x (ex_swept r.dy elsewhere.y (image_body (length stock) mask i r t s)) e v in
    let inner = λ (u : Values). ex_swept_holds r.dy elsewhere.y (image_body (length stock) mask i r t s) e u in
    let kept : (z : Square) (k : ℕ) (m : Man) → stock_man stock k ≡ Some m → at (swept_values r v z) (own k) ≡ squares v k = λ z k m is.
    let at_k : IsNumber stock k = stock_number stock k m is in own_kept r v z k at_k.low (omega (arith, at_k.high))
    in (
      λ h.
          let (x, first) = outer.0 h in
          let (y, body) = (inner (swept_value r.dx v elsewhere.x x)).0 first in
          let z : Square = record { x = x; y = y } in
          let w : Values = swept_values r v z in
          let parts = (chain w).0 body in
          let f : ℕ → Square = λ k. at w (old_seats r i t k) in
          let member : IsMember e s (placed stock live man.side f) = subst (λ (P : Type 0). P) (among w) parts.0 in
          let move : IsMove stock live i r t f (squares v) = move_from stock live i r t f (squares v) (λ k. at w (own k)) (at w (spare r i)) (at w (own i))
          (ap (at w) (old_mover r i t)) (sym (kept z i man o.is_man)) parts.1
          (λ k m is on first second. ap (at w) (old_other r i t k first second))
          (λ k m is on first second. sym (kept z k m is))
          (λ some. ap (at w) (old_taken r i t (λ e. untaken (sym e))) ∙ kept z i man o.is_man)
          in
          (f, member, steps_by o move),
      λ (f, member, steps).
          let move : IsMove stock live i r t f (squares v) = move_of o f (squares v) (apart f member) steps in
          let z : Square = f i in
          let w : Values = swept_values r v z in
          let from : at w (spare r i) ≡ f i = spare_is r v i z low high (along_x move.along) (along_y move.along) in
          let same : (k : ℕ) → 0 < k → k ≤ length stock → live k ≡ true → f k ≡ at w (old_seats r i t k) = λ k some last on.
          let (m, is) = stock_has stock k some last in
          old_squares r i t k w (f k)
          (λ e. ap f e ∙ sym from)
          (λ first e. ap f e ∙ move.taken (subst (λ j. 0 < j) e some) ∙ sym (kept z i man o.is_man))
          (λ first second. move.stay k m is on first second ∙ sym (kept z k m is))
          in
          let here : IsMember e s (placed stock live man.side (λ k. at w (old_seats r i t k))) =
          subst (IsMember e s) (placed_same stock live man.side f (λ k. at w (old_seats r i t k)) same) member in
          let goes = parts_of stock live i r t f (squares v) (λ k. at w (own k)) (at w (spare r i)) (at w (own i)) (sym from) (sym (kept z i man o.is_man))
          (λ k m is on first second. move.stay k m is on first second ∙ sym (kept z k m is)) move
          in
          outer.1 (z.x, (inner (swept_value r.dx v elsewhere.x z.x)).1 (z.y, (chain w).1 (subst (λ (P : Type 0). P) (sym (among w)) here, goes))),
    )

-- the values of the formula pre: those of the new place are quantified where nobody is taken
abbrev pre_values : Ray → ℕ → Values → Square → Values
pre_values r zero v z = swept_values r v z
pre_values r (suc t) v z = v

pre_tree_holds : (n mask i : ℕ) (r : Ray) (t : ℕ) (s q : ℕ) (e : Sets) (v : Values)
    → Holds (pre_tree n mask i r t s q) e v ↔ ((z : Square) × Holds (pre_body n mask i r t s q) e (pre_values r t v z))
pre_tree_holds n mask i r zero s q e v =
    let outer = ex_swept_holds r.dx elsewhere.x (ex_swept r.dy elsewhere.y (pre_body n mask i r 0 s q)) e v in
    let inner = λ (u : Values). ex_swept_holds r.dy elsewhere.y (pre_body n mask i r 0 s q) e u in (
      λ h.
          let (x, first) = outer.0 h in
          let (y, body) = (inner (swept_value r.dx v elsewhere.x x)).0 first in
          (record { x = x; y = y }, body),
      λ (z, body). outer.1 (z.x, (inner (swept_value r.dx v elsewhere.x z.x)).1 (z.y, body)),
    )
pre_tree_holds n mask i r (suc t) s q e v = (λ h. (record { x = pos 0; y = pos 0 }, h), λ h. h.1)

pre_kept : (r : Ray) (t : ℕ) (v : Values) (z : Square) (k : ℕ) → 0 < k → k ≤ 8 → at (pre_values r t v z) (own k) ≡ squares v k
pre_kept r zero v z k low high = own_kept r v z k low high
pre_kept r (suc t) v z k low high = refl

-- where the new place is, for the values of its square
new_place : (r : Ray) (i t : ℕ) (v : Values) (z : Square) → 0 < i → i ≤ 8 → (r.dx ≡ pos 0 → z.x ≡ (squares v i).x)
    → (r.dy ≡ pos 0 → z.y ≡ (squares v i).y) → (0 < t → squares v t ≡ z) → at (pre_values r t v z) (new_seat r i t) ≡ z
new_place r i zero v z low high across along taken = spare_is r v i z low high (λ e. sym (across e)) (λ e. sym (along e))
new_place r i (suc t) v z low high across along taken = taken (omega arith)

own_there : (r : Ray) (t : ℕ) (v : Values) (z : Square) → 0 < t → (i : ℕ) → at (pre_values r t v z) (new_seat r i t) ≡ squares v t
own_there r zero v z low i = absurd (omega arith)
own_there r (suc t) v z low i = refl

-- pre holds of the positions of the set from which a step by the option leads into the other set
pub pre_holds : {stock : List Man} {mask i n t : ℕ} {man : Man} {r : Ray} → length stock ≤ 8 → IsOption stock mask i n t man r
    → (s q : ℕ) (e : Sets) (v : Values)
    → (IsMember e s (placed stock (is_live mask) man.side (squares v)) → IsApart (placed stock (is_live mask) man.side (squares v)))
    → Holds (pre_tree (length stock) mask i r t s q) e v
    ↔ (IsMember e s (placed stock (is_live mask) man.side (squares v))
    × ((g : ℕ → Square) × IsMember e q (placed stock (without (is_live mask) t) (other man.side) g)
    × StepsBy i r t (placed stock (is_live mask) man.side (squares v)) (placed stock (without (is_live mask) t) (other man.side) g)))
pre_holds {stock} {mask} {i} {n} {t} {man} {r} short o s q e v apart =
    let live : ℕ → Bool = is_live mask in
    let ray : IsRayOf man.side man.kind n r = ray_of_option o in
    let number : IsNumber stock i = stock_number stock i man o.is_man in
    let low : 0 < i = number.low in
    let high : i ≤ 8 = omega (arith, number.high) in
    let untaken : i ≢ t = option_untaken o in
    let sets : Tree = tree.And (tree.Among s (vars_to own live (length stock))) (tree.Among q (vars_to (new_seats r i t) (without live t) (length stock))) in
    let chain = λ (w : Values). move_chain_holds stock man live i t ray.fair sets (new_suits r i t low high untaken) e w in
    let source = λ (w : Values). among_holds stock live man.side own s e w in
    let target = λ (w : Values). among_holds stock (without live t) (other man.side) (new_seats r i t) q e w in
    let whole = pre_tree_holds (length stock) mask i r t s q e v in
    let kept : (z : Square) (k : ℕ) (m : Man) → stock_man stock k ≡ Some m → at (pre_values r t v z) (own k) ≡ squares v k = λ z k m is.
    let at_k : IsNumber stock k = stock_number stock k m is in pre_kept r t v z k at_k.low (omega (arith, at_k.high))
    in
    let here : (z : Square) → placed stock live man.side (λ k. at (pre_values r t v z) (own k)) ≡ placed stock live man.side (squares v) = λ z.
    placed_same stock live man.side (λ k. at (pre_values r t v z) (own k)) (squares v) (λ k some last on. pre_kept r t v z k some (omega arith))
    in (
      λ h.
          let (z, body) = whole.0 h in
          let w : Values = pre_values r t v z in
          let parts = (chain w).0 body in
          let g : ℕ → Square = λ k. at w (new_seats r i t k) in
          let member : IsMember e s (placed stock live man.side (squares v)) = subst (IsMember e s) (here z) (subst (λ (P : Type 0). P) (source w) parts.0.0) in
          let there : IsMember e q (placed stock (without live t) (other man.side) g) = subst (λ (P : Type 0). P) (target w) parts.0.1 in
          let to : g i ≡ at w (new_seat r i t) = ap (at w) (if_same i i (new_seat r i t) (if i == t then new_seat r i t else own i) refl) in
          let move : IsMove stock live i r t (squares v) g = move_from stock live i r t (squares v) g (λ k. at w (own k)) (at w (own i)) (at w (new_seat r i t))
          (sym (kept z i man o.is_man)) to parts.1
          (λ k m is on first second. sym (kept z k m is))
          (λ k m is on first second. ap (at w) (new_other r i t k first second))
          (λ some. sym (own_there r t v z some i) ∙ sym to)
          in
          (member, (g, there, steps_by o move)),
      λ (member, (g, there, steps)).
          let move : IsMove stock live i r t (squares v) g = move_of o (squares v) g (apart member) steps in
          let z : Square = g i in
          let w : Values = pre_values r t v z in
          let to : at w (new_seat r i t) ≡ g i = new_place r i t v z low high (along_x move.along) (along_y move.along) move.taken in
          let same : (k : ℕ) → 0 < k → k ≤ length stock → without live t k ≡ true → g k ≡ at w (new_seats r i t k) = λ k some last on.
          let (m, is) = stock_has stock k some last in
          let (alive, second) = was_live (live k) k t on in
          new_squares r i t k w (g k)
          (λ e. ap g e ∙ sym to)
          (λ first untaken. sym (move.stay k m is alive first untaken) ∙ sym (kept z k m is))
          second
          in
          let reached : IsMember e q (placed stock (without live t) (other man.side) (λ k. at w (new_seats r i t k))) =
          subst (IsMember e q) (placed_same stock (without live t) (other man.side) g (λ k. at w (new_seats r i t k)) same) there in
          let goes = parts_of stock live i r t (squares v) g (λ k. at w (own k)) (at w (own i)) (at w (new_seat r i t)) (sym (kept z i man o.is_man)) (sym to)
          (λ k m is on first second. sym (kept z k m is)) move
          in
          whole.1 (z, (chain w).1 ((subst (λ (P : Type 0). P) (sym (source w)) (subst (IsMember e s) (sym (here z)) member), subst (λ (P : Type 0). P) (sym (target w)) reached), goes)),
    )
