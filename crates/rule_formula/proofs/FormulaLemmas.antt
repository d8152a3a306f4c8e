-- What the parts of the formulas say.
use Rattle.std.proofs.Common.{◌≡◌, ◌≢◌, ◌↔◌, ℕ, zero, suc, ◌<◌, ◌≤◌, ℤ, Bool, true, false, ◌&&◌, not, IsTrue, List, [], ◌∷◌, ◌++◌, map, length, Some, refl, sym, ap, ◌∙◌, arith}
use Rattle.std.specs.Prelude.{◌==◌, if◌then◌else◌}
use Rattle.std.proofs.lemmas.Grind.{common_steps}
use Rattle.std.proofs.lemmas.Bool.Decides.{nat_tests}
use Rattle.game_rules.specs.declared.men.Side.{Side}
use Rattle.game_rules.specs.declared.men.Man.{Man}
use Rattle.game_rules.specs.declared.men.Square.{Square}
use Rattle.game_rules.specs.Game.{man_at}
use Rattle.track_word.specs.declared.tracks.Var.{Var}
use Rattle.lin_formula.specs.Tree.{Tree}
use Rattle.lin_formula.specs.Holds.{Holds, Sets}
use Rattle.track_word.specs.Tracks.{Values}
use Rattle.game_rules.specs.declared.men.Ray.{Ray}
use Rattle.rule_formula.specs.declared.atoms.Extent.TheVariants.{Onto, Before}
use Rattle.rule_formula.specs.declared.seats.Seat.{Seat}
use Rattle.rule_formula.proofs.RayLemmas.{LiesOn, IsFair, IsWithin, between_holds, on_holds, ray_atoms_hold}
use Rattle.rule_formula.specs.Placed.{IsMember, men_from, place_at, placed}
use Rattle.mask_sets.specs.Tuple.{man_coordinates, tuple_to}
use Rattle.rule_formula.specs.Seats.{at, own, squares, vars_to}
use Rattle.rule_formula.specs.Trees.{Suits, and_all, clear, clear_as, is_other, on, ray_atoms}
use Rattle.rule_formula.proofs.ChainLemmas.{Each, and_all_holds, clear_holds}
use Rattle.rule_formula.proofs.BearLemmas.{man_placed, stock_number}
use Rattle.game_laws.proofs.StockLemmas.{stock_has}
use Rattle.rule_formula.proofs.MoveLemmas.{EachOther}
use Rattle.rule_formula.proofs.PlacedLemmas.{length_placed, placed_man}
use Rattle.lin_formula.specs.Tree as tree

map_on : (v : Values) (xs ys : List Var) → map (λ x. v x.0) (xs ++ ys) ≡ map (λ x. v x.0) xs ++ map (λ x. v x.0) ys
map_on v xs ys = grind (arith, common_steps)

no_more : (xs : List ℤ) → xs ≡ xs ++ []
no_more xs = grind (arith, common_steps)

-- one man more
tuple_more : (b : Bool) (v : Values) (xs : List Var) (s : Seat) (m : Man)
    → map (λ x. v x.0) (if b then xs ++ s.x ∷ s.y ∷ [] else xs) ≡ map (λ x. v x.0) xs
    ++ man_coordinates (Some (record m { place = place_at b (at v s) }))
tuple_more true v xs s m = map_on v xs (s.x ∷ s.y ∷ [])
tuple_more false v xs s m = no_more (map (λ x. v x.0) xs)

pub tuple_is : (stock : List Man) (live : ℕ → Bool) (turn : Side) (seats : ℕ → Seat) (v : Values) (n : ℕ) → n ≤ length stock
    → map (λ x. v x.0) (vars_to seats live n) ≡ tuple_to (placed stock live turn (λ k. at v (seats k))) n
tuple_is stock live turn seats v zero high = refl
tuple_is stock live turn seats v (suc n) high =
    let (m, is) = stock_has stock (suc n) (omega arith) high in
    let there : man_at (placed stock live turn (λ k. at v (seats k))) (suc n) ≡ Some (man_placed live (λ k. at v (seats k)) (suc n) m) =
    placed_man stock live turn (λ k. at v (seats k)) (suc n) m is in
    tuple_more (live (suc n)) v (vars_to seats live n) (seats (suc n)) m
    ∙ ap (λ xs. xs ++ man_coordinates (Some (man_placed live (λ k. at v (seats k)) (suc n) m))) (tuple_is stock live turn seats v n (omega arith))
    ∙ ap (λ o. tuple_to (placed stock live turn (λ k. at v (seats k))) n ++ man_coordinates o) (sym there)

-- the tuple of the variables is in the set exactly where the position is
pub among_holds : (stock : List Man) (live : ℕ → Bool) (turn : Side) (seats : ℕ → Seat) (s : ℕ) (e : Sets) (v : Values)
    → Holds (tree.Among s (vars_to seats live (length stock))) e v ≡ IsMember e s (placed stock live turn (λ k. at v (seats k)))
among_holds stock live turn seats s e v =
    let n : length (men_from 1 stock live (λ k. at v (seats k))) ≡ length stock = length_placed 1 stock live (λ k. at v (seats k)) in
    ap (e s)
    (tuple_is stock live turn seats v (length stock) (omega arith) ∙ ap (tuple_to (placed stock live turn (λ k. at v (seats k)))) (sym n))

other_is : (b : Bool) (i j k : ℕ) → IsTrue (b && (not (k == i) && not (k == j))) ↔ ((b ≡ true) × (k ≢ i) × (k ≢ j))
other_is true i j k = (λ h. (refl, grind (arith, nat_tests), grind (arith, nat_tests)), λ h. let a : k ≢ i = h.1 in let b : k ≢ j = h.2 in grind (arith, nat_tests))
other_is false i j k = (λ h. absurd (cc), λ h. absurd (cc))

-- by number or by man
pub each_other : (stock : List Man) (live : ℕ → Bool) (i j : ℕ) (P : ℕ → Type 0) → (d : Man)
    → Each (λ k. IsTrue (is_other live i j k) → P k) (length stock) ↔ EachOther stock live i j P
each_other stock live i j P d = (
  λ h k m is on first second.
      let at = stock_number stock k m is in h k at.low at.high ((other_is (live k) i j k).1 (on, first, second)),
  λ h k low high yes.
      let o = (other_is (live k) i j k).0 yes in
      let (m, is) = stock_has stock k low high in
      h k m is o.0 o.1 o.2,
)

-- from a he goes along the ray to b, and no other man stands on the way
abbrev pub GoesClear : List Man → (ℕ → Bool) → ℕ → ℕ → Ray → (ℕ → Square) → Square → Square → Type 0
GoesClear stock live i t r h a b =
    (along : LiesOn r a b) × EachOther stock live i t (λ k. IsWithin r a (h k) (suc along.distance) → ⊥)

pub move_chain_holds : (stock : List Man) (d : Man) (live : ℕ → Bool) (i t : ℕ) {r : Ray} → IsFair r → (f : Tree) {a b : Seat} → Suits r a b
    → (e : Sets) (v : Values)
    → Holds (clear (and_all f (ray_atoms r a b)) (λ k. on r a b Onto (own k)) live i t (length stock)) e v
    ↔ (Holds f e v × GoesClear stock live i t r (λ k. at v (own k)) (at v a) (at v b))
move_chain_holds stock d live i t {r} fair f {a} {b} suits e v =
    let n : ℕ = length stock in
    let chain = clear_holds (and_all f (ray_atoms r a b)) (λ k. on r a b Onto (own k)) live i t n e v in
    let all = and_all_holds f (ray_atoms r a b) e v in
    let ray = ray_atoms_hold fair suits e v in
    let each = each_other stock live i t (λ k. ¬ Holds (on r a b Onto (own k)) e v) d in (
      λ h.
          let c = chain.0 h in
          let w = all.0 c.0 in
          let along : LiesOn r (at v a) (at v b) = ray.0 w.1 in
          (w.0, (along, λ k m is on first second within. each.0 c.1 k m is on first second ((on_holds fair a b (own k) e v along).1 within))),
      λ h.
          chain.1 (
            all.1 (h.0, ray.1 h.1.0),
            each.1 (λ k m is on first second hit. h.1.1 k m is on first second ((on_holds fair a b (own k) e v h.1.0).0 hit)),
          ),
    )

pub own_apart : (k g : ℕ) (r : Ray) → 0 < k → 0 < g → k ≢ g → Suits r (own k) (own g)
own_apart k g r low first ne = record { across = λ e. absurd (ne (omega (arith, e))); along = λ e. absurd (ne (omega (arith, e))) }

clear_as_holds : (b : Bool) (f : Tree) (hit : ℕ → Tree) (live : ℕ → Bool) (i j n : ℕ) (e : Sets) (v : Values)
    → Holds (clear_as b f hit live i j n) e v ↔ (Holds f e v × (b ≡ true → Each (λ k. IsTrue (is_other live i j k) → ¬ Holds (hit k) e v) n))
clear_as_holds true f hit live i j n e v =
    let c = clear_holds f hit live i j n e v in (λ h. let w = c.0 h in (w.0, λ yes. w.1), λ h. c.1 (h.0, h.1 refl))
clear_as_holds false f hit live i j n e v = (λ h. (h, λ yes. absurd (cc)), λ h. h.0)

-- he stands on the ray to b, and where it is far nobody is in between
abbrev pub SeesAlong : List Man → (ℕ → Bool) → ℕ → ℕ → Ray → (ℕ → Square) → Type 0
SeesAlong stock live k g r f =
    (along : LiesOn r (f k) (f g)) × (r.far ≡ true → EachOther stock live k g (λ l. IsWithin r (f k) (f l) along.distance → ⊥))

pub bear_chain_holds : (stock : List Man) (d : Man) (live : ℕ → Bool) (k g : ℕ) {r : Ray} → IsFair r → (f : Tree) → Suits r (own k) (own g)
    → (e : Sets) (v : Values)
    → Holds (clear_as r.far (and_all f (ray_atoms r (own k) (own g))) (λ l. on r (own k) (own g) Before (own l)) live k g (length stock)) e v
    ↔ (Holds f e v × SeesAlong stock live k g r (squares v))
bear_chain_holds stock d live k g {r} fair f suits e v =
    let chain = clear_as_holds r.far (and_all f (ray_atoms r (own k) (own g))) (λ l. on r (own k) (own g) Before (own l)) live k g (length stock) e v in
    let all = and_all_holds f (ray_atoms r (own k) (own g)) e v in
    let ray = ray_atoms_hold fair suits e v in
    let each = each_other stock live k g (λ l. ¬ Holds (on r (own k) (own g) Before (own l)) e v) d in (
      λ h.
          let c = chain.0 h in
          let w = all.0 c.0 in
          let along : LiesOn r (squares v k) (squares v g) = ray.0 w.1 in
          (w.0, (along, λ is_far l m is on first second within. each.0 (c.1 is_far) l m is on first second ((between_holds fair is_far (own k) (own g) (own l) e v along).1 within))),
      λ h.
          chain.1 (
            all.1 (h.0, ray.1 h.1.0),
            λ is_far. each.1 (λ l m is on first second hit. h.1.1 is_far l m is on first second ((between_holds fair is_far (own k) (own g) (own l) e v h.1.0).0 hit)),
          ),
    )
