-- What a line of the formula of a ray says.
use Rattle.std.proofs.Common.{◌≡◌, ◌≢◌, ◌↔◌, ◌⊎◌, ℕ, zero, suc, ◌+◌, ◌<◌, ◌≤◌, ℤ, pos, negsuc, neg_ℤ, unsigned_abs, ◌+ℤ◌, ◌*ℤ◌, ◌≤ℤ◌, Bool, true, false, List, [], ◌∷◌, length, Option, Some, None, inl, inr, refl, sym, ap, subst, ◌∙◌, arith}
use Rattle.std.specs.Prelude.{if◌then◌else◌, slice_get}
use Rattle.std.proofs.lemmas.Int.{ints}
use Rattle.game_rules.specs.Game.{Position, after_steps, man_at, other}
use Rattle.game_rules.specs.declared.men.Ray.{Ray}
use Rattle.game_rules.specs.declared.men.Square.{Square}
use Rattle.game_laws.proofs.LineLemmas.{each_small}
use Rattle.track_word.specs.declared.tracks.Var.{Var}
use Rattle.track_word.specs.Atom.{sum_of}
use Rattle.track_word.specs.Tracks.{Values}
use Rattle.lin_formula.specs.Tree.{Tree, Or}
use Rattle.lin_formula.specs.Holds.{Holds, Sets, with_value}
use Rattle.mask_sets.specs.Tuple.{tuple_of}
use Rattle.game_laws.proofs.StockLemmas.{stock_man-men}
use Rattle.rule_formula.specs.Placed.{is_live, placed, without}
use Rattle.rule_formula.specs.Seats.{own, squares}
use Rattle.rule_formula.specs.Trees.{and_all, man_square, own_tree}
use Rattle.rule_formula.proofs.AfterTheorem.{moved, moved_other, moved_same}
use Rattle.rule_formula.proofs.ChainLemmas.{and_all_holds}
use Rattle.rule_formula.proofs.FormulaLemmas.{among_holds}
use Rattle.rule_formula.proofs.LawTheorem.{square_stands, squares_of}
use Rattle.rule_formula.proofs.MoveLemmas.{kept_live, same_number, was_live}
use Rattle.rule_formula.proofs.PointTheorem.{from_square}
use Rattle.rule_formula.proofs.RayLemmas.{square_at}
use Rattle.rule_formula.proofs.SweptLemmas.{placed_same, value_other, value_same}
use Rattle.first_distances.specs.RayFormula.{gone_along, from_x, from_y, line, or_lines, others_standing, standing, t_var, way_atoms, with_term}
use Rattle.first_distances.proofs.ValueLemmas.{others_other, others_same, own_apart, square_same, with_option, with_others}

-- a man on a square
standing_holds : (k : ℕ) (o : Option Square) (f : Tree) (e : Sets) (v : Values) → 0 < k
    → Holds (standing k o f) e v ↔ Holds f e (with_option v k o)
standing_holds k None f e v low = (λ h. h, λ h. h)
standing_holds k (Some z) f e v low = (
  λ (b, (a, h)).
      let x : a ≡ z.x = sym (value_same (with_value v (own k).y b) (own k).x a (own k).x.0 refl) ∙ h.0.1 in
      let y : b ≡ z.y =
      sym (value_other (with_value v (own k).y b) (own k).x a (own k).y.0 (λ e. own_apart k low (sym e)) ∙ value_same v (own k).y b (own k).y.0 refl) ∙ h.1 in
      subst (λ c. Holds f e (with_value (with_value v (own k).y c) (own k).x z.x)) y
      (subst (λ c. Holds f e (with_value (with_value v (own k).y b) (own k).x c)) x h.0.0),
  λ h.
      let same = square_same v k z low in
      (z.y, (z.x, ((h, ap (λ (c : Square). c.x) same), ap (λ (c : Square). c.y) same))),
)

-- the others where they stand
pub others_hold : (p : Position) (mask i : ℕ) (f : Tree) (n : ℕ) (e : Sets) (v : Values)
    → Holds (others_standing p mask i f n) e v ↔ Holds f e (with_others p mask i v n)
others_hold p mask i f zero e v = (λ h. h, λ h. h)
others_hold p mask i f (suc n) e v = by (without (is_live mask) i (suc n)) (λ w. others_hold p mask i f n e w)
  where
    by : (b : Bool) → ((w : Values) → Holds (others_standing p mask i f n) e w ↔ Holds f e (with_others p mask i w n))
        → Holds (if b then standing (suc n) (man_square (man_at p (suc n))) (others_standing p mask i f n) else others_standing p mask i f n) e v
        ↔ Holds f e (if b then with_others p mask i (with_option v (suc n) (man_square (man_at p (suc n)))) n else with_others p mask i v n)
    by true so_far =
        let o : Option Square = man_square (man_at p (suc n)) in
        let his = standing_holds (suc n) o (others_standing p mask i f n) e v (omega arith) in
        let rest = so_far (with_option v (suc n) o) in
        (λ h. rest.0 (his.0 h), λ h. his.1 (rest.1 h))
    by false so_far = so_far v

-- a coordinate after the distance
gone_means : (x u : Var) (v : Values) (d : ℤ) → unsigned_abs d ≤ 2
    → (sum_of ((pos 1, x) ∷ with_term (neg_ℤ d) t_var ((negsuc 0, u) ∷ [])) v ≡ pos 0) ↔ (v x.0 ≡ v u.0 +ℤ (v 18 *ℤ d))
gone_means x u v d small =
    each_small
    (λ d. (sum_of ((pos 1, x) ∷ with_term (neg_ℤ d) t_var ((negsuc 0, u) ∷ [])) v ≡ pos 0) ↔ (v x.0 ≡ v u.0 +ℤ (v 18 *ℤ d)))
    ((λ h. omega (arith, ints, h)), (λ h. omega (arith, ints, h)))
    ((λ h. omega (arith, ints, h)), (λ h. omega (arith, ints, h)))
    ((λ h. omega (arith, ints, h)), (λ h. omega (arith, ints, h)))
    ((λ h. omega (arith, ints, h)), (λ h. omega (arith, ints, h)))
    ((λ h. omega (arith, ints, h)), (λ h. omega (arith, ints, h))) d small

-- the distance is a number from 1 on
begun_means : (n : ℤ) → ((negsuc 0 *ℤ n) +ℤ pos 0) ≤ℤ negsuc 0 → (k : ℕ) × (1 ≤ k) × (n ≡ pos k)
begun_means (pos k) h = (k, omega (arith, ints, h), refl)
begun_means (negsuc k) h = absurd (omega (arith, ints, h))

means_begun : (n : ℤ) (k : ℕ) → 1 ≤ k → n ≡ pos k → ((negsuc 0 *ℤ n) +ℤ pos 0) ≤ℤ negsuc 0
means_begun n k some e = omega (arith, ints, some, e)

-- values with man i on one square, and another square as that from which he comes
module _ (i : ℕ) (v : Values) (to from : Square) where
  abbrev pub with_gone : Values
  with_gone =
      with_value (with_value (with_value (with_value v (own i).x to.x) (own i).y to.y) from_x from.x) from_y from.y

  abbrev Before : Values
  Before = with_value (with_value v (own i).x to.x) (own i).y to.y

  before_origin : (y : ℕ) → y ≢ 20 → y ≢ 21 → with_gone y ≡ Before y
  before_origin y across along = value_other (with_value Before from_x from.x) from_y from.y y along ∙ value_other Before from_x from.x y across

  pub gone_other : (y : ℕ) → y ≢ (own i).x.0 → y ≢ (own i).y.0 → y ≢ 20 → y ≢ 21 → with_gone y ≡ v y
  gone_other y x_apart y_apart across along =
      before_origin y across along ∙ value_other (with_value v (own i).x to.x) (own i).y to.y y y_apart ∙ value_other v (own i).x to.x y x_apart

  came_x : with_gone 20 ≡ from.x
  came_x = value_other (with_value Before from_x from.x) from_y from.y 20 (λ e. omega (arith, e)) ∙ value_same Before from_x from.x 20 refl

  came_y : with_gone 21 ≡ from.y
  came_y = value_same (with_value Before from_x from.x) from_y from.y 21 refl

  module _ (low : 0 < i) (high : i ≤ 8) where
    gone_x : with_gone (own i).x.0 ≡ to.x
    gone_x =
        before_origin (own i).x.0 (λ e. omega (arith, e, low, high)) (λ e. omega (arith, e, low, high))
        ∙ value_other (with_value v (own i).x to.x) (own i).y to.y (own i).x.0 (own_apart i low) ∙ value_same v (own i).x to.x (own i).x.0 refl

    gone_y : with_gone (own i).y.0 ≡ to.y
    gone_y =
        before_origin (own i).y.0 (λ e. omega (arith, e, low, high)) (λ e. omega (arith, e, low, high))
        ∙ value_same (with_value v (own i).x to.x) (own i).y to.y (own i).y.0 refl

    pub gone_square : squares with_gone i ≡ to
    gone_square = square_at (squares with_gone i) to gone_x gone_y

    gone_t : with_gone 18 ≡ v 18
    gone_t = gone_other 18 (λ e. omega (arith, e, low, high)) (λ e. omega (arith, e, low, high)) (λ e. omega (arith, e)) (λ e. omega (arith, e))

-- a man who has gone along the ray
module _ (i : ℕ) (low : 0 < i) (high : i ≤ 8) (r : Ray) (short_x : unsigned_abs r.dx ≤ 2) (short_y : unsigned_abs r.dy ≤ 2) (a : Square) (f : Tree) (e : Sets) (v : Values) where
  abbrev pub Gone : ℕ → Values
  Gone k = with_gone i v (after_steps a k r.dx r.dy) a

  gone_to : (to from : Square) → Holds (and_all f (way_atoms i r a)) e (with_gone i v to from)
      → (k : ℕ) × (1 ≤ k) × (v 18 ≡ pos k) × Holds f e (Gone k)
  gone_to to from h =
      let w : Values = with_gone i v to from in
      let (holds, (x, (of_x, (y, (of_y, (some, _)))))) = (and_all_holds f (way_atoms i r a) e w).0 h in
      let (k, least, t) = begun_means (w 18) some in
      let here : v 18 ≡ pos k = sym (gone_t i v to from low high) ∙ t in
      let came : from ≡ a = square_at from a (sym (came_x i v to from) ∙ of_x) (sym (came_y i v to from) ∙ of_y) in
      let to_x : to.x ≡ a.x +ℤ (pos k *ℤ r.dx) =
      sym (gone_x i v to from low high) ∙ (gone_means (own i).x from_x w r.dx short_x).0 x
      ∙ ap (λ (n : ℤ). n +ℤ (w 18 *ℤ r.dx)) of_x ∙ ap (λ (n : ℤ). a.x +ℤ (n *ℤ r.dx)) t
      in
      let to_y : to.y ≡ a.y +ℤ (pos k *ℤ r.dy) =
      sym (gone_y i v to from low high) ∙ (gone_means (own i).y from_y w r.dy short_y).0 y
      ∙ ap (λ (n : ℤ). n +ℤ (w 18 *ℤ r.dy)) of_y ∙ ap (λ (n : ℤ). a.y +ℤ (n *ℤ r.dy)) t
      in
      let went : to ≡ after_steps a k r.dx r.dy = square_at to (after_steps a k r.dx r.dy) to_x to_y in
      (k, least, here, subst (λ z. Holds f e (with_gone i v z a)) went (subst (λ z. Holds f e (with_gone i v to z)) came holds))

  pub along_to : Holds (gone_along i r (Some a) f) e v → (k : ℕ) × (1 ≤ k) × (v 18 ≡ pos k) × Holds f e (Gone k)
  along_to (x, (y, (of_x, (of_y, h)))) = gone_to (record { x = x; y = y }) (record { x = of_x; y = of_y }) h

  pub to_along : (k : ℕ) → 1 ≤ k → v 18 ≡ pos k → Holds f e (Gone k) → Holds (gone_along i r (Some a) f) e v
  to_along k some is h =
      let to : Square = after_steps a k r.dx r.dy in
      let w : Values = Gone k in
      let t : w 18 ≡ pos k = gone_t i v to a low high ∙ is in
      let x : w (own i).x.0 ≡ w 20 +ℤ (w 18 *ℤ r.dx) =
      gone_x i v to a low high ∙ sym (ap (λ (n : ℤ). n +ℤ (w 18 *ℤ r.dx)) (came_x i v to a) ∙ ap (λ (n : ℤ). a.x +ℤ (n *ℤ r.dx)) t) in
      let y : w (own i).y.0 ≡ w 21 +ℤ (w 18 *ℤ r.dy) =
      gone_y i v to a low high ∙ sym (ap (λ (n : ℤ). n +ℤ (w 18 *ℤ r.dy)) (came_y i v to a) ∙ ap (λ (n : ℤ). a.y +ℤ (n *ℤ r.dy)) t) in
      let all = (and_all_holds f (way_atoms i r a) e w).1 (
        h,
        (
          (gone_means (own i).x from_x w r.dx short_x).1 x,
          (came_x i v to a, ((gone_means (own i).y from_y w r.dy short_y).1 y, (came_y i v to a, (means_begun (w 18) k some t, tt)))),
        ),
      )
      in
      (to.x, (to.y, (a.x, (a.y, all))))

-- the coordinates of the live men of the mask, those of man i after some steps of the ray from the square
abbrev pub tuple_gone : Position → ℕ → Ray → Square → ℕ → ℕ → List ℤ
tuple_gone p i r a mask k =
    tuple_of (placed p.men (is_live mask) (other p.turn) (moved (squares_of p) i (after_steps a k r.dx r.dy)))

-- each live man of the mask stands in the position
abbrev pub AllStand : Position → ℕ → Type 0
AllStand p mask = (k : ℕ) → is_live mask k ≡ true → 0 < k → k ≤ length p.men → (z : Square) × (man_square (man_at p k) ≡ Some z)

module _ (p : Position) (few : length p.men ≤ 8) (i : ℕ) (low : 0 < i) (high : i ≤ 8) (r : Ray) (short_x : unsigned_abs r.dx ≤ 2) (short_y : unsigned_abs r.dy ≤ 2)
    (a : Square) (is : man_square (man_at p i) ≡ Some a) (mask : ℕ) (stand : AllStand p mask) (number : ℕ) (e : Sets) (v : Values) where
  abbrev Placed : ℕ → Values
  Placed k = with_others p mask i (Gone i low high r short_x short_y a (own_tree (length p.men) mask number) e v k) (length p.men)

  others_differ : (j : ℕ) → without (is_live mask) i j ≡ true → j ≢ i
  others_differ j on = (was_live (is_live mask j) j i on).1

  his_square : (k : ℕ) → squares (Placed k) i ≡ after_steps a k r.dx r.dy
  his_square k =
      let w : Values = Gone i low high r short_x short_y a (own_tree (length p.men) mask number) e v k in
      let x : Placed k (own i).x.0 ≡ w (own i).x.0 = others_other p mask i (length p.men) w (own i).x.0
      (λ j some most on. let ne = others_differ j on in ((λ same. ne (omega (arith, same, some, low))), (λ same. omega (arith, same, some, low)))) in
      let y : Placed k (own i).y.0 ≡ w (own i).y.0 = others_other p mask i (length p.men) w (own i).y.0
      (λ j some most on. let ne = others_differ j on in ((λ same. omega (arith, same, some, low)), (λ same. ne (omega (arith, same, some, low))))) in
      square_at (squares (Placed k) i) (squares w i) x y ∙ gone_square i v (after_steps a k r.dx r.dy) a low high

  squares_are : (k j : ℕ) → 0 < j → j ≤ length p.men → is_live mask j ≡ true
      → squares (Placed k) j ≡ moved (squares_of p) i (after_steps a k r.dx r.dy) j
  squares_are k j some most on =
      let to : Square = after_steps a k r.dx r.dy in
      elim (same_number j i) [
        | inl e ↦ ap (squares (Placed k)) e ∙ his_square k ∙ sym (moved_same (squares_of p) i j to e)
        | inr ne ↦
            let (z, at) = stand j on some most in
            let (m, is_man, stands) = from_square (man_at p j) z at in
            let w : Values = Gone i low high r short_x short_y a (own_tree (length p.men) mask number) e v k in
            others_same p mask i (length p.men) w j z some most (kept_live (is_live mask j) j i on ne) at
            ∙ sym (moved_other (squares_of p) i j to ne ∙ square_stands p j m z (stock_man-men p j ∙ is_man) stands)
      ]

  among_is : (k : ℕ) → Holds (own_tree (length p.men) mask number) e (Placed k) ≡ e number (tuple_gone p i r a mask k)
  among_is k =
      among_holds p.men (is_live mask) (other p.turn) own number e (Placed k)
      ∙ ap (λ (q : Position). e number (tuple_of q))
      (placed_same p.men (is_live mask) (other p.turn) (squares (Placed k)) (moved (squares_of p) i (after_steps a k r.dx r.dy)) (squares_are k))

  abbrev Others : Tree
  Others = others_standing p mask i (own_tree (length p.men) mask number) (length p.men)

  pub line_to : Holds (line p i r mask number) e v → (k : ℕ) × (1 ≤ k) × (v 18 ≡ pos k) × e number (tuple_gone p i r a mask k)
  line_to h =
      let here : Holds (gone_along i r (Some a) Others) e v = subst (λ o. Holds (gone_along i r o Others) e v) is h in
      let (k, some, t, holds) = along_to i low high r short_x short_y a Others e v here in
      let w : Values = with_gone i v (after_steps a k r.dx r.dy) a in
      let all = (others_hold p mask i (own_tree (length p.men) mask number) (length p.men) e w).0 holds in
      (k, some, t, subst (λ P. P) (among_is k) all)

  pub to_line : (k : ℕ) → 1 ≤ k → v 18 ≡ pos k → e number (tuple_gone p i r a mask k) → Holds (line p i r mask number) e v
  to_line k some t h =
      let w : Values = with_gone i v (after_steps a k r.dx r.dy) a in
      let all : Holds (own_tree (length p.men) mask number) e (Placed k) = subst (λ P. P) (sym (among_is k)) h in
      let holds = (others_hold p mask i (own_tree (length p.men) mask number) (length p.men) e w).1 all in
      subst (λ o. Holds (gone_along i r o Others) e v) (sym is) (to_along i low high r short_x short_y a Others e v k some t holds)

-- one of the lines holds
pub lines_hold : (p : Position) (i : ℕ) (r : Ray) (f : Tree) (number : ℕ) (masks : List ℕ) (e : Sets) (v : Values)
    → Holds (or_lines p i r f number masks) e v
    ↔ (Holds f e v ⊎ ((j mask : ℕ) × (slice_get masks j ≡ Some mask) × Holds (line p i r mask (number + j)) e v))
lines_hold p i r f number [] e v = (λ h. inl h, λ h. elim h [ inl k ↦ k | inr (j, mask, none, k) ↦ absurd (cc) ])
lines_hold p i r f number (m ∷ ms) e v =
    let rest = lines_hold p i r (Or f (line p i r m number)) (suc number) ms e v in (
      λ h.
          elim (rest.0 h) [
            | inl one ↦ elim one [ inl k ↦ inl k | inr k ↦ inr (zero, m, refl, subst (λ n. Holds (line p i r m n) e v) (omega arith) k) ]
            | inr (j, mask, at, k) ↦ inr (suc j, mask, at, subst (λ n. Holds (line p i r mask n) e v) (omega arith) k)
          ],
      λ h.
          rest.1 (elim h [
            | inl k ↦ inl (inl k)
            | inr (j, mask, at, k) ↦ by j mask at k
          ]),
    )
  where
    by : (j mask : ℕ) → slice_get (m ∷ ms) j ≡ Some mask → Holds (line p i r mask (number + j)) e v
        → Holds (Or f (line p i r m number)) e v ⊎ ((j mask : ℕ) × (slice_get ms j ≡ Some mask) × Holds (line p i r mask (suc number + j)) e v)
    by zero mask at k =
        let same : m ≡ mask = cc in
        let here : number + 0 ≡ number = omega arith in
        inl (inr (subst (λ n. Holds (line p i r m n) e v) here (subst (λ n. Holds (line p i r n (number + 0)) e v) (sym same) k)))
    by (suc j) mask at k =
        let here : number + suc j ≡ suc number + j = omega arith in
        inr (j, mask, at, subst (λ n. Holds (line p i r mask n) e v) here k)
