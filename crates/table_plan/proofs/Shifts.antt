-- A set that is shifted in each of its variables has the tuples of the set, so much further.
use Rattle.std.proofs.Common.{◌≡◌, ◌≢◌, ◌↔◌, ℕ, zero, suc, ◌≤◌, ℤ, pos, negsuc, ◌-ℤ◌, Bool, true, false, List, [], ◌∷◌, length, map, Some, ◌==◌, if◌then◌else◌, inl, inr, refl, sym, ap, ◌∙◌, subst, arith}
use Rattle.std.proofs.lemmas.Int.{ints}
use Rattle.std.proofs.lemmas.Bool.{eqb-true, eq-eqb}
use Rattle.track_word.specs.declared.tracks.Var.{Var}
use Rattle.track_word.specs.Tracks.{Values, values_at}
use Rattle.game_rules.specs.declared.men.Ray.{Ray}
use Rattle.game_rules.specs.Game.{Position}
use Rattle.lin_formula.specs.Tree.{Tree, free_vars}
use Rattle.lin_formula.specs.Free.{IsOneOf}
use Rattle.lin_formula.specs.Holds.{Holds, Sets, with_value}
use Rattle.lin_formula.specs.SetOf.{HoldsAt, Member, SetOf, Where, members}
use Rattle.rule_formula.specs.Mean.{mask_tracks}
use Rattle.rule_formula.specs.Placed.{is_live}
use Rattle.rule_formula.specs.Seats.{elsewhere, own, vars_to}
use Rattle.rule_formula.proofs.FitLemmas.{values_same}
use Rattle.set_plan.specs.Program.{Entry, Takes, each}
use Rattle.set_plan.specs.Unite.{Made}
use Rattle.set_plan.proofs.Composition.{Takes-split}
use Rattle.set_plan.proofs.Takings.{IsOver, Takes-give, make-members}
use Rattle.mate_plan.specs.Plan.{name}
use Rattle.mate_plan.specs.PlanOf.{rules_of}
use Rattle.mate_plan.specs.declared.names.Part.TheVariants as kind
use Rattle.mate_plan.specs.declared.names.PartName.{PartName}
use Rattle.table_plan.specs.Table.{in_place, moved_set, shift_by, shift_item, shift_of, shift_track, shift_tree}
use Rattle.rule_formula.proofs.TracksTheorem.{Rises, risen}
use Rattle.table_plan.proofs.ShiftTracks.{not_spare, own_rise, shift_tracks}

pub if_at : {X : Type 0} (a b : ℕ) (x y : X) → a ≡ b → (if a == b then x else y) ≡ x
if_at {X} a b x y same = by (a == b) refl
  where
    by : (t : Bool) → a == b ≡ t → (if t then x else y) ≡ x
    by true e = refl
    by false e = let t : a == b ≡ true = eq-eqb a b same in cc

pub if_off : {X : Type 0} (a b : ℕ) (x y : X) → a ≢ b → (if a == b then x else y) ≡ y
if_off {X} a b x y other = by (a == b) refl
  where
    by : (t : Bool) → a == b ≡ t → (if t then x else y) ≡ y
    by true e = absurd (other (eqb-true a b e))
    by false e = refl

-- values that agree on some variables give them one tuple
pub values_agree : (xs : List Var) (v w : Values) → ((z : Var) → IsOneOf z xs → v z.0 ≡ w z.0) → values_at xs v ≡ values_at xs w
values_agree [] v w h = refl
values_agree (x ∷ xs) v w h = ap (λ n. n ∷ values_at xs v) (h x (inl refl)) ∙ ap (λ ns. w x.0 ∷ ns) (values_agree xs v w (λ z i. h z (inr i)))

one_replaced : (x u y : Var) (v : Values) (n : ℤ) → y.0 ≢ u.0 → with_value v u n (in_place x u y).0 ≡ with_value v x n y.0
one_replaced x u y v n ne = by (y.0 == x.0) refl
  where
    by : (b : Bool) → y.0 == x.0 ≡ b → with_value v u n (if b then u else y).0 ≡ (if b then n else v y.0)
    by true e = if_at u.0 u.0 n (v u.0) refl
    by false e = if_off y.0 u.0 n (v y.0) ne

replaced : (x u : Var) (ys : List Var) (v : Values) (n : ℤ) → ((z : Var) → IsOneOf z ys → z.0 ≢ u.0) → values_at (map (in_place x u) ys) (with_value v u n) ≡ values_at ys (with_value v x n)
replaced x u [] v n ne = refl
replaced x u (y ∷ ys) v n ne =
    ap (λ k. k ∷ values_at (map (in_place x u) ys) (with_value v u n)) (one_replaced x u y v n (ne y (inl refl)))
    ∙ ap (λ ks. with_value v x n y.0 ∷ ks) (replaced x u ys v n (λ z i. ne z (inr i)))

-- one variable so much less
abbrev pub less : Var → ℤ → Values → Values
less x d v = with_value v x (v x.0 -ℤ d)

shift_holds : (x : Var) (ys : List Var) (d : ℤ) (e : Sets) (v : Values) → ((z : Var) → IsOneOf z ys → z.0 ≢ elsewhere.x.0) → x.0 ≢ elsewhere.x.0
    → Holds (shift_tree ys x d) e v ↔ e 0 (values_at ys (less x d v))
shift_holds x ys d e v ne off =
    let u : Var = elsewhere.x in
    let at_x = λ (n : ℤ). if_off x.0 u.0 n (v x.0) off in
    let at_u = λ (n : ℤ). if_at u.0 u.0 n (v u.0) refl in (
      λ (n, (a, c)).
          let here : with_value v u n x.0 ≡ v x.0 = at_x n in
          let there : with_value v u n u.0 ≡ n = at_u n in
          let is : n ≡ v x.0 -ℤ d = omega (arith, ints, c, here, there) in
          subst (e 0) (replaced x u ys v n ne ∙ ap (λ k. values_at ys (with_value v x k)) is) a,
      λ h.
          let n : ℤ = v x.0 -ℤ d in
          let here : with_value v u n x.0 ≡ v x.0 = at_x n in
          let there : with_value v u n u.0 ≡ n = at_u n in
          (n, (subst (e 0) (sym (replaced x u ys v n ne)) h, omega (arith, ints, here, there))),
    )

less_agree : (x : Var) (d : ℤ) (ys : List Var) (v w : Values) → IsOneOf x ys → values_at ys v ≡ values_at ys w → values_at ys (less x d v) ≡ values_at ys (less x d w)
less_agree x d ys v w is e = values_agree ys (less x d v) (less x d w) one
  where
    one : (z : Var) → IsOneOf z ys → less x d v z.0 ≡ less x d w z.0
    one z i = by (z.0 == x.0)
      where
        by : (b : Bool) → (if b then v x.0 -ℤ d else v z.0) ≡ (if b then w x.0 -ℤ d else w z.0)
        by true = ap (λ n. n -ℤ d) (values_same ys v w e x is)
        by false = values_same ys v w e z i

module _ (live : ℕ → Bool) (n : ℕ) (few : n ≤ 8) where
  abbrev tracks : List Var
  tracks = vars_to own live n

  -- the tuples of the second set are those of the first, so much further in a variable
  pub record IsLess (f : Values → Values) (s t : SetOf) : Type 0 where
    pub same : (v : Values) → Member t (values_at tracks v) ↔ Member s (values_at tracks (f v))
    pub over : IsOver tracks t

  item_less : (x : Var) (d : ℤ) (s t : SetOf) → IsOneOf x tracks → ((tuple : List ℤ) → Member t tuple ↔ Member (Where (shift_tree tracks x d) (λ _. s)) tuple) → IsLess (less x d) s t
  item_less x d s t is whole =
      let f : Tree = shift_tree tracks x d in
      let free : free_vars f ≡ tracks = shift_tracks live n x d few is in
      let holds = λ (v : Values). shift_holds x tracks d (members (λ _. s)) v (λ z i. not_spare live n z few i) (not_spare live n x few is) in
      let Over : List Var → List ℤ → Type 0 = λ vars tuple. HoldsAt vars (Holds f (members (λ _. s))) tuple in
      record {
        same = λ v. (
          λ h.
              let k : Over tracks (values_at tracks v) = subst (λ vars. Over vars (values_at tracks v)) free ((whole (values_at tracks v)).0 h) in
              subst (Member s) (less_agree x d tracks k.values v is k.is_tuple) ((holds k.values).0 k.holds),
          λ h.
              let k : Over tracks (values_at tracks v) = record { values = v; is_tuple = refl; holds = (holds v).1 h } in
              (whole (values_at tracks v)).1 (subst (λ vars. Over vars (values_at tracks v)) (sym free) k),
        );
        over = λ tuple h.
            let k : Over tracks tuple = subst (λ vars. Over vars tuple) free ((whole tuple).0 h) in
            (k.values, k.is_tuple);
      }

  none_less : (x : Var) (s : SetOf) → IsOver tracks s → IsLess (less x (pos 0)) s s
  none_less x s over =
      let same = λ (v : Values). values_agree tracks v (less x (pos 0) v) (λ z i. one z v) in
      record {
        same = λ v. (λ h. subst (Member s) (same v) h, λ h. subst (Member s) (sym (same v)) h);
        over = over;
      }
    where
      one : (z : Var) (v : Values) → v z.0 ≡ less x (pos 0) v z.0
      one z v = by (z.0 == x.0) refl
        where
          by : (b : Bool) → z.0 == x.0 ≡ b → v z.0 ≡ (if b then v x.0 -ℤ pos 0 else v z.0)
          by true e = let same : z.0 ≡ x.0 = eqb-true z.0 x.0 e in ap v same ∙ omega (arith, ints)
          by false e = refl

  -- shifted in each of some variables, in turn
  abbrev pub back : Ray → List Var → Values → Values
  back r [] v = v
  back r (x ∷ xs) v = less x (shift_of r x) (back r xs v)

  then_less : (f g : Values → Values) (s t u : SetOf) → IsLess f s t → IsLess g t u → IsLess (λ v. f (g v)) s u
  then_less f g s t u first second = record {
    same = λ v. (λ h. (first.same (g v)).0 ((second.same v).0 h), λ h. (second.same v).1 ((first.same (g v)).1 h));
    over = second.over;
  }

  -- a variable that is not among them stays
  back_off : (r : Ray) (xs : List Var) (v : Values) (y : ℕ) → ((z : Var) → IsOneOf z xs → y ≢ z.0) → back r xs v y ≡ v y
  back_off r [] v y off = refl
  back_off r (x ∷ xs) v y off =
      if_off y x.0 (back r xs v x.0 -ℤ shift_of r x) (back r xs v y) (off x (inl refl)) ∙ back_off r xs v y (λ z i. off z (inr i))

  -- one that is goes back
  back_on : (r : Ray) (k : ℕ) (xs : List Var) (v : Values) (z : Var) → Rises k xs → IsOneOf z xs → back r xs v z.0 ≡ v z.0 -ℤ shift_of r z
  back_on r k [] v z rises i = absurd i
  back_on r k (x ∷ xs) v z rises (inl e) =
      let here : x.0 ≡ z.0 = ap (λ (y : Var). y.0) (sym e) in
      let rest : back r xs v x.0 ≡ v x.0 = back_off r xs v x.0 (λ y i same. let above = risen (suc x.0) xs y rises.1 i in omega (arith, above, same)) in
      if_at z.0 x.0 (back r xs v x.0 -ℤ shift_of r x) (back r xs v z.0) (sym here)
      ∙ ap (λ m. m -ℤ shift_of r x) rest ∙ ap (λ (y : Var). v y.0 -ℤ shift_of r y) (sym e)
  back_on r k (x ∷ xs) v z rises (inr i) =
      let above = risen (suc x.0) xs z rises.1 i in
      if_off z.0 x.0 (back r xs v x.0 -ℤ shift_of r x) (back r xs v z.0) (λ same. omega (arith, above, same)) ∙ back_on r (suc x.0) xs v z rises.1 i

module _ (p : Position) (few : length p.men ≤ 8) (ply mask : ℕ) (r : Ray) where
  abbrev live : ℕ → Bool
  live = is_live mask

  abbrev count : ℕ
  count = length p.men

  by_less : (x : Var) (d : ℤ) (made next : Made) (xs : List (Entry PartName)) → IsOneOf x (mask_tracks p mask) → IsOver (mask_tracks p mask) made.0
      → Takes (shift_by (rules_of p) ply mask x d made) xs (Some next) → IsLess live count few (less x d) made.0 next.0
  by_less x (pos zero) made next xs is over t =
      let same : next ≡ made = Takes-give made next xs t in
      subst (λ (m : Made). IsLess live count few (less x (pos zero)) made.0 m.0) (sym same) (none_less live count few x made.0 over)
  by_less x (pos (suc d)) made next xs is over t =
      let made_is = make-members (name ply mask kind.Moved) made.1 (shift_item (mask_tracks p mask) x (pos (suc d)) made.0) xs next t in
      item_less live count few x (pos (suc d)) made.0 next.0 is made_is.same
  by_less x (negsuc d) made next xs is over t =
      let made_is = make-members (name ply mask kind.Moved) made.1 (shift_item (mask_tracks p mask) x (negsuc d) made.0) xs next t in
      item_less live count few x (negsuc d) made.0 next.0 is made_is.same

  each_less : (ys : List Var) → ((z : Var) → IsOneOf z ys → IsOneOf z (mask_tracks p mask)) → (made last : Made) (xs : List (Entry PartName)) → IsOver (mask_tracks p mask) made.0
      → Takes (each ys (shift_track (rules_of p) ply mask r) made) xs (Some last) → IsLess live count few (back live count few r ys) made.0 last.0
  each_less [] among made last xs over t =
      let same : last ≡ made = Takes-give made last xs t in
      subst (λ (m : Made). IsLess live count few (λ v. v) made.0 m.0) (sym same) (record { same = λ v. (λ h. h, λ h. h); over = over })
  each_less (x ∷ ys) among made last xs over t =
      let (us, vs, next, order, first, rest) = Takes-split (shift_track (rules_of p) ply mask r x made) (each ys (shift_track (rules_of p) ply mask r)) xs last t in
      let one = by_less x (shift_of r x) made next us (among x (inl refl)) over first in
      then_less live count few (less x (shift_of r x)) (back live count few r ys) made.0 next.0 last.0 one (each_less ys (λ z i. among z (inr i)) next last vs one.over rest)

  -- all values so much less
  abbrev pub lowered : Values → Values
  lowered v y = v y -ℤ shift_of r (record { 0 = y })

  -- the set that is moved
  pub moved-values : (at : ℕ) (s : SetOf) (made : Made) (xs : List (Entry PartName)) → IsOver (mask_tracks p mask) s
      → Takes (moved_set (rules_of p) ply mask r at s) xs (Some made) → IsLess live count few lowered s made.0
  moved-values at s made xs over takes =
      let all = each_less (mask_tracks p mask) (λ z i. i) (s, at) made xs over takes in
      let same = λ (v : Values). values_agree (mask_tracks p mask) (back live count few r (mask_tracks p mask) v) (lowered v) (λ z i. back_on live count few r 0 (mask_tracks p mask) v z (own_rise live count) i) in
      record {
        same = λ v. (λ h. subst (Member s) (same v) ((all.same v).0 h), λ h. (all.same v).1 (subst (Member s) (sym (same v)) h));
        over = all.over;
      }
