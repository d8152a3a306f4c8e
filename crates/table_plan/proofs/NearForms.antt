-- A shift has the form of an image that is computed by moving a set.
use Rattle.std.proofs.Common.{◌≡◌, ◌≢◌, ℕ, zero, suc, ◌<◌, ◌≤◌, ℤ, Bool, true, false, List, [], ◌∷◌, map, get_or, ◌==◌, if◌then◌else◌, inl, inr, refl, sym, ap, arith}
use Rattle.std.proofs.lemmas.Bool.{eq-eqb}
use Rattle.track_word.specs.declared.tracks.Var.{Var}
use Rattle.lin_formula.specs.Free.{IsOneOf}
use Rattle.shift_image.specs.Image.{Image, IsShiftable, image_tree}
use Rattle.shift_image.specs.declared.shift.ValueShift.{ValueShift}
use Rattle.rule_formula.specs.Seats.{elsewhere, own, vars_to}
use Rattle.table_plan.specs.Table.{in_place, shift_tree}
use Rattle.table_plan.proofs.ShiftTracks.{not_spare}

abbrev pub track_image : List Var → Var → ℤ → Image
track_image tracks x d =
    record {
      set = 0;
      vars = map (in_place x elsewhere.x) tracks;
      shifts = record { gone = elsewhere.x; new = x; by = d } ∷ [];
      clear = [];
    }

pub shift_is_image : (tracks : List Var) (x : Var) (d : ℤ) → shift_tree tracks x d ≡ image_tree (track_image tracks x d)
shift_is_image tracks x d = refl

spare_in : (x u : Var) (ys : List Var) → IsOneOf x ys → IsOneOf u (map (in_place x u) ys)
spare_in x u [] h = h
spare_in x u (y ∷ ys) (inl e) = inl (by (y.0 == x.0) refl)
  where
    by : (b : Bool) → y.0 == x.0 ≡ b → u ≡ (if b then u else y)
    by true t = refl
    by false t = let same : y.0 == x.0 ≡ true = eq-eqb y.0 x.0 (ap (λ (v : Var). v.0) (sym e)) in absurd (cc)
spare_in x u (y ∷ ys) (inr h) = inr (spare_in x u ys h)

replaced_out : (x u : Var) (ys : List Var) → x.0 ≢ u.0 → IsOneOf x (map (in_place x u) ys) → ⊥
replaced_out x u [] ne h = h
replaced_out x u (y ∷ ys) ne (inl e) = by (y.0 == x.0) refl e
  where
    by : (b : Bool) → y.0 == x.0 ≡ b → x ≡ (if b then u else y) → ⊥
    by true t is = ne (ap (λ (v : Var). v.0) is)
    by false t is = let same : y.0 == x.0 ≡ true = eq-eqb y.0 x.0 (ap (λ (v : Var). v.0) (sym is)) in absurd (cc)
replaced_out x u (y ∷ ys) ne (inr h) = replaced_out x u ys ne h

one-at : (s : ValueShift) (P : ValueShift → Type 0) → P s → (i : ℕ) (d : ValueShift) → i < 1 → P (get_or (s ∷ []) i d)
one-at s P h zero d less = h
one-at s P h (suc i) d less = absurd (omega (arith, less))

pub shift_shiftable : (live : ℕ → Bool) (n : ℕ) (x : Var) (d : ℤ) → n ≤ 8 → IsOneOf x (vars_to own live n) → IsShiftable (track_image (vars_to own live n) x d)
shift_shiftable live n x d few is =
    let tracks : List Var = vars_to own live n in
    let shift : ValueShift = record { gone = elsewhere.x; new = x; by = d } in
    record {
      old = one-at shift (λ s. IsOneOf s.gone (map (in_place x elsewhere.x) tracks)) (spare_in x elsewhere.x tracks is);
      new = one-at shift (λ s. IsOneOf s.new (map (in_place x elsewhere.x) tracks) → ⊥) (replaced_out x elsewhere.x tracks (not_spare live n x few is));
      apart = λ i j d' less within. absurd (omega (arith, less, within));
      clear = λ i d' within. absurd (omega (arith, within));
    }
