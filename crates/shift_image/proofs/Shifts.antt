-- The variables in which values stand before and after they change.
use Rattle.std.proofs.Common.{◌≡◌, ◌≢◌, ◌⊎◌, ◌↔◌, suc, List, [], ◌∷◌, map, All, AllPairs, ◌==◌, if◌then◌else◌}
use Rattle.std.proofs.Common.{Bool, true, false, arith, refl, sym, ap, ◌∙◌, subst, inl, inr, eq-eqb}
use Rattle.std.proofs.lemmas.Bool.{eqb-true}
use Rattle.std.proofs.lemmas.List.Elements.{All-head, All-tail}
use Rattle.track_word.specs.declared.tracks.Var.{Var}
use Rattle.lin_formula.specs.Tree.{Tree, Not, free_vars}
use Rattle.lin_formula.specs.Free.{IsOneOf}
use Rattle.shift_image.specs.declared.shift.ValueShift.{ValueShift}
use Rattle.shift_image.specs.Image.{Image, IsShiftable, AreOtherVars, gone, moved_var, moved_vars}
use Rattle.shift_image.proofs.Bindings.{IsInOne}

abbrev pub news : List ValueShift → List Var
news shifts = map (λ s. s.new) shifts

abbrev pub IsAmong : ValueShift → List ValueShift → Type 0
IsAmong s [] = ⊥
IsAmong s (t ∷ shifts) = (s ≡ t) ⊎ IsAmong s shifts

-- the shift by which a variable is one of the old ones
pub record IsGoneBy (x : Var) (shifts : List ValueShift) : Type 0 where
  pub shift : ValueShift
  pub among : IsAmong shift shifts
  pub is : x ≡ shift.gone

pub gone-by : (x : Var) (shifts : List ValueShift) → IsOneOf x (gone shifts) → IsGoneBy x shifts
gone-by x [] h = absurd h
gone-by x (s ∷ shifts) (inl is) = record { shift = s; among = inl refl; is = is }
gone-by x (s ∷ shifts) (inr h) =
    let rest = gone-by x shifts h in
    record { shift = rest.shift; among = inr rest.among; is = rest.is }

pub gone-among : (s : ValueShift) (shifts : List ValueShift) → IsAmong s shifts → IsOneOf s.gone (gone shifts)
gone-among s [] h = absurd h
gone-among s (t ∷ shifts) (inl is) = inl (ap (λ (u : ValueShift). u.gone) is)
gone-among s (t ∷ shifts) (inr h) = inr (gone-among s shifts h)

pub record IsNewBy (x : Var) (shifts : List ValueShift) : Type 0 where
  pub shift : ValueShift
  pub among : IsAmong shift shifts
  pub is : x ≡ shift.new

pub new-by : (x : Var) (shifts : List ValueShift) → IsOneOf x (news shifts) → IsNewBy x shifts
new-by x [] h = absurd h
new-by x (s ∷ shifts) (inl is) = record { shift = s; among = inl refl; is = is }
new-by x (s ∷ shifts) (inr h) =
    let rest = new-by x shifts h in
    record { shift = rest.shift; among = inr rest.among; is = rest.is }

pub new-among : (s : ValueShift) (shifts : List ValueShift) → IsAmong s shifts → IsOneOf s.new (news shifts)
new-among s [] h = absurd h
new-among s (t ∷ shifts) (inl is) = inl (ap (λ (u : ValueShift). u.new) is)
new-among s (t ∷ shifts) (inr h) = inr (new-among s shifts h)

-- what is known of all shifts is known of each
pub of-each : (P : ValueShift → Type 0) (shifts : List ValueShift) → All P shifts → (s : ValueShift) → IsAmong s shifts → P s
of-each P [] all s h = absurd h
of-each P (t ∷ shifts) all s (inl is) = subst P (sym is) (All-head P t shifts all)
of-each P (t ∷ shifts) all s (inr h) = of-each P shifts (All-tail P t shifts all) s h

-- the first shift and each later one
pub beside : (s : ValueShift) (shifts : List ValueShift) → AllPairs AreOtherVars (s ∷ shifts) → (t : ValueShift) → IsAmong t shifts
    → AreOtherVars s t
beside s shifts apart t h =
    of-each (AreOtherVars s) shifts (λ i d within. apart 0 (suc i) d (omega arith) (omega arith)) t h

pub later : (s : ValueShift) (shifts : List ValueShift) → AllPairs AreOtherVars (s ∷ shifts) → AllPairs AreOtherVars shifts
later s shifts apart i j d less within = apart (suc i) (suc j) d (omega arith) (omega arith)

-- where a value stands then, by whether its variable is one of the old ones
pub record IsMovedTo (x : Var) (shifts : List ValueShift) (y : Var) : Type 0 where
  pub shift : ValueShift
  pub among : IsAmong shift shifts
  pub is : x ≡ shift.gone
  pub moved : y ≡ shift.new

-- the value stands where it stood
abbrev pub Stays : Var → List ValueShift → Var → Type 0
Stays x shifts y = (¬ IsOneOf x (gone shifts)) × (y ≡ x)

pub moved-cases : (shifts : List ValueShift) (x : Var)
    → IsMovedTo x shifts (moved_var shifts x) ⊎ Stays x shifts (moved_var shifts x)
moved-cases [] x = inr (λ h. h, refl)
moved-cases (s ∷ shifts) x = at (moved-cases shifts x) (x.0 == s.gone.0) refl
  where
    at : IsMovedTo x shifts (moved_var shifts x) ⊎ Stays x shifts (moved_var shifts x) → (b : Bool)
        → x.0 == s.gone.0 ≡ b → IsMovedTo x (s ∷ shifts) (if b then s.new else moved_var shifts x)
        ⊎ Stays x (s ∷ shifts) (if b then s.new else moved_var shifts x)
    at rest true e = inl (record {
      shift = s;
      among = inl refl;
      is = ap (λ n. record { 0 = n }) (eqb-true x.0 s.gone.0 e);
      moved = refl;
    })
    at (inl to) false e = inl (record { shift = to.shift; among = inr to.among; is = to.is; moved = to.moved })
    at (inr (none, stays)) false e = inr (
      λ h. elim h [
        | inl is ↦ let same : x.0 == s.gone.0 ≡ true = eq-eqb x.0 s.gone.0 (ap (λ (v : Var). v.0) is) in absurd (cc)
        | inr k ↦ none k
      ],
      stays,
    )

-- no two shifts have one old variable, so each leads to its own new one
same-shift : (shifts : List ValueShift) → AllPairs AreOtherVars shifts → (s t : ValueShift) → IsAmong s shifts
    → IsAmong t shifts → s.gone ≡ t.gone → s ≡ t
same-shift [] apart s t one other same = absurd one
same-shift (r ∷ shifts) apart s t (inl is) (inl is') same = is ∙ sym is'
same-shift (r ∷ shifts) apart s t (inl is) (inr h) same =
    absurd ((beside r shifts apart t h).gone (ap (λ (u : ValueShift). u.gone) (sym is) ∙ same))
same-shift (r ∷ shifts) apart s t (inr h) (inl is) same =
    absurd ((beside r shifts apart s h).gone (ap (λ (u : ValueShift). u.gone) (sym is) ∙ sym same))
same-shift (r ∷ shifts) apart s t (inr h) (inr k) same = same-shift shifts (later r shifts apart) s t h k same

pub record IsMovedVar (f : Var → Var) (vars : List Var) (x : Var) : Type 0 where
  pub old : Var
  pub among : IsOneOf old vars
  pub is : x ≡ f old

pub one_of-map : (f : Var → Var) (vars : List Var) (x : Var) → IsOneOf x (map f vars) → IsMovedVar f vars x
one_of-map f [] x h = absurd h
one_of-map f (y ∷ ys) x (inl is) = record { old = y; among = inl refl; is = is }
one_of-map f (y ∷ ys) x (inr h) =
    let rest = one_of-map f ys x h in
    record { old = rest.old; among = inr rest.among; is = rest.is }

pub map-one_of : (f : Var → Var) (vars : List Var) (x : Var) → IsOneOf x vars → IsOneOf (f x) (map f vars)
map-one_of f [] x h = absurd h
map-one_of f (y ∷ ys) x (inl is) = inl (ap f is)
map-one_of f (y ∷ ys) x (inr h) = inr (map-one_of f ys x h)

-- the formula speaks of some variables alone
abbrev SpeaksOf : List Var → Tree → Type 0
SpeaksOf vars g = (x : Var) → IsOneOf x (free_vars g) → IsOneOf x vars

clear-vars : (vars : List Var) (gs : List Tree) → All (SpeaksOf vars) gs → (x : Var) → IsInOne x (map Not gs)
    → IsOneOf x vars
clear-vars vars [] all x h = absurd h
clear-vars vars (g ∷ gs) all x (inl h) = All-head (SpeaksOf vars) g gs all x h
clear-vars vars (g ∷ gs) all x (inr h) = clear-vars vars gs (All-tail (SpeaksOf vars) g gs all) x h

module _ (i : Image) (is : IsShiftable i) where
  pub old : (s : ValueShift) → IsAmong s i.shifts → IsOneOf s.gone i.vars
  old s h = of-each (λ t. IsOneOf t.gone i.vars) i.shifts is.old s h

  pub new : (s : ValueShift) → IsAmong s i.shifts → ¬ IsOneOf s.new i.vars
  new s h = of-each (λ t. ¬ IsOneOf t.new i.vars) i.shifts is.new s h

  -- no new variable is an old one
  pub new-gone : (s t : ValueShift) → IsAmong s i.shifts → IsAmong t i.shifts → s.new ≢ t.gone
  new-gone s t h k same = new s h (subst (λ x. IsOneOf x i.vars) (sym same) (old t k))

  pub new-not_gone : (s : ValueShift) → IsAmong s i.shifts → ¬ IsOneOf s.new (gone i.shifts)
  new-not_gone s h one = let by = gone-by s.new i.shifts one in new-gone s by.shift h by.among by.is

  -- a shift leads its old variable to its new one
  pub moved-gone : (s : ValueShift) → IsAmong s i.shifts → moved_var i.shifts s.gone ≡ s.new
  moved-gone s h = elim (moved-cases i.shifts s.gone) [
    | inl to ↦
        to.moved ∙ ap (λ (t : ValueShift). t.new) (sym (same-shift i.shifts is.apart s to.shift h to.among to.is))
    | inr (none, stays) ↦ absurd (none (gone-among s i.shifts h))
  ]

  -- the variables of a moved member are the new ones, and those of a member that are not gone
  pub moved-vars : (x : Var)
      → IsOneOf x (moved_vars i) ↔ (IsOneOf x (news i.shifts) ⊎ ((¬ IsOneOf x (gone i.shifts)) × IsOneOf x i.vars))
  moved-vars x = (
    λ h.
        let from = one_of-map (moved_var i.shifts) i.vars x h in
        elim (moved-cases i.shifts from.old) [
          | inl to ↦
              let one = new-among to.shift i.shifts to.among in
              inl (subst (λ y. IsOneOf y (news i.shifts)) (sym (from.is ∙ to.moved)) one)
          | inr (none, stays) ↦
              let same = from.is ∙ stays in
              inr (
                λ k. none (subst (λ y. IsOneOf y (gone i.shifts)) same k),
                subst (λ y. IsOneOf y i.vars) (sym same) from.among,
              )
        ],
    λ h. elim h [
      | inl k ↦
          let by = new-by x i.shifts k in
          subst (λ y. IsOneOf y (moved_vars i)) (moved-gone by.shift by.among ∙ sym by.is)
          (map-one_of (moved_var i.shifts) i.vars by.shift.gone (old by.shift by.among))
      | inr (none, k) ↦
          elim (moved-cases i.shifts x) [
            | inl to ↦
                let one = gone-among to.shift i.shifts to.among in
                absurd (none (subst (λ y. IsOneOf y (gone i.shifts)) (sym to.is) one))
            | inr (_, stays) ↦
                subst (λ y. IsOneOf y (moved_vars i)) stays (map-one_of (moved_var i.shifts) i.vars x k)
          ]
    ],
  )

  pub moved-not_gone : (x : Var) → IsOneOf x (moved_vars i) → ¬ IsOneOf x (gone i.shifts)
  moved-not_gone x h = elim ((moved-vars x).0 h) [
    | inl k ↦
        let by = new-by x i.shifts k in
        λ one. new-not_gone by.shift by.among (subst (λ y. IsOneOf y (gone i.shifts)) by.is one)
    | inr (none, k) ↦ none
  ]

  -- what is asked then does not speak of the old variables
  pub clear-not_gone : (x : Var) → IsInOne x (map Not i.clear) → ¬ IsOneOf x (gone i.shifts)
  clear-not_gone x h = moved-not_gone x (clear-vars (moved_vars i) i.clear is.clear x h)
