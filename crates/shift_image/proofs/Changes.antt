-- What it says that values change by numbers.
use Rattle.std.proofs.Common.{◌≡◌, ◌⊎◌, ◌↔◌, ℕ, zero, suc, ℤ, pos, negsuc, ◌+ℤ◌, ◌*ℤ◌, List, [], ◌∷◌, map}
use Rattle.std.proofs.Common.{arith, refl, sym, subst, inl, inr}
use Rattle.std.proofs.lemmas.Int.{ints}
use Rattle.track_word.specs.declared.tracks.Var.{Var}
use Rattle.track_word.specs.Tracks.{Values}
use Rattle.lin_formula.specs.Tree.{Among, free_vars}
use Rattle.lin_formula.specs.Free.{IsOneOf}
use Rattle.lin_formula.specs.Holds.{Sets, Holds}
use Rattle.lin_formula.proofs.FreeVars.{free_vars-free}
use Rattle.shift_image.specs.Equations.{IsSolved}
use Rattle.shift_image.specs.declared.shift.ValueShift.{ValueShift}
use Rattle.shift_image.specs.Image.{Image, IsShiftable, change, step, gone, moved_vars, moved_tree}
use Rattle.shift_image.specs.Image.{equation_by, equation_of}
use Rattle.shift_image.specs.Laws.{negated}
use Rattle.shift_image.proofs.Bindings.{IsInOne, AllHold, vars-and_all, vars-ex_all}
use Rattle.shift_image.proofs.Shifts.{news, IsAmong, moved-vars, moved-not_gone}

difference : (a b by : ℤ) → ((pos 1 *ℤ a) +ℤ ((negsuc 0 *ℤ b) +ℤ pos 0) ≡ by) ↔ (b ≡ a +ℤ negated by)
difference a b (pos zero) = (λ e. omega (arith, ints, e), λ e. omega (arith, ints, e))
difference a b (pos (suc n)) = (λ e. omega (arith, ints, e), λ e. omega (arith, ints, e))
difference a b (negsuc n) = (λ e. omega (arith, ints, e), λ e. omega (arith, ints, e))

-- the old value is the new one less the number
pub change-is : (s : ValueShift) (e : Sets) (v : Values) → Holds (change s) e v ↔ (v s.gone.0 ≡ v s.new.0 +ℤ negated s.by)
change-is s e v = difference (v s.new.0) (v s.gone.0) s.by

forward : (a b : ℤ) (n : ℕ) → (a ≡ b +ℤ pos n) ↔ (b ≡ a +ℤ negated (pos n))
forward a b zero = (λ e. omega (arith, ints, e), λ e. omega (arith, ints, e))
forward a b (suc n) = (λ e. omega (arith, ints, e), λ e. omega (arith, ints, e))

solved-by : (new old : Var) (by : ℤ) (v : Values)
    → IsSolved v (equation_by new old by) ↔ (v old.0 ≡ v new.0 +ℤ negated by)
solved-by new old (pos n) v = forward (v new.0) (v old.0) n
solved-by new old (negsuc n) v = (λ e. e, λ e. e)

pub solved-is : (s : ValueShift) (v : Values) → IsSolved v (equation_of s) ↔ (v s.gone.0 ≡ v s.new.0 +ℤ negated s.by)
solved-is s v = solved-by s.new s.gone s.by v

-- the change is the equation
pub change-solved : (s : ValueShift) (e : Sets) (v : Values) → Holds (change s) e v ↔ IsSolved v (equation_of s)
change-solved s e v =
    let one = change-is s e v in
    let other = solved-is s v in
    (λ h. other.1 (one.0 h), λ h. one.1 (other.0 h))

pub change-vars : (x : Var) (s : ValueShift) → IsOneOf x (free_vars (change s)) ↔ ((x ≡ s.new) ⊎ (x ≡ s.gone))
change-vars x s =
    let free = free_vars-free (change s) x in (
      λ h. elim (free.0 h) [ inl is ↦ inl is | inr k ↦ elim k [ inl is ↦ inr is | inr none ↦ absurd none ] ],
      λ h. free.1 (elim h [ inl is ↦ inl is | inr is ↦ inr (inl is) ]),
    )

pub changes-vars : (x : Var) (shifts : List ValueShift) → IsInOne x (map change shifts)
    → IsOneOf x (news shifts) ⊎ IsOneOf x (gone shifts)
changes-vars x [] h = absurd h
changes-vars x (s ∷ shifts) (inl h) = elim ((change-vars x s).0 h) [ inl is ↦ inl (inl is) | inr is ↦ inr (inl is) ]
changes-vars x (s ∷ shifts) (inr h) = elim (changes-vars x shifts h) [ inl k ↦ inl (inr k) | inr k ↦ inr (inr k) ]

pub news-vars : (x : Var) (shifts : List ValueShift) → IsOneOf x (news shifts) → IsInOne x (map change shifts)
news-vars x [] h = absurd h
news-vars x (s ∷ shifts) (inl is) = inl ((change-vars x s).1 (inl is))
news-vars x (s ∷ shifts) (inr h) = inr (news-vars x shifts h)

pub all-changes : (shifts : List ValueShift) (e : Sets) (v : Values)
    → ((s : ValueShift) → IsAmong s shifts → Holds (change s) e v) → AllHold (map change shifts) e v
all-changes [] e v h = tt
all-changes (s ∷ shifts) e v h = (h s (inl refl), all-changes shifts e v (λ t k. h t (inr k)))

pub each-change : (shifts : List ValueShift) (e : Sets) (v : Values) → AllHold (map change shifts) e v → (s : ValueShift)
    → IsAmong s shifts → Holds (change s) e v
each-change [] e v h s k = absurd k
each-change (t ∷ shifts) e v h s (inl is) = subst (λ r. Holds (change r) e v) (sym is) h.0
each-change (t ∷ shifts) e v h s (inr k) = each-change shifts e v h.1 s k

-- the moved set speaks of the variables of a moved member
pub moved-tree_vars : {i : Image} → IsShiftable i → (x : Var)
    → IsOneOf x (free_vars (moved_tree i)) ↔ IsOneOf x (moved_vars i)
moved-tree_vars {i} is x =
    let outer = vars-ex_all x (gone i.shifts) (step i) in
    let inner = vars-and_all x (Among i.set i.vars) (map change i.shifts) in
    let among = free_vars-free (Among i.set i.vars) x in
    let moved = moved-vars i is x in (
      λ h.
          let (none, k) = outer.0 h in
          moved.1 (elim (inner.0 k) [
            | inl l ↦ inr (none, among.0 l)
            | inr l ↦ elim (changes-vars x i.shifts l) [ inl new ↦ inl new | inr old ↦ absurd (none old) ]
          ]),
      λ h.
          outer.1 (
            moved-not_gone i is x h,
            inner.1 (elim (moved.0 h) [
              | inl new ↦ inr (news-vars x i.shifts new)
              | inr k ↦ inl (among.1 k.1)
            ]),
          ),
    )
