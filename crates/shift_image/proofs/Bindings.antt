-- What a chain of conjunctions and what "some values" of variables say.
use Rattle.std.proofs.Common.{◌≡◌, ◌≢◌, ◌⊎◌, ◌↔◌, List, [], ◌∷◌, ◌==◌, if◌then◌else◌, Bool, true, false, ℤ}
use Rattle.std.proofs.Common.{refl, sym, ap, ◌∙◌, subst, inl, inr, eq-eqb}
use Rattle.std.proofs.lemmas.Bool.{eqb-true}
use Rattle.track_word.specs.declared.tracks.Var.{Var}
use Rattle.track_word.specs.Tracks.{Values}
use Rattle.lin_formula.specs.Tree.{Tree, And, free_vars}
use Rattle.lin_formula.specs.Free.{IsOneOf, IsFree}
use Rattle.lin_formula.specs.Holds.{Sets, Holds, with_value}
use Rattle.lin_formula.proofs.FreeVars.{free_vars-free, free_vars-ascend, one_of-with_vars, one_of-without_var}
use Rattle.lin_formula.proofs.Coincide.{coincide}
use Rattle.formula_auto.proofs.Values.{Same, Other, cases_of}
use Rattle.shift_image.specs.Image.{and_all, ex_all}
use Rattle.formula_auto.proofs.Variables.{same-ascending}

-- the variable is free in one of the formulas
abbrev pub IsInOne : Var → List Tree → Type 0
IsInOne x [] = ⊥
IsInOne x (g ∷ gs) = IsOneOf x (free_vars g) ⊎ IsInOne x gs

abbrev pub AllHold : List Tree → Sets → Values → Type 0
AllHold [] e v = Unit {0}
AllHold (g ∷ gs) e v = Holds g e v × AllHold gs e v

pub vars-and_all : (x : Var) (f : Tree) (gs : List Tree)
    → IsOneOf x (free_vars (and_all f gs)) ↔ (IsOneOf x (free_vars f) ⊎ IsInOne x gs)
vars-and_all x f [] = (λ h. inl h, λ h. elim h [ inl k ↦ k | inr none ↦ absurd none ])
vars-and_all x f (g ∷ gs) =
    let here = one_of-with_vars x (free_vars f) (free_vars g) in
    let rest = vars-and_all x (And f g) gs in (
      λ h. elim (rest.0 h) [
        | inl k ↦ elim (here.0 k) [ inl l ↦ inl l | inr l ↦ inr (inl l) ]
        | inr k ↦ inr (inr k)
      ],
      λ h. rest.1 (elim h [
        | inl k ↦ inl (here.1 (inl k))
        | inr k ↦ elim k [ inl l ↦ inl (here.1 (inr l)) | inr l ↦ inr l ]
      ]),
    )

pub vars-ex_all : (x : Var) (xs : List Var) (f : Tree)
    → IsOneOf x (free_vars (ex_all xs f)) ↔ ((¬ IsOneOf x xs) × IsOneOf x (free_vars f))
vars-ex_all x [] f = (λ h. (λ none. none, h), λ h. h.1)
vars-ex_all x (y ∷ ys) f =
    let here = one_of-without_var x y (free_vars (ex_all ys f)) in
    let rest = vars-ex_all x ys f in (
      λ h.
          let outer = here.0 h in
          let inner = rest.0 outer.1 in
          (λ one. elim one [ inl is ↦ outer.0 is | inr k ↦ inner.0 k ], inner.1),
      λ h. here.1 (λ is. h.0 (inl is), rest.1 (λ k. h.0 (inr k), h.1)),
    )

pub holds-and_all : (f : Tree) (gs : List Tree) (e : Sets) (v : Values)
    → Holds (and_all f gs) e v ↔ (Holds f e v × AllHold gs e v)
holds-and_all f [] e v = (λ h. (h, tt), λ h. h.0)
holds-and_all f (g ∷ gs) e v =
    let rest = holds-and_all (And f g) gs e v in (
      λ h. let k = rest.0 h in (k.0.0, (k.0.1, k.1)),
      λ h. rest.1 ((h.0, h.1.0), h.1.1),
    )

-- values that differ in some variables at most
abbrev pub AgreeBut : List Var → Values → Values → Type 0
AgreeBut xs v w = (x : Var) → (¬ IsOneOf x xs) → w x.0 ≡ v x.0

pub with_value-same : (v : Values) (x y : Var) (n : ℤ) → x ≡ y → with_value v y n x.0 ≡ n
with_value-same v x y n is = at (x.0 == y.0) (eq-eqb x.0 y.0 (ap (λ (z : Var). z.0) is))
  where
    at : (b : Bool) → b ≡ true → (if b then n else v x.0) ≡ n
    at true e = refl
    at false e = absurd (cc)

pub with_value-other : (v : Values) (x y : Var) (n : ℤ) → x ≢ y → with_value v y n x.0 ≡ v x.0
with_value-other v x y n other = at (x.0 == y.0) refl
  where
    at : (b : Bool) → x.0 == y.0 ≡ b → (if b then n else v x.0) ≡ v x.0
    at true e = absurd (other (ap (λ k. record { 0 = k }) (eqb-true x.0 y.0 e)))
    at false e = refl

-- values that agree with those of which x has another one
agree-with_value : (x : Var) (xs : List Var) (v w : Values) → AgreeBut (x ∷ xs) v w
    → AgreeBut xs (with_value v x (w x.0)) w
agree-with_value x xs v w agree y none = elim (cases_of y x) [
  | Same is ↦ ap (λ (z : Var). w z.0) is ∙ sym (with_value-same v y x (w x.0) is)
  | Other other ↦
      agree y (λ one. elim one [ inl is ↦ other is | inr k ↦ none k ]) ∙ sym (with_value-other v y x (w x.0) other)
]

agree-without : (x : Var) (xs : List Var) (n : ℤ) (v w : Values) → AgreeBut xs (with_value v x n) w
    → AgreeBut (x ∷ xs) v w
agree-without x xs n v w agree y none =
    agree y (λ k. none (inr k)) ∙ with_value-other v y x n (λ is. none (inl is))

pub holds-ex_all : (xs : List Var) (f : Tree) (e : Sets) (v : Values)
    → Holds (ex_all xs f) e v ↔ ((w : Values) × AgreeBut xs v w × Holds f e w)
holds-ex_all [] f e v = (
  λ h. (v, λ x none. refl, h),
  λ (w, agree, h). let same : w ≡ v = λ i n. agree (record { 0 = n }) (λ k. k) i in subst (Holds f e) same h,
)
holds-ex_all (x ∷ xs) f e v = (
  λ (n, h).
      let (w, agree, k) = (holds-ex_all xs f e (with_value v x n)).0 h in
      (w, agree-without x xs n v w agree, k),
  λ (w, agree, h). (w x.0, (holds-ex_all xs f e (with_value v x (w x.0))).1 (w, agree-with_value x xs v w agree, h)),
)

-- formulas say the same of values that agree but in variables that are not theirs
pub all_hold-agree : (xs : List Var) (gs : List Tree) (e : Sets) (v w : Values)
    → ((x : Var) → IsInOne x gs → ¬ IsOneOf x xs) → AgreeBut xs v w → AllHold gs e v ↔ AllHold gs e w
all_hold-agree xs [] e v w others agree = (λ h. h, λ h. h)
all_hold-agree xs (g ∷ gs) e v w others agree =
    let at : (x : Var) → IsFree x g → w x.0 ≡ v x.0 =
    λ x free. agree x (others x (inl ((free_vars-free g x).1 free))) in
    let rest = all_hold-agree xs gs e v w (λ x h. others x (inr h)) agree in (
      λ h. (coincide g e v w (λ x free. sym (at x free)) h.0, rest.0 h.1),
      λ h. (coincide g e w v at h.0, rest.1 h.1),
    )

-- formulas that do not speak of the variables stand within "some values" of them or outside
module _ (xs : List Var) (f : Tree) (gs : List Tree) (others : (x : Var) → IsInOne x gs → ¬ IsOneOf x xs) where
  pub vars-outside : free_vars (ex_all xs (and_all f gs)) ≡ free_vars (and_all (ex_all xs f) gs)
  vars-outside =
      same-ascending _ _ (free_vars-ascend (ex_all xs (and_all f gs))) (free_vars-ascend (and_all (ex_all xs f) gs))
      (λ x h.
      let (none, k) = (vars-ex_all x xs (and_all f gs)).0 h in
      (vars-and_all x (ex_all xs f) gs).1 (elim ((vars-and_all x f gs).0 k) [
        | inl l ↦ inl ((vars-ex_all x xs f).1 (none, l))
        | inr l ↦ inr l
      ]))
      (λ x h. (vars-ex_all x xs (and_all f gs)).1 (elim ((vars-and_all x (ex_all xs f) gs).0 h) [
        | inl l ↦ let (none, k) = (vars-ex_all x xs f).0 l in (none, (vars-and_all x f gs).1 (inl k))
        | inr l ↦ (others x l, (vars-and_all x f gs).1 (inr l))
      ]))

  pub holds-outside : (e : Sets) (v : Values)
      → Holds (ex_all xs (and_all f gs)) e v ↔ Holds (and_all (ex_all xs f) gs) e v
  holds-outside e v = (
    λ h.
        let (w, agree, k) = (holds-ex_all xs (and_all f gs) e v).0 h in
        let both = (holds-and_all f gs e w).0 k in
        let clear = (all_hold-agree xs gs e v w others agree).1 both.1 in
        (holds-and_all (ex_all xs f) gs e v).1 ((holds-ex_all xs f e v).1 (w, agree, both.0), clear),
    λ h.
        let both = (holds-and_all (ex_all xs f) gs e v).0 h in
        let (w, agree, k) = (holds-ex_all xs f e v).0 both.0 in
        let clear = (all_hold-agree xs gs e v w others agree).0 both.1 in
        (holds-ex_all xs (and_all f gs) e v).1 (w, agree, (holds-and_all f gs e w).1 (k, clear)),
  )
