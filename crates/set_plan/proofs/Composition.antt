-- Programs one after the other.
use Rattle.std.proofs.Common.{◌≡◌, ◌⊎◌, ℕ, ◌+◌, ◌-◌, ◌≤◌, arith, subst, List, [], ◌∷◌, ◌++◌, Option, Some, None, refl, sym, ap, ◌∙◌, inl, inr, append_assoc, Result, Ok, Err}
use Rattle.lin_formula.specs.Tree.{Tree, steps}
use Rattle.lin_formula.specs.SetOf.{SetOf, Where, members}
use Rattle.formula_auto.specs.Step.{FirstOver}
pub use Rattle.formula_auto.proofs.FirstOvers.{none_some}
use Rattle.set_plan.specs.Program.{Program, Give, Compute, Ask, Question, IsYes, IsNo, bind, Takes, Entry, IsSetOf}
use Rattle.set_plan.specs.Past.{Step, numbered, all_steps, PastStep}
use Rattle.set_plan.specs.Outcome.{Ends, Stops, IsPlanError, Answers}
use Rattle.set_plan.specs.declared.stop.PartStep.{PartStep}
use Rattle.set_plan.specs.declared.stop.PlanError.{PlanError}
use Rattle.set_plan.specs.declared.stop.PlanError.TheVariants as plan_error

-- the first program comes to its end, and then the second takes its entries
pub Takes-bind : {P A B : Type 0} (m : Program P A) (f : A → Program P B) (xs ys : List (Entry P)) (a : A) (end : Option B)
    → Takes m xs (Some a) → Takes (f a) ys end → Takes (bind m f) (xs ++ ys) end
Takes-bind (Give b) f xs ys a end h k =
    elim h.1 [
      | inl e ↦
          let same : a ≡ b = cc in
          rw (h.0, ← same) k
      | inr e ↦ none_some e
    ]
Takes-bind (Compute entry next) f xs ys a end h k =
    elim h [
      | inl (e, o) ↦ none_some o
      | inr (rest, s, e, is, t) ↦ inr (rest ++ ys, s, ap (λ l. l ++ ys) e, is, Takes-bind (next s) f rest ys a end t k)
    ]
Takes-bind (Ask question if_yes if_no) f xs ys a end h k =
    elim h [
      | inl (e, o) ↦ none_some o
      | inr (inl (is, t)) ↦ inr (inl (is, Takes-bind if_yes f xs ys a end t k))
      | inr (inr (is, t)) ↦ inr (inr (is, Takes-bind if_no f xs ys a end t k))
    ]

-- a program has taken nothing at first
pub Takes-none : {P A : Type 0} (m : Program P A) → Takes m [] None
Takes-none (Give a) = (refl, inr refl)
Takes-none (Compute entry next) = inl (refl, refl)
Takes-none (Ask question if_yes if_no) = inl (refl, refl)

-- the first program stops
pub Takes-bind_cut : {P A B : Type 0} (m : Program P A) (f : A → Program P B) (xs : List (Entry P)) → Takes m xs None → Takes (bind m f) xs None
Takes-bind_cut (Give a) f xs h = rw h.0 (Takes-none (f a))
Takes-bind_cut (Compute entry next) f xs h =
    elim h [
      | inl w ↦ inl (w.0, refl)
      | inr (rest, s, e, is, t) ↦ inr (rest, s, e, is, Takes-bind_cut (next s) f rest t)
    ]
Takes-bind_cut (Ask question if_yes if_no) f xs h =
    elim h [
      | inl w ↦ inl (w.0, refl)
      | inr (inl (is, t)) ↦ inr (inl (is, Takes-bind_cut if_yes f xs t))
      | inr (inr (is, t)) ↦ inr (inr (is, Takes-bind_cut if_no f xs t))
    ]

pub all_steps-append : {P : Type 0} (xs ys : List (Entry P)) → all_steps (xs ++ ys) ≡ all_steps xs ++ all_steps ys
all_steps-append [] ys = refl
all_steps-append (x ∷ xs) ys =
    ap (λ l. numbered x.part x.at x.item.sets (steps x.item.formula) ++ l) (all_steps-append xs ys)
    ∙ sym (append_assoc (numbered x.part x.at x.item.sets (steps x.item.formula)) (all_steps xs) (all_steps ys))

pub PastStep-append : {P : Type 0} (xs ys : List (Step P)) (budget : ℕ) (answer : Option (PartStep P)) → PastStep xs budget None → PastStep ys budget answer → PastStep (xs ++ ys) budget answer
PastStep-append [] ys budget answer h k = k
PastStep-append (x ∷ xs) ys budget answer h k =
    elim h [
      | inl (over, e) ↦ none_some (sym e)
      | inr (within, rest) ↦ inr (within, PastStep-append xs ys budget answer rest k)
    ]

pub PastStep-over : {P : Type 0} (xs ys : List (Step P)) (budget : ℕ) (name : PartStep P) → PastStep xs budget (Some name) → PastStep (xs ++ ys) budget (Some name)
PastStep-over [] ys budget name h = none_some h
PastStep-over (x ∷ xs) ys budget name h =
    elim h [
      | inl w ↦ inl w
      | inr (within, rest) ↦ inr (within, PastStep-over xs ys budget name rest)
    ]

-- where a list of steps has none past the budget, neither has its front nor its end
pub PastStep-split : {P : Type 0} (xs ys : List (Step P)) (budget : ℕ) → PastStep (xs ++ ys) budget None → PastStep xs budget None × PastStep ys budget None
PastStep-split [] ys budget h = (refl, h)
PastStep-split (x ∷ xs) ys budget (inl (over, e)) = none_some (sym e)
PastStep-split (x ∷ xs) ys budget (inr (within, rest)) =
    let (front, back) = PastStep-split xs ys budget rest in
    (inr (within, front), back)

module _ {P A B : Type 0} (m : Program P A) (f : A → Program P B) (budget : ℕ) where
  -- both come to their ends
  pub Ends-bind : (a : A) (b : B) → Ends m budget a → Ends (f a) budget b → Ends (bind m f) budget b
  Ends-bind a b h k = record {
    entries = h.entries ++ k.entries;
    takes = Takes-bind m f h.entries k.entries a (Some b) h.takes k.takes;
    past = rw (all_steps-append h.entries k.entries) (PastStep-append (all_steps h.entries) (all_steps k.entries) budget None h.past k.past);
  }

  -- the first passes the budget
  pub Stops-bind : {name : PartStep P} → Stops m budget name → Stops (bind m f) budget name
  Stops-bind h = record {
    entries = h.entries;
    takes = Takes-bind_cut m f h.entries h.takes;
    past = h.past;
  }

  -- the first comes to its end, and the second passes the budget
  pub Stops-bind_later : {a : A} {name : PartStep P} → Ends m budget a → Stops (f a) budget name → Stops (bind m f) budget name
  Stops-bind_later {a} {name} h k = record {
    entries = h.entries ++ k.entries;
    takes = Takes-bind m f h.entries k.entries a None h.takes k.takes;
    past = rw (all_steps-append h.entries k.entries) (PastStep-append (all_steps h.entries) (all_steps k.entries) budget (Some name) h.past k.past);
  }

-- a program that gives at once
pub Ends-give : {P A : Type 0} (budget : ℕ) (a : A) → Ends {P = P} (Give a) budget a
Ends-give budget a = record { entries = []; takes = (refl, inl refl); past = refl }

module _ {P A : Type 0} (question : Question) (if_yes if_no : Program P A) (budget : ℕ) where
  pub Ends-ask_yes : {a : A} → IsYes question → Ends if_yes budget a → Ends (Ask question if_yes if_no) budget a
  Ends-ask_yes is h = record { entries = h.entries; takes = inr (inl (is, h.takes)); past = h.past }

  pub Ends-ask_no : (a : A) → IsNo question → Ends if_no budget a → Ends (Ask question if_yes if_no) budget a
  Ends-ask_no a is h = record { entries = h.entries; takes = inr (inr (is, h.takes)); past = h.past }

  pub Stops-ask_yes : {name : PartStep P} → IsYes question → Stops if_yes budget name → Stops (Ask question if_yes if_no) budget name
  Stops-ask_yes is h = record { entries = h.entries; takes = inr (inl (is, h.takes)); past = h.past }

  pub Stops-ask_no : {name : PartStep P} → IsNo question → Stops if_no budget name → Stops (Ask question if_yes if_no) budget name
  Stops-ask_no is h = record { entries = h.entries; takes = inr (inr (is, h.takes)); past = h.past }

-- what is said of the steps of one formula is Past of its entry
pub Past-numbered : {P : Type 0} (part : P) (at from : ℕ) (e : ℕ → SetOf) (fs : List Tree) (budget : ℕ)
    → FirstOver fs (members e) budget from None → PastStep (numbered part at e fs) budget None
Past-numbered part at from e [] budget h = refl
Past-numbered part at from e (f ∷ fs) budget h =
    elim h [
      | inl (over, e) ↦ none_some (sym e)
      | inr (within, rest) ↦ inr (within, Past-numbered part (at + 1) (from + 1) e fs budget rest)
    ]

pub Past-numbered_over : {P : Type 0} (part : P) (at from : ℕ) (e : ℕ → SetOf) (fs : List Tree) (budget k : ℕ)
    → FirstOver fs (members e) budget from (Some k)
    → PastStep (numbered part at e fs) budget (Some (record { part = part; at = at + k - from })) × (from ≤ k)
Past-numbered_over part at from e [] budget k h = none_some h
Past-numbered_over {P} part at from e (f ∷ fs) budget k h =
    elim h [
      | inl (over, e) ↦
          let same : k ≡ from = cc in
          let sum : at + k - from ≡ at = omega arith in
          (inl (over, ap (λ n. Some (record { part = part; at = n })) sum), omega arith)
      | inr (within, rest) ↦
          let (past, less) = Past-numbered_over part (at + 1) (from + 1) e fs budget k rest in
          let sum : at + 1 + k - (from + 1) ≡ at + k - from = omega arith in
          let Is : ℕ → Type 0 = λ n. PastStep (numbered part (at + 1) e fs) budget (Some (record { part = part; at = n })) in
          (inr (within, subst Is sum past), omega arith)
    ]

module _ {P A : Type 0} (entry : Entry P) (next : SetOf → Program P A) (budget : ℕ) where
  pub Ends-compute : {s : SetOf} {a : A} → IsSetOf entry.item s → FirstOver (steps entry.item.formula) (members entry.item.sets) budget 1 None
      → Ends (next s) budget a → Ends (Compute entry next) budget a
  Ends-compute {s} is within h = record {
    entries = entry ∷ h.entries;
    takes = inr (h.entries, s, refl, is, h.takes);
    past =
        PastStep-append (numbered entry.part entry.at entry.item.sets (steps entry.item.formula)) (all_steps h.entries) budget None
        (Past-numbered entry.part entry.at 1 entry.item.sets (steps entry.item.formula) budget within) h.past;
  }

  pub Stops-compute_here : (k : ℕ) → FirstOver (steps entry.item.formula) (members entry.item.sets) budget 1 (Some k)
      → Stops (Compute entry next) budget (record { part = entry.part; at = entry.at + k - 1 })
  Stops-compute_here k over = record {
    entries = entry ∷ [];
    takes = inr ([], Where entry.item.formula entry.item.sets, refl, record { same = λ t. (λ h. h, λ h. h) }, Takes-none (next (Where entry.item.formula entry.item.sets)));
    past =
        PastStep-over (numbered entry.part entry.at entry.item.sets (steps entry.item.formula)) [] budget
        (record { part = entry.part; at = entry.at + k - 1 })
        (Past-numbered_over entry.part entry.at 1 entry.item.sets (steps entry.item.formula) budget k over).0;
  }

-- an error of the first program is one of both
pub Error-bind : {P A B : Type 0} (m : Program P A) (f : A → Program P B) (budget : ℕ) (e : PlanError P) → IsPlanError m budget e → IsPlanError (bind m f) budget e
Error-bind m f budget (plan_error.Over name) h = Stops-bind m f budget h
Error-bind m f budget plan_error.Memory h = tt

-- where the first program has come to its end, so is one of the second
pub Error-later : {P A B : Type 0} {m : Program P A} (f : A → Program P B) (budget : ℕ) (a : A)
    → Ends m budget a → (e : PlanError P) → IsPlanError (f a) budget e → IsPlanError (bind m f) budget e
Error-later {m} f budget a ends (plan_error.Over name) h = Stops-bind_later m f budget ends h
Error-later f budget a ends plan_error.Memory h = tt

-- where the first program has come to its end, what the second answers is answered
pub Answers-later : {P A B R : Type 0} (m : Program P A) (f : A → Program P B) (budget : ℕ) (view : R → B) (a : A) → Ends m budget a
    → (r : Result R (PlanError P)) → Answers (f a) budget view r → Answers (bind m f) budget view r
Answers-later m f budget view a ends (Ok r) h = Ends-bind m f budget a (view r) ends h
Answers-later m f budget view a ends (Err e) h = Error-later f budget a ends e h

-- what is left of a program leads to the end of the whole
pub record LeadsTo {P A : Type 0} (left whole : Program P A) (budget : ℕ) : Type 0 where
  pub ends : (value : A) → Ends left budget value → Ends whole budget value
  pub stops : (name : PartStep P) → Stops left budget name → Stops whole budget name

pub LeadsTo-self : {P A : Type 0} (m : Program P A) (budget : ℕ) → LeadsTo m m budget
LeadsTo-self m budget = record { ends = λ v h. h; stops = λ n h. h }

-- where the first of two programs that are left has come to its end, the second is left
pub LeadsTo-later : {P A B : Type 0} {m : Program P A} (f : A → Program P B) {whole : Program P B} {budget : ℕ} {a : A}
    → Ends m budget a → LeadsTo (bind m f) whole budget → LeadsTo (f a) whole budget
LeadsTo-later {m} f {budget} {a} ends leads = record {
  ends = λ v h. leads.ends v (Ends-bind m f budget a v ends h);
  stops = λ n h. leads.stops n (Stops-bind_later m f budget ends h);
}

-- an error in what is left is one of the whole
pub LeadsTo-error : {P A : Type 0} {left whole : Program P A} {budget : ℕ} → LeadsTo left whole budget → (e : PlanError P) → IsPlanError left budget e → IsPlanError whole budget e
LeadsTo-error leads (plan_error.Over name) h = leads.stops name h
LeadsTo-error leads plan_error.Memory h = tt

-- programs in a row may be taken together from the left or from the right
pub bind-assoc : {P A B C : Type 0} (m : Program P A) (f : A → Program P B) (g : B → Program P C) → bind (bind m f) g ≡ bind m (λ a. bind (f a) g)
bind-assoc (Give a) f g = refl
bind-assoc (Compute entry next) f g = λ i. Compute entry (λ s. bind-assoc (next s) f g i)
bind-assoc (Ask question if_yes if_no) f g = λ i. Ask question (bind-assoc if_yes f g i) (bind-assoc if_no f g i)

-- the entries of two programs are those of the first and then those of the second
pub Takes-split : {P A B : Type 0} (m : Program P A) (f : A → Program P B) (zs : List (Entry P)) (b : B) → Takes (bind m f) zs (Some b)
    → (xs : List (Entry P)) × (ys : List (Entry P)) × (a : A) × (zs ≡ xs ++ ys) × Takes m xs (Some a) × Takes (f a) ys (Some b)
Takes-split (Give a) f zs b h = ([], zs, a, refl, (refl, inl refl), h)
Takes-split {P} (Compute entry next) f zs b h =
    elim h [
      | inl (e, o) ↦ none_some o
      | inr (rest, s, e, is, t) ↦
          let (xs, ys, a, whole, first, second) = Takes-split (next s) f rest b t in
          (entry ∷ xs, ys, a, e ∙ ap (λ (l : List (Entry P)). entry ∷ l) whole, inr (xs, s, refl, is, first), second)
    ]
Takes-split (Ask question if_yes if_no) f zs b h =
    elim h [
      | inl (e, o) ↦ none_some o
      | inr (inl (is, t)) ↦
          let (xs, ys, a, whole, first, second) = Takes-split if_yes f zs b t in
          (xs, ys, a, whole, inr (inl (is, first)), second)
      | inr (inr (is, t)) ↦
          let (xs, ys, a, whole, first, second) = Takes-split if_no f zs b t in
          (xs, ys, a, whole, inr (inr (is, first)), second)
    ]

-- where both come to their end within the budget, so does each
pub Ends-split : {P A B : Type 0} (m : Program P A) (f : A → Program P B) {budget : ℕ} {b : B} → Ends (bind m f) budget b → (a : A) × Ends m budget a × Ends (f a) budget b
Ends-split {P} m f {budget} {b} h =
    let (xs, ys, a, whole, first, second) = Takes-split m f h.entries b h.takes in
    let cut = ap all_steps whole ∙ all_steps-append xs ys in
    let past : PastStep (all_steps xs ++ all_steps ys) budget None = subst (λ (steps : List (Step P)). PastStep steps budget None) cut h.past in
    let (front, back) = PastStep-split (all_steps xs) (all_steps ys) budget past in
    (a, record { entries = xs; takes = first; past = front }, record { entries = ys; takes = second; past = back })

pub Ends-give_is : {P A : Type 0} (a : A) {b : A} {budget : ℕ} → Ends {P = P} (Give a) budget b → b ≡ a
Ends-give_is a h = elim h.takes.1 [ inl e ↦ (cc) | inr e ↦ none_some e ]

-- what a program has taken when it stops is taken by the first, or by the whole of the first and then by the second
pub Takes-split_cut : {P A B : Type 0} (m : Program P A) (f : A → Program P B) (zs : List (Entry P)) → Takes (bind m f) zs None
    → Takes m zs None ⊎ ((xs : List (Entry P)) × (ys : List (Entry P)) × (a : A) × (zs ≡ xs ++ ys) × Takes m xs (Some a) × Takes (f a) ys None)
Takes-split_cut (Give a) f zs h = inr ([], zs, a, refl, (refl, inl refl), h)
Takes-split_cut {P} (Compute entry next) f zs h =
    elim h [
      | inl (e, o) ↦ inl (inl (e, refl))
      | inr (rest, s, e, is, t) ↦ elim (Takes-split_cut (next s) f rest t) [
        | inl u ↦ inl (inr (rest, s, e, is, u))
        | inr (xs, ys, a, whole, first, second) ↦
            inr (entry ∷ xs, ys, a, e ∙ ap (λ (l : List (Entry P)). entry ∷ l) whole, inr (xs, s, refl, is, first), second)
      ]
    ]
Takes-split_cut (Ask question if_yes if_no) f zs h =
    elim h [
      | inl (e, o) ↦ inl (inl (e, refl))
      | inr (inl (is, t)) ↦ elim (Takes-split_cut if_yes f zs t) [
        | inl u ↦ inl (inr (inl (is, u)))
        | inr (xs, ys, a, whole, first, second) ↦ inr (xs, ys, a, whole, inr (inl (is, first)), second)
      ]
      | inr (inr (is, t)) ↦ elim (Takes-split_cut if_no f zs t) [
        | inl u ↦ inl (inr (inr (is, u)))
        | inr (xs, ys, a, whole, first, second) ↦ inr (xs, ys, a, whole, inr (inr (is, first)), second)
      ]
    ]

-- a program that has come to its end may have gone on
pub Takes-cut : {P A : Type 0} (m : Program P A) (xs : List (Entry P)) (a : A) → Takes m xs (Some a) → Takes m xs None
Takes-cut (Give b) xs a h = (h.0, inr refl)
Takes-cut (Compute entry next) xs a h =
    elim h [
      | inl (e, o) ↦ none_some o
      | inr (rest, s, e, is, t) ↦ inr (rest, s, e, is, Takes-cut (next s) rest a t)
    ]
Takes-cut (Ask question if_yes if_no) xs a h =
    elim h [
      | inl (e, o) ↦ none_some o
      | inr (inl (is, t)) ↦ inr (inl (is, Takes-cut if_yes xs a t))
      | inr (inr (is, t)) ↦ inr (inr (is, Takes-cut if_no xs a t))
    ]

-- a step past the budget is in the front, or none is in the front and it is in the end
pub PastStep-cases : {P : Type 0} (xs ys : List (Step P)) (budget : ℕ) (name : PartStep P) → PastStep (xs ++ ys) budget (Some name)
    → PastStep xs budget (Some name) ⊎ (PastStep xs budget None × PastStep ys budget (Some name))
PastStep-cases [] ys budget name h = inr (refl, h)
PastStep-cases (x ∷ xs) ys budget name (inl w) = inl (inl w)
PastStep-cases (x ∷ xs) ys budget name (inr (within, rest)) =
    elim (PastStep-cases xs ys budget name rest) [
      | inl front ↦ inl (inr (within, front))
      | inr (front, back) ↦ inr (inr (within, front), back)
    ]

-- two programs stop where the first stops, or where it comes to its end and the second stops
pub Stops-split : {P A B : Type 0} (m : Program P A) (f : A → Program P B) {budget : ℕ} {name : PartStep P} → Stops (bind m f) budget name
    → Stops m budget name ⊎ ((a : A) × Ends m budget a × Stops (f a) budget name)
Stops-split {P} m f {budget} {name} h =
    elim (Takes-split_cut m f h.entries h.takes) [
      | inl t ↦ inl (record { entries = h.entries; takes = t; past = h.past })
      | inr (xs, ys, a, whole, first, second) ↦
          let cut = ap all_steps whole ∙ all_steps-append xs ys in
          let past : PastStep (all_steps xs ++ all_steps ys) budget (Some name) = subst (λ (steps : List (Step P)). PastStep steps budget (Some name)) cut h.past in
          elim (PastStep-cases (all_steps xs) (all_steps ys) budget name past) [
            | inl front ↦ inl (record { entries = xs; takes = Takes-cut m xs a first; past = front })
            | inr (front, back) ↦ inr (a, record { entries = xs; takes = first; past = front }, record { entries = ys; takes = second; past = back })
          ]
    ]
