-- Programs that go on alike at sets of equal tuples come to one end.
use Rattle.std.proofs.Common.{◌≡◌, ◌↔◌, ℕ, ◌+◌, List, [], ◌∷◌, ◌++◌, Option, Some, None, refl, sym, ◌∙◌, inl, inr, subst}
use Rattle.lin_formula.specs.Tree.{Tree, steps}
use Rattle.lin_formula.specs.SetOf.{SetOf}
use Rattle.set_plan.specs.Program.{Item, Program, Give, Compute, Ask, Question, IsYes, IsNo, Takes, Entry, IsSetOf}
use Rattle.set_plan.specs.Past.{Step, numbered, all_steps, PastStep, Past}
use Rattle.set_plan.specs.Outcome.{Ends, Stops}
use Rattle.set_plan.specs.Same.{SameSets, SameSteps, SameItem}
use Rattle.set_plan.specs.declared.stop.PartStep.{PartStep}
use Rattle.set_plan.proofs.Composition.{none_some, Takes-none, PastStep-append, PastStep-over, PastStep-split, PastStep-cases}

pub record SameQuestion (q r : Question) : Type 0 where
  pub yes : IsYes q ↔ IsYes r
  pub no : IsNo q ↔ IsNo r

abbrev pub Alike : {P A B : Type 0} → (A → B → Type 0) → Program P A → Program P B → Type 0
Alike R (Give a) (Give b) = R a b
Alike R (Compute d next) (Compute e more) =
    (d.part ≡ e.part) × (d.at ≡ e.at) × SameItem d.item e.item × ((s t : SetOf) → SameSets s t → Alike R (next s) (more t))
Alike R (Ask q if_yes if_no) (Ask r or_yes or_no) = SameQuestion q r × Alike R if_yes or_yes × Alike R if_no or_no
Alike R _ _ = ⊥

-- the first step past the budget is one
pub PastStep-one : {P : Type 0} (xs : List (Step P)) (budget : ℕ) (a b : Option (PartStep P)) → PastStep xs budget a → PastStep xs budget b → a ≡ b
PastStep-one [] budget a b h k = h ∙ sym k
PastStep-one (x ∷ xs) budget a b (inl (over, e)) (inl (again, f)) = e ∙ sym f
PastStep-one (x ∷ xs) budget a b (inl (over, e)) (inr (within, rest)) = absurd (within over)
PastStep-one (x ∷ xs) budget a b (inr (within, rest)) (inl (over, e)) = absurd (within over)
PastStep-one (x ∷ xs) budget a b (inr (within, rest)) (inr (again, more)) = PastStep-one xs budget a b rest more

pub numbered-same : {P : Type 0} (part : P) (at : ℕ) (fs gs : List Tree) (d e : ℕ → SetOf) (budget : ℕ) (answer : Option (PartStep P))
    → SameSteps fs d gs e → PastStep (numbered part at d fs) budget answer → PastStep (numbered part at e gs) budget answer
numbered-same part at [] [] d e budget answer same h = h
numbered-same part at [] (g ∷ gs) d e budget answer same h = absurd same
numbered-same part at (f ∷ fs) [] d e budget answer same h = absurd same
numbered-same part at (f ∷ fs) (g ∷ gs) d e budget answer same (inl (over, is)) = inl ((same.0 budget).0 over, is)
numbered-same part at (f ∷ fs) (g ∷ gs) d e budget answer same (inr (within, rest)) =
    inr (λ over. within ((same.0 budget).1 over), numbered-same part (at + 1) fs gs d e budget answer same.1 rest)

pub entry-same : {P : Type 0} (d e : Entry P) (budget : ℕ) (answer : Option (PartStep P)) → d.part ≡ e.part → d.at ≡ e.at → SameItem d.item e.item
    → PastStep (numbered d.part d.at d.item.sets (steps d.item.formula)) budget answer
    → PastStep (numbered e.part e.at e.item.sets (steps e.item.formula)) budget answer
entry-same {P} d e budget answer part at same h =
    let here = numbered-same d.part d.at (steps d.item.formula) (steps e.item.formula) d.item.sets e.item.sets budget answer same.steps h in
    let By : P → Type 0 = λ p. PastStep (numbered p d.at e.item.sets (steps e.item.formula)) budget answer in
    let From : ℕ → Type 0 = λ n. PastStep (numbered e.part n e.item.sets (steps e.item.formula)) budget answer in
    subst From at (subst By part here)

pub IsSetOf-same : {i j : Item} {s : SetOf} → SameItem i j → IsSetOf i s → IsSetOf j s
IsSetOf-same same is = record {
  same = λ tuple. (λ h. (same.members tuple).0 ((is.same tuple).0 h), λ h. (is.same tuple).1 ((same.members tuple).1 h));
}

-- two sets of one item
pub sets-same : (i j : Item) (s t : SetOf) → SameItem i j → IsSetOf i s → IsSetOf j t → SameSets s t
sets-same i j s t same is_s is_t tuple =
    (λ h. (is_t.same tuple).1 ((same.members tuple).0 ((is_s.same tuple).0 h)), λ h. (is_s.same tuple).1 ((same.members tuple).1 ((is_t.same tuple).0 h)))

pub SameSets-self : (s : SetOf) → SameSets s s
SameSets-self s tuple = (λ h. h, λ h. h)

-- an end of the one program is one of the other, with a value that is related
ends_alike : {P A B : Type 0} (R : A → B → Type 0) (m : Program P A) (n : Program P B) (budget : ℕ) (xs : List (Entry P)) (a : A) → Alike R m n
    → Takes m xs (Some a) → Past xs budget None → (ys : List (Entry P)) × (b : B) × Takes n ys (Some b) × Past ys budget None × R a b
ends_alike R (Give c) (Give b) budget xs a same (e, inl is) past =
    let value : a ≡ c = cc in
    ([], b, (refl, inl refl), refl, subst (λ x. R x b) (sym value) same)
ends_alike R (Give c) (Give b) budget xs a same (e, inr is) past = none_some is
ends_alike R (Compute d next) (Compute e more) budget xs a same (inl (f, is)) past = none_some is
ends_alike {P} R (Compute d next) (Compute e more) budget xs a (part, at, item, go) (inr (rest, s, whole, is, t)) past =
    let all : PastStep (numbered d.part d.at d.item.sets (steps d.item.formula) ++ all_steps rest) budget None = subst (λ (l : List (Entry P)). Past l budget None) whole past in
    let (front, back) = PastStep-split (numbered d.part d.at d.item.sets (steps d.item.formula)) (all_steps rest) budget all in
    let (ys, b, takes, later, related) = ends_alike R (next s) (more s) budget rest a (go s s (SameSets-self s)) t back in (
      e ∷ ys,
      b,
      inr (ys, s, refl, IsSetOf-same item is, takes),
      PastStep-append (numbered e.part e.at e.item.sets (steps e.item.formula)) (all_steps ys) budget None
          (entry-same d e budget None part at item front) later,
      related,
    )
ends_alike R (Ask q if_yes if_no) (Ask r or_yes or_no) budget xs a same (inl (f, is)) past = none_some is
ends_alike R (Ask q if_yes if_no) (Ask r or_yes or_no) budget xs a (same, yes_go, no_go) (inr (inl (is, t))) past =
    let (ys, b, takes, later, related) = ends_alike R if_yes or_yes budget xs a yes_go t past in
    (ys, b, inr (inl (same.yes.0 is, takes)), later, related)
ends_alike R (Ask q if_yes if_no) (Ask r or_yes or_no) budget xs a (same, yes_go, no_go) (inr (inr (is, t))) past =
    let (ys, b, takes, later, related) = ends_alike R if_no or_no budget xs a no_go t past in
    (ys, b, inr (inr (same.no.0 is, takes)), later, related)
ends_alike R (Give c) (Compute e more) budget xs a same t past = absurd same
ends_alike R (Give c) (Ask r or_yes or_no) budget xs a same t past = absurd same
ends_alike R (Compute d next) (Give b) budget xs a same t past = absurd same
ends_alike R (Compute d next) (Ask r or_yes or_no) budget xs a same t past = absurd same
ends_alike R (Ask q if_yes if_no) (Give b) budget xs a same t past = absurd same
ends_alike R (Ask q if_yes if_no) (Compute e more) budget xs a same t past = absurd same

pub Ends-alike : {P A B : Type 0} (R : A → B → Type 0) {m : Program P A} (n : Program P B) {budget : ℕ} {a : A} → Alike R m n → Ends m budget a → (b : B) × Ends n budget b × R a b
Ends-alike R {m} n {budget} {a} same h =
    let (ys, b, takes, past, related) = ends_alike R m n budget h.entries a same h.takes h.past in
    (b, record { entries = ys; takes = takes; past = past }, related)

-- where the one program stops, the other stops
stops_alike : {P A B : Type 0} (R : A → B → Type 0) (m : Program P A) (n : Program P B) (budget : ℕ) (xs : List (Entry P)) (name : PartStep P)
    → Alike R m n → Takes m xs None → Past xs budget (Some name) → (ys : List (Entry P)) × Takes n ys None × Past ys budget (Some name)
stops_alike {P} R (Give c) (Give b) budget xs name same (e, is) past = none_some (subst (λ (l : List (Entry P)). Past l budget (Some name)) e past)
stops_alike {P} R (Compute d next) (Compute e more) budget xs name same (inl (f, is)) past = none_some (subst (λ (l : List (Entry P)). Past l budget (Some name)) f past)
stops_alike {P} R (Compute d next) (Compute e more) budget xs name (part, at, item, go) (inr (rest, s, whole, is, t)) past =
    let all : PastStep (numbered d.part d.at d.item.sets (steps d.item.formula) ++ all_steps rest) budget (Some name) = subst (λ (l : List (Entry P)). Past l budget (Some name)) whole past in
    elim (PastStep-cases (numbered d.part d.at d.item.sets (steps d.item.formula)) (all_steps rest) budget name all) [
      | inl here ↦ (
        e ∷ [],
        inr ([], s, refl, IsSetOf-same item is, Takes-none (more s)),
        PastStep-over (numbered e.part e.at e.item.sets (steps e.item.formula)) [] budget name (entry-same d e budget (Some name) part at item here),
      )
      | inr (front, back) ↦
          let (ys, takes, later) = stops_alike R (next s) (more s) budget rest name (go s s (SameSets-self s)) t back in (
            e ∷ ys,
            inr (ys, s, refl, IsSetOf-same item is, takes),
            PastStep-append (numbered e.part e.at e.item.sets (steps e.item.formula)) (all_steps ys) budget (Some name) (entry-same d e budget None part at item front) later,
          )
    ]
stops_alike {P} R (Ask q if_yes if_no) (Ask r or_yes or_no) budget xs name same (inl (f, is)) past = none_some (subst (λ (l : List (Entry P)). Past l budget (Some name)) f past)
stops_alike R (Ask q if_yes if_no) (Ask r or_yes or_no) budget xs name (same, yes_go, no_go) (inr (inl (is, t))) past =
    let (ys, takes, later) = stops_alike R if_yes or_yes budget xs name yes_go t past in
    (ys, inr (inl (same.yes.0 is, takes)), later)
stops_alike R (Ask q if_yes if_no) (Ask r or_yes or_no) budget xs name (same, yes_go, no_go) (inr (inr (is, t))) past =
    let (ys, takes, later) = stops_alike R if_no or_no budget xs name no_go t past in
    (ys, inr (inr (same.no.0 is, takes)), later)
stops_alike R (Give c) (Compute e more) budget xs name same t past = absurd same
stops_alike R (Give c) (Ask r or_yes or_no) budget xs name same t past = absurd same
stops_alike R (Compute d next) (Give b) budget xs name same t past = absurd same
stops_alike R (Compute d next) (Ask r or_yes or_no) budget xs name same t past = absurd same
stops_alike R (Ask q if_yes if_no) (Give b) budget xs name same t past = absurd same
stops_alike R (Ask q if_yes if_no) (Compute e more) budget xs name same t past = absurd same

pub Stops-alike : {P A B : Type 0} (R : A → B → Type 0) {m : Program P A} (n : Program P B) {budget : ℕ} {name : PartStep P} → Alike R m n → Stops m budget name → Stops n budget name
Stops-alike R {m} n {budget} {name} same h =
    let (ys, takes, past) = stops_alike R m n budget h.entries name same h.takes h.past in
    record { entries = ys; takes = takes; past = past }
