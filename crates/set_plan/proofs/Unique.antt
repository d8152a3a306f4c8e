-- A program has one end, and one first step past a budget. The crates above cite the three lemmas of the end.
use Rattle.std.proofs.Common.{◌≡◌, ℕ, List, [], ◌∷◌, ◌++◌, Option, Some, None, sym, inl, inr, subst}
use Rattle.lin_formula.specs.Tree.{steps}
use Rattle.lin_formula.specs.SetOf.{SetOf, SomeEmpty, NoneEmpty}
use Rattle.set_plan.specs.Program.{Program, Give, Compute, Ask, Question, Empty, Stable, Has, Within, IsYes, IsNo, Takes, Entry}
use Rattle.set_plan.specs.Past.{numbered, all_steps, PastStep, Past}
use Rattle.set_plan.specs.Outcome.{Ends, Stops}
use Rattle.set_plan.specs.declared.stop.PartStep.{PartStep}
use Rattle.set_plan.proofs.Composition.{none_some, PastStep-split, PastStep-cases}
use Rattle.set_plan.specs.Same.{SameItem}
use Rattle.set_plan.proofs.Alike.{Alike, PastStep-one, entry-same, sets-same}

some-none : (sets : List SetOf) → SomeEmpty sets → NoneEmpty sets → ⊥
some-none [] h k = h
some-none (s ∷ sets) (inl empty) k = k.0 empty
some-none (s ∷ sets) (inr h) k = some-none sets h k.1

yes-no : (q : Question) → IsYes q → IsNo q → ⊥
yes-no (Empty sets) h k = some-none sets h k
yes-no (Stable a) h k = k h
yes-no (Has s tuple) h k = k h
yes-no (Within s t) h k = k h

past-none : {P A : Type 0} (xs : List (Entry P)) (budget : ℕ) (name : PartStep P) → xs ≡ [] → Past xs budget (Some name) → A
past-none {P} xs budget name e past = none_some (subst (λ (l : List (Entry P)). Past l budget (Some name)) e past)

steps-of : {P : Type 0} (d : Entry P) (rest xs : List (Entry P)) (budget : ℕ) (answer : Option (PartStep P)) → xs ≡ d ∷ rest → Past xs budget answer
    → PastStep (numbered d.part d.at d.item.sets (steps d.item.formula) ++ all_steps rest) budget answer
steps-of {P} d rest xs budget answer whole past = subst (λ (l : List (Entry P)). Past l budget answer) whole past

none-name : {P A : Type 0} (d e : Entry P) (budget : ℕ) (name : PartStep P) → d.part ≡ e.part → d.at ≡ e.at → SameItem d.item e.item
    → PastStep (numbered d.part d.at d.item.sets (steps d.item.formula)) budget None
    → PastStep (numbered e.part e.at e.item.sets (steps e.item.formula)) budget (Some name) → A
none-name d e budget name part at same h k =
    none_some (sym (PastStep-one (numbered e.part e.at e.item.sets (steps e.item.formula)) budget None (Some name) (entry-same d e budget None part at same h) k))

-- where the one program comes to its end, the other does not stop
end-stop : {P A B : Type 0} (R : A → B → Type 0) (m : Program P A) (n : Program P B) (budget : ℕ) (xs ys : List (Entry P)) (a : A) (name : PartStep P)
    → Alike R m n → Takes m xs (Some a) → Past xs budget None → Takes n ys None → Past ys budget (Some name) → ⊥
end-stop R (Give c) (Give b) budget xs ys a name same t past (e, is) over = past-none ys budget name e over
end-stop R (Compute d next) (Compute e more) budget xs ys a name same (inl (f, is)) past u over = none_some is
end-stop R (Compute d next) (Compute e more) budget xs ys a name same (inr t) past (inl (f, is)) over = past-none ys budget name f over
end-stop R (Compute d next) (Compute e more) budget xs ys a name (part, at, item, go) (inr (rest, s, whole, is, t)) past (inr (left, r, all, are, u)) over =
    let (front, back) = PastStep-split (numbered d.part d.at d.item.sets (steps d.item.formula)) (all_steps rest) budget (steps-of d rest xs budget None whole past) in
    elim (PastStep-cases (numbered e.part e.at e.item.sets (steps e.item.formula)) (all_steps left) budget name (steps-of e left ys budget (Some name) all over)) [
      | inl here ↦ none-name d e budget name part at item front here
      | inr (none, later) ↦ end-stop R (next s) (more r) budget rest left a name (go s r (sets-same d.item e.item s r item is are)) t back u later
    ]
end-stop R (Ask q if_yes if_no) (Ask r or_yes or_no) budget xs ys a name same (inl (f, is)) past u over = none_some is
end-stop R (Ask q if_yes if_no) (Ask r or_yes or_no) budget xs ys a name same (inr t) past (inl (f, is)) over = past-none ys budget name f over
end-stop R (Ask q if_yes if_no) (Ask r or_yes or_no) budget xs ys a name (same, yes_go, no_go) (inr (inl (is, t))) past (inr (inl (too, u))) over =
    end-stop R if_yes or_yes budget xs ys a name yes_go t past u over
end-stop R (Ask q if_yes if_no) (Ask r or_yes or_no) budget xs ys a name (same, yes_go, no_go) (inr (inr (is, t))) past (inr (inr (too, u))) over =
    end-stop R if_no or_no budget xs ys a name no_go t past u over
end-stop R (Ask q if_yes if_no) (Ask r or_yes or_no) budget xs ys a name (same, yes_go, no_go) (inr (inl (is, t))) past (inr (inr (too, u))) over =
    yes-no r (same.yes.0 is) too
end-stop R (Ask q if_yes if_no) (Ask r or_yes or_no) budget xs ys a name (same, yes_go, no_go) (inr (inr (is, t))) past (inr (inl (too, u))) over =
    yes-no r too (same.no.0 is)
end-stop R (Give c) (Compute e more) budget xs ys a name same t past u over = absurd same
end-stop R (Give c) (Ask r or_yes or_no) budget xs ys a name same t past u over = absurd same
end-stop R (Compute d next) (Give b) budget xs ys a name same t past u over = absurd same
end-stop R (Compute d next) (Ask r or_yes or_no) budget xs ys a name same t past u over = absurd same
end-stop R (Ask q if_yes if_no) (Give b) budget xs ys a name same t past u over = absurd same
end-stop R (Ask q if_yes if_no) (Compute e more) budget xs ys a name same t past u over = absurd same

-- both stop at the step of one name
stop-stop : {P A B : Type 0} (R : A → B → Type 0) (m : Program P A) (n : Program P B) (budget : ℕ) (xs ys : List (Entry P)) (x y : PartStep P)
    → Alike R m n → Takes m xs None → Past xs budget (Some x) → Takes n ys None → Past ys budget (Some y) → x ≡ y
stop-stop R (Give c) (Give b) budget xs ys x y same t past (e, is) over = past-none ys budget y e over
stop-stop R (Compute d next) (Compute e more) budget xs ys x y same (inl (f, is)) past u over = past-none xs budget x f past
stop-stop R (Compute d next) (Compute e more) budget xs ys x y same (inr t) past (inl (f, is)) over = past-none ys budget y f over
stop-stop {P} R (Compute d next) (Compute e more) budget xs ys x y (part, at, item, go) (inr (rest, s, whole, is, t)) past (inr (left, r, all, are, u)) over =
    let mine = PastStep-cases (numbered d.part d.at d.item.sets (steps d.item.formula)) (all_steps rest) budget x (steps-of d rest xs budget (Some x) whole past) in
    let others = PastStep-cases (numbered e.part e.at e.item.sets (steps e.item.formula)) (all_steps left) budget y (steps-of e left ys budget (Some y) all over) in
    let here : PastStep (numbered d.part d.at d.item.sets (steps d.item.formula)) budget (Some x) → PastStep (numbered e.part e.at e.item.sets (steps e.item.formula)) budget (Some x) =
    entry-same d e budget (Some x) part at item in
    elim mine [
      | inl h ↦ elim others [
        | inl k ↦
            let same : Some x ≡ Some y = PastStep-one (numbered e.part e.at e.item.sets (steps e.item.formula)) budget (Some x) (Some y) (here h) k in
            (cc)
        | inr (none, later) ↦ none_some (PastStep-one (numbered e.part e.at e.item.sets (steps e.item.formula)) budget (Some x) None (here h) none)
      ]
      | inr (none, later) ↦ elim others [
        | inl k ↦ none-name d e budget y part at item none k
        | inr (nor, last) ↦ stop-stop R (next s) (more r) budget rest left x y (go s r (sets-same d.item e.item s r item is are)) t later u last
      ]
    ]
stop-stop R (Ask q if_yes if_no) (Ask r or_yes or_no) budget xs ys x y same (inl (f, is)) past u over = past-none xs budget x f past
stop-stop R (Ask q if_yes if_no) (Ask r or_yes or_no) budget xs ys x y same (inr t) past (inl (f, is)) over = past-none ys budget y f over
stop-stop R (Ask q if_yes if_no) (Ask r or_yes or_no) budget xs ys x y (same, yes_go, no_go) (inr (inl (is, t))) past (inr (inl (too, u))) over =
    stop-stop R if_yes or_yes budget xs ys x y yes_go t past u over
stop-stop R (Ask q if_yes if_no) (Ask r or_yes or_no) budget xs ys x y (same, yes_go, no_go) (inr (inr (is, t))) past (inr (inr (too, u))) over =
    stop-stop R if_no or_no budget xs ys x y no_go t past u over
stop-stop R (Ask q if_yes if_no) (Ask r or_yes or_no) budget xs ys x y (same, yes_go, no_go) (inr (inl (is, t))) past (inr (inr (too, u))) over =
    absurd (yes-no r (same.yes.0 is) too)
stop-stop R (Ask q if_yes if_no) (Ask r or_yes or_no) budget xs ys x y (same, yes_go, no_go) (inr (inr (is, t))) past (inr (inl (too, u))) over =
    absurd (yes-no r too (same.no.0 is))
stop-stop R (Give c) (Compute e more) budget xs ys x y same t past u over = absurd same
stop-stop R (Give c) (Ask r or_yes or_no) budget xs ys x y same t past u over = absurd same
stop-stop R (Compute d next) (Give b) budget xs ys x y same t past u over = absurd same
stop-stop R (Compute d next) (Ask r or_yes or_no) budget xs ys x y same t past u over = absurd same
stop-stop R (Ask q if_yes if_no) (Give b) budget xs ys x y same t past u over = absurd same
stop-stop R (Ask q if_yes if_no) (Compute e more) budget xs ys x y same t past u over = absurd same

-- both come to related values
end-end : {P A B : Type 0} (R : A → B → Type 0) (m : Program P A) (n : Program P B) (xs ys : List (Entry P)) (a : A) (b : B)
    → Alike R m n → Takes m xs (Some a) → Takes n ys (Some b) → R a b
end-end R (Give c) (Give d) xs ys a b same (e, inr is) u = none_some is
end-end R (Give c) (Give d) xs ys a b same (e, inl is) (f, inr too) = none_some too
end-end R (Give c) (Give d) xs ys a b same (e, inl is) (f, inl too) =
    let here : a ≡ c = cc in
    let there : b ≡ d = cc in
    subst (λ x. R x b) (sym here) (subst (λ y. R c y) (sym there) same)
end-end R (Compute d next) (Compute e more) xs ys a b same (inl (f, is)) u = none_some is
end-end R (Compute d next) (Compute e more) xs ys a b same (inr t) (inl (f, is)) = none_some is
end-end R (Compute d next) (Compute e more) xs ys a b (part, at, item, go) (inr (rest, s, whole, is, t)) (inr (left, r, all, are, u)) =
    end-end R (next s) (more r) rest left a b (go s r (sets-same d.item e.item s r item is are)) t u
end-end R (Ask q if_yes if_no) (Ask r or_yes or_no) xs ys a b same (inl (f, is)) u = none_some is
end-end R (Ask q if_yes if_no) (Ask r or_yes or_no) xs ys a b same (inr t) (inl (f, is)) = none_some is
end-end R (Ask q if_yes if_no) (Ask r or_yes or_no) xs ys a b (same, yes_go, no_go) (inr (inl (is, t))) (inr (inl (too, u))) =
    end-end R if_yes or_yes xs ys a b yes_go t u
end-end R (Ask q if_yes if_no) (Ask r or_yes or_no) xs ys a b (same, yes_go, no_go) (inr (inr (is, t))) (inr (inr (too, u))) =
    end-end R if_no or_no xs ys a b no_go t u
end-end R (Ask q if_yes if_no) (Ask r or_yes or_no) xs ys a b (same, yes_go, no_go) (inr (inl (is, t))) (inr (inr (too, u))) =
    absurd (yes-no r (same.yes.0 is) too)
end-end R (Ask q if_yes if_no) (Ask r or_yes or_no) xs ys a b (same, yes_go, no_go) (inr (inr (is, t))) (inr (inl (too, u))) =
    absurd (yes-no r too (same.no.0 is))
end-end R (Give c) (Compute e more) xs ys a b same t u = absurd same
end-end R (Give c) (Ask r or_yes or_no) xs ys a b same t u = absurd same
end-end R (Compute d next) (Give c) xs ys a b same t u = absurd same
end-end R (Compute d next) (Ask r or_yes or_no) xs ys a b same t u = absurd same
end-end R (Ask q if_yes if_no) (Give c) xs ys a b same t u = absurd same
end-end R (Ask q if_yes if_no) (Compute e more) xs ys a b same t u = absurd same

module _ {P A B : Type 0} (R : A → B → Type 0) (m : Program P A) (n : Program P B) (budget : ℕ) (same : Alike R m n) where
  pub Ends-not_stops : (a : A) (name : PartStep P) → Ends m budget a → Stops n budget name → ⊥
  Ends-not_stops a name h k = end-stop R m n budget h.entries k.entries a name same h.takes h.past k.takes k.past

  pub Stops-one : (x y : PartStep P) → Stops m budget x → Stops n budget y → x ≡ y
  Stops-one x y h k = stop-stop R m n budget h.entries k.entries x y same h.takes h.past k.takes k.past

  pub Ends-one : (a : A) (b : B) → Ends m budget a → Ends n budget b → R a b
  Ends-one a b h k = end-end R m n h.entries k.entries a b same h.takes k.takes
