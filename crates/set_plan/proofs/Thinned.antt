-- A union of some items is the union of those that lack nothing, under other numbers for their sets.
use Rattle.std.proofs.Common.{ℕ, ◌+◌, List, [], ◌∷◌, ◌++◌, map, Some, None, refl, ap, subst, inl, inr}
use Rattle.track_word.specs.declared.tracks.Var.{Var}
use Rattle.lin_formula.specs.Tree.{steps}
use Rattle.lin_formula.specs.SetOf.{Nothing}
use Rattle.set_plan.specs.Program.{Item, Program, Give, Empty, each, Takes, Entry}
use Rattle.set_plan.specs.Past.{numbered, all_steps, PastStep, Past}
use Rattle.set_plan.specs.Outcome.{Ends, Stops}
use Rattle.set_plan.specs.Unite.{Made, compute, make, join, unite, with_item, positives}
use Rattle.set_plan.specs.declared.stop.PartStep.{PartStep}
use Rattle.set_plan.proofs.Composition.{none_some, Ends-ask_yes, Ends-ask_no, Ends-give, Ends-bind, Stops-bind, Stops-bind_later, Ends-split, Stops-split, PastStep-split, PastStep-append}
use Rattle.set_plan.specs.Same.{IsLacking, SameItem, Thinned}
use Rattle.set_plan.proofs.Alike.{IsSetOf-same, numbered-same, Stops-alike}
use Rattle.set_plan.proofs.Combined.{SameMade, make-alike, same-count}
use Rattle.set_plan.proofs.Makes.{Ends-join_left}

pub Thinned-append : (is js : List Item) {i j : Item} → Thinned is js → SameItem i j → Thinned (is ++ i ∷ []) (js ++ j ∷ [])
Thinned-append is [] {i} e same = inr (i, [], ap (λ (l : List Item). l ++ i ∷ []) e, same, refl)
Thinned-append is (k ∷ js) (inl (lacks, rest)) same = inl (lacks, Thinned-append is js rest same)
Thinned-append is (k ∷ js) {i} (inr (h, rest, e, here, thin)) same =
    inr (h, rest ++ i ∷ [], ap (λ (l : List Item). l ++ i ∷ []) e, here, Thinned-append rest js thin same)

module _ {P : Type 0} (part : P) (budget : ℕ) where
  compute-same : (at : ℕ) (i j : Item) (v : Made) (xs : List (Entry P)) → SameItem i j → Takes (compute part at i) xs (Some v) → Past xs budget None → Ends (compute part at j) budget v
  compute-same at i j v xs same (inl (e, o)) past = none_some o
  compute-same at i j v xs same (inr (rest, s, whole, is, t)) past =
      let all : PastStep (numbered part at i.sets (steps i.formula) ++ all_steps rest) budget None = subst (λ (l : List (Entry P)). Past l budget None) whole past in
      let (front, back) = PastStep-split (numbered part at i.sets (steps i.formula)) (all_steps rest) budget all in
      let Gives : ℕ → Type 0 = λ n. Takes {P = P} (Give (s, at + n)) rest (Some v) in
      record {
        entries = record { part = part; at = at; item = j } ∷ rest;
        takes = inr (rest, s, refl, IsSetOf-same same is, subst Gives (same-count (steps i.formula) (steps j.formula) i.sets j.sets same.steps) t);
        past =
            PastStep-append (numbered part at j.sets (steps j.formula)) (all_steps rest) budget None
            (numbered-same part at (steps i.formula) (steps j.formula) i.sets j.sets budget None same.steps front) back;
      }

  make-same : (at : ℕ) (i j : Item) (v : Made) (xs : List (Entry P)) → SameItem i j → Takes (make part at i) xs (Some v) → Past xs budget None → Ends (make part at j) budget v
  make-same at i j v xs same (inl (e, o)) past = none_some o
  make-same at i j v xs same (inr (inl (is, t))) past =
      Ends-ask_yes (Empty (map j.sets (positives j.formula))) (Give (Nothing, at)) (compute part at j) budget {a = v} (same.positives.some.0 is) (record { entries = xs; takes = t; past = past })
  make-same at i j v xs same (inr (inr (is, t))) past =
      Ends-ask_no (Empty (map j.sets (positives j.formula))) (Give (Nothing, at)) (compute part at j) budget v (same.positives.none.0 is) (compute-same at i j v xs same t past)

  pub Ends-make_same : (at : ℕ) (i j : Item) (v : Made) → SameItem i j → Ends (make part at i) budget v → Ends (make part at j) budget v
  Ends-make_same at i j v same h = make-same at i j v h.entries same h.takes h.past

  pub Stops-make_same : (at : ℕ) (i j : Item) (name : PartStep P) → SameItem i j → Stops (make part at i) budget name → Stops (make part at j) budget name
  Stops-make_same at i j name same h = Stops-alike SameMade (make part at j) (make-alike part at i j same) h

  module _ (tracks : List Var) where
    -- an item that lacks a set adds nothing
    item_lacking : (so_far : Made) (j : Item) → IsLacking j → Ends (with_item tracks part j so_far) budget so_far
    item_lacking so_far j lacks =
        Ends-bind (make part so_far.1 j) (join tracks part so_far.0) budget (Nothing, so_far.1) so_far
        (Ends-ask_yes (Empty (map j.sets (positives j.formula))) (Give (Nothing, so_far.1)) (compute part so_far.1 j) budget lacks (Ends-give budget _))
        (Ends-join_left tracks part budget so_far.0 (Nothing, so_far.1) (λ tuple never. never))

    item_same : (so_far : Made) {more : Made} {i j : Item} → SameItem i j → Ends (with_item tracks part i so_far) budget more → Ends (with_item tracks part j so_far) budget more
    item_same so_far {more} {i} {j} same h =
        let (next, made, joined) = Ends-split (make part so_far.1 i) (join tracks part so_far.0) h in
        Ends-bind (make part so_far.1 j) (join tracks part so_far.0) budget next more (Ends-make_same so_far.1 i j next same made) joined

    item_stops : (so_far : Made) {name : PartStep P} {i j : Item} → SameItem i j → Stops (with_item tracks part i so_far) budget name → Stops (with_item tracks part j so_far) budget name
    item_stops so_far {name} {i} {j} same h =
        elim (Stops-split (make part so_far.1 i) (join tracks part so_far.0) h) [
          | inl here ↦ Stops-bind (make part so_far.1 j) (join tracks part so_far.0) budget (Stops-make_same so_far.1 i j name same here)
          | inr (next, made, joined) ↦
              Stops-bind_later (make part so_far.1 j) (join tracks part so_far.0) budget (Ends-make_same so_far.1 i j next same made) joined
        ]

    abbrev left : List Item → Made → Program P Made
    left items = each items (with_item tracks part)

    pub Ends-thinned : (is js : List Item) (so_far v : Made) → Thinned is js → Ends (unite tracks part so_far is) budget v → Ends (unite tracks part so_far js) budget v
    Ends-thinned is [] so_far v e h = subst (λ (l : List Item). Ends (unite tracks part so_far l) budget v) e h
    Ends-thinned is (j ∷ js) so_far v (inl (lacks, rest)) h =
        Ends-bind (with_item tracks part j so_far) (left js) budget so_far v (item_lacking so_far j lacks) (Ends-thinned is js so_far v rest h)
    Ends-thinned is (j ∷ js) so_far v (inr (i, rest, e, same, thin)) h =
        let all : Ends (unite tracks part so_far (i ∷ rest)) budget v = subst (λ (l : List Item). Ends (unite tracks part so_far l) budget v) e h in
        let (more, one, last) = Ends-split (with_item tracks part i so_far) (left rest) all in
        Ends-bind (with_item tracks part j so_far) (left js) budget more v (item_same so_far same one) (Ends-thinned rest js more v thin last)

    pub Stops-thinned : (is js : List Item) (so_far : Made) (name : PartStep P)
        → Thinned is js → Stops (unite tracks part so_far is) budget name
        → Stops (unite tracks part so_far js) budget name
    Stops-thinned is [] so_far name e h = subst (λ (l : List Item). Stops (unite tracks part so_far l) budget name) e h
    Stops-thinned is (j ∷ js) so_far name (inl (lacks, rest)) h =
        Stops-bind_later (with_item tracks part j so_far) (left js) budget (item_lacking so_far j lacks) (Stops-thinned is js so_far name rest h)
    Stops-thinned is (j ∷ js) so_far name (inr (i, rest, e, same, thin)) h =
        let all : Stops (unite tracks part so_far (i ∷ rest)) budget name = subst (λ (l : List Item). Stops (unite tracks part so_far l) budget name) e h in
        elim (Stops-split (with_item tracks part i so_far) (left rest) all) [
          | inl here ↦ Stops-bind (with_item tracks part j so_far) (left js) budget (item_stops so_far same here)
          | inr (more, one, last) ↦
              Stops-bind_later (with_item tracks part j so_far) (left js) budget (item_same so_far same one) (Stops-thinned rest js more name thin last)
        ]
