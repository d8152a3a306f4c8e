-- A union may come to its end with any form of its set, and so may an item.
use Rattle.std.proofs.Common.{◌≡◌, ◌⊎◌, ℕ, ◌+◌, List, [], ◌∷◌, length, map, Option, Some, None, IfSome, inl, inr, sym, ap, ◌∙◌, subst}
use Rattle.track_word.specs.declared.tracks.Var.{Var}
use Rattle.auto_core.specs.Automaton.{Automaton}
use Rattle.lin_formula.specs.Tree.{steps}
use Rattle.lin_formula.specs.SetOf.{SetOf, Nothing, Table, IsEmpty, as_set}
use Rattle.set_plan.specs.Program.{Item, IsSetOf, Program, Give, Ask, Empty, Takes, each}
use Rattle.set_plan.specs.Outcome.{Ends}
use Rattle.set_plan.specs.Same.{SameSets}
use Rattle.set_plan.specs.Sets.{IsReachedOn, IsReducedMade, IsReducedSet, IsSetOn, made_of}
use Rattle.set_plan.specs.declared.made.Made.{Made}
use Rattle.set_plan.specs.Unite as plan
use Rattle.set_plan.proofs.Askings.{Ends-asked}
use Rattle.set_plan.proofs.Composition.{Ends-ask_no, Ends-bind, Ends-give, Ends-give_is, Ends-split, none_some}
use Rattle.set_plan.proofs.Makes.{Ends-join_left, Ends-join_right}

table-nothing : (a : Automaton) → Table a ≡ Nothing → ⊥
table-nothing a e = cc

module _ {P : Type 0} (budget : ℕ) where
  -- the end has the set that was there before, and would have any other, or else it may have any form of its set
  abbrev Renews : (plan.Made → Program P plan.Made) → plan.Made → plan.Made → Type 0
  Renews f so_far made =
      ((made.0 ≡ so_far.0) × ((t : SetOf) → Ends (f (t, so_far.1)) budget (t, made.1)))
      ⊎ ((t : SetOf) → SameSets made.0 t → Ends (f so_far) budget (t, made.1))

  module _ {X : Type 0} (f : X → plan.Made → Program P plan.Made) (step : (x : X) (so_far made : plan.Made) → Ends (f x so_far) budget made → Renews (f x) so_far made) where
    both : (x : X) (xs : List X) (so_far : plan.Made) {next : plan.Made} (made : plan.Made)
        → Ends (f x so_far) budget next → Renews (f x) so_far next → Renews (each xs f) next made
        → Renews (each (x ∷ xs) f) so_far made
    both x xs so_far {next} made first (inl (same, any)) (inl (more, all)) =
        inl (more ∙ same, λ t. Ends-bind (f x (t, so_far.1)) (each xs f) budget (t, next.1) (t, made.1) (any t) (all t))
    both x xs so_far {next} made first (inr any) (inl (more, all)) =
        inr (λ t like. Ends-bind (f x so_far) (each xs f) budget (t, next.1) (t, made.1) (any t (subst (λ (s : SetOf). SameSets s t) more like)) (all t))
    both x xs so_far {next} made first here (inr any) = inr (λ t like. Ends-bind (f x so_far) (each xs f) budget next (t, made.1) first (any t like))

    each-renews : (xs : List X) (so_far made : plan.Made) → Ends (each xs f so_far) budget made → Renews (each xs f) so_far made
    each-renews [] so_far made h =
        let is = Ends-give_is so_far h in
        let count = sym (ap (λ (m : plan.Made). m.1) is) in
        inl (ap (λ (m : plan.Made). m.0) is, λ t. subst (λ (n : ℕ). Ends {P = P} {A = plan.Made} (Give (t, so_far.1)) budget (t, n)) count (Ends-give budget (t, so_far.1)))
    each-renews (x ∷ xs) so_far made h =
        let (next, first, rest) = Ends-split (f x so_far) (each xs f) h in
        both x xs so_far made first (step x so_far next first) (each-renews xs next made rest)

  module _ (part : P) (at : ℕ) (item : Item) (made : plan.Made) (t : SetOf) (like : SameSets made.0 t) where
    renewed : {s : SetOf} → made.0 ≡ s → IsSetOf item s → IsSetOf item t
    renewed same is = record {
      same = λ tuple.
          let here = subst (λ (u : SetOf). SameSets u t) same like tuple in
          let there = is.same tuple in
          (λ h. there.0 (here.1 h), λ h. here.0 (there.1 h));
    }

    compute-renews : Ends (plan.compute part at item) budget made → Ends (plan.compute part at item) budget (t, made.1)
    compute-renews h = by h.takes
      where
        by : Takes (plan.compute part at item) h.entries (Some made) → Ends (plan.compute part at item) budget (t, made.1)
        by (inl (e, o)) = none_some o
        by (inr (rest, s, whole, is, (none, inl end))) =
            let value : made ≡ (s, at + length (steps item.formula)) = cc in
            record {
              entries = h.entries;
              takes = inr (rest, t, whole, renewed (ap (λ (m : plan.Made). m.0) value) is, (none, inl (ap (λ (n : ℕ). Some (t, n)) (ap (λ (m : plan.Made). m.1) value))));
              past = h.past;
            }
        by (inr (rest, s, whole, is, (none, inr end))) = none_some end

    make-renews : (made.0 ≡ Nothing → ⊥) → Ends (plan.make part at item) budget made → Ends (plan.make part at item) budget (t, made.1)
    make-renews some h =
        elim (Ends-asked (Empty (map item.sets (plan.positives item.formula))) (Give (Nothing, at)) (plan.compute part at item) budget h) [
          | inl (empty, gives) ↦
              let nothing : made.0 ≡ Nothing = ap (λ (m : plan.Made). m.0) (Ends-give_is (Nothing, at) gives) in
              absurd (some nothing)
          | inr (none, computes) ↦
              Ends-ask_no (Empty (map item.sets (plan.positives item.formula))) (Give (Nothing, at)) (plan.compute part at item) budget
              (t, made.1) none (compute-renews computes)
        ]

  -- where a program may end with any automaton of its set, it does not matter either whether there is one
  module _ (m : Program P plan.Made) (any : (at : ℕ) (a r : Automaton) → SameSets (Table a) (Table r) → Ends m budget (Table a, at) → Ends m budget (Table r, at)) where
    form-renewed : (set other : Option Automaton) (at then_at : ℕ) → then_at ≡ at → IsReducedSet set other → Ends m budget (as_set set, at) → Ends m budget (as_set other, then_at)
    form-renewed None other at then_at same none h =
        let Ended : Option Automaton → ℕ → Type 0 = λ o n. Ends m budget (as_set o, n) in
        subst (λ (o : Option Automaton). Ended o then_at) (sym none) (subst (Ended None) (sym same) h)
    form-renewed (Some a) other at then_at same (r, is, reduction) h =
        let Ended : Option Automaton → ℕ → Type 0 = λ o n. Ends m budget (as_set o, n) in
        subst (λ (o : Option Automaton). Ended o then_at) (sym is) (subst (Ended (Some r)) (sym same) (any at a r reduction.same h))

    made-reduced : (made other : Made) → IsReducedMade made other → Ends m budget (made_of made) → Ends m budget (made_of other)
    made-reduced made other (same, reduced) h = form-renewed made.set other.set made.at other.at same reduced h

  module _ {X : Type 0} (part : P) (item : X → SetOf → Item) where
    -- an item of what there is so far
    abbrev remake : X → plan.Made → Program P plan.Made
    remake x so_far = plan.make part so_far.1 (item x so_far.0)

    each-renewed : (x : X) (xs : List X) (so_far : plan.Made) (at : ℕ) (a r : Automaton) → SameSets (Table a) (Table r)
        → Ends (each (x ∷ xs) remake so_far) budget (Table a, at) → Ends (each (x ∷ xs) remake so_far) budget (Table r, at)
    each-renewed x [] so_far at a r like h =
        let (next, first, rest) = Ends-split (remake x so_far) (each [] remake) h in
        let is : (Table a, at) ≡ next = Ends-give_is next rest in
        let last = make-renews part so_far.1 (item x so_far.0) (Table a, at) (Table r) like (table-nothing a) (subst (Ends (remake x so_far) budget) (sym is) first) in
        Ends-bind (remake x so_far) (each [] remake) budget (Table r, at) (Table r, at) last (Ends-give budget (Table r, at))
    each-renewed x (y ∷ ys) so_far at a r like h =
        let (next, first, rest) = Ends-split (remake x so_far) (each (y ∷ ys) remake) h in
        Ends-bind (remake x so_far) (each (y ∷ ys) remake) budget next (Table r, at) first (each-renewed y ys next at a r like rest)

    -- where item after item is made of what there is so far, the last one may be reduced
    pub remade-reduced : (x : X) (xs : List X) (so_far : plan.Made) (made other : Made) → IsReducedMade made other
        → Ends (each (x ∷ xs) remake so_far) budget (made_of made) → Ends (each (x ∷ xs) remake so_far) budget (made_of other)
    remade-reduced x xs so_far made other reduced h = made-reduced (each (x ∷ xs) remake so_far) (each-renewed x xs so_far) made other reduced h

  module _ (tracks : List Var) (part : P) where
    abbrev or_else : SetOf → plan.Made → Program P plan.Made
    or_else s next = Ask (Empty (s ∷ [])) (Give next) (plan.compute part next.1 (plan.either tracks s next.0))

    item-renews : (item : Item) (so_far made : plan.Made) → Ends (plan.with_item tracks part item so_far) budget made → Renews (plan.with_item tracks part item) so_far made
    item-renews item so_far made h =
        let (next, one, two) = Ends-split (plan.make part so_far.1 item) (plan.join tracks part so_far.0) h in
        by next one (Ends-asked (Empty (next.0 ∷ [])) (Give (so_far.0, next.1)) (or_else so_far.0 next) budget two)
      where
        -- the next set is not empty, and the one so far is, or both are joined
        later : (next : plan.Made) → Ends (plan.make part so_far.1 item) budget next → (IsEmpty next.0 → ⊥)
            → ((IsEmpty so_far.0 ⊎ ⊥) × Ends {P = P} {A = plan.Made} (Give next) budget made)
            ⊎ (((IsEmpty so_far.0 → ⊥) × Unit {0}) × Ends (plan.compute part next.1 (plan.either tracks so_far.0 next.0)) budget made)
            → (t : SetOf) → SameSets made.0 t → Ends (plan.with_item tracks part item so_far) budget (t, made.1)
        later next one some (inl (inl empty, gives)) t like =
            let is : made ≡ next = Ends-give_is next gives in
            let like_next = subst (λ (m : plan.Made). SameSets m.0 t) is like in
            let some_t : IsEmpty t → ⊥ = λ none. some (λ tuple k. none tuple ((like_next tuple).0 k)) in
            let not_nothing : next.0 ≡ Nothing → ⊥ = λ nothing. some (subst (λ (s : SetOf). IsEmpty s) (sym nothing) (λ tuple k. k)) in
            let first = make-renews part so_far.1 item next t like_next not_nothing one in
            let joined = Ends-join_right tracks part budget so_far.0 (t, next.1) some_t empty in
            let At : ℕ → Type 0 = λ n. Ends (plan.with_item tracks part item so_far) budget (t, n) in
            subst At (sym (ap (λ (m : plan.Made). m.1) is)) (Ends-bind (plan.make part so_far.1 item) (plan.join tracks part so_far.0) budget (t, next.1) (t, next.1) first joined)
        later next one some (inl (inr never, gives)) t like = absurd never
        later next one some (inr (some_s, computes)) t like =
            let last = compute-renews part next.1 (plan.either tracks so_far.0 next.0) made t like computes in
            Ends-bind (plan.make part so_far.1 item) (plan.join tracks part so_far.0) budget next (t, made.1) one
            (Ends-ask_no (Empty (next.0 ∷ [])) (Give (so_far.0, next.1)) (or_else so_far.0 next) budget (t, made.1) (some, tt)
            (Ends-ask_no (Empty (so_far.0 ∷ [])) (Give next) (plan.compute part next.1 (plan.either tracks so_far.0 next.0)) budget (t, made.1) some_s last))

        by : (next : plan.Made) → Ends (plan.make part so_far.1 item) budget next
            → ((IsEmpty next.0 ⊎ ⊥) × Ends {P = P} {A = plan.Made} (Give (so_far.0, next.1)) budget made)
            ⊎ (((IsEmpty next.0 → ⊥) × Unit {0}) × Ends (or_else so_far.0 next) budget made)
            → Renews (plan.with_item tracks part item) so_far made
        by next one (inl (inl empty, gives)) =
            let is : made ≡ (so_far.0, next.1) = Ends-give_is (so_far.0, next.1) gives in
            inl (
              ap (λ (m : plan.Made). m.0) is,
              λ t.
                  let At : ℕ → Type 0 = λ n. Ends (plan.with_item tracks part item (t, so_far.1)) budget (t, n) in
                  subst At (sym (ap (λ (m : plan.Made). m.1) is))
                  (Ends-bind (plan.make part so_far.1 item) (plan.join tracks part t) budget next (t, next.1) one (Ends-join_left tracks part budget t next empty)),
            )
        by next one (inl (inr never, gives)) = absurd never
        by next one (inr (some, rest)) =
            inr (later next one some.0 (Ends-asked (Empty (so_far.0 ∷ [])) (Give next) (plan.compute part next.1 (plan.either tracks so_far.0 next.0)) budget rest))

    -- a union from nothing may end with any automaton of its set
    unite-renewed : (items : List Item) (from at : ℕ) (a r : Automaton) → SameSets (Table a) (Table r) → Ends (plan.unite tracks part (Nothing, from) items) budget (Table a, at)
        → Ends (plan.unite tracks part (Nothing, from) items) budget (Table r, at)
    unite-renewed items from at a r like h =
        elim (each-renews (plan.with_item tracks part) item-renews items (Nothing, from) (Table a, at) h) [
          | inl (same, any) ↦ absurd (table-nothing a same)
          | inr any ↦ any (Table r) like
        ]

    pub made-renewed : (items : List Item) (from : ℕ) (made other : Made) → IsReducedMade made other → Ends (plan.unite tracks part (Nothing, from) items) budget (made_of made)
        → Ends (plan.unite tracks part (Nothing, from) items) budget (made_of other)
    made-renewed items from made other reduced h = made-reduced (plan.unite tracks part (Nothing, from) items) (unite-renewed items from) made other reduced h

pub set-reduced_on : (tracks : List Var) (set other : Option Automaton) → IsReducedSet set other → IfSome set (IsReachedOn tracks) → IfSome other (IsSetOn tracks)
set-reduced_on tracks None other none on = subst (λ (o : Option Automaton). IfSome o (IsSetOn tracks)) (sym none) tt
set-reduced_on tracks (Some a) other (r, is, reduction) on = subst (λ (o : Option Automaton). IfSome o (IsSetOn tracks)) (sym is) (reduction.set tracks on)
