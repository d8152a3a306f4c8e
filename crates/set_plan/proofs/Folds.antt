-- A program for each element of a list in turn. The crates above cite the four lemmas of what is left of it.
use Rattle.std.proofs.Common.{◌≡◌, ℕ, ◌+◌, ◌<◌, ◌≤◌, List, [], ◌∷◌, length, map, drop, get_or, refl, subst}
use Rattle.std.proofs.lemmas.List.{drop_all}
use Rattle.set_plan.specs.Program.{Program, bind, each}
use Rattle.set_plan.specs.Outcome.{Ends, IsPlanError}
use Rattle.set_plan.specs.declared.stop.PlanError.{PlanError}
use Rattle.set_plan.proofs.Alike.{Alike}
use Rattle.set_plan.proofs.Combined.{bind-alike}
use Rattle.set_plan.proofs.Composition.{Ends-give, Error-bind, LeadsTo, LeadsTo-error, LeadsTo-later, LeadsTo-self}
use Rattle.set_plan.proofs.Items.{drop_front}

module _ {P A X : Type 0} (xs : List X) (f : X → A → Program P A) (first : A) (budget : ℕ) where
  -- with this value after so many elements, what is left leads to the whole
  abbrev pub IsAfter : ℕ → A → Type 0
  IsAfter done a = LeadsTo (each (drop done xs) f a) (each xs f first) budget

  pub each_none : IsAfter 0 first
  each_none = LeadsTo-self (each xs f first) budget

  pub each_ends : (done : ℕ) (a : A) → IsAfter done a → length xs ≤ done → Ends (each xs f first) budget a
  each_ends done a leads all =
      let Left : List X → Type 0 = λ l. LeadsTo (each l f a) (each xs f first) budget in
      (subst Left (drop_all done xs all) leads).ends a (Ends-give budget a)

  module _ (done : ℕ) (x : X) (a : A) (leads : IsAfter done a) (less : done < length xs) (is : x ≡ get_or xs done x) where
    here : LeadsTo (each (x ∷ drop (done + 1) xs) f a) (each xs f first) budget
    here =
        let Left : List X → Type 0 = λ l. LeadsTo (each l f a) (each xs f first) budget in
        subst Left (drop_front xs done x less is) leads

    pub each_more : (b : A) → Ends (f x a) budget b → IsAfter (done + 1) b
    each_more b ends = LeadsTo-later (each (drop (done + 1) xs) f) ends here

    pub each_error : (e : PlanError P) → IsPlanError (f x a) budget e → IsPlanError (each xs f first) budget e
    each_error e error =
        LeadsTo-error here e
        (Error-bind (f x a) (each (drop (done + 1) xs) f) budget e error)

-- over the images of some elements
pub each-map : {P A X Y : Type 0} (g : X → Y) (f : Y → A → Program P A) (xs : List X) (a : A) → each (map g xs) f a ≡ each xs (λ x. f (g x)) a
each-map g f [] a = refl
each-map g f (x ∷ xs) a = λ i. bind (f (g x) a) (λ b. each-map g f xs b i)

-- programs that go on alike at each element
pub each-alike : {P A B X : Type 0} (R : A → B → Type 0) (f : X → A → Program P A) (g : X → B → Program P B)
    → ((x : X) (a : A) (b : B) → R a b → Alike R (f x a) (g x b)) → (xs : List X) (a : A) (b : B) → R a b → Alike R (each xs f a) (each xs g b)
each-alike R f g same [] a b related = related
each-alike R f g same (x ∷ xs) a b related =
    bind-alike R R (f x a) (g x b) (each xs f) (each xs g) (same x a b related) (λ c d later. each-alike R f g same xs c d later)
