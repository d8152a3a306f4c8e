-- What "some integer" says of a word: that some lift of it is accepted. Other crates cite these lemmas.
use Rattle.std.proofs.Common.{◌≡◌, ◌≢◌, ◌↔◌, ℕ, suc, ◌<◌, List, [], ◌∷◌, length, map, Bool, true, false, if◌then◌else◌, ◌==◌, ℤ, refl, sym, ap, ◌∙◌, subst, inl, inr, arith, eq-eqb}
use Rattle.std.specs.List.{AllPairs, slice_index_or}
use Rattle.std.proofs.lemmas.Bool.{eqb-true}
use Rattle.std.proofs.lemmas.List.Kept.{AllPairs-from_increasing}
use Rattle.track_word.specs.declared.tracks.Var.{Var}
use Rattle.track_word.specs.Word.{IsWord, val, repeated}
use Rattle.track_word.specs.Tracks.{IsAscending, place, without_var, word_values}
use Rattle.track_word.proofs.Repeats.{val-repeated}
use Rattle.auto_core.specs.Automaton.{Automaton}
use Rattle.auto_project.specs.Lifted.{AcceptsLifted}
use Rattle.auto_core.specs.Spread.{IsLift}
use Rattle.lin_formula.specs.Tree.{Tree, Ex, free_vars}
use Rattle.lin_formula.specs.Holds.{Sets, Holds, with_value}
use Rattle.lin_formula.specs.Free.{IsFree, IsOneOf}
use Rattle.lin_formula.proofs.FreeVars.{free_vars-free, free_vars-ascend, one_of-without_var}
use Rattle.lin_formula.proofs.Coincide.{coincide}
use Rattle.formula_auto.specs.Step.{Says}
use Rattle.formula_auto.specs.Decides.{Decides}
use Rattle.formula_auto.specs.Distinct.{Apart}
use Rattle.formula_auto.proofs.Values.{val-part, Cases, Same, Other, cases_of}
use Rattle.formula_auto.proofs.Lifts.{joined, size_of, joined-joins}

pub above : (x : ℕ) (ys : List Var) → ((j : ℕ) → j < length (map (λ v. v.0) ys) → x < slice_index_or (map (λ v. v.0) ys) j 0) → (y : Var) → IsOneOf y ys → x < y.0
above x [] h y is = absurd is
above x (z ∷ zs) h y (inl is) =
    let first : x < z.0 = h 0 (omega arith) in
    let same : y.0 ≡ z.0 = ap (λ (v : Var). v.0) is in
    omega arith
above x (z ∷ zs) h y (inr is) = above x zs (λ j within. h (suc j) (omega arith)) y is

apart-pairs : (ys : List Var) → AllPairs (λ a b. a < b) (map (λ v. v.0) ys) → Apart ys
apart-pairs [] h = tt
apart-pairs (y ∷ ys) h = (
  λ is. let less : y.0 < y.0 = above y.0 ys (λ j within. h 0 (suc j) 0 (omega arith) (omega arith)) y is in absurd (omega arith),
  apart-pairs ys (λ i j d less within. h (suc i) (suc j) d (omega arith) (omega arith)),
)

pub apart-ascending : (ys : List Var) → IsAscending ys → Apart ys
apart-ascending ys h = apart-pairs ys (AllPairs-from_increasing (map (λ v. v.0) ys) h)

pub apart-free : (f : Tree) → Apart (free_vars f)
apart-free f = apart-ascending (free_vars f) (free_vars-ascend f)

pick : (b : Bool) (n p q : ℤ) → (b ≡ true → n ≡ q) → (b ≡ false → p ≡ q) → (if b then n else p) ≡ q
pick true n p q f g = f refl
pick false n p q f g = g refl

module _ (x : Var) (gs : List Var) (word lift : List ℕ) (is_lift : IsLift (without_var x gs) gs word lift) where
  -- a lift has the word's values on the tracks but x
  other_track : (y : Var) → y ≢ x → IsOneOf y gs → val word (place (without_var x gs) y) ≡ val lift (place gs y)
  other_track y other one =
      let there : IsOneOf y (without_var x gs) = (one_of-without_var y x gs).1 (other, one) in
      sym (val-repeated word (place (without_var x gs) y) is_lift.times)
      ∙ (ap (λ w. val w (place (without_var x gs) y)) (sym is_lift.repeats) ∙ val-part gs (without_var x gs) y lift there)

  at_track : (n : ℤ) → (IsOneOf x gs → val lift (place gs x) ≡ n) → {y : Var} → IsOneOf y gs → Cases y x
      → with_value (word_values (without_var x gs) word) x n y.0 ≡ word_values gs lift y.0
  at_track n value {y} one (Same is) =
      let same : y.0 == x.0 ≡ true = eq-eqb y.0 x.0 (ap (λ (v : Var). v.0) is) in
      let there : IsOneOf x gs = subst (λ v. IsOneOf v gs) is one in
      rw same (sym (value there) ∙ ap (λ v. val lift (place gs v)) (sym is))
  at_track n value {y} one (Other other) =
      pick (y.0 == x.0) n (val word (place (without_var x gs) y)) (val lift (place gs y))
      (λ e. absurd (other (ap (λ n. record { 0 = n }) (eqb-true y.0 x.0 e))))
      (λ e. other_track y other one)

  -- a lift has the word's values with the one on x
  pub lift_values : (n : ℤ) → (IsOneOf x gs → val lift (place gs x) ≡ n) → (y : Var) → IsOneOf y gs → with_value (word_values (without_var x gs) word) x n y.0 ≡ word_values gs lift y.0
  lift_values n value y one = at_track n value one (cases_of y x)

module _ (e : Sets) (x : Var) (g : Tree) (word lift : List ℕ) (n : ℤ) (is_lift : IsLift (without_var x (free_vars g)) (free_vars g) word lift)
    (value : IsOneOf x (free_vars g) → val lift (place (free_vars g) x) ≡ n) where
  agree : (y : Var) → IsFree y g → with_value (word_values (without_var x (free_vars g)) word) x n y.0 ≡ word_values (free_vars g) lift y.0
  agree y is = lift_values x (free_vars g) word lift is_lift n value y ((free_vars-free g y).1 is)

  pub says_lift : Holds g e (with_value (word_values (without_var x (free_vars g)) word) x n) ↔ Says g e lift
  says_lift = (
    coincide g e (with_value (word_values (without_var x (free_vars g)) word) x n) (word_values (free_vars g) lift) agree,
    coincide g e (word_values (free_vars g) lift) (with_value (word_values (without_var x (free_vars g)) word) x n) (λ y is. sym (agree y is)),
  )

-- some lift of the word is one of which the body holds
pub Says-Ex : (e : Sets) (x : Var) (g : Tree) {word : List ℕ} → IsWord (length (without_var x (free_vars g))) word
    → Says (Ex x g) e word ↔ ((lift : List ℕ) × IsLift (without_var x (free_vars g)) (free_vars g) word lift × Says g e lift)
Says-Ex e x g {word} is = (
  λ (n, h).
      let lift = joined x (free_vars g) n (repeated (size_of n) word) in
      let joins = joined-joins x (free_vars g) n (apart-free g) is in
      (lift, joins.is_lift, (says_lift e x g word lift n joins.is_lift joins.value).0 h),
  λ (lift, is_lift, says).
      (val lift (place (free_vars g) x), (says_lift e x g word lift (val lift (place (free_vars g) x)) is_lift (λ one. refl)).1 says),
)

pub Decides-Ex : {e : Sets} (x : Var) {g : Tree} {a : Automaton} (m : Automaton) → Decides a g e → m.tracks ≡ without_var x a.tracks
    → AcceptsLifted a m
    → Decides m (Ex x g) e
Decides-Ex {e} x {g} {a} m decides tracks words =
    let tracks_is : m.tracks ≡ without_var x (free_vars g) = tracks ∙ ap (λ t. without_var x t) decides.tracks in
    record {
      tracks = tracks_is;
      words = λ word is.
          let w = words word (subst (λ t. IsWord (length t) word) (sym tracks_is) is) in
          let says = Says-Ex e x g is in (
            λ h. let (lift, is_lift, accepts) = w.0 h in
                let there : IsLift (without_var x (free_vars g)) (free_vars g) word lift =
                subst (λ t. IsLift t (free_vars g) word lift) tracks_is (subst (λ t. IsLift m.tracks t word lift) decides.tracks is_lift) in
                says.1 (lift, there, (decides.words lift there.is_word).0 accepts),
            λ h. let (lift, is_lift, holds) = says.0 h in
                let there : IsLift m.tracks a.tracks word lift =
                subst (λ t. IsLift m.tracks t word lift) (sym decides.tracks) (subst (λ t. IsLift t (free_vars g) word lift) (sym tracks_is) is_lift) in
                w.1 (lift, there, (decides.words lift is_lift.is_word).1 holds),
          );
    }
