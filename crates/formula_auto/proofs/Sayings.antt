-- Formulas that say the same. Crates above cite these lemmas.
use Rattle.std.proofs.Common.{◌⊎◌, ℕ, List, length, refl, sym, ap, ◌∙◌, subst, inl, inr}
use Rattle.track_word.specs.declared.tracks.Var.{Var}
use Rattle.track_word.specs.Word.{IsWord}
use Rattle.track_word.specs.Tracks.{with_vars, word_values}
use Rattle.auto_core.specs.Automaton.{Automaton}
use Rattle.lin_formula.specs.Tree.{Tree, And, free_vars}
use Rattle.lin_formula.specs.Free.{IsOneOf}
use Rattle.lin_formula.specs.Holds.{Holds}
use Rattle.lin_formula.specs.SetOf.{SetOf, members}
use Rattle.lin_formula.proofs.FreeVars.{free_vars-ascend, one_of-with_vars}
use Rattle.formula_auto.specs.Decides.{Decides}
use Rattle.formula_auto.specs.Saying.{SaysTheSame}
use Rattle.formula_auto.proofs.Variables.{same-ascending}

-- what decides the one decides the other
pub decides-says : {f g : Tree} (e : ℕ → SetOf) {a : Automaton} → SaysTheSame f g → Decides a g (members e) → Decides a f (members e)
decides-says {f} {g} e same decides = record {
  tracks = decides.tracks ∙ sym same.vars;
  words = λ word is.
      let w = decides.words word (subst (λ t. IsWord (length t) word) same.vars is) in
      let says = same.holds e (word_values (free_vars f) word) in
      let At : List Var → Type 0 = λ t. Holds g (members e) (word_values t word) in (
        λ h. says.1 (subst At (sym same.vars) (w.0 h)),
        λ h. w.1 (subst At same.vars (says.0 h)),
      );
}

-- And may be put together from the right
module _ (f g h : Tree) where
  is_one : (x : Var) (some others : List Var) → IsOneOf x (with_vars some others) → IsOneOf x some ⊎ IsOneOf x others
  is_one x some others = (one_of-with_vars x some others).0

  of_one : (x : Var) (some others : List Var) → IsOneOf x some ⊎ IsOneOf x others → IsOneOf x (with_vars some others)
  of_one x some others = (one_of-with_vars x some others).1

  forth : (x : Var) → IsOneOf x (free_vars (And (And f g) h)) → IsOneOf x (free_vars (And f (And g h)))
  forth x one = elim (is_one x (free_vars (And f g)) (free_vars h) one) [
    | inl both ↦ elim (is_one x (free_vars f) (free_vars g) both) [
      | inl l ↦ of_one x (free_vars f) (free_vars (And g h)) (inl l)
      | inr m ↦ of_one x (free_vars f) (free_vars (And g h)) (inr (of_one x (free_vars g) (free_vars h) (inl m)))
    ]
    | inr r ↦ of_one x (free_vars f) (free_vars (And g h)) (inr (of_one x (free_vars g) (free_vars h) (inr r)))
  ]

  back : (x : Var) → IsOneOf x (free_vars (And f (And g h))) → IsOneOf x (free_vars (And (And f g) h))
  back x one = elim (is_one x (free_vars f) (free_vars (And g h)) one) [
    | inl l ↦ of_one x (free_vars (And f g)) (free_vars h) (inl (of_one x (free_vars f) (free_vars g) (inl l)))
    | inr both ↦ elim (is_one x (free_vars g) (free_vars h) both) [
      | inl m ↦ of_one x (free_vars (And f g)) (free_vars h) (inl (of_one x (free_vars f) (free_vars g) (inr m)))
      | inr r ↦ of_one x (free_vars (And f g)) (free_vars h) (inr r)
    ]
  ]

  pub and-from_right : SaysTheSame (And (And f g) h) (And f (And g h))
  and-from_right = record {
    vars = same-ascending _ _ (free_vars-ascend (And (And f g) h)) (free_vars-ascend (And f (And g h))) forth back;
    holds = λ e v. (λ k. (k.0.0, (k.0.1, k.1)), λ k. ((k.0, k.1.0), k.1.1));
  }

pub and-says : {f g : Tree} (h : Tree) → SaysTheSame f g → SaysTheSame (And f h) (And g h)
and-says h same = record {
  vars = ap (λ t. with_vars t (free_vars h)) same.vars;
  holds = λ e v. let s = same.holds e v in (λ k. (s.0 k.0, k.1), λ k. (s.1 k.0, k.1));
}

pub says-again : {f g h : Tree} → SaysTheSame f g → SaysTheSame g h → SaysTheSame f h
says-again one other = record {
  vars = one.vars ∙ other.vars;
  holds = λ e v. let s = one.holds e v in let t = other.holds e v in (λ k. t.0 (s.0 k), λ k. s.1 (t.1 k));
}

pub says-itself : (f : Tree) → SaysTheSame f f
says-itself f = record { vars = refl; holds = λ e v. (λ h. h, λ h. h) }
