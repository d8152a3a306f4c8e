-- The spread of a step is that of the automata of its parts.
use Rattle.std.proofs.Common.{◌↔◌, ℕ, Bool, true, false, IsTrue, List, ◌++◌, length, refl, sym, subst}
use Rattle.track_word.specs.declared.tracks.Var.{Var}
use Rattle.track_word.specs.Tracks.{with_vars}
use Rattle.auto_core.specs.Automaton.{Automaton, Accepts, state_of, is_final}
use Rattle.lin_formula.specs.Tree.{Tree, Not, Ex, free_vars}
use Rattle.lin_formula.specs.Holds.{Sets}
use Rattle.formula_auto.specs.Connected.{connect}
use Rattle.formula_auto.specs.Decides.{Decides}
use Rattle.auto_bool.specs.declared.connective.Connective.{Connective}
use Rattle.auto_bool.specs.declared.connective.Connective.TheVariants.{And, Or, AndNot}
use Rattle.auto_core.specs.Spread.{SameResidual, AlikeInBoth, BothSpreadExceeds, ExSpreadExceeds}
use Rattle.formula_auto.specs.Step.{Says, Exceeds}
use Rattle.formula_auto.proofs.SameWords.{SameWords, more_classes, BothSpread-same, ExSpread-same}

stable_true : (b : Bool) → ((IsTrue b → ⊥) → ⊥) → IsTrue b
stable_true true h = refl
stable_true false h = absurd (h (λ k. cc))

stable-accepts : (a : Automaton) (word : List ℕ) → ((Accepts a word → ⊥) → ⊥) → Accepts a word
stable-accepts a word h = stable_true (is_final a (state_of a word)) h

-- an automaton decides, so what it does not accept has the residuals of what it accepts
SameResidual-not : {k : ℕ} {F : List ℕ → Type 0} {v w : List ℕ} → SameResidual k F v w → SameResidual k (λ word. ¬ F word) v w
SameResidual-not {F = F} h = record { same = λ letters are. let s = h.same letters are in (λ none p. none (s.1 p), λ none p. none (s.0 p)) }

SameResidual-from_not : {k : ℕ} (a : Automaton) {v w : List ℕ} → SameResidual k (λ word. ¬ Accepts a word) v w → SameResidual k (Accepts a) v w
SameResidual-from_not a {v} {w} h = record {
  same = λ letters are. let s = h.same letters are in (
    λ p. stable-accepts a (w ++ letters) (λ none. s.1 none p),
    λ p. stable-accepts a (v ++ letters) (λ none. s.0 none p),
  );
}

module _ (fs gs : List Var) (F : List ℕ → Type 0) (b : Automaton) (budget : ℕ) where
  BothSpread-not : BothSpreadExceeds fs gs F (Accepts b) budget → BothSpreadExceeds fs gs F (λ word. ¬ Accepts b word) budget
  BothSpread-not =
      more_classes (length (with_vars fs gs)) (AlikeInBoth (with_vars fs gs) fs gs F (Accepts b)) (AlikeInBoth (with_vars fs gs) fs gs F (λ word. ¬ Accepts b word)) budget
      (λ v w is_v is_w alike. record { left = alike.left; right = SameResidual-from_not b alike.right })

  BothSpread-from_not : BothSpreadExceeds fs gs F (λ word. ¬ Accepts b word) budget → BothSpreadExceeds fs gs F (Accepts b) budget
  BothSpread-from_not =
      more_classes (length (with_vars fs gs)) (AlikeInBoth (with_vars fs gs) fs gs F (λ word. ¬ Accepts b word)) (AlikeInBoth (with_vars fs gs) fs gs F (Accepts b)) budget
      (λ v w is_v is_w alike. record { left = alike.left; right = SameResidual-not alike.right })

module _ (e : Sets) (f g : Tree) (a b : Automaton) (budget : ℕ) (left : Decides a f e) (right : Decides b g e) where
  says_left : SameWords (length (free_vars f)) (Says f e) (Accepts a)
  says_left word is = let same = left.words word is in (same.1, same.0)

  says_right : SameWords (length (free_vars g)) (Says g e) (Accepts b)
  says_right word is = let same = right.words word is in (same.1, same.0)

  on_tracks : BothSpreadExceeds a.tracks b.tracks (Accepts a) (Accepts b) budget ↔ BothSpreadExceeds (free_vars f) (free_vars g) (Accepts a) (Accepts b) budget
  on_tracks =
      let Left : List Var → Type 0 = λ fs. BothSpreadExceeds fs b.tracks (Accepts a) (Accepts b) budget in
      let Right : List Var → Type 0 = λ gs. BothSpreadExceeds (free_vars f) gs (Accepts a) (Accepts b) budget in
      (λ h. subst Right right.tracks (subst Left left.tracks h), λ h. subst Left (sym left.tracks) (subst Right (sym right.tracks) h))

  same_spread : BothSpreadExceeds a.tracks b.tracks (Accepts a) (Accepts b) budget ↔ BothSpreadExceeds (free_vars f) (free_vars g) (Says f e) (Says g e) budget
  same_spread = (
    λ h. BothSpread-same _ _ _ _ _ _ budget left.words right.words (on_tracks.0 h),
    λ h. on_tracks.1 (BothSpread-same _ _ _ _ _ _ budget says_left says_right h),
  )

  says_not : SameWords (length (free_vars g)) (λ word. ¬ Accepts b word) (Says (Not g) e)
  says_not word is = let same = right.words word is in (λ h says. h (same.1 says), λ h accepts. h (same.0 accepts))

  not_says : SameWords (length (free_vars g)) (Says (Not g) e) (λ word. ¬ Accepts b word)
  not_says word is = let same = says_not word is in (same.1, same.0)

  same_spread-not : BothSpreadExceeds a.tracks b.tracks (Accepts a) (Accepts b) budget ↔ BothSpreadExceeds (free_vars f) (free_vars g) (Says f e) (Says (Not g) e) budget
  same_spread-not = (
    λ h. BothSpread-same _ _ _ _ _ _ budget left.words says_not (BothSpread-not (free_vars f) (free_vars g) (Accepts a) b budget (on_tracks.0 h)),
    λ h. on_tracks.1 (BothSpread-from_not (free_vars f) (free_vars g) (Accepts a) b budget (BothSpread-same _ _ _ _ _ _ budget says_left not_says h)),
  )

  -- what a product tells of its automata is what is asked of the step
  pub Exceeds-connect : (connective : Connective) → BothSpreadExceeds a.tracks b.tracks (Accepts a) (Accepts b) budget ↔ Exceeds (connect connective f g) e budget
  unfolding Exceeds
  Exceeds-connect And = same_spread
  Exceeds-connect Or = same_spread
  Exceeds-connect AndNot = same_spread-not

-- and `forget` of the step Ex
pub Exceeds-Ex : (e : Sets) (x : Var) (g : Tree) (a : Automaton) (budget : ℕ) → Decides a g e → ExSpreadExceeds x a.tracks (Accepts a) budget ↔ Exceeds (Ex x g) e budget
unfolding Exceeds
Exceeds-Ex e x g a budget decides =
    let At : List Var → Type 0 = λ gs. ExSpreadExceeds x gs (Accepts a) budget in
    let back : SameWords (length (free_vars g)) (Says g e) (Accepts a) = λ word is. let same = decides.words word is in (same.1, same.0) in (
      λ h. ExSpread-same x _ _ _ budget decides.words (subst At decides.tracks h),
      λ h. subst At (sym decides.tracks) (ExSpread-same x _ _ _ budget back h),
    )
