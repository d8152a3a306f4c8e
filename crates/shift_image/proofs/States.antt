-- Words that lead to one state are alike.
use Rattle.std.proofs.Common.{◌≡◌, ℕ, ◌*◌, ◌<◌, ◌≤◌, ◌^◌, List, [], ◌++◌, length, All, arith, sym, subst}
use Rattle.track_word.specs.Word.{IsWord}
use Rattle.auto_core.specs.Automaton.{Automaton, IsAutomaton, state_of}
use Rattle.auto_core.proofs.States.{state_within, same_residual}
use Rattle.auto_core.specs.Spread.{HasMoreClasses}
use Rattle.lin_formula.specs.Tree.{Tree, free_vars}
use Rattle.lin_formula.specs.Holds.{Sets}
use Rattle.formula_auto.specs.Decides.{Decides}
use Rattle.formula_auto.proofs.SameWords.{IsWord-append}
use Rattle.shift_image.specs.States.{SaysAlike, HasMoreResiduals}
use Rattle.shift_image.proofs.Counting.{coloured-bound}

-- fewer colours than words that are told apart
pub few-colours : (tracks : ℕ) (Alike : List ℕ → List ℕ → Type 0) (colours : ℕ) (colour : List ℕ → ℕ)
    → ((w : List ℕ) → IsWord tracks w → colour w < colours)
    → ((v w : List ℕ) → IsWord tracks v → IsWord tracks w → colour v ≡ colour w → Alike v w)
    → (budget : ℕ) → colours ≤ budget → HasMoreClasses tracks Alike budget → ⊥
few-colours tracks Alike colours colour below alike budget few more =
    let one : colours * 1 ≡ colours = omega arith in
    let two = coloured-bound tracks tracks Alike (λ v w. Unit {0}) (λ w. w) colours colour
    (record { below = below; parts = λ w is. is; alike = λ v w is_v is_w same _. alike v w is_v is_w same })
    budget 1 (omega (arith, one, few)) more in
    let count = two.count in
    two.apart 0 1 [] (omega arith) (omega (arith, count)) tt

module _ (a : Automaton) (f : Tree) (e : Sets) (decides : Decides a f e) where
  state-alike : (v w : List ℕ) → IsWord (length (free_vars f)) v → IsWord (length (free_vars f)) w
      → state_of a v ≡ state_of a w → SaysAlike f e v w
  state-alike v w is_v is_w same =
      let alike = same_residual a v w is_v.nonempty is_w.nonempty same in
      record {
        same = λ letters all.
            let s = alike.same letters (subst (λ t. All (λ l. l < 2 ^ length t) letters) (sym decides.tracks) all) in
            let at_v = decides.words (v ++ letters) (IsWord-append letters is_v all) in
            let at_w = decides.words (w ++ letters) (IsWord-append letters is_w all) in
            (λ h. at_w.0 (s.0 (at_v.1 h)), λ h. at_v.0 (s.1 (at_w.1 h)));
      }

  pub states-bound : (budget : ℕ) → IsAutomaton a → length a.accept ≤ budget → HasMoreResiduals f e budget → ⊥
  states-bound budget valid few more =
      few-colours (length (free_vars f)) (SaysAlike f e) (length a.accept) (state_of a)
      (λ w is. state_within valid w) state-alike budget few more
