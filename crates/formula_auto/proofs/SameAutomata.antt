-- What is true of an automaton by its words alone.
use Rattle.std.proofs.Common.{ℕ, List, length, sym, subst}
use Rattle.track_word.specs.declared.tracks.Var.{Var}
use Rattle.track_word.specs.Word.{IsWord}
use Rattle.auto_core.specs.Automaton.{Automaton, Accepts}
use Rattle.auto_core.specs.Spread.{BothSpreadExceeds, ExSpreadExceeds}
use Rattle.lin_formula.specs.Tree.{Tree}
use Rattle.lin_formula.specs.Holds.{Sets}
use Rattle.formula_auto.specs.Decides.{Decides}
use Rattle.auto_bool.specs.Words.{StepExceeds}
use Rattle.auto_project.specs.Lifted.{ForgettingExceeds}
use Rattle.formula_auto.specs.Nodes.{AcceptSame, DecidesEx, DecidesBoth}
use Rattle.auto_bool.specs.declared.connective.Connective.{Connective}
use Rattle.formula_auto.proofs.SameWords.{SameWords, BothSpread-same, ExSpread-same}
use Rattle.formula_auto.proofs.Parts.{Decides-same}

pub back : {a c : Automaton} → AcceptSame a c → AcceptSame c a
back same = record {
  tracks = sym same.tracks;
  words = λ word is. let w = same.words word (subst (λ t. IsWord (length t) word) same.tracks is) in (w.1, w.0);
}

pub still_decides : {a c : Automaton} {f : Tree} {e : Sets} → AcceptSame a c → Decides a f e → Decides c f e
still_decides same decides = Decides-same decides same.tracks same.words

words_of : {a c : Automaton} → AcceptSame a c → SameWords (length a.tracks) (Accepts a) (Accepts c)
words_of same word is = let w = same.words word is in (w.1, w.0)

-- the spread of a step too
pub both_exceed : {a b c d : Automaton} (budget : ℕ) → AcceptSame a c → AcceptSame b d → StepExceeds a b budget → StepExceeds c d budget
both_exceed {a = a} {b = b} {c = c} {d = d} budget left right h =
    let Left : List Var → Type 0 = λ fs. BothSpreadExceeds fs b.tracks (Accepts c) (Accepts d) budget in
    let Right : List Var → Type 0 = λ gs. BothSpreadExceeds c.tracks gs (Accepts c) (Accepts d) budget in
    subst Right (sym right.tracks) (subst Left (sym left.tracks) (BothSpread-same a.tracks b.tracks _ _ _ _ budget (words_of left) (words_of right) h))

pub ex_exceeds : {a c : Automaton} (x : Var) (budget : ℕ) → AcceptSame a c → ForgettingExceeds x a budget → ForgettingExceeds x c budget
ex_exceeds {a = a} {c = c} x budget same h =
    let At : List Var → Type 0 = λ gs. ExSpreadExceeds x gs (Accepts c) budget in
    subst At (sym same.tracks) (ExSpread-same x a.tracks _ _ budget (words_of same) h)

pub both_of_same : (connective : Connective) {a b c d m : Automaton} → AcceptSame a c → AcceptSame b d → DecidesBoth connective c d m → DecidesBoth connective a b m
both_of_same connective left right decides f g e one other = decides f g e (still_decides left one) (still_decides right other)

pub ex_to_same : (x : Var) {a m n : Automaton} → AcceptSame m n → DecidesEx x a m → DecidesEx x a n
ex_to_same x same decides f e part = still_decides same (decides f e part)
