-- The number of words that And f (Not g) distinguishes is at most the product of the numbers of f and g.
use Rattle.std.proofs.Common.{◌≡◌, ◌≢◌, ℕ, suc, ◌+◌, ◌*◌, ◌/◌, ◌<◌, ◌≤◌, List, [], ◌∷◌, ◌++◌, length, map, All, AllPairs, get_or, None, refl, sym, ap, ◌∙◌, subst, inl, inr, arith}
use Rattle.std.proofs.Math.Nat.{mul-le-mul_right}
use Rattle.std.proofs.lemmas.Nat.{div-mul-add}
use Rattle.std.specs.Int.{bit_at}
use Rattle.std.proofs.lemmas.Bool.Decides.{Decides-eqb}
use Rattle.std.proofs.lemmas.List.{length-map, get_or-map}
use Rattle.std.proofs.lemmas.List.Elements.{All-map, All-contains}
use Rattle.std.proofs.lemmas.Map.Made.{IsDistinct-from_AllPairs, is_member-Decides}
use Rattle.std.proofs.lemmas.Map.Steps.{length-le_from_distinct_below}
use Rattle.track_word.specs.declared.tracks.Var.{Var}
use Rattle.track_word.specs.Word.{IsWord}
use Rattle.track_word.specs.Tracks.{place, with_vars, restrict, part_of}
use Rattle.auto_core.specs.Automaton.{Automaton, IsAutomaton, state_of, Accepts}
use Rattle.auto_core.specs.Spread.{SameResidual, AlikeInBoth, HasMoreClasses}
use Rattle.auto_core.proofs.States.{state_within, same_residual}
use Rattle.lin_formula.specs.Tree.{Tree, And, Not, free_vars, steps}
use Rattle.lin_formula.specs.Holds.{Sets}
use Rattle.lin_formula.specs.Free.{IsOneOf}
use Rattle.lin_formula.proofs.FreeVars.{one_of-with_vars}
use Rattle.formula_auto.specs.Step.{Says, Exceeds, StaysWithin}
use Rattle.formula_auto.specs.Decides.{Decides}
use Rattle.line_engine.specs.Sizes.{TellsApart, HasSize}
use Rattle.formula_auto.proofs.FirstOvers.{FirstOver-append, FirstOver-from}
use Rattle.formula_auto.proofs.SameWords.{SameWords, IsWord-part, SameResidual-same}
use Rattle.formula_auto.proofs.Values.{bit_at-restrict}
use Rattle.set_plan.proofs.Residuals.{alike-And, alike-Not}

-- an automaton that decides a formula gives each word the number of the state to which its part leads
module _ {a : Automaton} {f : Tree} {e : Sets} (decides : Decides a f e) (valid : IsAutomaton a) (all : List Var) where
  state_at : List ℕ → ℕ
  state_at word = state_of a (part_of all (free_vars f) word)

  alike_at : (v w : List ℕ) → IsWord (length all) v → IsWord (length all) w → state_at v ≡ state_at w
      → SameResidual (length (free_vars f)) (Says f e) (part_of all (free_vars f) v) (part_of all (free_vars f) w)
  unfolding state_at
  alike_at v w is_v is_w same =
      let part_v = part_of all (free_vars f) v in
      let part_w = part_of all (free_vars f) w in
      let of_v = IsWord-part all (free_vars f) is_v in
      let of_w = IsWord-part all (free_vars f) is_w in
      let accepts = same_residual a part_v part_w of_v.nonempty of_w.nonempty same in
      let back : SameWords (length (free_vars f)) (Says f e) (Accepts a) = λ word is. let says = decides.words word is in (says.1, says.0) in
      SameResidual-same (Says f e) back of_v of_w (subst (λ tracks. SameResidual (length tracks) (Accepts a) part_v part_w) decides.tracks accepts)

  state_below : (word : List ℕ) → state_at word < length a.accept
  unfolding state_at
  state_below word = state_within valid (part_of all (free_vars f) word)

pub size-auto : {a : Automaton} {f : Tree} {e : Sets} → Decides a f e → IsAutomaton a → HasSize f e (length a.accept)
size-auto decides valid all = record {
  number = state_at decides valid all;
  below = state_below decides valid all;
  alike = alike_at decides valid all;
}

-- the part of a part is the part of the whole
restrict-twice : (all hs fs : List Var) (letter : ℕ) → ((x : Var) → IsOneOf x fs → IsOneOf x hs) → restrict hs fs (restrict all hs letter) ≡ restrict all fs letter
restrict-twice all hs [] letter among = refl
restrict-twice all hs (x ∷ fs) letter among =
    let bit : bit_at (restrict all hs letter) (place hs x) ≡ bit_at letter (place all x) = bit_at-restrict all hs x letter (among x (inl refl)) in
    let rest = restrict-twice all hs fs letter (λ y is. among y (inr is)) in
    λ i. bit i + 2 * rest i

part_of-twice : (all hs fs : List Var) (word : List ℕ) → ((x : Var) → IsOneOf x fs → IsOneOf x hs) → part_of hs fs (part_of all hs word) ≡ part_of all fs word
part_of-twice all hs fs [] among = refl
part_of-twice all hs fs (letter ∷ word) among =
    let here = restrict-twice all hs fs letter among in
    let rest = part_of-twice all hs fs word among in
    λ i. here i ∷ rest i

-- pairs of numbers are numbered in rows
row_below : (x y rows row : ℕ) → x < rows → y < row → x * row + y < rows * row
row_below x y rows row first second =
    let most = mul-le-mul_right {m = suc x} {n = rows} row first in
    let next : suc x * row ≡ x * row + row = grind arith in
    omega (arith, most, next, second)

module _ {f g : Tree} {e : Sets} {n m : ℕ} {all : List Var} (left : TellsApart all f e n) (right : TellsApart all g e m) where
  number_of : List ℕ → ℕ
  number_of word = left.number word * m + right.number word

  number_of-below : (word : List ℕ) → number_of word < n * m
  unfolding number_of
  number_of-below word = row_below (left.number word) (right.number word) n m (left.below word) (right.below word)

  same_left : (v w : List ℕ) → number_of v ≡ number_of w → left.number v ≡ left.number w
  unfolding number_of
  same_left v w same =
      sym (div-mul-add (left.number v) m (right.number v) (right.below v)) ∙ ap (λ k. k / m) same
      ∙ div-mul-add (left.number w) m (right.number w) (right.below w)

  same_right : (v w : List ℕ) → number_of v ≡ number_of w → right.number v ≡ right.number w
  unfolding number_of
  same_right v w same = let rows = ap (λ k. k * m) (same_left v w same) in omega (arith, same, rows)

  alike_in_not : (v w : List ℕ) → IsWord (length all) v → IsWord (length all) w → number_of v ≡ number_of w
      → SameResidual (length (free_vars g)) (Says (Not g) e) (part_of all (free_vars g) v) (part_of all (free_vars g) w)
  alike_in_not v w is_v is_w same =
      alike-Not e g (part_of all (free_vars g) v) (part_of all (free_vars g) w) (right.alike v w is_v is_w (same_right v w same))

  alike_in : (v w : List ℕ) → IsWord (length all) v → IsWord (length all) w → number_of v ≡ number_of w
      → AlikeInBoth all (free_vars f) (free_vars g) (Says f e) (Says (Not g) e) v w
  alike_in v w is_v is_w same = record {
    left = left.alike v w is_v is_w (same_left v w same);
    right = alike_in_not v w is_v is_w same;
  }

-- words are alike in a part of a step if their parts over the step's variables are
residual-over : (all hs fs : List Var) (F : List ℕ → Type 0) (v w : List ℕ) → ((x : Var) → IsOneOf x fs → IsOneOf x hs)
    → SameResidual (length fs) F (part_of all fs v) (part_of all fs w) → SameResidual (length fs) F (part_of hs fs (part_of all hs v)) (part_of hs fs (part_of all hs w))
residual-over all hs fs F v w among alike =
    subst (λ u. SameResidual (length fs) F (part_of hs fs (part_of all hs v)) u) (sym (part_of-twice all hs fs w among))
    (subst (λ u. SameResidual (length fs) F u (part_of all fs w)) (sym (part_of-twice all hs fs v among)) alike)

alike-over : (all fs gs : List Var) (F G : List ℕ → Type 0) (v w : List ℕ) → AlikeInBoth all fs gs F G v w
    → AlikeInBoth (with_vars fs gs) fs gs F G (part_of all (with_vars fs gs) v) (part_of all (with_vars fs gs) w)
alike-over all fs gs F G v w alike = record {
  left = residual-over all (with_vars fs gs) fs F v w (λ x is. (one_of-with_vars x fs gs).1 (inl is)) alike.left;
  right = residual-over all (with_vars fs gs) gs G v w (λ x is. (one_of-with_vars x fs gs).1 (inr is)) alike.right;
}

pub size-and_not : {f g : Tree} {e : Sets} {n m : ℕ} → HasSize f e n → HasSize g e m → HasSize (And f (Not g)) e (n * m)
size-and_not {f} {g} {e} left right all =
    let hs = with_vars (free_vars f) (free_vars g) in
    record {
      number = number_of (left all) (right all);
      below = number_of-below (left all) (right all);
      alike = λ v w is_v is_w same.
          alike-And e f (Not g) (part_of all hs v) (part_of all hs w)
          (alike-over all (free_vars f) (free_vars g) (Says f e) (Says (Not g) e) v w (alike_in (left all) (right all) v w is_v is_w same));
    }

-- distinguished words are at most as many as the numbers that distinguish them
few_classes : (tracks bound budget : ℕ) (Alike : List ℕ → List ℕ → Type 0) (number_at : List ℕ → ℕ) → ((word : List ℕ) → number_at word < bound)
    → ((v w : List ℕ) → IsWord tracks v → IsWord tracks w → number_at v ≡ number_at w → Alike v w) → bound ≤ budget → HasMoreClasses tracks Alike budget → ⊥
few_classes tracks bound budget Alike number_at number_below same_number enough more =
    let size = length-map more.words number_at in
    let count = more.count in
    let apart : AllPairs (λ m n. m ≢ n) (map number_at more.words) = λ i j d less within e.
    let inside : j < length more.words = omega (arith, size, within) in
    let first : i < length more.words = omega (arith, less, inside) in
    let numbers = sym (get_or-map number_at more.words i [] d first) ∙ e ∙ get_or-map number_at more.words j [] d inside in
    more.apart i j [] less inside (same_number (get_or more.words i []) (get_or more.words j []) (more.are_words i [] first) (more.are_words j [] inside) numbers) in
    let below : All (λ n. n < bound) (map number_at more.words) =
    All-map (λ n. n < bound) number_at more.words (λ i d h. number_below (get_or more.words i d)) in
    let most =
    length-le_from_distinct_below (map number_at more.words) bound (IsDistinct-from_AllPairs Decides-eqb (map number_at more.words) apart)
    (λ n h. All-contains (λ m. m < bound) (map number_at more.words) n below ((is_member-Decides Decides-eqb (map number_at more.words) n).0 h)) in
    omega (arith, size, count, most, enough)

pub within-by_size : {f g : Tree} {e : Sets} {n m budget : ℕ} → HasSize f e n → HasSize g e m → n * m ≤ budget → ¬ Exceeds (And f (Not g)) e budget
unfolding Exceeds
within-by_size {f} {g} {e} {n} {m} {budget} left right enough more =
    let hs = with_vars (free_vars f) (free_vars g) in
    few_classes (length hs) (n * m) budget (AlikeInBoth hs (free_vars f) (free_vars g) (Says f e) (Says (Not g) e)) (number_of (left hs) (right hs))
    (number_of-below (left hs) (right hs)) (alike_in (left hs) (right hs)) enough more

-- no step of the two parts exceeds the budget, and the last one does not
pub stays-and_not : (f g : Tree) (e : Sets) (budget : ℕ) → StaysWithin f e budget → StaysWithin g e budget → ¬ Exceeds (And f (Not g)) e budget
    → StaysWithin (And f (Not g)) e budget
stays-and_not f g e budget left right within =
    let second = FirstOver-from (steps g) e budget 1 (1 + length (steps f)) right in
    let parts = FirstOver-append (steps f) (steps g) e budget 1 None left second in
    FirstOver-append (steps f ++ steps g) (And f (Not g) ∷ []) e budget 1 None parts (inr (within, refl))
