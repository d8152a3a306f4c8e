-- Words that are alike in the parts of a formula are alike in the whole.
use Rattle.std.proofs.Common.{◌≡◌, ◌≢◌, ◌↔◌, ℕ, zero, suc, ◌<◌, ◌^◌, List, [], ◌∷◌, ◌++◌, length, map, refl, sym, ap, ◌∙◌, subst, inl, inr}
use Rattle.std.specs.List.{All, slice_index_or}
use Rattle.std.proofs.lemmas.List.{map-append}
use Rattle.std.proofs.lemmas.List.Elements.{All-cons, All-head, All-map, All-nil, All-tail}
use Rattle.track_word.specs.declared.tracks.Var.{Var}
use Rattle.track_word.specs.Word.{IsWord, repeat_first, repeated}
use Rattle.track_word.specs.Tracks.{part_of, restrict, with_vars, without_var, word_values}
use Rattle.track_word.proofs.Repeats.{repeated_some}
use Rattle.auto_core.specs.Spread.{AlikeInBoth, AlikeLifted, IsLift, LiftsInto, SameResidual}
use Rattle.auto_core.proofs.Restricted.{restrict-below}
use Rattle.lin_formula.specs.Tree.{Tree, Not, And, Or, Ex, free_vars}
use Rattle.lin_formula.specs.Holds.{Holds, Sets}
use Rattle.formula_auto.specs.Step.{Says}
use Rattle.formula_auto.proofs.Parts.{Holds-part}
use Rattle.formula_auto.proofs.Projections.{Says-Ex}
use Rattle.formula_auto.proofs.SameWords.{IsWord-append}

-- in a part
module _ (f : Tree) (e : Sets) (all : List Var) (v w : List ℕ) (alike : SameResidual (length (free_vars f)) (Says f e) (part_of all (free_vars f) v) (part_of all (free_vars f) w)) where
  same_holds : (letters : List ℕ) → Holds f e (word_values all (v ++ letters)) ↔ Holds f e (word_values all (w ++ letters))
  same_holds letters =
      let cut = restrict all (free_vars f) in
      let below = All-map (λ l. l < 2 ^ length (free_vars f)) cut letters (λ k d within. restrict-below all (free_vars f) (slice_index_or letters k d)) in
      let same = alike.same (map cut letters) below in
      let at_v = Holds-part f e all (v ++ letters) in
      let at_w = Holds-part f e all (w ++ letters) in
      let split_v : part_of all (free_vars f) (v ++ letters) ≡ part_of all (free_vars f) v ++ map cut letters = map-append cut v letters in
      let split_w : part_of all (free_vars f) (w ++ letters) ≡ part_of all (free_vars f) w ++ map cut letters = map-append cut w letters in (
        λ h. at_w.1 (subst (Says f e) (sym split_w) (same.0 (subst (Says f e) split_v (at_v.0 h)))),
        λ h. at_v.1 (subst (Says f e) (sym split_v) (same.1 (subst (Says f e) split_w (at_w.0 h)))),
      )

module _ (e : Sets) (f g : Tree) (v w : List ℕ) (alike : AlikeInBoth (with_vars (free_vars f) (free_vars g)) (free_vars f) (free_vars g) (Says f e) (Says g e) v w) where
  pub alike-And : SameResidual (length (with_vars (free_vars f) (free_vars g))) (Says (And f g) e) v w
  alike-And = record {
    same = λ letters below.
        let left = same_holds f e (with_vars (free_vars f) (free_vars g)) v w alike.left letters in
        let right = same_holds g e (with_vars (free_vars f) (free_vars g)) v w alike.right letters in
        (λ h. (left.0 h.0, right.0 h.1), λ h. (left.1 h.0, right.1 h.1));
  }

  pub alike-Or : SameResidual (length (with_vars (free_vars f) (free_vars g))) (Says (Or f g) e) v w
  alike-Or = record {
    same = λ letters below.
        let left = same_holds f e (with_vars (free_vars f) (free_vars g)) v w alike.left letters in
        let right = same_holds g e (with_vars (free_vars f) (free_vars g)) v w alike.right letters in
        (λ h. elim h [ inl p ↦ inl (left.0 p) | inr p ↦ inr (right.0 p) ], λ h. elim h [ inl p ↦ inl (left.1 p) | inr p ↦ inr (right.1 p) ]);
  }

pub alike-Not : (e : Sets) (f : Tree) (v w : List ℕ) → SameResidual (length (free_vars f)) (Says f e) v w → SameResidual (length (free_vars f)) (Says (Not f) e) v w
alike-Not e f v w alike = record {
  same = λ letters below.
      let same = alike.same letters below in
      (λ h p. h (same.1 p), λ h p. h (same.0 p));
}

-- a list that a map takes to two lists, one after the other
pub record Parted (f : ℕ → ℕ) (xs front back : List ℕ) : Type 0 where
  pub first : List ℕ
  pub last : List ℕ
  pub whole : xs ≡ first ++ last
  pub first_is : map f first ≡ front
  pub last_is : map f last ≡ back

parted : (f : ℕ → ℕ) (xs front back : List ℕ) → map f xs ≡ front ++ back → Parted f xs front back
parted f xs [] back e = record { first = []; last = xs; whole = refl; first_is = refl; last_is = e }
parted f [] (y ∷ front) back e = cc
parted f (x ∷ xs) (y ∷ front) back e =
    let head : f x ≡ y = cc in
    let tail : map f xs ≡ front ++ back = cc in
    let rest = parted f xs front back tail in
    record {
      first = x ∷ rest.first;
      last = rest.last;
      whole = ap (λ (l : List ℕ). x ∷ l) rest.whole;
      first_is = ap (λ (k : ℕ). k ∷ map f rest.first) head ∙ ap (λ (l : List ℕ). y ∷ l) rest.first_is;
      last_is = rest.last_is;
    }

all-first : (P : ℕ → Type 0) (xs ys : List ℕ) → All P (xs ++ ys) → All P xs
all-first P [] ys h = All-nil P
all-first P (x ∷ xs) ys h = All-cons P x xs (All-head P x (xs ++ ys) h) (all-first P xs ys (All-tail P x (xs ++ ys) h))

all-last : (P : ℕ → Type 0) (xs ys : List ℕ) → All P (xs ++ ys) → All P ys
all-last P [] ys h = h
all-last P (x ∷ xs) ys h = all-last P xs ys (All-tail P x (xs ++ ys) h)

-- letters stand after a word, however often its first letter is repeated
again-append : (word letters : List ℕ) → word ≢ [] → repeat_first (word ++ letters) ≡ repeat_first word ++ letters
again-append [] letters some = absurd (some refl)
again-append (sign ∷ word) letters some = refl

repeated-append : (k : ℕ) (word letters : List ℕ) → word ≢ [] → repeated k (word ++ letters) ≡ repeated k word ++ letters
repeated-append zero word letters some = refl
repeated-append (suc k) word letters some = ap repeat_first (repeated-append k word letters some) ∙ again-append (repeated k word) letters (repeated_some word k some).1

module _ (e : Sets) (x : Var) (g : Tree) where
  abbrev gs : List Var
  gs = free_vars g

  abbrev some : List Var
  some = without_var x (free_vars g)

  -- a lift of a word with letters after it is one of the word, with the letters' lift after it
  lift_there : {v w : List ℕ} (letters : List ℕ) → IsWord (length some) v → IsWord (length some) w → LiftsInto some gs (Says g e) v w
      → ((lift : List ℕ) × IsLift some gs (v ++ letters) lift × Says g e lift) → (lift : List ℕ) × IsLift some gs (w ++ letters) lift × Says g e lift
  lift_there {v} {w} letters is_v is_w into (lift, is_lift, says) =
      let cut = restrict gs some in
      let Below : ℕ → Type 0 = λ l. l < 2 ^ length gs in
      let at = parted cut lift (repeated is_lift.times v) letters (is_lift.repeats ∙ repeated-append is_lift.times v letters is_v.nonempty) in
      let below = subst (All Below) at.whole is_lift.is_word.letters in
      let nonempty : at.first ≢ [] = λ none. (repeated_some v is_lift.times is_v.nonempty).1 (sym at.first_is ∙ ap (map cut) none) in
      let first : IsLift some gs v at.first = record {
        is_word = record { nonempty = nonempty; letters = all-first Below at.first at.last below };
        times = is_lift.times;
        repeats = at.first_is;
      } in
      let (other, lifts, alike) = into at.first first in
      let after = all-last Below at.first at.last below in
      let there : IsLift some gs (w ++ letters) (other ++ at.last) = record {
        is_word = IsWord-append at.last lifts.is_word after;
        times = lifts.times;
        repeats = map-append cut other at.last ∙ ap (λ (l : List ℕ). l ++ map cut at.last) lifts.repeats ∙ ap (λ (l : List ℕ). repeated lifts.times w ++ l) at.last_is
            ∙ sym (repeated-append lifts.times w letters is_w.nonempty);
      } in
      (other ++ at.last, there, (alike.same at.last after).0 (subst (Says g e) at.whole says))

  pub alike-Ex : {v w : List ℕ} → IsWord (length some) v → IsWord (length some) w → AlikeLifted some gs (Says g e) v w → SameResidual (length some) (Says (Ex x g) e) v w
  alike-Ex is_v is_w alike = record {
    same = λ letters below.
        let at_v = Says-Ex e x g (IsWord-append letters is_v below) in
        let at_w = Says-Ex e x g (IsWord-append letters is_w below) in (
          λ h. at_w.1 (lift_there letters is_v is_w alike.forth (at_v.0 h)),
          λ h. at_v.1 (lift_there letters is_w is_v alike.back (at_w.0 h)),
        );
  }
