-- A spread depends on the sets of words alone.
use Rattle.std.proofs.Common.{◌↔◌, ℕ, ◌^◌, ◌<◌, List, ◌++◌, length, arith}
use Rattle.std.proofs.lemmas.List.Elements.{All-map, All-weaker}
use Rattle.track_word.specs.declared.tracks.Var.{Var}
use Rattle.track_word.specs.Word.{IsWord}
use Rattle.track_word.specs.Tracks.{with_vars, without_var, part_of, restrict}
use Rattle.auto_core.specs.Spread.{SameResidual, AlikeInBoth, LiftsInto, AlikeLifted, HasMoreClasses, BothSpreadExceeds, ExSpreadExceeds}
use Rattle.auto_core.proofs.Restricted.{restrict-below}
use Rattle.auto_bool.proofs.Spreads.{not_nil-map}
pub use Rattle.auto_reduce.proofs.Leads.{IsWord-append}

pub IsWord-part : (all some : List Var) {v : List ℕ} → IsWord (length all) v → IsWord (length some) (part_of all some v)
IsWord-part all some {v} is = record {
  nonempty = not_nil-map (restrict all some) v is.nonempty;
  letters = All-map (λ l. l < 2 ^ length some) (restrict all some) v
      (All-weaker (λ l. l < 2 ^ length all) (λ l. restrict all some l < 2 ^ length some) (λ l h. restrict-below all some l) v is.letters);
}

-- the same words over so many tracks
abbrev pub SameWords : ℕ → (List ℕ → Type 0) → (List ℕ → Type 0) → Type 0
SameWords k F G = (word : List ℕ) → IsWord k word → F word ↔ G word

pub SameResidual-same : {k : ℕ} (F : List ℕ → Type 0) {G : List ℕ → Type 0} {v w : List ℕ} → SameWords k F G → IsWord k v → IsWord k w → SameResidual k G v w → SameResidual k F v w
SameResidual-same F {G = G} {v} {w} same is_v is_w h = record {
  same = λ letters are.
      let at_v = same (v ++ letters) (IsWord-append letters is_v are) in
      let at_w = same (w ++ letters) (IsWord-append letters is_w are) in
      (λ p. at_w.1 ((h.same letters are).0 (at_v.0 p)), λ p. at_v.1 ((h.same letters are).1 (at_w.0 p)));
}

pub more_classes : (tracks : ℕ) (P Q : List ℕ → List ℕ → Type 0) (budget : ℕ) → ((v w : List ℕ) → IsWord tracks v → IsWord tracks w → Q v w → P v w)
    → HasMoreClasses tracks P budget → HasMoreClasses tracks Q budget
more_classes tracks P Q budget back h = record {
  words = h.words;
  count = h.count;
  are_words = h.are_words;
  apart = λ i j d less within alike. h.apart i j d less within (back _ _ (h.are_words i d (omega arith)) (h.are_words j d within) alike);
}

pub BothSpread-same : (fs gs : List Var) (F F' G G' : List ℕ → Type 0) (budget : ℕ) → SameWords (length fs) F F' → SameWords (length gs) G G'
    → BothSpreadExceeds fs gs F G budget → BothSpreadExceeds fs gs F' G' budget
BothSpread-same fs gs F F' G G' budget same_f same_g h =
    more_classes (length (with_vars fs gs)) (AlikeInBoth (with_vars fs gs) fs gs F G) (AlikeInBoth (with_vars fs gs) fs gs F' G') budget
    (λ v w is_v is_w alike. record {
      left = SameResidual-same F same_f (IsWord-part (with_vars fs gs) fs is_v) (IsWord-part (with_vars fs gs) fs is_w) alike.left;
      right = SameResidual-same G same_g (IsWord-part (with_vars fs gs) gs is_v) (IsWord-part (with_vars fs gs) gs is_w) alike.right;
    }) h

lifts_same : (some gs : List Var) (G G' : List ℕ → Type 0) (v w : List ℕ) → SameWords (length gs) G G' → LiftsInto some gs G' v w → LiftsInto some gs G v w
lifts_same some gs G G' v w same h x lift =
    let (y, lifts, alike) = h x lift in
    (y, lifts, SameResidual-same G same lift.is_word lifts.is_word alike)

pub ExSpread-same : (x : Var) (gs : List Var) (G G' : List ℕ → Type 0) (budget : ℕ) → SameWords (length gs) G G' → ExSpreadExceeds x gs G budget → ExSpreadExceeds x gs G' budget
ExSpread-same x gs G G' budget same h =
    more_classes (length (without_var x gs)) (AlikeLifted (without_var x gs) gs G) (AlikeLifted (without_var x gs) gs G') budget
    (λ v w is_v is_w alike. record {
      forth = lifts_same (without_var x gs) gs G G' v w same alike.forth;
      back = lifts_same (without_var x gs) gs G G' w v same alike.back;
    }) h
