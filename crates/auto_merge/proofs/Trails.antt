-- Walks over numbers of places.
use Rattle.std.proofs.Common.{◌≡◌, ℕ, ◌<◌, ◌≤◌, ◌+◌, ◌-◌, ◌*◌, Bool, true, false, not, List, [], ◌∷◌, ◌++◌, length, All, arith, refl, sym, ap, subst}
use Rattle.std.proofs.lemmas.List.{length_push}
use Rattle.std.proofs.lemmas.List.Elements.{All-weaker, All-push}
use Rattle.auto_merge.specs.declared.walk.Trail.{Trail}
use Rattle.auto_merge.specs.Walk.{IsTrail, entered_count, IsEntered}
use Rattle.auto_walk.specs.Rows.{Extends}
use Rattle.auto_walk.proofs.RowLemmas.{length-Extends}
use Rattle.auto_merge.specs.declared.merging.Merging.{Merging}
use Rattle.auto_merge.specs.Merging.{Keeps}
use Rattle.auto_merge.specs.Walk.{IsTrailIn, IsTurned}
use Rattle.auto_merge.proofs.Padded.{entered_few}

-- more numbers are known
pub IsTrail-more : {count more : ℕ} {way : Trail} → count ≤ more → IsTrail count way → IsTrail more way
IsTrail-more {count} {more} {way} longer is = record {
  size = let size = is.size in omega (arith, size, longer);
  within = All-weaker (λ n. n < count) (λ n. n < more) (λ n below. omega (arith, below, longer)) way.numbers.items is.within;
}

-- a number that is entered brings at most two
pub steps-entered : (most : ℕ) {count number : ℕ} {old new : List Bool} → length old ≤ count → number < count → count ≤ most → IsEntered old new number true → (before after : ℕ)
    → after ≤ before + 2 → 2 * (most - entered_count new) + after ≤ 2 * (most - entered_count old) + before
steps-entered most {count} {number} {old} {new} size below room is before after longer =
    let counted = is.new_counted refl in
    let few = entered_few new in
    let enough = is.few count size below in
    omega (arith, counted, few, enough, room, longer)

pub not-true : (b : Bool) → not b ≡ true → b ≡ false
not-true true e = cc
not-true false e = refl

pub not-false : (b : Bool) → not b ≡ false → b ≡ true
not-false true e = refl
not-false false e = cc

pub Extends-longer : {old new : List (List ℕ)} → Extends old new → length old ≤ length new
Extends-longer {old = []} extends = omega arith
Extends-longer {old = place ∷ places} extends = let last = length-Extends (length places) extends (omega arith) in omega (arith, last)

pub IsTrailIn-keeps : {R Spot Seen Memo : Type 0} {places : Seen → List (List ℕ)} {old new : Merging R Spot Seen Memo} {way : Trail} → Keeps places old new → IsTrailIn places old way → IsTrailIn places new way
IsTrailIn-keeps keeps is = IsTrail-more (Extends-longer keeps.numbers) is

-- the second number was not entered
pub IsTurned-new : {old new : Trail} (number next : ℕ) → IsEntered old.entered.items new.entered.items next true → (mid : List ℕ) → mid ≡ old.numbers.items ++ number ∷ [] → new.numbers.items ≡ mid ++ next ∷ []
    → IsTurned number next old new
IsTurned-new {old} {new} number next entered mid first then = record {
  way = λ count below next_below is. record {
    size = entered.few count is.size next_below;
    within =
        subst (All (λ n. n < count)) (sym then)
        (All-push (λ n. n < count) mid next (subst (All (λ n. n < count)) (sym first) (All-push (λ n. n < count) old.numbers.items number is.within below)) next_below);
  };
  left = λ count most next_below room is.
      let one = ap length first in
      let one' = length_push old.numbers.items number in
      let two = ap length then in
      let two' = length_push mid next in
      steps-entered most is.size next_below room entered (length old.numbers.items) (length new.numbers.items) (omega (arith, one, one', two, two'));
}
