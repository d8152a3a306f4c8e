-- Programs that are made of programs that go on alike go on alike. Crates above cite these lemmas.
use Rattle.std.proofs.Common.{◌≡◌, ℕ, ◌+◌, suc, zero, List, [], ◌∷◌, length, refl, ap, inl, inr, subst}
use Rattle.track_word.specs.declared.tracks.Var.{Var}
use Rattle.lin_formula.specs.Tree.{Tree, Among, Not, And, Or, steps}
use Rattle.lin_formula.specs.SetOf.{SetOf, Nothing}
use Rattle.set_plan.specs.Program.{Item, Program, Give, Compute, Ask, Empty, bind, each}
use Rattle.set_plan.specs.Unite.{Made, compute, make, join, unite, with_item, without, either, difference, two}
use Rattle.set_plan.specs.Same.{SameSets, SameItem, SameSteps}
use Rattle.set_plan.proofs.Alike.{Alike, SameSets-self, SameQuestion}
use Rattle.set_plan.proofs.SameSets.{SameItem-sets}

pub bind-alike : {P A B C D : Type 0} (R : A → B → Type 0) (S : C → D → Type 0) (m : Program P A) (n : Program P B) (f : A → Program P C)
    (g : B → Program P D)
    → Alike R m n → ((a : A) (b : B) → R a b → Alike S (f a) (g b)) → Alike S (bind m f) (bind n g)
bind-alike R S (Give a) (Give b) f g same go = go a b same
bind-alike R S (Compute d next) (Compute e more) f g (part, at, item, rest) go = (part, at, item, λ s t same. bind-alike R S (next s) (more t) f g (rest s t same) go)
bind-alike R S (Ask q if_yes if_no) (Ask r or_yes or_no) f g (same, yes_go, no_go) go = (same, bind-alike R S if_yes or_yes f g yes_go go, bind-alike R S if_no or_no f g no_go go)
bind-alike R S (Give c) (Compute e more) f g same go = absurd same
bind-alike R S (Give c) (Ask r or_yes or_no) f g same go = absurd same
bind-alike R S (Compute d next) (Give b) f g same go = absurd same
bind-alike R S (Compute d next) (Ask r or_yes or_no) f g same go = absurd same
bind-alike R S (Ask q if_yes if_no) (Give b) f g same go = absurd same
bind-alike R S (Ask q if_yes if_no) (Compute e more) f g same go = absurd same

-- sets of the same tuples, and the same number
pub record SameMade (m n : Made) : Type 0 where
  pub sets : SameSets m.0 n.0
  pub at : m.1 ≡ n.1

pub Empty-alike : (s t : SetOf) → SameSets s t → SameQuestion (Empty (s ∷ [])) (Empty (t ∷ []))
Empty-alike s t same = record {
  yes = (
    λ h. elim h [ inl empty ↦ inl (λ tuple k. empty tuple ((same tuple).1 k)) | inr never ↦ absurd never ],
    λ h. elim h [ inl empty ↦ inl (λ tuple k. empty tuple ((same tuple).0 k)) | inr never ↦ absurd never ],
  );
  no = (
    λ h. (λ empty. h.0 (λ tuple k. empty tuple ((same tuple).0 k)), tt),
    λ h. (λ empty. h.0 (λ tuple k. empty tuple ((same tuple).1 k)), tt),
  );
}

pub same-count : (fs gs : List Tree) (d e : ℕ → SetOf) → SameSteps fs d gs e → length fs ≡ length gs
same-count [] [] d e same = refl
same-count [] (g ∷ gs) d e same = absurd same
same-count (f ∷ fs) [] d e same = absurd same
same-count (f ∷ fs) (g ∷ gs) d e same = ap (λ n. suc n) (same-count fs gs d e same.1)

pub compute-alike : {P : Type 0} (part : P) (at : ℕ) (i j : Item) → SameItem i j → Alike SameMade (compute part at i) (compute part at j)
compute-alike part at i j same =
    (refl, refl, same, λ s t sets. record { sets = sets; at = ap (λ n. at + n) (same-count (steps i.formula) (steps j.formula) i.sets j.sets same.steps) })

pub make-alike : {P : Type 0} (part : P) (at : ℕ) (i j : Item) → SameItem i j → Alike SameMade (make part at i) (make part at j)
make-alike part at i j same =
    (record { yes = same.positives.some; no = same.positives.none }, record { sets = SameSets-self Nothing; at = refl }, compute-alike part at i j same)

-- the same formulas over sets of the same tuples
pub two-same : (s t u v : SetOf) → SameSets s t → SameSets u v → (k : ℕ) → SameSets (two s u k) (two t v k)
two-same s t u v first second zero = first
two-same s t u v first second (suc k) = second

pub join-alike : {P : Type 0} (tracks : List Var) (part : P) (s t : SetOf) (m n : Made) → SameSets s t → SameMade m n → Alike SameMade (join tracks part s m) (join tracks part t n)
join-alike tracks part s t m n first second =
    let At : ℕ → Type 0 = λ k. Alike SameMade (join tracks part s (m.0, m.1)) (join tracks part t (n.0, k)) in
    subst At second.at (
      Empty-alike m.0 n.0 second.sets,
      record { sets = first; at = refl },
      (
        Empty-alike s t first,
        record { sets = second.sets; at = refl },
        compute-alike part m.1 (either tracks s m.0) (either tracks t n.0) (SameItem-sets (Or (Among 0 tracks) (Among 1 tracks)) (two s m.0) (two t n.0) (two-same s t m.0 n.0 first second.sets)),
      ),
    )

-- item by item the same
abbrev pub SameItems : List Item → List Item → Type 0
SameItems [] [] = Unit {0}
SameItems [] (j ∷ js) = ⊥
SameItems (i ∷ is) [] = ⊥
SameItems (i ∷ is) (j ∷ js) = SameItem i j × SameItems is js

with_item-alike : {P : Type 0} (tracks : List Var) (part : P) {m n : Made} {i j : Item} → SameMade m n → SameItem i j → Alike SameMade (with_item tracks part i m) (with_item tracks part j n)
with_item-alike tracks part {m} {n} {i} {j} same item =
    let At : ℕ → Type 0 = λ k. Alike SameMade (with_item tracks part i m) (with_item tracks part j (n.0, k)) in
    subst At same.at
    (bind-alike SameMade SameMade (make part m.1 i) (make part m.1 j) (join tracks part m.0) (join tracks part n.0)
    (make-alike part m.1 i j item) (λ a b next. join-alike tracks part m.0 n.0 a b same.sets next))

pub unite-alike : {P : Type 0} (tracks : List Var) (part : P) (m n : Made) (is js : List Item) → SameMade m n → SameItems is js → Alike SameMade (unite tracks part m is) (unite tracks part n js)
unite-alike tracks part m n [] [] same items = same
unite-alike tracks part m n [] (j ∷ js) same items = absurd items
unite-alike tracks part m n (i ∷ is) [] same items = absurd items
unite-alike tracks part m n (i ∷ is) (j ∷ js) same (item, items) =
    bind-alike SameMade SameMade (with_item tracks part i m) (with_item tracks part j n) (each is (with_item tracks part)) (each js (with_item tracks part))
    (with_item-alike tracks part same item) (λ c d more. unite-alike tracks part c d is js more items)

pub without-alike : {P : Type 0} (tracks : List Var) (part : P) (s t u v : SetOf) → SameSets s t → SameSets u v → Alike SameMade (without tracks part s u) (without tracks part t v)
without-alike tracks part s t u v first second = (
  Empty-alike u v second,
  record { sets = first; at = refl },
  make-alike part 1 (difference tracks s u) (difference tracks t v) (SameItem-sets (And (Among 0 tracks) (Not (Among 1 tracks))) (two s u) (two t v) (two-same s t u v first second)),
)
