-- Which plain subformulas end within the first steps of a formula.
use Rattle.std.proofs.Common.{◌≡◌, ℕ, ◌+◌, ◌-◌, ◌≤◌, ◌<◌, Bool, true, false, ◌&&◌, nat_eq, nat_lt, nat_le, List, [], ◌∷◌, ◌++◌, length, refl, sym, ap, ◌∙◌, subst, inl, inr, arith, length-append, append_assoc, append-nil}
use Rattle.lin_formula.specs.Tree.{Tree, Lin, Value, Among, Not, And, Or, Ex, symbols, steps}
use Rattle.formula_auto.specs.PlainParts.{is_plain, plain_or, plain_within}
use Rattle.formula_auto.specs.Recalled.{is_recalled, recalled_within, recalled_parts, MayBeOneStep}
use Rattle.formula_auto.specs.MemoState.{MemoState, known, counted, with_entry, Passes, IsMemoAfter}
use Rattle.formula_auto.specs.Remembered.{IsStopped}
use Rattle.formula_auto.specs.Connected.{connect}
use Rattle.auto_bool.specs.declared.connective.Connective.{Connective}
use Rattle.auto_bool.specs.declared.connective.Connective.TheVariants as connective
use Rattle.formula_auto.specs.declared.standing.PartPosition.{PartPosition}
use Rattle.formula_auto.specs.declared.standing.Recall.{Recall}
use Rattle.formula_auto.specs.declared.standing.Recall.TheVariants as recall
use Rattle.formula_auto.specs.declared.errors.CompileError.{CompileError}
use Rattle.formula_auto.specs.declared.errors.CompileError.TheVariants.{Over}
use Rattle.track_word.specs.declared.tracks.Var.{Var}

pub and_right : (a b : Bool) → (a && b) ≡ true → b ≡ true
and_right true b h = h
and_right false b h = cc

pub some_step : (f : Tree) → is_plain f ≡ true → 0 < length (steps f)
some_step f h = let k = and_right (nat_eq (length (symbols f)) 0) (nat_lt 0 (length (steps f))) h in grind (arith, k)

-- a plain formula that ends later is not among them
pub plain_later : (f : Tree) (n : ℕ) (parts : List Tree) → is_plain f ≡ true → n < length (steps f) → plain_or f n parts ≡ []
plain_later f n parts h less =
    let k : nat_le (length (steps f)) n ≡ false = grind arith in
    rw (h, k)

-- a plain formula is, where it ends in time
pub plain_whole : (f : Tree) (n : ℕ) (parts : List Tree) → is_plain f ≡ true → length (steps f) ≤ n → plain_or f n parts ≡ f ∷ []
plain_whole f n parts h less =
    let k : nat_le (length (steps f)) n ≡ true = grind arith in
    rw (h, k)

pub not_plain : (f : Tree) (n : ℕ) (parts : List Tree) → is_plain f ≡ false → plain_or f n parts ≡ parts
not_plain f n parts h = rw h

by_plain : (P : Bool → Type 0) (b : Bool) → (b ≡ true → P true) → (b ≡ false → P false) → P b
by_plain P true h k = h refl
by_plain P false h k = k refl

-- nothing ends before the first step
or_none : (f : Tree) (parts : List Tree) → parts ≡ [] → plain_or f 0 parts ≡ []
or_none f parts none =
    by_plain (λ b. is_plain f ≡ b → plain_or f 0 parts ≡ []) (is_plain f)
    (λ yes h. plain_later f 0 parts h (some_step f h))
    (λ no h. not_plain f 0 parts h ∙ none) refl

both_none : (f g : Tree) → plain_within f 0 ≡ [] → plain_within g 0 ≡ [] → plain_within f 0 ++ plain_within g (0 - length (steps f)) ≡ []
both_none f g left right =
    let at : 0 - length (steps f) ≡ 0 = omega arith in
    ap (λ xs. xs ++ plain_within g (0 - length (steps f))) left ∙ (ap (plain_within g) at ∙ right)

pub within-zero : (f : Tree) → plain_within f 0 ≡ []
within-zero (Lin terms rel bound) = refl
within-zero (Value x k) = refl
within-zero (Among set vars) = refl
within-zero (Not f) = or_none (Not f) (plain_within f 0) (within-zero f)
within-zero (And f g) = or_none (And f g) (plain_within f 0 ++ plain_within g (0 - length (steps f))) (both_none f g (within-zero f) (within-zero g))
within-zero (Or f g) = or_none (Or f g) (plain_within f 0 ++ plain_within g (0 - length (steps f))) (both_none f g (within-zero f) (within-zero g))
within-zero (Ex x f) = or_none (Ex x f) (plain_within f 0) (within-zero f)

-- all that there are end within as many steps as there are, or more
or_all : (f : Tree) (n m : ℕ) (xs ys : List Tree) → length (steps f) ≤ n → length (steps f) ≤ m → xs ≡ ys → plain_or f n xs ≡ plain_or f m ys
or_all f n m xs ys fits also same =
    by_plain (λ b. is_plain f ≡ b → plain_or f n xs ≡ plain_or f m ys) (is_plain f)
    (λ yes h. plain_whole f n xs h fits ∙ sym (plain_whole f m ys h also))
    (λ no h. not_plain f n xs h ∙ (same ∙ sym (not_plain f m ys h))) refl

pub both_fit : (f g last : Tree) → length (steps f ++ steps g ++ last ∷ []) ≡ length (steps f) + length (steps g) + 1
both_fit f g last = omega (arith, length-append (steps f ++ steps g) (last ∷ []), length-append (steps f) (steps g))

both_all : (f g : Tree) (n m : ℕ) → length (steps f) + length (steps g) ≤ n → length (steps f) + length (steps g) ≤ m
    → ((i j : ℕ) → length (steps f) ≤ i → length (steps f) ≤ j → plain_within f i ≡ plain_within f j)
    → ((i j : ℕ) → length (steps g) ≤ i → length (steps g) ≤ j → plain_within g i ≡ plain_within g j)
    → plain_within f n ++ plain_within g (n - length (steps f)) ≡ plain_within f m ++ plain_within g (m - length (steps f))
both_all f g n m fits also left right =
    ap (λ xs. xs ++ plain_within g (n - length (steps f))) (left n m (omega arith) (omega arith))
    ∙ ap (λ ys. plain_within f m ++ ys) (right (n - length (steps f)) (m - length (steps f)) (omega arith) (omega arith))

pub within-all : (f : Tree) (n m : ℕ) → length (steps f) ≤ n → length (steps f) ≤ m → plain_within f n ≡ plain_within f m
within-all (Lin terms rel bound) n m fits also = refl
within-all (Value x k) n m fits also = refl
within-all (Among set vars) n m fits also = refl
within-all (Not f) n m fits also = or_all (Not f) n m _ _ fits also (within-all f n m fits also)
within-all (And f g) n m fits also =
    let size = both_fit f g (And f g) in
    or_all (And f g) n m _ _ fits also (both_all f g n m (omega (arith, size)) (omega (arith, size)) (within-all f) (within-all g))
within-all (Or f g) n m fits also =
    let size = both_fit f g (Or f g) in
    or_all (Or f g) n m _ _ fits also (both_all f g n m (omega (arith, size)) (omega (arith, size)) (within-all f) (within-all g))
within-all (Ex x f) n m fits also =
    let size = length-append (steps f) (Ex x f ∷ []) in
    or_all (Ex x f) n m _ _ fits also (within-all f n m (omega (arith, size)) (omega (arith, size)))

-- one list of formulas after another
pub Passes-append : (fs gs hs : List Tree) (n m k : ℕ) (xs ys : List Tree) → Passes fs n xs gs m → Passes gs m ys hs k → Passes fs n (xs ++ ys) hs k
Passes-append fs gs hs n m k [] ys (same, also) further = subst (λ l. Passes l n ys hs k) same (subst (λ j. Passes gs j ys hs k) also further)
Passes-append fs gs hs n m k (x ∷ xs) ys h further =
    elim h [
      | inl (known, rest) ↦ inl (known, Passes-append fs gs hs (counted n) m k xs ys rest further)
      | inr (unknown, rest) ↦ inr (unknown, Passes-append (with_entry fs x) gs hs n m k xs ys rest further)
    ]

pub after-append : {a b c : MemoState} {xs ys : List Tree} → IsMemoAfter a b xs → IsMemoAfter b c ys → IsMemoAfter a c (xs ++ ys)
after-append {a} {b} {c} {xs} {ys} first second = record {
  budget = second.budget ∙ first.budget;
  added = first.added ++ second.added;
  entries = second.entries ∙ (ap (λ l. l ++ second.added) first.entries ∙ append_assoc a.entries first.added second.added);
  passes = Passes-append (known a) (known b) (known c) a.found b.found c.found xs ys first.passes second.passes;
}

pub after-none : (a : MemoState) → IsMemoAfter a a []
after-none a = record { budget = refl; added = []; entries = sym (append-nil a.entries); passes = (refl, refl) }

-- what is looked up of a formula, before its first step and after its last
pub recalled-zero : (r : Recall) (f : Tree) → recalled_within r f 0 ≡ []
recalled-zero recall.Plain f = within-zero f
recalled-zero recall.Nothing f = refl

pub recalled-all : (r : Recall) (f : Tree) (n m : ℕ) → length (steps f) ≤ n → length (steps f) ≤ m → recalled_within r f n ≡ recalled_within r f m
recalled-all recall.Plain f n m fits also = within-all f n m fits also
recalled-all recall.Nothing f n m fits also = refl

-- of a formula of one part
pub record IsOfOne (r : Recall) (h f : Tree) : Type 0 where
  pub parts : (n : ℕ) → recalled_within r h n ≡ recalled_within r f n
  pub size : length (steps f) ≤ length (steps h)

pub of_one-not : (r : Recall) (f : Tree) → is_recalled r (Not f) ≡ false → IsOfOne r (Not f) f
of_one-not recall.Plain f h = record { parts = λ n. not_plain (Not f) n (plain_within f n) h; size = omega arith }
of_one-not recall.Nothing f h = record { parts = λ n. refl; size = omega arith }

pub of_one-ex : (r : Recall) (x : Var) (f : Tree) → is_recalled r (Ex x f) ≡ false → IsOfOne r (Ex x f) f
of_one-ex recall.Plain x f h = record { parts = λ n. not_plain (Ex x f) n (plain_within f n) h; size = omega (arith, length-append (steps f) (Ex x f ∷ [])) }
of_one-ex recall.Nothing x f h = record { parts = λ n. refl; size = omega (arith, length-append (steps f) (Ex x f ∷ [])) }

-- of a formula of two parts, not looked up itself, what is looked up of these
pub record IsOfTwo (r : Recall) (h f g : Tree) : Type 0 where
  pub parts : (n : ℕ) → recalled_within r h n ≡ recalled_within r f n ++ recalled_within r g (n - length (steps f))
  pub size : length (steps h) ≡ length (steps f) + length (steps g) + 1

pub of_two : (r : Recall) (connective : Connective) (f g : Tree) → is_recalled r (connect connective f g) ≡ false → MayBeOneStep r connective g → IsOfTwo r (connect connective f g) f g
of_two recall.Plain connective.And f g h one = record { parts = λ n. not_plain (And f g) n (plain_within f n ++ plain_within g (n - length (steps f))) h; size = both_fit f g (And f g) }
of_two recall.Plain connective.Or f g h one = record { parts = λ n. not_plain (Or f g) n (plain_within f n ++ plain_within g (n - length (steps f))) h; size = both_fit f g (Or f g) }
of_two recall.Plain connective.AndNot f g h one = record {
  parts = λ n.
      not_plain (And f (Not g)) n (plain_within f n ++ plain_within (Not g) (n - length (steps f))) h
      ∙ ap (λ ys. plain_within f n ++ ys) ((of_one-not recall.Plain g one).parts (n - length (steps f)));
  size = both_fit f g (And f (Not g));
}
of_two recall.Nothing connective.And f g h one = record { parts = λ n. refl; size = both_fit f g (And f g) }
of_two recall.Nothing connective.Or f g h one = record { parts = λ n. refl; size = both_fit f g (Or f g) }
of_two recall.Nothing connective.AndNot f g h one = record { parts = λ n. refl; size = both_fit f g (And f (Not g)) }

module _ {standing : PartPosition} {h f : Tree} {a b : MemoState} {why : CompileError} (one : IsOfOne standing.recall h f) where
  pub stopped_one : IsStopped f standing a b why → IsStopped h standing a b why
  stopped_one part = record {
    done = part.done;
    few = omega (arith, part.few, one.size);
    number = part.number;
    after = subst (IsMemoAfter a b) (sym (one.parts part.done)) part.after;
  }

  pub stopped_at_one : IsMemoAfter a b (recalled_parts standing.recall f) → ((step : ℕ) → why ≡ Over step → step ≡ standing.before + length (steps f) + 1) → IsStopped h standing a b why
  stopped_at_one after number = record {
    done = length (steps f);
    few = one.size;
    number = number;
    after = subst (IsMemoAfter a b) (sym (one.parts (length (steps f)))) after;
  }

pub after_one : {r : Recall} {h f : Tree} {a b : MemoState} → IsOfOne r h f → IsMemoAfter a b (recalled_parts r f) → IsMemoAfter a b (recalled_parts r h)
after_one {r = r} {h = h} {f = f} {a = a} {b = b} one after =
    let all : recalled_parts r f ≡ recalled_within r f (length (steps h)) = recalled-all r f (length (steps f)) (length (steps h)) (omega arith) one.size in
    subst (IsMemoAfter a b) (all ∙ sym (one.parts (length (steps h)))) after

module _ {r : Recall} {h f g : Tree} (two : IsOfTwo r h f g) where
  two_left : (n : ℕ) → n ≤ length (steps f) → recalled_within r f n ≡ recalled_within r h n
  two_left n few =
      let at : n - length (steps f) ≡ 0 = omega arith in
      let none : recalled_within r g (n - length (steps f)) ≡ [] = ap (recalled_within r g) at ∙ recalled-zero r g in
      sym (two.parts n ∙ (ap (λ ys. recalled_within r f n ++ ys) none ∙ append-nil (recalled_within r f n)))

  two_right : (n m : ℕ) → m ≡ length (steps f) + n → recalled_parts r f ++ recalled_within r g n ≡ recalled_within r h m
  two_right n m is =
      let at : n ≡ m - length (steps f) = omega arith in
      let all : recalled_parts r f ≡ recalled_within r f m = recalled-all r f (length (steps f)) m (omega arith) (omega arith) in
      ap (λ xs. xs ++ recalled_within r g n) all ∙ (ap (λ k. recalled_within r f m ++ recalled_within r g k) at ∙ sym (two.parts m))

  two_all : recalled_parts r f ++ recalled_parts r g ≡ recalled_parts r h
  two_all =
      let more : recalled_parts r g ≡ recalled_within r g (length (steps g) + 1) = recalled-all r g (length (steps g)) (length (steps g) + 1) (omega arith) (omega arith) in
      ap (λ ys. recalled_parts r f ++ ys) more ∙ two_right (length (steps g) + 1) (length (steps h)) (omega (arith, two.size))

  module _ {a b c : MemoState} (left : IsMemoAfter a b (recalled_parts r f)) where
    -- the memo after so many steps of the second part
    after_some : (n : ℕ) → IsMemoAfter b c (recalled_within r g n) → IsMemoAfter a c (recalled_within r h (length (steps f) + n))
    after_some n right =
        subst (IsMemoAfter a c) (two_right n (length (steps f) + n) refl) (after-append left right)

    pub after_two : IsMemoAfter b c (recalled_parts r g) → IsMemoAfter a c (recalled_parts r h)
    after_two right = subst (IsMemoAfter a c) two_all (after-append left right)

module _ {standing : PartPosition} {h f g : Tree} (two : IsOfTwo standing.recall h f g) where
  pub stopped_left : {a b : MemoState} {why : CompileError} → IsStopped f standing a b why → IsStopped h standing a b why
  stopped_left {a = a} {b = b} part = record {
    done = part.done;
    few = omega (arith, part.few, two.size);
    number = part.number;
    after = subst (IsMemoAfter a b) (two_left two part.done part.few) part.after;
  }

  module _ {a b c : MemoState} {why : CompileError} (left : IsMemoAfter a b (recalled_parts standing.recall f)) where
    pub stopped_right : {last : ℕ} → last ≡ standing.before + length (steps f) → IsStopped g (record standing { before = last }) b c why → IsStopped h standing a c why
    stopped_right counts part = record {
      done = length (steps f) + part.done;
      few = omega (arith, part.few, two.size);
      number = λ step over. omega (arith, part.number step over, counts);
      after = after_some two left part.done part.after;
    }

    pub stopped_at_two : IsMemoAfter b c (recalled_parts standing.recall g)
        → ((step : ℕ) → why ≡ Over step → step ≡ standing.before + length (steps f) + length (steps g) + 1) → IsStopped h standing a c why
    stopped_at_two right number = record {
      done = length (steps f) + length (steps g);
      few = omega (arith, two.size);
      number = λ step over. omega (arith, number step over);
      after = after_some two left (length (steps g)) right;
    }
