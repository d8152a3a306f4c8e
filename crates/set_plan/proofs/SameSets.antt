-- What a formula says and what its steps spread to depends on the sets alone, and not on the numbers of their symbols.
use Rattle.std.proofs.Common.{◌≡◌, ◌↔◌, ℕ, List, [], ◌∷◌, length, map, inl, inr, ℤ, refl, sym, ap, ◌∙◌, subst}
use Rattle.std.proofs.lemmas.List.{map-append}
use Rattle.track_word.specs.declared.tracks.Var.{Var}
use Rattle.track_word.specs.Tracks.{Values, values_at, word_values, with_vars, without_var}
use Rattle.auto_core.specs.Spread.{BothSpreadExceeds, ExSpreadExceeds}
use Rattle.lin_formula.specs.Tree.{Tree, Lin, Value, Among, Not, And, Or, Ex, free_vars, steps}
use Rattle.lin_formula.specs.Holds.{Sets, Holds, with_value}
use Rattle.lin_formula.specs.SetOf.{SetOf, Member, members, HoldsAt, SomeEmpty, NoneEmpty}
use Rattle.formula_auto.specs.Step.{Says, Exceeds}
use Rattle.formula_auto.proofs.SameWords.{SameWords, BothSpread-same, ExSpread-same}
use Rattle.set_plan.specs.Relabel.{relabel}
use Rattle.set_plan.specs.Unite.{positives}
use Rattle.set_plan.specs.Same.{SameSets, SameItem, SameEmpty, SameSteps}

module _ (d e : Sets) (same : (k : ℕ) (tuple : List ℤ) → d k tuple ↔ e k tuple) where
  pub Holds-same : (f : Tree) (v : Values) → Holds f d v ↔ Holds f e v
  Holds-same (Lin terms rel bound) v = (λ h. h, λ h. h)
  Holds-same (Value x n) v = (λ h. h, λ h. h)
  Holds-same (Among set vars) v = same set (values_at vars v)
  Holds-same (Not f) v = (λ h k. h ((Holds-same f v).1 k), λ h k. h ((Holds-same f v).0 k))
  Holds-same (And f g) v = (λ h. ((Holds-same f v).0 h.0, (Holds-same g v).0 h.1), λ h. ((Holds-same f v).1 h.0, (Holds-same g v).1 h.1))
  Holds-same (Or f g) v = (
    λ h. elim h [ inl a ↦ inl ((Holds-same f v).0 a) | inr b ↦ inr ((Holds-same g v).0 b) ],
    λ h. elim h [ inl a ↦ inl ((Holds-same f v).1 a) | inr b ↦ inr ((Holds-same g v).1 b) ],
  )
  Holds-same (Ex x f) v = (
    λ h. (h.0, (Holds-same f (with_value v x h.0)).0 h.1),
    λ h. (h.0, (Holds-same f (with_value v x h.0)).1 h.1),
  )

  says_same : (f : Tree) → SameWords (length (free_vars f)) (Says f d) (Says f e)
  says_same f word is = Holds-same f (word_values (free_vars f) word)

  pub Exceeds-same : (f : Tree) (budget : ℕ) → Exceeds f d budget → Exceeds f e budget
  unfolding Exceeds
  Exceeds-same (And f g) budget h = BothSpread-same _ _ _ _ _ _ budget (says_same f) (says_same g) h
  Exceeds-same (Or f g) budget h = BothSpread-same _ _ _ _ _ _ budget (says_same f) (says_same g) h
  Exceeds-same (Ex x g) budget h = ExSpread-same x _ _ _ budget (says_same g) h
  Exceeds-same (Lin terms rel bound) budget h = absurd h
  Exceeds-same (Value x n) budget h = absurd h
  Exceeds-same (Among set vars) budget h = absurd h
  Exceeds-same (Not f) budget h = absurd h

steps-sets : (d e : ℕ → SetOf) → ((k : ℕ) → SameSets (d k) (e k)) → (fs : List Tree) → SameSteps fs d fs e
steps-sets d e same [] = tt
steps-sets d e same (f ∷ fs) =
    (λ budget. (Exceeds-same (members d) (members e) (λ k t. same k t) f budget, Exceeds-same (members e) (members d) (λ k t. ((same k t).1, (same k t).0)) f budget), steps-sets d e same fs)

some-sets : (d e : ℕ → SetOf) → ((k : ℕ) → SameSets (d k) (e k)) → (ks : List ℕ) → SomeEmpty (map d ks) → SomeEmpty (map e ks)
some-sets d e same [] h = h
some-sets d e same (k ∷ ks) (inl empty) = inl (λ tuple h. empty tuple ((same k tuple).1 h))
some-sets d e same (k ∷ ks) (inr rest) = inr (some-sets d e same ks rest)

none-sets : (d e : ℕ → SetOf) → ((k : ℕ) → SameSets (d k) (e k)) → (ks : List ℕ) → NoneEmpty (map d ks) → NoneEmpty (map e ks)
none-sets d e same [] h = h
none-sets d e same (k ∷ ks) h = (λ empty. h.0 (λ tuple m. empty tuple ((same k tuple).0 m)), none-sets d e same ks h.1)

back : (d e : ℕ → SetOf) → ((k : ℕ) → SameSets (d k) (e k)) → (k : ℕ) → SameSets (e k) (d k)
back d e same k tuple = ((same k tuple).1, (same k tuple).0)

pub SameItem-sets : (f : Tree) (d e : ℕ → SetOf) → ((k : ℕ) → SameSets (d k) (e k)) → SameItem (record { formula = f; sets = d }) (record { formula = f; sets = e })
SameItem-sets f d e same = record {
  steps = steps-sets d e same (steps f);
  members = λ tuple. (
    λ h. record { values = h.values; is_tuple = h.is_tuple; holds = (Holds-same (members d) (members e) (λ k t. same k t) f h.values).0 h.holds },
    λ h. record { values = h.values; is_tuple = h.is_tuple; holds = (Holds-same (members d) (members e) (λ k t. same k t) f h.values).1 h.holds },
  );
  positives = record {
    some = (some-sets d e same (positives f), some-sets e d (back d e same) (positives f));
    none = (none-sets d e same (positives f), none-sets e d (back d e same) (positives f));
  };
}

module _ (name : ℕ → ℕ) where
  pub free_vars-relabel : (f : Tree) → free_vars (relabel name f) ≡ free_vars f
  free_vars-relabel (Lin terms rel bound) = refl
  free_vars-relabel (Value x n) = refl
  free_vars-relabel (Among set vars) = refl
  free_vars-relabel (Not f) = free_vars-relabel f
  free_vars-relabel (And f g) = ap (λ xs. with_vars xs (free_vars (relabel name g))) (free_vars-relabel f) ∙ ap (λ ys. with_vars (free_vars f) ys) (free_vars-relabel g)
  free_vars-relabel (Or f g) = ap (λ xs. with_vars xs (free_vars (relabel name g))) (free_vars-relabel f) ∙ ap (λ ys. with_vars (free_vars f) ys) (free_vars-relabel g)
  free_vars-relabel (Ex x f) = ap (without_var x) (free_vars-relabel f)

  pub steps-relabel : (f : Tree) → steps (relabel name f) ≡ map (relabel name) (steps f)
  steps-relabel (Lin terms rel bound) = refl
  steps-relabel (Value x n) = refl
  steps-relabel (Among set vars) = refl
  steps-relabel (Not f) = steps-relabel f
  steps-relabel (And f g) = simp (steps-relabel f, steps-relabel g, map-append)
  steps-relabel (Or f g) = simp (steps-relabel f, steps-relabel g, map-append)
  steps-relabel (Ex x f) = simp (steps-relabel f, map-append)

  pub positives-relabel : (f : Tree) → positives (relabel name f) ≡ map name (positives f)
  positives-relabel (Lin terms rel bound) = refl
  positives-relabel (Value x n) = refl
  positives-relabel (Among set vars) = refl
  positives-relabel (Not f) = refl
  positives-relabel (And f g) = simp (positives-relabel f, positives-relabel g, map-append)
  positives-relabel (Or f g) = refl
  positives-relabel (Ex x f) = positives-relabel f

module _ (name : ℕ → ℕ) (e : Sets) where
  pub Holds-relabel : (f : Tree) (v : Values) → Holds (relabel name f) e v ↔ Holds f (λ k. e (name k)) v
  Holds-relabel (Lin terms rel bound) v = (λ h. h, λ h. h)
  Holds-relabel (Value x n) v = (λ h. h, λ h. h)
  Holds-relabel (Among set vars) v = (λ h. h, λ h. h)
  Holds-relabel (Not f) v = (λ h k. h ((Holds-relabel f v).1 k), λ h k. h ((Holds-relabel f v).0 k))
  Holds-relabel (And f g) v = (λ h. ((Holds-relabel f v).0 h.0, (Holds-relabel g v).0 h.1), λ h. ((Holds-relabel f v).1 h.0, (Holds-relabel g v).1 h.1))
  Holds-relabel (Or f g) v = (
    λ h. elim h [ inl a ↦ inl ((Holds-relabel f v).0 a) | inr b ↦ inr ((Holds-relabel g v).0 b) ],
    λ h. elim h [ inl a ↦ inl ((Holds-relabel f v).1 a) | inr b ↦ inr ((Holds-relabel g v).1 b) ],
  )
  Holds-relabel (Ex x f) v = (
    λ h. (h.0, (Holds-relabel f (with_value v x h.0)).0 h.1),
    λ h. (h.0, (Holds-relabel f (with_value v x h.0)).1 h.1),
  )

  says_same' : (f : Tree) → SameWords (length (free_vars (relabel name f))) (Says (relabel name f) e) (Says f (λ k. e (name k)))
  says_same' f word is =
      let At : List Var → Type 0 = λ vars. Holds f (λ k. e (name k)) (word_values vars word) in
      let same = Holds-relabel f (word_values (free_vars (relabel name f)) word) in
      (λ h. subst At (free_vars-relabel name f) (same.0 h), λ h. same.1 (subst At (sym (free_vars-relabel name f)) h))

  says_back : (f : Tree) → SameWords (length (free_vars (relabel name f))) (Says f (λ k. e (name k))) (Says (relabel name f) e)
  says_back f word is = let same = says_same' f word is in (same.1, same.0)

  both_free : (f g : Tree) (F G : List ℕ → Type 0) (budget : ℕ)
      → BothSpreadExceeds (free_vars (relabel name f)) (free_vars (relabel name g)) F G budget
      ↔ BothSpreadExceeds (free_vars f) (free_vars g) F G budget
  both_free f g F G budget =
      let Left : List Var → Type 0 = λ fs. BothSpreadExceeds fs (free_vars (relabel name g)) F G budget in
      let Right : List Var → Type 0 = λ gs. BothSpreadExceeds (free_vars f) gs F G budget in
      let ef = free_vars-relabel name f in
      let eg = free_vars-relabel name g in
      (λ h. subst Right eg (subst Left ef h), λ h. subst Left (sym ef) (subst Right (sym eg) h))

  ex_free : (x : Var) (f : Tree) (F : List ℕ → Type 0) (budget : ℕ) → ExSpreadExceeds x (free_vars (relabel name f)) F budget ↔ ExSpreadExceeds x (free_vars f) F budget
  ex_free x f F budget =
      let At : List Var → Type 0 = λ fs. ExSpreadExceeds x fs F budget in
      (λ h. subst At (free_vars-relabel name f) h, λ h. subst At (sym (free_vars-relabel name f)) h)

  pub Exceeds-relabel : (f : Tree) (budget : ℕ) → Exceeds (relabel name f) e budget ↔ Exceeds f (λ k. e (name k)) budget
  unfolding Exceeds
  Exceeds-relabel (Lin terms rel bound) budget = (λ h. h, λ h. h)
  Exceeds-relabel (Value x n) budget = (λ h. h, λ h. h)
  Exceeds-relabel (Among set vars) budget = (λ h. h, λ h. h)
  Exceeds-relabel (Not f) budget = (λ h. h, λ h. h)
  Exceeds-relabel (And f g) budget = (
    λ h. (both_free f g _ _ budget).0 (BothSpread-same _ _ _ _ _ _ budget (says_same' f) (says_same' g) h),
    λ h. BothSpread-same _ _ _ _ _ _ budget (says_back f) (says_back g) ((both_free f g _ _ budget).1 h),
  )
  Exceeds-relabel (Or f g) budget = (
    λ h. (both_free f g _ _ budget).0 (BothSpread-same _ _ _ _ _ _ budget (says_same' f) (says_same' g) h),
    λ h. BothSpread-same _ _ _ _ _ _ budget (says_back f) (says_back g) ((both_free f g _ _ budget).1 h),
  )
  Exceeds-relabel (Ex x f) budget = (
    λ h. (ex_free x f _ budget).0 (ExSpread-same x _ _ _ budget (says_same' f) h),
    λ h. ExSpread-same x _ _ _ budget (says_back f) ((ex_free x f _ budget).1 h),
  )

module _ (name : ℕ → ℕ) (e : ℕ → SetOf) where
  steps-named : (fs : List Tree) → SameSteps (map (relabel name) fs) e fs (λ k. e (name k))
  steps-named [] = tt
  steps-named (f ∷ fs) = (Exceeds-relabel name (members e) f, steps-named fs)

  maps-named : (ks : List ℕ) → map e (map name ks) ≡ map (λ k. e (name k)) ks
  maps-named [] = refl
  maps-named (k ∷ ks) = ap (λ l. e (name k) ∷ l) (maps-named ks)

  -- a formula with other numbers for its sets
  pub SameItem-relabel : (f : Tree) → SameItem (record { formula = relabel name f; sets = e }) (record { formula = f; sets = λ k. e (name k) })
  SameItem-relabel f =
      let named : map e (positives (relabel name f)) ≡ map (λ k. e (name k)) (positives f) = ap (map e) (positives-relabel name f) ∙ maps-named (positives f) in
      let Same : List SetOf → Type 0 = λ l. SameEmpty l (map (λ k. e (name k)) (positives f)) in
      let ProgramFold : List Tree → Type 0 = λ l. SameSteps l e (steps f) (λ k. e (name k)) in
      record {
        steps = subst ProgramFold (sym (steps-relabel name f)) (steps-named (steps f));
        members = λ tuple.
            let Over : List Var → Type 0 = λ vars. HoldsAt vars (Holds f (λ k. Member (e (name k)))) tuple in (
              λ h.
                  record {
                    values = h.values;
                    is_tuple = ap (λ vars. values_at vars h.values) (sym (free_vars-relabel name f)) ∙ h.is_tuple;
                    holds = (Holds-relabel name (members e) f h.values).0 h.holds;
                  },
              λ h.
                  record {
                    values = h.values;
                    is_tuple = ap (λ vars. values_at vars h.values) (free_vars-relabel name f) ∙ h.is_tuple;
                    holds = (Holds-relabel name (members e) f h.values).1 h.holds;
                  },
            );
        positives = subst Same (sym named) (record { some = (λ h. h, λ h. h); none = (λ h. h, λ h. h) });
      }
