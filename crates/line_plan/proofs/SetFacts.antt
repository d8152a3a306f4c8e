-- What sets of distances are made of items.
use Rattle.std.proofs.Common.{◌≡◌, ◌≢◌, ◌↔◌, ◌⊎◌, ℕ, zero, suc, ◌+◌, ◌<◌, ◌≤◌, List, [], map, Some, inl, inr, refl, sym, ap, ◌∙◌, subst, arith}
use Rattle.std.specs.List.{All, AllPairs}
use Rattle.std.proofs.lemmas.List.Elements.{All-cons, All-nil}
use Rattle.std.proofs.lemmas.List.Kept.{AllPairs-cons}
use Rattle.track_word.specs.Tracks.{IsAscending, Values, values_at}
use Rattle.track_word.specs.declared.tracks.Var.{Var}
use Rattle.lin_formula.specs.Free.{IsFree, IsOneOf}
use Rattle.lin_formula.specs.Holds.{Holds}
use Rattle.lin_formula.specs.SetOf.{Member, Nothing, SetOf, Where, members}
use Rattle.lin_formula.specs.Tree.{Tree, Among, Not, And, Or, Ex, free_vars, symbols}
use Rattle.lin_formula.proofs.Coincide.{coincide}
use Rattle.lin_formula.proofs.FreeVars.{free_vars-ascend, free_vars-free}
use Rattle.formula_auto.proofs.Variables.{same-ascending}
use Rattle.rule_formula.specs.Seats.{var}
use Rattle.rule_formula.proofs.FitLemmas.{values_same}
use Rattle.set_plan.specs.Program.{Entry, Item, IsSetOf, Takes}
use Rattle.set_plan.specs.Unite.{Made, join, make, with_item}
use Rattle.set_plan.proofs.Composition.{Takes-split}
use Rattle.set_plan.proofs.Takings.{join-members, make-members}
use Rattle.line_plan.specs.Plan.{distances, distances_from, narrow, narrowed}
use Rattle.line_plan.specs.Laws.{IsSetWhere}
use Rattle.formula_auto.proofs.NoSets.{Holds-no_set}
use Rattle.line_plan.proofs.PartFacts.{IsPart}

-- which variables the distances are
pub in_from : (k n : ℕ) (x : Var) → IsOneOf x (distances_from k n) ↔ ((k ≤ x.0) × (x.0 < k + n))
in_from k zero x = (λ h. absurd h, λ h. absurd (omega (arith, h.0, h.1)))
in_from k (suc n) x =
    let rest = in_from (suc k) n x in (
      λ h. elim h [
        | inl same ↦ let e = ap (λ (y : Var). y.0) same in (omega (arith, e), omega (arith, e))
        | inr later ↦ let w = rest.0 later in (omega (arith, w.0), omega (arith, w.1))
      ],
      λ h. elim (first_or_later k x.0 h.0) [
        | inl same ↦ inl (ap (λ (i : ℕ). var i) same)
        | inr later ↦ inr (rest.1 (later, omega (arith, h.1)))
      ],
    )
  where
    first_or_later : (k i : ℕ) → k ≤ i → (i ≡ k) ⊎ (suc k ≤ i)
    first_or_later k i h = grind arith

pub in_distances : (n : ℕ) (x : Var) → IsOneOf x (distances n) ↔ (x.0 < n)
in_distances n x = let w = in_from 0 n x in (λ h. let u = (w.0 h).1 in omega (arith, u), λ h. w.1 (omega arith, omega (arith, h)))

above : (i k n : ℕ) → i < k → All (λ m. i < m) (map (λ (v : Var). v.0) (distances_from k n))
above i k zero less = All-nil (λ m. i < m)
above i k (suc n) less = All-cons (λ m. i < m) k (map (λ (v : Var). v.0) (distances_from (suc k) n)) less (above i (suc k) n (omega arith))

pairs : (k n : ℕ) → AllPairs (λ x y. x < y) (map (λ (v : Var). v.0) (distances_from k n))
pairs k zero = λ i j d less within. absurd (omega arith)
pairs k (suc n) = AllPairs-cons (λ x y. x < y) k (map (λ (v : Var). v.0) (distances_from (suc k) n)) (above k (suc k) n (omega arith)) (pairs (suc k) n)

pub distances-ascend : (n : ℕ) → IsAscending (distances n)
distances-ascend n k within = pairs 0 n k (k + 1) 0 (omega arith) within

-- the free variables are the distances, if these are free and no others
pub free_is : (n : ℕ) (f : Tree) → ((x : Var) → IsFree x f → x.0 < n) → ((x : Var) → x.0 < n → IsFree x f) → free_vars f ≡ distances n
free_is n f forth back =
    same-ascending (free_vars f) (distances n) (free_vars-ascend f) (distances-ascend n)
    (λ x is. (in_distances n x).1 (forth x ((free_vars-free f x).0 is)))
    (λ x is. (free_vars-free f x).1 (back x ((in_distances n x).0 is)))

pub free_narrowed : (n : ℕ) (part : Tree) → IsPart n part → free_vars (And (Among 0 (distances n)) part) ≡ distances n
free_narrowed n part h =
    free_is n (And (Among 0 (distances n)) part)
    (λ x is. elim is [ inl a ↦ (in_distances n x).0 a | inr b ↦ h.free x b ])
    (λ x less. inl ((in_distances n x).1 less))

pub free_first : (n : ℕ) (part : Tree) → ((x : Var) → IsFree x part ↔ (x ≡ var n)) → free_vars (And (Among 0 (distances n)) part) ≡ distances (suc n)
free_first n part h =
    free_is (suc n) (And (Among 0 (distances n)) part)
    (λ x is. elim is [
      | inl a ↦ let w = (in_distances n x).0 a in omega arith
      | inr b ↦ let e = ap (λ (y : Var). y.0) ((h x).0 b) in omega (arith, e)
    ])
    (λ x less. elim (less_or_last x.0 less) [ inl a ↦ inl ((in_distances n x).1 a) | inr same ↦ inr ((h x).1 (ap (λ (i : ℕ). var i) same)) ])
  where
    less_or_last : (i : ℕ) → i < suc n → (i < n) ⊎ (i ≡ n)
    less_or_last i h = grind arith

last_gone : (n : ℕ) (x : Var) → x ≢ var n → x.0 < suc n → x.0 < n
last_gone n x ne less =
    let other : x.0 ≢ n = λ e. ne (ap (λ (i : ℕ). var i) e) in omega arith

not_last : (n : ℕ) (x : Var) → x.0 < n → x ≢ var n
not_last n x less e = let same = ap (λ (y : Var). y.0) e in omega (arith, same)

pub free_shortened : (n : ℕ) → free_vars (Ex (var n) (Among 0 (distances (suc n)))) ≡ distances n
free_shortened n =
    free_is n (Ex (var n) (Among 0 (distances (suc n))))
    (λ x is. last_gone n x is.0 ((in_distances (suc n) x).0 is.1))
    (λ x less. (not_last n x less, (in_distances (suc n) x).1 (omega arith)))

pub free_rest : (n : ℕ) → free_vars (Ex (var n) (And (Among 0 (distances (suc n))) (Not (Among 1 (distances (suc n)))))) ≡ distances n
free_rest n =
    free_is n (Ex (var n) (And (Among 0 (distances (suc n))) (Not (Among 1 (distances (suc n))))))
    (λ x is. elim is.1 [ inl a ↦ last_gone n x is.0 ((in_distances (suc n) x).0 a) | inr b ↦ last_gone n x is.0 ((in_distances (suc n) x).0 b) ])
    (λ x less. (not_last n x less, inl ((in_distances (suc n) x).1 (omega arith))))

both_free : (n : ℕ) (x : Var) → IsOneOf x (distances n) ⊎ IsOneOf x (distances n) → x.0 < n
both_free n x (inl a) = (in_distances n x).0 a
both_free n x (inr b) = (in_distances n x).0 b

pub free_either : (n a b : ℕ) → free_vars (Or (Among a (distances n)) (Among b (distances n))) ≡ distances n
free_either n a b = free_is n (Or (Among a (distances n)) (Among b (distances n))) (both_free n) (λ x less. inl ((in_distances n x).1 less))

pub free_known : (n : ℕ) → free_vars (Or (Among 0 (distances n)) (Not (Among 0 (distances n)))) ≡ distances n
free_known n = free_is n (Or (Among 0 (distances n)) (Not (Among 0 (distances n)))) (both_free n) (λ x less. inl ((in_distances n x).1 less))

pub free_difference : (n : ℕ) → free_vars (And (Among 0 (distances n)) (Not (Among 1 (distances n)))) ≡ distances n
free_difference n = free_is n (And (Among 0 (distances n)) (Not (Among 1 (distances n)))) (both_free n) (λ x less. inl ((in_distances n x).1 less))

-- the tuple of some values is one at which the formula is true if and only if it is true of the values
pub where_values : (f : Tree) (e : ℕ → SetOf) (v : Values) → Member (Where f e) (values_at (free_vars f) v) ↔ Holds f (members e) v
where_values f e v = (
  λ h. coincide f (members e) h.values v (λ x free. values_same (free_vars f) h.values v h.is_tuple x ((free_vars-free f x).1 free)) h.holds,
  λ h. record { values = v; is_tuple = refl; holds = h },
)

pub where_at : (n : ℕ) (f : Tree) (e : ℕ → SetOf) (v : Values) → free_vars f ≡ distances n → Member (Where f e) (values_at (distances n) v) ↔ Holds f (members e) v
where_at n f e v free = subst (λ xs. Member (Where f e) (values_at xs v) ↔ Holds f (members e) v) free (where_values f e v)

-- an item's set has the tuples at which its formula holds
pub item_where : (n : ℕ) (item : Item) (s : SetOf) → free_vars item.formula ≡ distances n → IsSetOf item s → IsSetWhere n (λ v. Holds item.formula (members item.sets) v) s
item_where n item s free is =
    record {
      over = λ tuple h.
          let k = (is.same tuple).0 h in
          (k.values, subst (λ xs. values_at xs k.values ≡ tuple) free k.is_tuple);
      same = λ v.
          let here = is.same (values_at (distances n) v) in
          let there = where_at n item.formula item.sets v free in
          (λ h. there.0 (here.0 h), λ h. here.1 (there.1 h));
    }

pub where_map : {n : ℕ} {P Q : Values → Type 0} {s : SetOf} → IsSetWhere n P s → ((v : Values) → P v ↔ Q v) → IsSetWhere n Q s
where_map h same = record { over = h.over; same = λ v. (λ k. (same v).0 ((h.same v).0 k), λ k. (h.same v).1 ((same v).1 k)) }

pub nothing_where : (n : ℕ) → IsSetWhere n (λ v. ⊥) Nothing
nothing_where n = record { over = λ tuple h. absurd h; same = λ v. (λ h. h, λ h. h) }

module _ {P : Type 0} (part : P) where
  pub make_where : (n at : ℕ) (item : Item) (xs : List (Entry P)) (made : Made) → free_vars item.formula ≡ distances n → Takes (make part at item) xs (Some made)
      → IsSetWhere n (λ v. Holds item.formula (members item.sets) v) made.0
  make_where n at item xs made free t = item_where n item made.0 free (make-members part at item xs made t)

  pub join_where : (n : ℕ) {Q R : Values → Type 0} (s : SetOf) (next : Made) (xs : List (Entry P)) (made : Made) → IsSetWhere n Q s → IsSetWhere n R next.0
      → Takes (join (distances n) part s next) xs (Some made) → IsSetWhere n (λ v. Q v ⊎ R v) made.0
  join_where n {Q} {R} s next xs made h k t =
      let joined = join-members (distances n) part (free_either n 0 1) s next xs made h.over k.over t in
      record {
        over = λ tuple m. elim ((joined tuple).0 m) [ inl a ↦ h.over tuple a | inr b ↦ k.over tuple b ];
        same = λ v.
            let here = joined (values_at (distances n) v) in (
              λ m. elim (here.0 m) [ inl a ↦ inl ((h.same v).0 a) | inr b ↦ inr ((k.same v).0 b) ],
              λ m. here.1 (elim m [ inl a ↦ inl ((h.same v).1 a) | inr b ↦ inr ((k.same v).1 b) ]),
            );
      }

  pub with_item_where : (n : ℕ) {Q : Values → Type 0} (item : Item) (so_far : Made) (xs : List (Entry P)) (made : Made) → IsSetWhere n Q so_far.0
      → free_vars item.formula ≡ distances n → Takes (with_item (distances n) part item so_far) xs (Some made)
      → IsSetWhere n (λ v. Q v ⊎ Holds item.formula (members item.sets) v) made.0
  with_item_where n item so_far xs made h free t =
      let (ws, zs, next, order, first, second) = Takes-split (make part so_far.1 item) (join (distances n) part so_far.0) xs made t in
      join_where n so_far.0 next zs made h (make_where n so_far.1 item ws next free first) second

-- a set narrowed by one more part
pub narrow_where : (n m : ℕ) {P : Values → Type 0} (part : Tree) (so_far : Made) (xs : List (Entry (Unit {0}))) (made : Made) → IsSetWhere n P so_far.0
    → free_vars (And (Among 0 (distances n)) part) ≡ distances m → symbols part ≡ [] → Takes (narrow n part so_far) xs (Some made)
    → IsSetWhere m (λ v. P v × Holds part (members (λ _. Nothing)) v) made.0
narrow_where n m part so_far xs made h free plain t =
    where_map (make_where tt m so_far.1 (narrowed n part so_far.0) xs made free t)
    (λ v. (
      λ k. ((h.same v).0 k.0, Holds-no_set part (members (λ _. so_far.0)) (members (λ _. Nothing)) v plain k.1),
      λ k. ((h.same v).1 k.0, Holds-no_set part (members (λ _. Nothing)) (members (λ _. so_far.0)) v plain k.1),
    ))
