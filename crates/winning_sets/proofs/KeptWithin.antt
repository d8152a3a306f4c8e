-- A formula that leads into a set, or to a king, holds only of tuples of its source.
use Rattle.std.proofs.Common.{◌≡◌, ℕ, zero, suc, ◌*◌, ◌-◌, ◌<◌, ◌≤◌, ◌==◌, if◌then◌else◌, Bool, true, false, List, [], ◌∷◌, ◌++◌, length, ℤ, pos, negsuc, refl, sym, ap, ◌∙◌, subst, arith}
use Rattle.std.proofs.lemmas.Bool.{eqb-true}
use Rattle.track_word.specs.declared.tracks.Var.{Var}
use Rattle.track_word.specs.Tracks.{Values, values_at}
use Rattle.game_rules.specs.declared.men.Man.{Man}
use Rattle.game_rules.specs.declared.men.Ray.{Ray}
use Rattle.lin_formula.specs.Tree.{Tree, free_vars}
use Rattle.lin_formula.specs.Tree as tree
use Rattle.lin_formula.specs.Holds.{Holds, with_value}
use Rattle.lin_formula.specs.SetOf.{Member, SetOf, Where, members}
use Rattle.rule_formula.specs.declared.opt.Opt.{Opt}
use Rattle.rule_formula.specs.Placed.{is_live, without}
use Rattle.rule_formula.specs.Seats.{elsewhere, new_seat, new_seats, own, vars_to}
use Rattle.rule_formula.specs.Trees.{and_all, bear_of, bear_tree, clear_as, ex_swept, on, pre_body, pre_of, pre_tree, ray_atoms, ray_at, tracks_of}
use Rattle.rule_formula.specs.Ways.{before, onto}
use Rattle.rule_formula.proofs.ChainLemmas.{and_all_holds, clear_holds}

-- the values agree on the variables of eight men
abbrev Agree : Values → Values → Type 0
Agree v w = (x : ℕ) → x < 16 → v x ≡ w x

values-append : (xs ys : List Var) (v : Values) → values_at (xs ++ ys) v ≡ values_at xs v ++ values_at ys v
values-append [] ys v = refl
values-append (x ∷ xs) ys v = ap (λ zs. v x.0 ∷ zs) (values-append xs ys v)

agree_if : (b : Bool) (xs ys : List Var) (v w : Values) → values_at xs v ≡ values_at xs w → values_at ys v ≡ values_at ys w
    → values_at (if b then xs ++ ys else xs) v ≡ values_at (if b then xs ++ ys else xs) w
agree_if true xs ys v w e d = values-append xs ys v ∙ (ap (λ zs. zs ++ values_at ys v) e ∙ (ap (λ zs. values_at xs w ++ zs) d ∙ sym (values-append xs ys w)))
agree_if false xs ys v w e d = e

agree-vars : (live : ℕ → Bool) (n : ℕ) (v w : Values) → n ≤ 8 → Agree v w → values_at (vars_to own live n) v ≡ values_at (vars_to own live n) w
agree-vars live zero v w few same = refl
agree-vars live (suc n) v w few same =
    agree_if (live (suc n)) (vars_to own live n) ((own (suc n)).x ∷ (own (suc n)).y ∷ []) v w (agree-vars live n v w (omega (arith, few)) same)
    (pair (v (2 * suc n - 2)) (w (2 * suc n - 2)) (v (2 * suc n - 1)) (w (2 * suc n - 1)) (same (2 * suc n - 2) (omega (arith, few))) (same (2 * suc n - 1) (omega (arith, few))))
  where
    pair : (a b c d : ℤ) → a ≡ b → c ≡ d → (a ∷ c ∷ []) ≡ (b ∷ d ∷ [])
    pair a b c d e f = cc

-- other values of a spare variable
with_value-agree : (v : Values) (x : Var) (n : ℤ) → 16 ≤ x.0 → Agree (with_value v x n) v
with_value-agree v x n spare y low = by (y == x.0) refl
  where
    by : (b : Bool) → y == x.0 ≡ b → (if b then n else v y) ≡ v y
    by true e = let same : y ≡ x.0 = eqb-true y x.0 e in absurd (omega (arith, same, low, spare))
    by false e = refl

-- values at which what is swept over holds
record Swept (f : Tree) (e : ℕ → SetOf) (v : Values) : Type 0 where
  values : Values
  holds : Holds f (members e) values
  agree : Agree values v

swept : (d : ℤ) (x : Var) (f : Tree) (e : ℕ → SetOf) (v : Values) → 16 ≤ x.0 → Holds (ex_swept d x f) (members e) v → Swept f e v
swept (pos zero) x f e v spare h = record { values = v; holds = h; agree = λ y low. refl }
swept (pos (suc d)) x f e v spare (n, h) = record { values = with_value v x n; holds = h; agree = with_value-agree v x n spare }
swept (negsuc d) x f e v spare (n, h) = record { values = with_value v x n; holds = h; agree = with_value-agree v x n spare }

pre_body_source : (n mask i : ℕ) (r : Ray) (t s q : ℕ) (e : ℕ → SetOf) (v : Values)
    → Holds (pre_body n mask i r t s q) (members e) v → Member (e s) (values_at (vars_to own (is_live mask) n) v)
pre_body_source n mask i r t s q e v h =
    let both = tree.And (tree.Among s (vars_to own (is_live mask) n)) (tree.Among q (vars_to (new_seats r i t) (without (is_live mask) t) n)) in
    let chain = and_all both (ray_atoms r (own i) (new_seat r i t)) in
    let first = (clear_holds chain (λ k. on r (own i) (new_seat r i t) onto (own k)) (is_live mask) i t n (members e) v).0 h in
    ((and_all_holds both (ray_atoms r (own i) (new_seat r i t)) (members e) v).0 first.0).0.0

pre_tree_source : (n mask i : ℕ) (r : Ray) (t s q : ℕ) (e : ℕ → SetOf) (v : Values) → n ≤ 8 → Holds (pre_tree n mask i r t s q) (members e) v
    → Member (e s) (values_at (vars_to own (is_live mask) n) v)
pre_tree_source n mask i r zero s q e v few h =
    let body = pre_body n mask i r 0 s q in
    let one = swept r.dx elsewhere.x (ex_swept r.dy elsewhere.y body) e v (omega arith) h in
    let two = swept r.dy elsewhere.y body e one.values (omega arith) one.holds in
    let same = agree-vars (is_live mask) n two.values v few (λ x low. two.agree x low ∙ one.agree x low) in
    subst (Member (e s)) same (pre_body_source n mask i r 0 s q e two.values two.holds)
pre_tree_source n mask i r (suc t) s q e v few h = pre_body_source n mask i r (suc t) s q e v h

-- from where a step leads into a set
pub pre_within : (men : List Man) (mask : ℕ) (o : Opt) (s q : ℕ) (e : ℕ → SetOf) (tuple : List ℤ) → length men ≤ 8
    → free_vars (pre_of men mask o s q) ≡ tracks_of men (is_live mask) → Member (Where (pre_of men mask o s q) e) tuple → Member (e s) tuple
pre_within men mask o s q e tuple few tracks h =
    let source = pre_tree_source (length men) mask o.man (ray_at men o.man o.ray) o.taken s q e h.values few h.holds in
    subst (Member (e s)) (ap (λ vars. values_at vars h.values) (sym tracks) ∙ h.is_tuple) source

bear_first : (far : Bool) (f : Tree) (hit : ℕ → Tree) (live : ℕ → Bool) (k g n : ℕ) (e : ℕ → SetOf) (v : Values)
    → Holds (clear_as far f hit live k g n) (members e) v → Holds f (members e) v
bear_first true f hit live k g n e v h = ((clear_holds f hit live k g n (members e) v).0 h).0
bear_first false f hit live k g n e v h = h

bear_tree_source : (n mask k : ℕ) (r : Ray) (g s : ℕ) (e : ℕ → SetOf) (v : Values)
    → Holds (bear_tree n mask k r g s) (members e) v → Member (e s) (values_at (vars_to own (is_live mask) n) v)
bear_tree_source n mask k r g s e v h =
    let among = tree.Among s (vars_to own (is_live mask) n) in
    let chain = and_all among (ray_atoms r (own k) (own g)) in
    let first = bear_first r.far chain (λ l. on r (own k) (own g) before (own l)) (is_live mask) k g n e v h in
    ((and_all_holds among (ray_atoms r (own k) (own g)) (members e) v).0 first).0

-- where a man bears on a king
pub bear_within : (men : List Man) (mask k n g s : ℕ) (e : ℕ → SetOf) (tuple : List ℤ)
    → free_vars (bear_of men mask k n g s) ≡ tracks_of men (is_live mask) → Member (Where (bear_of men mask k n g s) e) tuple → Member (e s) tuple
bear_within men mask k n g s e tuple tracks h =
    let source = bear_tree_source (length men) mask k (ray_at men k n) g s e h.values h.holds in
    subst (Member (e s)) (ap (λ vars. values_at vars h.values) (sym tracks) ∙ h.is_tuple) source
