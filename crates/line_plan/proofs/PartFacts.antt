-- The parts of a move and of a check name no set, and speak of the distances of the path alone.
use Rattle.std.proofs.Common.{◌≡◌, ◌↔◌, ℕ, zero, suc, ◌<◌, ◌≤◌, Bool, true, false, List, [], ◌∷◌, ◌++◌, length, ℤ, pos, negsuc, inl, inr, refl, ap, ◌∙◌, subst, arith}
use Rattle.std.specs.Prelude.{if◌then◌else◌}
use Rattle.game_rules.specs.Game.{Position}
use Rattle.game_rules.specs.declared.men.Ray.{Ray}
use Rattle.game_rules.specs.declared.men.Square.{Square}
use Rattle.track_word.specs.Atom.{term_vars}
use Rattle.track_word.specs.declared.atoms.Rel.{Rel}
use Rattle.track_word.specs.declared.atoms.Rel.TheVariants.{Le, Eq}
use Rattle.track_word.specs.declared.tracks.Var.{Var}
use Rattle.lin_formula.specs.Free.{IsFree, IsOneOf}
use Rattle.lin_formula.specs.Tree.{Tree, Not, And, symbols}
use Rattle.rule_formula.specs.declared.opt.Bearing.{Bearing}
use Rattle.rule_formula.specs.declared.opt.Opt.{Opt}
use Rattle.rule_formula.specs.Placed.{is_live}
use Rattle.rule_formula.specs.Seats.{var}
use Rattle.rule_formula.specs.Trees.{clear, is_other, ray_at}
use Rattle.line_formula.specs.declared.gap.Gap.{Gap}
use Rattle.line_formula.specs.declared.leg.Leg.{Leg}
use Rattle.line_formula.specs.Atoms.{constant, gap_tree, sum_tree, terms}
use Rattle.line_formula.specs.Paths.{bear_after, dangers_at, first_part, further_parts, leg_of, legs_at, mask_at}
use Rattle.line_formula.specs.Places.{home}
use Rattle.line_formula.specs.Rules.{across, ahead, apart_by, bear_as, capture_parts, clear_parts, distance_as, line, measure, off_line, on_way, on_way_as, opposite, safe_parts, screens, upward}
use Rattle.line_formula.proofs.PathTheorem.{legs-length}
use Rattle.line_formula.proofs.PlaceLemmas.{AreBelow, terms-below}

pub both_none : (xs ys : List ℕ) → xs ≡ [] → ys ≡ [] → xs ++ ys ≡ []
both_none xs ys h k = ap (λ zs. zs ++ ys) h ∙ k

-- names no set, and of its free variables each has a number below n
pub record IsPart (n : ℕ) (t : Tree) : Type 0 where
  pub plain : symbols t ≡ []
  pub free : (x : Var) → IsFree x t → x.0 < n

pub part_not : {n : ℕ} {f : Tree} → IsPart n f → IsPart n (Not f)
part_not h = record { plain = h.plain; free = h.free }

pub part_and : {n : ℕ} {f g : Tree} → IsPart n f → IsPart n g → IsPart n (And f g)
part_and {f = f} {g = g} h k = record { plain = both_none (symbols f) (symbols g) h.plain k.plain; free = λ x is. elim is [ inl a ↦ h.free x a | inr b ↦ k.free x b ] }

pub below_one : (n : ℕ) (ts : List (ℤ × Var)) (x : Var) → AreBelow n ts → IsOneOf x (term_vars ts) → x.0 < n
below_one n [] x h is = absurd is
below_one n (t ∷ ts) x h (inl same) = let e = ap (λ (y : Var). y.0) same in omega (arith, e, h.0)
below_one n (t ∷ ts) x h (inr is) = below_one n ts x h.1 is

sum_part : (n : ℕ) (c : ℤ) (ts : List (ℤ × Var)) (rel : Rel) (bound : ℤ) → AreBelow n ts → IsPart n (sum_tree c ts rel bound)
sum_part n c ts rel bound below =
    record {
      plain = refl;
      free = λ x is.
          elim is.1 [
            | inl here ↦ absurd (is.0 here)
            | inr there ↦ elim there [ inl here ↦ absurd (is.0 here) | inr later ↦ below_one n ts x below later ]
          ];
    }

pub gap_part : (n : ℕ) (start : ℕ → Square) (legs : List Leg) (g : Gap) (rel : Rel) (bound : ℤ) → length legs ≤ n → IsPart n (gap_tree start legs g rel bound)
gap_part n start legs g rel bound few = sum_part n (constant start g) (terms g legs) rel bound (terms-below n g legs few)

module _ (start : ℕ → Square) where
  apart_part : (n : ℕ) (legs : List Leg) (a b : ℕ) (x y : ℤ) → length legs ≤ n → IsPart n (apart_by start legs a b x y)
  apart_part n legs a b x y few = part_and (gap_part n start legs (across a b) Eq x few) (gap_part n start legs (upward a b) Eq y few)

  on_line_part : (n : ℕ) (legs : List Leg) (r : Ray) (a b : ℕ) → length legs ≤ n → IsPart n (And (line start legs r a b) (ahead start legs r a b))
  on_line_part n legs r a b few =
      part_and (gap_part n start legs (off_line r a b) Eq (pos 0) few) (gap_part n start legs (opposite (measure r a b)) Le (negsuc 0) few)

  way_part : (legs : List Leg) (leg : Leg) (k : ℕ) (far : Bool) → IsPart (suc (length legs)) (on_way_as start far legs leg k)
  way_part legs leg k true =
      part_and (on_line_part (suc (length legs)) legs leg.ray leg.man k (omega arith))
      (sum_part (suc (length legs)) (constant start (measure leg.ray leg.man k)) ((negsuc 0, var (length legs)) ∷ terms (measure leg.ray leg.man k) legs) Le (pos 0)
      (omega arith, terms-below (suc (length legs)) (measure leg.ray leg.man k) legs (omega arith)))
  way_part legs leg k false = apart_part (suc (length legs)) (leg ∷ legs) leg.man k (pos 0) (pos 0) (omega arith)

  clear_part : (n : ℕ) (f : Tree) (hit : ℕ → Tree) (live : ℕ → Bool) (i j m : ℕ) → IsPart n f → ((k : ℕ) → IsPart n (hit k)) → IsPart n (clear f hit live i j m)
  clear_part n f hit live i j zero h hits = h
  clear_part n f hit live i j (suc m) h hits = by (is_other live i j (suc m)) (clear_part n f hit live i j m h hits)
    where
      by : (b : Bool) → IsPart n (clear f hit live i j m) → IsPart n (if b then And (clear f hit live i j m) (Not (hit (suc m))) else clear f hit live i j m)
      by true before = part_and before (part_not (hits (suc m)))
      by false before = before

  bear_part : (n : ℕ) (legs : List Leg) (live : ℕ → Bool) (m : ℕ) (r : Ray) (k g : ℕ) (far : Bool) → length legs ≤ n → IsPart n (bear_as start far legs live m r k g)
  bear_part n legs live m r k g true few =
      clear_part n (And (line start legs r k g) (ahead start legs r k g)) (screens start legs r k g) live k g m (on_line_part n legs r k g few)
      (λ l. part_and (on_line_part n legs r k l few) (gap_part n start legs (opposite (measure r l g)) Le (negsuc 0) few))
  bear_part n legs live m r k g false few = apart_part n legs k g r.dx r.dy few

-- each formula of the list is a part
abbrev pub AreParts : ℕ → List Tree → Type 0
AreParts n [] = Unit {0}
AreParts n (t ∷ ts) = IsPart n t × AreParts n ts

parts_both : (n : ℕ) (xs ys : List Tree) → AreParts n xs → AreParts n ys → AreParts n (xs ++ ys)
parts_both n [] ys h k = k
parts_both n (x ∷ xs) ys h k = (h.0, parts_both n xs ys h.1 k)

module _ (p : Position) where
  clear_all : (start : ℕ → Square) (legs : List Leg) (leg : Leg) (live : ℕ → Bool) (t m : ℕ) → AreParts (suc (length legs)) (clear_parts start legs leg live t m)
  clear_all start legs leg live t zero = tt
  clear_all start legs leg live t (suc m) = by (is_other live leg.man t (suc m)) (clear_all start legs leg live t m)
    where
      by : (b : Bool) → AreParts (suc (length legs)) (clear_parts start legs leg live t m)
          → AreParts (suc (length legs)) (if b then clear_parts start legs leg live t m ++ Not (on_way start legs leg (suc m)) ∷ [] else clear_parts start legs leg live t m)
      by true before = parts_both (suc (length legs)) (clear_parts start legs leg live t m) (Not (on_way start legs leg (suc m)) ∷ []) before (part_not (way_part start legs leg (suc m) leg.ray.far), tt)
      by false before = before

  capture_all : (start : ℕ → Square) (legs : List Leg) (leg : Leg) (t : ℕ) → AreParts (suc (length legs)) (capture_parts start legs leg t)
  capture_all start legs leg zero = tt
  capture_all start legs leg (suc t) =
      (gap_part (suc (length legs)) start (leg ∷ legs) (across (suc t) leg.man) Eq (pos 0) (omega arith), (gap_part (suc (length legs)) start (leg ∷ legs) (upward (suc t) leg.man) Eq (pos 0) (omega arith), tt))

  safe_all : (n : ℕ) (start : ℕ → Square) (legs : List Leg) (live : ℕ → Bool) (bs : List Bearing) → length legs ≤ n → AreParts n (safe_parts start legs p.men live bs)
  safe_all n start legs live [] few = tt
  safe_all n start legs live (b ∷ bs) few =
      (part_not (bear_part start n legs live (length p.men) (ray_at p.men b.man b.ray) b.man b.king (ray_at p.men b.man b.ray).far few), safe_all n start legs live bs few)

  pub bear_is_part : (s : List Opt) (b : Bearing) → IsPart (length s) (bear_after p s b)
  bear_is_part s b =
      let count = legs-length p.men s in
      bear_part (home p.men) (length s) (legs_at p s) (is_live (mask_at p s)) (length p.men) (ray_at p.men b.man b.ray) b.man b.king (ray_at p.men b.man b.ray).far (omega (arith, count))

  pub further_are_parts : (s : List Opt) (o : Opt) → AreParts (suc (length s)) (further_parts p s o)
  further_are_parts s o =
      let count = legs-length p.men s in
      let n : ℕ = suc (length (legs_at p s)) in
      let first = home p.men in
      let legs = legs_at p s in
      let leg : Leg = leg_of p.men o in
      let live = is_live (mask_at p s) in
      let later = is_live (mask_at p (o ∷ s)) in
      let safe = safe_parts first (legs_at p (o ∷ s)) p.men later (dangers_at p (o ∷ s)) in
      let clears = clear_parts first legs leg live o.taken (length p.men) in
      let here : AreParts n (further_parts p s o) =
      parts_both n (capture_parts first legs leg o.taken) (clears ++ safe) (capture_all first legs leg o.taken)
      (parts_both n clears safe (clear_all first legs leg live o.taken (length p.men))
      (safe_all n first (legs_at p (o ∷ s)) later (dangers_at p (o ∷ s)) (omega arith)))
      in
      subst (λ m. AreParts (suc m) (further_parts p s o)) count here

  pub first_is_plain : (s : List Opt) (o : Opt) → symbols (first_part p s o) ≡ []
  first_is_plain s o = by (ray_at p.men o.man o.ray).far
    where
      by : (b : Bool) → symbols (distance_as (home p.men) b (var (length s))) ≡ []
      by true = refl
      by false = refl

  -- it speaks of the new distance
  pub first_free : (s : List Opt) (o : Opt) (x : Var) → IsFree x (first_part p s o) ↔ (x ≡ var (length s))
  first_free s o x = by (ray_at p.men o.man o.ray).far
    where
      one : IsOneOf x (var (length s) ∷ []) ↔ (x ≡ var (length s))
      one = (λ h. elim h [ inl is ↦ is | inr never ↦ absurd never ], λ h. inl h)

      by : (b : Bool) → IsFree x (distance_as (home p.men) b (var (length s))) ↔ (x ≡ var (length s))
      by true = one
      by false = one
