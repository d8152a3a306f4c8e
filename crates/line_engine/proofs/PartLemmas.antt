-- The parts of a move and of a check can be compiled.
use Rattle.std.proofs.Common.{◌≡◌, ◌≢◌, ℕ, zero, suc, ◌+◌, ◌*◌, ◌<◌, ◌≤◌, Bool, true, false, List, [], ◌∷◌, ◌++◌, append-nil, append_assoc, length, length-append, ℤ, pos, negsuc, neg_ℤ, unsigned_abs, Option, Some, None, inl, inr, refl, sym, ap, ◌∙◌, subst, arith}
use Rattle.std.specs.Prelude.{◌==◌, if◌then◌else◌}
use Rattle.std.specs.List.{All}
use Rattle.std.proofs.lemmas.Int.{ints}
use Rattle.std.proofs.lemmas.List.Elements.{All-cons, All-nil}
use Rattle.game_rules.specs.declared.men.Kind.{Kind}
use Rattle.game_rules.specs.declared.men.Man.{Man}
use Rattle.game_rules.specs.declared.men.Ray.{Ray}
use Rattle.game_rules.specs.declared.men.Side.{Side}
use Rattle.game_rules.specs.declared.men.Square.{Square}
use Rattle.game_rules.specs.Game.{Position}
use Rattle.game_rules.specs.Rays.{leap, ray_of}
use Rattle.game_laws.specs.Stock.{stock_man}
use Rattle.track_word.specs.Atom.{IsAtom, IsBound, term_vars}
use Rattle.track_word.specs.declared.atoms.Rel.{Rel}
use Rattle.track_word.specs.declared.atoms.Rel.TheVariants.{Le, Eq}
use Rattle.track_word.specs.declared.tracks.Var.{Var}
use Rattle.lin_formula.specs.Tree.{Tree, And, Not, steps}
use Rattle.rule_formula.specs.declared.opt.Opt.{Opt}
use Rattle.rule_formula.specs.Seats.{var}
use Rattle.rule_formula.specs.Trees.{clear, is_other, man_ray, ray_at, ray_or_none}
use Rattle.rule_formula.proofs.ChainLemmas.{last_or_before}
use Rattle.rule_formula.specs.Fine.{AreVars, IsFine, IsLow}
use Rattle.rule_formula.proofs.SizeTheorem.{IsFit}
use Rattle.line_formula.specs.declared.gap.Gap.{Gap}
use Rattle.line_formula.specs.declared.leg.Leg.{Leg}
use Rattle.line_formula.specs.Atoms.{constant, gap_tree, held, sum_tree, terms}
use Rattle.line_formula.specs.Paths.{first_part, leg_of, legs_of}
use Rattle.line_formula.specs.Places.{home}
use Rattle.line_formula.specs.Rules.{across, ahead, apart_by, bear_as, capture_parts, clear_parts, distance_as, line, measure, measure_by, off_line, on_way, on_way_as, opposite, screens, upward}
use Rattle.line_formula.specs.Small.{IsSmallGap, IsSmallLeg, IsSmallRay}
use Rattle.line_formula.proofs.AtomLemmas.{gap_atom, next_atom, one_atom}
use Rattle.line_formula.proofs.PlaceLemmas.{AreBelow, terms-below}
use Rattle.line_formula.proofs.SmallRays.{small_ray}
use Rattle.line_plan.proofs.PartFacts.{IsPart, below_one, first_free, part_and, part_not}
use Rattle.line_plan.proofs.SetFacts.{free_first, free_narrowed}
use Rattle.line_engine.specs.Answers.{IsPartOf, NoSet}

-- each ray of the men has a small step
pub ray_small : (men : List Man) (k n : ℕ) → IsSmallRay (ray_at men k n)
ray_small men k n = by (stock_man men k)
  where
    nowhere : IsSmallRay (leap (pos 0) (pos 0))
    nowhere = record { right = omega arith; up = omega arith; both = omega arith }

    along : (sort : Kind) (side : Side) (r : Option Ray) → r ≡ ray_of sort side n → IsSmallRay (ray_or_none r)
    along sort side None is = nowhere
    along sort side (Some r) is = small_ray sort side n r is

    by : (m : Option Man) → IsSmallRay (man_ray n m)
    by None = nowhere
    by (Some m) = along m.kind m.side (ray_of m.kind m.side n) refl

pub legs_small : (men : List Man) (s : List Opt) → All IsSmallLeg (legs_of men s)
legs_small men [] = All-nil IsSmallLeg
legs_small men (o ∷ s) = All-cons IsSmallLeg (leg_of men o) (legs_of men s) (ray_small men o.man o.ray) (legs_small men s)

across_small : (a b : ℕ) → IsSmallGap (across a b)
across_small a b = record { right = omega arith; up = omega arith; both = omega arith }

upward_small : (a b : ℕ) → IsSmallGap (upward a b)
upward_small a b = record { right = omega arith; up = omega arith; both = omega arith }

opposite_abs : (n : ℤ) → unsigned_abs (neg_ℤ n) ≡ unsigned_abs n
opposite_abs n = grind (arith, ints)

off_line_small : (r : Ray) (a b : ℕ) → IsSmallRay r → IsSmallGap (off_line r a b)
off_line_small r a b h =
    let same = opposite_abs r.dx in record { right = h.up; up = omega (arith, same, h.right); both = omega (arith, same, h.both) }

measure_small : (sideways : Bool) (r : Ray) (a b : ℕ) → IsSmallRay r → IsSmallGap (measure_by sideways r a b)
measure_small true r a b h = record { right = h.right; up = omega arith; both = omega (arith, h.right) }
measure_small false r a b h = record { right = omega arith; up = h.up; both = omega (arith, h.up) }

opposite_small : (g : Gap) → IsSmallGap g → IsSmallGap (opposite g)
opposite_small g h =
    let right = opposite_abs g.right in
    let up = opposite_abs g.up in
    record { right = omega (arith, right, h.right); up = omega (arith, up, h.up); both = omega (arith, right, up, h.both) }

none_bound : IsBound (pos 0)
none_bound = (omega (arith, ints), omega (arith, ints))

less_bound : IsBound (negsuc 0)
less_bound = (omega (arith, ints), omega (arith, ints))

step_bound : (d : ℤ) → unsigned_abs d ≤ 2 → IsBound d
step_bound d h = (omega (arith, ints, h), omega (arith, ints, h))

low_below : (n : ℕ) (ts : List (ℤ × Var)) → n ≤ 18 → AreBelow n ts → AreVars IsLow (term_vars ts)
low_below n [] room h = tt
low_below n (t ∷ ts) room h = (omega (arith, room, h.0), low_below n ts room h.1)

-- names no set, uses the first n variables alone, and can be compiled in at most this number of steps
pub record IsSmallPart (n steps : ℕ) (t : Tree) : Type 0 where
  pub part : IsPart n t
  pub fit : IsFit IsLow NoSet steps t

sum_small : (n : ℕ) (c : ℤ) (ts : List (ℤ × Var)) (rel : Rel) (bound : ℤ) → n ≤ 16 → AreBelow n ts → IsAtom ((pos 1, held) ∷ ts) bound → IsSmallPart n 2 (sum_tree c ts rel bound)
sum_small n c ts rel bound room below atom =
    let low : IsLow held = omega arith in
    record {
      part = record {
        plain = refl;
        free = λ x is.
            elim is.1 [
              | inl here ↦ absurd (is.0 here)
              | inr there ↦ elim there [ inl here ↦ absurd (is.0 here) | inr later ↦ below_one n ts x below later ]
            ];
      };
      fit = record { fine = (low, (low, (atom, (low, low_below n ts (omega (arith, room)) below)))); most = omega arith };
    }

pub part_both : {n k l : ℕ} (m : ℕ) {f g : Tree} → k + l < m → IsSmallPart n k f → IsSmallPart n l g → IsSmallPart n m (And f g)
part_both m {f} {g} room h j =
    let whole = length-append (steps f ++ steps g) (And f g ∷ []) in
    let both = length-append (steps f) (steps g) in
    let first = h.fit.most in
    let second = j.fit.most in
    record { part = part_and h.part j.part; fit = record { fine = (h.fit.fine, j.fit.fine); most = omega (arith, whole, both, first, second, room) } }

more_steps : {n m : ℕ} (k : ℕ) (t : Tree) → m ≤ k → IsSmallPart n m t → IsSmallPart n k t
more_steps k t room h = let most = h.fit.most in record { part = h.part; fit = record { fine = h.fit.fine; most = omega (arith, most, room) } }

pub part_other : {n m : ℕ} {f : Tree} → IsSmallPart n m f → IsSmallPart n m (Not f)
part_other h = record { part = part_not h.part; fit = record { fine = h.fit.fine; most = h.fit.most } }

-- few legs with small steps
pub record AreLegs (n : ℕ) (legs : List Leg) : Type 0 where
  pub small : All IsSmallLeg legs
  pub within : length legs ≤ n
  pub few : n ≤ 6

module _ (start : ℕ → Square) {n : ℕ} (legs : List Leg) (are : AreLegs n legs) where
  pub gap_small : (g : Gap) (rel : Rel) (bound : ℤ) → IsSmallGap g → IsBound bound → IsSmallPart n 2 (gap_tree start legs g rel bound)
  gap_small g rel bound small is =
      let few = are.few in
      let within = are.within in
      sum_small n (constant start g) (terms g legs) rel bound (omega (arith, few)) (terms-below n g legs within)
      (gap_atom g legs bound small are.small (omega (arith, few, within)) is)

  apart_small : (a b : ℕ) (x y : ℤ) → IsBound x → IsBound y → IsSmallPart n 5 (apart_by start legs a b x y)
  apart_small a b x y right up =
      part_both 5 (omega arith) (gap_small (across a b) Eq x (across_small a b) right) (gap_small (upward a b) Eq y (upward_small a b) up)

  module _ (r : Ray) (small : IsSmallRay r) where
    ahead_small : (a b : ℕ) → IsSmallPart n 2 (ahead start legs r a b)
    ahead_small a b =
        gap_small (opposite (measure r a b)) Le (negsuc 0) (opposite_small (measure r a b) (measure_small (unsigned_abs r.dx == 1) r a b small)) less_bound

    on_line_small : (a b : ℕ) → IsSmallPart n 5 (And (line start legs r a b) (ahead start legs r a b))
    on_line_small a b =
        part_both 5 (omega arith) (gap_small (off_line r a b) Eq (pos 0) (off_line_small r a b small) none_bound) (ahead_small a b)

    screens_small : (k g l : ℕ) → IsSmallPart n 8 (screens start legs r k g l)
    screens_small k g l = part_both 8 (omega arith) (on_line_small k l) (ahead_small l g)

clear_small : {n : ℕ} (m : ℕ) (f : Tree) (hit : ℕ → Tree) (live : ℕ → Bool) (i j count : ℕ) → IsSmallPart n m f → ((k : ℕ) → IsSmallPart n 8 (hit k))
    → IsSmallPart n (m + 9 * count) (clear f hit live i j count)
clear_small m f hit live i j zero h hits = more_steps (m + 9 * 0) f (omega arith) h
clear_small {n} m f hit live i j (suc count) h hits = by (is_other live i j (suc count)) (clear_small m f hit live i j count h hits)
  where
    before : Tree
    before = clear f hit live i j count

    by : (b : Bool) → IsSmallPart n (m + 9 * count) before → IsSmallPart n (m + 9 * suc count) (if b then And before (Not (hit (suc count))) else before)
    by true so_far = part_both (m + 9 * suc count) (omega arith) so_far (part_other (hits (suc count)))
    by false so_far = more_steps (m + 9 * suc count) before (omega arith) so_far

bear_small : (start : ℕ → Square) {n : ℕ} (legs : List Leg) → AreLegs n legs → (far : Bool) (live : ℕ → Bool) (count : ℕ) (r : Ray) → IsSmallRay r → (k g : ℕ)
    → IsSmallPart n (5 + 9 * count) (bear_as start far legs live count r k g)
bear_small start legs are true live count r small k g =
    clear_small 5 (And (line start legs r k g) (ahead start legs r k g)) (screens start legs r k g) live k g count
    (on_line_small start legs are r small k g) (λ l. screens_small start legs are r small k g l)
bear_small start legs are false live count r small k g =
    more_steps (5 + 9 * count) (apart_by start legs k g r.dx r.dy) (omega arith)
    (apart_small start legs are k g r.dx r.dy (step_bound r.dx small.right) (step_bound r.dy small.up))

way_small : (start : ℕ → Square) (legs : List Leg) (leg : Leg) → AreLegs (suc (length legs)) legs → AreLegs (suc (length legs)) (leg ∷ legs) → IsSmallRay leg.ray
    → (k : ℕ) (far : Bool) → IsSmallPart (suc (length legs)) 8 (on_way_as start far legs leg k)
way_small start legs leg before after small k true =
    let few = before.few in
    let g : Gap = measure leg.ray leg.man k in
    let n : ℕ = suc (length legs) in
    part_both 8 (omega arith) (on_line_small start legs before leg.ray small leg.man k)
    (sum_small n (constant start g) ((negsuc 0, var (length legs)) ∷ terms g legs) Le (pos 0) (omega (arith, few)) (omega arith, terms-below n g legs (omega arith))
    (next_atom g legs (pos 0) (measure_small (unsigned_abs leg.ray.dx == 1) leg.ray leg.man k small) before.small (omega (arith, few)) none_bound))
way_small start legs leg before after small k false =
    more_steps 8 (apart_by start (leg ∷ legs) leg.man k (pos 0) (pos 0)) (omega arith)
    (apart_small start (leg ∷ legs) after leg.man k (pos 0) (pos 0) none_bound none_bound)

-- it can be compiled
pub part_of : {n m : ℕ} (t : Tree) → m < 999 → IsSmallPart n m t → IsPartOf n n t
part_of {n} t room h =
    let most = h.fit.most in record { fine = h.fit.fine; few_steps = omega (arith, most, room); over = free_narrowed n t h.part }

-- no man on the way of the next leg
pub off_way_is : (start : ℕ → Square) (legs : List Leg) (leg : Leg) → AreLegs (suc (length legs)) (leg ∷ legs) → All IsSmallLeg legs → IsSmallRay leg.ray → (k : ℕ)
    → IsPartOf (suc (length legs)) (suc (length legs)) (Not (on_way start legs leg k))
off_way_is start legs leg after smalls small k =
    let before : AreLegs (suc (length legs)) legs = record { small = smalls; within = omega arith; few = after.few } in
    part_of (Not (on_way start legs leg k)) (omega arith) (part_other (way_small start legs leg before after small k leg.ray.far))

-- a man is level with another, or as far up
pub capture_is : (start : ℕ → Square) {n : ℕ} (legs : List Leg) → AreLegs n legs → (a b : ℕ)
    → IsPartOf n n (gap_tree start legs (across a b) Eq (pos 0)) × IsPartOf n n (gap_tree start legs (upward a b) Eq (pos 0))
capture_is start legs are a b = (
  part_of (gap_tree start legs (across a b) Eq (pos 0)) (omega arith) (gap_small start legs are (across a b) Eq (pos 0) (across_small a b) none_bound),
  part_of (gap_tree start legs (upward a b) Eq (pos 0)) (omega arith) (gap_small start legs are (upward a b) Eq (pos 0) (upward_small a b) none_bound),
)

-- a man bears on another, and he does not
pub bear_is : (start : ℕ → Square) {n : ℕ} (legs : List Leg) → AreLegs n legs → (live : ℕ → Bool) (count : ℕ) → count ≤ 32 → (r : Ray) → IsSmallRay r → (k g : ℕ)
    → IsPartOf n n (bear_as start r.far legs live count r k g) × IsPartOf n n (Not (bear_as start r.far legs live count r k g))
bear_is start legs are live count few r small k g =
    let here = bear_small start legs are r.far live count r small k g in (
      part_of (bear_as start r.far legs live count r k g) (omega (arith, few)) here,
      part_of (Not (bear_as start r.far legs live count r k g)) (omega (arith, few)) (part_other here),
    )

-- the distance of the next move
pub first_is : (p : Position) (s : List Opt) (o : Opt) → length s ≤ 6 → IsPartOf (length s) (suc (length s)) (first_part p s o)
first_is p s o few =
    record {
      fine = fine (ray_at p.men o.man o.ray).far;
      few_steps = none (ray_at p.men o.man o.ray).far;
      over = free_first (length s) (first_part p s o) (first_free p s o);
    }
  where
    low : IsLow (var (length s))
    low = omega (arith, few)

    fine : (far : Bool) → IsFine IsLow NoSet (distance_as (home p.men) far (var (length s)))
    fine true = (one_atom (negsuc 0) (var (length s)) (negsuc 0) (λ e. omega (arith, ints, e)) (omega (arith, ints), omega (arith, ints)) less_bound, (low, tt))
    fine false = (one_atom (pos 1) (var (length s)) (pos 1) (λ e. omega (arith, ints, e)) (omega (arith, ints), omega (arith, ints)) (omega (arith, ints), omega (arith, ints)), (low, tt))

    none : (far : Bool) → length (steps (distance_as (home p.men) far (var (length s)))) < 999
    none true = omega arith
    none false = omega arith

-- the distance along the leg of the option
pub first_tree : (p : Position) (s : List Opt) (o : Opt) (leg : Leg) (n : ℕ) (t : Tree) → n ≡ length s → leg ≡ leg_of p.men o
    → t ≡ distance_as (home p.men) leg.ray.far (var n) → t ≡ first_part p s o
first_tree p s o leg n t count leg_is is =
    is ∙ ap (λ (l : Leg). distance_as (home p.men) l.ray.far (var n)) leg_is ∙ ap (λ m. distance_as (home p.men) (ray_at p.men o.man o.ray).far (var m)) count

-- both parts of a capture
pub capture_two : (start : ℕ → Square) (legs : List Leg) (leg : Leg) (t : ℕ) → t ≢ 0
    → capture_parts start legs leg t ≡ gap_tree start (leg ∷ legs) (across t leg.man) Eq (pos 0) ∷ gap_tree start (leg ∷ legs) (upward t leg.man) Eq (pos 0) ∷ []
capture_two start legs leg zero some = absurd (some refl)
capture_two start legs leg (suc t) some = refl

-- the men that are not on the way, of one man more
pub clear_more : (start : ℕ → Square) (legs : List Leg) (leg : Leg) (live : ℕ → Bool) (t n : ℕ)
    → clear_parts start legs leg live t (n + 1)
    ≡ clear_parts start legs leg live t n ++ (if is_other live leg.man t (n + 1) then Not (on_way start legs leg (n + 1)) ∷ [] else [])
clear_more start legs leg live t n =
    let next : n + 1 ≡ suc n = omega arith in
    let both = by (is_other live leg.man t (suc n)) in
    subst (λ k. clear_parts start legs leg live t k ≡ clear_parts start legs leg live t n ++ (if is_other live leg.man t k then Not (on_way start legs leg k) ∷ [] else [])) (sym next) both
  where
    by : (b : Bool) → (if b then clear_parts start legs leg live t n ++ Not (on_way start legs leg (suc n)) ∷ [] else clear_parts start legs leg live t n)
        ≡ clear_parts start legs leg live t n ++ (if b then Not (on_way start legs leg (suc n)) ∷ [] else [])
    by true = refl
    by false = sym (append-nil (clear_parts start legs leg live t n))

-- the parts of some men stand before those of all
pub clear_front : (start : ℕ → Square) (legs : List Leg) (leg : Leg) (live : ℕ → Bool) (t n m : ℕ) → n ≤ m
    → (rest : List Tree) × (clear_parts start legs leg live t m ≡ clear_parts start legs leg live t n ++ rest)
clear_front start legs leg live t n zero h =
    let same : n ≡ 0 = omega arith in ([], subst (λ k. [] ≡ clear_parts start legs leg live t k ++ []) (sym same) refl)
clear_front start legs leg live t n (suc m) h = elim (last_or_before n m h) [
  | inl before ↦
      let (rest, is) = clear_front start legs leg live t n m before in
      let last : List Tree = if is_other live leg.man t (m + 1) then Not (on_way start legs leg (m + 1)) ∷ [] else [] in
      let next : m + 1 ≡ suc m = omega arith in
      let more : clear_parts start legs leg live t (suc m) ≡ clear_parts start legs leg live t m ++ last =
      subst (λ k. clear_parts start legs leg live t k ≡ clear_parts start legs leg live t m ++ last) next (clear_more start legs leg live t m) in
      (rest ++ last, more ∙ ap (λ xs. xs ++ last) is ∙ append_assoc (clear_parts start legs leg live t n) rest last)
  | inr same ↦ ([], subst (λ k. clear_parts start legs leg live t (suc m) ≡ clear_parts start legs leg live t k ++ []) (sym same) (sym (append-nil (clear_parts start legs leg live t (suc m)))))
]
