-- The formulas of the rules are small, and name the sets that they are given.
use Rattle.std.proofs.Common.{◌≡◌, ◌≢◌, ◌⊎◌, ℕ, zero, suc, ◌+◌, ◌*◌, ◌%◌, ◌<◌, ◌≤◌, ℤ, pos, negsuc, neg_ℤ, unsigned_abs, Bool, true, false, List, [], ◌∷◌, ◌++◌, length, Option, Some, None, inl, inr, refl, sym, ap, ◌∙◌, subst, arith, length-append}
use Rattle.std.specs.Prelude.{◌==◌, ◌&&◌, not, if◌then◌else◌}
use Rattle.std.specs.List.{All}
use Rattle.std.proofs.lemmas.Int.{ints}
use Rattle.std.proofs.lemmas.Bool.Decides.{nat_tests}
use Rattle.track_word.specs.declared.tracks.Var.{Var}
use Rattle.track_word.specs.declared.atoms.Rel.{Rel}
use Rattle.track_word.specs.declared.atoms.Rel.TheVariants.{Eq, Le}
use Rattle.track_word.specs.Atom.{IsAtom, IsBound, term_vars}
use Rattle.game_rules.specs.declared.men.Man.{Man}
use Rattle.game_rules.specs.declared.men.Ray.{Ray}
use Rattle.game_rules.specs.declared.men.Square.{Square}
use Rattle.lin_formula.specs.Tree.{Tree, memberships, steps}
use Rattle.lin_formula.specs.Tree as tree
use Rattle.rule_formula.specs.declared.opt.Opt.{Opt}
use Rattle.rule_formula.specs.declared.atoms.Extent.{Extent}
use Rattle.rule_formula.specs.declared.atoms.Extent.TheVariants.{Onto, Before}
use Rattle.rule_formula.specs.declared.seats.Seat.{Seat}
use Rattle.rule_formula.specs.Paths.{IsJourney, IsRayStep}
use Rattle.rule_formula.specs.Placed.{IsLiveIn, is_live, without}
use Rattle.game_laws.specs.Stock.{stock_man}
use Rattle.rule_formula.specs.Seats.{IsSeat, elsewhere, new_seat, new_seats, old_seats, own, seats_with, spare, swept, vars_to}
use Rattle.rule_formula.specs.Trees.{AreApart, IsCounted, IsDrawn, Suits, ahead, and_all, bear_of, bear_tree, clear, clear_as, difference, ex_swept, image_body, image_of, image_tree, is_other, line, line_atoms, man_square, on, on_as, ordered, past, point_of, point_to, pre_body, pre_of, pre_tree, ray_at, ray_atoms, safe_of, tracks_of, twins_tree, unless_same, atoms_as, with_square}
use Rattle.rule_formula.specs.Meaning.{IsBearer, IsOptionOf}
use Rattle.rule_formula.specs.Size.{IsModest, IsOver, NamesBoth, NamesOnly, NamesBeforeAndAfter}
use Rattle.rule_formula.proofs.ApartLemmas.{apart_back, apart_counted, apart_drawn, own_others}
use Rattle.rule_formula.proofs.BearLemmas.{stock_number}
use Rattle.rule_formula.proofs.FineLemmas.{fine_few, fine_made, fine_names, four_atom, leaping_atom, minus_factor, one_factor, two_atom}
use Rattle.rule_formula.proofs.FormulaLemmas.{own_apart}
use Rattle.rule_formula.proofs.LineTrees.{line_atoms_hold, line_holds}
use Rattle.rule_formula.proofs.MoveLemmas.{kept_live, was_live}
use Rattle.rule_formula.proofs.PathLemmas.{bearer_journey, journey_is, option_journey}
use Rattle.rule_formula.proofs.SweptLemmas.{from_spare, new_suits}
use Rattle.rule_formula.specs.Fine.{AreVars, IsFine, IsLow}

-- what holds of each where it is meant
pub chosen_tree : (P : Tree → Type 0) (m n : ℕ) (f g : Tree) → (m ≡ n → P f) → ((m ≡ n → ⊥) → P g) → P (if m == n then f else g)
chosen_tree P m n f g h k = cases (m == n) (λ e. h (grind (arith, nat_tests))) (λ e. k (λ same. differs m n e same))
  where
    differs : (a b : ℕ) → (a == b) ≡ false → a ≡ b → ⊥
    differs a b e same = grind (arith, nat_tests)

    cases : (b : Bool) → (b ≡ true → P f) → (b ≡ false → P g) → P (if b then f else g)
    cases true h k = h refl
    cases false h k = k refl

small_bound : (d : ℤ) → unsigned_abs d ≤ 2 → IsBound d
small_bound d h = (omega (arith, ints, h), omega (arith, ints, h))

-- a seat whose variables are as told
pub record IsGood (V : Var → Type 0) (s : Seat) : Type 0 where
  pub seat : IsSeat s
  pub across : V s.x
  pub along : V s.y

own_seat : (k : ℕ) → 0 < k → IsSeat (own k)
own_seat zero low = absurd (omega (arith, low))
own_seat (suc k) low = record { even = omega arith; odd = omega arith }

pub own_good : (V : Var → Type 0) (k : ℕ) → 0 < k → V (own k).x → V (own k).y → IsGood V (own k)
own_good V k low across along = record { seat = own_seat k low; across = across; along = along }

own_low : (k : ℕ) → 0 < k → k ≤ 8 → IsGood IsLow (own k)
own_low k low high = own_good IsLow k low (omega (arith, high)) (omega (arith, high))

swept_cases : (P : Var → Type 0) (d : ℤ) (x y : Var) → P x → P y → P (swept d x y)
swept_cases P (pos zero) x y p q = p
swept_cases P (pos (suc d)) x y p q = q
swept_cases P (negsuc d) x y p q = q

pub spare_seat : (r : Ray) (i : ℕ) → 0 < i → IsSeat (spare r i)
spare_seat r i low =
    let own_is : IsSeat (own i) = own_seat i low in
    record {
      even = swept_cases (λ v. v.0 % 2 ≡ 0) r.dx (own i).x elsewhere.x own_is.even refl;
      odd = swept_cases (λ v. v.0 % 2 ≡ 1) r.dy (own i).y elsewhere.y own_is.odd refl;
    }

spare_low : (r : Ray) (i : ℕ) → 0 < i → i ≤ 8 → IsGood IsLow (spare r i)
spare_low r i low high =
    record {
      seat = spare_seat r i low;
      across = swept_cases IsLow r.dx (own i).x elsewhere.x (omega (arith, high)) (omega arith);
      along = swept_cases IsLow r.dy (own i).y elsewhere.y (omega (arith, high)) (omega arith);
    }

spare_others : (r : Ray) (i k : ℕ) → 0 < i → 0 < k → k ≤ 8 → i ≢ k → AreApart (spare r i) (own k)
spare_others r i k low first last ne =
    let others : AreApart (own i) (own k) = own_others i k low first ne in
    record {
      across = swept_cases (λ v. v.0 ≢ (own k).x.0) r.dx (own i).x elsewhere.x others.across (λ e. omega (arith, e, last));
      along = swept_cases (λ v. v.0 ≢ (own k).y.0) r.dy (own i).y elsewhere.y others.along (λ e. omega (arith, e, last));
    }

new_low : (r : Ray) (i t : ℕ) → 0 < i → i ≤ 8 → t ≤ 8 → IsGood IsLow (new_seat r i t)
new_low r i zero low high last = spare_low r i low high
new_low r i (suc t) low high last = own_low (suc t) (omega arith) last

new_others : (r : Ray) (i t k : ℕ) → 0 < i → 0 < k → k ≤ 8 → i ≢ k → k ≢ t → AreApart (new_seat r i t) (own k)
new_others r i zero k low first last ne untaken = spare_others r i k low first last ne
new_others r i (suc t) k low first last ne untaken = own_others (suc t) k (omega arith) first (λ e. untaken (sym e))

zero_bound : IsBound (pos 0)
zero_bound = (omega (arith, ints), omega (arith, ints))

past_bound : (extent : Extent) → IsBound (past extent)
past_bound Onto = zero_bound
past_bound Before = (omega (arith, ints), omega (arith, ints))

and_steps : (f g : Tree) → length (steps (tree.And f g)) ≡ length (steps f) + length (steps g) + 1
and_steps f g =
    length-append (steps f ++ steps g) (tree.And f g ∷ []) ∙ ap (λ n. n + 1) (length-append (steps f) (steps g))

ex_steps : (x : Var) (f : Tree) → length (steps (tree.Ex x f)) ≡ length (steps f) + 1
ex_steps x f = length-append (steps f) (tree.Ex x f ∷ [])

-- fine, with at most so many steps
pub record IsFit (V : Var → Type 0) (P : ℕ × List Var → Type 0) (n : ℕ) (t : Tree) : Type 0 where
  pub fine : IsFine V P t
  pub most : length (steps t) ≤ n

more_fit : (V : Var → Type 0) (P : ℕ × List Var → Type 0) {n : ℕ} (m : ℕ) (t : Tree) → n ≤ m → IsFit V P n t → IsFit V P m t
more_fit V P m t room h = let most = h.most in record { fine = h.fine; most = omega (arith, most, room) }

and_fit : (V : Var → Type 0) (P : ℕ × List Var → Type 0) {k l : ℕ} (m : ℕ) (f g : Tree) → k + l < m → IsFit V P k f → IsFit V P l g → IsFit V P m (tree.And f g)
and_fit V P m f g room h j =
    let both = and_steps f g in
    let first = h.most in
    let second = j.most in record { fine = (h.fine, j.fine); most = omega (arith, both, first, second, room) }

lin_fit : (V : Var → Type 0) (P : ℕ × List Var → Type 0) (terms : List (ℤ × Var)) (rel : Rel) (bound : ℤ) → IsAtom terms bound → AreVars V (term_vars terms) → IsFit V P 0 (tree.Lin terms rel bound)
lin_fit V P terms rel bound atom vars = record { fine = (atom, vars); most = omega arith }

among_fit : (V : Var → Type 0) (P : ℕ × List Var → Type 0) (s : ℕ) (vars : List Var) → P (s, vars) → AreVars V vars → IsFit V P 0 (tree.Among s vars)
among_fit V P s vars named told = record { fine = (named, told); most = omega arith }

difference_fit : (V : Var → Type 0) (P : ℕ × List Var → Type 0) (x y : Var) (rel : Rel) (n : ℤ) → x.0 ≢ y.0 → V x → V y → IsBound n → IsFit V P 0 (difference x y rel n)
difference_fit V P x y rel n ne first second bound = lin_fit V P ((pos 1, x) ∷ (negsuc 0, y) ∷ []) rel n (two_atom x y n ne bound) (first, (second, tt))

line_fit : (V : Var → Type 0) (P : ℕ × List Var → Type 0) (dx dy : ℤ) {a b : Seat} → IsGood V a → IsGood V b → IsDrawn dx dy a b → IsRayStep dx dy → IsFit V P 0 (line dx dy a b)
line_fit V P dx dy {a} {b} from to drawn step =
    let vars : AreVars V (b.x ∷ a.x ∷ b.y ∷ a.y ∷ []) = (to.across, (from.across, (to.along, (from.along, tt)))) in
    line_holds (IsFit V P 0) dx dy a b (record {
      column = λ e. difference_fit V P b.x a.x Eq (pos 0) (drawn.across e) to.across from.across zero_bound;
      row = λ e. difference_fit V P b.y a.y Eq (pos 0) (drawn.along e) to.along from.along zero_bound;
      slanting = λ right up.
          let (across, along) = drawn.aslant right up in (
            lin_fit V P ((pos 1, b.x) ∷ (negsuc 0, a.x) ∷ (negsuc 0, b.y) ∷ (pos 1, a.y) ∷ []) Eq (pos 0)
                (four_atom (pos 1) (negsuc 0) (negsuc 0) (pos 1) b.x a.x b.y a.y across along from.seat.even to.seat.even from.seat.odd to.seat.odd one_factor minus_factor minus_factor one_factor) vars,
            lin_fit V P ((pos 1, b.x) ∷ (negsuc 0, a.x) ∷ (pos 1, b.y) ∷ (negsuc 0, a.y) ∷ []) Eq (pos 0)
                (four_atom (pos 1) (negsuc 0) (pos 1) (negsuc 0) b.x a.x b.y a.y across along from.seat.even to.seat.even from.seat.odd to.seat.odd one_factor minus_factor one_factor minus_factor) vars,
            lin_fit V P ((dy, b.x) ∷ (neg_ℤ dy, a.x) ∷ (neg_ℤ dx, b.y) ∷ (dx, a.y) ∷ []) Eq (pos 0)
                (leaping_atom dx dy b.x a.x b.y a.y across along from.seat.even to.seat.even from.seat.odd to.seat.odd right up step.short_right step.short_up) vars,
          );
    })

ordered_fit : (V : Var → Type 0) (P : ℕ × List Var → Type 0) (d : ℤ) (x y : Var) (n : ℤ) → x.0 ≢ y.0 → V x → V y → IsBound n → IsFit V P 0 (ordered d x y n)
ordered_fit V P (pos d) x y n ne first second bound = difference_fit V P x y Le n ne first second bound
ordered_fit V P (negsuc d) x y n ne first second bound = difference_fit V P y x Le n (λ e. ne (sym e)) second first bound

ahead_fit : (V : Var → Type 0) (P : ℕ × List Var → Type 0) (dx dy : ℤ) (a b : Seat) (extent : Extent) → IsGood V a → IsGood V b → IsCounted dx dy a b → IsFit V P 0 (ahead dx dy a b extent)
ahead_fit V P dx dy a b extent from to counted =
    chosen_tree (IsFit V P 0) (unsigned_abs dx) 1 (ordered dx a.x b.x (past extent)) (ordered dy a.y b.y (past extent))
    (λ one. ordered_fit V P dx a.x b.x (past extent) (counted.across one) from.across to.across (past_bound extent))
    (λ off. ordered_fit V P dy a.y b.y (past extent) (counted.along off) from.along to.along (past_bound extent))

on_fit : (V : Var → Type 0) (P : ℕ × List Var → Type 0) (far : Bool) (dx dy : ℤ) {a b z : Seat} (extent : Extent) → IsRayStep dx dy → IsGood V a → IsGood V b
    → IsGood V z → AreApart a z → AreApart z b → IsFit V P 2 (on_as far dx dy a b z extent)
on_fit V P true dx dy {a} {b} {z} extent step from to middle first last =
    and_fit V P 2 (tree.And (line dx dy a z) (ahead dx dy a z Before)) (ahead dx dy z b extent) (omega arith)
    (and_fit V P 1 (line dx dy a z) (ahead dx dy a z Before) (omega arith) (line_fit V P dx dy from middle (apart_drawn dx dy first) step)
    (ahead_fit V P dx dy a z Before from middle (apart_counted dx dy first)))
    (ahead_fit V P dx dy z b extent middle to (apart_counted dx dy last))
on_fit V P false dx dy {b} {z} extent step from to middle first last =
    and_fit V P 2 (difference z.x b.x Eq (pos 0)) (difference z.y b.y Eq (pos 0)) (omega arith)
    (difference_fit V P z.x b.x Eq (pos 0) last.across middle.across to.across zero_bound) (difference_fit V P z.y b.y Eq (pos 0) last.along middle.along to.along zero_bound)

-- each formula of a list is fine, and has no steps
abbrev AreFit : (Var → Type 0) → (ℕ × List Var → Type 0) → List Tree → Type 0
AreFit V P [] = Unit {0}
AreFit V P (f ∷ fs) = IsFit V P 0 f × AreFit V P fs

are_fit-append : (V : Var → Type 0) (P : ℕ × List Var → Type 0) (fs gs : List Tree) → AreFit V P fs → AreFit V P gs → AreFit V P (fs ++ gs)
are_fit-append V P [] gs h k = k
are_fit-append V P (f ∷ fs) gs h k = (h.0, are_fit-append V P fs gs h.1 k)

and_all_fit : (V : Var → Type 0) (P : ℕ × List Var → Type 0) (n : ℕ) (f : Tree) (gs : List Tree) → IsFit V P n f → AreFit V P gs → IsFit V P (n + length gs) (and_all f gs)
and_all_fit V P n f [] h k = more_fit V P (n + 0) f (omega arith) h
and_all_fit V P n f (g ∷ gs) h k =
    more_fit V P (n + suc (length gs)) (and_all (tree.And f g) gs) (omega arith) (and_all_fit V P (suc n) (tree.And f g) gs (and_fit V P (suc n) f g (omega arith) h k.0) k.1)

-- one atom at most, and fine
record IsOneAtMost (V : Var → Type 0) (P : ℕ × List Var → Type 0) (fs : List Tree) : Type 0 where
  fit : AreFit V P fs
  few : length fs ≤ 1

unless_fit : (V : Var → Type 0) (P : ℕ × List Var → Type 0) (x y : Var) (f : Tree) → (x.0 ≢ y.0 → IsFit V P 0 f) → IsOneAtMost V P (unless_same x y f)
unless_fit V P x y f h = cases (x.0 == y.0) f (λ e. h (λ same. differs x.0 y.0 e same))
  where
    differs : (a b : ℕ) → (a == b) ≡ false → a ≡ b → ⊥
    differs a b e same = grind (arith, nat_tests)

    cases : (b : Bool) (f : Tree) → (b ≡ false → IsFit V P 0 f) → IsOneAtMost V P (if b then [] else f ∷ [])
    cases true f h = record { fit = tt; few = omega arith }
    cases false f h = record { fit = (h refl, tt); few = omega arith }

line_atoms_fit : (V : Var → Type 0) (P : ℕ × List Var → Type 0) {r : Ray} {a b : Seat} → IsGood V a → IsGood V b → Suits r a b → IsRayStep r.dx r.dy
    → IsOneAtMost V P (line_atoms r.dx r.dy a b)
line_atoms_fit V P {r} {a} {b} from to suits step =
    line_atoms_hold (IsOneAtMost V P) r.dx r.dy a b (record {
      column = λ e. unless_fit V P b.x a.x (difference b.x a.x Eq (pos 0)) (λ ne. difference_fit V P b.x a.x Eq (pos 0) ne to.across from.across zero_bound);
      row = λ right e. unless_fit V P b.y a.y (difference b.y a.y Eq (pos 0)) (λ ne. difference_fit V P b.y a.y Eq (pos 0) ne to.along from.along zero_bound);
      slanting = λ right up.
          let drawn : IsDrawn r.dx r.dy a b = record {
            across = λ e. absurd (right e);
            along = λ e. absurd (up e);
            aslant = λ _ _. (λ same. right (suits.across same), λ same. up (suits.along same));
          }
          in
          record { fit = (line_fit V P r.dx r.dy from to drawn step, tt); few = omega arith };
    })

suits_counted : {r : Ray} {a b : Seat} → IsRayStep r.dx r.dy → Suits r a b → IsCounted r.dx r.dy a b
suits_counted {r} {a} {b} step suits =
    record {
      across = λ one same. omega (arith, one, ap unsigned_abs (suits.across (sym same)));
      along = λ off same. omega (arith, step.one off, ap unsigned_abs (suits.along (sym same)));
    }

-- both parts of a ray's atoms
both_fit : (V : Var → Type 0) (P : ℕ × List Var → Type 0) (n : ℕ) (f : Tree) (fs gs : List Tree) → IsFit V P n f → IsOneAtMost V P fs → IsOneAtMost V P gs → IsFit V P (n + 2) (and_all f (fs ++ gs))
both_fit V P n f fs gs h first second =
    let one = first.few in
    let other = second.few in
    let all = length-append fs gs in
    more_fit V P (n + 2) (and_all f (fs ++ gs)) (omega (arith, one, other, all)) (and_all_fit V P n f (fs ++ gs) h (are_fit-append V P fs gs first.fit second.fit))

ray_fit : (V : Var → Type 0) (P : ℕ × List Var → Type 0) (n : ℕ) (f : Tree) (far : Bool) {r : Ray} {a b : Seat} → IsFit V P n f → IsRayStep r.dx r.dy → IsGood V a → IsGood V b → Suits r a b
    → IsFit V P (n + 2) (and_all f (atoms_as far r.dx r.dy a b))
ray_fit V P n f true {r} {a} {b} h step from to suits =
    both_fit V P n f (line_atoms r.dx r.dy a b) (ahead r.dx r.dy a b Before ∷ []) h (line_atoms_fit V P from to suits step)
    (record { fit = (ahead_fit V P r.dx r.dy a b Before from to (suits_counted step suits), tt); few = omega arith })
ray_fit V P n f false {r} {a} {b} h step from to suits =
    both_fit V P n f (unless_same b.x a.x (difference b.x a.x Eq r.dx)) (unless_same b.y a.y (difference b.y a.y Eq r.dy)) h
    (unless_fit V P b.x a.x (difference b.x a.x Eq r.dx) (λ ne. difference_fit V P b.x a.x Eq r.dx ne to.across from.across (small_bound r.dx step.short_right)))
    (unless_fit V P b.y a.y (difference b.y a.y Eq r.dy) (λ ne. difference_fit V P b.y a.y Eq r.dy ne to.along from.along (small_bound r.dy step.short_up)))

if_fit : (V : Var → Type 0) (P : ℕ × List Var → Type 0) {n : ℕ} (b : Bool) (f g : Tree) → IsFit V P n f → (b ≡ true → IsFit V P 2 g) → IsFit V P (n + 3) (if b then tree.And f (tree.Not g) else f)
if_fit V P {n} true f g h k = let w = k refl in and_fit V P {k = n} {l = 2} (n + 3) f (tree.Not g) (omega arith) h (record { fine = w.fine; most = w.most })
if_fit V P {n} false f g h k = more_fit V P (n + 3) f (omega arith) h

-- what is known of the men who may stand on a path
abbrev pub ForOthers : (ℕ → Bool) → ℕ → ℕ → ℕ → (ℕ → Type 0) → Type 0
ForOthers live i j n Q = (k : ℕ) → 0 < k → k ≤ n → live k ≡ true → k ≢ i → k ≢ j → Q k

other_from : (b : Bool) (i j k : ℕ) → (b && (not (k == i) && not (k == j))) ≡ true → (b ≡ true) × (k ≢ i) × (k ≢ j)
other_from true i j k e = (refl, grind (arith, nat_tests), grind (arith, nat_tests))
other_from false i j k e = absurd (cc)

clear_fit : (V : Var → Type 0) (P : ℕ × List Var → Type 0) (m : ℕ) (f : Tree) (hit : ℕ → Tree) (live : ℕ → Bool) (i j n : ℕ) → IsFit V P m f
    → ForOthers live i j n (λ k. IsFit V P 2 (hit k)) → IsFit V P (m + 3 * n) (clear f hit live i j n)
clear_fit V P m f hit live i j zero h each = more_fit V P (m + 3 * 0) f (omega arith) h
clear_fit V P m f hit live i j (suc n) h each =
    more_fit V P (m + 3 * suc n) (clear f hit live i j (suc n)) (omega arith)
    (if_fit V P (is_other live i j (suc n)) (clear f hit live i j n) (hit (suc n)) (clear_fit V P m f hit live i j n h (λ k low high. each k low (omega (arith, high))))
    (λ e. let w = other_from (live (suc n)) i j (suc n) e in each (suc n) (omega arith) (omega arith) w.0 w.1 w.2))

clear_as_fit : (V : Var → Type 0) (P : ℕ × List Var → Type 0) (m : ℕ) (far : Bool) (f : Tree) (hit : ℕ → Tree) (live : ℕ → Bool) (i j n : ℕ) → IsFit V P m f
    → ForOthers live i j n (λ k. IsFit V P 2 (hit k)) → IsFit V P (m + 3 * n) (clear_as far f hit live i j n)
clear_as_fit V P m true f hit live i j n h each = clear_fit V P m f hit live i j n h each
clear_as_fit V P m false f hit live i j n h each = more_fit V P (m + 3 * n) f (omega arith) h

swept_fit : (V : Var → Type 0) (P : ℕ × List Var → Type 0) {n : ℕ} (d : ℤ) (x : Var) (f : Tree) → V x → IsFit V P n f → IsFit V P (suc n) (ex_swept d x f)
swept_fit V P {n} (pos zero) x f told h = more_fit V P (suc n) f (omega arith) h
swept_fit V P (pos (suc d)) x f told h = let more = ex_steps x f in let most = h.most in record { fine = (told, h.fine); most = omega (arith, more, most) }
swept_fit V P (negsuc d) x f told h = let more = ex_steps x f in let most = h.most in record { fine = (told, h.fine); most = omega (arith, more, most) }

told_if : (V : Var → Type 0) (b : Bool) (xs : List Var) (x y : Var) → AreVars V xs → (b ≡ true → V x × V y) → AreVars V (if b then xs ++ x ∷ y ∷ [] else xs)
told_if V true xs x y h both = more xs h
  where
    more : (xs : List Var) → AreVars V xs → AreVars V (xs ++ x ∷ y ∷ [])
    more [] h = let w = both refl in (w.0, (w.1, tt))
    more (z ∷ zs) h = (h.0, more zs h.1)
told_if V false xs x y h both = h

-- each live man among the first n has a seat as told
abbrev pub AreSeated : (Var → Type 0) → (ℕ → Seat) → (ℕ → Bool) → ℕ → Type 0
AreSeated V seats live n = (k : ℕ) → 0 < k → k ≤ n → live k ≡ true → IsGood V (seats k)

vars_told : (V : Var → Type 0) (seats : ℕ → Seat) (live : ℕ → Bool) (n : ℕ) → AreSeated V seats live n → AreVars V (vars_to seats live n)
vars_told V seats live zero h = tt
vars_told V seats live (suc n) h =
    told_if V (live (suc n)) (vars_to seats live n) (seats (suc n)).x (seats (suc n)).y (vars_told V seats live n (λ k low high. h k low (omega (arith, high))))
    (λ on. let last : IsGood V (seats (suc n)) = h (suc n) (omega arith) (omega arith) on in (last.across, last.along))

as_long : (b : Bool) (xs ys : List Var) (x y z w : Var) → length xs ≡ length ys → length (if b then xs ++ x ∷ y ∷ [] else xs) ≡ length (if b then ys ++ z ∷ w ∷ [] else ys)
as_long true xs ys x y z w e = length-append xs (x ∷ y ∷ []) ∙ ap (λ n. n + 2) e ∙ sym (length-append ys (z ∷ w ∷ []))
as_long false xs ys x y z w e = e

-- there are as many variables, whatever the seats
vars_long : (seats others : ℕ → Seat) (live : ℕ → Bool) (n : ℕ) → length (vars_to seats live n) ≡ length (vars_to others live n)
vars_long seats others live zero = refl
vars_long seats others live (suc n) =
    as_long (live (suc n)) (vars_to seats live n) (vars_to others live n) (seats (suc n)).x (seats (suc n)).y (others (suc n)).x (others (suc n)).y (vars_long seats others live n)

seat_cases : {V : Var → Type 0} (i j k : ℕ) {a b : Seat} → IsGood V a → IsGood V b → (k ≢ i → k ≢ j → IsGood V (own k)) → IsGood V (seats_with i a j b k)
seat_cases {V = V} i j k {a} {b} first second third = cases (k == i) (k == j) (λ e. differs k i e) (λ e. differs k j e)
  where
    differs : (p q : ℕ) → (p == q) ≡ false → p ≢ q
    differs p q e = grind (arith, nat_tests)

    cases : (p q : Bool) → (p ≡ false → k ≢ i) → (q ≡ false → k ≢ j) → IsGood V (if p then a else if q then b else own k)
    cases true q one two = first
    cases false true one two = second
    cases false false one two = third (one refl) (two refl)

-- what is known of a path from seat to seat
pub record IsGoodPath (V : Var → Type 0) (r : Ray) (a b : Seat) (live : ℕ → Bool) (i j n : ℕ) : Type 0 where
  pub step : IsRayStep r.dx r.dy
  pub from : IsGood V a
  pub to : IsGood V b
  pub suits : Suits r a b
  pub others : ForOthers live i j n (λ k. IsGood V (own k) × AreApart a (own k) × AreApart (own k) b)

path_fit : (V : Var → Type 0) (P : ℕ × List Var → Type 0) (m : ℕ) (far : Bool) (f : Tree) (r : Ray) (a b : Seat) (extent : Extent) (live : ℕ → Bool) (i j n : ℕ)
    → IsFit V P m f → IsGoodPath V r a b live i j n → IsFit V P (m + 2 + 3 * n) (clear_as far (and_all f (ray_atoms r a b)) (λ k. on r a b extent (own k)) live i j n)
path_fit V P m far f r a b extent live i j n h is =
    clear_as_fit V P (m + 2) far (and_all f (ray_atoms r a b)) (λ k. on r a b extent (own k)) live i j n
    (ray_fit V P m f r.far h is.step is.from is.to is.suits)
    (λ k low high alive other second. let w = is.others k low high alive other second in on_fit V P r.far r.dx r.dy extent is.step is.from is.to w.0 w.1 w.2)

pub image_body_fit : (V : Var → Type 0) (P : ℕ × List Var → Type 0) (n mask i t s : ℕ) {r : Ray} → n ≤ 8 → IsJourney i r t → P (s, vars_to (old_seats r i t) (is_live mask) n)
    → IsGood V (spare r i) → IsGood V (own i) → AreSeated V own (without (is_live mask) t) n → IsFit V P (2 + 3 * n) (image_body n mask i r t s)
image_body_fit V P n mask i t s {r} few j named from to each =
    let low : 0 < i = omega (arith, j.low) in
    path_fit V P 0 true (tree.Among s (vars_to (old_seats r i t) (is_live mask) n)) r (spare r i) (own i) Onto (is_live mask) i t n
    (among_fit V P s (vars_to (old_seats r i t) (is_live mask) n) named (vars_told V (old_seats r i t) (is_live mask) n (λ k first last alive. seat_cases i t k from to (λ _ untaken. each k first last (kept_live (is_live mask k) k t alive untaken)))))
    (record {
      step = j.step;
      from = from;
      to = to;
      suits = from_spare r i low j.high;
      others = λ k first last alive other untaken. (
        each k first last (kept_live (is_live mask k) k t alive untaken),
        spare_others r i k low first (omega (arith, last, few)) (λ e. other (sym e)),
        own_others k i first low other,
      );
    })

pub pre_body_fit : (V : Var → Type 0) (P : ℕ × List Var → Type 0) (n mask i t s q : ℕ) {r : Ray} → n ≤ 8 → IsJourney i r t → P (s, vars_to own (is_live mask) n)
    → P (q, vars_to (new_seats r i t) (without (is_live mask) t) n) → IsGood V (own i) → IsGood V (new_seat r i t) → AreSeated V own (is_live mask) n
    → IsFit V P (3 + 3 * n) (pre_body n mask i r t s q)
pre_body_fit V P n mask i t s q {r} few j named target from to each =
    let low : 0 < i = omega (arith, j.low) in
    let before : Tree = tree.Among s (vars_to own (is_live mask) n) in
    let after : Tree = tree.Among q (vars_to (new_seats r i t) (without (is_live mask) t) n) in
    path_fit V P 1 true (tree.And before after) r (own i) (new_seat r i t) Onto (is_live mask) i t n
    (and_fit V P {k = 0} {l = 0} 1 before after (omega arith) (among_fit V P s (vars_to own (is_live mask) n) named (vars_told V own (is_live mask) n each))
    (among_fit V P q (vars_to (new_seats r i t) (without (is_live mask) t) n) target (vars_told V (new_seats r i t) (without (is_live mask) t) n
    (λ k first end alive. seat_cases i t k to to (λ _ _. each k first end (was_live (is_live mask k) k t alive).0)))))
    (record {
      step = j.step;
      from = from;
      to = to;
      suits = new_suits r i t low j.high j.apart;
      others = λ k first end alive other untaken. (
        each k first end alive,
        own_others i k low first (λ e. other (sym e)),
        apart_back (new_others r i t k low first (omega (arith, end, few)) (λ e. other (sym e)) untaken),
      );
    })

pub bear_fit : (V : Var → Type 0) (P : ℕ × List Var → Type 0) (n mask k g s : ℕ) (r : Ray) → 0 < k → 0 < g → k ≢ g → IsRayStep r.dx r.dy → P (s, vars_to own (is_live mask) n)
    → IsGood V (own k) → IsGood V (own g) → AreSeated V own (is_live mask) n → IsFit V P (2 + 3 * n) (bear_tree n mask k r g s)
bear_fit V P n mask k g s r low first apart step named from to each =
    path_fit V P 0 r.far (tree.Among s (vars_to own (is_live mask) n)) r (own k) (own g) Before (is_live mask) k g n
    (among_fit V P s (vars_to own (is_live mask) n) named (vars_told V own (is_live mask) n each))
    (record {
      step = step;
      from = from;
      to = to;
      suits = own_apart k g r low first apart;
      others = λ l begin end alive other second. (each l begin end alive, own_others k l low begin (λ e. other (sym e)), own_others l g begin first second);
    })

pub twins_fit : (V : Var → Type 0) (P : ℕ × List Var → Type 0) (n mask a b s : ℕ) → 0 < a → 0 < b → a ≢ b → P (s, vars_to own (is_live mask) n)
    → IsGood V (own a) → IsGood V (own b) → AreSeated V own (is_live mask) n → IsFit V P 2 (twins_tree n mask a b s)
twins_fit V P n mask a b s low first ne named one two each =
    let apart : AreApart (own a) (own b) = own_others a b low first ne in
    let among : Tree = tree.Among s (vars_to own (is_live mask) n) in
    let across : Tree = difference (own a).x (own b).x Eq (pos 0) in
    and_fit V P {k = 1} {l = 0} 2 (tree.And among across) (difference (own a).y (own b).y Eq (pos 0)) (omega arith)
    (and_fit V P {k = 0} {l = 0} 1 among across (omega arith) (among_fit V P s (vars_to own (is_live mask) n) named (vars_told V own (is_live mask) n each))
    (difference_fit V P (own a).x (own b).x Eq (pos 0) apart.across one.across two.across zero_bound))
    (difference_fit V P (own a).y (own b).y Eq (pos 0) apart.along one.along two.along zero_bound)

-- the men of a stock of at most eight have low variables
all_low : (live : ℕ → Bool) (n : ℕ) → n ≤ 8 → AreSeated IsLow own live n
all_low live n few k low high alive = own_low k low (omega (arith, high, few))

-- both variables that are no man's own, where the ray sweeps them
elsewhere_fit : (P : ℕ × List Var → Type 0) {n : ℕ} (m : ℕ) (r : Ray) (f : Tree) → n + 2 ≤ m → IsFit IsLow P n f → IsFit IsLow P m (ex_swept r.dx elsewhere.x (ex_swept r.dy elsewhere.y f))
elsewhere_fit P m r f room h =
    more_fit IsLow P m (ex_swept r.dx elsewhere.x (ex_swept r.dy elsewhere.y f)) (omega (arith, room))
    (swept_fit IsLow P r.dx elsewhere.x (ex_swept r.dy elsewhere.y f) (omega arith) (swept_fit IsLow P r.dy elsewhere.y f (omega arith) h))

image_fit : (P : ℕ × List Var → Type 0) (n mask i t s : ℕ) {r : Ray} → n ≤ 8 → IsJourney i r t → P (s, vars_to (old_seats r i t) (is_live mask) n)
    → IsFit IsLow P (4 + 3 * n) (image_tree n mask i r t s)
image_fit P n mask i t s {r} few j named =
    let low : 0 < i = omega (arith, j.low) in
    elsewhere_fit P (4 + 3 * n) r (image_body n mask i r t s) (omega arith)
    (image_body_fit IsLow P n mask i t s few j named (spare_low r i low j.high) (own_low i low j.high) (all_low (without (is_live mask) t) n few))

pre_fit : (P : ℕ × List Var → Type 0) (n mask i t s q : ℕ) {r : Ray} → n ≤ 8 → IsJourney i r t → P (s, vars_to own (is_live mask) n)
    → P (q, vars_to (new_seats r i t) (without (is_live mask) t) n) → IsFit IsLow P (5 + 3 * n) (pre_tree n mask i r t s q)
pre_fit P n mask i t s q {r} few j named target =
    let low : 0 < i = omega (arith, j.low) in
    whole t (pre_body_fit IsLow P n mask i t s q few j named target (own_low i low j.high) (new_low r i t low j.high j.taken) (all_low (is_live mask) n few))
  where
    whole : (t : ℕ) → IsFit IsLow P (3 + 3 * n) (pre_body n mask i r t s q) → IsFit IsLow P (5 + 3 * n) (pre_tree n mask i r t s q)
    whole zero body = elsewhere_fit P (5 + 3 * n) r (pre_body n mask i r 0 s q) (omega arith) body
    whole (suc t) body = more_fit IsLow P (5 + 3 * n) (pre_body n mask i r (suc t) s q) (omega arith) body

-- what is known of a formula, if there is one
maybe_fit : (ℕ × List Var → Type 0) → ℕ → Option Tree → Type 0
maybe_fit P n None = Unit {0}
maybe_fit P n (Some f) = IsFine IsLow P f × (length (steps f) < n)

with_square_fit : (P : ℕ × List Var → Type 0) (n : ℕ) (o : Option Tree) {s : Seat} (x : Option Square) → IsGood IsLow s → maybe_fit P n o → maybe_fit P (n + 2) (with_square o s x)
unfolding maybe_fit
with_square_fit P n None None good h = tt
with_square_fit P n (Some f) None good h = (h.0, omega (arith, h.1))
with_square_fit P n None (Some z) good h = ((good.across, good.along), omega arith)
with_square_fit P n (Some f) {s} (Some z) good h =
    let inner = and_steps f (tree.Value s.x z.x) in
    let outer = and_steps (tree.And f (tree.Value s.x z.x)) (tree.Value s.y z.y) in (((h.0, good.across), good.along), omega (arith, inner, outer, h.1))

point_to_fit : (P : ℕ × List Var → Type 0) (men : List Man) (n : ℕ) → n ≤ 8 → maybe_fit P (2 * n) (point_to men n)
unfolding maybe_fit
point_to_fit P men zero few = tt
point_to_fit P men (suc n) few =
    let next : 2 * n + 2 ≡ 2 * suc n = omega arith in
    subst (λ k. maybe_fit P k (point_to men (suc n))) next
    (with_square_fit P (2 * n) (point_to men n) (man_square (stock_man men (suc n))) (own_low (suc n) (omega arith) few) (point_to_fit P men n (omega (arith, few))))

point_fit : (P : ℕ × List Var → Type 0) (men : List Man) (t : Tree) → length men ≤ 8 → point_of men ≡ Some t → IsFit IsLow P 99 t
unfolding maybe_fit
point_fit P men t few is =
    let w : IsFine IsLow P t × (length (steps t) < 2 * length men) = subst (maybe_fit P (2 * length men)) is (point_to_fit P men (length men) few) in
    record { fine = w.0; most = omega (arith, w.1, few) }

-- a formula that is fine and has few steps is modest
modest : (P : ℕ × List Var → Type 0) (n : ℕ) (t u : Tree) → t ≡ u → IsFit IsLow P n u → n < 100 → IsModest t
modest P n t u is h few =
    let most = h.most in
    subst IsModest (sym is) (record { well_made = fine_made IsLow P u h.fine; variables = fine_few P u h.fine; steps_are_few = omega (arith, most, few) })

-- whatever sets are named
abbrev pub any_set : ℕ × List Var → Type 0
any_set m = Unit {0}

image_is_fit : (P : ℕ × List Var → Type 0) {stock : List Man} {mask : ℕ} {o : Opt} (s : ℕ) → length stock ≤ 8 → IsOptionOf stock mask o
    → P (s, vars_to (old_seats (ray_at stock o.man o.ray) o.man o.taken) (is_live mask) (length stock)) → IsFit IsLow P (4 + 3 * length stock) (image_of stock mask o s)
image_is_fit P {stock} {mask} {o} s few w named = image_fit P (length stock) mask o.man o.taken s few (journey_is few (option_journey w)) named

pub image_modest : {stock : List Man} {mask : ℕ} {o : Opt} (s : ℕ) (t : Tree) → length stock ≤ 8 → IsOptionOf stock mask o → t ≡ image_of stock mask o s → IsModest t
image_modest {stock} {mask} {o} s t few w is = modest any_set (4 + 3 * length stock) t (image_of stock mask o s) is (image_is_fit any_set s few w tt) (omega (arith, few))

pub image_names : {stock : List Man} {mask : ℕ} {o : Opt} (s : ℕ) (t : Tree) → length stock ≤ 8
    → IsOptionOf stock mask o → t ≡ image_of stock mask o s → NamesOnly s (tracks_of stock (is_live mask)) t
image_names {stock} {mask} {o} s t few w is =
    let P = IsOver s (tracks_of stock (is_live mask)) in
    subst (NamesOnly s (tracks_of stock (is_live mask))) (sym is)
    (fine_names IsLow P (image_of stock mask o s)
    (image_is_fit P s few w (record { set = refl; count = vars_long (old_seats (ray_at stock o.man o.ray) o.man o.taken) own (is_live mask) (length stock) })).fine)

pre_is_fit : (P : ℕ × List Var → Type 0) {stock : List Man} {mask : ℕ} {o : Opt} (s q : ℕ) → length stock ≤ 8 → IsOptionOf stock mask o
    → P (s, vars_to own (is_live mask) (length stock))
    → P (q, vars_to (new_seats (ray_at stock o.man o.ray) o.man o.taken) (without (is_live mask) o.taken) (length stock))
    → IsFit IsLow P (5 + 3 * length stock) (pre_of stock mask o s q)
pre_is_fit P {stock} {mask} {o} s q few w named target = pre_fit P (length stock) mask o.man o.taken s q few (journey_is few (option_journey w)) named target

pub pre_modest : {stock : List Man} {mask : ℕ} {o : Opt} (s q : ℕ) (t : Tree) → length stock ≤ 8 → IsOptionOf stock mask o → t ≡ pre_of stock mask o s q → IsModest t
pre_modest {stock} {mask} {o} s q t few w is = modest any_set (5 + 3 * length stock) t (pre_of stock mask o s q) is (pre_is_fit any_set s q few w tt tt) (omega (arith, few))

pub pre_names : {stock : List Man} {mask : ℕ} {o : Opt} (s q : ℕ) (t : Tree) → length stock ≤ 8 → IsOptionOf stock mask o
    → t ≡ pre_of stock mask o s q → NamesBeforeAndAfter stock mask o s q t
pre_names {stock} {mask} {o} s q t few w is =
    let tracks : List Var = tracks_of stock (is_live mask) in
    let others : List Var = tracks_of stock (without (is_live mask) o.taken) in
    let P = λ (m : ℕ × List Var). IsOver s tracks m ⊎ IsOver q others m in
    subst (NamesBoth s tracks q others) (sym is)
    (fine_names IsLow P (pre_of stock mask o s q)
    (pre_is_fit P s q few w (inl (record { set = refl; count = refl }))
    (inr (record { set = refl; count = vars_long (new_seats (ray_at stock o.man o.ray) o.man o.taken) own (without (is_live mask) o.taken) (length stock) }))).fine)

bear_is_fit : (P : ℕ × List Var → Type 0) {stock : List Man} {mask k n g : ℕ} (s : ℕ) → length stock ≤ 8 → IsBearer stock mask k n g
    → P (s, vars_to own (is_live mask) (length stock)) → IsFit IsLow P (2 + 3 * length stock) (bear_of stock mask k n g s)
bear_is_fit P {stock} {mask} {k} {n} {g} s few w named =
    let j : IsJourney k (ray_at stock k n) g = journey_is few (bearer_journey w) in
    let low : 0 < k = omega (arith, j.low) in
    let first : 0 < g = (stock_number stock g w.target w.is.is_target).low in
    bear_fit IsLow P (length stock) mask k g s (ray_at stock k n) low first j.apart j.step named (own_low k low j.high) (own_low g first j.taken) (all_low (is_live mask) (length stock) few)

safe_is_fit : (P : ℕ × List Var → Type 0) {stock : List Man} {mask k n g : ℕ} (s : ℕ) → length stock ≤ 8 → IsBearer stock mask k n g
    → P (s, vars_to own (is_live mask) (length stock)) → IsFit IsLow P (3 + 3 * length stock) (safe_of stock mask k n g s)
safe_is_fit P {stock} {mask} {k} {n} {g} s few w named =
    let bears = bear_is_fit P s few w named in
    and_fit IsLow P {k = 0} {l = 2 + 3 * length stock} (3 + 3 * length stock) (tree.Among s (vars_to own (is_live mask) (length stock))) (tree.Not (bear_of stock mask k n g s)) (omega arith)
    (among_fit IsLow P s (vars_to own (is_live mask) (length stock)) named (vars_told IsLow own (is_live mask) (length stock) (all_low (is_live mask) (length stock) few)))
    (record { fine = bears.fine; most = bears.most })

pub bear_modest : {stock : List Man} {mask k n g : ℕ} (s : ℕ) (t : Tree) → length stock ≤ 8 → IsBearer stock mask k n g → t ≡ bear_of stock mask k n g s → IsModest t
bear_modest {stock} {mask} {k} {n} {g} s t few w is = modest any_set (2 + 3 * length stock) t (bear_of stock mask k n g s) is (bear_is_fit any_set s few w tt) (omega (arith, few))

pub bear_names : {stock : List Man} {mask k n g : ℕ} (s : ℕ) (t : Tree) → length stock ≤ 8 → IsBearer stock mask k n g
    → t ≡ bear_of stock mask k n g s → NamesOnly s (tracks_of stock (is_live mask)) t
bear_names {stock} {mask} {k} {n} {g} s t few w is =
    let P = IsOver s (tracks_of stock (is_live mask)) in
    subst (NamesOnly s (tracks_of stock (is_live mask))) (sym is)
    (fine_names IsLow P (bear_of stock mask k n g s) (bear_is_fit P s few w (record { set = refl; count = refl })).fine)

pub safe_modest : {stock : List Man} {mask k n g : ℕ} (s : ℕ) (t : Tree) → length stock ≤ 8 → IsBearer stock mask k n g → t ≡ safe_of stock mask k n g s → IsModest t
safe_modest {stock} {mask} {k} {n} {g} s t few w is = modest any_set (3 + 3 * length stock) t (safe_of stock mask k n g s) is (safe_is_fit any_set s few w tt) (omega (arith, few))

pub safe_names : {stock : List Man} {mask k n g : ℕ} (s : ℕ) (t : Tree) → length stock ≤ 8 → IsBearer stock mask k n g
    → t ≡ safe_of stock mask k n g s → NamesOnly s (tracks_of stock (is_live mask)) t
safe_names {stock} {mask} {k} {n} {g} s t few w is =
    let P = IsOver s (tracks_of stock (is_live mask)) in
    subst (NamesOnly s (tracks_of stock (is_live mask))) (sym is)
    (fine_names IsLow P (safe_of stock mask k n g s) (safe_is_fit P s few w (record { set = refl; count = refl })).fine)

twins_is_fit : (P : ℕ × List Var → Type 0) {mask a b : ℕ} (s : ℕ) → a < b → IsLiveIn mask a → IsLiveIn mask b → P (s, vars_to own (is_live mask) 8) → IsFit IsLow P 2 (twins_tree 8 mask a b s)
twins_is_fit P {mask} {a} {b} s order first second named =
    let low : 0 < a = omega (arith, first.low) in
    let later : 0 < b = omega (arith, second.low) in
    twins_fit IsLow P 8 mask a b s low later (λ e. omega (arith, e, order)) named (own_low a low first.high) (own_low b later second.high) (all_low (is_live mask) 8 (omega arith))

pub twins_modest : {mask a b : ℕ} (s : ℕ) (t : Tree) → a < b → IsLiveIn mask a → IsLiveIn mask b → t ≡ twins_tree 8 mask a b s → IsModest t
twins_modest {mask} {a} {b} s t order first second is = modest any_set 2 t (twins_tree 8 mask a b s) is (twins_is_fit any_set s order first second tt) (omega arith)

pub twins_names : {mask a b : ℕ} (s : ℕ) (t : Tree) → a < b → IsLiveIn mask a → IsLiveIn mask b → t ≡ twins_tree 8 mask a b s → NamesOnly s (vars_to own (is_live mask) 8) t
twins_names {mask} {a} {b} s t order first second is =
    let P = IsOver s (vars_to own (is_live mask) 8) in
    subst (NamesOnly s (vars_to own (is_live mask) 8)) (sym is) (fine_names IsLow P (twins_tree 8 mask a b s) (twins_is_fit P s order first second (record { set = refl; count = refl })).fine)

pub point_modest : (men : List Man) (t : Tree) → length men ≤ 8 → point_of men ≡ Some t → IsModest t
point_modest men t few is = modest any_set 99 t t refl (point_fit any_set men t few is) (omega arith)

no_set : ℕ × List Var → Type 0
no_set m = ⊥

none_named : (ms : List (ℕ × List Var)) → All no_set ms → ms ≡ []
unfolding no_set
none_named [] h = refl
none_named (m ∷ ms) h = absurd (h 0 m (omega arith))

pub point_names : (men : List Man) (t : Tree) → length men ≤ 8 → point_of men ≡ Some t → memberships t ≡ []
point_names men t few is = none_named (memberships t) (fine_names IsLow no_set t (point_fit no_set men t few is).fine)
