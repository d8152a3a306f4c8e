-- Each formula of the plan has a step.
use Rattle.std.proofs.Common.{◌≡◌, ◌≢◌, inl, inr, unsigned_abs, ap, ℕ, zero, suc, ◌==◌, ◌<◌, if◌then◌else◌, Bool, true, false, List, [], ◌∷◌, ◌++◌, length, Option, Some, None, ℤ, pos, negsuc, refl, subst, arith}
use Rattle.std.proofs.lemmas.Bool.{eqb-true}
use Rattle.game_rules.specs.declared.men.Man.{Man}
use Rattle.game_rules.specs.declared.men.Ray.{Ray}
use Rattle.game_rules.specs.declared.men.Square.{Square}
use Rattle.game_rules.specs.Rays.{ray_of}
use Rattle.track_word.specs.declared.atoms.Rel.TheVariants.{Eq}
use Rattle.track_word.specs.declared.tracks.Var.{Var}
use Rattle.lin_formula.specs.Tree.{Tree, steps}
use Rattle.lin_formula.specs.Tree as tree
use Rattle.rule_formula.specs.declared.opt.Opt.{Opt}
use Rattle.rule_formula.specs.Meaning.{IsBearer, IsOptionOf}
use Rattle.rule_formula.specs.Placed.{is_live, without}
use Rattle.game_laws.specs.Stock.{stock_man}
use Rattle.rule_formula.specs.Seats.{elsewhere, new_seat, new_seats, own, vars_to}
use Rattle.rule_formula.specs.Trees.{Suits, ahead, and_all, atoms_as, bear_of, clear, clear_as, difference, ex_swept, image_body, image_of, is_other, line_atoms, man_square, on, point_of, point_to, pre_body, pre_of, pre_tree, ray_at, ray_atoms, safe_of, with_square}
use Rattle.rule_formula.specs.Ways.{before, onto}
use Rattle.rule_formula.proofs.FormulaLemmas.{own_apart}
use Rattle.game_rules.specs.Game.{IsDirection}
use Rattle.game_laws.proofs.TableLemmas.{ray_is}
use Rattle.rule_formula.proofs.MeaningLemmas.{ray_at_is}
use Rattle.rule_formula.proofs.MoveLemmas.{some_number}

abbrev pub HasStep : Tree → Type 0
HasStep f = 0 < length (steps f)

some_last : {X : Type 0} (xs : List X) (x : X) → 0 < length (xs ++ x ∷ [])
some_last [] x = omega arith
some_last (y ∷ xs) x = omega arith

some_both : (fs gs : List Tree) (f : Tree) → 0 < length (fs ++ gs ++ f ∷ [])
some_both [] gs f = some_last gs f
some_both (g ∷ fs) gs f = omega arith

pub step-And : (f g : Tree) → HasStep (tree.And f g)
step-And f g = some_both (steps f) (steps g) (tree.And f g)

step-Ex : (x : Var) (f : Tree) → HasStep (tree.Ex x f)
step-Ex x f = some_last (steps f) (tree.Ex x f)

-- conjunctions keep a step
step-all : (f : Tree) (gs : List Tree) → HasStep f → HasStep (and_all f gs)
step-all f [] h = h
step-all f (g ∷ gs) h = step-all (tree.And f g) gs (step-And f g)

-- and make one, where something is joined
step-some : (f : Tree) (gs : List Tree) → 0 < length gs → HasStep (and_all f gs)
step-some f [] some = absurd (omega arith)
step-some f (g ∷ gs) some = step-all (tree.And f g) gs (step-And f g)

step-if : (b : Bool) (f g : Tree) → HasStep f → HasStep (if b then tree.And f (tree.Not g) else f)
step-if true f g h = step-And f (tree.Not g)
step-if false f g h = h

step-clear : (f : Tree) (hit : ℕ → Tree) (live : ℕ → Bool) (i j n : ℕ) → HasStep f → HasStep (clear f hit live i j n)
step-clear f hit live i j zero h = h
step-clear f hit live i j (suc n) h = step-if (is_other live i j (suc n)) (clear f hit live i j n) (hit (suc n)) (step-clear f hit live i j n h)

step-clear_as : (b : Bool) (f : Tree) (hit : ℕ → Tree) (live : ℕ → Bool) (i j n : ℕ) → HasStep f → HasStep (clear_as b f hit live i j n)
step-clear_as true f hit live i j n h = step-clear f hit live i j n h
step-clear_as false f hit live i j n h = h

-- a variable that is swept
step-swept : (d : ℤ) (x : Var) (f : Tree) → d ≢ pos 0 → HasStep (ex_swept d x f)
step-swept (pos zero) x f some = absurd (some refl)
step-swept (pos (suc d)) x f some = step-Ex x f
step-swept (negsuc d) x f some = step-Ex x f

step-either_swept : (dx dy : ℤ) (f : Tree) → (dx ≡ pos 0 → dy ≢ pos 0) → HasStep (ex_swept dx elsewhere.x (ex_swept dy elsewhere.y f))
step-either_swept (pos zero) dy f moves = step-swept dy elsewhere.y f (moves refl)
step-either_swept (pos (suc dx)) dy f moves = step-Ex elsewhere.x (ex_swept dy elsewhere.y f)
step-either_swept (negsuc dx) dy f moves = step-Ex elsewhere.x (ex_swept dy elsewhere.y f)

some_of_two : (p q : Bool) (f g : Tree) → (p ≡ true → q ≡ true → ⊥) → 0 < length ((if p then [] else f ∷ []) ++ (if q then [] else g ∷ []))
some_of_two true true f g apart = absurd (apart refl refl)
some_of_two true false f g apart = omega arith
some_of_two false q f g apart = omega arith

-- a ray that moves has an atom
some_atoms : (far : Bool) {r : Ray} {a b : _} → Suits r a b → (r.dx ≡ pos 0 → r.dy ≢ pos 0) → 0 < length (atoms_as far r.dx r.dy a b)
some_atoms true {r} {a} {b} suits moves = some_last (line_atoms r.dx r.dy a b) (ahead r.dx r.dy a b before)
some_atoms false {r} {a} {b} suits moves =
    some_of_two (b.x.0 == a.x.0) (b.y.0 == a.y.0) (difference b.x a.x Eq r.dx) (difference b.y a.y Eq r.dy)
    (λ e k. moves (suits.across (eqb-true b.x.0 a.x.0 e)) (suits.along (eqb-true b.y.0 a.y.0 k)))

-- a direction moves
direction_moves : (dx dy : ℤ) → IsDirection dx dy → dx ≡ pos 0 → dy ≢ pos 0
direction_moves dx dy (inl h) across along = omega (arith, h.0, ap unsigned_abs across)
direction_moves dx dy (inr h) across along = omega (arith, h.0, ap unsigned_abs along)

ray_at_moves : (stock : List Man) (k n : ℕ) (m : Man) (r : Ray)
    → stock_man stock k ≡ Some m → ray_of m.kind m.side n ≡ Some r → (ray_at stock k n).dx ≡ pos 0
    → (ray_at stock k n).dy ≢ pos 0
ray_at_moves stock k n m r is ray =
    let Moves : Ray → Type 0 = λ q. q.dx ≡ pos 0 → q.dy ≢ pos 0 in
    subst Moves (ray_at_is stock k n m r is ray) (direction_moves r.dx r.dy (ray_is m.side m.kind n r ray).direction)

pub image_step : {stock : List Man} {mask : ℕ} {o : Opt} (s : ℕ) → IsOptionOf stock mask o → HasStep (image_of stock mask o s)
image_step {stock} {mask} {o} s w =
    let r = ray_at stock o.man o.ray in
    step-either_swept r.dx r.dy (image_body (length stock) mask o.man r o.taken s) (ray_at_moves stock o.man o.ray w.man w.ray w.is.is_man w.is.ray)

pre_body_step : (n mask i t s q : ℕ) (r : Ray) → HasStep (pre_body n mask i r t s q)
pre_body_step n mask i t s q r =
    let both = tree.And (tree.Among s (vars_to own (is_live mask) n)) (tree.Among q (vars_to (new_seats r i t) (without (is_live mask) t) n)) in
    step-clear (and_all both (ray_atoms r (own i) (new_seat r i t))) (λ k. on r (own i) (new_seat r i t) onto (own k)) (is_live mask) i t n
    (step-all both (ray_atoms r (own i) (new_seat r i t)) (step-And (tree.Among s (vars_to own (is_live mask) n)) (tree.Among q (vars_to (new_seats r i t) (without (is_live mask) t) n))))

pre_tree_step : (n mask i t s q : ℕ) (r : Ray) → (r.dx ≡ pos 0 → r.dy ≢ pos 0) → HasStep (pre_tree n mask i r t s q)
pre_tree_step n mask i zero s q r moves = step-either_swept r.dx r.dy (pre_body n mask i r 0 s q) moves
pre_tree_step n mask i (suc t) s q r moves = pre_body_step n mask i (suc t) s q r

pub pre_step : {stock : List Man} {mask : ℕ} {o : Opt} (s q : ℕ) → IsOptionOf stock mask o → HasStep (pre_of stock mask o s q)
pre_step {stock} {mask} {o} s q w =
    pre_tree_step (length stock) mask o.man o.taken s q (ray_at stock o.man o.ray) (ray_at_moves stock o.man o.ray w.man w.ray w.is.is_man w.is.ray)

pub bear_step : {stock : List Man} {mask k n g : ℕ} (s : ℕ) → IsBearer stock mask k n g → HasStep (bear_of stock mask k n g s)
bear_step {stock} {mask} {k} {n} {g} s w =
    let r = ray_at stock k n in
    let first = some_number stock k w.man w.is.is_man in
    let second = some_number stock g w.target w.is.is_target in
    let atoms = some_atoms r.far (own_apart k g r first second w.is.apart) (ray_at_moves stock k n w.man w.ray w.is.is_man w.is.ray) in
    let among = tree.Among s (vars_to own (is_live mask) (length stock)) in
    step-clear_as r.far (and_all among (ray_atoms r (own k) (own g))) (λ l. on r (own k) (own g) before (own l)) (is_live mask) k g (length stock)
    (step-some among (ray_atoms r (own k) (own g)) atoms)

pub safe_step : (stock : List Man) (mask k n g s : ℕ) → HasStep (safe_of stock mask k n g s)
safe_step stock mask k n g s = step-And (tree.Among s (vars_to own (is_live mask) (length stock))) (tree.Not (bear_of stock mask k n g s))

-- the formula of the places, if there is one
abbrev StepIf : Option Tree → Type 0
StepIf None = Unit {0}
StepIf (Some f) = HasStep f

with_step : (o : Option Tree) (s : _) (z : Option Square) → StepIf o → StepIf (with_square o s z)
with_step o s None h = h
with_step None s (Some z) h = step-And (tree.Value s.x z.x) (tree.Value s.y z.y)
with_step (Some f) s (Some z) h = step-And (tree.And f (tree.Value s.x z.x)) (tree.Value s.y z.y)

point_to_step : (men : List Man) (n : ℕ) → StepIf (point_to men n)
point_to_step men zero = tt
point_to_step men (suc n) = with_step (point_to men n) (own (suc n)) (man_square (stock_man men (suc n))) (point_to_step men n)

pub point_step : (men : List Man) (f : Tree) → point_of men ≡ Some f → HasStep f
point_step men f e = subst StepIf e (point_to_step men (length men))
