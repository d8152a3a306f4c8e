-- The formulas of the rules name their sets once each, outside of any Not, and other numbers for the sets make no other formula.
use Rattle.std.proofs.Common.{◌≡◌, ℕ, zero, suc, Bool, true, false, List, [], ◌∷◌, ◌++◌, ℤ, pos, negsuc, unsigned_abs, refl, ap, ◌∙◌}
use Rattle.std.specs.Prelude.{◌==◌, if◌then◌else◌}
use Rattle.std.proofs.lemmas.List.{append-nil}
use Rattle.track_word.specs.declared.tracks.Var.{Var}
use Rattle.track_word.specs.declared.atoms.Rel.TheVariants.{Eq}
use Rattle.game_rules.specs.declared.men.Ray.{Ray}
use Rattle.lin_formula.specs.Tree.{Tree}
use Rattle.lin_formula.specs.Tree as tree
use Rattle.rule_formula.specs.Placed.{is_live, without}
use Rattle.rule_formula.specs.Seats.{elsewhere, new_seat, new_seats, old_seats, own, spare, vars_to}
use Rattle.rule_formula.specs.Trees.{ahead, and_all, atoms_as, bear_tree, clear, clear_as, difference, ex_swept, falling, image_body, image_tree, is_other, leaping, line, line_atoms, on, on_as, ordered, past, pre_body, pre_tree, ray_atoms, rising, safe_tree, unless_same}
use Rattle.rule_formula.specs.Ways.{before, onto}
use Rattle.set_plan.specs.Relabel.{relabel}
use Rattle.set_plan.specs.Unite.{positives}

-- no set is named in it
abbrev pub IsPlain : Tree → Type 0
IsPlain (tree.Lin terms rel bound) = Unit {0}
IsPlain (tree.Value x n) = Unit {0}
IsPlain (tree.Among s vars) = ⊥
IsPlain (tree.Not f) = IsPlain f
IsPlain (tree.And f g) = IsPlain f × IsPlain g
IsPlain (tree.Or f g) = IsPlain f × IsPlain g
IsPlain (tree.Ex x f) = IsPlain f

abbrev ArePlain : List Tree → Type 0
ArePlain [] = Unit {0}
ArePlain (f ∷ fs) = IsPlain f × ArePlain fs

pub plain-relabel : (name : ℕ → ℕ) (f : Tree) → IsPlain f → relabel name f ≡ f
plain-relabel name (tree.Lin terms rel bound) h = refl
plain-relabel name (tree.Value x n) h = refl
plain-relabel name (tree.Among s vars) h = absurd h
plain-relabel name (tree.Not f) h = ap (λ t. tree.Not t) (plain-relabel name f h)
plain-relabel name (tree.And f g) h = ap (λ t. tree.And t (relabel name g)) (plain-relabel name f h.0) ∙ ap (λ t. tree.And f t) (plain-relabel name g h.1)
plain-relabel name (tree.Or f g) h = ap (λ t. tree.Or t (relabel name g)) (plain-relabel name f h.0) ∙ ap (λ t. tree.Or f t) (plain-relabel name g h.1)
plain-relabel name (tree.Ex x f) h = ap (λ t. tree.Ex x t) (plain-relabel name f h)

plain-positives : (f : Tree) → IsPlain f → positives f ≡ []
plain-positives (tree.Lin terms rel bound) h = refl
plain-positives (tree.Value x n) h = refl
plain-positives (tree.Among s vars) h = absurd h
plain-positives (tree.Not f) h = refl
plain-positives (tree.And f g) h = ap (λ l. l ++ positives g) (plain-positives f h.0) ∙ plain-positives g h.1
plain-positives (tree.Or f g) h = refl
plain-positives (tree.Ex x f) h = plain-positives f h

ordered_plain : (d : ℤ) (x y : Var) (n : ℤ) → IsPlain (ordered d x y n)
ordered_plain (pos d) x y n = tt
ordered_plain (negsuc d) x y n = tt

either_plain : (b : Bool) (f g : Tree) → IsPlain f → IsPlain g → IsPlain (if b then f else g)
either_plain true f g h k = h
either_plain false f g h k = k

ahead_plain : (dx dy : ℤ) (a b : _) (extent : _) → IsPlain (ahead dx dy a b extent)
ahead_plain dx dy a b extent =
    either_plain (unsigned_abs dx == 1) (ordered dx a.x b.x (past extent)) (ordered dy a.y b.y (past extent))
    (ordered_plain dx a.x b.x (past extent)) (ordered_plain dy a.y b.y (past extent))

line_plain : (dx dy : ℤ) (a b : _) → IsPlain (line dx dy a b)
line_plain (pos zero) dy a b = tt
line_plain (pos (suc dx)) (pos zero) a b = tt
line_plain (negsuc dx) (pos zero) a b = tt
line_plain (pos (suc dx)) (pos (suc dy)) a b = either_plain (dx == dy) (rising a b) (leaping (pos (suc dx)) (pos (suc dy)) a b) tt tt
line_plain (pos (suc dx)) (negsuc dy) a b = either_plain (dx == dy) (falling a b) (leaping (pos (suc dx)) (negsuc dy) a b) tt tt
line_plain (negsuc dx) (pos (suc dy)) a b = either_plain (dx == dy) (falling a b) (leaping (negsuc dx) (pos (suc dy)) a b) tt tt
line_plain (negsuc dx) (negsuc dy) a b = either_plain (dx == dy) (rising a b) (leaping (negsuc dx) (negsuc dy) a b) tt tt

if_plain : (b : Bool) (f : Tree) → IsPlain f → ArePlain (if b then [] else f ∷ [])
if_plain true f h = tt
if_plain false f h = (h, tt)

unless_plain : (x y : Var) (f : Tree) → IsPlain f → ArePlain (unless_same x y f)
unless_plain x y f h = if_plain (x.0 == y.0) f h

line_atoms_plain : (dx dy : ℤ) (a b : _) → ArePlain (line_atoms dx dy a b)
line_atoms_plain (pos zero) dy a b = unless_plain b.x a.x (line (pos zero) dy a b) tt
line_atoms_plain (pos (suc dx)) (pos zero) a b = unless_plain b.y a.y (line (pos (suc dx)) (pos zero) a b) tt
line_atoms_plain (negsuc dx) (pos zero) a b = unless_plain b.y a.y (line (negsuc dx) (pos zero) a b) tt
line_atoms_plain (pos (suc dx)) (pos (suc dy)) a b = (line_plain (pos (suc dx)) (pos (suc dy)) a b, tt)
line_atoms_plain (pos (suc dx)) (negsuc dy) a b = (line_plain (pos (suc dx)) (negsuc dy) a b, tt)
line_atoms_plain (negsuc dx) (pos (suc dy)) a b = (line_plain (negsuc dx) (pos (suc dy)) a b, tt)
line_atoms_plain (negsuc dx) (negsuc dy) a b = (line_plain (negsuc dx) (negsuc dy) a b, tt)

append_plain : (fs gs : List Tree) → ArePlain fs → ArePlain gs → ArePlain (fs ++ gs)
append_plain [] gs h k = k
append_plain (f ∷ fs) gs h k = (h.0, append_plain fs gs h.1 k)

atoms_plain : (far : Bool) (dx dy : ℤ) (a b : _) → ArePlain (atoms_as far dx dy a b)
atoms_plain true dx dy a b = append_plain (line_atoms dx dy a b) (ahead dx dy a b before ∷ []) (line_atoms_plain dx dy a b) (ahead_plain dx dy a b before, tt)
atoms_plain false dx dy a b =
    append_plain (unless_same b.x a.x (difference b.x a.x Eq dx)) (unless_same b.y a.y (difference b.y a.y Eq dy))
    (unless_plain b.x a.x (difference b.x a.x Eq dx) tt) (unless_plain b.y a.y (difference b.y a.y Eq dy) tt)

on_plain : (far : Bool) (dx dy : ℤ) (a b z : _) (extent : _) → IsPlain (on_as far dx dy a b z extent)
on_plain true dx dy a b z extent = ((line_plain dx dy a z, ahead_plain dx dy a z before), ahead_plain dx dy z b extent)
on_plain false dx dy a b z extent = (tt, tt)

-- formulas that are built of a first one and of plain ones
module _ (name : ℕ → ℕ) where
  all-relabel : (f : Tree) (gs : List Tree) → ArePlain gs → relabel name (and_all f gs) ≡ and_all (relabel name f) gs
  all-relabel f [] h = refl
  all-relabel f (g ∷ gs) h = all-relabel (tree.And f g) gs h.1 ∙ ap (λ t. and_all (tree.And (relabel name f) t) gs) (plain-relabel name g h.0)

  if-relabel : (b : Bool) (f g : Tree) → IsPlain g → relabel name (if b then tree.And f (tree.Not g) else f) ≡ (if b then tree.And (relabel name f) (tree.Not g) else relabel name f)
  if-relabel true f g h = ap (λ t. tree.And (relabel name f) (tree.Not t)) (plain-relabel name g h)
  if-relabel false f g h = refl

  clear-relabel : (f : Tree) (hit : ℕ → Tree) (live : ℕ → Bool) (i j n : ℕ)
      → ((k : ℕ) → IsPlain (hit k)) → relabel name (clear f hit live i j n) ≡ clear (relabel name f) hit live i j n
  clear-relabel f hit live i j zero h = refl
  clear-relabel f hit live i j (suc n) h =
      if-relabel (is_other live i j (suc n)) (clear f hit live i j n) (hit (suc n)) (h (suc n))
      ∙ ap (λ t. if is_other live i j (suc n) then tree.And t (tree.Not (hit (suc n))) else t) (clear-relabel f hit live i j n h)

  clear_as-relabel : (b : Bool) (f : Tree) (hit : ℕ → Tree) (live : ℕ → Bool) (i j n : ℕ) → ((k : ℕ) → IsPlain (hit k))
      → relabel name (clear_as b f hit live i j n) ≡ clear_as b (relabel name f) hit live i j n
  clear_as-relabel true f hit live i j n h = clear-relabel f hit live i j n h
  clear_as-relabel false f hit live i j n h = refl

  swept-relabel : (d : ℤ) (x : Var) (f : Tree) → relabel name (ex_swept d x f) ≡ ex_swept d x (relabel name f)
  swept-relabel (pos zero) x f = refl
  swept-relabel (pos (suc d)) x f = refl
  swept-relabel (negsuc d) x f = refl

  path-relabel : (f : Tree) (r : Ray) (a b : _) (extent : _) (live : ℕ → Bool) (i j n : ℕ)
      → relabel name (clear (and_all f (ray_atoms r a b)) (λ k. on r a b extent (own k)) live i j n) ≡ clear
      (and_all (relabel name f) (ray_atoms r a b)) (λ k. on r a b extent (own k)) live i j n
  path-relabel f r a b extent live i j n =
      clear-relabel (and_all f (ray_atoms r a b)) (λ k. on r a b extent (own k)) live i j n (λ k. on_plain r.far r.dx r.dy a b (own k) extent)
      ∙ ap (λ t. clear t (λ k. on r a b extent (own k)) live i j n) (all-relabel f (ray_atoms r a b) (atoms_plain r.far r.dx r.dy a b))

  both-relabel : (r : Ray) (f g : Tree) → relabel name f ≡ g → relabel name (ex_swept r.dx elsewhere.x (ex_swept r.dy elsewhere.y f)) ≡ ex_swept r.dx elsewhere.x (ex_swept r.dy elsewhere.y g)
  both-relabel r f g e =
      swept-relabel r.dx elsewhere.x (ex_swept r.dy elsewhere.y f)
      ∙ ap (λ t. ex_swept r.dx elsewhere.x t) (swept-relabel r.dy elsewhere.y f ∙ ap (λ t. ex_swept r.dy elsewhere.y t) e)

  pub image-relabel : (n mask i t s : ℕ) (r : Ray) → relabel name (image_tree n mask i r t s) ≡ image_tree n mask i r t (name s)
  image-relabel n mask i t s r =
      both-relabel r (image_body n mask i r t s) (image_body n mask i r t (name s))
      (path-relabel (tree.Among s (vars_to (old_seats r i t) (is_live mask) n)) r (spare r i) (own i) onto (is_live mask) i t n)

  body-relabel : (n mask i t s q : ℕ) (r : Ray) → relabel name (pre_body n mask i r t s q) ≡ pre_body n mask i r t (name s) (name q)
  body-relabel n mask i t s q r =
      path-relabel (tree.And (tree.Among s (vars_to own (is_live mask) n)) (tree.Among q (vars_to (new_seats r i t) (without (is_live mask) t) n))) r (own i) (new_seat r i t) onto (is_live mask) i t n

  pub pre-relabel : (n mask i t s q : ℕ) (r : Ray) → relabel name (pre_tree n mask i r t s q) ≡ pre_tree n mask i r t (name s) (name q)
  pre-relabel n mask i zero s q r = both-relabel r (pre_body n mask i r 0 s q) (pre_body n mask i r 0 (name s) (name q)) (body-relabel n mask i 0 s q r)
  pre-relabel n mask i (suc t) s q r = body-relabel n mask i (suc t) s q r

  pub bear-relabel : (n mask k g s : ℕ) (r : Ray) → relabel name (bear_tree n mask k r g s) ≡ bear_tree n mask k r g (name s)
  bear-relabel n mask k g s r =
      clear_as-relabel r.far (and_all (tree.Among s (vars_to own (is_live mask) n)) (ray_atoms r (own k) (own g)))
      (λ l. on r (own k) (own g) before (own l)) (is_live mask) k g n (λ l. on_plain r.far r.dx r.dy (own k) (own g) (own l) before)
      ∙ ap (λ t. clear_as r.far t (λ l. on r (own k) (own g) before (own l)) (is_live mask) k g n)
      (all-relabel (tree.Among s (vars_to own (is_live mask) n)) (ray_atoms r (own k) (own g)) (atoms_plain r.far r.dx r.dy (own k) (own g)))

  pub safe-relabel : (n mask k g s : ℕ) (r : Ray) → relabel name (safe_tree n mask k r g s) ≡ safe_tree n mask k r g (name s)
  safe-relabel n mask k g s r = ap (λ t. tree.And (tree.Among (name s) (vars_to own (is_live mask) n)) (tree.Not t)) (bear-relabel n mask k g s r)

-- the sets that they name outside of any Not
all-positives : (f : Tree) (gs : List Tree) → ArePlain gs → positives (and_all f gs) ≡ positives f
all-positives f [] h = refl
all-positives f (g ∷ gs) h = all-positives (tree.And f g) gs h.1 ∙ ap (λ l. positives f ++ l) (plain-positives g h.0) ∙ append-nil (positives f)

if-positives : (b : Bool) (f g : Tree) → positives (if b then tree.And f (tree.Not g) else f) ≡ positives f
if-positives true f g = append-nil (positives f)
if-positives false f g = refl

clear-positives : (f : Tree) (hit : ℕ → Tree) (live : ℕ → Bool) (i j n : ℕ) → positives (clear f hit live i j n) ≡ positives f
clear-positives f hit live i j zero = refl
clear-positives f hit live i j (suc n) = if-positives (is_other live i j (suc n)) (clear f hit live i j n) (hit (suc n)) ∙ clear-positives f hit live i j n

clear_as-positives : (b : Bool) (f : Tree) (hit : ℕ → Tree) (live : ℕ → Bool) (i j n : ℕ) → positives (clear_as b f hit live i j n) ≡ positives f
clear_as-positives true f hit live i j n = clear-positives f hit live i j n
clear_as-positives false f hit live i j n = refl

swept-positives : (d : ℤ) (x : Var) (f : Tree) → positives (ex_swept d x f) ≡ positives f
swept-positives (pos zero) x f = refl
swept-positives (pos (suc d)) x f = refl
swept-positives (negsuc d) x f = refl

path-positives : (f : Tree) (r : Ray) (a b : _) (extent : _) (live : ℕ → Bool) (i j n : ℕ)
    → positives (clear (and_all f (ray_atoms r a b)) (λ k. on r a b extent (own k)) live i j n) ≡ positives f
path-positives f r a b extent live i j n =
    clear-positives (and_all f (ray_atoms r a b)) (λ k. on r a b extent (own k)) live i j n ∙ all-positives f (ray_atoms r a b) (atoms_plain r.far r.dx r.dy a b)

both-positives : (r : Ray) (f : Tree) → positives (ex_swept r.dx elsewhere.x (ex_swept r.dy elsewhere.y f)) ≡ positives f
both-positives r f = swept-positives r.dx elsewhere.x (ex_swept r.dy elsewhere.y f) ∙ swept-positives r.dy elsewhere.y f

pub image-positives : (n mask i t s : ℕ) (r : Ray) → positives (image_tree n mask i r t s) ≡ s ∷ []
image-positives n mask i t s r =
    both-positives r (image_body n mask i r t s)
    ∙ path-positives (tree.Among s (vars_to (old_seats r i t) (is_live mask) n)) r (spare r i) (own i) onto (is_live mask) i t n

body-positives : (n mask i t s q : ℕ) (r : Ray) → positives (pre_body n mask i r t s q) ≡ s ∷ q ∷ []
body-positives n mask i t s q r =
    path-positives (tree.And (tree.Among s (vars_to own (is_live mask) n)) (tree.Among q (vars_to (new_seats r i t) (without (is_live mask) t) n))) r (own i) (new_seat r i t) onto (is_live mask) i t n

pub pre-positives : (n mask i t s q : ℕ) (r : Ray) → positives (pre_tree n mask i r t s q) ≡ s ∷ q ∷ []
pre-positives n mask i zero s q r = both-positives r (pre_body n mask i r 0 s q) ∙ body-positives n mask i 0 s q r
pre-positives n mask i (suc t) s q r = body-positives n mask i (suc t) s q r

pub bear-positives : (n mask k g s : ℕ) (r : Ray) → positives (bear_tree n mask k r g s) ≡ s ∷ []
bear-positives n mask k g s r =
    clear_as-positives r.far (and_all (tree.Among s (vars_to own (is_live mask) n)) (ray_atoms r (own k) (own g))) (λ l. on r (own k) (own g) before (own l)) (is_live mask) k g n
    ∙ all-positives (tree.Among s (vars_to own (is_live mask) n)) (ray_atoms r (own k) (own g)) (atoms_plain r.far r.dx r.dy (own k) (own g))
