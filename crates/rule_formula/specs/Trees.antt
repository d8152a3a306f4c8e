-- The formulas of the rules.
use Rattle.std.specs.Prelude.{◌≡◌, ◌≢◌, Option, Some, None, ℕ, zero, suc, Bool, true, false, ◌==◌, ◌&&◌, not, if◌then◌else◌, List, [], ◌∷◌, ◌++◌, length, ℤ, pos, negsuc, neg_ℤ, unsigned_abs}
use Rattle.std.specs.Option.{option_map}
use Rattle.track_word.specs.declared.tracks.Var.{Var}
use Rattle.track_word.specs.declared.atoms.Rel.{Rel}
use Rattle.track_word.specs.declared.atoms.Rel.TheVariants.{Le, Eq}
use Rattle.lin_formula.specs.Tree.{Tree}
use Rattle.lin_formula.specs.TreeOf.{tree_of}
use Rattle.lin_formula.specs.declared.formula.Formula.{Formula}
use Rattle.rule_formula.specs.declared.atoms.Extent.{Extent}
use Rattle.rule_formula.specs.declared.atoms.Extent.TheVariants.{Onto, Before}
use Rattle.rule_formula.specs.declared.seats.Seat.{Seat}
use Rattle.rule_formula.specs.declared.seats.Seats.{Seats}
use Rattle.game_rules.specs.declared.men.Ray.{Ray}
use Rattle.rule_formula.specs.Placed.{is_live, without}
use Rattle.game_laws.specs.Stock.{stock_man}
use Rattle.game_rules.specs.declared.men.Man.{Man}
use Rattle.game_rules.specs.declared.men.Square.{Square}
use Rattle.game_rules.specs.Game.{square_of}
use Rattle.game_rules.specs.Rays.{leap, ray_of}
use Rattle.rule_formula.specs.declared.opt.Opt.{Opt}
use Rattle.rule_formula.specs.Seats.{elsewhere, own, new_seat, new_seats, old_seats, seat_of, spare, vars_to}
use Rattle.lin_formula.specs.Tree as tree

-- the conjunction of the formula and each of the list, nested to the left
abbrev pub and_all : Tree → List Tree → Tree
and_all f [] = f
and_all f (g ∷ gs) = and_all (tree.And f g) gs

-- x - y compared with n
abbrev pub difference : Var → Var → Rel → ℤ → Tree
difference x y rel n = tree.Lin ((pos 1, x) ∷ (negsuc 0, y) ∷ []) rel n

abbrev pub rising : Seat → Seat → Tree
rising a b = tree.Lin ((pos 1, b.x) ∷ (negsuc 0, a.x) ∷ (negsuc 0, b.y) ∷ (pos 1, a.y) ∷ []) Eq (pos 0)

abbrev pub falling : Seat → Seat → Tree
falling a b = tree.Lin ((pos 1, b.x) ∷ (negsuc 0, a.x) ∷ (pos 1, b.y) ∷ (negsuc 0, a.y) ∷ []) Eq (pos 0)

-- the line of a knight's ray
abbrev pub leaping : ℤ → ℤ → Seat → Seat → Tree
leaping dx dy a b = tree.Lin ((dy, b.x) ∷ (neg_ℤ dy, a.x) ∷ (neg_ℤ dx, b.y) ∷ (dx, a.y) ∷ []) Eq (pos 0)

-- the atom of the line through a and b has distinct variables
pub record IsDrawn (dx dy : ℤ) (a b : Seat) : Type 0 where
  pub across : dx ≡ pos 0 → b.x.0 ≢ a.x.0
  pub along : dy ≡ pos 0 → b.y.0 ≢ a.y.0
  pub aslant : dx ≢ pos 0 → dy ≢ pos 0 → (b.x.0 ≢ a.x.0) × (b.y.0 ≢ a.y.0)

-- b is on the line through a in the direction (dx, dy)
abbrev pub line : ℤ → ℤ → Seat → Seat → Tree
line (pos zero) dy a b = difference b.x a.x Eq (pos 0)
line (pos (suc dx)) (pos zero) a b = difference b.y a.y Eq (pos 0)
line (pos (suc dx)) (pos (suc dy)) a b = if dx == dy then rising a b else leaping (pos (suc dx)) (pos (suc dy)) a b
line (pos (suc dx)) (negsuc dy) a b = if dx == dy then falling a b else leaping (pos (suc dx)) (negsuc dy) a b
line (negsuc dx) (pos zero) a b = difference b.y a.y Eq (pos 0)
line (negsuc dx) (pos (suc dy)) a b = if dx == dy then falling a b else leaping (negsuc dx) (pos (suc dy)) a b
line (negsuc dx) (negsuc dy) a b = if dx == dy then rising a b else leaping (negsuc dx) (negsuc dy) a b

-- an atom of two variables, omitted if they are the same
abbrev pub unless_same : Var → Var → Tree → List Tree
unless_same x y f = if x.0 == y.0 then [] else f ∷ []

abbrev pub line_atoms : ℤ → ℤ → Seat → Seat → List Tree
line_atoms (pos zero) dy a b = unless_same b.x a.x (line (pos zero) dy a b)
line_atoms dx (pos zero) a b = unless_same b.y a.y (line dx (pos zero) a b)
line_atoms dx dy a b = line dx dy a b ∷ []

-- x - y in the direction d is at most n
abbrev pub ordered : ℤ → Var → Var → ℤ → Tree
ordered (pos d) x y n = difference x y Le n
ordered (negsuc d) x y n = difference y x Le n

-- the squares differ in the coordinate that the ray counts: x if it changes by one, and y otherwise
pub record IsCounted (dx dy : ℤ) (a b : Seat) : Type 0 where
  pub across : unsigned_abs dx ≡ 1 → a.x.0 ≢ b.x.0
  pub along : (unsigned_abs dx ≡ 1 → ⊥) → a.y.0 ≢ b.y.0

-- the maximum by which a square may be past the end of a stretch
abbrev pub past : Extent → ℤ
past Onto = pos 0
past Before = negsuc 0

-- b is ahead of a in the direction (dx, dy), or (with Onto) level with a
abbrev pub ahead : ℤ → ℤ → Seat → Seat → Extent → Tree
ahead dx dy a b extent =
    if unsigned_abs dx == 1 then ordered dx a.x b.x (past extent) else ordered dy a.y b.y (past extent)

abbrev pub atoms_as : Bool → ℤ → ℤ → Seat → Seat → List Tree
atoms_as true dx dy a b = line_atoms dx dy a b ++ ahead dx dy a b Before ∷ []
atoms_as false dx dy a b =
    unless_same b.x a.x (difference b.x a.x Eq dx) ++ unless_same b.y a.y (difference b.y a.y Eq dy)

-- b is on the ray from a
abbrev pub ray_atoms : Ray → Seat → Seat → List Tree
ray_atoms r a b = atoms_as r.far r.dx r.dy a b

abbrev pub on_as : Bool → ℤ → ℤ → Seat → Seat → Seat → Extent → Tree
on_as true dx dy a b z extent = tree.And (tree.And (line dx dy a z) (ahead dx dy a z Before)) (ahead dx dy z b extent)
on_as false dx dy a b z extent = tree.And (difference z.x b.x Eq (pos 0)) (difference z.y b.y Eq (pos 0))

-- z is on the stretch from a (exclusive) to b, which is included with Onto and, on a far ray, excluded with Before
abbrev pub on : Ray → Seat → Seat → Extent → Seat → Tree
on r a b extent z = on_as r.far r.dx r.dy a b z extent

-- the seats have no common variable
pub record AreApart (a b : Seat) : Type 0 where
  pub across : a.x.0 ≢ b.x.0
  pub along : a.y.0 ≢ b.y.0

-- the seats may have a common variable only where the ray does not move
pub record Suits (r : Ray) (a b : Seat) : Type 0 where
  pub across : b.x.0 ≡ a.x.0 → r.dx ≡ pos 0
  pub along : b.y.0 ≡ a.y.0 → r.dy ≡ pos 0

-- a live man other than i and j
abbrev pub is_other : (ℕ → Bool) → ℕ → ℕ → ℕ → Bool
is_other live i j k = live k && (not (k == i) && not (k == j))

-- the formula, and that `hit` is false for each of the other live men among the first n
abbrev pub clear : Tree → (ℕ → Tree) → (ℕ → Bool) → ℕ → ℕ → ℕ → Tree
clear f hit live i j zero = f
clear f hit live i j (suc n) =
    if is_other live i j (suc n) then tree.And (clear f hit live i j n) (tree.Not (hit (suc n))) else clear f hit live i
    j n

-- the quantification of x, if the ray changes it
abbrev pub ex_swept : ℤ → Var → Tree → Tree
ex_swept (pos zero) x f = f
ex_swept _ x f = tree.Ex x f

-- a position of the set, with the men of the mask except one on these seats
abbrev pub among_tree : ℕ → ℕ → ℕ → Seats → ℕ → Tree
among_tree n mask gone seats s = tree.Among s (vars_to (seat_of seats) (without (is_live mask) gone) n)

-- a position of the set, with the men of the mask on their own seats
abbrev pub own_tree : ℕ → ℕ → ℕ → Tree
own_tree n mask s = tree.Among s (vars_to own (is_live mask) n)

-- in addition, man i moves along the ray, taking man t, to a position of the other set
abbrev pub both_tree : ℕ → ℕ → ℕ → Ray → ℕ → ℕ → ℕ → Tree
both_tree n mask i r t s q =
    tree.And (own_tree n mask s) (tree.Among q (vars_to (new_seats r i t) (without (is_live mask) t) n))

abbrev pub image_body : ℕ → ℕ → ℕ → Ray → ℕ → ℕ → Tree
image_body n mask i r t s =
    clear (and_all (tree.Among s (vars_to (old_seats r i t) (is_live mask) n)) (ray_atoms r (spare r i) (own i)))
    (λ k. on r (spare r i) (own i) Onto (own k)) (is_live mask) i t n

-- the positions that man i reaches along the ray, taking man t, from those of the set
abbrev pub image_tree : ℕ → ℕ → ℕ → Ray → ℕ → ℕ → Tree
image_tree n mask i r t s = ex_swept r.dx elsewhere.x (ex_swept r.dy elsewhere.y (image_body n mask i r t s))

abbrev pub pre_body : ℕ → ℕ → ℕ → Ray → ℕ → ℕ → ℕ → Tree
pre_body n mask i r t s q =
    clear (and_all (both_tree n mask i r t s q) (ray_atoms r (own i) (new_seat r i t)))
    (λ k. on r (own i) (new_seat r i t) Onto (own k)) (is_live mask) i t n

abbrev pub pre_tree : ℕ → ℕ → ℕ → Ray → ℕ → ℕ → ℕ → Tree
pre_tree n mask i r zero s q = ex_swept r.dx elsewhere.x (ex_swept r.dy elsewhere.y (pre_body n mask i r 0 s q))
pre_tree n mask i r (suc t) s q = pre_body n mask i r (suc t) s q

abbrev pub clear_as : Bool → Tree → (ℕ → Tree) → (ℕ → Bool) → ℕ → ℕ → ℕ → Tree
clear_as true f hit live i j n = clear f hit live i j n
clear_as false f hit live i j n = f

-- man k attacks king g along the ray, in a position of the set
abbrev pub bear_tree : ℕ → ℕ → ℕ → Ray → ℕ → ℕ → Tree
bear_tree n mask k r g s =
    clear_as r.far (and_all (own_tree n mask s) (ray_atoms r (own k) (own g)))
    (λ l. on r (own k) (own g) Before (own l)) (is_live mask) k g n

abbrev pub safe_tree : ℕ → ℕ → ℕ → Ray → ℕ → ℕ → Tree
safe_tree n mask k r g s = tree.And (own_tree n mask s) (tree.Not (bear_tree n mask k r g s))

abbrev pub twins_tree : ℕ → ℕ → ℕ → ℕ → ℕ → Tree
twins_tree n mask a b s =
    tree.And (tree.And (own_tree n mask s) (difference (own a).x (own b).x Eq (pos 0)))
    (difference (own a).y (own b).y Eq (pos 0))

-- the tree of a formula, if there is one
abbrev pub maybe_tree : Option Formula → Option Tree
maybe_tree f = option_map tree_of f

abbrev pub and_maybe : Option Tree → Tree → Tree
and_maybe None g = g
and_maybe (Some f) g = tree.And f g

-- in addition, the square is that of the seat
abbrev pub with_square : Option Tree → Seat → Option Square → Option Tree
with_square o s None = o
with_square o s (Some z) = Some (tree.And (and_maybe o (tree.Value s.x z.x)) (tree.Value s.y z.y))

abbrev pub man_square : Option Man → Option Square
man_square None = None
man_square (Some m) = square_of m

-- the places of the live men among the first n, if there are any
abbrev pub point_to : List Man → ℕ → Option Tree
point_to men zero = None
point_to men (suc n) = with_square (point_to men n) (own (suc n)) (man_square (stock_man men (suc n)))

-- the formula of the places of the live men, if there are any
abbrev pub point_of : List Man → Option Tree
point_of men = point_to men (length men)

abbrev pub ray_or_none : Option Ray → Ray
ray_or_none None = leap (pos 0) (pos 0)
ray_or_none (Some r) = r

abbrev pub man_ray : ℕ → Option Man → Ray
man_ray n None = leap (pos 0) (pos 0)
man_ray n (Some m) = ray_or_none (ray_of m.kind m.side n)

-- ray n of man k, or one that leads nowhere if there is none
abbrev pub ray_at : List Man → ℕ → ℕ → Ray
ray_at stock k n = man_ray n (stock_man stock k)

-- the variables of the live men
abbrev pub tracks_of : List Man → (ℕ → Bool) → List Var
tracks_of stock live = vars_to own live (length stock)

abbrev pub image_of : List Man → ℕ → Opt → ℕ → Tree
image_of stock mask o s = image_tree (length stock) mask o.man (ray_at stock o.man o.ray) o.taken s

abbrev pub pre_of : List Man → ℕ → Opt → ℕ → ℕ → Tree
pre_of stock mask o s q = pre_tree (length stock) mask o.man (ray_at stock o.man o.ray) o.taken s q

abbrev pub bear_of : List Man → ℕ → ℕ → ℕ → ℕ → ℕ → Tree
bear_of stock mask k n g s = bear_tree (length stock) mask k (ray_at stock k n) g s

abbrev pub safe_of : List Man → ℕ → ℕ → ℕ → ℕ → ℕ → Tree
safe_of stock mask k n g s = safe_tree (length stock) mask k (ray_at stock k n) g s
