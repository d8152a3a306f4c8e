-- The plan of a table has one end, or one first step that exceeds a budget.
use Rattle.std.proofs.Common.{◌≡◌, ℕ, zero, suc, ◌==◌, if◌then◌else◌, Bool, true, false, List, [], ◌∷◌, ℤ, pos, negsuc, refl, subst}
use Rattle.track_word.specs.declared.tracks.Var.{Var}
use Rattle.game_rules.specs.Game.{Position, other}
use Rattle.game_rules.specs.declared.men.Ray.{Ray}
use Rattle.game_rules.specs.declared.men.Side.{Side}
use Rattle.lin_formula.specs.SetOf.{SetOf, Nothing}
use Rattle.rule_formula.specs.declared.opt.Opt.{Opt}
use Rattle.set_plan.specs.Program.{Give, each}
use Rattle.set_plan.specs.Same.{SameSets}
use Rattle.set_plan.specs.Unite.{Made, make}
use Rattle.set_plan.proofs.Alike.{Alike, SameSets-self}
use Rattle.set_plan.proofs.Combined.{SameMade, bind-alike, make-alike}
use Rattle.set_plan.proofs.Folds.{each-alike}
use Rattle.set_plan.proofs.SameSets.{SameItem-sets}
use Rattle.set_plan.proofs.Unique.{Ends-not_stops, Ends-one, Stops-one}
use Rattle.mate_plan.specs.Once.{SameLevels}
use Rattle.mate_plan.specs.Plan.{Level, Program, Rules, for_masks, lost_set_if_by, name, narrow, no_sets, rest_set, win_level}
use Rattle.mate_plan.specs.declared.names.Part.TheVariants as kind
use Rattle.mate_plan.proofs.PlanOnce.{difference-alike, for_masks-alike, lost_set_if-alike, narrow-alike, none-same, win_level-alike}
use Rattle.table_plan.specs.Table.{MovedLevel, MovedSets, Row, Universe, all_level, all_set, for_numbers, into_by, king, king_rays, lost_level, moved_levels, moved_set, moved_sets, next_row, place_item, ray, row, rows_to, rules, shift_by, shift_item, shift_of, shift_track, shift_tree, table, universe, with_next, with_number, with_ray}
use Rattle.table_plan.specs.Once.{IsSameRow, SameRows, TableEndsOnce}

-- mask by mask and ray by ray, sets of the same tuples
abbrev SameSetsBy : (ℕ → SetOf) → (ℕ → SetOf) → Type 0
SameSetsBy f g = (n : ℕ) → SameSets (f n) (g n)

abbrev SameMoved : MovedLevel → MovedLevel → Type 0
SameMoved m n = (mask : ℕ) → SameSetsBy (m mask) (n mask)

record SameMovedSets (m n : MovedSets) : Type 0 where
  sets : SameSetsBy m.0 n.0
  at : m.1 ≡ n.1

record SameUniverse (u v : Universe) : Type 0 where
  winner : SameLevels u.winner v.winner
  loser : SameLevels u.loser v.loser
  moved : SameMoved u.moved v.moved

if-related : {A : Type 0} (R : A → A → Type 0) (b : Bool) (x y z w : A) → R x y → R z w → R (if b then x else z) (if b then y else w)
if-related R true x y z w first second = first
if-related R false x y z w first second = second

-- number by number, values that are related
for_numbers-alike : {A : Type 0} (R : A → A → Type 0) (f g : ℕ → Program A) → ((n : ℕ) → Alike R (f n) (g n)) → (numbers : List ℕ) (a b : ℕ → A)
    → ((n : ℕ) → R (a n) (b n)) → Alike (λ (c d : ℕ → A). (n : ℕ) → R (c n) (d n)) (for_numbers numbers f a) (for_numbers numbers g b)
for_numbers-alike {A} R f g same numbers a b related =
    let All : (ℕ → A) → (ℕ → A) → Type 0 = λ c d. (n : ℕ) → R (c n) (d n) in
    each-alike All (with_number f) (with_number g)
    (λ k c d before. bind-alike R All (f k) (g k) (λ x. Give (λ j. if j == k then x else c j)) (λ y. Give (λ j. if j == k then y else d j)) (same k)
    (λ x y one. λ n. if-related R (n == k) x y (c n) (d n) one (before n)))
    numbers a b related

module _ (rules : Rules) where
  shift_by-alike : (ply mask : ℕ) (x : Var) (d : ℤ) (m n : Made) → SameMade m n → Alike SameMade (shift_by rules ply mask x d m) (shift_by rules ply mask x d n)
  shift_by-alike ply mask x (pos zero) m n same = same
  shift_by-alike ply mask x (pos (suc d)) m n same =
      let At : ℕ → Type 0 = λ k. Alike SameMade (shift_by rules ply mask x (pos (suc d)) m) (shift_by rules ply mask x (pos (suc d)) (n.0, k)) in
      let f = shift_tree (rules.tracks mask) x (pos (suc d)) in
      subst At same.at
      (make-alike (name ply mask kind.Moved) m.1 (shift_item (rules.tracks mask) x (pos (suc d)) m.0) (shift_item (rules.tracks mask) x (pos (suc d)) n.0)
      (SameItem-sets f (λ _. m.0) (λ _. n.0) (λ k. same.sets)))
  shift_by-alike ply mask x (negsuc d) m n same =
      let At : ℕ → Type 0 = λ k. Alike SameMade (shift_by rules ply mask x (negsuc d) m) (shift_by rules ply mask x (negsuc d) (n.0, k)) in
      let f = shift_tree (rules.tracks mask) x (negsuc d) in
      subst At same.at
      (make-alike (name ply mask kind.Moved) m.1 (shift_item (rules.tracks mask) x (negsuc d) m.0) (shift_item (rules.tracks mask) x (negsuc d) n.0)
      (SameItem-sets f (λ _. m.0) (λ _. n.0) (λ k. same.sets)))

  moved_set-alike : (ply mask : ℕ) (r : Ray) (at : ℕ) (s t : SetOf) → SameSets s t → Alike SameMade (moved_set rules ply mask r at s) (moved_set rules ply mask r at t)
  moved_set-alike ply mask r at s t same =
      each-alike SameMade (shift_track rules ply mask r) (shift_track rules ply mask r) (λ x m n. shift_by-alike ply mask x (shift_of r x) m n) (rules.tracks mask)
      (s, at) (t, at) (record { sets = same; at = refl })

  with_ray-alike : (ply mask : ℕ) (rays : ℕ → Ray) (s t : SetOf) → SameSets s t → (k : ℕ) (m n : MovedSets) → SameMovedSets m n
      → Alike SameMovedSets (with_ray rules ply mask rays s k m) (with_ray rules ply mask rays t k n)
  with_ray-alike ply mask rays s t same k m n before =
      let At : ℕ → Type 0 = λ j. Alike SameMovedSets (with_ray rules ply mask rays s k m) (with_ray rules ply mask rays t k (n.0, j)) in
      subst At before.at
      (bind-alike SameMade SameMovedSets (moved_set rules ply mask (rays k) m.1 s) (moved_set rules ply mask (rays k) m.1 t)
      (λ made. Give (λ j. if j == k then made.0 else m.0 j, made.1)) (λ made. Give (λ j. if j == k then made.0 else n.0 j, made.1))
      (moved_set-alike ply mask (rays k) m.1 s t same)
      (λ a b made. record { sets = λ j. if-related SameSets (j == k) a.0 b.0 (m.0 j) (n.0 j) made.sets (before.sets j); at = made.at }))

  moved_sets-alike : (ply : ℕ) (rays : ℕ → Ray) (l m : Level) → SameLevels l m → (mask : ℕ) → Alike SameSetsBy (moved_sets rules ply rays l mask) (moved_sets rules ply rays m mask)
  moved_sets-alike ply rays l m same mask =
      let none : MovedSets = (λ n. Nothing, 1) in
      bind-alike SameMovedSets SameSetsBy (each king_rays (with_ray rules ply mask rays (l mask)) none) (each king_rays (with_ray rules ply mask rays (m mask)) none)
      (λ all. Give all.0) (λ all. Give all.0)
      (each-alike SameMovedSets (with_ray rules ply mask rays (l mask)) (with_ray rules ply mask rays (m mask)) (with_ray-alike ply mask rays (l mask) (m mask) (same mask))
      king_rays none none (record { sets = λ n. SameSets-self Nothing; at = refl }))
      (λ a b all. all.sets)

  moved_levels-alike : (ply : ℕ) (rays : ℕ → Ray) (l m : Level) → SameLevels l m → Alike SameMoved (moved_levels rules ply rays l) (moved_levels rules ply rays m)
  moved_levels-alike ply rays l m same =
      for_numbers-alike SameSetsBy (moved_sets rules ply rays l) (moved_sets rules ply rays m) (moved_sets-alike ply rays l m same) rules.masks (λ mask n. Nothing)
      (λ mask n. Nothing) (λ mask n. SameSets-self Nothing)

  into-same : (k : ℕ) (l m : Level) (f g : MovedLevel) → SameLevels l m → SameMoved f g → (o : Opt) → SameLevels (into_by rules k l f o) (into_by rules k m g o)
  into-same k l m f g levels moved o = if-related SameLevels (o.man == k) (λ mask. f mask o.ray) (λ mask. g mask o.ray) l m (λ mask. moved mask o.ray) levels

module _ (winner : Side) (p : Position) where
  abbrev rs : Rules
  rs = rules winner p

  all_level-alike : (side : Side) (ply : ℕ) → Alike SameLevels (all_level winner p side ply) (all_level winner p side ply)
  all_level-alike side ply =
      for_masks-alike rs.masks (all_set winner p side ply) (all_set winner p side ply) no_sets no_sets
      (λ mask.
      let item = place_item p (king winner p) mask in
      let bearings = rs.bearings side mask in
      bind-alike SameMade SameSets (make (name ply mask kind.Place) 1 item) (make (name ply mask kind.Place) 1 item) (λ made. narrow rs ply mask bearings made.0)
      (λ made. narrow rs ply mask bearings made.0)
      (make-alike (name ply mask kind.Place) 1 item item (SameItem-sets item.formula (λ _. Nothing) (λ _. Nothing) (λ k. SameSets-self Nothing)))
      (λ a b made. narrow-alike rs ply mask bearings a.0 b.0 made.sets))
      none-same

  universe-alike : Alike SameUniverse (universe winner p) (universe winner p)
  universe-alike =
      bind-alike SameLevels SameUniverse (all_level winner p winner 0) (all_level winner p winner 0) _ _ (all_level-alike winner 0)
      (λ l m ours.
      bind-alike SameLevels SameUniverse (all_level winner p (other winner) 1) (all_level winner p (other winner) 1) _ _ (all_level-alike (other winner) 1)
      (λ j k theirs.
      bind-alike SameMoved SameUniverse (moved_levels rs 0 (ray winner p) l) (moved_levels rs 0 (ray winner p) m) _ _ (moved_levels-alike rs 0 (ray winner p) l m ours)
      (λ f g moved. record { winner = ours; loser = theirs; moved = moved })))

  lost_level-alike : (k : ℕ) (u v : Universe) (l m : Level) → SameUniverse u v → SameLevels l m → Alike SameLevels (lost_level winner p k u l) (lost_level winner p k v m)
  lost_level-alike k u v l m same won =
      bind-alike SameLevels SameLevels (for_masks rs.masks (rest_set rs k u.winner l) no_sets) (for_masks rs.masks (rest_set rs k v.winner m) no_sets) _ _
      (for_masks-alike rs.masks (rest_set rs k u.winner l) (rest_set rs k v.winner m) no_sets no_sets
      (λ mask. difference-alike rs k mask kind.Rest (u.winner mask) (v.winner mask) (l mask) (m mask) (same.winner mask) (won mask))
      none-same)
      (λ a b rests.
      bind-alike SameMoved SameLevels (moved_levels rs (suc k) (ray winner p) a) (moved_levels rs (suc k) (ray winner p) b) _ _ (moved_levels-alike rs (suc k) (ray winner p) a b rests)
      (λ f g moved.
      let n : ℕ = king winner p in
      for_masks-alike rs.masks (lost_set_if_by rs (other winner) k u.loser (into_by rs n u.winner u.moved) (into_by rs n a f))
      (lost_set_if_by rs (other winner) k v.loser (into_by rs n v.winner v.moved) (into_by rs n b g)) no_sets no_sets
      (λ mask.
      lost_set_if-alike rs (other winner) k mask u.loser v.loser (into_by rs n u.winner u.moved) (into_by rs n v.winner v.moved) (into_by rs n a f)
      (into_by rs n b g) same.loser (into-same rs n u.winner v.winner u.moved v.moved same.winner same.moved) (into-same rs n a b f g rests moved))
      none-same))

  row-alike : (k : ℕ) (u v : Universe) (l m : Level) → SameUniverse u v → SameLevels l m → Alike IsSameRow (row winner p k u l) (row winner p k v m)
  row-alike k u v l m same won =
      bind-alike SameLevels IsSameRow (lost_level winner p k u l) (lost_level winner p k v m) _ _ (lost_level-alike k u v l m same won)
      (λ a b lost. record { won = won; lost = lost })

  next_row-alike : (k : ℕ) (u v : Universe) (r s : Row) → SameUniverse u v → IsSameRow r s → Alike IsSameRow (next_row winner p k u r) (next_row winner p k v s)
  next_row-alike k u v r s same before =
      bind-alike SameLevels IsSameRow (win_level rs winner k u.winner r.lost) (win_level rs winner k v.winner s.lost) _ _
      (win_level-alike rs winner k u.winner v.winner r.lost s.lost same.winner before.lost)
      (λ l m won. row-alike k u v l m same won)

  with_next-alike : (k : ℕ) (u v : Universe) (xs ys : List Row) → SameUniverse u v → SameRows xs ys → Alike SameRows (with_next winner p k u xs) (with_next winner p k v ys)
  with_next-alike k u v [] [] same rows = tt
  with_next-alike k u v [] (y ∷ ys) same rows = absurd rows
  with_next-alike k u v (x ∷ xs) [] same rows = absurd rows
  with_next-alike k u v (x ∷ xs) (y ∷ ys) same rows =
      bind-alike IsSameRow SameRows (next_row winner p k u x) (next_row winner p k v y) _ _ (next_row-alike k u v x y same rows.0)
      (λ a b next. (next, rows))

  rows_to-alike : (u v : Universe) → SameUniverse u v → (k : ℕ) → Alike SameRows (rows_to winner p u k) (rows_to winner p v k)
  rows_to-alike u v same zero =
      bind-alike IsSameRow SameRows (row winner p 0 u no_sets) (row winner p 0 v no_sets) _ _ (row-alike 0 u v no_sets no_sets same none-same)
      (λ a b first. (first, tt))
  rows_to-alike u v same (suc k) =
      bind-alike SameRows SameRows (rows_to winner p u k) (rows_to winner p v k) _ _ (rows_to-alike u v same k)
      (λ a b rows. with_next-alike (suc k) u v a b same rows)

  table-alike : (last : ℕ) → Alike SameRows (table winner p last) (table winner p last)
  table-alike last =
      bind-alike SameUniverse SameRows (universe winner p) (universe winner p) _ _ universe-alike
      (λ u v same. rows_to-alike u v same last)

pub ends_once : (winner : Side) (p : Position) (last budget : ℕ) → TableEndsOnce winner p last budget
ends_once winner p last budget = record {
  one_end = Ends-one SameRows (table winner p last) (table winner p last) budget (table-alike winner p last);
  one_step = Stops-one SameRows (table winner p last) (table winner p last) budget (table-alike winner p last);
  not_both = Ends-not_stops SameRows (table winner p last) (table winner p last) budget (table-alike winner p last);
}
