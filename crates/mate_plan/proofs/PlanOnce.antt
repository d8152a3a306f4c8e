-- A plan has one end, or one first step past a budget. claim_plan cites how the parts of plans go on alike.
use Rattle.std.proofs.Common.{◌≡◌, ℕ, zero, suc, ◌==◌, Bool, true, false, List, [], ◌∷◌, ◌++◌, length, map, refl, ap, subst}
use Rattle.std.specs.Prelude.{if◌then◌else◌}
use Rattle.std.specs.List.{flat_map}
use Rattle.game_rules.specs.Game.{Position, other}
use Rattle.game_rules.specs.declared.men.Side.{Side}
use Rattle.lin_formula.specs.SetOf.{SetOf, Nothing}
use Rattle.mask_sets.specs.Stock.{mask_of}
use Rattle.rule_formula.specs.declared.opt.Bearing.{Bearing}
use Rattle.rule_formula.specs.declared.opt.Opt.{Opt}
use Rattle.set_plan.specs.Program.{Item, Give, each}
use Rattle.set_plan.specs.Same.{SameSets, SameItem}
use Rattle.set_plan.specs.Unite.{Made, join, make, two, unite, without}
use Rattle.set_plan.proofs.Alike.{Alike, SameSets-self}
use Rattle.set_plan.proofs.Combined.{SameItems, SameMade, Empty-alike, bind-alike, join-alike, make-alike, unite-alike, without-alike, two-same}
use Rattle.set_plan.proofs.Folds.{each-alike}
use Rattle.set_plan.proofs.SameSets.{SameItem-sets}
use Rattle.set_plan.proofs.Unique.{Ends-not_stops, Ends-one, Stops-one}
use Rattle.mate_plan.specs.declared.names.Part.{Part}
use Rattle.mate_plan.specs.declared.names.Part.TheVariants as kind
use Rattle.mate_plan.specs.Plan.{Level, Program, Rules, backward, backward_from, bear_item, bear_items, choices_into, difference, for_masks, forward, image_item, image_items, is_even, kept_level, level_with, lost_level, lost_set_by, lost_set_if, lost_set_if_by, name, narrow, narrow_by, no_sets, plan, point_level, pre_item, pre_items, pre_items_by, reach_level, reach_more, reach_set, rest_set, safe_item, turn_at, union, win_level, win_set, with_mask}
use Rattle.mate_plan.specs.Once.{EndsOnce, SameLevels, SameLists}
use Rattle.mate_plan.specs.PlanOf.{last_ply, plan_of, plan_to, rules_of}

same-length : (ls ms : List Level) → SameLists ls ms → length ls ≡ length ms
same-length [] [] same = refl
same-length [] (m ∷ ms) same = absurd same
same-length (l ∷ ls) [] same = absurd same
same-length (l ∷ ls) (m ∷ ms) same = ap (λ n. suc n) (same-length ls ms same.1)

pub none-same : SameLevels no_sets no_sets
none-same mask = SameSets-self Nothing

if-same : (b : Bool) (s t u v : SetOf) → SameSets s t → SameSets u v → SameSets (if b then s else u) (if b then t else v)
if-same true s t u v first second = first
if-same false s t u v first second = second

pub level_with-same : (l m : Level) (mask : ℕ) (s t : SetOf) → SameLevels l m → SameSets s t → SameLevels (level_with l mask s) (level_with m mask t)
level_with-same l m mask s t levels sets k = if-same (k == mask) s t (l k) (m k) sets (levels k)

pub for_masks-alike : (masks : List ℕ) (f g : ℕ → Program SetOf) (l m : Level) → ((mask : ℕ) → Alike SameSets (f mask) (g mask)) → SameLevels l m
    → Alike SameLevels (for_masks masks f l) (for_masks masks g m)
for_masks-alike masks f g l m sets levels =
    each-alike SameLevels (with_mask f) (with_mask g)
    (λ mask k j same. bind-alike SameSets SameLevels (f mask) (g mask) (λ s. Give (level_with k mask s)) (λ s. Give (level_with j mask s)) (sets mask)
    (λ s t one. level_with-same k j mask s t same one))
    masks l m levels

pub map-items : {X : Type 0} (f g : X → Item) → ((x : X) → SameItem (f x) (g x)) → (xs : List X) → SameItems (map f xs) (map g xs)
map-items f g same [] = tt
map-items f g same (x ∷ xs) = (same x, map-items f g same xs)

pub append-items : (is js ks ls : List Item) → SameItems is js → SameItems ks ls → SameItems (is ++ ks) (js ++ ls)
append-items [] [] ks ls first second = second
append-items [] (j ∷ js) ks ls first second = absurd first
append-items (i ∷ is) [] ks ls first second = absurd first
append-items (i ∷ is) (j ∷ js) ks ls first second = (first.0, append-items is js ks ls first.1 second)

pub flat-items : (f g : ℕ → List Item) → ((mask : ℕ) → SameItems (f mask) (g mask)) → (masks : List ℕ) → SameItems (flat_map f masks) (flat_map g masks)
flat-items f g same [] = tt
flat-items f g same (mask ∷ masks) = append-items (f mask) (g mask) (flat_map f masks) (flat_map g masks) (same mask) (flat-items f g same masks)

module _ (rules : Rules) where
  pub union-alike : (ply mask : ℕ) (p : Part) (is js : List Item) → SameItems is js → Alike SameSets (union rules ply mask p is) (union rules ply mask p js)
  union-alike ply mask p is js same =
      bind-alike SameMade SameSets (unite (rules.tracks mask) (name ply mask p) (Nothing, 1) is)
      (unite (rules.tracks mask) (name ply mask p) (Nothing, 1) js) (λ made. Give made.0) (λ made. Give made.0)
      (unite-alike (rules.tracks mask) (name ply mask p) (Nothing, 1) (Nothing, 1) is js (record { sets = SameSets-self Nothing; at = refl }) same)
      (λ a b made. made.sets)

  pub difference-alike : (ply mask : ℕ) (p : Part) (s t u v : SetOf) → SameSets s t → SameSets u v → Alike SameSets (difference rules ply mask p s u) (difference rules ply mask p t v)
  difference-alike ply mask p s t u v first second =
      bind-alike SameMade SameSets (without (rules.tracks mask) (name ply mask p) s u) (without (rules.tracks mask) (name ply mask p) t v) (λ made. Give made.0) (λ made. Give made.0)
      (without-alike (rules.tracks mask) (name ply mask p) s t u v first second)
      (λ a b made. made.sets)

  pub image-same : (side : Side) (to : ℕ) (l m : Level) → SameLevels l m → SameItems (image_items rules side to l) (image_items rules side to m)
  image-same side to l m levels =
      flat-items (λ mask. map (image_item rules mask (l mask)) (choices_into rules side mask to)) (λ mask. map (image_item rules mask (m mask)) (choices_into rules side mask to))
      (λ mask. map-items (image_item rules mask (l mask)) (image_item rules mask (m mask))
      (λ o. SameItem-sets (rules.image mask o) (λ _. l mask) (λ _. m mask) (λ k. levels mask)) (choices_into rules side mask to))
      rules.masks

  pub pre-same : (side : Side) (mask : ℕ) (s t : SetOf) (into onto : Opt → Level) → SameSets s t → ((o : Opt) → SameLevels (into o) (onto o))
      → SameItems (pre_items_by rules side mask s into) (pre_items_by rules side mask t onto)
  pre-same side mask s t into onto sets levels =
      map-items (λ o. pre_item rules mask s (into o) o) (λ o. pre_item rules mask t (onto o) o)
      (λ o. SameItem-sets (rules.pre mask o) (two s (into o (rules.target mask o))) (two t (onto o (rules.target mask o)))
      (two-same s t (into o (rules.target mask o)) (onto o (rules.target mask o)) sets (levels o (rules.target mask o))))
      (rules.choices side mask)

  pub bear-same : (side : Side) (mask : ℕ) (s t : SetOf) → SameSets s t → SameItems (bear_items rules side mask s) (bear_items rules side mask t)
  bear-same side mask s t sets =
      map-items (bear_item rules mask s) (bear_item rules mask t) (λ b. SameItem-sets (rules.bear mask b) (λ _. s) (λ _. t) (λ k. sets)) (rules.bearings side mask)

  narrow_by-alike : (ply mask : ℕ) (b : Bearing) (m n : Made) → SameMade m n → Alike SameMade (narrow_by rules ply mask b m) (narrow_by rules ply mask b n)
  narrow_by-alike ply mask b m n same =
      let At : ℕ → Type 0 = λ k. Alike SameMade (narrow_by rules ply mask b m) (narrow_by rules ply mask b (n.0, k)) in
      subst At same.at
      (make-alike (name ply mask kind.Safe) m.1 (safe_item rules mask m.0 b) (safe_item rules mask n.0 b) (SameItem-sets (rules.safe mask b) (λ _. m.0) (λ _. n.0) (λ k. same.sets)))

  pub narrow-alike : (ply mask : ℕ) (bearings : List Bearing) (s t : SetOf) → SameSets s t → Alike SameSets (narrow rules ply mask bearings s) (narrow rules ply mask bearings t)
  narrow-alike ply mask bearings s t same =
      bind-alike SameMade SameSets (each bearings (narrow_by rules ply mask) (s, 1)) (each bearings (narrow_by rules ply mask) (t, 1)) (λ made. Give made.0) (λ made. Give made.0)
      (each-alike SameMade (narrow_by rules ply mask) (narrow_by rules ply mask) (narrow_by-alike ply mask) bearings (s, 1) (t, 1) (record { sets = same; at = refl }))
      (λ a b made. made.sets)

  pub reach_set-alike : (side : Side) (ply : ℕ) (l m : Level) (mask : ℕ) → SameLevels l m → Alike SameSets (reach_set rules side ply l mask) (reach_set rules side ply m mask)
  reach_set-alike side ply l m mask levels =
      bind-alike SameSets SameSets (union rules ply mask kind.Image (image_items rules side mask l))
      (union rules ply mask kind.Image (image_items rules side mask m)) (narrow rules ply mask (rules.bearings (other side) mask))
      (narrow rules ply mask (rules.bearings (other side) mask))
      (union-alike ply mask kind.Image (image_items rules side mask l) (image_items rules side mask m) (image-same side mask l m levels))
      (λ s t same. narrow-alike ply mask (rules.bearings (other side) mask) s t same)

  pub reach_level-alike : (side : Side) (ply : ℕ) (l m : Level) → SameLevels l m → Alike SameLevels (reach_level rules side ply l) (reach_level rules side ply m)
  reach_level-alike side ply l m levels =
      for_masks-alike rules.masks (reach_set rules side ply l) (reach_set rules side ply m) no_sets no_sets (λ mask. reach_set-alike side ply l m mask levels) none-same

  pub win_level-alike : (side : Side) (ply : ℕ) (r q k j : Level) → SameLevels r q → SameLevels k j → Alike SameLevels (win_level rules side ply r k) (win_level rules side ply q j)
  win_level-alike side ply r q k j reached kept =
      for_masks-alike rules.masks (win_set rules side ply r k) (win_set rules side ply q j) no_sets no_sets
      (λ mask. union-alike ply mask kind.Win (pre_items rules side mask (r mask) k) (pre_items rules side mask (q mask) j) (pre-same side mask (r mask) (q mask) (λ _. k) (λ _. j) (reached mask) (λ o. kept)))
      none-same

  lost_set-alike : (side : Side) (ply mask : ℕ) (s t : SetOf) (r q l m : Opt → Level) → SameSets s t → ((o : Opt) → SameLevels (r o) (q o))
      → ((o : Opt) → SameLevels (l o) (m o))
      → Alike SameSets (lost_set_by rules side ply mask s r l) (lost_set_by rules side ply mask t q m)
  lost_set-alike side ply mask s t r q l m sets replies rests =
      bind-alike SameSets SameSets (union rules ply mask kind.Escape (pre_items_by rules side mask s l)) (union rules ply mask kind.Escape (pre_items_by rules side mask t m)) _ _
      (union-alike ply mask kind.Escape (pre_items_by rules side mask s l) (pre_items_by rules side mask t m) (pre-same side mask s t l m sets rests))
      (λ e f escape.
      bind-alike SameSets SameSets (difference rules ply mask kind.Calm s e) (difference rules ply mask kind.Calm t f) _ _ (difference-alike ply mask kind.Calm s t e f sets escape)
      (λ c d calm.
      bind-alike SameSets SameSets (union rules ply mask kind.Check (bear_items rules (other side) mask c)) (union rules ply mask kind.Check (bear_items rules (other side) mask d)) _ _
      (union-alike ply mask kind.Check (bear_items rules (other side) mask c) (bear_items rules (other side) mask d) (bear-same (other side) mask c d calm))
      (λ g h check.
      bind-alike SameSets SameSets (difference rules ply mask kind.Quiet c g) (difference rules ply mask kind.Quiet d h) _ _ (difference-alike ply mask kind.Quiet c d g h calm check)
      (λ v w quiet.
      bind-alike SameSets SameSets (union rules ply mask kind.Reply (pre_items_by rules side mask v r)) (union rules ply mask kind.Reply (pre_items_by rules side mask w q)) _ _
      (union-alike ply mask kind.Reply (pre_items_by rules side mask v r) (pre_items_by rules side mask w q) (pre-same side mask v w r q quiet replies))
      (λ x y reply.
      bind-alike SameMade SameSets (join (rules.tracks mask) (name ply mask kind.Lost) g (x, 1))
      (join (rules.tracks mask) (name ply mask kind.Lost) h (y, 1)) (λ made. Give made.0) (λ made. Give made.0)
      (join-alike (rules.tracks mask) (name ply mask kind.Lost) g h (x, 1) (y, 1) check (record { sets = reply; at = refl }))
      (λ a b made. made.sets))))))

  pub lost_set_if-alike : (side : Side) (ply mask : ℕ) (s t : Level) (r q l m : Opt → Level) → SameLevels s t → ((o : Opt) → SameLevels (r o) (q o))
      → ((o : Opt) → SameLevels (l o) (m o))
      → Alike SameSets (lost_set_if_by rules side ply s r l mask) (lost_set_if_by rules side ply t q m mask)
  lost_set_if-alike side ply mask s t r q l m sets replies rests = (
    Empty-alike (s mask) (t mask) (sets mask),
    SameSets-self Nothing,
    lost_set-alike side ply mask (s mask) (t mask) r q l m (sets mask) replies rests,
  )

  lost_level-alike : (side : Side) (ply : ℕ) (r q r1 q1 k j : Level) → SameLevels r q → SameLevels r1 q1 → SameLevels k j
      → Alike SameLevels (lost_level rules side ply r r1 k) (lost_level rules side ply q q1 j)
  lost_level-alike side ply r q r1 q1 k j reached next kept =
      bind-alike SameLevels SameLevels (for_masks rules.masks (rest_set rules (suc ply) r1 k) no_sets) (for_masks rules.masks (rest_set rules (suc ply) q1 j) no_sets)
      (λ rests. for_masks rules.masks (lost_set_if rules side ply r r1 rests) no_sets) (λ rests. for_masks rules.masks (lost_set_if rules side ply q q1 rests) no_sets)
      (for_masks-alike rules.masks (rest_set rules (suc ply) r1 k) (rest_set rules (suc ply) q1 j) no_sets no_sets
      (λ mask. difference-alike (suc ply) mask kind.Rest (r1 mask) (q1 mask) (k mask) (j mask) (next mask) (kept mask))
      none-same)
      (λ l m rests.
      for_masks-alike rules.masks (lost_set_if rules side ply r r1 l) (lost_set_if rules side ply q q1 m) no_sets no_sets
      (λ mask. lost_set_if-alike side ply mask r q (λ _. r1) (λ _. q1) (λ _. l) (λ _. m) reached (λ o. next) (λ o. rests))
      none-same)

  pub point_level-alike : (mask : ℕ) → Alike SameLevels (point_level rules mask) (point_level rules mask)
  point_level-alike mask =
      let item : Item = record { formula = rules.point; sets = λ _. Nothing } in
      bind-alike SameMade SameLevels (make (name 0 mask kind.Point) 1 item) (make (name 0 mask kind.Point) 1 item)
      (λ made. Give (level_with no_sets mask made.0)) (λ made. Give (level_with no_sets mask made.0))
      (make-alike (name 0 mask kind.Point) 1 item item (SameItem-sets rules.point (λ _. Nothing) (λ _. Nothing) (λ k. SameSets-self Nothing)))
      (λ a b made. level_with-same no_sets no_sets mask a.0 b.0 none-same made.sets)

  reach_more-alike : (first : Side) (ply : ℕ) (ls ms : List Level) → SameLists ls ms → Alike SameLists (reach_more rules first ply ls) (reach_more rules first ply ms)
  reach_more-alike first ply [] [] same = tt
  reach_more-alike first ply [] (m ∷ ms) same = absurd same
  reach_more-alike first ply (l ∷ ls) [] same = absurd same
  reach_more-alike first ply (l ∷ ls) (m ∷ ms) same =
      bind-alike SameLevels SameLists (reach_level rules (turn_at first ply) (suc ply) l) (reach_level rules (turn_at first ply) (suc ply) m)
      (λ more. Give (more ∷ l ∷ ls)) (λ more. Give (more ∷ m ∷ ms))
      (reach_level-alike (turn_at first ply) (suc ply) l m same.0)
      (λ a b more. (more, same))

  forward-alike : (first : Side) (mask ply : ℕ) → Alike SameLists (forward rules first mask ply) (forward rules first mask ply)
  forward-alike first mask zero =
      bind-alike SameLevels SameLists (point_level rules mask) (point_level rules mask) (λ level. Give (level ∷ []))
      (λ level. Give (level ∷ [])) (point_level-alike mask) (λ l m same. (same, tt))
  forward-alike first mask (suc ply) =
      bind-alike SameLists SameLists (forward rules first mask ply) (forward rules first mask ply) (λ levels. reach_more rules first ply levels)
      (λ levels. reach_more rules first ply levels) (forward-alike first mask ply)
      (λ ls ms same. reach_more-alike first ply ls ms same)

  kept_level-alike : (first : Side) (ply left : ℕ) (r q r1 q1 k j : Level) → SameLevels r q → SameLevels r1 q1 → SameLevels k j
      → Alike SameLevels (kept_level rules first ply left r r1 k) (kept_level rules first ply left q q1 j)
  kept_level-alike first ply left r q r1 q1 k j reached next kept = by_turn (is_even left)
    where
      by_turn : (b : Bool)
          → Alike SameLevels (if b then win_level rules (turn_at first ply) ply r k else lost_level rules (turn_at first ply) ply r r1 k)
          (if b then win_level rules (turn_at first ply) ply q j else lost_level rules (turn_at first ply) ply q q1 j)
      by_turn true = win_level-alike (turn_at first ply) ply r q k j reached kept
      by_turn false = lost_level-alike (turn_at first ply) ply r q r1 q1 k j reached next kept

  backward-alike : (first : Side) (r1 q1 : Level) (before past : List Level) (k j : Level) (later after : List Level) → SameLevels r1 q1
      → SameLists before past → SameLevels k j → SameLists later after
      → Alike SameLists (backward rules first r1 before k later) (backward rules first q1 past j after)
  backward-alike first r1 q1 [] [] k j later after next lists kept rest = (kept, rest)
  backward-alike first r1 q1 [] (q ∷ past) k j later after next lists kept rest = absurd lists
  backward-alike first r1 q1 (r ∷ before) [] k j later after next lists kept rest = absurd lists
  backward-alike first r1 q1 (r ∷ before) (q ∷ past) k j later after next lists kept rest =
      let At : ℕ → Type 0 = λ n. Alike SameLevels (kept_level rules first (length before) (suc (length later)) r r1 k) (kept_level rules first n (suc (length later)) q q1 j) in
      let Left : ℕ → Type 0 = λ n. Alike SameLevels (kept_level rules first (length before) (suc (length later)) r r1 k) (kept_level rules first (length past) (suc n) q q1 j) in
      bind-alike SameLevels SameLists (kept_level rules first (length before) (suc (length later)) r r1 k) (kept_level rules first (length past) (suc (length after)) q q1 j)
      (λ level. backward rules first r before level (k ∷ later)) (λ level. backward rules first q past level (j ∷ after))
      (subst Left (same-length later after rest) (subst At (same-length before past lists.1) (kept_level-alike first (length before) (suc (length later)) r q r1 q1 k j lists.0 next kept)))
      (λ l m same. backward-alike first r q before past l m (k ∷ later) (j ∷ after) lists.0 lists.1 same (kept, rest))

  backward_from-alike : (first : Side) (ls ms : List Level) → SameLists ls ms → Alike SameLists (backward_from rules first ls) (backward_from rules first ms)
  backward_from-alike first [] [] same = tt
  backward_from-alike first [] (m ∷ ms) same = absurd same
  backward_from-alike first (l ∷ ls) [] same = absurd same
  backward_from-alike first (l ∷ ls) (m ∷ ms) same = backward-alike first l m ls ms no_sets no_sets [] [] same.0 same.1 none-same tt

  plan-alike : (first : Side) (mask last : ℕ) → Alike SameLists (plan rules first mask last) (plan rules first mask last)
  plan-alike first mask last =
      bind-alike SameLists SameLists (forward rules first mask last) (forward rules first mask last) (λ levels. backward_from rules first levels)
      (λ levels. backward_from rules first levels) (forward-alike first mask last)
      (λ ls ms same. backward_from-alike first ls ms same)

plan_to-alike : (p : Position) (last : ℕ) → Alike SameLists (plan_to p last) (plan_to p last)
plan_to-alike p zero = tt
plan_to-alike p (suc last) = plan-alike (rules_of p) p.turn (mask_of p) (suc last)

-- the plan of a position goes on alike at sets of the same tuples
pub plan_of-alike : (winner : Side) (p : Position) (moves : ℕ) → Alike SameLists (plan_of winner p moves) (plan_of winner p moves)
plan_of-alike winner p moves = plan_to-alike p (last_ply winner p.turn moves)

pub ends_once : (winner : Side) (p : Position) (moves budget : ℕ) → EndsOnce winner p moves budget
ends_once winner p moves budget = record {
  one_end = Ends-one SameLists (plan_of winner p moves) (plan_of winner p moves) budget (plan_of-alike winner p moves);
  one_step = Stops-one SameLists (plan_of winner p moves) (plan_of winner p moves) budget (plan_of-alike winner p moves);
  not_both = Ends-not_stops SameLists (plan_of winner p moves) (plan_of winner p moves) budget (plan_of-alike winner p moves);
}
