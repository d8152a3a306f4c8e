-- The plans of two claims of the same sets go on alike, and so does the plan of a claim beside itself.
use Rattle.std.proofs.Common.{◌≡◌, ◌↔◌, ℕ, zero, suc, ◌+◌, Bool, true, false, List, [], ◌∷◌, Option, Some, None, ℤ, refl, ap, subst}
use Rattle.track_word.specs.declared.tracks.Var.{Var}
use Rattle.auto_core.specs.Automaton.{Automaton}
use Rattle.game_rules.specs.Game.{Position, other}
use Rattle.game_rules.specs.declared.men.Side.{Side}
use Rattle.lin_formula.specs.SetOf.{SetOf}
use Rattle.mask_sets.specs.Stock.{mask_of}
use Rattle.mask_sets.specs.Tuple.{tuple_of}
use Rattle.set_plan.specs.Program.{IsYes, Item, Question, Ask, Give, Empty, Has, Stable, Within, bind}
use Rattle.set_plan.specs.Same.{SameSets}
use Rattle.set_plan.specs.Unite.{are_empty, is_within, make, difference_set, without}
use Rattle.set_plan.proofs.Alike.{Alike, SameQuestion}
use Rattle.set_plan.proofs.Combined.{Empty-alike, SameItems, SameMade, bind-alike, make-alike, without-alike}
use Rattle.set_plan.proofs.Folds.{each-alike}
use Rattle.set_plan.proofs.SameSets.{SameItem-sets}
use Rattle.mate_plan.specs.Plan.{Level, Program, Rules, bear_items, difference, name, point_level, pre_items, reach_level, union}
use Rattle.mate_plan.specs.PlanOf.{rules_of}
use Rattle.mate_plan.specs.Questions.{are_answered, are_on_distinct_squares, are_safe, has_first_move, have_moves, have_replies, quiet_set}
use Rattle.mate_plan.specs.Twins.{twin_item, twin_items, twins_of}
use Rattle.mate_plan.specs.declared.names.Part.{Part}
use Rattle.mate_plan.specs.declared.names.Part.TheVariants as kind
use Rattle.mate_plan.specs.Once.{SameLevels}
use Rattle.mate_plan.specs.Turns.{plies_before_turn}
use Rattle.mate_plan.proofs.PlanOnce.{bear-same, difference-alike, map-items, point_level-alike, pre-same, reach_level-alike, union-alike}
use Rattle.mate_plan.specs.Claim.{Claim, ClaimedSet, claimed_at, claimed_in, claimed_level, losers_plies}
use Rattle.claim_plan.specs.CheckPlan.{Finding, and_then, check_first, check_left, check_move, check_moving, check_plan, check_ply, check_replies, check_set, check_sets, check_sign, check_stale, check_waiting, for_each, go_on, holds_by, failed_rule, rule_at}
use Rattle.mate_plan.specs.SameClaim.{AreSameSets}
use Rattle.claim_plan.specs.declared.names.RuleAt.{RuleAt}
use Rattle.claim_plan.specs.declared.names.Rule.TheVariants as rule
use Rattle.claim_plan.proofs.SameSets.{SameSets-claimed, decides-same}

-- the same answer
abbrev pub Same : {A : Type 0} → A → A → Type 0
Same a b = a ≡ b

both : (P Q : Type 0) → P ↔ Q → ((P → ⊥) ↔ (Q → ⊥))
both P Q same = (λ off h. off (same.1 h), λ off h. off (same.0 h))

Stable-alike : (a b : Automaton) → IsYes (Stable a) ↔ IsYes (Stable b) → SameQuestion (Stable a) (Stable b)
Stable-alike a b same = record { yes = same; no = both (IsYes (Stable a)) (IsYes (Stable b)) same }

Has-alike : (s t : SetOf) (tuple : List ℤ) → SameSets s t → SameQuestion (Has s tuple) (Has t tuple)
Has-alike s t tuple same = record { yes = same tuple; no = both (IsYes (Has s tuple)) (IsYes (Has t tuple)) (same tuple) }

Within-alike : (s t u v : SetOf) → SameSets s t → SameSets u v → SameQuestion (Within s u) (Within t v)
Within-alike s t u v first second =
    let same : IsYes (Within s u) ↔ IsYes (Within t v) = (
      λ w tuple h. (second tuple).0 (w tuple ((first tuple).1 h)),
      λ w tuple h. (second tuple).1 (w tuple ((first tuple).0 h)),
    ) in
    record { yes = same; no = both (IsYes (Within s u)) (IsYes (Within t v)) same }

module _ {P : Type 0} where
  are_empty-alike : (part : P) (is js : List Item) (at to : ℕ) → at ≡ to → SameItems is js → Alike Same (are_empty part at is) (are_empty part to js)
  are_empty-alike part [] [] at to e items = refl
  are_empty-alike part [] (j ∷ js) at to e items = absurd items
  are_empty-alike part (i ∷ is) [] at to e items = absurd items
  are_empty-alike part (i ∷ is) (j ∷ js) at to e (item, items) =
      let At : ℕ → Type 0 = λ n. Alike Same (are_empty part at (i ∷ is)) (are_empty part n (j ∷ js)) in
      subst At e
      (bind-alike SameMade Same (make part at i) (make part at j) (λ made. Ask (Empty (made.0 ∷ [])) (are_empty part made.1 is) (Give false))
      (λ made. Ask (Empty (made.0 ∷ [])) (are_empty part made.1 js) (Give false)) (make-alike part at i j item)
      (λ a b made. (Empty-alike a.0 b.0 made.sets, are_empty-alike part is js a.1 b.1 made.at items, refl)))

  is_within-alike : (tracks : List Var) (part : P) (s t u v : SetOf) → SameSets s t → SameSets u v → Alike Same (is_within tracks part s u) (is_within tracks part t v)
  is_within-alike tracks part s t u v first second =
      bind-alike SameSets Same (difference_set tracks part s u) (difference_set tracks part t v) (λ rest. Ask (Within s u) (Give true) (Give false)) (λ rest. Ask (Within t v) (Give true) (Give false))
      (bind-alike SameMade SameSets (without tracks part s u) (without tracks part t v) (λ made. Give made.0) (λ made. Give made.0)
      (without-alike tracks part s t u v first second) (λ a b made. made.sets))
      (λ a b rest. (Within-alike s t u v first second, refl, refl))

holds_by-alike : (r : RuleAt) (m n : Program Bool) → Alike Same m n → Alike Same (holds_by r m) (holds_by r n)
holds_by-alike r m n same = bind-alike Same Same m n (λ holds. Give (failed_rule r holds)) (λ holds. Give (failed_rule r holds)) same (λ a b e. ap (failed_rule r) e)

asked-alike : (r : RuleAt) {q k : Question} → SameQuestion q k → Alike Same (holds_by r (Ask q (Give true) (Give false))) (holds_by r (Ask k (Give true) (Give false)))
asked-alike r {q} {k} same = holds_by-alike r (Ask q (Give true) (Give false)) (Ask k (Give true) (Give false)) (same, refl, refl)

go_on-alike : (m n : Program Finding) (a b : Finding) → a ≡ b → Alike Same m n → Alike Same (go_on m a) (go_on n b)
go_on-alike m n a b e same = subst (λ (x : Finding). Alike Same (go_on m a) (go_on n x)) e (by a)
  where
    by : (x : Finding) → Alike Same (go_on m x) (go_on n x)
    by None = same
    by (Some r) = refl

and_then-alike : (m n k l : Program Finding) → Alike Same m n → Alike Same k l → Alike Same (and_then m k) (and_then n l)
and_then-alike m n k l first next = bind-alike Same Same m n (go_on k) (go_on l) first (λ a b e. go_on-alike k l a b e next)

for_each-alike : {X : Type 0} (f g : X → Program Finding) (xs : List X) → ((x : X) → Alike Same (f x) (g x)) → Alike Same (for_each xs f) (for_each xs g)
for_each-alike f g xs same = each-alike Same (λ x. go_on (f x)) (λ x. go_on (g x)) (λ x a b e. go_on-alike (f x) (g x) a b e (same x)) xs None None refl

sign-alike : (ply mask : ℕ) (o u : Option Automaton) → AreSameSets o u → Alike Same (check_sign ply mask o) (check_sign ply mask u)
sign-alike ply mask None None same = refl
sign-alike ply mask None (Some b) same = absurd same
sign-alike ply mask (Some a) None same = absurd same
sign-alike ply mask (Some a) (Some b) same = asked-alike (rule_at ply mask rule.Sign) (Stable-alike a b (decides-same same))

apart-alike : (p : Position) (ply mask : ℕ) (s t : SetOf) → SameSets s t → Alike Same (are_on_distinct_squares p ply mask s) (are_on_distinct_squares p ply mask t)
apart-alike p ply mask s t sets =
    are_empty-alike (name ply mask kind.Same) (twin_items p mask s) (twin_items p mask t) 1 1 refl
    (map-items (twin_item s) (twin_item t) (λ f. SameItem-sets f (λ _. s) (λ _. t) (λ k. sets)) (twins_of p mask 0))

module _ (rules : Rules) where
  safe-alike : (side : Side) (ply mask : ℕ) (s t : SetOf) → SameSets s t → Alike Same (are_safe rules side ply mask s) (are_safe rules side ply mask t)
  safe-alike side ply mask s t sets =
      are_empty-alike (name ply mask kind.Guard) (bear_items rules side mask s) (bear_items rules side mask t) 1 1 refl (bear-same rules side mask s t sets)

  moves-alike : (side : Side) (ply mask : ℕ) (found missing : Part) (s t : SetOf) (c d : Level) → SameSets s t → SameLevels c d
      → Alike Same (have_moves rules side ply mask found missing s c) (have_moves rules side ply mask found missing t d)
  moves-alike side ply mask found missing s t c d sets levels =
      let items = λ (u : SetOf) (l : Level). pre_items rules side mask u l in
      let within = λ (u v : SetOf). is_within (rules.tracks mask) (name ply mask missing) u v in
      bind-alike SameSets Same (union rules ply mask found (items s c)) (union rules ply mask found (items t d)) (within s) (within t)
      (union-alike rules ply mask found (items s c) (items t d) (pre-same rules side mask s t (λ _. c) (λ _. d) sets (λ o. levels)))
      (λ u v same. is_within-alike (rules.tracks mask) (name ply mask missing) s t u v sets same)

  quiet-alike : (side : Side) (ply mask : ℕ) (s t : SetOf) → SameSets s t → Alike SameSets (quiet_set rules side ply mask s) (quiet_set rules side ply mask t)
  quiet-alike side ply mask s t sets =
      let bears = λ (u : SetOf). bear_items rules (other side) mask u in
      let rest = λ (u check : SetOf). difference rules ply mask kind.Quiet u check in
      bind-alike SameSets SameSets (union rules ply mask kind.Check (bears s)) (union rules ply mask kind.Check (bears t)) (rest s) (rest t)
      (union-alike rules ply mask kind.Check (bears s) (bears t) (bear-same rules (other side) mask s t sets))
      (λ u v check. difference-alike rules ply mask kind.Quiet s t u v sets check)

  left-alike : (side : Side) (ply : ℕ) (r q c d : Level) (mask : ℕ) → SameLevels r q → SameLevels c d → Alike Same (check_left rules side ply r c mask) (check_left rules side ply q d mask)
  left-alike side ply r q c d mask reached claimed =
      holds_by-alike (rule_at ply mask rule.Left) (are_answered rules side ply r c mask) (are_answered rules side ply q d mask)
      (moves-alike side ply mask kind.Answer kind.Left (r mask) (q mask) c d (reached mask) claimed)

  stale-alike : (side : Side) (ply : ℕ) (c d r q : Level) (mask : ℕ) → SameLevels c d → SameLevels r q
      → Alike Same (check_stale rules side ply c r mask) (check_stale rules side ply d q mask)
  stale-alike side ply c d r q mask claimed reached =
      let moves = λ (l : Level) (u : SetOf). have_moves rules side ply mask kind.Reply kind.Stale u l in
      holds_by-alike (rule_at ply mask rule.Stale) (have_replies rules side ply c r mask) (have_replies rules side ply d q mask) (
        Empty-alike (c mask) (d mask) (claimed mask),
        refl,
        bind-alike SameSets Same (quiet_set rules side ply mask (c mask)) (quiet_set rules side ply mask (d mask)) (moves r) (moves q)
            (quiet-alike side ply mask (c mask) (d mask) (claimed mask))
            (λ u v quiet. moves-alike side ply mask kind.Reply kind.Stale u v r q quiet reached),
      )

  replies-alike : (side : Side) (ply : ℕ) (c d e f : Level) → SameLevels c d → SameLevels e f → Alike Same (check_replies rules side ply c e) (check_replies rules side ply d f)
  replies-alike side ply c d e f claimed claimed2 =
      let left = λ (r l : Level). check_left rules (other side) (suc ply) r l in
      let stale = λ (l r : Level). check_stale rules side ply l r in
      let next = λ (k l r : Level). and_then (for_each rules.masks (left r l)) (for_each rules.masks (stale k r)) in
      bind-alike SameLevels Same (reach_level rules side (suc ply) c) (reach_level rules side (suc ply) d) (next c e) (next d f)
      (reach_level-alike rules side (suc ply) c d claimed)
      (λ r q reached.
      and_then-alike (for_each rules.masks (left r e)) (for_each rules.masks (left q f)) (for_each rules.masks (stale c r)) (for_each rules.masks (stale d q))
      (for_each-alike (left r e) (left q f) rules.masks (λ m. left-alike (other side) (suc ply) r q e f m reached claimed2))
      (for_each-alike (stale c r) (stale d q) rules.masks (λ m. stale-alike side ply c d r q m claimed reached)))

  starts-alike : (side : Side) (mask : ℕ) (tuple : List ℤ) (c d : Level) → SameLevels c d → Alike Same (has_first_move rules side mask tuple c) (has_first_move rules side mask tuple d)
  starts-alike side mask tuple c d claimed =
      let items = λ (s : SetOf) (l : Level). pre_items rules side mask s l in
      let into = λ (s : SetOf) (l : Level). union rules 0 mask kind.First (items s l) in
      let asked = λ (s : SetOf). Ask (Has s tuple) (Give true) (Give false) in
      bind-alike SameLevels Same (point_level rules mask) (point_level rules mask) (λ start. bind (into (start mask) c) asked) (λ start. bind (into (start mask) d) asked)
      (point_level-alike rules mask)
      (λ a b start.
      bind-alike SameSets Same (into (a mask) c) (into (b mask) d) asked asked
      (union-alike rules 0 mask kind.First (items (a mask) c) (items (b mask) d) (pre-same rules side mask (a mask) (b mask) (λ _. c) (λ _. d) (start mask) (λ o. claimed)))
      (λ s t same. (Has-alike s t tuple same, refl, refl)))

  move-alike : (side : Side) (mask : ℕ) (tuple : List ℤ) (c d : Level) → SameLevels c d → Alike Same (check_move rules side mask tuple c) (check_move rules side mask tuple d)
  move-alike side mask tuple c d claimed =
      holds_by-alike (rule_at 0 mask rule.First) (has_first_move rules side mask tuple c) (has_first_move rules side mask tuple d) (starts-alike side mask tuple c d claimed)

module _ (p : Position) (w : Side) (n : ℕ) (xs ys : List ClaimedSet) (same : (ply mask : ℕ) → AreSameSets (claimed_in xs ply mask) (claimed_in ys ply mask)) where
  abbrev c : Claim
  c = record { position = p; winner = w; moves = n; sets = xs }

  abbrev d : Claim
  d = record { position = p; winner = w; moves = n; sets = ys }

  abbrev rules : Rules
  rules = rules_of p

  levels-same : (ply : ℕ) → SameLevels (claimed_level c ply) (claimed_level d ply)
  levels-same ply mask = SameSets-claimed (claimed_in xs ply mask) (claimed_in ys ply mask) (same ply mask)

  set-alike : (ply mask : ℕ) → Alike Same (check_set c ply mask) (check_set d ply mask)
  set-alike ply mask =
      let members = levels-same ply mask in
      let at = λ (x : Claim). claimed_level x ply mask in
      let twins = λ (x : Claim). are_on_distinct_squares p ply mask (at x) in
      let bears = λ (x : Claim). are_safe rules (other w) ply mask (at x) in
      let sign = λ (x : Claim). check_sign ply mask (claimed_at x ply mask) in
      let apart = λ (x : Claim). holds_by (rule_at ply mask rule.Same) (twins x) in
      let guard = λ (x : Claim). holds_by (rule_at ply mask rule.Guard) (bears x) in
      and_then-alike (sign c) (sign d) (and_then (apart c) (guard c)) (and_then (apart d) (guard d))
      (sign-alike ply mask (claimed_at c ply mask) (claimed_at d ply mask) (same ply mask))
      (and_then-alike (apart c) (apart d) (guard c) (guard d)
      (holds_by-alike (rule_at ply mask rule.Same) (twins c) (twins d) (apart-alike p ply mask (at c) (at d) members))
      (holds_by-alike (rule_at ply mask rule.Guard) (bears c) (bears d) (safe-alike rules (other w) ply mask (at c) (at d) members)))

  sets-alike : (ply : ℕ) → Alike Same (check_sets c ply) (check_sets d ply)
  sets-alike ply = for_each-alike (check_set c ply) (check_set d ply) rules.masks (set-alike ply)

  moving-alike : (k : ℕ) → Alike Same (check_moving c k) (check_moving d k)
  moving-alike zero = refl
  moving-alike (suc k) = move-alike rules w (mask_of p) (tuple_of p) (claimed_level c 1) (claimed_level d 1) (levels-same 1)

  waiting-alike : Alike Same (check_waiting c) (check_waiting d)
  waiting-alike =
      let here = λ (x : Claim). claimed_level x 0 (mask_of p) in
      asked-alike (rule_at 0 (mask_of p) rule.First) (Has-alike (here c) (here d) (tuple_of p) (levels-same 0 (mask_of p)))

  first-alike : (plies : ℕ) → Alike Same (check_first c plies) (check_first d plies)
  first-alike zero = moving-alike n
  first-alike (suc plies) = waiting-alike

  -- the plans of two claims of the same sets
  pub check_plan-alike : Alike Same (check_plan c) (check_plan d)
  check_plan-alike =
      let plies = losers_plies w p.turn n in
      let sets = λ (x : Claim). for_each plies (check_sets x) in
      let first = λ (x : Claim). check_first x (plies_before_turn w p.turn) in
      let replies = λ (x : Claim). for_each plies (check_ply x) in
      and_then-alike (sets c) (sets d) (and_then (first c) (replies c)) (and_then (first d) (replies d))
      (for_each-alike (check_sets c) (check_sets d) plies sets-alike)
      (and_then-alike (first c) (first d) (replies c) (replies d) (first-alike (plies_before_turn w p.turn))
      (for_each-alike (check_ply c) (check_ply d) plies
      (λ ply. replies-alike rules (other w) ply (claimed_level c ply) (claimed_level d ply) (claimed_level c (ply + 2)) (claimed_level d (ply + 2)) (levels-same ply) (levels-same (ply + 2)))))
