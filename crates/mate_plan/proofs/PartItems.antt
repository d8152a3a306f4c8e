-- The formulas of the plan over the sets that names stand for are the items of its unions, but for those that lack a set.
use Rattle.std.proofs.Common.{◌≡◌, ◌⊎◌, ℕ, ◌==◌, List, [], ◌∷◌, length, map, Option, Some, None, slice_get, refl, sym, ap, ◌∙◌, subst, inl, inr, arith}
use Rattle.std.specs.Prelude.{Contains, filter}
use Rattle.std.specs.List.{All, flat_map, slice_index_or}
use Rattle.std.proofs.lemmas.Bool.{eqb-true}
use Rattle.std.proofs.lemmas.List.Elements.{All-append, All-cons, All-contains_itself, All-filter, All-head, All-map, All-nil, All-tail, All-weaker, filter_passes}
use Rattle.track_word.specs.declared.tracks.Var.{Var}
use Rattle.auto_core.specs.Automaton.{Automaton}
use Rattle.game_rules.specs.Game.{Position}
use Rattle.game_rules.specs.declared.men.Man.{Man}
use Rattle.game_rules.specs.declared.men.Side.{Side}
use Rattle.lin_formula.specs.Tree.{Tree, free_vars, memberships}
use Rattle.lin_formula.specs.SetOf.{SetOf, Nothing, tables}
use Rattle.lin_formula.specs.declared.formula.SetId.{SetId}
use Rattle.formula_auto.specs.Compiled.{HasSets, IsSetFor}
use Rattle.rule_formula.specs.declared.opt.Bearing.{Bearing}
use Rattle.rule_formula.specs.declared.opt.Opt.{Opt}
use Rattle.rule_formula.specs.Bearings.{bearings_of}
use Rattle.rule_formula.specs.Fits.{IsGameMask, masks_of, target_of}
use Rattle.rule_formula.specs.Mean.{IsGame, OptionsMean, BearingsMean, mask_tracks}
use Rattle.rule_formula.specs.Meaning.{IsBearer, IsOptionOf, IsOptionOfSide}
use Rattle.rule_formula.specs.Options.{options_of}
use Rattle.rule_formula.specs.Placed.{is_live, without}
use Rattle.rule_formula.specs.Size.{IsModest, IsOver, NamesBoth, NamesOnly}
use Rattle.rule_formula.specs.Trees.{bear_of, image_of, pre_of, ray_at, safe_of, tracks_of}
use Rattle.rule_formula.proofs.BearingTheorem.{bearings_are}
use Rattle.rule_formula.proofs.ListTheorem.{options_are}
use Rattle.rule_formula.proofs.MeanTheorem.{bearings_mean, options_mean}
use Rattle.rule_formula.proofs.SizeTheorem.{bear_modest, bear_names, image_modest, image_names, pre_modest, pre_names, safe_modest, safe_names}
use Rattle.rule_formula.proofs.TracksTheorem.{image_tracks}
use Rattle.set_plan.specs.Same.{IsLacking, SameItem, Thinned}
use Rattle.set_plan.specs.Sets.{IsItemOn, IsNameOn, IsReachedOn, item_of, set_at}
use Rattle.set_plan.specs.Unite.{two}
use Rattle.set_plan.proofs.Items.{reached_on}
use Rattle.mate_plan.specs.Formulas.{bear_trees, image_trees, images_from, name_of, pre_to, pre_trees}
use Rattle.mate_plan.specs.Levels.{AreNames, level_of}
use Rattle.mate_plan.specs.Plan.{Level, Rules, bear_item, bear_items, choices_into, image_item, image_items, pre_item, pre_items, safe_item}
use Rattle.mate_plan.specs.PlanOf.{rules_of}
use Rattle.mate_plan.proofs.ItemLemmas.{lacks_first, lacks_one, lacks_second, nothing_empty, same_one, same_two, thinned-each, thinned-flat_map, thinned-map, thinned-none}
use Rattle.mate_plan.proofs.ItemSteps.{HasStep, bear_step, image_step, pre_step, safe_step}
use Rattle.mate_plan.proofs.LevelLemmas.{name_is_on, set_of_name}
use Rattle.mate_plan.proofs.PlainFormulas.{bear-positives, bear-relabel, image-positives, image-relabel, pre-positives, pre-relabel, safe-relabel}

-- the name of a set that need not be reduced
abbrev pub IsReachedName : List Var → List Automaton → SetId → Type 0
IsReachedName tracks sets id = (a : Automaton) × (slice_get sets id.0 ≡ Some a) × IsReachedOn tracks a

pub name_reached : (tracks : List Var) (sets : List Automaton) (id : SetId) → IsNameOn tracks sets (Some id) → IsReachedName tracks sets id
name_reached tracks sets id (a, found, on) = (a, found, reached_on on)

-- the set of a name serves where it is named
set_for : {tracks : List Var} (sets : List Automaton) (id : SetId) {m : ℕ × List Var} → IsReachedName tracks sets id → IsOver id.0 tracks m → IsSetFor sets m.0 (length m.1)
set_for sets id (a, found, is) over = record {
  set = a;
  is_there = subst (λ (k : ℕ). slice_get sets k ≡ Some a) (sym over.set) found;
  reached = is.reached;
  integers = is.decides.integers;
  arity = ap length is.decides.tracks_are ∙ sym over.count;
}

pub has_one : (tracks : List Var) (sets : List Automaton) (id : SetId) (f : Tree) → IsReachedName tracks sets id → NamesOnly id.0 tracks f → HasSets sets f
has_one tracks sets id f on names =
    All-weaker (IsOver id.0 tracks) (λ m. IsSetFor sets m.0 (length m.1)) (λ m over. set_for sets id on over) (memberships f) names

has_two : (tracks others : List Var) (sets : List Automaton) (source target : SetId) (f : Tree) → IsReachedName tracks sets source
    → IsReachedName others sets target → NamesBoth source.0 tracks target.0 others f → HasSets sets f
has_two tracks others sets source target f on on_target names =
    All-weaker (λ m. IsOver source.0 tracks m ⊎ IsOver target.0 others m) (λ m. IsSetFor sets m.0 (length m.1))
    (λ m over. elim over [ inl a ↦ set_for sets source on a | inr b ↦ set_for sets target on_target b ]) (memberships f) names

pub is_item : (tracks : List Var) (sets : List Automaton) {f : Tree} → HasStep f → IsModest f → HasSets sets f → free_vars f ≡ tracks → IsItemOn tracks sets f
is_item tracks sets some modest has over =
    let few = modest.variables in
    let short = modest.steps_are_few in
    record {
      compilable = record { well_made = modest.well_made; few_vars = omega (arith, few); has_sets = has };
      some = some;
      few = omega (arith, short);
      over = over;
    }

-- the options and the bearings are what they should be
pub options_all : (stock : List Man) (mask : ℕ) (side : Side) (all : List Opt) → all ≡ options_of stock mask side → All (IsOptionOf stock mask) all
options_all stock mask side all is k d within =
    let Among : List Opt → Type 0 = λ l. Contains l (slice_index_or all k d) in
    ((options_are stock mask side (slice_index_or all k d)).0 (subst Among is (All-contains_itself all k d within))).0

pub bearings_all : (p : Position) (mask : ℕ) (side : Side) (all : List Bearing) → IsGame p → IsGameMask p mask → all ≡ bearings_of p.men mask side
    → All (λ b. IsBearer p.men mask b.man b.ray b.king) all
bearings_all p mask side all game here is k d within =
    let Among : List Bearing → Type 0 = λ l. Contains l (slice_index_or all k d) in
    ((bearings_are side (slice_index_or all k d) game.kings here).0 (subst Among is (All-contains_itself all k d within))).bearer

all-flat_map : {X A : Type 0} (P : A → Type 0) (g : X → List A) (xs : List X) → All (λ x. All P (g x)) xs → All P (flat_map g xs)
all-flat_map P g [] h = All-nil P
all-flat_map P g (x ∷ xs) h =
    All-append P (g x) (flat_map g xs) (All-head (λ y. All P (g y)) x xs h) (all-flat_map P g xs (All-tail (λ y. All P (g y)) x xs h))

module _ (p : Position) (game : IsGame p) (sets : List Automaton) where
  abbrev rules : Rules
  rules = rules_of p

  choice : (side : Side) (mask : ℕ) (o : Opt) → Contains (options_of p.men mask side) o → IsOptionOfSide p.men mask side o
  choice side mask o i = (options_are p.men mask side o).0 i

  -- images
  image_on : (side : Side) (mask to : ℕ) (o : Opt) (source : SetId) → Contains (options_of p.men mask side) o → target_of mask o ≡ to
      → IsNameOn (mask_tracks p mask) sets (Some source) → IsItemOn (mask_tracks p to) sets (image_of p.men mask o source.0)
  image_on side mask to o source i leads on =
      let f = image_of p.men mask o source.0 in
      let w = choice side mask o i in
      let means : OptionsMean p side mask o = options_mean game side mask o w in
      is_item (mask_tracks p to) sets (image_step source.0 w.0) (image_modest source.0 f game.few w.0 refl)
      (has_one (mask_tracks p mask) sets source f (name_reached (mask_tracks p mask) sets source on) (image_names source.0 f game.few w.0 refl))
      (means.image_tracks source.0 ∙ ap (mask_tracks p) leads)

  images_on_from : (side : Side) (to mask : ℕ) (name : Option SetId) → IsNameOn (mask_tracks p mask) sets name → All (IsItemOn (mask_tracks p to) sets) (images_from p side to mask name)
  images_on_from side to mask None on = All-nil (IsItemOn (mask_tracks p to) sets)
  images_on_from side to mask (Some source) on =
      let all = options_of p.men mask side in
      let leads = λ (o : Opt). target_of mask o == to in
      let among = All-filter leads (Contains all) all (All-contains_itself all) in
      let passes = filter_passes leads all in
      All-map (IsItemOn (mask_tracks p to) sets) (λ o. image_of p.men mask o source.0) (filter leads all)
      (λ k d within. image_on side mask to _ source (among k d within) (eqb-true _ to (passes k d within)) on)

  pub images_on : (side : Side) (to : ℕ) (level : List (Option SetId)) → AreNames p.men sets (masks_of p) level → All (IsItemOn (mask_tracks p to) sets) (image_trees p side to level)
  images_on side to level are =
      all-flat_map (IsItemOn (mask_tracks p to) sets) (λ mask. images_from p side to mask (name_of (masks_of p) level mask)) (masks_of p)
      (λ k d within. images_on_from side to _ (name_of (masks_of p) level _) (name_is_on p.men sets (masks_of p) level _ are))

  image_lacks : (mask : ℕ) (s : SetOf) (o : Opt) → s ≡ Nothing → IsLacking (image_item rules mask s o)
  image_lacks mask s o e =
      let Is : SetOf → Type 0 = λ t. IsLacking (image_item rules mask t o) in
      subst Is (sym e) (lacks_one (image_of p.men mask o 0) Nothing 0 (image-positives (length p.men) mask o.man o.taken 0 (ray_at p.men o.man o.ray)) nothing_empty)

  image_same : (mask : ℕ) (s : SetOf) (o : Opt) (source : SetId) → s ≡ tables sets source.0 → SameItem (item_of sets (image_of p.men mask o source.0)) (image_item rules mask s o)
  image_same mask s o source e =
      let Is : SetOf → Type 0 = λ t. SameItem (item_of sets (image_of p.men mask o source.0)) (image_item rules mask t o) in
      subst Is (sym e) (same_one sets (image_of p.men mask o) (λ name k. image-relabel name (length p.men) mask o.man o.taken k (ray_at p.men o.man o.ray)) source.0)

  images_thin_from : (side : Side) (to mask : ℕ) (name : Option SetId) (s : SetOf) → s ≡ set_at sets name
      → Thinned (map (item_of sets) (images_from p side to mask name)) (map (image_item rules mask s) (choices_into rules side mask to))
  images_thin_from side to mask None s e = thinned-none sets (image_item rules mask s) (choices_into rules side mask to) (λ o. image_lacks mask s o e)
  images_thin_from side to mask (Some source) s e =
      thinned-map sets (λ o. image_of p.men mask o source.0) (image_item rules mask s) (choices_into rules side mask to) (λ o. image_same mask s o source e)

  pub images_thin : (side : Side) (to : ℕ) (level : List (Option SetId)) → Thinned (map (item_of sets) (image_trees p side to level)) (image_items rules side to (level_of sets (masks_of p) level))
  images_thin side to level =
      thinned-flat_map sets (λ mask. images_from p side to mask (name_of (masks_of p) level mask))
      (λ mask. map (image_item rules mask (level_of sets (masks_of p) level mask)) (choices_into rules side mask to)) (masks_of p)
      (λ mask. images_thin_from side to mask (name_of (masks_of p) level mask) (level_of sets (masks_of p) level mask) (set_of_name sets (masks_of p) level mask))

  -- moves from one set into another
  target_tracks : (side : Side) (mask : ℕ) (o : Opt) → IsOptionOfSide p.men mask side o → mask_tracks p (target_of mask o) ≡ tracks_of p.men (without (is_live mask) o.taken)
  target_tracks side mask o w =
      let means : OptionsMean p side mask o = options_mean game side mask o w in
      sym (means.image_tracks 0) ∙ image_tracks p.men mask o 0 game.few w.0

  pre_on : (side : Side) (mask : ℕ) (o : Opt) (source target : SetId) → Contains (options_of p.men mask side) o
      → IsNameOn (mask_tracks p mask) sets (Some source) → IsNameOn (mask_tracks p (target_of mask o)) sets (Some target)
      → IsItemOn (mask_tracks p mask) sets (pre_of p.men mask o source.0 target.0)
  pre_on side mask o source target i on on_target =
      let f = pre_of p.men mask o source.0 target.0 in
      let w = choice side mask o i in
      let means : OptionsMean p side mask o = options_mean game side mask o w in
      let others = tracks_of p.men (without (is_live mask) o.taken) in
      let On : List Var → Type 0 = λ tracks. IsNameOn tracks sets (Some target) in
      let reached = name_reached (mask_tracks p mask) sets source on in
      let reached_target = name_reached others sets target (subst On (target_tracks side mask o w) on_target) in
      is_item (mask_tracks p mask) sets (pre_step source.0 target.0 w.0) (pre_modest source.0 target.0 f game.few w.0 refl)
      (has_two (mask_tracks p mask) others sets source target f reached reached_target (pre_names source.0 target.0 f game.few w.0 refl))
      (means.pre_tracks source.0 target.0)

  pre_on_to : (side : Side) (mask : ℕ) (o : Opt) (source : SetId) (target : Option SetId) → Contains (options_of p.men mask side) o
      → IsNameOn (mask_tracks p mask) sets (Some source) → IsNameOn (mask_tracks p (target_of mask o)) sets target
      → All (IsItemOn (mask_tracks p mask) sets) (pre_to p (record { mask = mask; set = source }) o target)
  pre_on_to side mask o source None i on on_target = All-nil (IsItemOn (mask_tracks p mask) sets)
  pre_on_to side mask o source (Some target) i on on_target =
      let Is = IsItemOn (mask_tracks p mask) sets in
      All-cons Is (pre_of p.men mask o source.0 target.0) [] (pre_on side mask o source target i on on_target) (All-nil Is)

  pub pres_on : (side : Side) (mask : ℕ) (source : Option SetId) (targets : List (Option SetId)) → IsNameOn (mask_tracks p mask) sets source
      → AreNames p.men sets (masks_of p) targets → All (IsItemOn (mask_tracks p mask) sets) (pre_trees p side mask source targets)
  pres_on side mask None targets on are = All-nil (IsItemOn (mask_tracks p mask) sets)
  pres_on side mask (Some source) targets on are =
      let all = options_of p.men mask side in
      all-flat_map (IsItemOn (mask_tracks p mask) sets) (λ o. pre_to p (record { mask = mask; set = source }) o (name_of (masks_of p) targets (target_of mask o))) all
      (λ k d within. pre_on_to side mask _ source _ (All-contains_itself all k d within) on (name_is_on p.men sets (masks_of p) targets _ are))

  pre_same : (mask : ℕ) (s : SetOf) (targets : Level) (o : Opt) (source target : SetId) → s ≡ tables sets source.0
      → targets (target_of mask o) ≡ tables sets target.0
      → SameItem (item_of sets (pre_of p.men mask o source.0 target.0)) (pre_item rules mask s targets o)
  pre_same mask s targets o source target e f =
      let Is : SetOf → SetOf → Type 0 = λ t u. SameItem (item_of sets (pre_of p.men mask o source.0 target.0)) (record { formula = pre_of p.men mask o 0 1; sets = two t u }) in
      let From : SetOf → Type 0 = λ t. Is t (targets (target_of mask o)) in
      subst From (sym e) (subst (Is (tables sets source.0)) (sym f)
      (same_two sets (pre_of p.men mask o) (λ name k l. pre-relabel name (length p.men) mask o.man o.taken k l (ray_at p.men o.man o.ray)) source.0 target.0))

  first_lacks : (mask : ℕ) (s : SetOf) (targets : Level) (o : Opt) → s ≡ Nothing → IsLacking (pre_item rules mask s targets o)
  first_lacks mask s targets o e =
      let Is : SetOf → Type 0 = λ t. IsLacking (pre_item rules mask t targets o) in
      subst Is (sym e) (lacks_first (pre_of p.men mask o 0 1) Nothing (targets (target_of mask o)) (pre-positives (length p.men) mask o.man o.taken 0 1 (ray_at p.men o.man o.ray)) nothing_empty)

  second_lacks : (mask : ℕ) (s : SetOf) (targets : Level) (o : Opt) → targets (target_of mask o) ≡ Nothing → IsLacking (pre_item rules mask s targets o)
  second_lacks mask s targets o e =
      let Is : SetOf → Type 0 = λ t. IsLacking (record { formula = pre_of p.men mask o 0 1; sets = two s t }) in
      subst Is (sym e) (lacks_second (pre_of p.men mask o 0 1) s Nothing (pre-positives (length p.men) mask o.man o.taken 0 1 (ray_at p.men o.man o.ray)) nothing_empty)

  pre_thin_to : (mask : ℕ) (s : SetOf) (targets : Level) (o : Opt) (source : SetId) (target : Option SetId) → s ≡ tables sets source.0
      → targets (target_of mask o) ≡ set_at sets target
      → Thinned (map (item_of sets) (pre_to p (record { mask = mask; set = source }) o target)) (pre_item rules mask s targets o ∷ [])
  pre_thin_to mask s targets o source None e f = inl (second_lacks mask s targets o f, refl)
  pre_thin_to mask s targets o source (Some target) e f = inr (item_of sets (pre_of p.men mask o source.0 target.0), [], refl, pre_same mask s targets o source target e f, refl)

  pub pres_thin : (side : Side) (mask : ℕ) (source : Option SetId) (s : SetOf) (targets : List (Option SetId)) → s ≡ set_at sets source
      → Thinned (map (item_of sets) (pre_trees p side mask source targets)) (pre_items rules side mask s (level_of sets (masks_of p) targets))
  pres_thin side mask None s targets e =
      thinned-none sets (pre_item rules mask s (level_of sets (masks_of p) targets)) (options_of p.men mask side) (λ o. first_lacks mask s (level_of sets (masks_of p) targets) o e)
  pres_thin side mask (Some source) s targets e =
      let level = level_of sets (masks_of p) targets in
      thinned-each sets (λ o. pre_to p (record { mask = mask; set = source }) o (name_of (masks_of p) targets (target_of mask o))) (pre_item rules mask s level) (options_of p.men mask side)
      (λ o. pre_thin_to mask s level o source (name_of (masks_of p) targets (target_of mask o)) e (set_of_name sets (masks_of p) targets (target_of mask o)))

  -- bearings
  pub bearer : (side : Side) {mask : ℕ} (b : Bearing) → IsGameMask p mask → Contains (bearings_of p.men mask side) b → IsBearer p.men mask b.man b.ray b.king
  bearer side b is i = ((bearings_are side b game.kings is).0 i).bearer

  bear_on : (mask : ℕ) (b : Bearing) (source : SetId) → IsBearer p.men mask b.man b.ray b.king → IsNameOn (mask_tracks p mask) sets (Some source)
      → IsItemOn (mask_tracks p mask) sets (bear_of p.men mask b.man b.ray b.king source.0)
  bear_on mask b source w on =
      let f = bear_of p.men mask b.man b.ray b.king source.0 in
      let means : BearingsMean p mask b = bearings_mean p b w in
      is_item (mask_tracks p mask) sets (bear_step source.0 w) (bear_modest source.0 f game.few w refl)
      (has_one (mask_tracks p mask) sets source f (name_reached (mask_tracks p mask) sets source on) (bear_names source.0 f game.few w refl)) (means.bear_tracks source.0)

  pub safe_on : {mask : ℕ} (b : Bearing) (source : SetId) → IsBearer p.men mask b.man b.ray b.king → IsReachedName (mask_tracks p mask) sets source
      → IsItemOn (mask_tracks p mask) sets (safe_of p.men mask b.man b.ray b.king source.0)
  safe_on {mask} b source w on =
      let f = safe_of p.men mask b.man b.ray b.king source.0 in
      let means : BearingsMean p mask b = bearings_mean p b w in
      is_item (mask_tracks p mask) sets (safe_step p.men mask b.man b.ray b.king source.0) (safe_modest source.0 f game.few w refl)
      (has_one (mask_tracks p mask) sets source f on (safe_names source.0 f game.few w refl)) (means.safe_tracks source.0)

  pub bears_on : (side : Side) {mask : ℕ} (source : Option SetId) → IsGameMask p mask → IsNameOn (mask_tracks p mask) sets source
      → All (IsItemOn (mask_tracks p mask) sets) (bear_trees p side mask source)
  bears_on side {mask} None is on = All-nil (IsItemOn (mask_tracks p mask) sets)
  bears_on side {mask} (Some source) is on =
      let all = bearings_of p.men mask side in
      All-map (IsItemOn (mask_tracks p mask) sets) (λ b. bear_of p.men mask b.man b.ray b.king source.0) all
      (λ k d within. bear_on mask _ source (bearer side _ is (All-contains_itself all k d within)) on)

  bear_lacks : (mask : ℕ) (s : SetOf) (b : Bearing) → s ≡ Nothing → IsLacking (bear_item rules mask s b)
  bear_lacks mask s b e =
      let Is : SetOf → Type 0 = λ t. IsLacking (bear_item rules mask t b) in
      subst Is (sym e) (lacks_one (bear_of p.men mask b.man b.ray b.king 0) Nothing 0 (bear-positives (length p.men) mask b.man b.king 0 (ray_at p.men b.man b.ray)) nothing_empty)

  bear_same : (mask : ℕ) (s : SetOf) (b : Bearing) (source : SetId)
      → s ≡ tables sets source.0
      → SameItem (item_of sets (bear_of p.men mask b.man b.ray b.king source.0)) (bear_item rules mask s b)
  bear_same mask s b source e =
      let Is : SetOf → Type 0 = λ t. SameItem (item_of sets (bear_of p.men mask b.man b.ray b.king source.0)) (bear_item rules mask t b) in
      subst Is (sym e) (same_one sets (bear_of p.men mask b.man b.ray b.king) (λ name k. bear-relabel name (length p.men) mask b.man b.king k (ray_at p.men b.man b.ray)) source.0)

  pub bears_thin : (side : Side) (mask : ℕ) (source : Option SetId) (s : SetOf)
      → s ≡ set_at sets source
      → Thinned (map (item_of sets) (bear_trees p side mask source)) (bear_items rules side mask s)
  bears_thin side mask None s e = thinned-none sets (bear_item rules mask s) (bearings_of p.men mask side) (λ b. bear_lacks mask s b e)
  bears_thin side mask (Some source) s e =
      thinned-map sets (λ b. bear_of p.men mask b.man b.ray b.king source.0) (bear_item rules mask s) (bearings_of p.men mask side) (λ b. bear_same mask s b source e)

  -- safety
  pub safe_same : (mask : ℕ) (s : SetOf) (b : Bearing) (source : SetId)
      → s ≡ tables sets source.0
      → SameItem (item_of sets (safe_of p.men mask b.man b.ray b.king source.0)) (safe_item rules mask s b)
  safe_same mask s b source e =
      let Is : SetOf → Type 0 = λ t. SameItem (item_of sets (safe_of p.men mask b.man b.ray b.king source.0)) (safe_item rules mask t b) in
      subst Is (sym e) (same_one sets (safe_of p.men mask b.man b.ray b.king) (λ name k. safe-relabel name (length p.men) mask b.man b.king k (ray_at p.men b.man b.ray)) source.0)
