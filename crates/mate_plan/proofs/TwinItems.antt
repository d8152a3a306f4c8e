-- The formulas of two men on one square over the set of a name are the items of the rule that men stand apart.
use Rattle.std.proofs.Common.{◌≡◌, ◌≤◌, ◌<◌, ◌^◌, ℕ, List, [], ◌∷◌, length, map, All, Option, Some, None, pos, refl, sym, ap, subst, arith}
use Rattle.std.specs.List.{slice_index_or}
use Rattle.std.proofs.lemmas.List.{length-map}
use Rattle.std.proofs.lemmas.List.Elements.{All-contains_itself, All-map, All-nil}
use Rattle.auto_core.specs.Automaton.{Automaton}
use Rattle.game_rules.specs.Game.{Position}
use Rattle.lin_formula.specs.Tree.{Tree}
use Rattle.lin_formula.specs.Tree as tree
use Rattle.lin_formula.specs.SetOf.{SetOf, Nothing, tables}
use Rattle.lin_formula.specs.declared.formula.SetId.{SetId}
use Rattle.track_word.specs.declared.tracks.Var.{Var}
use Rattle.track_word.specs.declared.atoms.Rel.TheVariants.{Eq}
use Rattle.rule_formula.specs.declared.opt.ManPair.{ManPair}
use Rattle.rule_formula.specs.Fits.{IsGameMask}
use Rattle.rule_formula.specs.Mean.{IsGame, mask_tracks}
use Rattle.rule_formula.specs.Pairs.{IsPairOf, pairs_of}
use Rattle.rule_formula.specs.Placed.{is_live}
use Rattle.rule_formula.specs.Seats.{own, vars_to}
use Rattle.rule_formula.specs.Trees.{difference, twins_tree}
use Rattle.rule_formula.proofs.PairTheorem.{first_in, pairs_are, pairs_few, pairs_mean, second_in}
use Rattle.rule_formula.proofs.SizeTheorem.{twins_modest, twins_names}
use Rattle.rule_formula.proofs.TwinsTheorem.{eight_vars}
use Rattle.set_plan.specs.Same.{IsLacking, SameItem, Thinned}
use Rattle.set_plan.specs.Sets.{IsItemOn, IsNameOn, item_of, set_at}
use Rattle.mate_plan.specs.Twins.{twin_item, twin_items, twin_trees, twins_of}
use Rattle.mate_plan.proofs.ItemLemmas.{lacks_one, nothing_empty, same_one, thinned-map, thinned-none}
use Rattle.mate_plan.proofs.ItemSteps.{step-And}
use Rattle.mate_plan.proofs.PartItems.{has_one, is_item, name_reached}

pub twins_few : (p : Position) (mask : ℕ) (source : Option SetId) → length p.men ≤ 8 → length (twin_trees p mask source) < 2 ^ 20
twins_few p mask None few = omega arith
twins_few p mask (Some source) few =
    let all = pairs_few p.men mask few in
    let count = length-map (pairs_of p.men mask) (λ w. twins_tree 8 mask w.first w.second source.0) in
    omega (arith, all, count)

-- lists that are made in two ways
map_twice : {X Y Z : Type 0} (f : Y → Z) (g : X → Y) (xs : List X) → map f (map g xs) ≡ map (λ x. f (g x)) xs
map_twice f g [] = refl
map_twice f g (x ∷ xs) = ap (λ ys. f (g x) ∷ ys) (map_twice f g xs)

abbrev tree_at : ℕ → ℕ → ManPair → Tree
tree_at mask source w = twins_tree 8 mask w.first w.second source

-- the pairs of the list are pairs of live men
pub pairs_all : (p : Position) (mask : ℕ) (xs : List ManPair) → xs ≡ pairs_of p.men mask → All (IsPairOf p.men mask) xs
pairs_all p mask xs e =
    let P : List ManPair → Type 0 = λ ys. All (IsPairOf p.men mask) ys in
    subst P (sym e) (λ k d within. (pairs_are p.men mask (slice_index_or (pairs_of p.men mask) k d)).0 (All-contains_itself (pairs_of p.men mask) k d within))

module _ (p : Position) (game : IsGame p) (sets : List Automaton) (mask : ℕ) (here : IsGameMask p mask) where
  twin_on : {w : ManPair} (source : SetId) → IsPairOf p.men mask w → IsNameOn (mask_tracks p mask) sets (Some source) → IsItemOn (mask_tracks p mask) sets (tree_at mask source.0 w)
  twin_on {w} source pair on =
      let few = game.few in
      let f = tree_at mask source.0 w in
      let vars : List Var = vars_to own (is_live mask) 8 in
      let across = difference (own w.first).x (own w.second).x Eq (pos 0) in
      let along = difference (own w.first).y (own w.second).y Eq (pos 0) in
      let first = first_in p few mask w here pair in
      let second = second_in p few mask w here pair in
      let eight = eight_vars mask (length p.men) few here.no_more in
      let names = twins_names source.0 f pair.order first second refl in
      is_item (mask_tracks p mask) sets (step-And (tree.And (tree.Among source.0 vars) across) along) (twins_modest source.0 f pair.order first second refl)
      (has_one vars sets source f (name_reached vars sets source (subst (λ vars. IsNameOn vars sets (Some source)) (sym eight) on)) names)
      ((pairs_mean p few mask w here pair).tracks source.0)

  pub twins_on : (source : Option SetId) → IsNameOn (mask_tracks p mask) sets source → All (IsItemOn (mask_tracks p mask) sets) (twin_trees p mask source)
  twins_on None on = All-nil (IsItemOn (mask_tracks p mask) sets)
  twins_on (Some source) on =
      All-map (IsItemOn (mask_tracks p mask) sets) (tree_at mask source.0) (pairs_of p.men mask)
      (λ k d within. twin_on source (pairs_all p mask (pairs_of p.men mask) refl k d within) on)

  twin_same : (w : ManPair) (s : SetOf) (source : SetId) → s ≡ tables sets source.0 → SameItem (item_of sets (tree_at mask source.0 w)) (twin_item s (tree_at mask 0 w))
  twin_same w s source e =
      let Is : SetOf → Type 0 = λ t. SameItem (item_of sets (tree_at mask source.0 w)) (twin_item t (tree_at mask 0 w)) in
      subst Is (sym e) (same_one sets (twins_tree 8 mask w.first w.second) (λ name k. refl) source.0)

  twin_lacks : (w : ManPair) (s : SetOf) → s ≡ Nothing → IsLacking (twin_item s (tree_at mask 0 w))
  twin_lacks w s e =
      let Is : SetOf → Type 0 = λ t. IsLacking (twin_item t (tree_at mask 0 w)) in
      subst Is (sym e) (lacks_one (tree_at mask 0 w) Nothing 0 refl nothing_empty)

  pub twins_thin : (source : Option SetId) (s : SetOf) → s ≡ set_at sets source → Thinned (map (item_of sets) (twin_trees p mask source)) (twin_items p mask s)
  twins_thin None s e =
      subst (Thinned []) (sym (map_twice (twin_item s) (tree_at mask 0) (pairs_of p.men mask)))
      (thinned-none sets (λ w. twin_item s (tree_at mask 0 w)) (pairs_of p.men mask) (λ w. twin_lacks w s e))
  twins_thin (Some source) s e =
      subst (Thinned (map (item_of sets) (twins_of p mask source.0))) (sym (map_twice (twin_item s) (tree_at mask 0) (pairs_of p.men mask)))
      (thinned-map sets (tree_at mask source.0) (λ w. twin_item s (tree_at mask 0 w)) (pairs_of p.men mask) (λ w. twin_same w s source e))
