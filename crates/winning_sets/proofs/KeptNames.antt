-- Of the sets of a level that is made of names it is known which tuples they have.
use Rattle.std.proofs.Common.{◌≡◌, ℕ, ◌==◌, if◌then◌else◌, Bool, true, false, List, [], ◌∷◌, Option, Some, None, inr, sym, ap, subst}
use Rattle.std.specs.Prelude.{map}
use Rattle.std.specs.List.{All}
use Rattle.std.proofs.lemmas.List.Elements.{All-map, All-weaker}
use Rattle.track_word.specs.Tracks.{IsAscending}
use Rattle.auto_core.specs.Automaton.{Automaton}
use Rattle.game_rules.specs.Game.{Position}
use Rattle.lin_formula.specs.SetOf.{Table, as_set}
use Rattle.lin_formula.specs.Tree.{Among, Or}
use Rattle.lin_formula.specs.declared.formula.SetId.{SetId}
use Rattle.lin_formula.proofs.FreeVars.{free_vars-ascend}
use Rattle.rule_formula.specs.Mean.{GameMeans, mask_tracks}
use Rattle.set_plan.specs.Sets.{IsNameOn, IsSetOn, set_at}
use Rattle.mate_plan.specs.Levels.{AreNames, level_from, level_of}
use Rattle.mate_plan.specs.Plan.{Level, level_with, no_sets}
use Rattle.winning_sets.specs.PlanMeans.{AreDecided, IsDecided}
use Rattle.set_plan.proofs.Tables.{table_decided}

module _ (p : Position) (game : GameMeans p) where
  ascending : (mask : ℕ) → IsAscending (mask_tracks p mask)
  ascending mask = subst IsAscending (game.tracks mask 0 1) (free_vars-ascend (Or (Among 0 (mask_tracks p mask)) (Among 1 (mask_tracks p mask))))

  set_decided : (mask : ℕ) {a : Automaton} → IsSetOn (mask_tracks p mask) a → IsDecided (Table a)
  set_decided mask {a} is = table_decided a (subst IsAscending (sym is.decides.tracks_are) (ascending mask)) is.decides.integers

  name_decided : (sets : List Automaton) (mask : ℕ) (id : Option SetId) → IsNameOn (mask_tracks p mask) sets id → IsDecided (set_at sets id)
  name_decided sets mask None is = λ tuple. inr (λ h. h)
  name_decided sets mask (Some id) (a, found, on) =
      let same : as_set (Some a) ≡ set_at sets (Some id) = ap as_set (sym found) in
      subst IsDecided same (set_decided mask on)

  level_decided : (sets : List Automaton) (masks : List ℕ) (ids : List (Option SetId)) (level : Level) → AreNames p.men sets masks ids
      → ((m : ℕ) → IsDecided (level m)) → (m : ℕ) → IsDecided (level_from sets level masks ids m)
  level_decided sets [] ids level names decided m = decided m
  level_decided sets (mask ∷ masks) [] level names decided m = absurd names
  level_decided sets (mask ∷ masks) (id ∷ ids) level (is, names) decided m =
      level_decided sets masks ids (level_with level mask (set_at sets id)) names (λ k. with_one (k == mask) k) m
    where
      with_one : (b : Bool) (k : ℕ) → IsDecided (if b then set_at sets id else level k)
      with_one true k = name_decided sets mask id is
      with_one false k = decided k

  -- the level of names of sets
  pub names_decided : (sets : List Automaton) (masks : List ℕ) (ids : List (Option SetId)) → AreNames p.men sets masks ids → (m : ℕ) → IsDecided (level_of sets masks ids m)
  names_decided sets masks ids names = level_decided sets masks ids no_sets names (λ m tuple. inr (λ h. h))

  -- the levels of lists of names of sets
  pub levels_decided : (sets : List Automaton) (masks : List ℕ) (names : List (List (Option SetId))) → All (AreNames p.men sets masks) names → AreDecided (map (level_of sets masks) names)
  levels_decided sets masks names all =
      let Known : Level → Type 0 = λ level. (m : ℕ) → IsDecided (level m) in
      All-map Known (level_of sets masks) names (All-weaker (AreNames p.men sets masks) (λ ids. Known (level_of sets masks ids)) (λ ids is. names_decided sets masks ids is) names all)
