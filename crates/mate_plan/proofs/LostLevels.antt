-- The level of a loser's ply, where the table has grown by the rests.
use Rattle.std.proofs.Common.{ℕ, suc, ◌+◌, List, Option, Result, add-one, subst}
use Rattle.auto_core.specs.Automaton.{Automaton}
use Rattle.game_rules.specs.Game.{Position}
use Rattle.game_rules.specs.declared.men.Side.{Side}
use Rattle.lin_formula.specs.declared.formula.SetId.{SetId}
use Rattle.rule_formula.specs.Fits.{masks_of}
use Rattle.set_plan.specs.Outcome.{Answers, Ends, IsPlanError}
use Rattle.set_plan.specs.Sets.{Grows}
use Rattle.set_plan.specs.declared.stop.PlanError.{PlanError}
use Rattle.set_plan.proofs.Composition.{Answers-later, Error-bind}
use Rattle.mate_plan.specs.Levels.{AreNames, level_of}
use Rattle.mate_plan.specs.Plan.{Level, Program, for_masks, lost_level, lost_set_if, no_sets, rest_set}
use Rattle.mate_plan.specs.PlanOf.{rules_of}
use Rattle.mate_plan.specs.declared.names.PartName.{PartName}
use Rattle.mate_plan.proofs.LevelLemmas.{level-grows}

module _ (p : Position) (side : Side) (ply budget : ℕ) (old : List Automaton) (reach next_reach next_kept : List (Option SetId)) where
  abbrev masks : List ℕ
  masks = masks_of p

  abbrev rests_at : ℕ → Program Level
  rests_at n = for_masks masks (rest_set (rules_of p) n (level_of old masks next_reach) (level_of old masks next_kept)) no_sets

  abbrev lost_from : Level → Level → Level → Program Level
  lost_from a b rests = for_masks masks (lost_set_if (rules_of p) side ply a b rests) no_sets

  pub rests_error : (e : PlanError PartName) → IsPlanError (rests_at (ply + 1)) budget e
      → IsPlanError (lost_level (rules_of p) side ply (level_of old masks reach) (level_of old masks next_reach) (level_of old masks next_kept))
      budget e
  rests_error e h =
      let At : ℕ → Type 0 = λ n. IsPlanError (rests_at n) budget e in
      Error-bind (rests_at (suc ply)) (lost_from (level_of old masks reach) (level_of old masks next_reach)) budget e (subst At (add-one ply) h)

  pub lost_answers : {R : Type 0} (view : R → Level) (r : Result R (PlanError PartName)) (middle : List Automaton) (rests : List (Option SetId))
      → Grows old middle → AreNames p.men old masks reach → AreNames p.men old masks next_reach
      → Ends (rests_at (ply + 1)) budget (level_of middle masks rests)
      → Answers (lost_from (level_of middle masks reach) (level_of middle masks next_reach) (level_of middle masks rests)) budget view r
      → Answers (lost_level (rules_of p) side ply (level_of old masks reach) (level_of old masks next_reach) (level_of old masks next_kept)) budget
      view r
  lost_answers view r middle rests grows are are_next first h =
      let At : ℕ → Type 0 = λ n. Ends (rests_at n) budget (level_of middle masks rests) in
      let One : Level → Type 0 = λ a. Answers (lost_from a (level_of middle masks next_reach) (level_of middle masks rests)) budget view r in
      let Two : Level → Type 0 = λ b. Answers (lost_from (level_of old masks reach) b (level_of middle masks rests)) budget view r in
      Answers-later (rests_at (suc ply)) (lost_from (level_of old masks reach) (level_of old masks next_reach)) budget view (level_of middle masks rests) (subst At (add-one ply) first) r
      (subst Two (level-grows p.men old middle masks next_reach grows are_next) (subst One (level-grows p.men old middle masks reach grows are) h))
