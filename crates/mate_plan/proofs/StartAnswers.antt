-- The level of the position alone is that of the plan.
use Rattle.std.proofs.Common.{◌≡◌, ◌≢◌, ℕ, ◌≤◌, ◌==◌, if◌then◌else◌, List, [], length, map, Option, None, Some, Result, sym, ap, ◌∙◌, subst, pos, arith}
use Rattle.std.specs.Prelude.{Contains}
use Rattle.std.specs.List.{All}
use Rattle.std.proofs.lemmas.List.Elements.{All-nil}
use Rattle.track_word.specs.declared.tracks.Var.{Var}
use Rattle.auto_core.specs.Automaton.{Automaton}
use Rattle.game_rules.specs.Game.{Position, Sound}
use Rattle.game_rules.specs.declared.men.Place.TheVariants.{Gone}
use Rattle.game_laws.proofs.KingLemmas.{a_king_lives}
use Rattle.lin_formula.specs.Tree.{Tree, Value, memberships}
use Rattle.lin_formula.specs.SetOf.{Nothing}
use Rattle.lin_formula.specs.declared.formula.SetId.{SetId}
use Rattle.formula_auto.specs.Compiled.{IsCompilable, IsSetFor}
use Rattle.rule_formula.specs.Fits.{masks_of}
use Rattle.mask_sets.specs.Stock.{mask_of}
use Rattle.rule_formula.specs.Mean.{mask_tracks}
use Rattle.rule_formula.specs.Meaning.{HasLiveMan}
use Rattle.rule_formula.specs.Seats.{var}
use Rattle.rule_formula.specs.Size.{IsModest}
use Rattle.rule_formula.specs.Trees.{point_of}
use Rattle.rule_formula.proofs.GameTheorem.{sound_fits}
use Rattle.rule_formula.proofs.MasksTheorem.{masks_are}
use Rattle.rule_formula.proofs.MeanTheorem.{game_means}
use Rattle.set_plan.specs.Outcome.{Answers, Ends, IsPlanError}
use Rattle.set_plan.specs.Program.{Give, Item}
use Rattle.set_plan.specs.Sets.{IsNameOn, item_of, set_at}
use Rattle.set_plan.specs.Unite.{Made, make}
use Rattle.set_plan.specs.declared.stop.PlanError.{PlanError}
use Rattle.set_plan.proofs.Composition.{Ends-bind, Ends-give, Error-bind}
use Rattle.mate_plan.specs.Levels.{AreNames, level_of}
use Rattle.mate_plan.specs.Plan.{Level, Program, level_with, name, no_sets, point_level}
use Rattle.mate_plan.specs.PlanOf.{formula_or, rules_of}
use Rattle.mate_plan.specs.declared.names.Part.TheVariants as kind
use Rattle.mate_plan.specs.declared.names.PartName.{PartName}
use Rattle.mate_plan.proofs.PartAnswers.{Answers-make}
use Rattle.mate_plan.proofs.Starts.{level_at_one, name_if, names_at_one, no_level_of, point_same}
use Rattle.mate_plan.proofs.UnionAnswers.{game_of}

-- some man of a sound position is live, and its live men are one of its masks
pub some_live : {p : Position} → Sound p → HasLiveMan p
some_live sound = a_king_lives sound.kings

mask_there : {p : Position} → Sound p → length p.men ≤ 8 → Contains (masks_of p) (mask_of p)
mask_there {p} sound few =
    let means = game_means (game_of sound few) in
    (masks_are p (mask_of p)).1 (means.mask_is p.turn p (sound_fits sound))

-- a formula that names no set compiles over any table
pub plain_compilable : {f : Tree} (sets : List Automaton) → IsModest f → memberships f ≡ [] → IsCompilable f sets
plain_compilable sets modest none =
    let few = modest.variables in
    let Has : List (ℕ × List Var) → Type 0 = λ ms. All (λ m. IsSetFor sets m.0 (length m.1)) ms in
    record {
      well_made = modest.well_made;
      few_vars = omega (arith, few);
      has_sets = subst Has (sym none) (All-nil (λ m. IsSetFor sets m.0 (length m.1)));
    }

abbrev point_item : Position → Item
point_item p = record { formula = (rules_of p).point; sets = λ _. Nothing }

abbrev point_part : Position → ℕ → Program Made
point_part p mask = make (name 0 mask kind.Point) 1 (point_item p)

pub point_answers : (p : Position) (mask : ℕ) (sets : List Automaton) (f : Tree) (budget : ℕ) → point_of p.men ≡ Some f
    → {R : Type 0} (view : R → Made) (r : Result R (PlanError PartName)) → Answers (make (name 0 mask kind.Point) 1 (item_of sets f)) budget view r
    → Answers (point_part p mask) budget view r
point_answers p mask sets f budget is view r h =
    let At : Tree → Type 0 = λ t. Answers (make (name 0 mask kind.Point) 1 (record { formula = t; sets = λ _. Nothing })) budget view r in
    let formula : (rules_of p).point ≡ f = ap (formula_or (Value (var 0) (pos 0))) is in
    subst At (sym formula) (Answers-make (name 0 mask kind.Point) budget 1 (item_of sets f) (record { formula = f; sets = λ _. Nothing }) (point_same p.men sets f is) view r h)

module _ (p : Position) (mask : ℕ) (is : mask ≡ mask_of p) (budget : ℕ) where
  abbrev then_level : Made → Program Level
  then_level made = Give (level_with no_sets (mask_of p) made.0)

  pub point_error : (e : PlanError PartName) → IsPlanError (point_part p mask) budget e → IsPlanError (point_level (rules_of p) (mask_of p)) budget e
  point_error e h =
      let At : ℕ → Type 0 = λ m. IsPlanError (point_part p m) budget e in
      Error-bind (point_part p (mask_of p)) then_level budget e (subst At is h)

  pub point_ends : Sound p → length p.men ≤ 8 → (made : Made) (sets : List Automaton) (id : Option SetId) (names : List (Option SetId))
      → Ends (point_part p mask) budget made → set_at sets id ≡ made.0 → names ≡ map (λ m. if m == mask then id else None) (masks_of p)
      → Ends (point_level (rules_of p) (mask_of p)) budget (level_of sets (masks_of p) names)
  point_ends sound few made sets id names h kept are =
      let At : ℕ → Type 0 = λ m. Ends (point_part p m) budget made in
      let Here : ℕ → Type 0 = λ m. names ≡ map (name_if m id) (masks_of p) in
      let level : level_of sets (masks_of p) names ≡ level_with no_sets (mask_of p) made.0 =
      ap (level_of sets (masks_of p)) (subst Here is are) ∙ level_at_one sets (mask_of p) id (masks_of p) (mask_there sound few)
      ∙ ap (level_with no_sets (mask_of p)) kept in
      let To : Level → Type 0 = λ l. Ends (then_level made) budget l in
      Ends-bind (point_part p (mask_of p)) then_level budget made (level_of sets (masks_of p) names) (subst At is h)
      (subst To (sym level) (Ends-give budget (level_with no_sets (mask_of p) made.0)))

  pub point_names : (sets : List Automaton) (id : Option SetId) (names : List (Option SetId)) → IsNameOn (mask_tracks p (mask_of p)) sets id
      → names ≡ map (λ m. if m == mask then id else None) (masks_of p) → AreNames p.men sets (masks_of p) names
  point_names sets id names on are =
      let Here : ℕ → Type 0 = λ m. names ≡ map (name_if m id) (masks_of p) in
      let Are : List (Option SetId) → Type 0 = λ ns. AreNames p.men sets (masks_of p) ns in
      subst Are (sym (subst Here is are)) (names_at_one sets (mask_of p) id p.men (masks_of p) on)

-- with one name
module _ (p : Position) (mask : ℕ) (id : Option SetId) (names : List (Option SetId)) (are : names ≡ map (λ m. if m == mask then id else None) (masks_of p)) where
  pub one_level_of : Contains (masks_of p) mask → (sets : List Automaton) → level_of sets (masks_of p) names ≡ level_with no_sets mask (set_at sets id)
  one_level_of there sets = ap (level_of sets (masks_of p)) are ∙ level_at_one sets mask id (masks_of p) there

  pub one_names : (sets : List Automaton) → IsNameOn (mask_tracks p mask) sets id → AreNames p.men sets (masks_of p) names
  one_names sets on =
      let Are : List (Option SetId) → Type 0 = λ ns. AreNames p.men sets (masks_of p) ns in
      subst Are (sym are) (names_at_one sets mask id p.men (masks_of p) on)

-- without names
module _ (p : Position) (mask : ℕ) (names : List (Option SetId)) (are : names ≡ map (λ m. if m == mask then None else None) (masks_of p)) (sets : List Automaton) where
  pub none_level : level_of sets (masks_of p) names ≡ no_sets
  none_level = ap (level_of sets (masks_of p)) are ∙ no_level_of sets mask (masks_of p)

  pub none_names : AreNames p.men sets (masks_of p) names
  none_names =
      let Are : List (Option SetId) → Type 0 = λ ns. AreNames p.men sets (masks_of p) ns in
      subst Are (sym are) (names_at_one sets mask None p.men (masks_of p) tt)
