-- The parts of the question whether a first move leads into a level.
use Rattle.std.proofs.Common.{◌≡◌, ◌↔◌, ℕ, Bool, true, false, List, length, ℤ, refl, sym, ap, ◌∙◌}
use Rattle.std.specs.Prelude.{IsTrue}
use Rattle.std.proofs.lemmas.List.{length-map}
use Rattle.track_word.specs.Tracks.{Values}
use Rattle.game_rules.specs.Game.{Position, Sound}
use Rattle.game_rules.specs.declared.men.Side.{Side}
use Rattle.lin_formula.specs.SetOf.{Member, SetOf}
use Rattle.mask_sets.specs.Stock.{mask_of}
use Rattle.rule_formula.specs.Mean.{mask_tracks}
use Rattle.rule_formula.specs.Placed.{is_live, placed}
use Rattle.mask_sets.specs.Tuple.{tuple_of}
use Rattle.rule_formula.specs.Seats.{squares}
use Rattle.rule_formula.specs.Trees.{tracks_of}
use Rattle.rule_formula.proofs.FitLemmas.{placed_values, tuple_placed, values_of}
use Rattle.rule_formula.proofs.GameTheorem.{sound_fits}
use Rattle.rule_formula.proofs.LawTheorem.{squares_of}
use Rattle.rule_formula.proofs.StockLemmas.{stock_placed}
use Rattle.set_plan.specs.Outcome.{Ends, IsPlanError}
use Rattle.set_plan.specs.Program.{Ask, Give, Has, bind}
use Rattle.set_plan.specs.declared.stop.PlanError.{PlanError}
use Rattle.set_plan.proofs.Composition.{Ends-ask_no, Ends-ask_yes, Ends-bind, Ends-give, Error-bind, Error-later}
use Rattle.mate_plan.specs.Plan.{Level, Program, Rules, point_level, pre_items, union}
use Rattle.mate_plan.specs.Questions.{has_first_move}
use Rattle.mate_plan.specs.declared.names.Part.TheVariants as kind
use Rattle.mate_plan.specs.declared.names.PartName.{PartName}

-- the coordinates of a sound position are as many as its live men have variables
pub own_count : {p : Position} → Sound p → length (tuple_of p) ≡ length (mask_tracks p (mask_of p))
own_count {p} sound =
    let live : ℕ → Bool = is_live (mask_of p) in
    let v : Values = values_of (squares_of p) in
    let stock = (sound_fits sound).stock in
    let is : placed p.men live p.turn (squares v) ≡ p = placed_values p.men live p.turn (squares_of p) ∙ stock_placed stock in
    sym (ap (λ r. length (tuple_of r)) is) ∙ sym (ap length (tuple_placed p.men live p.turn v)) ∙ length-map (tracks_of p.men live) (λ x. v x.0)

module _ (rules : Rules) (side : Side) (mask budget : ℕ) (tuple : List ℤ) (into : Level) where
  abbrev first_part : Level → Program SetOf
  first_part start = union rules 0 mask kind.First (pre_items rules side mask (start mask) into)

  abbrev asked : SetOf → Program Bool
  asked first = Ask (Has first tuple) (Give true) (Give false)

  abbrev after_start : Level → Program Bool
  after_start start = bind (first_part start) asked

  pub start_error : (e : PlanError PartName) → IsPlanError (point_level rules mask) budget e → IsPlanError (has_first_move rules side mask tuple into) budget e
  start_error e h = Error-bind (point_level rules mask) after_start budget e h

  pub first_error : (start : Level) (e : PlanError PartName) → Ends (point_level rules mask) budget start
      → IsPlanError (union rules 0 mask kind.First (pre_items rules side mask (start mask) into)) budget e
      → IsPlanError (has_first_move rules side mask tuple into) budget e
  first_error start e h k = Error-later after_start budget start h e (Error-bind (first_part start) asked budget e k)

  asked_ends : (first : SetOf) (b : Bool) → IsTrue b ↔ Member first tuple → Ends (asked first) budget b
  asked_ends first true same = Ends-ask_yes (Has first tuple) (Give true) (Give false) budget (same.0 refl) (Ends-give budget true)
  asked_ends first false same = Ends-ask_no (Has first tuple) (Give true) (Give false) budget false (λ h. let t = same.1 h in cc) (Ends-give budget false)

  pub first_ends : (start : Level) (first : SetOf) (b : Bool) → Ends (point_level rules mask) budget start
      → Ends (union rules 0 mask kind.First (pre_items rules side mask (start mask) into)) budget first
      → IsTrue b ↔ Member first tuple
      → Ends (has_first_move rules side mask tuple into) budget b
  first_ends start first b h k same =
      Ends-bind (point_level rules mask) after_start budget start b h (Ends-bind (first_part start) asked budget first b k (asked_ends first b same))
