-- Laws of the options and of attacks along rays.
use Rattle.std.specs.Prelude.{◌↔◌, ℕ, Contains, ◌≡◌, ◌≤◌, List, length}
use Rattle.game_rules.specs.declared.men.Square.{Square}
use Rattle.game_rules.specs.Game.{IsMaskOf, Position, Sound, Step}
use Rattle.rule_formula.specs.declared.opt.Opt.{Opt}
use Rattle.rule_formula.specs.Options.{options_of}
use Rattle.rule_formula.specs.Meaning.{IsBearer, IsOptionOf, TakesOption}
use Rattle.rule_formula.specs.Placed.{is_live, without}
use Rattle.rule_formula.specs.Trees.{bear_of, image_of, pre_of, safe_of, tracks_of}
use Rattle.lin_formula.specs.Tree.{free_vars}
use Rattle.game_rules.specs.declared.men.Man.{Man}

-- some step leads from p to q
abbrev pub StepsTo : Position → Position → Type 0
StepsTo p q = (i : ℕ) × (z : Square) × Step p i z q

-- an option of the side to move leads from p to q
abbrev pub SomeOptionLeads : ℕ → Position → Position → Type 0
SomeOptionLeads mask p q = (o : Opt) × Contains (options_of p.men mask p.turn) o × TakesOption o p q

-- in a sound position the steps are those of the options
abbrev pub StepsAreByOptions : Type 0
StepsAreByOptions = (p q : Position) (mask : ℕ) → Sound p → IsMaskOf p mask → StepsTo p q ↔ SomeOptionLeads mask p q

-- the free variables of an image are those of the men that are live after the step
abbrev pub ImageIsOverTracks : Type 0
ImageIsOverTracks =
    (stock : List Man) (mask : ℕ) (o : Opt) (s : ℕ) → length stock ≤ 8 → IsOptionOf stock mask o →
    free_vars (image_of stock mask o s) ≡ tracks_of stock (without (is_live mask) o.taken)

-- those of the other formulas are those of the live men
abbrev pub PreIsOverTracks : Type 0
PreIsOverTracks =
    (stock : List Man) (mask : ℕ) (o : Opt) (s q : ℕ) → length stock ≤ 8 → IsOptionOf stock mask o →
    free_vars (pre_of stock mask o s q) ≡ tracks_of stock (is_live mask)

abbrev pub BearIsOverTracks : Type 0
BearIsOverTracks =
    (stock : List Man) (mask k n g s : ℕ) → IsBearer stock mask k n g
    → free_vars (bear_of stock mask k n g s) ≡ tracks_of stock (is_live mask)

abbrev pub SafeIsOverTracks : Type 0
SafeIsOverTracks =
    (stock : List Man) (mask k n g s : ℕ) → IsBearer stock mask k n g
    → free_vars (safe_of stock mask k n g s) ≡ tracks_of stock (is_live mask)
