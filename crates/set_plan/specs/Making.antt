-- Sets of formulas over a table, and differences.
use Rattle.std.specs.Prelude.{ℕ, List, map, Option, Result}
use Rattle.track_word.specs.declared.tracks.Var.{Var}
use Rattle.auto_core.specs.Automaton.{Automaton}
use Rattle.lin_formula.specs.SetOf.{SetOf, Nothing, as_set}
use Rattle.lin_formula.specs.TreeOf.{tree_of}
use Rattle.lin_formula.specs.declared.formula.Formula.{Formula}
use Rattle.formula_auto.specs.MemoState.{MemoState}
use Rattle.set_plan.specs.Outcome.{Answers}
use Rattle.set_plan.specs.Program.{Item, Program}
use Rattle.set_plan.specs.Sets.{item_of, left_of, made_of}
use Rattle.set_plan.specs.Unite as unite
use Rattle.set_plan.specs.declared.left.Left.{Left}
use Rattle.set_plan.specs.declared.made.Made.{Made}
use Rattle.set_plan.specs.declared.parts.Uniting.{Uniting}
use Rattle.set_plan.specs.declared.stop.PlanError.{PlanError}

-- the item of a formula whose symbols denote the automata of a table
abbrev pub item_over : List Automaton → Formula → Item
item_over sets f = item_of sets (tree_of f)

-- the items of some formulas, in their order
abbrev pub items_over : List Automaton → List Formula → List Item
items_over sets formulas = map (item_of sets) (map tree_of formulas)

-- within the cache's budget the program's result is a set and the number of the next step
abbrev pub AnswersMade : {P : Type 0} → MemoState → Program P unite.Made → Result Made (PlanError P) → Type 0
AnswersMade memo program result = Answers program memo.budget made_of result

-- within the budget the result is the difference of the two sets
abbrev pub AnswersRemainder : {P : Type 0} → List Var → P → SetOf → SetOf → ℕ → Result Left (PlanError P) → Type 0
AnswersRemainder tracks part s t budget result = Answers (unite.difference_set tracks part s t) budget (left_of s) result

-- the union so far joined with the next set, in the part of the union
abbrev pub join : {P : Type 0} → Uniting P → Option Automaton → Made → Program P unite.Made
join it so_far next = unite.join it.tracks.now it.part (as_set so_far) (made_of next)

-- the union so far with the set of one more formula
abbrev pub with_item : {P : Type 0} → Uniting P → List Automaton → Formula → Made → Program P unite.Made
with_item it sets f so_far = unite.with_item it.tracks.now it.part (item_over sets f) (made_of so_far)

-- the union of the sets of the formulas, by steps from this one on
abbrev pub union_of : {P : Type 0} → Uniting P → List Automaton → ℕ → List Formula → Program P unite.Made
union_of it sets at formulas = unite.unite it.tracks.now it.part (Nothing, at) (items_over sets formulas)
