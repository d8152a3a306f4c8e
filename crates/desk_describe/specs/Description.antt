-- The description of a set of distances.
use Rattle.std.specs.Prelude.{◌≡◌, ℕ, ◌==◌, List, [], ◌∷◌, ◌++◌, codes}
use Rattle.std.specs.Fmt.{decimal, signed_decimal}
use Rattle.std.specs.Int.{bit_at}
use Rattle.std.specs.List.{filter, join_by, range_with_len}
use Rattle.auto_core.specs.Automaton.{Automaton}
use Rattle.auto_numbers.specs.Numbers.{Has}
use Rattle.game_rules.specs.declared.men.Ray.{Ray}
use Rattle.period_sets.specs.Description.{HasNoPeriod, HasTooMany, IsTooFar}
use Rattle.period_sets.specs.Period.{IsPeriodic}
use Rattle.period_sets.specs.Question.{StaysWithin}
use Rattle.period_sets.specs.declared.periodic.Periodic.{Periodic}
use Rattle.period_sets.specs.declared.periodic.Run.{Run}
use Rattle.desk_describe.specs.declared.description.Description.{Description}
use Rattle.desk_describe.specs.declared.description.Description.TheVariants as tells

-- the numbers of the automaton's set from 1 on: their runs, from where on they are periodic, and the period; or why
-- this is not determined. No step by which periods are tried exceeds the budget
abbrev pub IsDescription : Automaton → ℕ → Description → Type 0
IsDescription a budget (tells.Repeats p) = IsPeriodic (Has a) p × StaysWithin a budget p.period
IsDescription a budget tells.NoPeriod = HasNoPeriod (Has a) a budget
IsDescription a budget tells.Far = IsTooFar (Has a) a budget
IsDescription a budget tells.Many = HasTooMany (Has a) a budget

-- texts separated by commas, or that there is none
abbrev pub listed : {A : Type 0} → (A → List ℕ) → List A → List ℕ
listed text [] = codes "none"
listed text (x ∷ xs) = join_by text (codes ",") (x ∷ xs)

-- a run
abbrev pub run_text : Run → List ℕ
run_text run = decimal run.low ++ codes "-" ++ decimal run.high

-- the rests (residues) whose bits are set
abbrev pub rests_in : (rests period : ℕ) → List ℕ
rests_in rests period = filter (λ rest. bit_at rests rest == 1) (range_with_len 0 period)

-- the runs, from where on the set is periodic, its period, and the rests (residues) in it
abbrev pub periodic_text : Periodic → List ℕ
periodic_text p =
    codes "runs " ++ listed run_text p.runs.items ++ codes " from " ++ decimal p.from ++ codes " every "
    ++ decimal p.period ++ codes " rests " ++ listed decimal (rests_in p.rests p.period)

-- the text of a description
abbrev pub description_text : Description → List ℕ
description_text (tells.Repeats p) = periodic_text p
description_text tells.NoPeriod = codes "no period up to 60"
description_text tells.Far = codes "far"
description_text tells.Many = codes "many"

-- the line of a man's ray
abbrev pub ray_line : (man : ℕ) → Ray → Description → List ℕ
ray_line man step description =
    codes "man " ++ decimal man ++ codes " step " ++ signed_decimal step.dx ++ codes " " ++ signed_decimal step.dy
    ++ codes " " ++ description_text description ++ codes "\n"
