-- Encodings of caches in the logic.
use Rattle.std.specs.Prelude.{ℕ, List, refl}
use Rattle.std.specs.Coded.{Coded, code_by, coded×, coded_ℕ, coded_list}
use Rattle.auto_core.specs.Automaton.{Automaton}
use Rattle.auto_core.specs.contracts.auto.Auto as auto
use Rattle.lin_formula.specs.declared.formula.Formula.{Formula}
use Rattle.lin_formula.specs.contracts.formula.Formula as formula
use Rattle.formula_auto.specs.MemoState.{MemoState}
use Rattle.formula_auto.specs.MeetState.{MeetState}

abbrev pub coded_state : Coded MemoState
coded_state =
    code_by (ℕ × (List (Formula × Automaton) × ℕ))
    (coded× coded_ℕ (coded× (coded_list (coded× formula.the_row.coded auto.the_row.coded)) coded_ℕ))
    (λ m. (m.budget, (m.entries, m.found))) (λ p. record { budget = p.0; entries = p.1.0; found = p.1.1 }) (λ _. refl)

abbrev pub coded_meets : Coded MeetState
coded_meets =
    code_by (List Automaton × (ℕ × List (Formula × Automaton)))
    (coded× (coded_list auto.the_row.coded)
    (coded× coded_ℕ (coded_list (coded× formula.the_row.coded auto.the_row.coded))))
    (λ l. (l.sets, (l.budget, l.pairs))) (λ p. record { sets = p.0; budget = p.1.0; pairs = p.1.1 }) (λ _. refl)
