-- Within a budget a set is described, or there is one reason why it is not.
use Rattle.std.proofs.Common.{◌≡◌, ◌≢◌, ℕ, zero, suc, ◌+◌, ◌≤◌, List, [], ◌∷◌, Option, Some, None, arith, inl, inr, refl, sym, ap, ◌∙◌, subst}
use Rattle.std.proofs.lemmas.Bool.{cases_lt, cases_eq}
use Rattle.auto_core.specs.Automaton.{Automaton}
use Rattle.lin_formula.specs.Tree.{Tree, steps}
use Rattle.lin_formula.specs.Holds.{Sets}
use Rattle.formula_auto.specs.Step.{FirstOver}
use Rattle.formula_auto.proofs.FirstOvers.{FirstOver-over, none_some}
use Rattle.auto_numbers.specs.Numbers.{Has}
use Rattle.period_sets.specs.declared.errors.PeriodError.{PeriodError}
use Rattle.period_sets.specs.declared.errors.PeriodError.TheVariants.{Over, NoPeriod, Far, Many, Memory}
use Rattle.period_sets.specs.declared.periodic.Periodic.{Periodic}
use Rattle.period_sets.specs.declared.periodic.PeriodStart.{PeriodStart}
use Rattle.period_sets.specs.Period.{Repeats, IsPeriod, IsLeastStart, IsPeriodic}
use Rattle.period_sets.specs.Question.{differs, questions, named, StaysWithin, IsFirstPast}
use Rattle.period_sets.specs.Description.{HasNoPeriod, IsTooFar, IsFound, HasTooMany, IsPeriodError}
use Rattle.period_sets.proofs.Ones.{one-period, one-start, fewer-runs}

-- one step is the first past the budget, or none is
one-first : (xs : List Tree) (e : Sets) (budget from : ℕ) (m n : Option ℕ) → FirstOver xs e budget from m → FirstOver xs e budget from n → m ≡ n
one-first [] e budget from m n one other = one ∙ sym other
one-first (x ∷ xs) e budget from m n one other = elim one [
  | inl (over, is) ↦ elim other [
    | inl (over', is') ↦ is ∙ sym is'
    | inr (within, rest) ↦ absurd (within over)
  ]
  | inr (within, rest) ↦ elim other [
    | inl (over, is) ↦ absurd (within over)
    | inr (within', rest') ↦ one-first xs e budget (from + 1) m n rest rest'
  ]
]

some-same : {m n : ℕ} → Some m ≡ Some n → m ≡ n
some-same e = cc

module _ (a : Automaton) (budget : ℕ) where
  -- a step is the first past the budget of more questions too
  past-more : (m n step : ℕ) → m ≤ n → FirstOver (questions m) (named a) budget 1 (Some step) → FirstOver (questions n) (named a) budget 1 (Some step)
  past-more m zero step le past = let e : m ≡ 0 = omega (arith, le) in subst (λ k. FirstOver (questions k) (named a) budget 1 (Some step)) e past
  past-more m (suc n) step le past = elim (cases_eq m (suc n)) [
    | inl e ↦ subst (λ k. FirstOver (questions k) (named a) budget 1 (Some step)) e past
    | inr apart ↦ FirstOver-over (questions n) (steps (differs (suc n))) (named a) budget 1 step (past-more m n step (omega (arith, le, apart)) past)
  ]

  past-within : (step n : ℕ) → (past : IsFirstPast (Has a) a budget step) → past.last ≤ n → StaysWithin a budget n → ⊥
  past-within step n past le within =
      none_some (sym (one-first (questions n) (named a) budget 1 None (Some step) within (past-more past.last n step le past.past)))

  -- what is tried goes no further than a period
  up-to-period : (step q : ℕ) → (past : IsFirstPast (Has a) a budget step) → IsPeriod (Has a) q → past.last ≤ q
  up-to-period step q past is = elim (cases_lt q past.last) [
    | inl less ↦ absurd (past.none q less is)
    | inr le ↦ omega (arith, le)
  ]

  one-step : (m n : ℕ) → IsFirstPast (Has a) a budget m → IsFirstPast (Has a) a budget n → m ≡ n
  one-step m n one other = elim (cases_lt one.last other.last) [
    | inl less ↦ at other.last (past-more one.last other.last m (omega (arith, less)) one.past) other.past
    | inr le ↦ at one.last one.past (past-more other.last one.last n (omega (arith, le)) other.past)
  ]
    where
      at : (last : ℕ) → FirstOver (questions last) (named a) budget 1 (Some m) → FirstOver (questions last) (named a) budget 1 (Some n) → m ≡ n
      at last p q = some-same (one-first (questions last) (named a) budget 1 (Some m) (Some n) p q)

  past-none : (step : ℕ) → IsFirstPast (Has a) a budget step → HasNoPeriod (Has a) a budget → ⊥
  past-none step past none = past-within step 60 past past.few none.within

  past-far : (step : ℕ) → IsFirstPast (Has a) a budget step → IsTooFar (Has a) a budget → ⊥
  past-far step past far = past-within step far.period past (up-to-period step far.period past far.is_least.is) far.within

  past-found : (step : ℕ) (start : PeriodStart) → IsFirstPast (Has a) a budget step → IsFound (Has a) a budget start → ⊥
  past-found step start past found = past-within step start.period past (up-to-period step start.period past found.period.is) found.within

  none-far : HasNoPeriod (Has a) a budget → IsTooFar (Has a) a budget → ⊥
  none-far none far = none.none far.period far.is_least.small far.is_least.is

  none-found : (start : PeriodStart) → HasNoPeriod (Has a) a budget → IsFound (Has a) a budget start → ⊥
  none-found start none found = none.none start.period found.period.small found.period.is

  far-found : (start : PeriodStart) → IsTooFar (Has a) a budget → IsFound (Has a) a budget start → ⊥
  far-found start far found =
      let same : start.period ≡ far.period = one-period (Has a) start.period far.period found.period far.is_least in
      let past = far.far start.from found.from.positive (subst (λ q. Repeats (Has a) q start.from) same found.from.repeats) in
      let near = found.near in
      absurd (omega (arith, past, near))

  found-of : (p : Periodic) → IsPeriodic (Has a) p → StaysWithin a budget p.period → IsFound (Has a) a budget (record { from = p.from; period = p.period })
  found-of p is within = record { period = is.period; from = is.from; near = is.near; within = within }

  few-many : (p : Periodic) → IsPeriodic (Has a) p → HasTooMany (Has a) a budget → ⊥
  few-many p is many =
      let start = many.start in
      let period : p.period ≡ start.period = one-period (Has a) p.period start.period is.period many.found.period in
      let from : start.from ≡ p.from =
      sym (one-start (Has a) start.period p.from start.from (subst (λ q. IsLeastStart (Has a) q p.from) period is.from) many.found.from) in
      let within = many.many.within in
      let fewer = fewer-runs (Has a) 1 many.many.stop p.from many.many.runs p.runs.items (omega (arith, within, from)) many.many.are is.runs.0 in
      let more = many.many.many in
      let few = is.runs.1 in
      absurd (omega (arith, fewer, more, few))

  pub no-error-beside : (p : Periodic) (why : PeriodError) → IsPeriodic (Has a) p → StaysWithin a budget p.period → IsPeriodError a budget why → why ≡ Memory
  no-error-beside p (Over step) is within error = absurd (past-found step (record { from = p.from; period = p.period }) error (found-of p is within))
  no-error-beside p NoPeriod is within error = absurd (none-found (record { from = p.from; period = p.period }) error (found-of p is within))
  no-error-beside p Far is within error = absurd (far-found (record { from = p.from; period = p.period }) error (found-of p is within))
  no-error-beside p Many is within error = absurd (few-many p is error)
  no-error-beside p Memory is within error = refl

  pub one-error : (why other : PeriodError) → why ≢ Memory → other ≢ Memory → IsPeriodError a budget why → IsPeriodError a budget other → why ≡ other
  one-error Memory other not not' one two = absurd (not refl)
  one-error (Over m) (Over n) not not' one two = ap (λ k. Over k) (one-step m n one two)
  one-error (Over m) NoPeriod not not' one two = absurd (past-none m one two)
  one-error (Over m) Far not not' one two = absurd (past-far m one two)
  one-error (Over m) Many not not' one two = absurd (past-found m two.start one two.found)
  one-error (Over m) Memory not not' one two = absurd (not' refl)
  one-error NoPeriod (Over n) not not' one two = absurd (past-none n two one)
  one-error NoPeriod NoPeriod not not' one two = refl
  one-error NoPeriod Far not not' one two = absurd (none-far one two)
  one-error NoPeriod Many not not' one two = absurd (none-found two.start one two.found)
  one-error NoPeriod Memory not not' one two = absurd (not' refl)
  one-error Far (Over n) not not' one two = absurd (past-far n two one)
  one-error Far NoPeriod not not' one two = absurd (none-far two one)
  one-error Far Far not not' one two = refl
  one-error Far Many not not' one two = absurd (far-found two.start one two.found)
  one-error Far Memory not not' one two = absurd (not' refl)
  one-error Many (Over n) not not' one two = absurd (past-found n one.start two one.found)
  one-error Many NoPeriod not not' one two = absurd (none-found one.start two one.found)
  one-error Many Far not not' one two = absurd (far-found one.start two one.found)
  one-error Many Many not not' one two = refl
  one-error Many Memory not not' one two = absurd (not' refl)
