use Rattle.std.proofs.Common.{◌≡◌, ◌+◌, ℕ, Option, length, arith, ap, sym, subst}
use Rattle.auto_core.specs.Automaton.{Automaton}
use Rattle.lin_formula.specs.SetOf.{Table, as_set}
use Rattle.lin_formula.specs.Tree.{Among, And, Not, steps}
use Rattle.lin_formula.specs.TreeOf.{tree_of}
use Rattle.line_plan.specs.Plan as plan
use Rattle.set_plan.specs.Outcome.{Ends}
use Rattle.line_engine.specs.Misses.{IsAsked}
use Rattle.line_engine.proofs.MissLemmas.{ends_missed, steps_missed}
use Rattle.line_engine.proofs.sets.leave_out.Goals as goal

pub returns-then-branch-clause-answers : goal.returns-then-branch-clause-answers
returns-then-branch-clause-answers c =
    let f = tree_of c.args.f in
    let budget = c.args.work.now.memo.budget in
    let at = c.args.work.now.at in
    let asked : IsAsked c.in-Some.a f =
    record { count = c.args.count; few = c.requires.few; filled = rw c.in-Some.is at c.requires.set; part = c.requires.part } in
    let ends = ends_missed c.in-Some.a f asked at budget (c.in_ok-misses.ensures.missed c.if-branch.true) in
    let count = steps_missed c.in-Some.a f asked in
    let now : c.misses.new.self.at ≡ at = ap (λ w. w.at) c.misses.ensures.same in
    let step : c.from.result ≡ c.step_count.result = c.from.ensures in
    let own = c.step_count.ensures in
    let steps_of : ℕ = length (steps (And (Among 0 (plan.distances c.args.count)) (Not f))) in
    let next : at + steps_of ≡ c.misses.new.self.at + (c.from.result + 1) = omega (arith, count, now, step, own) in
    subst (λ (n : ℕ). Ends (plan.narrow c.args.count (Not f) (as_set c.args.so_far, at)) budget (Table c.in-Some.a, n)) next
    (subst (λ (set : Option Automaton). Ends (plan.narrow c.args.count (Not f) (as_set set, at)) budget (Table c.in-Some.a, at + steps_of))
    (sym c.in-Some.is) ends)
