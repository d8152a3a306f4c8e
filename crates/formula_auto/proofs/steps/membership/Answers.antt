use Rattle.std.proofs.Common.{◌≡◌, [], List, length}
use Rattle.std.proofs.lemmas.Result.{IfOk-weaker}
use Rattle.track_word.specs.declared.tracks.Var.{Var}
use Rattle.track_word.specs.Tracks.{with_vars}
use Rattle.auto_core.specs.Automaton.{Automaton, IsAutomaton}
use Rattle.auto_core.specs.Integers.{DecidesIntegers}
use Rattle.auto_core.specs.Words.{AcceptsRenamed}
use Rattle.formula_auto.specs.Nodes.{DecidesAmong}
use Rattle.formula_auto.proofs.Atoms.{Decides-Among}
use Rattle.formula_auto.proofs.Projections.{apart-ascending}
use Rattle.formula_auto.proofs.SameAutomata.{still_decides}
use Rattle.formula_auto.proofs.steps.membership.Goals as goal

-- a renamed set decides membership of the variables
renamed : {set : Automaton} (a : Automaton) (vars : List Var) → IsAutomaton set → DecidesIntegers set → length vars ≡ length set.tracks → a.tracks ≡ with_vars vars [] → AcceptsRenamed set vars a
    → DecidesAmong set vars a
renamed {set} a vars valid integers size tracks words = λ e number is. Decides-Among e number vars a is integers (apart-ascending set.tracks valid.ascending) size tracks words

pub returns-then-are_distinct-clause-decides : goal.returns-then-are_distinct-clause-decides
returns-then-are_distinct-clause-decides c =
    renamed c.in_ok-a.a c.args.vars.now c.tracks.ensures.valid c.requires.integers c.requires.size c.in_ok-a.ensures.tracks c.in_ok-a.ensures.words

pub returns-then-are_distinct-clause-reached : goal.returns-then-are_distinct-clause-reached
returns-then-are_distinct-clause-reached c = c.in_ok-a.ensures.reached c.requires.reached (c.are_distinct.ensures.0 c.if-are_distinct.true)

pub returns-clause-decides : goal.returns-clause-decides
returns-clause-decides c =
    let same = renamed c.in_ok-a.a c.args.vars.now c.tracks.ensures.valid c.requires.integers c.requires.size c.in_ok-a.ensures.tracks c.in_ok-a.ensures.words in
    IfOk-weaker c.reduced.result _ _ (λ made accepts e number is. still_decides accepts (same e number is)) c.reduced.ensures.same

pub returns-clause-reached : goal.returns-clause-reached
returns-clause-reached c = IfOk-weaker c.reduced.result _ _ (λ made reduced. reduced.reached) c.reduced.ensures.reduced
