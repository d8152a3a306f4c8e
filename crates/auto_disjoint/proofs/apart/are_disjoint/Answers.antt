use Rattle.std.proofs.Common.{subst}
use Rattle.auto_core.specs.Automaton.{Automaton}
use Rattle.auto_disjoint.specs.Apart.{AreApart}
use Rattle.auto_disjoint.proofs.apart.are_disjoint.Goals as goal

pub returns-clause-apart : goal.returns-clause-apart
returns-clause-apart c = λ e.
    subst (λ (a : Automaton). AreApart a c.args.b.now) c.in_ok-meeting.ensures.left
    (subst (λ (b : Automaton). AreApart c.in_ok-meeting.meeting.left.now b) c.in_ok-meeting.ensures.right (c.in_ok-apart.ensures.apart e))
