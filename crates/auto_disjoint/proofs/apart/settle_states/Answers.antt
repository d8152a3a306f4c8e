use Rattle.std.proofs.Common.{sym, ◌∙◌}
use Rattle.auto_disjoint.proofs.MetNodes.{AreMet-add, IsMet-next, AreStatesSettled-rows, states_known, common_word}
use Rattle.auto_disjoint.proofs.apart.settle_states.Goals as goal

pub accept-requires-clause-left : goal.accept-requires-clause-left
accept-requires-clause-left c = (states_known c.args.meeting.now c.args.left c.args.right c.requires.reached).0

pub accept-requires-clause-right : goal.accept-requires-clause-right
accept-requires-clause-right c = (states_known c.args.meeting.now c.args.left c.args.right c.requires.reached).1

pub returns-then-accept-clause-common : goal.returns-then-accept-clause-common
returns-then-accept-clause-common c = λ e.
    common_word c.args.meeting.now c.args.left c.args.right c.requires.reached (sym c.accept.ensures ∙ c.if-accept.true)

pub rows-requires-clause-left : goal.rows-requires-clause-left
rows-requires-clause-left c = (states_known c.args.meeting.now c.args.left c.args.right c.requires.reached).0

pub rows-requires-clause-right : goal.rows-requires-clause-right
rows-requires-clause-right c = (states_known c.args.meeting.now c.args.left c.args.right c.requires.reached).1

pub returns-clause-settled : goal.returns-clause-settled
returns-clause-settled c = λ e.
    AreStatesSettled-rows c.args.meeting.now (c.args.left, c.args.right) c.rows.result c.rows.ensures.left c.rows.ensures.right
    (sym c.accept.ensures ∙ c.if-accept.false) c.in_ok-add.ensures.there

pub returns-clause-met : goal.returns-clause-met
returns-clause-met c =
    AreMet-add c.in_ok-add.ensures
    (IsMet-next c.args.meeting.now (c.args.left, c.args.right) c.rows.result c.rows.ensures.left c.rows.ensures.right c.requires.reached)
    c.requires.met
