use Rattle.std.proofs.Common.{Ok, refl, subst, rules}
use Rattle.desk_describe.specs.Describe.{DescribeReports}
use Rattle.desk_games.specs.Defend.{DefendReports}
use Rattle.desk_games.specs.Play.{LacksAtFirst, PlayReports}
use Rattle.desk_games.specs.Resume.{LacksBefore}
use Rattle.desk_files.proofs.Shelves.{files_of}
use Rattle.desk_solve.specs.Decide.{DecideReports}
use Rattle.desk_solve.specs.First.{FirstReports, HasNoFirstMove}
use Rattle.desk_solve.specs.Least.{LeastReports}
use Rattle.desk_verdict.specs.Verdict.{HasNothingToPlay}
use Rattle.desk_args.specs.Order.{IsOrderOf, Ordered, as_order}
use Rattle.desk_args.specs.declared.order.Order.TheVariants.{Decide, Least, First, Describe, Play, Defend, Show}
use Rattle.desk_args.specs.declared.order.TextOrder.{TextOrder}
use Rattle.mate_desk.specs.Show.{ShowReports}
use Rattle.mate_desk.proofs.Reporting.{fault_ends, keep_ends, refused_ends, text_ends, unsound_ends}
use Rattle.mate_desk.proofs.Rows.{text_order}
use Rattle.mate_desk.proofs.TextRuns.{replies_end}
use Rattle.mate_desk.proofs.desk.answer.Goals as goal

pub returns-in-Err-Fault-clause-ends : goal.returns-in-Err-Fault-clause-ends
returns-in-Err-Fault-clause-ends g c = λ words o.
    fault_ends words _ _ refl (as_order c.args.order) o.ordered (text_order c.args.order words).refuses _
    (rw c.in-Err-Fault.field-0-is at c.in-Err-Fault.ensures.reads)
    (c.in-Err-Fault.ensures.failed (search rules))
    c.refuse.ensures.written

pub returns-in-Err-Refused-clause-ends : goal.returns-in-Err-Refused-clause-ends
returns-in-Err-Refused-clause-ends g c = λ words o.
    refused_ends words _ _ refl (as_order c.args.order) o.ordered (text_order c.args.order words).refuses _ c.in-Err-Refused.number c.in-Err-Refused.why
    (rw c.in-Err-Refused.field-0-is at c.in-Err-Refused.ensures.reads)
    (rw (c.as_slice.ensures, c.refusal_line-line.ensures, c.in-Err-Refused.field-0-is) at c.refuse-in-Err-Refused.ensures.written)

pub returns-in-Err-clause-ends : goal.returns-in-Err-clause-ends
returns-in-Err-clause-ends g c = λ words o.
    unsound_ends words _ _ refl (as_order c.args.order) o.ordered (text_order c.args.order words).refuses _ _ c.in-Ok.ensures.reads c.in-Err.ensures.reason
    (rw (c.as_slice-in-Err.ensures, c.unsound_line-line.ensures) at c.refuse-in-Err.ensures.written)

pub returns-in-Decide-clause-ends : goal.returns-in-Decide-clause-ends
returns-in-Decide-clause-ends g c = λ words o.
    let IsOrdered : TextOrder → Type 0 = λ x. Ordered words (Ok (as_order x)) in
    text_ends words _ _ refl _ c.in-Ok.problem c.in-Ok.ensures.reads (c.in_default.ensures.ok.0 refl) c.decide.result (Decide c.in-Decide.moves c.in-Decide.budget) (subst IsOrdered c.in-Decide.is o.ordered)
    (DecideReports c.in-Decide.moves c.in-Decide.budget) (λ problem. ¬ HasNothingToPlay c.in-Decide.moves problem) (λ bytes files report right. right) (λ taken some. some) (rw c.task.ensures at c.decide.ensures.ends)

pub returns-in-Least-clause-ends : goal.returns-in-Least-clause-ends
returns-in-Least-clause-ends g c = λ words o.
    let IsOrdered : TextOrder → Type 0 = λ x. Ordered words (Ok (as_order x)) in
    text_ends words _ _ refl _ c.in-Ok.problem c.in-Ok.ensures.reads (c.in_default.ensures.ok.0 refl) c.least.result (Least c.in-Least.limit c.in-Least.budget) (subst IsOrdered c.in-Least.is o.ordered)
    (LeastReports c.in-Least.limit c.in-Least.budget) (λ problem. ¬ HasNothingToPlay c.in-Least.limit problem) (λ bytes files report right. right) (λ taken some. some) (rw c.task-in-Least.ensures at c.least.ensures.ends)

pub returns-in-First-clause-ends : goal.returns-in-First-clause-ends
returns-in-First-clause-ends g c = λ words o.
    let IsOrdered : TextOrder → Type 0 = λ x. Ordered words (Ok (as_order x)) in
    text_ends words _ _ refl _ c.in-Ok.problem c.in-Ok.ensures.reads (c.in_default.ensures.ok.0 refl) c.first.result (First c.in-First.moves c.in-First.budget) (subst IsOrdered c.in-First.is o.ordered)
    (FirstReports c.in-First.moves c.in-First.budget) (λ problem. ¬ HasNoFirstMove c.in-First.moves problem) (λ bytes files report right. right) (λ taken some. some) (rw c.task-in-First.ensures at c.first.ensures.ends)

pub returns-in-Describe-clause-ends : goal.returns-in-Describe-clause-ends
returns-in-Describe-clause-ends g c = λ words o.
    let IsOrdered : TextOrder → Type 0 = λ x. Ordered words (Ok (as_order x)) in
    text_ends words _ _ refl _ c.in-Ok.problem c.in-Ok.ensures.reads (c.in_default.ensures.ok.0 refl) c.describe.result (Describe c.in-Describe.moves c.in-Describe.budget) (subst IsOrdered c.in-Describe.is o.ordered)
    (DescribeReports c.in-Describe.moves c.in-Describe.budget) (λ problem. ¬ HasNoFirstMove c.in-Describe.moves problem) (λ bytes files report right. right) (λ taken some. some) (rw c.task-in-Describe.ensures at c.describe.ensures.ends)

pub returns-in-Show-clause-ends : goal.returns-in-Show-clause-ends
returns-in-Show-clause-ends g c = λ words o.
    let IsOrdered : TextOrder → Type 0 = λ x. Ordered words (Ok (as_order x)) in
    text_ends words _ _ refl _ c.in-Ok.problem c.in-Ok.ensures.reads (c.in_default.ensures.ok.0 refl) c.show.result Show (subst IsOrdered c.in-Show.is o.ordered)
    (λ problem. ShowReports problem) (λ problem. Unit {0}) (λ bytes files report right. right) (λ taken some. some) c.show.ensures.ends

pub returns-in-Play-clause-ends : goal.returns-in-Play-clause-ends
returns-in-Play-clause-ends g c = λ words o.
    let IsOrdered : TextOrder → Type 0 = λ x. Ordered words (Ok (as_order x)) in
    let source = g.S.Source in
    replies_end words _ _ refl (Play c.in-Play.moves c.in-Play.budget) (subst IsOrdered c.in-Play.is o.ordered)
    (λ problem rest. PlayReports c.in-Play.moves c.in-Play.budget problem rest) (λ problem. ¬ HasNothingToPlay c.in-Play.moves problem)
    (λ bytes files report right. right) (λ taken some. some) _ _ (source.left c.read_problem.new.source)
    (source.faults c.read_problem.new.source) c.in-Ok.ensures.never_falls
    c.in-Ok.problem c.in-Ok.ensures.reads (c.in_default.ensures.ok.0 refl) c.play.result (LacksAtFirst c.in-Play.moves c.in-Ok.problem)
    (λ bytes lack. (lack.some, lack.none)) (rw c.task-task.ensures at (c.play.ensures.ends (files_of (g.H.Shelf.files c.args.shelf.now))))

pub returns-in-Defend-clause-ends : goal.returns-in-Defend-clause-ends
returns-in-Defend-clause-ends g c = λ words o.
    let IsOrdered : TextOrder → Type 0 = λ x. Ordered words (Ok (as_order x)) in
    let source = g.S.Source in
    replies_end words _ _ refl (Defend c.in-Defend.moves c.in-Defend.budget) (subst IsOrdered c.in-Defend.is o.ordered)
    (λ problem rest. DefendReports c.in-Defend.moves c.in-Defend.budget problem rest) (λ problem. Unit {0})
    (λ bytes files report right. right) (λ taken some. some) _ _ (source.left c.read_problem.new.source)
    (source.faults c.read_problem.new.source) c.in-Ok.ensures.never_falls
    c.in-Ok.problem c.in-Ok.ensures.reads (c.in_default.ensures.ok.0 refl) c.defend.result LacksBefore
    (λ bytes lack. (tt, lack)) (rw c.task-task-in-Defend.ensures at (c.defend.ensures.ends (files_of (g.H.Shelf.files c.args.shelf.now))))

pub returns-in-Keep-clause-ends : goal.returns-in-Keep-clause-ends
returns-in-Keep-clause-ends g c = λ words o.
    let Is : TextOrder → Type 0 = λ x. IsOrderOf x words in
    let keeps = subst Is c.in-Keep.is o in
    keep_ends words _ _ _ c.in-Ok.problem c.in-Ok.ensures.reads (c.in_default.ensures.ok.0 refl) c.keep.result c.in-Keep.moves c.in-Keep.budget c.in-Keep.name.now
    keeps.ordered keeps.named (rw c.task-in-Keep.ensures at c.keep.ensures.ends)
