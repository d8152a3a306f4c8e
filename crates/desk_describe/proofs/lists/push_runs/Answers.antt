use Rattle.std.proofs.Common.{◌++◌, take, drop, ◌-◌, length, ap, ◌∙◌, append_assoc, arith}
use Rattle.std.specs.Prelude.{codes}
use Rattle.std.specs.List.{flat_map}
use Rattle.desk_describe.specs.Description.{run_text}
use Rattle.desk_describe.proofs.Texts.{listed_is}
use Rattle.desk_describe.proofs.lists.push_runs.Goals as goal

pub returns-after-loop-other : goal.returns-after-loop-other
returns-after-loop-other c =
    let runs = c.args.runs.now in
    let further = flat_map (λ run. codes "," ++ run_text run) (take c.loop-other.other-index (take (length runs - 1) (drop 1 runs))) in
    c.loop-other.invariant ∙ ap (λ front. front ++ further) c.in_ok-push_run-in-len1-up.ensures ∙ append_assoc c.args.text.now.items _ further
    ∙ ap (λ t. c.args.text.now.items ++ t) (listed_is run_text runs c.loop-other.other-index _ c.in-len1-up.len_at_least (omega (arith, c.loop-other-test.false)))
