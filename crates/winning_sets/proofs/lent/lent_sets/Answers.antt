use Rattle.std.proofs.Common.{◌∷◌, ◌++◌, [], get_or, None, ap, ◌∙◌, arith}
use Rattle.winning_sets.specs.Lent.{set_or}
use Rattle.winning_sets.proofs.LentLemmas.{lent_all, lent_more}
use Rattle.winning_sets.proofs.lent.lent_sets.Goals as goal

pub loop-k-preserved : goal.loop-k-preserved
loop-k-preserved c =
    let id = get_or c.args.names.now c.loop-k.k None in
    let copy = c.in_ok-copy.ensures ∙ c.lent.ensures ∙ ap (λ a. set_or c.args.sets.now a id) c.index-others-k.is in
    c.in_ok-push.ensures.items ∙ ap (λ a. c.loop-k.copies.items ++ a ∷ []) copy
    ∙ lent_more c.args.sets.now c.args.others.now c.args.names.now c.loop-k.k c.index-others-k.result None c.loop-k.copies.items c.loop-k-test.true c.requires.count c.loop-k.invariant

pub returns : goal.returns
returns c =
    c.new.ensures ∙ c.loop-k.invariant
    ∙ lent_all c.args.sets.now c.args.others.now c.args.names.now c.loop-k.k (omega arith) c.requires.count
