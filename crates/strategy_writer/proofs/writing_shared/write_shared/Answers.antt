use Rattle.std.proofs.Common.{◌+◌, ◌++◌, ◌∙◌, ℕ, List, ap, subst, arith}
use Rattle.strategy_writer.specs.KeptClaims.{as_claim}
use Rattle.strategy_writer.specs.SharedWritten.{AddsSharedSets, HasSharedLengths}
use Rattle.strategy_writer.specs.Written.{start_bytes}
use Rattle.strategy_file.specs.declared.version.Version.TheVariants.{Shared}
use Rattle.strategy_writer.proofs.SharedWriting.{as_counted, few_each, shared_file, shared_size}
use Rattle.strategy_writer.proofs.writing_shared.write_shared.Goals as goal

pub returns-then-length-clause-refused : goal.returns-then-length-clause-refused
returns-then-length-clause-refused c =
    let claim = as_claim c.args.claim.now in
    let sets : HasSharedLengths claim.sets c.in_ok-sets.sets = rw c.as_slice.ensures.value at c.in_ok-sets.ensures.length in
    let past = c.if-length.true in
    (shared_size claim c.men_length.result c.in_ok-sets.sets c.men_length.ensures.length sets, omega (arith, past))

pub push_shared_sets-requires : goal.push_shared_sets-requires
push_shared_sets-requires c =
    let claim = as_claim c.args.claim.now in
    let sets : HasSharedLengths claim.sets c.in_ok-sets.sets = rw c.as_slice.ensures.value at c.in_ok-sets.ensures.length in
    let size = sets.size_is in
    let within = c.if-length.false in
    rw c.as_slice-2.ensures.value (few_each c.args.claim.now.sets.items sets.tables sets.are (omega (arith, size, within)))

pub returns-clause-written : goal.returns-clause-written
returns-clause-written c =
    let claim = as_claim c.args.claim.now in
    let start = start_bytes Shared claim.winner claim.position claim.moves in
    let old = c.in_ok-push_start.ensures ∙ ap (λ (o : List ℕ). o ++ start) c.in_ok-out.ensures.items in
    let adds : AddsSharedSets claim.sets c.push_start.new.out.items c.push_shared_sets.new.out.items = rw c.as_slice-2.ensures.value at c.in_ok-push_shared_sets.ensures in
    shared_file claim c.push_shared_sets.new.out.items (subst (λ (o : List ℕ). AddsSharedSets claim.sets o c.push_shared_sets.new.out.items) old adds)

pub returns-clause-small : goal.returns-clause-small
returns-clause-small c =
    let claim = as_claim c.args.claim.now in
    let start = start_bytes Shared claim.winner claim.position claim.moves in
    let old = c.in_ok-push_start.ensures ∙ ap (λ (o : List ℕ). o ++ start) c.in_ok-out.ensures.items in
    let adds : AddsSharedSets claim.sets c.push_start.new.out.items c.push_shared_sets.new.out.items = rw c.as_slice-2.ensures.value at c.in_ok-push_shared_sets.ensures in
    let file = shared_file claim c.push_shared_sets.new.out.items (subst (λ (o : List ℕ). AddsSharedSets claim.sets o c.push_shared_sets.new.out.items) old adds) in
    let sets : HasSharedLengths claim.sets c.in_ok-sets.sets = rw c.as_slice.ensures.value at c.in_ok-sets.ensures.length in
    let size = as_counted claim c.push_shared_sets.new.out.items (8 + c.men_length.result + c.in_ok-sets.sets) file (shared_size claim c.men_length.result c.in_ok-sets.sets c.men_length.ensures.length sets) in
    let within = c.if-length.false in
    omega (arith, size, within)
