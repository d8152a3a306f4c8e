use Rattle.std.proofs.Common.{◌≡◌, Err, map, arith}
use Rattle.std.proofs.lemmas.List.{length-map}
use Rattle.std.proofs.lemmas.Result.{err_from_is_err_and}
use Rattle.auto_walk.specs.declared.grown.Grown.TheVariants as grown
use Rattle.auto_bool.specs.Both.{place_of_pair}
use Rattle.auto_bool.proofs.PairLemmas.{Extends-pairs}
use Rattle.auto_merged_product.proofs.NumberedPairs.{Contains-pair, NumbersSet-places, AreSeen-more, MoreThan-new}
use Rattle.auto_merged_product.proofs.PairSpots.{LeadsToOne-pair, IsReached-pair, LeadsByTrack-test}
use Rattle.auto_merged_product.proofs.pair_rows.PairRowsRowSource.look.Goals as goal

pub number_within-requires : goal.number_within-requires
number_within-requires c = let size = length-map c.args.seen.now place_of_pair in let few = c.requires.seen.few in omega (arith, size, few)

pub returns-in_err-number-in-Pair-clause-seen : goal.returns-in_err-number-in-Pair-clause-seen
returns-in_err-number-in-Pair-clause-seen c =
    AreSeen-more c.requires.seen (NumbersSet-places c.number_within.ensures.numbers) (IsReached-pair c.requires.read c.in-Pair.ensures)
    (let size = length-map c.number_within.new.pairs place_of_pair in let room = c.number_within.ensures.room in omega (arith, size, room))

pub returns-in_err-number-in-Pair-clause-kept : goal.returns-in_err-number-in-Pair-clause-kept
returns-in_err-number-in-Pair-clause-kept c = Extends-pairs c.number_within.ensures.kept

pub returns-in_err-number-in-Pair-clause-over : goal.returns-in_err-number-in-Pair-clause-over
returns-in_err-number-in-Pair-clause-over c = λ is.
    let p = err_from_is_err_and c.from_residual.result c.from_residual.ensures.1 in
    let was = c.in_err-number-in-Pair.was in
    let same : c.number_within.result ≡ Err grown.Over = cc (p.1, p.2) in
    let size = length-map c.args.seen.now place_of_pair in
    let full = c.number_within.ensures.full same in
    MoreThan-new _ c.args.self.now.budget (map place_of_pair c.args.seen.now) (place_of_pair (c.in-Pair.left, c.in-Pair.right)) c.requires.seen.are_places c.requires.seen.different (omega (arith, size, full))
    (IsReached-pair c.requires.read c.in-Pair.ensures) (λ at. c.number_within.ensures.new same (Contains-pair _ _ at))

pub returns-in_ok-number-in-Pair-clause-look : goal.returns-in_ok-number-in-Pair-clause-look
returns-in_ok-number-in-Pair-clause-look c = LeadsToOne-pair c.number_within.new.pairs c.in-Pair.ensures c.in_ok-number-in-Pair.ensures.number

pub returns-in_ok-number-in-Pair-clause-seen : goal.returns-in_ok-number-in-Pair-clause-seen
returns-in_ok-number-in-Pair-clause-seen c =
    AreSeen-more c.requires.seen (NumbersSet-places c.number_within.ensures.numbers) (IsReached-pair c.requires.read c.in-Pair.ensures)
    (let size = length-map c.number_within.new.pairs place_of_pair in let room = c.number_within.ensures.room in omega (arith, size, room))

pub returns-in_ok-number-in-Pair-clause-kept : goal.returns-in_ok-number-in-Pair-clause-kept
returns-in_ok-number-in-Pair-clause-kept c = Extends-pairs c.number_within.ensures.kept

pub returns-in-Test-clause-look : goal.returns-in-Test-clause-look
returns-in-Test-clause-look c = LeadsByTrack-test c.requires.read c.in-Test.ensures c.args.self.now.budget
