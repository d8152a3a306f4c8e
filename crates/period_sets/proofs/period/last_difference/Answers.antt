use Rattle.std.proofs.Common.{arith}
use Rattle.auto_numbers.specs.Numbers.{Has}
use Rattle.period_sets.specs.Finding.{IsDifference}
use Rattle.period_sets.proofs.Differences.{compilable, eight-steps, one-track, has-difference, difference-has, greatest-same}
use Rattle.period_sets.proofs.period.last_difference.Goals as goal

pub compile-requires-clause-compilable : goal.compile-requires-clause-compilable
compile-requires-clause-compilable c =
    rw (c.in_ok-f.ensures, c.requires.sets) (compilable c.args.a.now c.args.period c.requires.period c.requires.reduced c.requires.decides c.requires.tracks)

pub compile-requires-clause-few_steps : goal.compile-requires-clause-few_steps
compile-requires-clause-few_steps c = rw c.in_ok-f.ensures (let e = eight-steps c.args.period in omega (arith, e))

pub greatest_of-requires-clause-one : goal.greatest_of-requires-clause-one
greatest_of-requires-clause-one c =
    one-track c.args.a.now c.args.period c.in_ok-differences.differences c.tracks.ensures.valid c.in_ok-differences.ensures.integers
    (rw (c.in_ok-f.ensures, c.requires.sets) at c.in_ok-differences.ensures.decides)
    c.bits_spell_their_integers.ensures c.repeating_first_letter_keeps_values.ensures c.words_of_equal_values_are_equal.ensures

pub returns-clause-last : goal.returns-clause-last
returns-clause-last c =
    let a = c.args.a.now in
    let d = c.in_ok-differences.differences in
    let decides = rw (c.in_ok-f.ensures, c.requires.sets) at c.in_ok-differences.ensures.decides in
    greatest-same (Has d) (IsDifference (Has a) c.args.period)
    (has-difference a c.args.period d c.tracks.ensures.valid c.in_ok-differences.ensures.integers decides
    c.bits_spell_their_integers.ensures c.repeating_first_letter_keeps_values.ensures c.words_of_equal_values_are_equal.ensures)
    (difference-has a c.args.period d c.tracks.ensures.valid c.in_ok-differences.ensures.integers decides
    c.bits_spell_their_integers.ensures c.repeating_first_letter_keeps_values.ensures c.words_of_equal_values_are_equal.ensures)
    c.in_ok-greatest.greatest c.in_ok-greatest.ensures

pub returns-clause-within : goal.returns-clause-within
returns-clause-within c = rw (c.in_ok-f.ensures, c.requires.sets) at c.in_ok-differences.ensures.within
