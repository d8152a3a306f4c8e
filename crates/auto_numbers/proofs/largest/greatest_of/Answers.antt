use Rattle.std.proofs.Common.{arith, sym, ◌∙◌}
use Rattle.auto_numbers.proofs.GreatestLemmas.{endless, no-number, is-far, is-greatest}
use Rattle.auto_numbers.proofs.largest.greatest_of.Goals as goal

pub returns-in-Unknown : goal.returns-in-Unknown
returns-in-Unknown c =
    let a = c.args.a.now in
    let ends = c.next_states-state.ensures in
    let high = rw c.first_of.ensures.state at ends.high in
    let is = rw c.as_slice.ensures.value at (sym c.length_at.ensures ∙ c.in-Unknown.is) in
    endless a c.tracks.ensures.valid c.requires.one c.requires.decides c.bits_spell_their_integers.ensures c.repeating_first_letter_keeps_values.ensures
    c.words_of_equal_values_are_equal.ensures c.in_ok-lengths.ensures.are c.in_ok-lengths.ensures.settled (rw high at ends.high_within) (rw high at is)

pub returns-in-Nothing : goal.returns-in-Nothing
returns-in-Nothing c =
    let a = c.args.a.now in
    let ends = c.next_states-state.ensures in
    let high = rw c.first_of.ensures.state at ends.high in
    let is = rw c.as_slice.ensures.value at (sym c.length_at.ensures ∙ c.in-Nothing.is) in
    no-number a c.tracks.ensures.valid c.requires.one c.requires.decides c.bits_spell_their_integers.ensures c.repeating_first_letter_keeps_values.ensures
    c.words_of_equal_values_are_equal.ensures (rw high at (rw is at (c.in_ok-lengths.ensures.are.each c.next_states-state.result.1 ends.high_within)))

pub returns-in-Long : goal.returns-in-Long
returns-in-Long c =
    let a = c.args.a.now in
    let ends = c.next_states-state.ensures in
    let high = rw c.first_of.ensures.state at ends.high in
    let is = rw c.as_slice.ensures.value at (sym c.length_at.ensures ∙ c.in-Long.is) in
    is-far a c.tracks.ensures.valid c.requires.one c.requires.decides c.bits_spell_their_integers.ensures c.repeating_first_letter_keeps_values.ensures
    c.words_of_equal_values_are_equal.ensures (rw high at (rw is at (c.in_ok-lengths.ensures.are.each c.next_states-state.result.1 ends.high_within)))

pub number-requires-clause-bits : goal.number-requires-clause-bits
number-requires-clause-bits c =
    let is = rw c.as_slice.ensures.value at (sym c.length_at.ensures ∙ c.in-UpTo.is) in
    let length = rw is at (c.in_ok-lengths.ensures.are.each c.next_states-state.result.1 c.next_states-state.ensures.high_within) in
    let few = length.0 in
    omega (arith, few)

pub number-requires-clause-some : goal.number-requires-clause-some
number-requires-clause-some c =
    let is = rw c.as_slice.ensures.value at (sym c.length_at.ensures ∙ c.in-UpTo.is) in
    (rw is at (c.in_ok-lengths.ensures.are.each c.next_states-state.result.1 c.next_states-state.ensures.high_within)).1.some

pub returns : goal.returns
returns c =
    let a = c.args.a.now in
    let ends = c.next_states-state.ensures in
    let high = rw c.first_of.ensures.state at ends.high in
    let is = rw c.as_slice.ensures.value at (sym c.length_at.ensures ∙ c.in-UpTo.is) in
    let length = rw is at (c.in_ok-lengths.ensures.are.each c.next_states-state.result.1 ends.high_within) in
    is-greatest a c.tracks.ensures.valid c.requires.one c.requires.decides c.bits_spell_their_integers.ensures c.repeating_first_letter_keeps_values.ensures
    c.words_of_equal_values_are_equal.ensures c.in-UpTo.bits c.in_ok-number-in-UpTo.field-0 length.0 (rw high at length.1)
    (rw high at c.in_ok-number-in-UpTo.ensures)
