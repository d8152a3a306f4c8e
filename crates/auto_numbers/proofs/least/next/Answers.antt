use Rattle.auto_numbers.proofs.Sides.{next-found}
use Rattle.auto_numbers.proofs.least.next.Goals as goal

pub returns : goal.returns
returns c =
    let outlook = c.args.outlook.now in
    next-found outlook.auto.now c.tracks.ensures.valid outlook.one c.requires.decides
    c.bits_spell_their_integers.ensures c.repeating_first_letter_keeps_values.ensures c.words_of_equal_values_are_equal.ensures
    outlook.flag c.args.low c.least-found.result (rw c.first_of.ensures.state at c.least-found.ensures)
