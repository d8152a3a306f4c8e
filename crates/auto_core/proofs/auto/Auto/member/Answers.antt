use Rattle.std.proofs.Common.{◌∙◌, ap}
use Rattle.auto_core.specs.Automaton.{is_final}
use Rattle.auto_core.proofs.Members.{member-words, member-accepted}
use Rattle.auto_core.proofs.auto.Auto.member.Goals as goal

pub returns-clause-member : goal.returns-clause-member
returns-clause-member c =
    member-accepted c.args.self.now c.args.values.now c.tracks.ensures.valid c.requires.count c.requires.decides c.state_of_values-state.ensures.fits
    c.bits_spell_their_integers.ensures c.repeating_first_letter_keeps_values.ensures c.words_of_equal_values_are_equal.ensures c.accept_of.result
    (c.accept_of.ensures ∙ ap (is_final c.args.self.now) c.state_of_values-state.ensures.state)

pub returns-clause-words : goal.returns-clause-words
returns-clause-words c =
    member-words c.args.self.now c.args.values.now c.tracks.ensures.valid c.requires.count c.requires.decides c.state_of_values-state.ensures.fits
    c.bits_spell_their_integers.ensures c.repeating_first_letter_keeps_values.ensures c.words_of_equal_values_are_equal.ensures c.accept_of.result
    (c.accept_of.ensures ∙ ap (is_final c.args.self.now) c.state_of_values-state.ensures.state)
