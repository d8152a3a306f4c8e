use Rattle.auto_search.proofs.Hits.{suits}
use Rattle.auto_search.proofs.Openings.{hits-counted}
use Rattle.auto_search.proofs.search.Search.count_on_ray.Goals as goal

pub invariant_of-course : goal.invariant_of-course
invariant_of-course c = record {
  suits =
      suits c.args.a.now c.tracks.ensures.valid c.requires.decides c.bits_spell_their_integers.ensures c.repeating_first_letter_keeps_values.ensures c.words_of_equal_values_are_equal.ensures
      c.args.way.now 1 c.new-ray.result c.requires.way c.new-ray.ensures c.requires.count;
}

pub returns-clause-few : goal.returns-clause-few
returns-clause-few c =
    hits-counted c.args.a.now c.tracks.ensures.valid c.requires.decides c.bits_spell_their_integers.ensures c.repeating_first_letter_keeps_values.ensures c.words_of_equal_values_are_equal.ensures
    c.args.way.now c.new-ray.result c.requires.way c.new-ray.ensures c.requires.count
    (suits c.args.a.now c.tracks.ensures.valid c.requires.decides c.bits_spell_their_integers.ensures c.repeating_first_letter_keeps_values.ensures
    c.words_of_equal_values_are_equal.ensures c.args.way.now 1 c.new-ray.result c.requires.way c.new-ray.ensures c.requires.count)
    c.count.result c.count.ensures.few
