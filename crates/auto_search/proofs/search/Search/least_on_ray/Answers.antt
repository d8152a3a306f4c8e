use Rattle.std.proofs.Common.{◌≤◌, arith}
use Rattle.auto_search.proofs.Hits.{suits, none-found, too-far, one-found}
use Rattle.auto_search.proofs.search.Search.least_on_ray.Goals as goal
use Rattle.auto_search.proofs.search.Search.least_on_ray.Goals.{in-None, in-Some+then-steps-far, in-Some+else-steps-far}

pub invariant_of-course : goal.invariant_of-course
invariant_of-course c = record {
  suits =
      suits c.args.a.now c.tracks.ensures.valid c.requires.decides c.bits_spell_their_integers.ensures c.repeating_first_letter_keeps_values.ensures c.words_of_equal_values_are_equal.ensures
      c.args.way.now c.args.near c.new-ray.result c.requires.way c.new-ray.ensures c.requires.count;
}

pub returns-clause-least : goal.returns-clause-least
returns-clause-least c =
    let way = c.args.way.now in
    let order : c.args.near ≤ c.args.far = let h = c.if-far-near.false in omega (arith, h) in
    elim c.match-ahead.branch [
      | in-None w ↦
          rw w.result-is
          (none-found c.args.a.now c.tracks.ensures.valid c.requires.decides c.bits_spell_their_integers.ensures
          c.repeating_first_letter_keeps_values.ensures c.words_of_equal_values_are_equal.ensures
          way c.args.near c.args.far c.new-ray.result c.requires.way c.new-ray.ensures c.requires.count w.in-None.ensures.found.front
          w.in-None.ensures.found.start order w.in-None.ensures.found.found_ahead)
      | in-Some+then-steps-far w ↦
          rw w.result-is
          (one-found c.args.a.now c.tracks.ensures.valid c.requires.decides c.bits_spell_their_integers.ensures
          c.repeating_first_letter_keeps_values.ensures c.words_of_equal_values_are_equal.ensures
          way c.args.near c.args.far c.new-ray.result c.requires.way c.new-ray.ensures c.requires.count w.in-Some.ensures.found.front
          w.in-Some.ensures.found.start order w.in-Some.steps w.if-steps-far.true w.in-Some.ensures.found.found_ahead)
      | in-Some+else-steps-far w ↦
          rw w.result-is
          (too-far c.args.a.now c.tracks.ensures.valid c.requires.decides c.bits_spell_their_integers.ensures
          c.repeating_first_letter_keeps_values.ensures c.words_of_equal_values_are_equal.ensures
          way c.args.near c.args.far c.new-ray.result c.requires.way c.new-ray.ensures c.requires.count w.in-Some.ensures.found.front
          w.in-Some.ensures.found.start order w.in-Some.steps w.if-steps-far.false w.in-Some.ensures.found.found_ahead)
    ]
